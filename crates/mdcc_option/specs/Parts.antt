-- Parts in key order.
use Rattle.std.specs.Prelude.{◌≤◌, Bool, true, ◌&&◌, ◌||◌, false, IsTrue, if◌then◌else◌, fold, List, [], ◌∷◌, length}
use Rattle.std.specs.List.{list_any}
use Rattle.mdcc_base.specs.Key.{key_eq, key_lt}
use Rattle.mdcc_option.specs.declared.items.Part.{Part}

-- the part put before the first of a greater key
abbrev pub with_part : List Part → Part → List Part
with_part [] part = part ∷ []
with_part (p ∷ ps) part = if key_lt part.key p.key then part ∷ p ∷ ps else p ∷ with_part ps part

-- the parts in key order
abbrev pub sorted_parts : List Part → List Part
sorted_parts parts = fold with_part [] parts

-- whether two parts have one key
abbrev pub is_key_repeated : List Part → Bool
is_key_repeated [] = false
is_key_repeated (p ∷ ps) = list_any (λ q. key_eq q.key p.key) ps || is_key_repeated ps

-- each key stands before the next
abbrev pub are_parts_ascending : List Part → Bool
are_parts_ascending [] = true
are_parts_ascending (p ∷ []) = true
are_parts_ascending (p ∷ q ∷ ps) = key_lt p.key q.key && are_parts_ascending (q ∷ ps)

-- 1 to 8 parts, in key order
pub record AreParts (parts : List Part) : Type 0 where
  pub some : 1 ≤ length parts
  pub few : length parts ≤ 8
  pub ascending : IsTrue (are_parts_ascending parts)
