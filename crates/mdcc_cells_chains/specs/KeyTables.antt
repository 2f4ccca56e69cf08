-- Keys that have one index each.
use Rattle.std.specs.Prelude.{◌≡◌, ℕ, List, [], ◌∷◌, Option, None, is_some, unwrap_or, if◌then◌else◌, length, ⊤}
use Rattle.mdcc_base.specs.Key.{key_eq}
use Rattle.mdcc_cells_chains.specs.Walks.{walk, first_in}

-- the index of a key
abbrev pub index_of : List (List ℕ) → List ℕ → Option ℕ
index_of keys key = first_in (walk (key_eq key) keys)

-- its index once it is among them
abbrev pub index_then : List (List ℕ) → List ℕ → ℕ
index_then keys key = unwrap_or (index_of keys key) (length keys)

-- the keys with one more, unless it is among them
abbrev pub with_key : List (List ℕ) → List ℕ → List (List ℕ)
with_key keys key = if is_some (index_of keys key) then keys else key ∷ keys

-- no key is among the older ones
abbrev pub AreDistinct : List (List ℕ) → Type 0
AreDistinct [] = ⊤
AreDistinct (k ∷ ks) = (index_of ks k ≡ None) × AreDistinct ks
