-- Lists of at most 64.
use Rattle.std.specs.Prelude.{Bool, List, None, Option, Some, if◌then◌else◌, length, nat_le}

abbrev pub is_few : {X : Type 0} → List X → Bool
is_few xs = nat_le (length xs) 64

-- the list, where it has at most 64
abbrev pub if_few : {X : Type 0} → List X → Option (List X)
if_few xs = if is_few xs then Some xs else None
