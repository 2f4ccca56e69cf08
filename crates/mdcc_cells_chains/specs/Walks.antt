-- Walks over entries that were added one by one, the newest first. The index of an entry is the number of the older ones.
use Rattle.std.specs.List.{filter}
use Rattle.std.specs.Prelude.{List, [], ◌∷◌, Option, None, Some, Bool, true, false, ℕ, ◌≡◌, ◌<◌, ◌==◌, nat_lt, if◌then◌else◌, length}

-- the indices of the entries that pass, the newest first
abbrev pub walk : {X : Type 0} → (X → Bool) → List X → List ℕ
walk passes [] = []
walk passes (x ∷ xs) = if passes x then length xs ∷ walk passes xs else walk passes xs

abbrev pub first_in : List ℕ → Option ℕ
first_in [] = None
first_in (i ∷ is) = Some i

abbrev pub last_from : ℕ → List ℕ → ℕ
last_from i [] = i
last_from i (j ∷ js) = last_from j js

abbrev pub last_in : List ℕ → Option ℕ
last_in [] = None
last_in (i ∷ is) = Some (last_from i is)

-- the first that is below a limit
abbrev pub first_below : ℕ → List ℕ → Option ℕ
first_below limit [] = None
first_below limit (i ∷ is) = if nat_lt i limit then Some i else first_below limit is

-- the entry at an index
abbrev pub entry_at : {X : Type 0} → List X → ℕ → Option X
entry_at [] i = None
entry_at (x ∷ xs) i = if i == length xs then Some x else entry_at xs i

-- so many of the entries, the oldest
abbrev pub older : {X : Type 0} → ℕ → List X → List X
older n [] = []
older n (x ∷ xs) = if nat_lt (length xs) n then x ∷ xs else older n xs

-- whether the entry at an index passes
abbrev pub has_at : {X : Type 0} → (X → Bool) → List X → ℕ → Bool
has_at passes [] i = false
has_at passes (x ∷ xs) i = if i == length xs then passes x else has_at passes xs i

-- what stands at the first index of a walk, and what comes after it
pub record IsFound {X : Type 0} (passes : X → Bool) (xs : List X) (i : ℕ) : Type 0 where
  pub entry : X
  pub within : i < length xs
  pub at : entry_at xs i ≡ Some entry
  pub passing : passes entry ≡ true
  pub filtered : filter passes xs ≡ entry ∷ filter passes (older i xs)
  pub walked : walk passes xs ≡ i ∷ walk passes (older i xs)
