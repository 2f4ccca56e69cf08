-- Words on lists.
use Rattle.std.specs.Prelude.{Bool, List, [], ℕ, ⊤, ◌∷◌, ◌≡◌, ◌⊎◌}
use Rattle.mdcc_base.specs.Counts.{number_of}

abbrev pub In : {A : Type 0} → A → List A → Type 0
In x [] = ⊥
In x (y ∷ ys) = (x ≡ y) ⊎ In x ys

abbrev pub Each : {A : Type 0} → (A → Type 0) → List A → Type 0
Each P [] = ⊤
Each P (x ∷ xs) = P x × Each P xs

abbrev pub count_where : {A : Type 0} → (A → Bool) → List A → ℕ
count_where p xs = number_of p xs

-- the list is what another one was before its last entries came
abbrev pub IsTail : {A : Type 0} → List A → List A → Type 0
IsTail old [] = old ≡ []
IsTail old (e ∷ es) = (old ≡ e ∷ es) ⊎ IsTail old es
