-- What a list gives from a place on is what its element there gives, and what it gives from the next place on.
use Rattle.std.proofs.Common.{◌≡◌, ℕ, ◌+◌, List, ◌++◌, Some, drop, refl, sym, ap, ◌∙◌, append_assoc}
use Rattle.std.specs.Prelude.{slice_get}
use Rattle.std.specs.List.{flat_map}
use Rattle.mdcc_base.specs.Counts.{sum_over}
use Rattle.mdcc_struct.proofs.Walks.{drop-get}

pub sum_over-drop : {X : Type 0} (size : X → ℕ) (xs : List X) (i : ℕ) (x : X) → slice_get xs i ≡ Some x
    → sum_over size (drop i xs) ≡ size x + sum_over size (drop (i + 1) xs)
sum_over-drop size xs i x at = rw (drop-get xs i x at) refl

pub flat_map-drop : {X Y : Type 0} (f : X → List Y) (xs : List X) (i : ℕ) (x : X) → slice_get xs i ≡ Some x
    → flat_map f (drop i xs) ≡ f x ++ flat_map f (drop (i + 1) xs)
flat_map-drop f xs i x at = rw (drop-get xs i x at) refl

-- what was written before, then an element, then what is still written
pub goes_on : (new old element rest left whole : List ℕ) → new ≡ old ++ element → left ≡ element ++ rest → old ++ left ≡ whole → new ++ rest ≡ whole
goes_on new old element rest left whole pushed here so_far =
    rw pushed (append_assoc old element rest ∙ ap (λ ys. old ++ ys) (sym here) ∙ so_far)
