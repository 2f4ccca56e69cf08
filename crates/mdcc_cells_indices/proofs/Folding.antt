-- A walk that folds comes by just the entries that pass, from the newest to the oldest.
use Rattle.std.proofs.Common.{◌≡◌, ◌<◌, ℕ, Bool, List, Option, Some, None, length, refl, sym, ap, ◌∙◌, arith}
use Rattle.std.specs.List.{filter, fold}
use Rattle.mdcc_cells_chains.specs.Walks.{IsFound, entry_at, first_below, first_in, older, walk}
use Rattle.mdcc_cells_chains.proofs.Filtered.{entry-older, length-older, older-all, older-older, walk-found, walk-next, walk-none}

-- what is still before it gives the whole fold
abbrev pub IsFolding : {X A : Type 0} → (A → X → A) → A → (X → Bool) → List X → Option ℕ → A → Type 0
IsFolding step start passes xs at acc =
    (left : ℕ) × (at ≡ first_in (walk passes (older left xs))) × (fold step acc (filter passes (older left xs)) ≡ fold step start (filter passes xs))

pub folding-begins : {X A : Type 0} (step : A → X → A) (start : A) (passes : X → Bool) (xs : List X) (at : Option ℕ) → at ≡ first_in (walk passes xs) → IsFolding step start passes xs at start
folding-begins step start passes xs at is =
    let all : older (length xs) xs ≡ xs = older-all (length xs) xs (omega arith) in
    (length xs, rw all is, rw all refl)

-- the entry at the next index
pub record Next {X A : Type 0} (step : A → X → A) (start : A) (passes : X → Bool) (xs : List X) (i : ℕ) (acc : A) : Type 0 where
  pub entry : X
  pub at : entry_at xs i ≡ Some entry
  pub goes : (next : Option ℕ) → next ≡ first_below i (walk passes xs) → IsFolding step start passes xs next (step acc entry)

pub folding-goes : {X A : Type 0} (step : A → X → A) (start : A) (passes : X → Bool) (xs : List X) (i : ℕ) (acc : A) → IsFolding step start passes xs (Some i) acc → Next step start passes xs i acc
folding-goes step start passes xs i acc folding =
    let here : IsFound passes (older folding.0 xs) i = walk-found passes (older folding.0 xs) i (sym folding.1) in
    let below : i < folding.0 = omega (arith, here.within, length-older folding.0 xs) in
    let rest : older i (older folding.0 xs) ≡ older i xs = older-older i folding.0 xs (omega (arith, below)) in
    record {
      entry = here.entry;
      at = sym (entry-older folding.0 xs i below) ∙ here.at;
      goes = λ next is. (
        i,
        is ∙ sym (walk-next passes i xs),
        ap (λ ys. fold step (step acc here.entry) (filter passes ys)) (sym rest) ∙ ap (fold step acc) (sym here.filtered) ∙ folding.2,
      );
    }

pub folding-ends : {X A : Type 0} (step : A → X → A) (start : A) (passes : X → Bool) (xs : List X) (acc : A) → IsFolding step start passes xs None acc → acc ≡ fold step start (filter passes xs)
folding-ends step start passes xs acc folding =
    ap (fold step acc) (sym (walk-none passes (older folding.0 xs) (sym folding.1))) ∙ folding.2
