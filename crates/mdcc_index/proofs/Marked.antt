-- Marks by their places, and lists by theirs.
use Rattle.std.proofs.Common.{◌≡◌, ◌++◌, ◌∷◌, ℕ, zero, suc, List, [], Option, Some, None, take, refl, ap, ◌∙◌, option_map}
use Rattle.std.specs.Option.{option_and_then}
use Rattle.std.specs.Prelude.{slice_get}
use Rattle.mdcc_base.specs.declared.identifiers.Ballot.{Ballot}
use Rattle.mdcc_base.specs.declared.identifiers.TxId.{TxId}
use Rattle.mdcc_option.specs.declared.choices.Mark.{Mark}
use Rattle.mdcc_theorem_fact_folds.specs.Votes.{marks_further}

module _ (next : Option TxId → Option (Ballot × TxId × Mark)) where
  some-found : (found : Option (Ballot × TxId × Mark)) (less : ℕ) (tx : TxId) → option_map (λ mark. mark.1) found ≡ Some tx
      → option_and_then (λ mark. marks_further next (Some mark.1) less) found ≡ marks_further next (Some tx) less
  some-found None less tx is = absurd (cc)
  some-found (Some mark) less tx is = let one : mark.1 ≡ tx = cc in ap (λ t. marks_further next (Some t) less) one

  none-found : (found : Option (Ballot × TxId × Mark)) (less : ℕ) → option_map (λ mark. mark.1) found ≡ None
      → option_and_then (λ mark. marks_further next (Some mark.1) less) found ≡ None
  none-found None less is = refl
  none-found (Some mark) less is = absurd (cc)

  pub further-some : (last : Option TxId) (left less : ℕ) (tx : TxId) → left ≡ suc less → option_map (λ mark. mark.1) (next last) ≡ Some tx
      → marks_further next last left ≡ marks_further next (Some tx) less
  further-some last left less tx more is = ap (marks_further next last) more ∙ some-found (next last) less tx is

  pub further-none : (last : Option TxId) (left less : ℕ) → left ≡ suc less → option_map (λ mark. mark.1) (next last) ≡ None → marks_further next last left ≡ None
  further-none last left less more is = ap (marks_further next last) more ∙ none-found (next last) less is

-- ---- so many of a list

pub take-one : {X : Type 0} (xs : List X) (i : ℕ) (x : X) → slice_get xs i ≡ Some x → take (suc i) xs ≡ take i xs ++ x ∷ []
take-one [] i x is = absurd (cc)
take-one (y ∷ ys) zero x is = let one : y ≡ x = cc in ap (λ z. z ∷ []) one
take-one (y ∷ ys) (suc i) x is = ap (λ zs. y ∷ zs) (take-one ys i x is)

pub take-none : {X : Type 0} (xs : List X) (i : ℕ) → slice_get xs i ≡ None → take (suc i) xs ≡ take i xs
take-none [] zero is = refl
take-none [] (suc i) is = refl
take-none (y ∷ ys) zero is = absurd (cc)
take-none (y ∷ ys) (suc i) is = ap (λ zs. y ∷ zs) (take-none ys i is)
