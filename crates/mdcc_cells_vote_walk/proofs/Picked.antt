-- Gathered marks, in the order of their transactions.
use Rattle.std.proofs.Common.{◌≡◌, ℕ, suc, ◌-◌, ◌<◌, ◌≤◌, true, false, List, [], ◌∷◌, Ok, Option, Some, None, get_or, length, refl, ap, ◌∙◌, arith, inl, inr, ◌⊎◌}
use Rattle.std.specs.Option.{option_or}
use Rattle.mdcc_base.specs.declared.faults.Memory.{Memory}
use Rattle.std.specs.Prelude.{Result, if◌then◌else◌, ◌==◌}
use Rattle.std.proofs.lemmas.Bool.{cases_Bool, eqb-true, eqb-false}
use Rattle.mdcc_base.specs.TxId.{tx_eq}
use Rattle.mdcc_base.specs.declared.identifiers.TxId.{TxId}
use Rattle.mdcc_option.specs.declared.choices.Mark.{Mark}
use Rattle.mdcc_struct.specs.Fields.{mark_in}
use Rattle.mdcc_struct.specs.Maps.{TxMap, inserted, value_of}
use Rattle.mdcc_struct.specs.Options.{Marks}
use Rattle.mdcc_struct.proofs.Order.{tx_eq-same}
use Rattle.mdcc_struct.proofs.Values.{value_of-inserted}
use Rattle.mdcc_cells_vote_walk.specs.Gathered.{mark_if, mark_ranked, marks_listed, ranked}

or-none : {X : Type 0} (a : Option X) → a ≡ option_or a None
or-none None = refl
or-none (Some x) = refl

abbrev given : Marks → Result Marks Memory
given marks = Ok marks

-- two structures that were given are one
pub given-same : (a b : Marks) → given a ≡ given b → a ≡ b
given-same a b is = cc

-- ---- one mark put into a structure

pub put-one : (old gathered : Marks) (tx t : TxId) (rank : ℕ) (mark : Mark) → value_of old tx ≡ None → mark_ranked gathered rank ≡ Some mark
    → value_of (inserted old (tx, mark)) t ≡ option_or (value_of old t) (mark_if gathered t (tx, rank))
put-one old gathered tx t rank mark none some = value_of-inserted old (tx, mark) t none ∙ by (cases_Bool (tx_eq tx t))
  where
    by : (tx_eq tx t ≡ true) ⊎ (tx_eq tx t ≡ false) → (if tx_eq tx t then Some mark else value_of old t) ≡ option_or (value_of old t) (if tx_eq tx t then mark_ranked gathered rank else None)
    by (inl same) =
        let absent : value_of old t ≡ None = rw (← tx_eq-same tx t same) none in
        rw (same, absent, some) refl
    by (inr other) = rw other (or-none (value_of old t))

-- ---- marks by their ranks

ranked-past : (marks : Marks) (rank : ℕ) → length marks ≤ rank → None ≡ mark_ranked marks rank
ranked-past [] rank past = refl
ranked-past (e ∷ es) rank past =
    elim (cases_Bool (rank == length es)) [
      | inl same ↦ absurd (omega (arith, eqb-true rank (length es) same))
      | inr other ↦ rw other (ranked-past es rank (omega arith))
    ]

as_many : (accepted : List Mark) (places : TxMap ℕ) → length (marks_listed accepted places) ≡ length places
as_many accepted [] = refl
as_many accepted (p ∷ ps) = ap suc (as_many accepted ps)

pub ranked-beyond : (accepted : List Mark) (places : TxMap ℕ) (rank : ℕ) → length places ≤ rank → None ≡ mark_ranked (marks_listed accepted places) rank
ranked-beyond accepted places rank past = ranked-past (marks_listed accepted places) rank (omega (arith, as_many accepted places))

pub ranked-listed : (accepted : List Mark) (places : TxMap ℕ) → ranked (marks_listed accepted places) ≡ ranked places
ranked-listed accepted [] = refl
ranked-listed accepted (p ∷ ps) = ap (λ n. (p.0, n) ∷ ranked (marks_listed accepted ps)) (as_many accepted ps) ∙ ap (λ order. (p.0, length ps) ∷ order) (ranked-listed accepted ps)

pub ranked-there : (accepted : List Mark) (places : TxMap ℕ) (rank : ℕ) (e : TxId × ℕ) → rank < length places → e ≡ get_or places (length places - 1 - rank) e
    → Some (mark_in accepted e.1) ≡ mark_ranked (marks_listed accepted places) rank
ranked-there accepted [] rank e below is = absurd (omega arith)
ranked-there accepted (p ∷ ps) rank e below is =
    elim (cases_Bool (rank == length ps)) [
      | inl same ↦
          let first : length (p ∷ ps) - 1 - rank ≡ 0 = omega (arith, eqb-true rank (length ps) same) in
          let at : e ≡ p = is ∙ ap (λ k. get_or (p ∷ ps) k e) first in
          rw (as_many accepted ps, same) (ap (λ (q : TxId × ℕ). Some (mark_in accepted q.1)) at)
      | inr other ↦
          let later : length (p ∷ ps) - 1 - rank ≡ suc (length ps - 1 - rank) = omega (arith, eqb-false rank (length ps) other) in
          let at : e ≡ get_or ps (length ps - 1 - rank) e = is ∙ ap (λ k. get_or (p ∷ ps) k e) later in
          rw (as_many accepted ps, other) (ranked-there accepted ps rank e (omega (arith, eqb-false rank (length ps) other)) at)
    ]
