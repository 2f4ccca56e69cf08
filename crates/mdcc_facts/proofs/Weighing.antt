-- Counts that are capped entry by entry are the capped counts.
use Rattle.std.proofs.Common.{◌≡◌, ℕ, ◌+◌, ◌-◌, ◌^◌, min, ◌∷◌, [], length, ap, ◌∙◌, arith, inl, inr, fold, add-zero, zero-add, refl}
use Rattle.std.specs.Prelude.{not}
use Rattle.std.proofs.lemmas.Bool.{cases_Bool}
use Rattle.mdcc_base.specs.declared.identifiers.TxId.{TxId}
use Rattle.mdcc_option.specs.declared.choices.Mark.{Mark}
use Rattle.mdcc_struct.specs.declared.options.Options.{Options}
use Rattle.mdcc_def_protocol.specs.Marks.{accepts_in, is_accept, rejects_in}
use Rattle.mdcc_escrow.proofs.Weighing.{bit, counted-capped}
use Rattle.mdcc_facts.specs.Weights.{with_mark}

lengths : (e : TxId × Mark) (es : Options) (a r : ℕ)
    → ◌≡◌ {A = ℕ × ℕ} (a + bit (is_accept e.1) + length (accepts_in es), r + bit (not (is_accept e.1)) + length (rejects_in es))
    (a + length (accepts_in (e ∷ es)), r + length (rejects_in (e ∷ es)))
lengths e es a r =
    elim (cases_Bool (is_accept e.1)) [
      | inl accepts ↦ rw accepts (grind arith)
      | inr rejects ↦ rw rejects (grind arith)
    ]

marks_from : (m : Options) (a r : ℕ)
    → fold with_mark (min a (2 ^ 32 - 1), min r (2 ^ 32 - 1)) m ≡ (min (a + length (accepts_in m)) (2 ^ 32 - 1), min (r + length (rejects_in m)) (2 ^ 32 - 1))
marks_from [] a r = rw (add-zero a, add-zero r) refl
marks_from (e ∷ es) a r =
    let ih = marks_from es (a + bit (is_accept e.1)) (r + bit (not (is_accept e.1))) in
    let step : with_mark (min a (2 ^ 32 - 1), min r (2 ^ 32 - 1)) e ≡ (min (a + bit (is_accept e.1)) (2 ^ 32 - 1), min (r + bit (not (is_accept e.1))) (2 ^ 32 - 1)) =
    rw (counted-capped (is_accept e.1) a, counted-capped (not (is_accept e.1)) r) refl in
    ap (λ counts. fold with_mark counts es) step ∙ ih ∙ ap (λ pair. (min pair.0 (2 ^ 32 - 1), min pair.1 (2 ^ 32 - 1))) (lengths e es a r)

pub marks_counted : (m : Options) → fold with_mark (0, 0) m ≡ (min (length (accepts_in m)) (2 ^ 32 - 1), min (length (rejects_in m)) (2 ^ 32 - 1))
marks_counted m = marks_from m 0 0 ∙ rw (zero-add (length (accepts_in m)), zero-add (length (rejects_in m))) refl
