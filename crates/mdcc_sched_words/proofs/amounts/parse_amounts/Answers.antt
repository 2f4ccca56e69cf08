use Rattle.std.proofs.Common.{ℕ, List, length, ◌+◌, ◌<◌, arith, ap, ◌∙◌, sym}
use Rattle.std.proofs.lemmas.Result.{err_from_is_err_and}
use Rattle.mdcc_def_language.specs.Updates.{parse_amount}
use Rattle.mdcc_sched_words.proofs.AmountParts.{amount_read, amount_refused, amount_too_many}
use Rattle.mdcc_sched_words.proofs.amounts.parse_amounts.Goals as goal

pub returns-then-len-ge-MOST_AMOUNTS-clause-value : goal.returns-then-len-ge-MOST_AMOUNTS-clause-value
returns-then-len-ge-MOST_AMOUNTS-clause-value c =
    rw c.refused.ensures (amount_too_many _ c.loop-at.amounts c.loop-at.at c.args.column c.args.word.now c.loop-at-test.true c.loop-at.invariant.same
    (omega (arith, c.len.ensures.fits, c.len.ensures.value, c.if-len-ge-MOST_AMOUNTS.true)))

pub returns-in_err-amount-clause-value : goal.returns-in_err-amount-clause-value
returns-in_err-amount-clause-value c =
    let p = err_from_is_err_and c.from_residual.result c.from_residual.ensures.1 in
    let few : length c.loop-at.amounts < 4 = omega (arith, c.len.ensures.value, c.if-len-ge-MOST_AMOUNTS.false) in
    let read = ap (λ (part : List ℕ). parse_amount part (c.loop-at.at + c.args.column)) (sym c.part_at-part.ensures.part) ∙ sym c.parse_amount.ensures.value ∙ c.in_err-amount.was in
    rw (p.1, p.2) (amount_refused _ c.loop-at.amounts c.loop-at.at c.args.column c.args.word.now c.loop-at-test.true c.loop-at.invariant.same c.in_err-amount.field-0.0 few read)

pub loop-at-preserved : goal.loop-at-preserved
loop-at-preserved c =
    let few : length c.loop-at.amounts < 4 = omega (arith, c.len.ensures.value, c.if-len-ge-MOST_AMOUNTS.false) in
    let read = ap (λ (part : List ℕ). parse_amount part (c.loop-at.at + c.args.column)) (sym c.part_at-part.ensures.part) ∙ sym c.parse_amount.ensures.value ∙ c.in_ok-amount.was in
    record {
      same = rw (c.push.ensures, c.part_at-part.ensures.part)
          (amount_read _ c.loop-at.amounts c.loop-at.at c.args.column c.args.word.now c.loop-at-test.true c.loop-at.invariant.same c.in_ok-amount.amount few read);
      place = omega (arith, c.part_at-part.ensures.within);
    }
