use Rattle.std.proofs.Common.{ℕ, List, length, ◌+◌, ◌<◌, arith, ap, ◌∙◌, sym, to_z-of_z}
use Rattle.std.proofs.lemmas.Result.{err_from_is_err_and}
use Rattle.mdcc_def_language.specs.Words.{value_of}
use Rattle.mdcc_sched_words.proofs.ValueParts.{value_read, value_refused, value_too_many}
use Rattle.mdcc_sched_words.proofs.values.values_of.Goals as goal

pub returns-then-len-ge-MOST_VALUES-clause-value : goal.returns-then-len-ge-MOST_VALUES-clause-value
returns-then-len-ge-MOST_VALUES-clause-value c =
    rw c.refused.ensures (value_too_many _ c.loop-at.values c.loop-at.at c.args.column c.args.word.now c.loop-at-test.true c.loop-at.invariant.same
    (omega (arith, c.len.ensures.fits, c.len.ensures.value, c.if-len-ge-MOST_VALUES.true)))

pub returns-in_err-value-clause-value : goal.returns-in_err-value-clause-value
returns-in_err-value-clause-value c =
    let p = err_from_is_err_and c.from_residual.result c.from_residual.ensures.1 in
    let few : length c.loop-at.values < 4 = omega (arith, c.len.ensures.value, c.if-len-ge-MOST_VALUES.false) in
    let read = ap (λ (part : List ℕ). value_of part (c.loop-at.at + c.args.column)) (sym c.part_at-part.ensures.part) ∙ sym c.value_of.ensures.value ∙ c.in_err-value.was in
    rw (p.1, p.2) (value_refused _ c.loop-at.values c.loop-at.at c.args.column c.args.word.now c.loop-at-test.true c.loop-at.invariant.same c.in_err-value.field-0.0 few read)

pub loop-at-preserved : goal.loop-at-preserved
loop-at-preserved c =
    let few : length c.loop-at.values < 4 = omega (arith, c.len.ensures.value, c.if-len-ge-MOST_VALUES.false) in
    let read = ap (λ (part : List ℕ). value_of part (c.loop-at.at + c.args.column)) (sym c.part_at-part.ensures.part) ∙ sym c.value_of.ensures.value ∙ c.in_ok-value.was in
    record {
      same = rw (c.push.ensures, to_z-of_z c.in_ok-value.ensures.fits, c.part_at-part.ensures.part)
          (value_read _ c.loop-at.values c.loop-at.at c.args.column c.args.word.now c.loop-at-test.true c.loop-at.invariant.same c.in_ok-value.value few read);
      place = omega (arith, c.part_at-part.ensures.within);
    }
