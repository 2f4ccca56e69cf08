use Rattle.std.proofs.Common.{ℕ, List, length, ◌+◌, ◌<◌, arith, ap, ◌∙◌, sym}
use Rattle.std.proofs.lemmas.Result.{err_from_is_err_and}
use Rattle.mdcc_check_histories.specs.Grammar.{tx_above}
use Rattle.mdcc_check_histories.proofs.SeenParts.{tx_read, tx_refused, tx_too_many}
use Rattle.mdcc_check_histories.proofs.words.txs_of.Goals as goal

pub returns-then-len-ge-MOST_SEEN-clause-value : goal.returns-then-len-ge-MOST_SEEN-clause-value
returns-then-len-ge-MOST_SEEN-clause-value c =
    rw c.refused.ensures (tx_too_many _ c.loop-at.seen c.loop-at.last c.loop-at.at c.args.column c.args.word.now c.loop-at-test.true c.loop-at.invariant.same
    (omega (arith, c.len.ensures.fits, c.len.ensures.value, c.if-len-ge-MOST_SEEN.true)))

pub returns-in_err-tx-clause-value : goal.returns-in_err-tx-clause-value
returns-in_err-tx-clause-value c =
    let p = err_from_is_err_and c.from_residual.result c.from_residual.ensures.1 in
    let few : length c.loop-at.seen < 64 = omega (arith, c.len.ensures.value, c.if-len-ge-MOST_SEEN.false) in
    let read = ap (λ (part : List ℕ). tx_above c.loop-at.last part (c.loop-at.at + c.args.column)) (sym c.part_at-part.ensures.part) ∙ sym c.tx_above.ensures.value ∙ c.in_err-tx.was in
    rw (p.1, p.2) (tx_refused _ c.loop-at.seen c.loop-at.last c.loop-at.at c.args.column c.args.word.now c.loop-at-test.true c.loop-at.invariant.same c.in_err-tx.field-0.0 few read)

pub loop-at-preserved : goal.loop-at-preserved
loop-at-preserved c =
    let few : length c.loop-at.seen < 64 = omega (arith, c.len.ensures.value, c.if-len-ge-MOST_SEEN.false) in
    let read = ap (λ (part : List ℕ). tx_above c.loop-at.last part (c.loop-at.at + c.args.column)) (sym c.part_at-part.ensures.part) ∙ sym c.tx_above.ensures.value ∙ c.in_ok-tx.was in
    record {
      same = rw (c.push.ensures, c.part_at-part.ensures.part)
          (tx_read _ c.loop-at.seen c.loop-at.last c.loop-at.at c.args.column c.args.word.now c.loop-at-test.true c.loop-at.invariant.same c.in_ok-tx.tx few read);
      place = omega (arith, c.part_at-part.ensures.within);
    }
