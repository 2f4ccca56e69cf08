use Rattle.std.proofs.Common.{arith, fold, subst}
use Rattle.std.proofs.lemmas.List.{take_all}
use Rattle.mdcc_def_protocol.specs.Recover.{counted_tick}
use Rattle.mdcc_recover.proofs.Counted.{all-rest, counted-more, counted-next}
use Rattle.mdcc_recover.proofs.counters.count_tick.Goals as goal
use Rattle.mdcc_recover.specs.Counters.{AreCounters, is_kept}

pub loop-entry-preserved : goal.loop-entry-preserved
loop-entry-preserved c =
    let txs = c.args.txs.now in
    let i = c.loop-entry.entry-index in
    let entry = c.entry-item.result in
    record {
      kept = all-rest (λ e. is_kept c.loop-entry.counters e.0) (λ e. is_kept c.count.new.counters e.0) txs i entry c.loop-entry-test.true (λ e kept. c.count.ensures.kept e.0 kept) c.loop-entry.invariant.kept;
      counted = λ m are.
          counted-more c.count.new.counters m txs i entry c.loop-entry-test.true c.entry-item.is
          (counted-next c.loop-entry.counters c.count.new.counters _ entry (c.loop-entry.invariant.counted m are) c.count.ensures.counted);
    }

pub returns : goal.returns
returns c m are =
    subst (λ txs. AreCounters c.loop-entry.counters (fold counted_tick m txs))
    (take_all c.loop-entry.entry-index c.args.txs.now (omega (arith, c.loop-entry-test.false))) (c.loop-entry.invariant.counted m are)
