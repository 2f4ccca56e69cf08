use Rattle.std.proofs.Common.{◌∙◌}
use Rattle.mdcc_recover.proofs.Counted.{all-more}
use Rattle.mdcc_recover.proofs.counters.keep_counters.Goals as goal
use Rattle.mdcc_recover.specs.Counters.{is_kept}

pub loop-entry-preserved : goal.loop-entry-preserved
loop-entry-preserved c = record {
  same = λ tx. c.keep_counter.ensures.same tx ∙ c.loop-entry.invariant.same tx;
  kept =
      all-more (λ e. is_kept c.loop-entry.counters e.0) _ c.args.txs.now c.loop-entry.entry-index c.entry-item.result c.loop-entry-test.true c.entry-item.is
      (λ e kept. c.keep_counter.ensures.others e.0 kept) c.loop-entry.invariant.kept c.in_ok-keep_counter.ensures.kept;
}
