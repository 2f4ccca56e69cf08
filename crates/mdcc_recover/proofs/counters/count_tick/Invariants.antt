use Rattle.std.proofs.Common.{◌≡◌, ℕ, true, drop, fold, take}
use Rattle.std.specs.List.{list_all}
use Rattle.mdcc_def_protocol.specs.Recover.{counted_tick}
use Rattle.mdcc_recover.specs.Counters.{AreCounters, is_kept}
use Rattle.mdcc_recover.proofs.counters.count_tick.Given as goal
use Rattle.mdcc_struct.specs.Maps.{TxMap}

abbrev pub invariant-loop-entry : goal.invariant-loop-entry
invariant-loop-entry l = record {
  kept : list_all (λ e. is_kept l.counters e.0) (drop l.entry-index l.txs) ≡ true;
  counted : (m : TxMap ℕ) → AreCounters l.initial.counters m → AreCounters l.counters (fold counted_tick m (take l.entry-index l.txs));
}
