use Rattle.std.proofs.Common.{◌≡◌, true, take}
use Rattle.std.specs.List.{list_all}
use Rattle.mdcc_base.specs.declared.identifiers.TxId.{TxId}
use Rattle.mdcc_recover.specs.Counters.{counter_in, is_kept}
use Rattle.mdcc_recover.proofs.counters.keep_counters.Given as goal

abbrev pub invariant-loop-entry : goal.invariant-loop-entry
invariant-loop-entry l = record {
  same : (tx : TxId) → counter_in l.counters tx ≡ counter_in l.initial.counters tx;
  kept : list_all (λ e. is_kept l.counters e.0) (take l.entry-index l.txs) ≡ true;
}
