use Rattle.std.proofs.Common.{not}
use Rattle.mdcc_base.specs.TxId.{tx_eq}
use Rattle.mdcc_manager.proofs.Kept.{filter-kept, filter-txs}
use Rattle.mdcc_manager.proofs.Numbered.{numbered-filter}
use Rattle.mdcc_def_protocol.specs.Volatile.{txs_opened}
use Rattle.mdcc_manager.proofs.manager.Manager.close.Goals as goal

pub returns : goal.returns
returns c me epoch quorums managing stands = record {
  at = stands.at;
  since = stands.since;
  last = stands.last;
  numbered = rw (← filter-txs managing.opened c.args.tx) (numbered-filter me epoch 0 managing.seq (λ t. not (tx_eq t c.args.tx)) (txs_opened managing) stands.numbered);
  names = rw (c.close_tx.ensures, stands.names) (filter-txs managing.opened c.args.tx);
  keeps = rw (c.close.ensures, stands.keeps) (filter-kept managing.opened c.args.tx);
  counts = c.forget.ensures quorums managing.votes stands.counts;
}
