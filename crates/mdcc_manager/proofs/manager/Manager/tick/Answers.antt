use Rattle.std.proofs.Common.{sym, ◌∙◌}
use Rattle.mdcc_manager.proofs.Ticked.{acts-kept, all-ticked, txs-ticked}
use Rattle.mdcc_manager.proofs.manager.Manager.tick.Goals as goal

pub returns-clause-acts : goal.returns-clause-acts
returns-clause-acts c me epoch quorums managing stands =
    rw (c.in_ok-acts.ensures quorums managing.votes stands.counts, c.deref.ensures.value, stands.keeps) (acts-kept quorums managing.votes managing.opened)

pub returns-clause-ok : goal.returns-clause-ok
returns-clause-ok c me epoch quorums managing stands = record {
  at = stands.at;
  since = stands.since;
  last = stands.last;
  numbered = rw (txs-ticked quorums managing.votes managing.opened) stands.numbered;
  names = stands.names ∙ sym (txs-ticked quorums managing.votes managing.opened);
  keeps = rw (c.count_tick.ensures quorums managing.votes stands.counts, stands.keeps) (all-ticked quorums managing.votes managing.opened);
  counts = stands.counts;
}
