use Rattle.mdcc_def_protocol.specs.Facts.{epoch_of}
use Rattle.mdcc_node.proofs.node.Node.take_refusal.Goals as goal

pub returns-clause-left : goal.returns-clause-left
returns-clause-left g c = λ cluster me facts volatile known. record {
  of = known.of;
  at = known.at;
  among = known.among;
  store = known.store;
  manager = known.manager;
  leader = c.on_refused.ensures me (epoch_of facts) cluster.quorums volatile.leader known.leader;
  recovery = known.recovery;
}
