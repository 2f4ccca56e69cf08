use Rattle.mdcc_def_protocol.specs.Facts.{epoch_of}
use Rattle.mdcc_node.proofs.node.Node.close.Goals as goal

pub returns-clause-closed : goal.returns-clause-closed
returns-clause-closed g c = λ cluster me facts volatile known. record {
  of = known.of;
  at = known.at;
  among = known.among;
  store = known.store;
  manager = c.close.ensures me (epoch_of facts) cluster.quorums volatile.manager known.manager;
  leader = known.leader;
  recovery = c.close-2.ensures cluster.quorums volatile.recovery known.recovery;
}
