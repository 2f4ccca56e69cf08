use Rattle.std.proofs.Common.{◌-◌}
use Rattle.mdcc_world_logs.specs.Nodes.{AreStarted}
use Rattle.mdcc_world_logs.specs.Starting.{AreBegun}
use Rattle.mdcc_world_logs.proofs.booting.boot_all.Given as goal

abbrev pub invariant-loop-number : goal.invariant-loop-number
invariant-loop-number l = record {
  started : AreStarted l.nodes.items l.cluster (l.number - 1);
  begun : AreBegun l.logs l.cluster.quorums.centres (l.number - 1);
}
