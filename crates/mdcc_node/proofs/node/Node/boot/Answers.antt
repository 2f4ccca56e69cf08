use Rattle.std.proofs.Common.{rules, refl}
use Rattle.mdcc_node.proofs.node.Node.boot.Goals as goal

pub returns-in_ok-recover-in-Ok-clause-boots : goal.returns-in_ok-recover-in-Ok-clause-boots
returns-in_ok-recover-in-Ok-clause-boots g c total held =
    let booted = c.in-Ok.ensures total held in (
      booted.0,
      booted.1,
      record {
        of = refl;
        at = refl;
        among = c.requires.among;
        store = booted.2.list;
        manager = c.in_ok-manager-in-Ok.ensures c.args.cluster.quorums (search rules);
        leader = c.in_ok-leader-in-Ok.ensures c.args.cluster.quorums (search rules);
        recovery = c.in_ok-recover-in-Ok.ensures c.args.cluster.quorums (search rules);
      },
      booted.2,
    )
