use Rattle.std.proofs.Common.{refl}
use Rattle.mdcc_command.proofs.Printed.{printed}
use Rattle.mdcc_command.proofs.command.run_command.Goals as goal

pub returns-in-Some-Replay-clause-prints : goal.returns-in-Some-Replay-clause-prints
returns-in-Some-Replay-clause-prints g c = λ _.
    printed (g.S.Source.left c.args.source.now) c.run_replay.result (g.O.Sink.held c.args.out.now) (g.O.Sink.held c.run_replay.new.out)
    (λ h. absurd (c.run_replay.ensures.words h)) c.run_replay.ensures.refused c.run_replay.ensures.nothing c.run_replay.ensures.front c.run_replay.ensures.whole
    (λ input. c.headline.ensures.replays input)

pub returns-in-Some-Node-clause-refused_untouched : goal.returns-in-Some-Node-clause-refused_untouched
returns-in-Some-Node-clause-refused_untouched g c = λ at. let un = c.run_node.ensures.refused at in record { disks = un.disks; link = un.link }

pub returns-in-Some-Node-clause-unread_untouched : goal.returns-in-Some-Node-clause-unread_untouched
returns-in-Some-Node-clause-unread_untouched g c = λ at. let un = c.run_node.ensures.unread at in record { disks = un.disks; link = un.link }

pub returns-in-Some-Cluster-clause-refused_untouched : goal.returns-in-Some-Cluster-clause-refused_untouched
returns-in-Some-Cluster-clause-refused_untouched g c = λ at. let un = c.run_cluster.ensures.refused at in record { disks = un.disks; link = un.link }

pub returns-in-Some-Cluster-clause-unread_untouched : goal.returns-in-Some-Cluster-clause-unread_untouched
returns-in-Some-Cluster-clause-unread_untouched g c = λ at. let un = c.run_cluster.ensures.unread at in record { disks = un.disks; link = un.link }

pub returns-in-Some-Ask-clause-refused_untouched : goal.returns-in-Some-Ask-clause-refused_untouched
returns-in-Some-Ask-clause-refused_untouched g c = λ at. let un = c.run_ask.ensures.refused at in record { disks = refl; link = un.link }

pub returns-in-Some-Ask-clause-unread_untouched : goal.returns-in-Some-Ask-clause-unread_untouched
returns-in-Some-Ask-clause-unread_untouched g c = λ at. let un = c.run_ask.ensures.unread at in record { disks = refl; link = un.link }

pub returns-in-Some-Dump-clause-refused_untouched : goal.returns-in-Some-Dump-clause-refused_untouched
returns-in-Some-Dump-clause-refused_untouched g c = λ at. let un = c.run_dump.ensures.refused at in record { disks = un.disks; link = refl }

pub returns-in-Some-Dump-clause-unread_untouched : goal.returns-in-Some-Dump-clause-unread_untouched
returns-in-Some-Dump-clause-unread_untouched g c = λ at. let un = c.run_dump.ensures.unread at in record { disks = un.disks; link = refl }

pub returns-in-Some-Audit-clause-refused_untouched : goal.returns-in-Some-Audit-clause-refused_untouched
returns-in-Some-Audit-clause-refused_untouched g c = λ at. let un = c.run_audit.ensures.refused at in record { disks = un.disks; link = refl }

pub returns-in-Some-Audit-clause-unread_untouched : goal.returns-in-Some-Audit-clause-unread_untouched
returns-in-Some-Audit-clause-unread_untouched g c = λ at. let un = c.run_audit.ensures.unread at in record { disks = un.disks; link = refl }
