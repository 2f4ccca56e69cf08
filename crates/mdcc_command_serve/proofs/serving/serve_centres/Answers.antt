use Rattle.std.proofs.Common.{◌+◌, ◌≤◌, ◌∙◌, arith, subst, sym}
use Rattle.mdcc_base.specs.Causes.{Rose}
use Rattle.mdcc_serve.proofs.Others.{keeps_fewer, unserved_fewer}
use Rattle.mdcc_serve.specs.Others.{IsUnserved}
use Rattle.mdcc_command_serve.proofs.Refused.{says_served}
use Rattle.mdcc_command_serve.proofs.Served.{disk_served, link_served, no_input, none_early, output_served}
use Rattle.mdcc_command_serve.proofs.Untaken.{all_told, refused_served, unserved_since}
use Rattle.mdcc_command_serve.proofs.Waiting.{serves_there}
use Rattle.mdcc_command_serve.specs.Commands.{UntouchedOutside}
use Rattle.mdcc_command_serve.proofs.serving.serve_centres.Goals as goal

pub returns-clause-serves : goal.returns-clause-serves
returns-clause-serves g c = record {
  result = c.serve_cluster.result;
  is = c.as_served.ensures;
  serves = λ logs numbers are. serves_there g.D.Disks.disk g.D.Disks.may_leave g.D.Disks.tears g.L.Link.calls g.L.Link.lost g.O.Sink.held c.args.link.now c.set_wait.new.self c.set_wait.ensures.calls c.set_wait.ensures.sends
      c.args.config.now logs c.args.turns c.serve_cluster.result c.args.disks.now c.serve_cluster.new.disks c.serve_cluster.new.link c.args.out.now c.serve_cluster.new.out (c.serve_cluster.ensures.serves logs numbers are);
  logs = λ told. says_served g.D.Disks.disk c.args.config.now.cluster c.args.disks.now 1 c.args.config.now.cluster.quorums.centres told c.serve_cluster.result c.as_served.result c.as_served.ensures c.serve_cluster.ensures.logs;
  refused = refused_served g.D.Disks.disk g.D.Disks.may_leave g.D.Disks.tears g.L.Link.calls g.L.Link.lost c.args.config.now.cluster 1 (c.args.config.now.cluster.quorums.centres + 1) c.args.disks.now c.serve_cluster.new.disks c.args.link.now c.set_wait.new.self c.serve_cluster.new.link c.args.out.now c.serve_cluster.new.out
      c.set_wait.ensures.calls c.set_wait.ensures.sends _ _ c.serve_cluster.result c.as_served.result c.as_served.ensures (all_told g.D.Disks.disk c.args.config.now.cluster c.args.disks.now) c.serve_cluster.ensures.refused;
  unserved = λ lacks. unserved_since g.D.Disks.disk g.D.Disks.may_leave g.D.Disks.tears g.L.Link.calls g.L.Link.lost c.args.config.now.cluster 1 (c.args.config.now.cluster.quorums.centres + 1) c.args.disks.now c.serve_cluster.new.disks c.args.link.now c.set_wait.new.self c.serve_cluster.new.link c.args.out.now c.serve_cluster.new.out
      c.set_wait.ensures.calls c.set_wait.ensures.sends c.args.config.now.checkpoint c.serve_cluster.result (c.serve_cluster.ensures.unserved lacks);
  others = c.serve_cluster.ensures.others;
}

pub returns-clause-early : goal.returns-clause-early
returns-clause-early g c = rw c.as_served.ensures (none_early (UntouchedOutside c.args.disks.now c.serve_cluster.new.disks c.args.link.now c.serve_cluster.new.link c.args.out.now c.serve_cluster.new.out) c.serve_cluster.result c.serve_cluster.ensures.may)

pub returns-clause-read : goal.returns-clause-read
returns-clause-read g c = λ h. no_input c.serve_cluster.result c.serve_cluster.ensures.may (sym c.as_served.ensures ∙ h)

pub returns-clause-disk : goal.returns-clause-disk
returns-clause-disk g c a = λ h. c.serve_cluster.ensures.disk a (disk_served a c.serve_cluster.result c.serve_cluster.ensures.may (sym c.as_served.ensures ∙ h))

pub returns-clause-link : goal.returns-clause-link
returns-clause-link g c = λ h.
    subst (λ n. Rose n (g.L.Link.faults c.serve_cluster.new.link)) c.set_wait.ensures.receives (c.serve_cluster.ensures.link (link_served c.serve_cluster.result c.serve_cluster.ensures.may (sym c.as_served.ensures ∙ h)))

pub returns-clause-output : goal.returns-clause-output
returns-clause-output g c = λ h. c.serve_cluster.ensures.output (output_served c.serve_cluster.result c.serve_cluster.ensures.may (sym c.as_served.ensures ∙ h))

pub returns-clause-others : goal.returns-clause-others
returns-clause-others g c =
    let centres = c.args.config.now.cluster.quorums.centres in
    let nine : centres ≤ 9 = c.requires.config.quorums.nine_centres in
    keeps_fewer g.D.Disks.disk g.D.Disks.may_leave (IsUnserved 1 (centres + 1)) (IsUnserved 1 10) c.args.disks.now c.serve_cluster.new.disks
    (λ p is. unserved_fewer 1 (centres + 1) 10 p (omega (nine, arith)) is) c.serve_cluster.ensures.others
