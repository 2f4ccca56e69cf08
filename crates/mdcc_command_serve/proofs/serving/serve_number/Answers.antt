use Rattle.std.proofs.Common.{◌+◌, ◌∙◌, ◌∷◌, [], refl, subst, sym, ℕ}
use Rattle.mdcc_base.specs.Causes.{Rose}
use Rattle.mdcc_def_protocol.specs.Belongs.{is_centre}
use Rattle.mdcc_command_serve.proofs.Refused.{says_served, told_alone}
use Rattle.mdcc_command_serve.proofs.Served.{at_false, at_true, disk_served, link_served, no_input, none_early, output_served}
use Rattle.mdcc_command_serve.proofs.Untaken.{refused_served, unserved_since}
use Rattle.mdcc_command_serve.proofs.Waiting.{serves_there}
use Rattle.mdcc_command_serve.specs.Commands.{ServesOne, UntouchedOutside}
use Rattle.mdcc_serve_site.specs.Moments.{KeepsOthers}
use Rattle.mdcc_command_serve.proofs.serving.serve_number.Goals as goal

pub returns-in_default-clause-serves : goal.returns-in_default-clause-serves
returns-in_default-clause-serves g c = at_false (is_centre c.args.config.now.cluster c.args.number) _ _ (c.centre_of.ensures.none c.in_default.is) (refl, record { disks = refl; link = refl; output = refl })

pub returns-clause-serves : goal.returns-clause-serves
returns-clause-serves g c =
    let serves : (number : ℕ) → Type 0 = λ number.
    ServesOne g.D.Disks.disk g.D.Disks.may_leave g.D.Disks.tears g.L.Link.calls g.L.Link.lost g.O.Sink.held c.args.disks.now c.serve_node.new.disks c.args.link.now c.serve_node.new.link c.args.out.now
    c.serve_node.new.out c.args.config.now number c.args.turns c.as_served.result in
    at_true (is_centre c.args.config.now.cluster c.args.number) _ _ c.in-Some.ensures.some.1
    (subst serves c.in-Some.ensures.some.0 (record {
      result = c.serve_node.result;
      is = c.as_served.ensures;
      serves = λ log of is. serves_there g.D.Disks.disk g.D.Disks.may_leave g.D.Disks.tears g.L.Link.calls g.L.Link.lost g.O.Sink.held c.args.link.now c.set_wait.new.self c.set_wait.ensures.calls c.set_wait.ensures.sends
          c.args.config.now (log ∷ []) c.args.turns c.serve_node.result c.args.disks.now c.serve_node.new.disks c.serve_node.new.link c.args.out.now c.serve_node.new.out (c.serve_node.ensures.serves log of is);
      logs = λ told. says_served g.D.Disks.disk c.args.config.now.cluster c.args.disks.now c.in-Some.centre c.in-Some.centre (told_alone g.D.Disks.disk c.args.disks.now c.in-Some.centre told)
          c.serve_node.result c.as_served.result c.as_served.ensures c.serve_node.ensures.logs;
      refused = refused_served g.D.Disks.disk g.D.Disks.may_leave g.D.Disks.tears g.L.Link.calls g.L.Link.lost c.args.config.now.cluster c.in-Some.centre (c.in-Some.centre + 1) c.args.disks.now c.serve_node.new.disks c.args.link.now c.set_wait.new.self c.serve_node.new.link c.args.out.now c.serve_node.new.out
          c.set_wait.ensures.calls c.set_wait.ensures.sends _ _ c.serve_node.result c.as_served.result c.as_served.ensures (λ told. told) c.serve_node.ensures.refused;
      unserved = λ lacks. unserved_since g.D.Disks.disk g.D.Disks.may_leave g.D.Disks.tears g.L.Link.calls g.L.Link.lost c.args.config.now.cluster c.in-Some.centre (c.in-Some.centre + 1) c.args.disks.now c.serve_node.new.disks c.args.link.now c.set_wait.new.self c.serve_node.new.link c.args.out.now c.serve_node.new.out
          c.set_wait.ensures.calls c.set_wait.ensures.sends c.args.config.now.checkpoint c.serve_node.result (c.serve_node.ensures.unserved lacks);
    }))

pub returns-clause-early : goal.returns-clause-early
returns-clause-early g c = rw c.as_served.ensures (none_early (UntouchedOutside c.args.disks.now c.serve_node.new.disks c.args.link.now c.serve_node.new.link c.args.out.now c.serve_node.new.out) c.serve_node.result c.serve_node.ensures.may)

pub returns-clause-read : goal.returns-clause-read
returns-clause-read g c = λ h. no_input c.serve_node.result c.serve_node.ensures.may (sym c.as_served.ensures ∙ h)

pub returns-clause-disk : goal.returns-clause-disk
returns-clause-disk g c a = λ h. c.serve_node.ensures.disk a (disk_served a c.serve_node.result c.serve_node.ensures.may (sym c.as_served.ensures ∙ h))

pub returns-clause-link : goal.returns-clause-link
returns-clause-link g c = λ h.
    subst (λ n. Rose n (g.L.Link.faults c.serve_node.new.link)) c.set_wait.ensures.receives (c.serve_node.ensures.link (link_served c.serve_node.result c.serve_node.ensures.may (sym c.as_served.ensures ∙ h)))

pub returns-clause-output : goal.returns-clause-output
returns-clause-output g c = λ h. c.serve_node.ensures.output (output_served c.serve_node.result c.serve_node.ensures.may (sym c.as_served.ensures ∙ h))

-- ---- the disks of other centres

pub returns-in_default-clause-others : goal.returns-in_default-clause-others
returns-in_default-clause-others g c = record { others = λ p here there. refl; crash = λ p here there bytes left. left }

pub returns-clause-others : goal.returns-clause-others
returns-clause-others g c = subst (λ (n : ℕ). KeepsOthers g.D.Disks.disk g.D.Disks.may_leave n c.args.disks.now c.serve_node.new.disks) c.in-Some.ensures.some.0 c.serve_node.ensures.others
