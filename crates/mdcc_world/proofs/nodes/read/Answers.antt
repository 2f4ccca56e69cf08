use Rattle.std.proofs.Common.{◌≡◌, Ok, refl}
use Rattle.std.proofs.lemmas.Bool.{and_parts}
use Rattle.mdcc_node.specs.StepAnswers.{step_result}
use Rattle.mdcc_def_rules.specs.declared.node.Input.{Input}
use Rattle.mdcc_def_simulation.specs.AppliedSteps.{step_at}
use Rattle.mdcc_def_protocol.specs.Belongs.{is_centre}
use Rattle.mdcc_def_simulation.specs.State.{centre_at}
use Rattle.mdcc_world.proofs.NodesStay.{read-left, shown-as}
use Rattle.mdcc_world.proofs.nodes.read.Goals as goal

pub returns-in-Some-Read-clause-shown : goal.returns-in-Some-Read-clause-shown
returns-in-Some-Read-clause-shown c w standing up =
    let made : Ok c.act_on.new.step ≡ step_result (step_at w c.args.centre (Input.Read c.args.key.now)) =
    rw c.in-Ok.is at (c.in_ok-act_on.ensures.answer w standing up) in
    shown-as c.act_on.new.step _ c.in-Some-Read.field-0 c.in-Some-Read.reading _ made c.in-Some-Read.is c.in-Some-Read.field-0-is refl

pub returns-in-Some-Read-clause-left : goal.returns-in-Some-Read-clause-left
returns-in-Some-Read-clause-left c w itself standing up =
    let a = c.args.centre in
    let centre = and_parts (is_centre w.cluster a) (centre_at w a).is_up up in
    read-left c.act_on.new.nodes w a c.args.key.now itself centre.0 (c.in_ok-act_on.ensures.left w itself standing up)
