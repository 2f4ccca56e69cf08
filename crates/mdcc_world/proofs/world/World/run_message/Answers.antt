use Rattle.std.proofs.Common.{◌≡◌, arith, length, refl, true}
use Rattle.std.proofs.lemmas.List.{with_items_is}
use Rattle.std.specs.Vec.{with_items}
use Rattle.mdcc_node.specs.StepPlans.{unless_refused}
use Rattle.mdcc_def_simulation.specs.AppliedSteps.{input_happened, step_at}
use Rattle.mdcc_def_simulation.specs.State.{is_up_at}
use Rattle.mdcc_def_rules.specs.declared.node.Input.{Input}
use Rattle.mdcc_world.proofs.Delivered.{counted-nodes, counted-world, message-made, read-there, sent-formed, sent-short, some-number, some-sent}
use Rattle.mdcc_world.proofs.NodesStay.{runs-in}
use Rattle.mdcc_world.specs.Nodes.{NodesRepresent, RunsAt}
use Rattle.mdcc_theorem_worlds.specs.DeliveryProgress.{message_counted}
use Rattle.mdcc_world.proofs.world.World.run_message.Goals as goal

pub receive-requires-clause-formed : goal.receive-requires-clause-formed
receive-requires-clause-formed c =
    let w = c.requires.like.0 in
    let like = c.requires.like.1 in
    let envelope = c.read_into.new.into in
    let is = some-sent w c.args.number envelope c.args.self.now.network like.records.network (c.requires.clear w like) (read-there c.in_ok-read_into.field-0 c.read_into.new.into _ c.if-not-branch.false c.in_ok-read_into.ensures) in
    sent-formed c.args.self.now w c.args.number envelope like is

pub receive-requires-clause-short : goal.receive-requires-clause-short
receive-requires-clause-short c =
    let w = c.requires.like.0 in
    let like = c.requires.like.1 in
    let envelope = c.read_into.new.into in
    let is = some-sent w c.args.number envelope c.args.self.now.network like.records.network (c.requires.clear w like) (read-there c.in_ok-read_into.field-0 c.read_into.new.into _ c.if-not-branch.false c.in_ok-read_into.ensures) in
    sent-short c.args.self.now w c.args.number envelope like is

pub receive-requires-clause-running : goal.receive-requires-clause-running
receive-requires-clause-running c =
    let w = c.requires.like.0 in
    let like = c.requires.like.1 in
    let a = c.in-Some.centre in
    let envelope = c.read_into.new.into in
    let is = some-sent w c.args.number envelope c.args.self.now.network like.records.network (c.requires.clear w like) (read-there c.in_ok-read_into.field-0 c.read_into.new.into _ c.if-not-branch.false c.in_ok-read_into.ensures) in
    let same : a ≡ envelope.to = c.in-Some.ensures.value in
    let up : is_up_at w a ≡ true = rw same is.up in
    let runs : RunsAt c.args.self.now.nodes.items a = runs-in c.args.self.now.nodes.items w a like.records.itself like.nodes up in
    rw c.deref_mut.ensures.value runs

pub deliver-requires : goal.deliver-requires
deliver-requires c =
    let w = c.requires.like.0 in
    let like = c.requires.like.1 in
    let envelope = c.read_into.new.into in
    let is = some-sent w c.args.number envelope c.args.self.now.network like.records.network (c.requires.clear w like) (read-there c.in_ok-read_into.field-0 c.read_into.new.into _ c.if-not-branch.false c.in_ok-read_into.ensures) in
    some-number w c.args.number envelope is

pub returns-clause-made : goal.returns-clause-made
returns-clause-made c w like =
    let envelope = c.read_into.new.into in
    let number = c.args.number in
    let a = c.in-Some.centre in
    let is = some-sent w number envelope c.args.self.now.network like.records.network (c.requires.clear w like) (read-there c.in_ok-read_into.field-0 c.read_into.new.into _ c.if-not-branch.false c.in_ok-read_into.ensures) in
    let after = message_counted w number in
    let same : a ≡ envelope.to = c.in-Some.ensures.value in
    let up : is_up_at after a ≡ true = rw same is.up in
    let here : NodesRepresent c.deref_mut.result.now after = rw c.deref_mut.ensures.value (counted-nodes c.args.self.now w number envelope like is) in
    let many : length c.receive.new.nodes ≡ c.args.self.now.nodes.len = omega arith in
    let h = input_happened after a (step_at after a (Input.Message envelope)) in
    let left = c.in_ok-made.ensures.left after (counted-world c.args.self.now w number envelope like is) here up in
    let nodes : NodesRepresent (with_items c.args.self.now.nodes c.receive.new.nodes).items h.world = rw (with_items_is c.args.self.now.nodes c.receive.new.nodes many) left in
    message-made c.args.self.now w number envelope like is _ a (unless_refused c.in_ok-made.made c.receive.new.step) same refl c.deliver.ensures (c.in_ok-made.ensures.answer after here up) nodes
