use Rattle.std.proofs.Common.{◌≡◌, arith, length, refl}
use Rattle.std.proofs.lemmas.List.{with_items_is}
use Rattle.std.specs.Vec.{with_items}
use Rattle.mdcc_node.specs.StepPlans.{unless_refused}
use Rattle.mdcc_def_simulation.specs.State.{counted_event}
use Rattle.mdcc_def_simulation.specs.AppliedSteps.{input_happened, step_at}
use Rattle.mdcc_world.proofs.Counted.{counted-nodes, made-counted}
use Rattle.mdcc_world.proofs.Took.{input-counted}
use Rattle.mdcc_world.proofs.NodesStay.{runs-in}
use Rattle.mdcc_world.specs.Nodes.{NodesRepresent, RunsAt}
use Rattle.mdcc_theorem_worlds.proofs.Stays.{counted-stays}
use Rattle.mdcc_world.proofs.world.World.run_timed.Goals as goal

pub act_on-requires-clause-running : goal.act_on-requires-clause-running
act_on-requires-clause-running c =
    let w = c.requires.like.0 in
    let like = c.requires.like.1 in
    let runs : RunsAt c.args.self.now.nodes.items c.args.centre = runs-in c.args.self.now.nodes.items w c.args.centre like.records.itself like.nodes (c.requires.up w like) in
    rw c.deref_mut.ensures.value runs

pub returns-clause-made : goal.returns-clause-made
returns-clause-made c w like =
    let a = c.args.centre in
    let up = c.requires.up w like in
    let here : NodesRepresent c.deref_mut.result.now (counted_event w) = rw c.deref_mut.ensures.value (counted-nodes c.args.self.now.nodes.items w like.nodes) in
    let many : length c.act_on.new.nodes ≡ c.args.self.now.nodes.len = omega arith in
    let h = input_happened (counted_event w) a (step_at (counted_event w) a c.args.input.now) in
    let left = c.in_ok-made.ensures.left (counted_event w) (counted-stays w like.records.itself) here up in
    let nodes : NodesRepresent (with_items c.args.self.now.nodes c.act_on.new.nodes).items h.world = rw (with_items_is c.args.self.now.nodes c.act_on.new.nodes many) left in
    let decisions = input-counted c.args.self.now.decisions (counted_event w) a c.args.input.now (counted-stays w like.records.itself) c.requires.formed c.requires.other like.decisions in
    made-counted c.args.self.now _ w a c.args.input.now (unless_refused c.in_ok-made.made c.act_on.new.step) like up c.requires.formed c.requires.short refl decisions (c.in_ok-made.ensures.answer (counted_event w) here up) nodes
