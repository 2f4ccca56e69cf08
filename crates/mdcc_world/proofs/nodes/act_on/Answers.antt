use Rattle.std.proofs.Common.{◌≡◌, ◌≤◌, Result, subst}
use Rattle.mdcc_base.specs.Unless.{GivesUnless}
use Rattle.mdcc_node.specs.StepPlans.{unless_refused}
use Rattle.mdcc_node.specs.StepAnswers.{step_result, is_step_memory}
use Rattle.mdcc_def_ledger.specs.Ledger.{facts_of}
use Rattle.mdcc_def_rules.specs.Steps.{NodeStep}
use Rattle.mdcc_def_simulation.specs.State.{centre_at}
use Rattle.mdcc_def_rules.specs.declared.node.StepFault.{StepFault}
use Rattle.mdcc_world.proofs.NodesStay.{made-is, made-kept, node-under, runs-at, stepped}
use Rattle.mdcc_node_log.proofs.NodeSteps.{step-of-node}
use Rattle.mdcc_world.proofs.Roomy.{node-left}
use Rattle.mdcc_world.proofs.nodes.act_on.Goals as goal

pub act_on-requires-clause-input : goal.act_on-requires-clause-input
act_on-requires-clause-input c = (c.requires.formed, c.requires.short)

pub act_on-requires-clause-running : goal.act_on-requires-clause-running
act_on-requires-clause-running c =
    let a = c.args.centre in
    let place : c.from.result ≡ a = cc in
    let some : 1 ≤ a = (let e : c.number.result ≡ a = c.number.ensures.value in subst (λ n. 1 ≤ n) e c.number.ensures.range.0) in
    runs-at c.args.nodes.now a c.from.result c.index-nodes-from.result c.requires.running some c.requires.within place c.index-nodes-from.is

pub returns-clause-answer : goal.returns-clause-answer
returns-clause-answer c w standing up =
    let a = c.args.centre in
    let place : c.from.result ≡ a = cc in
    let some : 1 ≤ a = (let e : c.number.result ≡ a = c.number.ensures.value in subst (λ n. 1 ≤ n) e c.number.ensures.range.0) in
    let node = node-under c.args.nodes.now w a c.from.result c.index-nodes-from.result standing up some c.requires.within place c.index-nodes-from.is in
    let input = c.args.input.now in
    let gives = c.act_on.ensures.follows.answer w.cluster a (facts_of w.ledger a) (centre_at w a).volatile node.itself in
    made-is c.run_result.result c.act_on.result c.act_on.new.step _ c.run_result.ensures.same c.run_result.ensures.memory
    (subst (λ (r : Result NodeStep StepFault). GivesUnless is_step_memory (unless_refused c.act_on.result c.act_on.new.step) (step_result r)) (step-of-node _ w.cluster a (facts_of w.ledger a) (centre_at w a).volatile node input) gives)

pub returns-clause-left : goal.returns-clause-left
returns-clause-left c w world standing up =
    let a = c.args.centre in
    let place : c.from.result ≡ a = cc in
    let some : 1 ≤ a = (let e : c.number.result ≡ a = c.number.ensures.value in subst (λ n. 1 ≤ n) e c.number.ensures.range.0) in
    let node = node-under c.args.nodes.now w a c.from.result c.index-nodes-from.result standing up some c.requires.within place c.index-nodes-from.is in
    let input = c.args.input.now in
    let facts = facts_of w.ledger a in
    let volatile = (centre_at w a).volatile in
    let left = c.act_on.ensures.follows.left w.cluster a facts volatile node.itself in
    made-kept c.run_result.result c.act_on.result c.act_on.new.step _ c.run_result.ensures.memory
    (stepped c.args.nodes.now w a c.from.result c.act_on.new.self input standing world some c.requires.within place c.requires.formed _
    (step-of-node _ w.cluster a facts volatile node input) (unless_refused c.act_on.result c.act_on.new.step) (node-left _ w.cluster a facts volatile node c.act_on.new.self input _ (step-of-node _ w.cluster a facts volatile node input) (unless_refused c.act_on.result c.act_on.new.step) c.act_on.ensures.cells left))
