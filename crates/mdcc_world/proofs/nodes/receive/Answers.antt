use Rattle.std.proofs.Common.{◌≡◌, ◌≤◌, Result, subst}
use Rattle.mdcc_base.specs.Unless.{GivesUnless}
use Rattle.mdcc_node.specs.StepPlans.{unless_refused}
use Rattle.mdcc_node.specs.StepAnswers.{step_result, is_step_memory}
use Rattle.mdcc_def_ledger.specs.Ledger.{facts_of}
use Rattle.mdcc_def_rules.specs.Steps.{NodeStep}
use Rattle.mdcc_def_rules.specs.declared.node.Input.{Input}
use Rattle.mdcc_def_simulation.specs.State.{centre_at}
use Rattle.mdcc_def_rules.specs.declared.node.StepFault.{StepFault}
use Rattle.mdcc_world.proofs.NodesStay.{made-is, made-kept, node-under, runs-at, stepped}
use Rattle.mdcc_node_log.proofs.NodeSteps.{step-of-node}
use Rattle.mdcc_world.proofs.Roomy.{node-left}
use Rattle.mdcc_world.proofs.nodes.receive.Goals as goal

pub deliver-requires-clause-message : goal.deliver-requires-clause-message
deliver-requires-clause-message c = c.requires.formed

pub deliver-requires-clause-short : goal.deliver-requires-clause-short
deliver-requires-clause-short c = c.requires.short

pub deliver-requires-clause-running : goal.deliver-requires-clause-running
deliver-requires-clause-running c =
    let a = c.args.centre in
    let place : c.from.result ≡ a = cc in
    let some : 1 ≤ a = (let e : c.number.result ≡ a = c.number.ensures.value in subst (λ n. 1 ≤ n) e c.number.ensures.range.0) in
    runs-at c.args.nodes.now a c.from.result c.index-nodes-from.result c.requires.running some c.requires.within place c.index-nodes-from.is

pub returns-clause-answer : goal.returns-clause-answer
returns-clause-answer c w standing up =
    let a = c.args.centre in
    let place : c.from.result ≡ a = cc in
    let some : 1 ≤ a = (let e : c.number.result ≡ a = c.number.ensures.value in subst (λ n. 1 ≤ n) e c.number.ensures.range.0) in
    let node = node-under c.args.nodes.now w a c.from.result c.index-nodes-from.result standing up some c.requires.within place c.index-nodes-from.is in
    let input = Input.Message c.args.envelope.now in
    let gives = c.deliver.ensures.follows.answer w.cluster a (facts_of w.ledger a) (centre_at w a).volatile node.itself in
    made-is c.run_result.result c.deliver.result c.deliver.new.step _ c.run_result.ensures.same c.run_result.ensures.memory
    (subst (λ (r : Result NodeStep StepFault). GivesUnless is_step_memory (unless_refused c.deliver.result c.deliver.new.step) (step_result r)) (step-of-node _ w.cluster a (facts_of w.ledger a) (centre_at w a).volatile node input) gives)

pub returns-clause-left : goal.returns-clause-left
returns-clause-left c w world standing up =
    let a = c.args.centre in
    let place : c.from.result ≡ a = cc in
    let some : 1 ≤ a = (let e : c.number.result ≡ a = c.number.ensures.value in subst (λ n. 1 ≤ n) e c.number.ensures.range.0) in
    let node = node-under c.args.nodes.now w a c.from.result c.index-nodes-from.result standing up some c.requires.within place c.index-nodes-from.is in
    let input = Input.Message c.args.envelope.now in
    let facts = facts_of w.ledger a in
    let volatile = (centre_at w a).volatile in
    let left = c.deliver.ensures.follows.left w.cluster a facts volatile node.itself in
    made-kept c.run_result.result c.deliver.result c.deliver.new.step _ c.run_result.ensures.memory
    (stepped c.args.nodes.now w a c.from.result c.deliver.new.self input standing world some c.requires.within place c.requires.formed _
    (step-of-node _ w.cluster a facts volatile node input) (unless_refused c.deliver.result c.deliver.new.step) (node-left _ w.cluster a facts volatile node c.deliver.new.self input _ (step-of-node _ w.cluster a facts volatile node input) (unless_refused c.deliver.result c.deliver.new.step) c.deliver.ensures.cells left))
