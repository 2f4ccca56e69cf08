-- From well-formed inputs a node's run sends well-formed messages.
use Rattle.std.proofs.Common.{Err, List, None, Ok, Option, Result, Some, [], append-nil, arith, refl, subst, sym, ℕ, ◌∷◌, ◌≡◌, ◌≤◌}
use Rattle.std.specs.List.{AllByRecursion}
use Rattle.mdcc_base.specs.Counts.{sum_over}
use Rattle.mdcc_def_messages.specs.Lengths.{fact_length}
use Rattle.mdcc_def_messages.specs.WellFormed.{IsWellFormedEnvelope}
use Rattle.mdcc_def_messages.specs.declared.facts.Fact.{Fact}
use Rattle.mdcc_option.specs.declared.cluster.Cluster.{Cluster}
use Rattle.mdcc_def_rules.specs.Here.{here}
use Rattle.mdcc_def_rules.specs.Node.{step_of}
use Rattle.mdcc_def_rules.specs.Steps.{NodeStep, with_new}
use Rattle.mdcc_def_rules.specs.declared.node.Input.{Input}
use Rattle.mdcc_def_rules.specs.declared.node.StepFault.{StepFault}
use Rattle.mdcc_def_server_runs.specs.Runs.{NodeState, after_run, after_step, messages_sent, run_of_inputs, step_on}
use Rattle.mdcc_theorem_node_steps.specs.Inputs.{IsWellFormedInput}
use Rattle.mdcc_theorem_node_steps.specs.NodeInvariant.{HasRoom, IsNode}
use Rattle.mdcc_theorem_trace_states.specs.Words.{Each}
use Rattle.mdcc_theorem_trace_states.proofs.Lists.{Each-append}
use Rattle.mdcc_theorem_commit_groups.proofs.Durable.{steps-cons}
use Rattle.mdcc_theorem_clusters.specs.Formed.{IsFormedRun, StepLaws}

each-of-all : {X : Type 0} (P : X → Type 0) (xs : List X) → AllByRecursion P xs → Each P xs
each-of-all P [] h = tt
each-of-all P (x ∷ xs) h = (h.0, each-of-all P xs h.1)

-- ---- room

room-new : (facts : List Fact) (o : Option Fact) → sum_over fact_length facts ≤ sum_over fact_length (with_new facts o)
room-new facts None = omega arith
room-new facts (Some fact) = omega arith

room-step : (node : NodeState) (r : Result NodeStep StepFault) → sum_over fact_length node.facts ≤ sum_over fact_length (after_step node r).facts
room-step node (Err fault) = omega arith
room-step node (Ok step) = room-new node.facts step.fact

room-run : (cluster : Cluster) (me : ℕ) (node : NodeState) (inputs : List Input) → sum_over fact_length node.facts ≤ sum_over fact_length (after_run cluster me node inputs).facts
room-run cluster me node [] = omega arith
room-run cluster me node (input ∷ inputs) =
    let first = room-step node (step_on cluster me node input) in
    let rest = room-run cluster me (after_step node (step_on cluster me node input)) inputs in
    omega (arith, first, rest)

room-before : (cluster : Cluster) (me : ℕ) (node : NodeState) (inputs : List Input) → HasRoom (after_run cluster me node inputs).facts → HasRoom node.facts
room-before cluster me node inputs h = let g = room-run cluster me node inputs in omega (arith, g, h)

-- ---- one step

record IsFormedStep (cluster : Cluster) (me : ℕ) (node : NodeState) (r : Result NodeStep StepFault) : Type 0 where
  sends : Each IsWellFormedEnvelope (messages_sent (r ∷ []))
  stays : IsNode cluster me (after_step node r).facts (after_step node r).volatile

formed-step : StepLaws → (cluster : Cluster) (me : ℕ) (node : NodeState) (input : Input) (r : Result NodeStep StepFault) → step_of (here cluster me node.facts) node.volatile input ≡ r
    → HasRoom node.facts → IsNode cluster me node.facts node.volatile → IsWellFormedInput input → IsFormedStep cluster me node r
formed-step laws cluster me node input (Err fault) is room there w = record { sends = tt; stays = there }
formed-step laws cluster me node input (Ok step) is room there w = record {
  sends = subst (Each IsWellFormedEnvelope) (sym (append-nil step.sends)) (each-of-all IsWellFormedEnvelope step.sends (laws.sends cluster me node.facts node.volatile input step room there w is));
  stays = laws.stays cluster me node.facts node.volatile input step there w is;
}

-- ---- all of them

pub formed-run : StepLaws → (cluster : Cluster) (me : ℕ) (node : NodeState) (inputs : List Input) → IsNode cluster me node.facts node.volatile → Each IsWellFormedInput inputs
    → HasRoom (after_run cluster me node inputs).facts → IsFormedRun cluster me node inputs
formed-run laws cluster me node [] there w room = record { sends = tt; stays = there }
formed-run laws cluster me node (input ∷ inputs) there w room =
    let r : Result NodeStep StepFault = step_on cluster me node input in
    let next : NodeState = after_step node r in
    let first = formed-step laws cluster me node input r refl (room-before cluster me node (input ∷ inputs) room) there w.0 in
    let rest = formed-run laws cluster me next inputs first.stays w.1 room in
    record {
      sends = subst (Each IsWellFormedEnvelope) (sym (steps-cons (λ step. step.sends) r (run_of_inputs cluster me next inputs)))
          (Each-append IsWellFormedEnvelope (messages_sent (r ∷ [])) (messages_sent (run_of_inputs cluster me next inputs)) first.sends rest.sends);
      stays = rest.stays;
    }
