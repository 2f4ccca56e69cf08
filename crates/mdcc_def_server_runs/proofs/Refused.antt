-- A run without the inputs that are refused.
use Rattle.std.proofs.Common.{◌≡◌, ℕ, List, [], ◌∷◌, ◌++◌, Result, Ok, Err, refl, ap, subst, sym}
use Rattle.mdcc_option.specs.declared.cluster.Cluster.{Cluster}
use Rattle.mdcc_def_rules.specs.Steps.{NodeStep, heard_by}
use Rattle.mdcc_def_rules.specs.declared.node.Input.{Input}
use Rattle.mdcc_def_rules.specs.declared.node.StepFault.{StepFault}
use Rattle.mdcc_def_server_runs.specs.Laws.{IsRunWithoutRefused}
use Rattle.mdcc_def_server_runs.specs.Runs.{NodeState, after_run, after_step, in_steps, inputs_taken, listed, refusals, run_of_inputs, step_on, taken_by}

same-steps : {X : Type 0} (part : NodeStep → List X) (cluster : Cluster) (me : ℕ) (node : NodeState) (inputs : List Input)
    → in_steps part (run_of_inputs cluster me node (inputs_taken cluster me node inputs)) ≡ in_steps part (run_of_inputs cluster me node inputs)
same-steps part cluster me node [] = refl
same-steps part cluster me node (input ∷ inputs) = by_made (step_on cluster me node input) refl (λ next. same-steps part cluster me next inputs)
  where
    by_made : (made : Result NodeStep StepFault) → step_on cluster me node input ≡ made
        → ((next : NodeState) → in_steps part (run_of_inputs cluster me next (inputs_taken cluster me next inputs)) ≡ in_steps part (run_of_inputs cluster me next inputs))
        → in_steps part (run_of_inputs cluster me node (taken_by input made (inputs_taken cluster me (after_step node made) inputs)))
        ≡ in_steps part (made ∷ run_of_inputs cluster me (after_step node made) inputs)
    by_made (Err fault) e more = more node
    by_made (Ok step) e more = rw e (ap (λ xs. part step ++ xs) (more (after_step node (Ok step))))

no-refusals : (cluster : Cluster) (me : ℕ) (node : NodeState) (inputs : List Input)
    → refusals (run_of_inputs cluster me node (inputs_taken cluster me node inputs)) ≡ []
no-refusals cluster me node [] = refl
no-refusals cluster me node (input ∷ inputs) = by_made (step_on cluster me node input) refl (λ next. no-refusals cluster me next inputs)
  where
    by_made : (made : Result NodeStep StepFault) → step_on cluster me node input ≡ made
        → ((next : NodeState) → refusals (run_of_inputs cluster me next (inputs_taken cluster me next inputs)) ≡ [])
        → refusals (run_of_inputs cluster me node (taken_by input made (inputs_taken cluster me (after_step node made) inputs))) ≡ []
    by_made (Err fault) e more = more node
    by_made (Ok step) e more = rw e (more (after_step node (Ok step)))

same-end : (cluster : Cluster) (me : ℕ) (node : NodeState) (inputs : List Input)
    → after_run cluster me node (inputs_taken cluster me node inputs) ≡ after_run cluster me node inputs
same-end cluster me node [] = refl
same-end cluster me node (input ∷ inputs) = by_made (step_on cluster me node input) refl (λ next. same-end cluster me next inputs)
  where
    by_made : (made : Result NodeStep StepFault) → step_on cluster me node input ≡ made
        → ((next : NodeState) → after_run cluster me next (inputs_taken cluster me next inputs) ≡ after_run cluster me next inputs)
        → after_run cluster me node (taken_by input made (inputs_taken cluster me (after_step node made) inputs))
        ≡ after_run cluster me (after_step node made) inputs
    by_made (Err fault) e more = more node
    by_made (Ok step) e more =
        subst (λ (made : Result NodeStep StepFault).
        after_run cluster me (after_step node made) (inputs_taken cluster me (after_step node (Ok step)) inputs)
        ≡ after_run cluster me (after_step node (Ok step)) inputs) (sym e) (more (after_step node (Ok step)))

pub run_without : (cluster : Cluster) (me : ℕ) (node : NodeState) (inputs : List Input)
    → IsRunWithoutRefused cluster me node inputs (inputs_taken cluster me node inputs)
run_without cluster me node inputs = record {
  facts = same-steps (λ step. listed step.fact) cluster me node inputs;
  messages = same-steps (λ step. step.sends) cluster me node inputs;
  outcomes = same-steps (λ step. listed (heard_by step.fact)) cluster me node inputs;
  answers = same-steps (λ step. listed step.answer) cluster me node inputs;
  end = same-end cluster me node inputs;
  none = no-refusals cluster me node inputs;
}
