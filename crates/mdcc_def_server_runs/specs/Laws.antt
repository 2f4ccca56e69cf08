-- That a refused input is as good as none.
use Rattle.std.specs.Prelude.{List, ℕ, ◌≡◌, []}
use Rattle.mdcc_option.specs.declared.cluster.Cluster.{Cluster}
use Rattle.mdcc_def_rules.specs.declared.node.Input.{Input}
use Rattle.mdcc_def_server_runs.specs.Runs.{NodeState, after_run, answers_given, facts_added, inputs_taken, messages_sent, outcomes_heard, refusals, run_of_inputs}

-- Of the inputs without those that are refused, the run has the same facts, messages, outcomes and answers, and the same node at its
-- end, and none of them is refused.
pub record IsRunWithoutRefused (cluster : Cluster) (me : ℕ) (node : NodeState) (inputs taken : List Input) : Type 0 where
  pub facts : facts_added (run_of_inputs cluster me node taken) ≡ facts_added (run_of_inputs cluster me node inputs)
  pub messages : messages_sent (run_of_inputs cluster me node taken) ≡ messages_sent (run_of_inputs cluster me node inputs)
  pub outcomes : outcomes_heard (run_of_inputs cluster me node taken) ≡ outcomes_heard (run_of_inputs cluster me node inputs)
  pub answers : answers_given (run_of_inputs cluster me node taken) ≡ answers_given (run_of_inputs cluster me node inputs)
  pub end : after_run cluster me node taken ≡ after_run cluster me node inputs
  pub none : refusals (run_of_inputs cluster me node taken) ≡ []

abbrev pub RefusedInputsChangeNothing : Type 0
RefusedInputsChangeNothing =
    (cluster : Cluster) (me : ℕ) (node : NodeState) (inputs : List Input)
    → IsRunWithoutRefused cluster me node inputs (inputs_taken cluster me node inputs)
