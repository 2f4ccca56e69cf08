-- From well-formed inputs a node's run sends well-formed messages.
use Rattle.std.specs.Prelude.{List, ℕ}
use Rattle.mdcc_def_messages.specs.WellFormed.{IsWellFormedEnvelope}
use Rattle.mdcc_option.specs.declared.cluster.Cluster.{Cluster}
use Rattle.mdcc_def_rules.specs.declared.node.Input.{Input}
use Rattle.mdcc_def_server_runs.specs.Runs.{NodeState, after_run, messages_sent, run_of_inputs}
use Rattle.mdcc_theorem_node_steps.specs.Inputs.{IsWellFormedInput}
use Rattle.mdcc_theorem_node_steps.specs.NodeInvariant.{HasRoom, IsNode, NodeStays, SendsAreWellFormed}
use Rattle.mdcc_theorem_node_steps.specs.StepAnswers.{AnswerIsWellFormed}
use Rattle.mdcc_theorem_trace_states.specs.Words.{Each}

-- what is proved of one step
pub record StepLaws : Type 0 where
  pub sends : SendsAreWellFormed
  pub stays : NodeStays
  pub answers : AnswerIsWellFormed

-- the messages are well-formed, and the node stays one
pub record IsFormedRun (cluster : Cluster) (me : ℕ) (node : NodeState) (inputs : List Input) : Type 0 where
  pub sends : Each IsWellFormedEnvelope (messages_sent (run_of_inputs cluster me node inputs))
  pub stays : IsNode cluster me (after_run cluster me node inputs).facts (after_run cluster me node inputs).volatile

-- where the facts at the end have fewer than 2^32 bytes
abbrev pub RunsAreFormed : Type 0
RunsAreFormed =
    StepLaws → (cluster : Cluster) (me : ℕ) (node : NodeState) (inputs : List Input) → IsNode cluster me node.facts node.volatile → Each IsWellFormedInput inputs
    → HasRoom (after_run cluster me node inputs).facts → IsFormedRun cluster me node inputs
