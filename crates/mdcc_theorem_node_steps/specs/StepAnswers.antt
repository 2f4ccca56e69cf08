-- What a node answers its client is well-formed.
use Rattle.std.specs.Prelude.{List, Ok, Some, ℕ, ◌≡◌}
use Rattle.mdcc_base.specs.Key.{IsKey}
use Rattle.mdcc_option.specs.declared.cluster.Cluster.{Cluster}
use Rattle.mdcc_def_rules.specs.Node.{step_of}
use Rattle.mdcc_def_rules.specs.Steps.{NodeStep}
use Rattle.mdcc_def_protocol.specs.Volatile.{Volatile}
use Rattle.mdcc_def_messages.specs.WellFormed.{IsWellFormedRefusal, IsWellFormedShown, IsWellFormedToken}
use Rattle.mdcc_def_messages.specs.WellFormedParts.{IsWellFormedTx}
use Rattle.mdcc_def_messages.specs.declared.facts.Fact.{Fact}
use Rattle.mdcc_def_rules.specs.declared.node.Answer.{Answer}
use Rattle.mdcc_def_rules.specs.declared.node.Input.{Input}
use Rattle.mdcc_theorem_node_steps.specs.NodeInvariant.{IsNode}
use Rattle.mdcc_theorem_node_steps.specs.Inputs.{IsWellFormedInput}
use Rattle.mdcc_def_rules.specs.Here.{here}

-- what a read shows, the transaction that was begun, or the key and cause of a refusal
abbrev pub IsWellFormedGivenAnswer : Answer → Type 0
IsWellFormedGivenAnswer (Answer.Read reading) = IsWellFormedToken reading.token × IsWellFormedShown reading.item
IsWellFormedGivenAnswer (Answer.Begun tx) = IsWellFormedTx tx
IsWellFormedGivenAnswer (Answer.Refused key fault) = IsKey key × IsWellFormedRefusal fault

-- the answer of a step is well-formed
abbrev pub AnswerIsWellFormed : Type 0
AnswerIsWellFormed =
    (cluster : Cluster) (me : ℕ) (facts : List Fact) (volatile : Volatile) (input : Input) (step : NodeStep) (answer : Answer)
    → IsNode cluster me facts volatile → IsWellFormedInput input
    → step_of (here cluster me facts) volatile input ≡ Ok step → step.answer ≡ Some answer
    → IsWellFormedGivenAnswer answer
