-- What a node's method does: what it answers, and what the node is afterwards.
use Rattle.std.specs.Prelude.{Bool, List, None, Option, Result, Some, ℕ}
use Rattle.mdcc_base.specs.declared.identifiers.TxId.{TxId}
use Rattle.mdcc_base.specs.Unless.{GivesUnless}
use Rattle.mdcc_def_messages.specs.declared.facts.Fact.{Fact}
use Rattle.mdcc_node.specs.Represents.{RepresentsAfter, RepresentsCentre}
use Rattle.mdcc_node.specs.StepAnswers.{OnMemory, UnlessMemory, step_result, is_step_memory, with_store}
use Rattle.mdcc_node.specs.declared.node.Node.{Node}
use Rattle.mdcc_option.specs.declared.cluster.Cluster.{Cluster}
use Rattle.mdcc_def_protocol.specs.Volatile.{Volatile, closed}
use Rattle.mdcc_def_rules.specs.Steps.{NodeStep}
use Rattle.mdcc_def_rules.specs.declared.node.Step.{Step}
use Rattle.mdcc_def_rules.specs.declared.node.StepFault.{StepFault}

-- what is expected of a centre of a cluster, by its facts and by what it keeps beside them
abbrev pub Rule : Type 0
Rule = Cluster → ℕ → List Fact → Volatile → Result NodeStep StepFault

-- the answer and the node afterwards are those of the rule, where memory does not lack; where it does, the facts are as before
pub record Follows {S : Type 0} (stands : S → List Fact → Type 0) (before : Node S) (result : Result Step StepFault) (after : Node S) (rule : Rule) : Type 0 where
  pub answer : (cluster : Cluster) (me : ℕ) (facts : List Fact) (volatile : Volatile) → RepresentsCentre stands before cluster me facts volatile
      → GivesUnless is_step_memory result (step_result (rule cluster me facts volatile))
  pub left : (cluster : Cluster) (me : ℕ) (facts : List Fact) (volatile : Volatile) → RepresentsCentre stands before cluster me facts volatile
      → UnlessMemory result (RepresentsAfter stands after cluster me facts volatile (rule cluster me facts volatile))
  pub memory : (facts : List Fact) → stands before.store facts → OnMemory result (stands after.store facts)

-- the same for a rule whose fact the store may refuse
abbrev pub Does : {S : Type 0} → (S → List Fact → Type 0) → (S → ℕ) → Node S → Result Step StepFault → Node S → Rule → Type 0
Does stands cells before result after rule =
    Follows stands before result after (λ cluster me facts volatile. with_store (cells before.store) facts (rule cluster me facts volatile))

-- a transaction that has ended is closed
abbrev pub closed_if_ended : Option (TxId × Bool) → Volatile → Volatile
closed_if_ended None volatile = volatile
closed_if_ended (Some (tx, is_commit)) volatile = closed volatile tx
