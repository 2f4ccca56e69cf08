-- Which centre of a cluster a node is, with its facts and with what it keeps beside them.
use Rattle.std.specs.Prelude.{◌≡◌, List, Result, true, ℕ}
use Rattle.mdcc_leader.specs.Represents.{RepresentsLeading}
use Rattle.mdcc_manager.specs.Represents.{RepresentsManaging}
use Rattle.mdcc_node.specs.StepAnswers.{facts_left, volatile_left}
use Rattle.mdcc_node.specs.declared.node.Node.{Node}
use Rattle.mdcc_option.specs.declared.cluster.Cluster.{Cluster}
use Rattle.mdcc_def_protocol.specs.Belongs.{is_centre}
use Rattle.mdcc_def_protocol.specs.Facts.{epoch_of}
use Rattle.mdcc_def_rules.specs.Steps.{NodeStep}
use Rattle.mdcc_def_protocol.specs.Volatile.{Volatile}
use Rattle.mdcc_recover.specs.Represents.{RepresentsRecovering}
use Rattle.mdcc_def_messages.specs.declared.facts.Fact.{Fact}
use Rattle.mdcc_def_rules.specs.declared.node.StepFault.{StepFault}

pub record RepresentsCentre {S : Type 0} (stands : S → List Fact → Type 0) (node : Node S) (cluster : Cluster) (me : ℕ) (facts : List Fact) (volatile : Volatile) : Type 0 where
  pub of : node.cluster ≡ cluster
  pub at : node.centre ≡ me
  pub among : is_centre cluster me ≡ true
  pub store : stands node.store facts
  pub manager : RepresentsManaging node.manager me (epoch_of facts) cluster.quorums volatile.manager
  pub leader : RepresentsLeading node.leader me (epoch_of facts) cluster.quorums volatile.leader
  pub recovery : RepresentsRecovering node.recover cluster.quorums volatile.recovery

-- the node after a step, or after a refusal that left it as it was
abbrev pub RepresentsAfter : {S : Type 0} → (S → List Fact → Type 0) → Node S → Cluster → ℕ → List Fact → Volatile → Result NodeStep StepFault → Type 0
RepresentsAfter stands node cluster me facts volatile expected =
    RepresentsCentre stands node cluster me (facts_left facts expected) (volatile_left volatile expected)
