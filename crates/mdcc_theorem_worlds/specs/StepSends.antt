-- Where the messages of a step go, and what its entries of the ledger tell.
use Rattle.std.specs.List.{AllByRecursion}
use Rattle.std.specs.Prelude.{◌≡◌, Bool, List, Ok, false, true, ℕ, ◌++◌}
use Rattle.mdcc_base.specs.AreQuorums.{AreQuorums}
use Rattle.mdcc_option.specs.declared.cluster.Cluster.{Cluster}
use Rattle.mdcc_def_protocol.specs.Belongs.{is_centre}
use Rattle.mdcc_def_ledger.specs.Ledger.{Entry, Valued, facts_of}
use Rattle.mdcc_def_rules.specs.Node.{step_of}
use Rattle.mdcc_def_rules.specs.Steps.{NodeStep}
use Rattle.mdcc_def_protocol.specs.Volatile.{Volatile}
use Rattle.mdcc_def_messages.specs.declared.facts.Fact.{Fact}
use Rattle.mdcc_def_messages.specs.declared.messages.Envelope.{Envelope}
use Rattle.mdcc_def_rules.specs.declared.node.Input.{Input}
use Rattle.mdcc_theorem_node_steps.specs.Inputs.{IsWellFormedInput}
use Rattle.mdcc_def_rules.specs.Here.{here}

-- a message goes to a centre of the cluster
abbrev pub GoesWithin : Cluster → Envelope → Type 0
GoesWithin cluster envelope = is_centre cluster envelope.to ≡ true

-- no centre adds a fact by these entries
abbrev pub TellNoFact : List Entry → Type 0
TellNoFact entries = (ledger : List Entry) (a : ℕ) → facts_of (entries ++ ledger) a ≡ facts_of ledger a

-- all messages of a step stay within the cluster, and its entries beside the fact tell none
pub record StaysWithin (cluster : Cluster) (step : NodeStep) : Type 0 where
  pub entries : TellNoFact step.entries
  pub sends : AllByRecursion (GoesWithin cluster) step.sends

-- so do those of each step
abbrev pub StepsStayWithin : Type 0
StepsStayWithin =
    (cluster : Cluster) (me : ℕ) (facts : List Fact) (volatile : Volatile) (input : Input) (step : NodeStep)
    → AreQuorums cluster.quorums → IsWellFormedInput input
    → step_of (here cluster me facts) volatile input ≡ Ok step
    → StaysWithin cluster step

-- a structure that a centre sent
abbrev pub IsValuedBy : ℕ → Entry → Type 0
IsValuedBy me (Valued centre key version ballot options) = centre ≡ me
IsValuedBy me entry = ⊥

-- whether an input is a begin
abbrev pub is_begin_input : Input → Bool
is_begin_input (Input.Begin parts) = true
is_begin_input input = false

-- no other input begins a transaction: beside its fact it brings structures of this centre alone
abbrev pub OthersBeginNothing : Type 0
OthersBeginNothing =
    (cluster : Cluster) (me : ℕ) (facts : List Fact) (volatile : Volatile) (input : Input) (step : NodeStep)
    → AreQuorums cluster.quorums → IsWellFormedInput input → is_begin_input input ≡ false
    → step_of (here cluster me facts) volatile input ≡ Ok step
    → AllByRecursion (IsValuedBy me) step.entries
