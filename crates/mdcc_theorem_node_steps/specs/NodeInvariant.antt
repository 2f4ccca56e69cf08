-- What a node adds, keeps and sends is well-formed.
use Rattle.std.specs.List.{AllByRecursion}
use Rattle.std.specs.Prelude.{IsTrue, List, Ok, Option, Some, [], ℕ, ◌+◌, ◌++◌, ◌∷◌, ◌≡◌, ◌≤◌, ◌<◌, ◌^◌, ⊤}
use Rattle.mdcc_option.specs.declared.cluster.Cluster.{Cluster}
use Rattle.mdcc_def_ledger.specs.BootTest.{are_allowed_facts}
use Rattle.mdcc_def_protocol.specs.Belongs.{is_centre}
use Rattle.mdcc_def_rules.specs.Boot.{boot_of, booted_by}
use Rattle.mdcc_def_protocol.specs.IsCluster.{IsCluster}
use Rattle.mdcc_base.specs.Counts.{sum_over}
use Rattle.mdcc_def_messages.specs.Lengths.{body_length, cells_used, fact_length, log_length, cells_needed}
use Rattle.mdcc_def_rules.specs.Node.{message_step, step_of}
use Rattle.mdcc_def_rules.specs.Steps.{NodeStep, with_new}
use Rattle.mdcc_def_protocol.specs.Volatile.{Volatile, initial_volatile}
use Rattle.mdcc_def_messages.specs.WellFormed.{IsWellFormedEnvelope, IsWellFormedFact, IsWellFormedMessage}
use Rattle.mdcc_def_messages.specs.declared.facts.Fact.{Fact}
use Rattle.mdcc_def_messages.specs.declared.messages.Message.{Message}
use Rattle.mdcc_def_rules.specs.declared.node.Input.{Input}
use Rattle.mdcc_theorem_node_steps.specs.AddedFacts.{AreVotesOf}
use Rattle.mdcc_theorem_node_steps.specs.Inputs.{IsWellFormedInput}
use Rattle.mdcc_theorem_node_steps.specs.WellFormedVolatile.{AreNodeFacts, IsWellFormedVolatile}
use Rattle.mdcc_def_rules.specs.Here.{here}
use Rattle.mdcc_def_protocol.specs.Cells.{cells_held}

-- what holds of a node at every moment
pub record IsNode (cluster : Cluster) (me : ℕ) (facts : List Fact) (volatile : Volatile) : Type 0 where
  pub cluster_itself : IsCluster cluster
  pub centre : IsTrue (is_centre cluster me)
  pub facts_themselves : AreNodeFacts cluster facts
  pub votes : AreVotesOf cluster volatile
  pub volatile_itself : IsWellFormedVolatile volatile

-- the fact that a step adds is well-formed
abbrev pub AddedFactIsWellFormed : Type 0
AddedFactIsWellFormed =
    (cluster : Cluster) (me : ℕ) (facts : List Fact) (volatile : Volatile) (input : Input) (step : NodeStep) (fact : Fact)
    → IsNode cluster me facts volatile → IsWellFormedInput input
    → step_of (here cluster me facts) volatile input ≡ Ok step → step.fact ≡ Some fact
    → IsWellFormedFact fact

-- the facts have fewer than 2^32 bytes, so the votes that a promise reports are fewer than 2^32
abbrev pub HasRoom : List Fact → Type 0
HasRoom facts = sum_over fact_length facts < 2 ^ 32

-- it is so of facts in as many cells as a node may have, and of those of a log of at most 2^30 bytes
abbrev pub CellsGiveRoom : Type 0
CellsGiveRoom = (facts : List Fact) → cells_used facts ≤ 4194304 → HasRoom facts

abbrev pub LogsGiveRoom : Type 0
LogsGiveRoom = (facts : List Fact) → log_length facts ≤ 2 ^ 30 → HasRoom facts

-- each message that it sends is well-formed
abbrev pub SendsAreWellFormed : Type 0
SendsAreWellFormed =
    (cluster : Cluster) (me : ℕ) (facts : List Fact) (volatile : Volatile) (input : Input) (step : NodeStep)
    → HasRoom facts
    → IsNode cluster me facts volatile → IsWellFormedInput input
    → step_of (here cluster me facts) volatile input ≡ Ok step
    → AllByRecursion IsWellFormedEnvelope step.sends

-- and a node stays one
abbrev pub NodeStays : Type 0
NodeStays =
    (cluster : Cluster) (me : ℕ) (facts : List Fact) (volatile : Volatile) (input : Input) (step : NodeStep)
    → IsNode cluster me facts volatile → IsWellFormedInput input
    → step_of (here cluster me facts) volatile input ≡ Ok step
    → IsNode cluster me (with_new facts step.fact) step.after

-- each fact had room when it was added: what the facts before it held then, and what it needs, lie in the cells of the cluster
abbrev pub FitInTurn : Cluster → List Fact → Type 0
FitInTurn cluster [] = ⊤
FitInTurn cluster (fact ∷ facts) = FitInTurn cluster facts × (cells_held facts + cells_needed fact ≤ cluster.cells)

-- it stays so
abbrev pub RoomStays : Type 0
RoomStays =
    (cluster : Cluster) (me : ℕ) (facts : List Fact) (volatile : Volatile) (input : Input) (step : NodeStep)
    → FitInTurn cluster facts
    → step_of (here cluster me facts) volatile input ≡ Ok step
    → FitInTurn cluster (with_new facts step.fact)

-- a node is one after a boot from well-formed facts
abbrev pub BootGivesNode : Type 0
BootGivesNode =
    (cluster : Cluster) (me : ℕ) (payloads : List (Option Fact)) (facts : List Fact)
    → IsCluster cluster → IsTrue (is_centre cluster me)
    → AllByRecursion (λ payload. (fact : Fact) → payload ≡ Some fact → IsWellFormedFact fact) payloads
    → boot_of cluster payloads ≡ Ok facts
    → IsNode cluster me facts initial_volatile

-- and its facts had room in turn
abbrev pub BootKeepsRoom : Type 0
BootKeepsRoom =
    (cluster : Cluster) (payloads : List (Option Fact)) (facts : List Fact)
    → boot_of cluster payloads ≡ Ok facts
    → FitInTurn cluster facts

-- facts as payloads of a log, the oldest first
abbrev pub fact_payloads : List Fact → List (Option Fact)
fact_payloads [] = []
fact_payloads (fact ∷ facts) = fact_payloads facts ++ Some fact ∷ []

-- facts that are allowed and had room in turn are what a boot reads from their payloads
abbrev pub BootReadsFacts : Type 0
BootReadsFacts =
    (cluster : Cluster) (facts : List Fact)
    → IsTrue (are_allowed_facts cluster facts)
    → FitInTurn cluster facts
    → boot_of cluster (fact_payloads facts) ≡ booted_by cluster (Ok facts)

-- the bytes of an Accept, and 0 of any other message
abbrev pub accept_length : Message → ℕ
accept_length (Message.Accept key version ballot options) = 4 + body_length (Message.Accept key version ballot options)
accept_length _ = 0

abbrev pub accept_length_in : Input → ℕ
accept_length_in (Input.Message envelope) = accept_length envelope.message
accept_length_in input = 0

-- where an Accept in the input has at most 2,097,152 bytes, the fact that a step adds is short enough for a frame of a log
abbrev pub AddedFactIsShort : Type 0
AddedFactIsShort =
    (cluster : Cluster) (me : ℕ) (facts : List Fact) (volatile : Volatile) (input : Input) (step : NodeStep) (fact : Fact)
    → accept_length_in input ≤ 2097152
    → IsNode cluster me facts volatile → IsWellFormedInput input
    → step_of (here cluster me facts) volatile input ≡ Ok step → step.fact ≡ Some fact
    → fact_length fact ≤ 2097152

-- so it is of the fact that a message brings, also where the store has no room for it
abbrev pub BroughtFactFits : Type 0
BroughtFactFits =
    (cluster : Cluster) (me : ℕ) (facts : List Fact) (volatile : Volatile) (s : ℕ) (message : Message) (step : NodeStep) (fact : Fact)
    → accept_length message ≤ 2097152
    → IsNode cluster me facts volatile → IsTrue (is_centre cluster s) → IsWellFormedMessage message
    → message_step (here cluster me facts) volatile s message ≡ Ok step → step.fact ≡ Some fact
    → IsWellFormedFact fact × (fact_length fact ≤ 2097152)

-- each Accept that a step sends has at most 1,474,618 bytes: it has at most 1,024 accepted and 32,768 rejected marks
abbrev pub StructuresHaveRoom : Type 0
StructuresHaveRoom =
    (cluster : Cluster) (me : ℕ) (facts : List Fact) (volatile : Volatile) (input : Input) (step : NodeStep)
    → HasRoom facts
    → IsNode cluster me facts volatile → IsWellFormedInput input
    → step_of (here cluster me facts) volatile input ≡ Ok step
    → AllByRecursion (λ e. accept_length e.message ≤ 1474618) step.sends
