-- A cluster of nodes with messages between them: what a node takes becomes durable in groups, and a crash loses what is not durable yet.
use Rattle.std.specs.Prelude.{List, None, Option, Some, [], if◌then◌else◌, ⊤, ℕ, ◌++◌, ◌==◌, ◌∷◌, ◌≡◌}
use Rattle.mdcc_base.specs.AreQuorums.{AreQuorums}
use Rattle.mdcc_option.specs.declared.cluster.Cluster.{Cluster}
use Rattle.mdcc_def_ledger.specs.Ledger.{Added, Entry, facts_of}
use Rattle.mdcc_def_messages.specs.declared.messages.Envelope.{Envelope}
use Rattle.mdcc_def_protocol.specs.Belongs.{is_centre}
use Rattle.mdcc_def_protocol.specs.Volatile.{Volatile, initial_volatile}
use Rattle.mdcc_def_rules.specs.Boot.{next_boot}
use Rattle.mdcc_def_rules.specs.declared.node.Input.{Input}
use Rattle.mdcc_def_server_runs.specs.Runs.{after_run, messages_sent, run_of_inputs}
use Rattle.mdcc_theorem_trace_states.specs.MessageMeaning.{TrueWhenSent}
use Rattle.mdcc_theorem_trace_states.specs.Sound.{IsSound}
use Rattle.mdcc_theorem_trace_states.specs.Steps.{AreGood, IsTransaction}
use Rattle.mdcc_theorem_trace_states.specs.Words.{Each, In}
use Rattle.mdcc_theorem_commit_groups.specs.Groups.{IsGroup, IsSoundLedger, entries_made, node_at}

-- ---- states

-- a node that is up: what it kept when its last group became durable, and what it took since, the oldest first
pub record Member : Type 0 where
  pub volatile : Volatile
  pub inputs : List Input

-- the ledger of what is durable, all messages that were ever sent, and the nodes that are up
pub record Nodes : Type 0 where
  pub ledger : List Entry
  pub sent : List Envelope
  pub member : ℕ → Option Member

abbrev pub no_nodes : Nodes
no_nodes = record { ledger = []; sent = []; member = λ a. None }

-- one of them is so now
abbrev pub with_member : (ℕ → Option Member) → ℕ → Option Member → ℕ → Option Member
with_member members a member b = if a == b then member else members b

-- ---- events

pub data NodeEvent : Type 0 where
  -- the boot of a node's next epoch becomes durable, over what is durable of it, whether it is up or not
  Boot : (centre : ℕ) → NodeEvent
  -- a node takes an input
  Take : (centre : ℕ) (input : Input) → NodeEvent
  -- what it took since its last group becomes durable, and then its messages are sent
  Release : (centre : ℕ) → NodeEvent
  -- a node crashes, and what it took since is lost
  Crash : (centre : ℕ) → NodeEvent

abbrev pub input_taken_by : Nodes → ℕ → Input → Option Member → Nodes
input_taken_by nodes a input None = nodes
input_taken_by nodes a input (Some member) =
    record { ledger = nodes.ledger; sent = nodes.sent; member = with_member nodes.member a (Some (record { volatile = member.volatile; inputs = member.inputs ++ input ∷ [] })) }

abbrev pub nodes_released : Cluster → Nodes → ℕ → Option Member → Nodes
nodes_released cluster nodes a None = nodes
nodes_released cluster nodes a (Some member) =
    let node = node_at nodes.ledger a member.volatile in
    let made = run_of_inputs cluster a node member.inputs in
    record {
      ledger = entries_made a made ++ nodes.ledger;
      sent = nodes.sent ++ messages_sent made;
      member = with_member nodes.member a (Some (record { volatile = (after_run cluster a node member.inputs).volatile; inputs = [] }));
    }

abbrev pub nodes_booted : Nodes → ℕ → Nodes
nodes_booted nodes a = record {
  ledger = Added a (next_boot (facts_of nodes.ledger a)) ∷ nodes.ledger;
  sent = nodes.sent;
  member = with_member nodes.member a (Some (record { volatile = initial_volatile; inputs = [] }));
}

abbrev pub nodes_after_event : Cluster → Nodes → NodeEvent → Nodes
nodes_after_event cluster nodes (NodeEvent.Boot a) = if is_centre cluster a then nodes_booted nodes a else nodes
nodes_after_event cluster nodes (NodeEvent.Take a input) = input_taken_by nodes a input (nodes.member a)
nodes_after_event cluster nodes (NodeEvent.Release a) = nodes_released cluster nodes a (nodes.member a)
nodes_after_event cluster nodes (NodeEvent.Crash a) = record { ledger = nodes.ledger; sent = nodes.sent; member = with_member nodes.member a None }

abbrev pub nodes_after_events : Cluster → Nodes → List NodeEvent → Nodes
nodes_after_events cluster nodes [] = nodes
nodes_after_events cluster nodes (event ∷ events) = nodes_after_events cluster (nodes_after_event cluster nodes event) events

-- ---- the network

-- a message that comes was sent before, perhaps long ago, and to whomever; parts that are begun make a transaction
abbrev pub MayTakeInput : Cluster → Nodes → Input → Type 0
MayTakeInput cluster nodes (Input.Message envelope) = In envelope nodes.sent
MayTakeInput cluster nodes (Input.Begin parts) = IsTransaction cluster.schema parts
MayTakeInput cluster nodes input = ⊤

abbrev pub MayHappen : Cluster → Nodes → NodeEvent → Type 0
MayHappen cluster nodes (NodeEvent.Take a input) = MayTakeInput cluster nodes input
MayHappen cluster nodes event = ⊤

abbrev pub MayAllHappen : Cluster → Nodes → List NodeEvent → Type 0
MayAllHappen cluster nodes [] = ⊤
MayAllHappen cluster nodes (event ∷ events) = MayHappen cluster nodes event × MayAllHappen cluster (nodes_after_event cluster nodes event) events

-- ---- what holds

-- the ledger is as it is to be, all messages told the truth when they were sent, and what each node took since its last group may become durable
pub record AreSound (also : List Entry → Type 0) (cluster : Cluster) (nodes : Nodes) : Type 0 where
  pub ledger : IsSoundLedger also cluster nodes.ledger
  pub sent : Each (TrueWhenSent cluster nodes.ledger) nodes.sent
  pub groups : (a : ℕ) (member : Member) → nodes.member a ≡ Some member → IsGroup also cluster nodes.ledger a member.volatile member.inputs

abbrev pub EventsKeepSound : Type 0
EventsKeepSound =
    AreGood IsSound → (cluster : Cluster) (nodes : Nodes) (events : List NodeEvent) → AreSound IsSound cluster nodes → MayAllHappen cluster nodes events
    → AreSound IsSound cluster (nodes_after_events cluster nodes events)

abbrev pub NodesAreSound : Type 0
NodesAreSound =
    AreGood IsSound → (cluster : Cluster) → AreQuorums cluster.quorums → (events : List NodeEvent) → MayAllHappen cluster no_nodes events
    → AreSound IsSound cluster (nodes_after_events cluster no_nodes events)
