-- What a centre took since its last append, as one group: what it adds to the ledger when it becomes durable.
use Rattle.std.specs.Prelude.{Bool, Err, List, None, Ok, Option, Result, Some, [], false, true, ℕ, ◌++◌, ◌==◌, ◌∷◌, ◌≡◌}
use Rattle.mdcc_base.specs.AreQuorums.{AreQuorums}
use Rattle.mdcc_base.specs.declared.identifiers.TxId.{TxId}
use Rattle.mdcc_option.specs.declared.choices.Outcome.{Outcome}
use Rattle.mdcc_option.specs.declared.cluster.Cluster.{Cluster}
use Rattle.mdcc_def_ledger.specs.AllowedLedgers.{IsAllowed}
use Rattle.mdcc_def_ledger.specs.Ledger.{Added, Entry, facts_of}
use Rattle.mdcc_def_messages.specs.declared.facts.Fact.{Fact}
use Rattle.mdcc_def_protocol.specs.Belongs.{is_centre}
use Rattle.mdcc_def_protocol.specs.Marks.{is_commit}
use Rattle.mdcc_def_protocol.specs.Volatile.{Volatile, initial_volatile}
use Rattle.mdcc_def_rules.specs.Boot.{next_boot}
use Rattle.mdcc_def_rules.specs.Steps.{NodeStep}
use Rattle.mdcc_def_rules.specs.declared.node.Input.{Input}
use Rattle.mdcc_def_rules.specs.declared.node.StepFault.{StepFault}
use Rattle.mdcc_def_server_runs.specs.Runs.{NodeState, after_run, facts_added, messages_sent, outcomes_heard, run_of_inputs}
use Rattle.mdcc_theorem_trace_states.specs.Invariant.{IsOf}
use Rattle.mdcc_theorem_trace_states.specs.MessageMeaning.{TrueWhenSent}
use Rattle.mdcc_theorem_trace_states.specs.Sound.{IsSound}
use Rattle.mdcc_theorem_trace_states.specs.Steps.{AreGood, IsFair, IsUp}
use Rattle.mdcc_theorem_trace_states.specs.VolatileInvariant.{ArePlaced}
use Rattle.mdcc_theorem_trace_states.specs.Words.{Each, In}

-- ---- the ledger's part of steps

-- what a step adds to the ledger: its fact, or the entries that no log keeps
abbrev pub entries_by : ℕ → NodeStep → Option Fact → List Entry
entries_by a step None = step.entries
entries_by a step (Some fact) = Added a fact ∷ []

abbrev pub entries_made_by : ℕ → Result NodeStep StepFault → List Entry
entries_made_by a (Ok step) = entries_by a step step.fact
entries_made_by a (Err fault) = []

-- what the steps of centre a add, the newest first
abbrev pub entries_made : ℕ → List (Result NodeStep StepFault) → List Entry
entries_made a [] = []
entries_made a (result ∷ made) = entries_made a made ++ entries_made_by a result

-- the facts in a ledger, each with its centre, the newest first
abbrev pub facts_added_in : List Entry → List (ℕ × Fact)
facts_added_in [] = []
facts_added_in (Added a fact ∷ es) = (a, fact) ∷ facts_added_in es
facts_added_in (e ∷ es) = facts_added_in es

-- these facts of a centre, the oldest first, onto those
abbrev pub facts_onto : ℕ → List Fact → List (ℕ × Fact) → List (ℕ × Fact)
facts_onto a [] all = all
facts_onto a (fact ∷ facts) all = facts_onto a facts ((a, fact) ∷ all)

-- ---- a group

-- a node whose facts are those that the ledger has of centre a
abbrev pub node_at : List Entry → ℕ → Volatile → NodeState
node_at es a volatile = record { facts = facts_of es a; volatile = volatile }

-- a ledger as it is to be
pub record IsSoundLedger (also : List Entry → Type 0) (cluster : Cluster) (es : List Entry) : Type 0 where
  pub sizes : AreQuorums cluster.quorums
  pub legal : IsAllowed cluster es
  pub placed : ArePlaced es
  pub more : also es

-- the centre has the fact that it heard this outcome
pub record IsHeardIn (es : List Entry) (a : ℕ) (heard : TxId × Bool) : Type 0 where
  pub outcome : Outcome
  pub added : In (Added a (Fact.Heard heard.0 outcome)) es
  pub same : heard.1 ≡ is_commit outcome

-- What centre a took since its last append: each input was fair, and the ledger shows what it kept before them.
pub record IsGroup (also : List Entry → Type 0) (cluster : Cluster) (es : List Entry) (a : ℕ) (volatile : Volatile) (inputs : List Input) : Type 0 where
  pub up : IsUp also cluster es a volatile
  pub fair : Each (IsFair cluster es) inputs

-- When it is durable the ledger has its entries, all of them this centre's, and is as it is to be; its messages are true; the centre has a fact for
-- each outcome that it heard; it goes on with what it keeps after the group; and the facts came in the order of its steps.
pub record IsRunDurable (also : List Entry → Type 0) (cluster : Cluster) (es : List Entry) (a : ℕ) (made : List (Result NodeStep StepFault)) (end : NodeState) : Type 0 where
  pub own : Each (IsOf a) (entries_made a made)
  pub up : IsUp also cluster (entries_made a made ++ es) a end.volatile
  pub facts : facts_of (entries_made a made ++ es) a ≡ end.facts
  pub sends : Each (TrueWhenSent cluster (entries_made a made ++ es)) (messages_sent made)
  pub heard : Each (IsHeardIn (entries_made a made ++ es) a) (outcomes_heard made)
  pub added : facts_added_in (entries_made a made ++ es) ≡ facts_onto a (facts_added made) (facts_added_in es)

-- ---- what is proved of groups

-- a group may become durable, all of it
abbrev pub GroupsBecomeDurable : (List Entry → Type 0) → Type 0
GroupsBecomeDurable also =
    (cluster : Cluster) (es : List Entry) (a : ℕ) (volatile : Volatile) (inputs : List Input) → IsGroup also cluster es a volatile inputs
    → IsRunDurable also cluster es a (run_of_inputs cluster a (node_at es a volatile) inputs) (after_run cluster a (node_at es a volatile) inputs)

-- and still may after entries of other centres
abbrev pub GroupsLast : (List Entry → Type 0) → Type 0
GroupsLast also =
    (cluster : Cluster) (new es : List Entry) (a b : ℕ) (volatile : Volatile) (inputs : List Input) → (b == a) ≡ false → Each (IsOf b) new
    → IsSoundLedger also cluster (new ++ es) → IsGroup also cluster es a volatile inputs → IsGroup also cluster (new ++ es) a volatile inputs

-- what a crash loses is lost: over what is in the ledger then a boot begins a new group, with nothing kept
abbrev pub BootsBeginGroups : (List Entry → Type 0) → Type 0
BootsBeginGroups also =
    (cluster : Cluster) (es : List Entry) (a : ℕ) → is_centre cluster a ≡ true → IsSoundLedger also cluster es
    → IsGroup also cluster (Added a (next_boot (facts_of es a)) ∷ es) a initial_volatile []

-- all three, where each step of a node is good
pub record GroupsStand (also : List Entry → Type 0) : Type 0 where
  pub durable : GroupsBecomeDurable also
  pub last : GroupsLast also
  pub boots : BootsBeginGroups also

abbrev pub GoodStepsSuffice : Type 0
GoodStepsSuffice = AreGood IsSound → GroupsStand IsSound
