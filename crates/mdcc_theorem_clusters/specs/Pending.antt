-- What is pending at a centre that is served is what its group made; it grows by turns, and when it goes out it is true.
use Rattle.std.specs.List.{AllByRecursion}
use Rattle.std.specs.Prelude.{List, Some, [], ℕ, ◌++◌, ◌≡◌, ◌⊎◌}
use Rattle.mdcc_config.specs.declared.config.Config.{Config}
use Rattle.mdcc_def_ledger.specs.Ledger.{Entry, facts_of}
use Rattle.mdcc_def_messages.specs.declared.messages.Envelope.{Envelope}
use Rattle.mdcc_option.specs.declared.cluster.Cluster.{Cluster}
use Rattle.mdcc_def_protocol.specs.Facts.{epoch_of}
use Rattle.mdcc_def_protocol.specs.Volatile.{Volatile}
use Rattle.mdcc_def_rules.specs.declared.node.Input.{Input}
use Rattle.mdcc_theorem_server_runs.specs.Inputs.{turn_inputs}
use Rattle.mdcc_theorem_server_runs.specs.Told.{IsOwed}
use Rattle.mdcc_frag.specs.Joining.{join}
use Rattle.mdcc_def_server_runs.specs.Acts.{Act}
use Rattle.mdcc_def_server_runs.specs.Arrivals.{Arrival, arrival_of}
use Rattle.mdcc_def_server_runs.specs.Runs.{NodeState, after_run, facts_added, messages_sent, outcomes_heard, run_of_inputs}
use Rattle.mdcc_def_server_runs.specs.Sending.{persist_then_send}
use Rattle.mdcc_def_server_runs.specs.Sites.{Site}
use Rattle.mdcc_def_server_runs.specs.Turns.{Given, own_received, turn_inputs_taken}
use Rattle.mdcc_theorem_node_steps.specs.Inputs.{IsWellFormedInput}
use Rattle.mdcc_theorem_trace_states.specs.MessageMeaning.{TrueWhenSent}
use Rattle.mdcc_theorem_trace_states.specs.Words.{Each}
use Rattle.mdcc_theorem_worlds.specs.StepSends.{OthersBeginNothing}
use Rattle.mdcc_theorem_clusters.specs.Answers.{AnswersAt, IsAnswered}
use Rattle.mdcc_theorem_clusters.specs.Asked.{CameAsked, WasReceived}
use Rattle.mdcc_theorem_clusters.specs.Formed.{StepLaws}
use Rattle.mdcc_theorem_commit_groups.specs.Groups.{IsGroup, IsHeardIn, entries_made, node_at}

-- What is pending at centre a is what this node made of the group's inputs, with answers to its client among the messages.
pub record PendsAt (cluster : Cluster) (a : ℕ) (node : NodeState) (inputs : List Input) (site : Site) : Type 0 where
  pub centre_is : site.centre ≡ a
  pub node_is : site.node ≡ after_run cluster a node inputs
  pub facts_are : site.pending.facts ≡ facts_added (run_of_inputs cluster a node inputs)
  pub heard_are : site.pending.heard ≡ outcomes_heard (run_of_inputs cluster a node inputs)
  pub owed : AllByRecursion (IsOwed a (messages_sent (run_of_inputs cluster a node inputs))) site.pending.envelopes

-- the node is that of the ledger
abbrev pub Pends : Cluster → List Entry → ℕ → Volatile → List Input → Site → Type 0
Pends cluster es a volatile inputs site = PendsAt cluster a (node_at es a volatile) inputs site

-- a turn adds its inputs to the group
abbrev pub TurnsPend : Type 0
TurnsPend =
    (config : Config) (es : List Entry) (a : ℕ) (volatile : Volatile) (inputs : List Input) (site : Site) (given : Given)
    → Pends config.cluster es a volatile inputs site
    → Pends config.cluster es a volatile (inputs ++ turn_inputs config site given) (turn_inputs_taken config site given).site

-- a message that comes whole at its client's endpoint in this turn came in pieces that were received there
abbrev pub RequestsCome : Config → (ℕ → List ℕ → Type 0) → ℕ → Site → Given → Type 0
RequestsCome config was_received a site given =
    (bytes : List ℕ) → given.asked ≡ Some bytes → (envelope : Envelope)
    → arrival_of (join bytes (own_received config site given.own).site.asked).answer ≡ Arrival.Whole envelope → CameAsked was_received a envelope.message

abbrev pub TurnsAnswer : Type 0
TurnsAnswer =
    StepLaws → OthersBeginNothing → (config : Config) (done : List (ℕ × Act)) (es : List Entry) (a : ℕ) (node : NodeState) (inputs : List Input) (site : Site) (given : Given)
    → RequestsCome config (WasReceived done) a site given → Each IsWellFormedInput (turn_inputs config site given) → AnswersAt config (WasReceived done) es a node inputs site
    → AnswersAt config (WasReceived done) es a node (inputs ++ turn_inputs config site given) (turn_inputs_taken config site given).site

-- a message told the truth when it was sent, or is an answer to the client that is true
abbrev pub IsToldTrue : Config → (ℕ → List ℕ → Type 0) → List Entry → ℕ → ℕ → Envelope → Type 0
IsToldTrue config was_received now a epoch envelope = TrueWhenSent config.cluster now envelope ⊎ IsAnswered config was_received now a epoch envelope

-- When it goes out over this ledger, which has the group: the facts are those of the group, the messages and the outcomes that are printed are true,
-- and a new group begins, in which nothing is pending.
pub record GoesOut (config : Config) (was_received : ℕ → List ℕ → Type 0) (es : List Entry) (a : ℕ) (volatile : Volatile) (inputs : List Input) (site : Site) (now : List Entry) : Type 0 where
  pub heard : Each (IsHeardIn now a) site.pending.heard
  pub mail : AllByRecursion (IsToldTrue config was_received now a (epoch_of (facts_of now a))) site.pending.envelopes
  pub next : Pends config.cluster now a (after_run config.cluster a (node_at es a volatile) inputs).volatile [] (persist_then_send config site).site
  pub answers : AnswersAt config was_received now a (node_at now a (after_run config.cluster a (node_at es a volatile) inputs).volatile) [] (persist_then_send config site).site

abbrev pub PendingGoesOut : (List Entry → Type 0) → Type 0
PendingGoesOut also =
    (config : Config) (done : List (ℕ × Act)) (es : List Entry) (a : ℕ) (volatile : Volatile) (inputs : List Input) (site : Site)
    → IsGroup also config.cluster es a volatile inputs → Pends config.cluster es a volatile inputs site → AnswersAt config (WasReceived done) es a (node_at es a volatile) inputs site
    → GoesOut config (WasReceived done) es a volatile inputs site (entries_made a (run_of_inputs config.cluster a (node_at es a volatile) inputs) ++ es)
