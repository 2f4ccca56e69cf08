-- What an answer to a client tells, when it goes out and while it is pending.
use Rattle.std.specs.List.{AllByRecursion}
use Rattle.std.specs.Prelude.{Bool, Err, List, Result, Some, ℕ, ◌≡◌, ◌⊎◌}
use Rattle.mdcc_base.specs.declared.identifiers.TxId.{TxId}
use Rattle.mdcc_config.specs.declared.config.Config.{Config}
use Rattle.mdcc_def_ledger.specs.Ledger.{Entry, facts_of}
use Rattle.mdcc_def_messages.specs.declared.facts.Fact.{Fact}
use Rattle.mdcc_def_messages.specs.declared.messages.ClientAnswer.{ClientAnswer}
use Rattle.mdcc_def_messages.specs.declared.messages.Envelope.{Envelope}
use Rattle.mdcc_def_messages.specs.declared.messages.Message.{Message}
use Rattle.mdcc_def_messages.specs.WellFormed.{IsWellFormedMessage}
use Rattle.mdcc_def_messages.specs.WellFormedParts.{IsWellFormedTx}
use Rattle.mdcc_option.specs.Transaction.{choices_of, transaction_of}
use Rattle.mdcc_option.specs.declared.choices.Outcome.{Outcome}
use Rattle.mdcc_option.specs.declared.choices.Choice.{Choice}
use Rattle.mdcc_option.specs.declared.faults.DraftFault.{DraftFault}
use Rattle.mdcc_option.specs.declared.items.Known.{Known}
use Rattle.mdcc_option.specs.declared.items.Part.{Part}
use Rattle.mdcc_def_protocol.specs.Facts.{epoch_of}
use Rattle.mdcc_def_protocol.specs.Marks.{is_commit}
use Rattle.mdcc_def_protocol.specs.Visible
use Rattle.mdcc_theorem_reports.specs.Origins.{WasRead}
use Rattle.mdcc_def_rules.specs.Steps.{NodeStep}
use Rattle.mdcc_def_rules.specs.declared.node.Input.{Input}
use Rattle.mdcc_def_rules.specs.declared.node.StepFault.{StepFault}
use Rattle.mdcc_theorem_server_runs.specs.Told.{IsEnvelopeOf}
use Rattle.mdcc_def_server_runs.specs.Clients.{begun_for, known_of}
use Rattle.mdcc_def_server_runs.specs.Runs.{NodeState, after_run, messages_sent, run_of_inputs}
use Rattle.mdcc_def_server_runs.specs.Sending.{answer_to}
use Rattle.mdcc_def_server_runs.specs.Sites.{Site}
use Rattle.mdcc_def_server_runs.specs.declared.clients.Begun.{Begun}
use Rattle.mdcc_def_simulation.specs.Clients.{known_of_reading}
use Rattle.mdcc_theorem_node_steps.specs.NodeInvariant.{IsNode}
use Rattle.mdcc_theorem_trace_states.specs.Words.{In, IsTail}
use Rattle.mdcc_theorem_clusters.specs.Asked.{CameAsked, WasAskedUnder}
use Rattle.mdcc_theorem_commit_groups.specs.Groups.{IsHeardIn, entries_made}

-- ---- over a ledger

-- the centre began the transaction for a request under this serial, which it received
pub record IsBegunFor (config : Config) (was_received : ℕ → List ℕ → Type 0) (es : List Entry) (a serial : ℕ) (tx : TxId) : Type 0 where
  pub parts : List Part
  pub asked : WasAskedUnder config was_received a serial parts
  pub begun : In (Entry.Begun a tx (choices_of tx parts)) es

-- its client asked so for parts that make a transaction
pub record IsAskedUnder (config : Config) (was_received : ℕ → List ℕ → Type 0) (a serial : ℕ) : Type 0 where
  pub parts : List Part
  pub asked : WasAskedUnder config was_received a serial parts

-- or for parts that make none, by this fault
pub record IsNoDraft (config : Config) (was_received : ℕ → List ℕ → Type 0) (a serial : ℕ) (fault : DraftFault) : Type 0 where
  pub asked : List Part
  pub request : CameAsked was_received a (Message.ClientBegin serial asked)
  pub makes : transaction_of config.cluster.schema asked ≡ Err fault

-- the centre showed this by facts that it had in the life of this epoch: so they are no older than its boot
pub record WasReadInLife (es : List Entry) (a epoch : ℕ) (known : Known) : Type 0 where
  pub read : WasRead es a known
  pub life : epoch_of (facts_of read.before a) ≡ epoch

-- What an answer to a client under this serial tells, in the life of this epoch: the centre heard this outcome of the transaction that a request
-- under this serial began, or it showed this of the key that one asked for, or it began that transaction, or would not.
abbrev pub IsTrueAnswer : Config → (ℕ → List ℕ → Type 0) → List Entry → ℕ → ℕ → ℕ → ClientAnswer → Type 0
IsTrueAnswer config was_received es a epoch serial (ClientAnswer.Heard tx is_commit) = IsHeardIn es a (tx, is_commit) × IsBegunFor config was_received es a serial tx
IsTrueAnswer config was_received es a epoch serial (ClientAnswer.Read key token item due) =
    WasReadInLife es a epoch (record { key = key; token = token; item = item }) × CameAsked was_received a (Message.ClientRead serial key)
IsTrueAnswer config was_received es a epoch serial (ClientAnswer.Begun tx) = IsBegunFor config was_received es a serial tx
IsTrueAnswer config was_received es a epoch serial (ClientAnswer.Refused key fault) = IsAskedUnder config was_received a serial
IsTrueAnswer config was_received es a epoch serial (ClientAnswer.Draft fault) = IsNoDraft config was_received a serial fault

pub record IsAnswered (config : Config) (was_received : ℕ → List ℕ → Type 0) (es : List Entry) (a epoch : ℕ) (envelope : Envelope) : Type 0 where
  pub serial : ℕ
  pub answer : ClientAnswer
  pub is : envelope ≡ answer_to a serial answer
  pub told : IsTrueAnswer config was_received es a epoch serial answer

-- ---- while it is pending

-- by these facts of the centre
pub record HasHeard (facts : List Fact) (tx : TxId) (commits : Bool) : Type 0 where
  pub outcome : Outcome
  pub one_of : In (Fact.Heard tx outcome) facts
  pub same : commits ≡ is_commit outcome

-- by the facts that it had once, in this life
pub record WasShown (facts : List Fact) (known : Known) : Type 0 where
  pub old : List Fact
  pub tail : IsTail old facts
  pub shown : known ≡ known_of_reading known.key (Visible.read old known.key)
  pub life : epoch_of old ≡ epoch_of facts

-- it is begun in the ledger, or will be by what the centre made
pub record IsBegunOnceDurable (config : Config) (was_received : ℕ → List ℕ → Type 0) (es : List Entry) (a : ℕ) (made : List (Result NodeStep StepFault)) (serial : ℕ) (tx : TxId) : Type 0 where
  pub parts : List Part
  pub asked : WasAskedUnder config was_received a serial parts
  pub formed : IsWellFormedTx tx
  pub begun : In (Entry.Begun a tx (choices_of tx parts)) es ⊎ In (Entry.Begun a tx (choices_of tx parts)) (entries_made a made)

abbrev pub IsTrueOnceDurable : Config → (ℕ → List ℕ → Type 0) → List Entry → ℕ → List (Result NodeStep StepFault) → List Fact → ℕ → ClientAnswer → Type 0
IsTrueOnceDurable config was_received es a made facts serial (ClientAnswer.Heard tx is_commit) = HasHeard facts tx is_commit × IsBegunOnceDurable config was_received es a made serial tx
IsTrueOnceDurable config was_received es a made facts serial (ClientAnswer.Read key token item due) =
    WasShown facts (record { key = key; token = token; item = item }) × CameAsked was_received a (Message.ClientRead serial key)
IsTrueOnceDurable config was_received es a made facts serial (ClientAnswer.Begun tx) = IsBegunOnceDurable config was_received es a made serial tx
IsTrueOnceDurable config was_received es a made facts serial (ClientAnswer.Refused key fault) = IsAskedUnder config was_received a serial
IsTrueOnceDurable config was_received es a made facts serial (ClientAnswer.Draft fault) = IsNoDraft config was_received a serial fault

pub record IsAnsweredOnceDurable (config : Config) (was_received : ℕ → List ℕ → Type 0) (es : List Entry) (a : ℕ) (made : List (Result NodeStep StepFault)) (facts : List Fact) (envelope : Envelope) : Type 0 where
  pub serial : ℕ
  pub answer : ClientAnswer
  pub is : envelope ≡ answer_to a serial answer
  pub soon : IsTrueOnceDurable config was_received es a made facts serial answer
  pub formed : IsWellFormedMessage (Message.ClientAnswer serial answer)

-- one of the messages that its node made, or such an answer
abbrev pub IsOwedOnceDurable : Config → (ℕ → List ℕ → Type 0) → List Entry → ℕ → List (Result NodeStep StepFault) → List Fact → Envelope → Type 0
IsOwedOnceDurable config was_received es a made facts envelope = IsEnvelopeOf (messages_sent made) envelope ⊎ IsAnsweredOnceDurable config was_received es a made facts envelope

-- a transaction that the centre made was begun for a request under a serial for which it is found now, in this life
pub record IsMadeFor (config : Config) (was_received : ℕ → List ℕ → Type 0) (a : ℕ) (site : Site) (tx : TxId) (choices : List Choice) : Type 0 where
  pub serial : ℕ
  pub parts : List Part
  pub asked : WasAskedUnder config was_received a serial parts
  pub are : choices ≡ choices_of tx parts
  pub found : begun_for site.clients serial ≡ Some tx
  pub centre : tx.centre ≡ a
  pub epoch : tx.epoch ≡ epoch_of site.node.facts

-- What is pending at a centre, and what it keeps of its client's transactions: what was begun for a serial is begun for it or will be, and so is each
-- that is known; and what is known of their ends it has heard.
pub record AnswersAt (config : Config) (was_received : ℕ → List ℕ → Type 0) (es : List Entry) (a : ℕ) (node : NodeState) (inputs : List Input) (site : Site) : Type 0 where
  pub centre_is : site.centre ≡ a
  pub node_is : site.node ≡ after_run config.cluster a node inputs
  pub node_formed : IsNode config.cluster a site.node.facts site.node.volatile
  pub mail : AllByRecursion (IsOwedOnceDurable config was_received es a (run_of_inputs config.cluster a node inputs) site.node.facts) site.pending.envelopes
  pub begun : (serial : ℕ) (tx : TxId) → begun_for site.clients serial ≡ Some tx → IsBegunOnceDurable config was_received es a (run_of_inputs config.cluster a node inputs) serial tx
  pub made_for : (b : ℕ) (tx : TxId) (choices : List Choice) → In (Entry.Begun b tx choices) (entries_made a (run_of_inputs config.cluster a node inputs))
      → (b ≡ a) × IsMadeFor config was_received a site tx choices
  pub noted : (tx : TxId) (one : Begun) → known_of site.clients tx ≡ Some one → IsBegunOnceDurable config was_received es a (run_of_inputs config.cluster a node inputs) one.serial tx
  pub ended : (tx : TxId) (one : Begun) (commits : Bool) → known_of site.clients tx ≡ Some one → one.ended ≡ Some commits → HasHeard site.node.facts tx commits
