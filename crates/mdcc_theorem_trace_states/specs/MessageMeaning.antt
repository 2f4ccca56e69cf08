-- What each message that was sent tells of the ledger.
use Rattle.std.specs.Prelude.{List, Some, false, map, true, ℕ, ⊤, ◌<◌, ◌≡◌, ◌≤◌}
use Rattle.mdcc_base.specs.Ballot.{is_fast}
use Rattle.mdcc_option.specs.declared.cluster.Cluster.{Cluster}
use Rattle.mdcc_def_protocol.specs.Facts.{are_heard, is_finished, base_of, current_of, executed_of, promised_through, report_of}
use Rattle.mdcc_def_ledger.specs.Ledger.{Entry, facts_of, mark_given, outcome_of}
use Rattle.mdcc_def_ledger.specs.AllowedLedgers.{is_valued}
use Rattle.mdcc_def_ledger.specs.AllowedStructures.{is_begun}
use Rattle.mdcc_def_protocol.specs.Belongs.{ballot_belongs, cause_belongs, is_centre, message_belongs, tx_belongs}
use Rattle.mdcc_def_messages.specs.declared.messages.Envelope.{Envelope}
use Rattle.mdcc_def_messages.specs.declared.messages.Message.{Message}
use Rattle.mdcc_theorem_trace_states.specs.Words.{IsTail}

-- What a message from a centre tells of the ledger at the time when it was sent:
-- a proposal or a claim, that its choice was begun; a vote, that the centre gives it; an outcome, that it is the outcome;
-- a prepare, that its ballot is a classic one of the centre, and its range not empty; a promise, that the centre promised
-- this range, and what it voted below; an accept, that the structure was sent; data, that the centre held just this.
-- A refusal, an escalation and a question tell nothing, but that the ballots and transactions in them are of the cluster.
-- No centre sends what only a client or its server sends
abbrev pub Says : Cluster → List Entry → ℕ → Message → Type 0
Says cluster old a (Message.Propose choice) = is_begun old choice ≡ true
Says cluster old a (Message.Lead choice) = is_begun old choice ≡ true
Says cluster old a (Message.Voted key version ballot tx mark) = mark_given old key version ballot tx a ≡ Some mark
Says cluster old a (Message.Outcome tx outcome) = outcome_of cluster.quorums old tx ≡ Some outcome
Says cluster old a (Message.Prepare key version through ballot) = (is_fast ballot ≡ false) × (version ≤ through) × (ballot.centre ≡ a)
Says cluster old a (Message.Promise key version through ballot reported votes) =
    (promised_through (facts_of old a) key version ballot ≡ Some through) × (version ≤ through)
    × (report_of 0 (facts_of old a) key version ballot ≡ record { centre = 0; ballot = reported; votes = votes })
    × (is_fast ballot ≡ false)
Says cluster old a (Message.Accept key version ballot options) = (is_fast ballot ≡ false) × (is_valued old key version ballot options ≡ true)
Says cluster old a (Message.SyncGive key version item adds) =
    (current_of (facts_of old a) key ≡ version) × (base_of (facts_of old a) key ≡ Some item)
    × (executed_of (facts_of old a) key ≡ map (λ delta. (delta.tx, delta.amounts)) adds)
Says cluster old a (Message.Refused key version ballot promised) = (ballot_belongs cluster ballot ≡ true) × (ballot_belongs cluster promised ≡ true)
Says cluster old a (Message.Escalate key version tx cause) = (tx_belongs cluster tx ≡ true) × (cause_belongs cluster cause ≡ true)
Says cluster old a (Message.Ask tx key version) = tx_belongs cluster tx ≡ true
Says cluster old a (Message.SyncAsk key) = ⊤
Says cluster old a (Message.ClientRead serial key) = ⊥
Says cluster old a (Message.ClientBegin serial parts) = ⊥
Says cluster old a (Message.ClientAnswer serial answer) = ⊥
Says cluster old a (Message.Mark centre epoch seq) = (0 < seq) × (are_heard (facts_of old a) centre epoch seq ≡ true)
Says cluster old a (Message.Finished tx) = is_finished (facts_of old a) tx ≡ true

-- a message came from a centre, and told something true of the ledger as it was at some time
pub record TrueWhenSent (cluster : Cluster) (es : List Entry) (envelope : Envelope) : Type 0 where
  pub from : is_centre cluster envelope.from ≡ true
  pub old : List Entry
  pub tail : IsTail old es
  pub says : Says cluster old envelope.from envelope.message

-- what a message tells stays so in every later ledger, but for data, which are overtaken, and for reports, of which marks are forgotten
abbrev pub IsLasting : Message → Type 0
IsLasting (Message.SyncGive key version item adds) = ⊥
IsLasting (Message.Promise key version through ballot reported votes) = ⊥
IsLasting _ = ⊤

-- a message told the truth when it was sent, and it still does where that lasts; and it is of the cluster, so that no node
-- refuses it as foreign
pub record IsBackedMessage (cluster : Cluster) (ledger : List Entry) (envelope : Envelope) : Type 0 where
  pub sent : TrueWhenSent cluster ledger envelope
  pub still : IsLasting envelope.message → Says cluster ledger envelope.from envelope.message
  pub belongs : message_belongs cluster envelope.message ≡ true
