-- Which messages and facts are well-formed: each field meets the ranges and orders that its bytes have.
-- Each condition is a record, and beside it stands the test that computes.
use Rattle.std.specs.Prelude.{◌≡◌, ℕ, ◌-◌, ◌^◌, ◌<◌, ◌≤◌, ◌⊎◌, Bool, true, false, ◌&&◌, ◌||◌, IsTrue, nat_le, ◌==◌, ⊤, List, length, Option, Some, None}
use Rattle.std.specs.Int.{IsInRange, is_in_range}
use Rattle.std.specs.List.{AllByRecursion, list_all}
use Rattle.mdcc_base.specs.declared.identifiers.Ballot.{Ballot}
use Rattle.mdcc_base.specs.declared.identifiers.TxId.{TxId}
use Rattle.mdcc_base.specs.Key.{IsKey, key_eq}
use Rattle.mdcc_option.specs.declared.items.Item.{Item}
use Rattle.mdcc_option.specs.declared.items.Part.{Part}
use Rattle.mdcc_option.specs.declared.items.Token.{Token}
use Rattle.mdcc_option.specs.declared.choices.Cause.{Cause}
use Rattle.mdcc_option.specs.declared.choices.Choice.{Choice}
use Rattle.mdcc_option.specs.declared.choices.Mark.{Mark}
use Rattle.mdcc_option.specs.declared.faults.BeginFault.{BeginFault}
use Rattle.mdcc_option.specs.declared.faults.BeginFault.TheVariants.{Stale, Unseen, NoItem, Sequence, Busy, Memory}
use Rattle.mdcc_option.specs.Parts.{are_parts_ascending}
use Rattle.mdcc_struct.specs.Options.{Marks}
use Rattle.mdcc_def_messages.specs.declared.messages.ClientAnswer.{ClientAnswer}
use Rattle.mdcc_def_messages.specs.declared.messages.ClientAnswer.TheVariants as answers
use Rattle.mdcc_def_messages.specs.declared.messages.Envelope.{Envelope}
use Rattle.mdcc_def_messages.specs.declared.messages.Message.{Message}
use Rattle.mdcc_def_messages.specs.declared.messages.Message.TheVariants as messages
use Rattle.mdcc_def_messages.specs.declared.facts.Fact.{Fact}
use Rattle.mdcc_def_messages.specs.declared.facts.Fact.TheVariants as facts
use Rattle.mdcc_def_messages.specs.WellFormedParts.{is_u32, is_u64, is_well_formed_key, IsWellFormedTx, is_well_formed_tx, IsWellFormedClassic, is_well_formed_classic, IsWellFormedBallot, is_well_formed_ballot, IsWellFormedItem, is_well_formed_item, IsWellFormedSeen, is_well_formed_seen, IsWellFormedPart, is_well_formed_part, IsWellFormedChoice, is_well_formed_choice, IsWellFormedEntry, is_well_formed_entry, IsWellFormedOptions, is_well_formed_options, IsWellFormedHeard, is_well_formed_heard, IsWellFormedCause, is_well_formed_cause, IsWellFormedInstance, is_well_formed_instance, IsWellFormedGiven, is_well_formed_given}

-- ---- what a client is answered

pub record IsWellFormedToken (token : Token) : Type 0 where
  pub version : token.version < 2 ^ 64
  pub seen : IsWellFormedSeen token.seen

abbrev pub is_well_formed_token : Token → Bool
is_well_formed_token token = is_u64 token.version && is_well_formed_seen token.seen

-- the item, where there is one
abbrev pub IsWellFormedShown : Option Item → Type 0
IsWellFormedShown None = ⊤
IsWellFormedShown (Some item) = IsWellFormedItem item

abbrev pub is_well_formed_shown : Option Item → Bool
is_well_formed_shown None = true
is_well_formed_shown (Some item) = is_well_formed_item item

-- want of memory is never answered
abbrev pub IsWellFormedRefusal : BeginFault → Type 0
IsWellFormedRefusal (Stale token) = IsWellFormedToken token
IsWellFormedRefusal (Unseen version) = version < 2 ^ 64
IsWellFormedRefusal NoItem = ⊤
IsWellFormedRefusal Sequence = ⊤
IsWellFormedRefusal Busy = ⊤
IsWellFormedRefusal Memory = ⊥

abbrev pub is_well_formed_refusal : BeginFault → Bool
is_well_formed_refusal (Stale token) = is_well_formed_token token
is_well_formed_refusal (Unseen version) = is_u64 version
is_well_formed_refusal NoItem = true
is_well_formed_refusal Sequence = true
is_well_formed_refusal Busy = true
is_well_formed_refusal Memory = false

pub record IsWellFormedRead (key : List ℕ) (token : Token) (item : Option Item) : Type 0 where
  pub key_itself : IsKey key
  pub token_itself : IsWellFormedToken token
  pub item_itself : IsWellFormedShown item

abbrev pub is_well_formed_read : List ℕ → Token → Option Item → Bool
is_well_formed_read key token item = is_well_formed_key key && is_well_formed_token token && is_well_formed_shown item

abbrev pub IsWellFormedAnswer : ClientAnswer → Type 0
IsWellFormedAnswer (answers.Read key token item due) = IsWellFormedRead key token item
IsWellFormedAnswer (answers.Begun tx) = IsWellFormedTx tx
IsWellFormedAnswer (answers.Refused key fault) = IsKey key × IsWellFormedRefusal fault
IsWellFormedAnswer (answers.Heard tx commit) = IsWellFormedTx tx
IsWellFormedAnswer (answers.Draft fault) = ⊤

abbrev pub is_well_formed_answer : ClientAnswer → Bool
is_well_formed_answer (answers.Read key token item due) = is_well_formed_read key token item
is_well_formed_answer (answers.Begun tx) = is_well_formed_tx tx
is_well_formed_answer (answers.Refused key fault) = is_well_formed_key key && is_well_formed_refusal fault
is_well_formed_answer (answers.Heard tx commit) = is_well_formed_tx tx
is_well_formed_answer (answers.Draft fault) = true

-- ---- messages

pub record IsWellFormedVoted (key : List ℕ) (version : ℕ) (ballot : Ballot) (tx : TxId) (mark : Mark) : Type 0 where
  pub instance : IsWellFormedInstance key version
  pub ballot_itself : IsWellFormedBallot ballot
  pub entry : IsWellFormedEntry key version tx mark

abbrev pub is_well_formed_voted : List ℕ → ℕ → Ballot → TxId → Mark → Bool
is_well_formed_voted key version ballot tx mark =
    is_well_formed_instance key version && is_well_formed_ballot ballot && is_well_formed_entry key version tx mark

pub record IsWellFormedEscalate (key : List ℕ) (version : ℕ) (tx : TxId) (cause : Cause) : Type 0 where
  pub instance : IsWellFormedInstance key version
  pub tx_itself : IsWellFormedTx tx
  pub cause_itself : IsWellFormedCause cause

abbrev pub is_well_formed_escalate : List ℕ → ℕ → TxId → Cause → Bool
is_well_formed_escalate key version tx cause =
    is_well_formed_instance key version && is_well_formed_tx tx && is_well_formed_cause cause

-- a range of versions of a key, and a ballot of a leader
pub record IsWellFormedPrepare (key : List ℕ) (version through : ℕ) (ballot : Ballot) : Type 0 where
  pub instance : IsWellFormedInstance key version
  pub not_below : version ≤ through
  pub through_fits : through < 2 ^ 64
  pub classic : IsWellFormedClassic ballot

abbrev pub is_well_formed_prepare : List ℕ → ℕ → ℕ → Ballot → Bool
is_well_formed_prepare key version through ballot =
    is_well_formed_instance key version && nat_le version through && is_u64 through && is_well_formed_classic ballot

pub record IsWellFormedPromise (key : List ℕ) (version through : ℕ) (ballot reported : Ballot) (votes : Marks) : Type 0 where
  pub prepare : IsWellFormedPrepare key version through ballot
  pub reported_itself : IsWellFormedBallot reported
  pub votes_itself : IsWellFormedOptions key version votes

abbrev pub is_well_formed_promise : List ℕ → ℕ → ℕ → Ballot → Ballot → Marks → Bool
is_well_formed_promise key version through ballot reported votes =
    is_well_formed_prepare key version through ballot && is_well_formed_ballot reported
    && is_well_formed_options key version votes

pub record IsWellFormedAccept (key : List ℕ) (version : ℕ) (ballot : Ballot) (options : Marks) : Type 0 where
  pub instance : IsWellFormedInstance key version
  pub classic : IsWellFormedClassic ballot
  pub options_itself : IsWellFormedOptions key version options

abbrev pub is_well_formed_accept : List ℕ → ℕ → Ballot → Marks → Bool
is_well_formed_accept key version ballot options =
    is_well_formed_instance key version && is_well_formed_classic ballot && is_well_formed_options key version options

pub record IsWellFormedRefused (key : List ℕ) (version : ℕ) (ballot promised : Ballot) : Type 0 where
  pub instance : IsWellFormedInstance key version
  pub classic : IsWellFormedClassic ballot
  pub promised_itself : IsWellFormedBallot promised

abbrev pub is_well_formed_refused : List ℕ → ℕ → Ballot → Ballot → Bool
is_well_formed_refused key version ballot promised =
    is_well_formed_instance key version && is_well_formed_classic ballot && is_well_formed_ballot promised

-- 1 to 8 parts, ascending by key
pub record IsWellFormedBegin (serial : ℕ) (parts : List Part) : Type 0 where
  pub serial_fits : serial < 2 ^ 32
  pub count : IsInRange 1 8 (length parts)
  pub each : AllByRecursion IsWellFormedPart parts
  pub ascending : IsTrue (are_parts_ascending parts)

abbrev pub is_well_formed_begin : ℕ → List Part → Bool
is_well_formed_begin serial parts =
    is_u32 serial && is_in_range 1 8 (length parts) && list_all is_well_formed_part parts && are_parts_ascending parts

abbrev pub IsWellFormedMessage : Message → Type 0
IsWellFormedMessage (messages.Propose choice) = IsWellFormedChoice choice
IsWellFormedMessage (messages.Voted key version ballot tx mark) = IsWellFormedVoted key version ballot tx mark
IsWellFormedMessage (messages.Escalate key version tx cause) = IsWellFormedEscalate key version tx cause
IsWellFormedMessage (messages.Lead choice) = IsWellFormedChoice choice
IsWellFormedMessage (messages.Prepare key version through ballot) = IsWellFormedPrepare key version through ballot
IsWellFormedMessage (messages.Promise key version through ballot reported votes) =
    IsWellFormedPromise key version through ballot reported votes
IsWellFormedMessage (messages.Accept key version ballot options) = IsWellFormedAccept key version ballot options
IsWellFormedMessage (messages.Refused key version ballot promised) = IsWellFormedRefused key version ballot promised
IsWellFormedMessage (messages.Outcome tx outcome) = IsWellFormedHeard tx outcome
IsWellFormedMessage (messages.Ask tx key version) = IsWellFormedTx tx × IsWellFormedInstance key version
IsWellFormedMessage (messages.SyncAsk key) = IsKey key
IsWellFormedMessage (messages.SyncGive key version item adds) = IsWellFormedGiven key version item adds
IsWellFormedMessage (messages.ClientRead serial key) = (serial < 2 ^ 32) × IsKey key
IsWellFormedMessage (messages.ClientBegin serial parts) = IsWellFormedBegin serial parts
IsWellFormedMessage (messages.ClientAnswer serial answer) = (serial < 2 ^ 32) × IsWellFormedAnswer answer
IsWellFormedMessage (messages.Mark centre epoch seq) = IsWellFormedTx (record { centre = centre; epoch = epoch; seq = seq })
IsWellFormedMessage (messages.Finished tx) = IsWellFormedTx tx

abbrev pub is_well_formed_message : Message → Bool
is_well_formed_message (messages.Propose choice) = is_well_formed_choice choice
is_well_formed_message (messages.Voted key version ballot tx mark) = is_well_formed_voted key version ballot tx mark
is_well_formed_message (messages.Escalate key version tx cause) = is_well_formed_escalate key version tx cause
is_well_formed_message (messages.Lead choice) = is_well_formed_choice choice
is_well_formed_message (messages.Prepare key version through ballot) = is_well_formed_prepare key version through ballot
is_well_formed_message (messages.Promise key version through ballot reported votes) =
    is_well_formed_promise key version through ballot reported votes
is_well_formed_message (messages.Accept key version ballot options) = is_well_formed_accept key version ballot options
is_well_formed_message (messages.Refused key version ballot promised) = is_well_formed_refused key version ballot promised
is_well_formed_message (messages.Outcome tx outcome) = is_well_formed_heard tx outcome
is_well_formed_message (messages.Ask tx key version) = is_well_formed_tx tx && is_well_formed_instance key version
is_well_formed_message (messages.SyncAsk key) = is_well_formed_key key
is_well_formed_message (messages.SyncGive key version item adds) = is_well_formed_given key version item adds
is_well_formed_message (messages.ClientRead serial key) = is_u32 serial && is_well_formed_key key
is_well_formed_message (messages.ClientBegin serial parts) = is_well_formed_begin serial parts
is_well_formed_message (messages.ClientAnswer serial answer) = is_u32 serial && is_well_formed_answer answer
is_well_formed_message (messages.Mark centre epoch seq) = is_well_formed_tx (record { centre = centre; epoch = epoch; seq = seq })
is_well_formed_message (messages.Finished tx) = is_well_formed_tx tx

-- the number of a centre, or 16 more for its client
abbrev pub IsEndpoint : ℕ → Type 0
IsEndpoint n = IsInRange 1 9 n ⊎ IsInRange 17 25 n

abbrev pub is_message_endpoint : ℕ → Bool
is_message_endpoint n = is_in_range 1 9 n || is_in_range 17 25 n

pub record IsWellFormedEnvelope (envelope : Envelope) : Type 0 where
  pub from : IsEndpoint envelope.from
  pub to : IsEndpoint envelope.to
  pub message : IsWellFormedMessage envelope.message

abbrev pub is_well_formed_envelope : Envelope → Bool
is_well_formed_envelope envelope =
    is_message_endpoint envelope.from && is_message_endpoint envelope.to && is_well_formed_message envelope.message

-- ---- facts

pub record IsWellFormedPromised (key : List ℕ) (low high : ℕ) (ballot : Ballot) : Type 0 where
  pub instance : IsWellFormedInstance key low
  pub high_fits : high < 2 ^ 64
  pub ballot_itself : IsWellFormedBallot ballot

abbrev pub is_well_formed_promised : List ℕ → ℕ → ℕ → Ballot → Bool
is_well_formed_promised key low high ballot =
    is_well_formed_instance key low && is_u64 high && is_well_formed_ballot ballot

-- a rejected choice that stands beside its mark
pub record IsWellFormedOffer (key : List ℕ) (version : ℕ) (choice : Choice) : Type 0 where
  pub choice_itself : IsWellFormedChoice choice
  pub same_key : choice.key ≡ key
  pub same_version : choice.version ≡ version

abbrev pub is_well_formed_offer : List ℕ → ℕ → Choice → Bool
is_well_formed_offer key version choice =
    is_well_formed_choice choice && key_eq choice.key key && choice.version == version

abbrev pub IsWellFormedOffered : List ℕ → ℕ → Option Choice → Type 0
IsWellFormedOffered key version None = ⊤
IsWellFormedOffered key version (Some choice) = IsWellFormedOffer key version choice

abbrev pub is_well_formed_offered : List ℕ → ℕ → Option Choice → Bool
is_well_formed_offered key version None = true
is_well_formed_offered key version (Some choice) = is_well_formed_offer key version choice

pub record IsWellFormedVote (key : List ℕ) (version : ℕ) (ballot : Ballot) (options : Marks) (offered : Option Choice) : Type 0 where
  pub instance : IsWellFormedInstance key version
  pub ballot_itself : IsWellFormedBallot ballot
  pub options_itself : IsWellFormedOptions key version options
  pub offered_itself : IsWellFormedOffered key version offered

abbrev pub is_well_formed_vote : List ℕ → ℕ → Ballot → Marks → Option Choice → Bool
is_well_formed_vote key version ballot options offered =
    is_well_formed_instance key version && is_well_formed_ballot ballot
    && is_well_formed_options key version options && is_well_formed_offered key version offered

abbrev pub IsWellFormedFact : Fact → Type 0
IsWellFormedFact (facts.Booted epoch) = IsInRange 1 (2 ^ 32 - 1) epoch
IsWellFormedFact (facts.Promised key low high ballot) = IsWellFormedPromised key low high ballot
IsWellFormedFact (facts.Voted key version ballot options offered) = IsWellFormedVote key version ballot options offered
IsWellFormedFact (facts.Heard tx outcome) = IsWellFormedHeard tx outcome
IsWellFormedFact (facts.Adopted key version item adds) = IsWellFormedGiven key version item adds
IsWellFormedFact (facts.Floor centre epoch seq) = IsWellFormedTx (record { centre = centre; epoch = epoch; seq = seq })

abbrev pub is_well_formed_fact : Fact → Bool
is_well_formed_fact (facts.Booted epoch) = is_in_range 1 (2 ^ 32 - 1) epoch
is_well_formed_fact (facts.Promised key low high ballot) = is_well_formed_promised key low high ballot
is_well_formed_fact (facts.Voted key version ballot options offered) = is_well_formed_vote key version ballot options offered
is_well_formed_fact (facts.Heard tx outcome) = is_well_formed_heard tx outcome
is_well_formed_fact (facts.Adopted key version item adds) = is_well_formed_given key version item adds
is_well_formed_fact (facts.Floor centre epoch seq) = is_well_formed_tx (record { centre = centre; epoch = epoch; seq = seq })
