-- Reading messages and facts, with the first fault that is met.
use Rattle.std.specs.Prelude.{ℕ, ◌-◌, ◌^◌, ◌==◌, nat_lt, nat_eq, if◌then◌else◌, List, length, Option, Some, None, Result, Ok, Err}
use Rattle.std.specs.Int.{is_in_range}
use Rattle.mdcc_base.specs.declared.identifiers.TxId.{TxId}
use Rattle.mdcc_base.specs.Key.{key_eq}
use Rattle.mdcc_option.specs.declared.items.Item.{Item}
use Rattle.mdcc_option.specs.declared.items.Delta.{Delta}
use Rattle.mdcc_option.specs.declared.choices.Choice.{Choice}
use Rattle.mdcc_option.specs.declared.choices.Outcome.{Outcome}
use Rattle.mdcc_def_messages.specs.declared.messages.Envelope.{Envelope}
use Rattle.mdcc_def_messages.specs.declared.messages.Message.{Message}
use Rattle.mdcc_def_messages.specs.declared.messages.Message.TheVariants as messages
use Rattle.mdcc_def_messages.specs.declared.facts.Fact.{Fact}
use Rattle.mdcc_def_messages.specs.declared.facts.Fact.TheVariants as facts
use Rattle.mdcc_def_messages.specs.declared.wire.WireFault.{WireFault}
use Rattle.mdcc_def_messages.specs.declared.wire.WireFault.TheVariants.{Trailing, Kind, Range}
use Rattle.mdcc_def_messages.specs.WellFormed.{is_message_endpoint}
use Rattle.mdcc_def_messages.specs.ReadingSteps.{◌>>=◌, u8_at, u32_at, u64_at, checked, free, same, u8_within, u32_within, list_at}
use Rattle.mdcc_def_messages.specs.ReadingParts.{key_at, tx_at, ballot_at, classic_at, item_at, part_behind, delta_behind, choice_checked, choice_at, mark_entry_at, options_at, outcome_at, cause_at}
use Rattle.mdcc_def_messages.specs.ReadingAnswers.{answer_at}

-- ---- what messages and facts have in common

abbrev pub instance_at : List ℕ → ℕ → Result ((List ℕ × ℕ) × ℕ) WireFault
instance_at bytes at = do
  key ← key_at bytes at
  version ← u64_at bytes key.1
  Ok ((key.0, version.0), version.1)

-- a number of a message or a fact that is too small is refused at its own place
abbrev pub at_least : ℕ → ℕ → ℕ → Option WireFault
at_least place low n = if nat_lt n low then Some (Range place) else None

abbrev pub heard_at : List ℕ → ℕ → Result ((TxId × Outcome) × ℕ) WireFault
heard_at bytes at = do
  tx ← tx_at bytes at
  outcome ← outcome_at bytes tx.1 tx.0
  Ok ((tx.0, outcome.0), outcome.1)

abbrev pub sync_given_at : List ℕ → ℕ → Result ((List ℕ × ℕ × Item × List Delta) × ℕ) WireFault
sync_given_at bytes at = do
  key ← key_at bytes at
  version ← checked (at_least key.1 1) (u64_at bytes key.1)
  item ← item_at bytes version.1
  adds ← list_at item.1 0 64 (delta_behind item.1 bytes) (λ delta. delta.tx) bytes item.1
  Ok ((key.0, version.0, item.0, adds.0), adds.1)

-- ---- messages

abbrev pub propose_at : List ℕ → ℕ → Result (Message × ℕ) WireFault
propose_at bytes at = do
  choice ← choice_at bytes at
  Ok (messages.Propose choice.0, choice.1)

abbrev pub voted_at : List ℕ → ℕ → Result (Message × ℕ) WireFault
voted_at bytes at = do
  place ← instance_at bytes at
  ballot ← ballot_at bytes place.1
  entry ← mark_entry_at bytes ballot.1 place.0.0 place.0.1
  Ok (messages.Voted place.0.0 place.0.1 ballot.0 entry.0.0 entry.0.1, entry.1)

abbrev pub escalate_at : List ℕ → ℕ → Result (Message × ℕ) WireFault
escalate_at bytes at = do
  place ← instance_at bytes at
  tx ← tx_at bytes place.1
  cause ← cause_at bytes tx.1
  Ok (messages.Escalate place.0.0 place.0.1 tx.0 cause.0, cause.1)

abbrev pub lead_at : List ℕ → ℕ → Result (Message × ℕ) WireFault
lead_at bytes at = do
  choice ← choice_at bytes at
  Ok (messages.Lead choice.0, choice.1)

abbrev pub prepare_at : List ℕ → ℕ → Result (Message × ℕ) WireFault
prepare_at bytes at = do
  place ← instance_at bytes at
  through ← checked (at_least place.1 place.0.1) (u64_at bytes place.1)
  ballot ← classic_at bytes through.1
  Ok (messages.Prepare place.0.0 place.0.1 through.0 ballot.0, ballot.1)

abbrev pub promise_at : List ℕ → ℕ → Result (Message × ℕ) WireFault
promise_at bytes at = do
  place ← instance_at bytes at
  through ← checked (at_least place.1 place.0.1) (u64_at bytes place.1)
  ballot ← classic_at bytes through.1
  reported ← ballot_at bytes ballot.1
  votes ← options_at bytes reported.1 place.0.0 place.0.1
  Ok (messages.Promise place.0.0 place.0.1 through.0 ballot.0 reported.0 votes.0, votes.1)

abbrev pub accept_at : List ℕ → ℕ → Result (Message × ℕ) WireFault
accept_at bytes at = do
  place ← instance_at bytes at
  ballot ← classic_at bytes place.1
  options ← options_at bytes ballot.1 place.0.0 place.0.1
  Ok (messages.Accept place.0.0 place.0.1 ballot.0 options.0, options.1)

abbrev pub refused_message_at : List ℕ → ℕ → Result (Message × ℕ) WireFault
refused_message_at bytes at = do
  place ← instance_at bytes at
  ballot ← classic_at bytes place.1
  promised ← ballot_at bytes ballot.1
  Ok (messages.Refused place.0.0 place.0.1 ballot.0 promised.0, promised.1)

abbrev pub ended_at : List ℕ → ℕ → Result (Message × ℕ) WireFault
ended_at bytes at = do
  heard ← heard_at bytes at
  Ok (messages.Outcome heard.0.0 heard.0.1, heard.1)

abbrev pub ask_at : List ℕ → ℕ → Result (Message × ℕ) WireFault
ask_at bytes at = do
  tx ← tx_at bytes at
  place ← instance_at bytes tx.1
  Ok (messages.Ask tx.0 place.0.0 place.0.1, place.1)

abbrev pub sync_ask_at : List ℕ → ℕ → Result (Message × ℕ) WireFault
sync_ask_at bytes at = do
  key ← key_at bytes at
  Ok (messages.SyncAsk key.0, key.1)

abbrev pub sync_give_at : List ℕ → ℕ → Result (Message × ℕ) WireFault
sync_give_at bytes at = do
  given ← sync_given_at bytes at
  Ok (messages.SyncGive given.0.0 given.0.1 given.0.2 given.0.3, given.1)

abbrev pub client_read_at : List ℕ → ℕ → Result (Message × ℕ) WireFault
client_read_at bytes at = do
  serial ← u32_at bytes at
  key ← key_at bytes serial.1
  Ok (messages.ClientRead serial.0 key.0, key.1)

abbrev pub client_begin_at : List ℕ → ℕ → Result (Message × ℕ) WireFault
client_begin_at bytes at = do
  serial ← u32_at bytes at
  parts ← list_at serial.1 1 8 (part_behind serial.1 bytes) (λ part. part.key) bytes serial.1
  Ok (messages.ClientBegin serial.0 parts.0, parts.1)

abbrev pub client_answer_at : List ℕ → ℕ → Result (Message × ℕ) WireFault
client_answer_at bytes at = do
  serial ← u32_at bytes at
  answer ← answer_at bytes serial.1
  Ok (messages.ClientAnswer serial.0 answer.0, answer.1)

-- a centre, an epoch and a number of a transaction, each from 1 on
abbrev pub numbers_at : List ℕ → ℕ → Result ((ℕ × ℕ × ℕ) × ℕ) WireFault
numbers_at bytes at = do
  centre ← u8_within at 1 9 bytes at
  epoch ← u32_within centre.1 1 (2 ^ 32 - 1) bytes centre.1
  seq ← u32_within epoch.1 1 (2 ^ 32 - 1) bytes epoch.1
  Ok ((centre.0, epoch.0, seq.0), seq.1)

abbrev pub mark_at : List ℕ → ℕ → Result (Message × ℕ) WireFault
mark_at bytes at = do
  numbers ← numbers_at bytes at
  Ok (messages.Mark numbers.0.0 numbers.0.1 numbers.0.2, numbers.1)

abbrev pub finished_at : List ℕ → ℕ → Result (Message × ℕ) WireFault
finished_at bytes at = do
  tx ← tx_at bytes at
  Ok (messages.Finished tx.0, tx.1)

-- the body of a message of this kind
abbrev pub body_at : ℕ → List ℕ → ℕ → Result (Message × ℕ) WireFault
body_at kind bytes at =
    if kind == 1 then propose_at bytes at
    else (if kind == 2 then voted_at bytes at
    else (if kind == 3 then escalate_at bytes at
    else (if kind == 4 then lead_at bytes at
    else (if kind == 5 then prepare_at bytes at
    else (if kind == 6 then promise_at bytes at
    else (if kind == 7 then accept_at bytes at
    else (if kind == 8 then refused_message_at bytes at
    else (if kind == 9 then ended_at bytes at
    else (if kind == 10 then ask_at bytes at
    else (if kind == 11 then sync_ask_at bytes at
    else (if kind == 12 then sync_give_at bytes at
    else (if kind == 13 then client_read_at bytes at
    else (if kind == 14 then client_begin_at bytes at
    else (if kind == 15 then client_answer_at bytes at
    else (if kind == 16 then mark_at bytes at
    else finished_at bytes at)))))))))))))))

-- the format or the kind is a known one
abbrev pub known : ℕ → ℕ → ℕ → Option WireFault
known lowest highest n = if is_in_range lowest highest n then None else Some Kind

-- the kinds of a format: the first one has those from 1 to 15, the second one those after them
abbrev pub known_in : ℕ → ℕ → Option WireFault
known_in format n = if format == 1 then known 1 15 n else known 16 17 n

abbrev pub endpoint : ℕ → ℕ → Option WireFault
endpoint place n = if is_message_endpoint n then None else Some (Range place)

-- what was read is all of the bytes
abbrev pub whole : {X : Type 0} → List ℕ → X × ℕ → Result X WireFault
whole bytes read = if read.1 == length bytes then Ok read.0 else Err (Trailing read.1)

-- the message that the bytes spell, or the first place that is not of the grammar
abbrev pub view_of : List ℕ → Result Envelope WireFault
view_of bytes = do
  format ← checked (known 1 2) (u8_at bytes 0)
  kind ← checked (known_in format.0) (u8_at bytes format.1)
  from ← checked (endpoint kind.1) (u8_at bytes kind.1)
  to ← checked (endpoint from.1) (u8_at bytes from.1)
  message ← body_at kind.0 bytes to.1
  whole bytes (record { from = from.0; to = to.0; message = message.0 }, message.1)

-- ---- facts

abbrev pub booted_at : List ℕ → ℕ → Result (Fact × ℕ) WireFault
booted_at bytes at = do
  epoch ← u32_within at 1 (2 ^ 32 - 1) bytes at
  Ok (facts.Booted epoch.0, epoch.1)

abbrev pub promised_at : List ℕ → ℕ → Result (Fact × ℕ) WireFault
promised_at bytes at = do
  place ← instance_at bytes at
  high ← u64_at bytes place.1
  ballot ← ballot_at bytes high.1
  Ok (facts.Promised place.0.0 place.0.1 high.0 ballot.0, ballot.1)

abbrev pub some_offered_at : List ℕ → ℕ → List ℕ → ℕ → Result (Option Choice × ℕ) WireFault
some_offered_at bytes at key version = do
  choice ← choice_checked free (same key_eq at key) (same nat_eq at version) bytes at
  Ok (Some choice.0, choice.1)

-- a byte 0, or a byte 1 and the choice that was rejected
abbrev pub offered_at : List ℕ → ℕ → List ℕ → ℕ → Result (Option Choice × ℕ) WireFault
offered_at bytes at key version = do
  tag ← u8_within at 0 1 bytes at
  if tag.0 == 0 then Ok (None, tag.1) else some_offered_at bytes tag.1 key version

abbrev pub vote_at : List ℕ → ℕ → Result (Fact × ℕ) WireFault
vote_at bytes at = do
  place ← instance_at bytes at
  ballot ← ballot_at bytes place.1
  options ← options_at bytes ballot.1 place.0.0 place.0.1
  offered ← offered_at bytes options.1 place.0.0 place.0.1
  Ok (facts.Voted place.0.0 place.0.1 ballot.0 options.0 offered.0, offered.1)

abbrev pub heard_fact_at : List ℕ → ℕ → Result (Fact × ℕ) WireFault
heard_fact_at bytes at = do
  heard ← heard_at bytes at
  Ok (facts.Heard heard.0.0 heard.0.1, heard.1)

abbrev pub adopted_at : List ℕ → ℕ → Result (Fact × ℕ) WireFault
adopted_at bytes at = do
  given ← sync_given_at bytes at
  Ok (facts.Adopted given.0.0 given.0.1 given.0.2 given.0.3, given.1)

abbrev pub floor_at : List ℕ → ℕ → Result (Fact × ℕ) WireFault
floor_at bytes at = do
  numbers ← numbers_at bytes at
  Ok (facts.Floor numbers.0.0 numbers.0.1 numbers.0.2, numbers.1)

abbrev pub fact_at : ℕ → List ℕ → ℕ → Result (Fact × ℕ) WireFault
fact_at kind bytes at =
    if kind == 1 then booted_at bytes at
    else (if kind == 2 then promised_at bytes at
    else (if kind == 3 then vote_at bytes at
    else (if kind == 4 then heard_fact_at bytes at
    else (if kind == 5 then adopted_at bytes at
    else floor_at bytes at))))

-- the fact that the bytes spell, or the first place that is not of the grammar
abbrev pub fact_of : List ℕ → Result Fact WireFault
fact_of bytes = do
  kind ← checked (known 1 6) (u8_at bytes 0)
  fact ← fact_at kind.0 bytes kind.1
  whole bytes fact
