-- The bytes of messages and of facts.
use Rattle.std.specs.Prelude.{ℕ, List, ◌++◌, ◌∷◌, [], Option, Some, None}
use Rattle.mdcc_option.specs.declared.choices.Choice.{Choice}
use Rattle.mdcc_def_messages.specs.declared.messages.Envelope.{Envelope}
use Rattle.mdcc_def_messages.specs.declared.messages.Message.{Message}
use Rattle.mdcc_def_messages.specs.declared.messages.Message.TheVariants as messages
use Rattle.mdcc_def_messages.specs.declared.facts.Fact.{Fact}
use Rattle.mdcc_def_messages.specs.declared.facts.Fact.TheVariants as facts
use Rattle.mdcc_def_messages.specs.Bytes.{u8_bytes, u32_bytes, u64_bytes, counted_bytes}
use Rattle.mdcc_def_messages.specs.SpelledParts.{key_bytes, tx_bytes, ballot_bytes, part_bytes, choice_bytes, entry_bytes, options_bytes, cause_bytes, heard_bytes, given_bytes}
use Rattle.mdcc_def_messages.specs.SpelledAnswers.{answer_bytes}

-- ---- messages

-- the number of a message's kind
abbrev pub kind_of : Message → ℕ
kind_of (messages.Propose choice) = 1
kind_of (messages.Voted key version ballot tx mark) = 2
kind_of (messages.Escalate key version tx cause) = 3
kind_of (messages.Lead choice) = 4
kind_of (messages.Prepare key version through ballot) = 5
kind_of (messages.Promise key version through ballot reported votes) = 6
kind_of (messages.Accept key version ballot options) = 7
kind_of (messages.Refused key version ballot promised) = 8
kind_of (messages.Outcome tx outcome) = 9
kind_of (messages.Ask tx key version) = 10
kind_of (messages.SyncAsk key) = 11
kind_of (messages.SyncGive key version item adds) = 12
kind_of (messages.ClientRead serial key) = 13
kind_of (messages.ClientBegin serial parts) = 14
kind_of (messages.ClientAnswer serial answer) = 15
kind_of (messages.Mark centre epoch seq) = 16
kind_of (messages.Finished tx) = 17

-- the number of the format that has the kind: the second one has the kinds from 16 on
abbrev pub format_of : Message → ℕ
format_of (messages.Mark centre epoch seq) = 2
format_of (messages.Finished tx) = 2
format_of message = 1

-- what follows the kind and the endpoints
abbrev pub body_bytes : Message → List ℕ
body_bytes (messages.Propose choice) = choice_bytes choice
body_bytes (messages.Voted key version ballot tx mark) =
    key_bytes key ++ u64_bytes version ++ ballot_bytes ballot ++ entry_bytes tx mark
body_bytes (messages.Escalate key version tx cause) = key_bytes key ++ u64_bytes version ++ tx_bytes tx ++ cause_bytes cause
body_bytes (messages.Lead choice) = choice_bytes choice
body_bytes (messages.Prepare key version through ballot) =
    key_bytes key ++ u64_bytes version ++ u64_bytes through ++ ballot_bytes ballot
body_bytes (messages.Promise key version through ballot reported votes) =
    key_bytes key ++ u64_bytes version ++ u64_bytes through
    ++ ballot_bytes ballot ++ ballot_bytes reported ++ options_bytes votes
body_bytes (messages.Accept key version ballot options) =
    key_bytes key ++ u64_bytes version ++ ballot_bytes ballot ++ options_bytes options
body_bytes (messages.Refused key version ballot promised) =
    key_bytes key ++ u64_bytes version ++ ballot_bytes ballot ++ ballot_bytes promised
body_bytes (messages.Outcome tx outcome) = heard_bytes tx outcome
body_bytes (messages.Ask tx key version) = tx_bytes tx ++ key_bytes key ++ u64_bytes version
body_bytes (messages.SyncAsk key) = key_bytes key
body_bytes (messages.SyncGive key version item adds) = given_bytes key version item adds
body_bytes (messages.ClientRead serial key) = u32_bytes serial ++ key_bytes key
body_bytes (messages.ClientBegin serial parts) = u32_bytes serial ++ counted_bytes part_bytes parts
body_bytes (messages.ClientAnswer serial answer) = u32_bytes serial ++ answer_bytes answer
body_bytes (messages.Mark centre epoch seq) = u8_bytes centre ++ u32_bytes epoch ++ u32_bytes seq
body_bytes (messages.Finished tx) = tx_bytes tx

-- the number of the format, the kind, from whom, to whom, the body
abbrev pub message_bytes : Envelope → List ℕ
message_bytes envelope =
    u8_bytes (format_of envelope.message) ++ u8_bytes (kind_of envelope.message) ++ u8_bytes envelope.from ++ u8_bytes envelope.to
    ++ body_bytes envelope.message

-- ---- facts

-- 0, or 1 and the choice that was rejected
abbrev pub offered_bytes : Option Choice → List ℕ
offered_bytes None = u8_bytes 0
offered_bytes (Some choice) = u8_bytes 1 ++ choice_bytes choice

abbrev pub fact_bytes : Fact → List ℕ
fact_bytes (facts.Booted epoch) = u8_bytes 1 ++ u32_bytes epoch
fact_bytes (facts.Promised key low high ballot) =
    u8_bytes 2 ++ key_bytes key ++ u64_bytes low ++ u64_bytes high ++ ballot_bytes ballot
fact_bytes (facts.Voted key version ballot options offered) =
    u8_bytes 3 ++ key_bytes key ++ u64_bytes version ++ ballot_bytes ballot
    ++ options_bytes options ++ offered_bytes offered
fact_bytes (facts.Heard tx outcome) = u8_bytes 4 ++ heard_bytes tx outcome
fact_bytes (facts.Adopted key version item adds) = u8_bytes 5 ++ given_bytes key version item adds
fact_bytes (facts.Floor centre epoch seq) = u8_bytes 6 ++ u8_bytes centre ++ u32_bytes epoch ++ u32_bytes seq

-- the encodings of facts, the oldest first
abbrev pub encodings_of : List Fact → List (List ℕ)
encodings_of [] = []
encodings_of (fact ∷ older) = encodings_of older ++ fact_bytes fact ∷ []
