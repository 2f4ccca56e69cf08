-- How many bytes parts, messages, facts and logs have.
use Rattle.std.specs.Prelude.{ℕ, ◌+◌, ◌*◌, ℤ, List, length, Option, Some, None}
use Rattle.std.specs.Int.{div_ceil}
use Rattle.mdcc_base.specs.Counts.{sum_over}
use Rattle.mdcc_base.specs.declared.identifiers.TxId.{TxId}
use Rattle.mdcc_option.specs.declared.items.Item.{Item}
use Rattle.mdcc_option.specs.declared.items.Part.{Part}
use Rattle.mdcc_option.specs.declared.items.Delta.{Delta}
use Rattle.mdcc_option.specs.declared.items.Update.{Update}
use Rattle.mdcc_option.specs.declared.items.Update.TheVariants.{Write, Add}
use Rattle.mdcc_option.specs.declared.choices.Cause.{Cause}
use Rattle.mdcc_option.specs.declared.choices.Cause.TheVariants.{Behind, Classic, Limit, Full}
use Rattle.mdcc_option.specs.declared.choices.Choice.{Choice}
use Rattle.mdcc_option.specs.declared.choices.Mark.{Mark}
use Rattle.mdcc_option.specs.declared.choices.Mark.TheVariants as marks
use Rattle.mdcc_option.specs.declared.choices.Outcome.{Outcome}
use Rattle.mdcc_option.specs.declared.choices.Outcome.TheVariants.{Commit, Abort}
use Rattle.mdcc_option.specs.declared.faults.BeginFault.{BeginFault}
use Rattle.mdcc_option.specs.declared.faults.BeginFault.TheVariants as begins
use Rattle.mdcc_struct.specs.Options.{Marks}
use Rattle.mdcc_def_messages.specs.declared.messages.ClientAnswer.{ClientAnswer}
use Rattle.mdcc_def_messages.specs.declared.messages.ClientAnswer.TheVariants as answers
use Rattle.mdcc_def_messages.specs.declared.messages.Envelope.{Envelope}
use Rattle.mdcc_def_messages.specs.declared.messages.Message.{Message}
use Rattle.mdcc_def_messages.specs.declared.messages.Message.TheVariants as messages
use Rattle.mdcc_def_messages.specs.declared.facts.Fact.{Fact}
use Rattle.mdcc_def_messages.specs.declared.facts.Fact.TheVariants as facts

-- ---- parts: an identifier and a ballot have 9 bytes each

abbrev pub key_length : List ℕ → ℕ
key_length key = 1 + length key

abbrev pub item_length : Item → ℕ
item_length item = 2 + length item.body + 8 * length item.values

abbrev pub seen_length : List TxId → ℕ
seen_length seen = 1 + 9 * length seen

abbrev pub amounts_length : List (ℕ × ℤ) → ℕ
amounts_length amounts = 1 + 9 * length amounts

abbrev pub update_length : Update → ℕ
update_length (Write item seen) = 1 + item_length item + seen_length seen
update_length (Add amounts) = 1 + amounts_length amounts

abbrev pub part_length : Part → ℕ
part_length part = key_length part.key + 8 + update_length part.update

abbrev pub delta_length : Delta → ℕ
delta_length delta = 9 + amounts_length delta.amounts

abbrev pub written_length : List ℕ × ℕ → ℕ
written_length written = key_length written.0 + 8

abbrev pub write_set_length : List (List ℕ × ℕ) → ℕ
write_set_length write_set = 1 + sum_over written_length write_set

abbrev pub choice_length : Choice → ℕ
choice_length choice = 17 + key_length choice.key + update_length choice.update + write_set_length choice.write_set

abbrev pub entry_length : Mark → ℕ
entry_length marks.Reject = 10
entry_length (marks.Accept choice) = 1 + choice_length choice

abbrev pub options_length : Marks → ℕ
options_length options = 4 + sum_over (λ e. entry_length e.1) options

abbrev pub outcome_length : Outcome → ℕ
outcome_length Abort = 1
outcome_length (Commit choices) = 2 + sum_over choice_length choices

abbrev pub cause_length : Cause → ℕ
cause_length Behind = 1
cause_length (Classic ballot) = 10
cause_length (Limit quantity) = 2
cause_length Full = 1

abbrev pub heard_length : Outcome → ℕ
heard_length outcome = 9 + outcome_length outcome

abbrev pub given_length : List ℕ → Item → List Delta → ℕ
given_length key item adds = key_length key + 8 + item_length item + (1 + sum_over delta_length adds)

-- ---- what a client is answered

abbrev pub shown_item_length : Option Item → ℕ
shown_item_length None = 1
shown_item_length (Some item) = 1 + item_length item

abbrev pub begin_fault_length : BeginFault → ℕ
begin_fault_length (begins.Stale token) = 9 + seen_length token.seen
begin_fault_length (begins.Unseen version) = 9
begin_fault_length begins.NoItem = 1
begin_fault_length begins.Sequence = 1
begin_fault_length begins.Busy = 1
begin_fault_length begins.Memory = 0

abbrev pub answer_length : ClientAnswer → ℕ
answer_length (answers.Read key token item due) = 10 + key_length key + shown_item_length item + seen_length token.seen
answer_length (answers.Begun tx) = 10
answer_length (answers.Refused key fault) = 1 + key_length key + begin_fault_length fault
answer_length (answers.Heard tx commit) = 11
answer_length (answers.Draft fault) = 2

-- ---- messages

abbrev pub body_length : Message → ℕ
body_length (messages.Propose choice) = choice_length choice
body_length (messages.Voted key version ballot tx mark) = key_length key + 17 + entry_length mark
body_length (messages.Escalate key version tx cause) = key_length key + 17 + cause_length cause
body_length (messages.Lead choice) = choice_length choice
body_length (messages.Prepare key version through ballot) = key_length key + 25
body_length (messages.Promise key version through ballot reported votes) = key_length key + 34 + options_length votes
body_length (messages.Accept key version ballot options) = key_length key + 17 + options_length options
body_length (messages.Refused key version ballot promised) = key_length key + 26
body_length (messages.Outcome tx outcome) = heard_length outcome
body_length (messages.Ask tx key version) = key_length key + 17
body_length (messages.SyncAsk key) = key_length key
body_length (messages.SyncGive key version item adds) = given_length key item adds
body_length (messages.ClientRead serial key) = 4 + key_length key
body_length (messages.ClientBegin serial parts) = 5 + sum_over part_length parts
body_length (messages.ClientAnswer serial answer) = 4 + answer_length answer
body_length (messages.Mark centre epoch seq) = 9
body_length (messages.Finished tx) = 9

abbrev pub message_length : Envelope → ℕ
message_length envelope = 4 + body_length envelope.message

-- ---- facts and logs

abbrev pub offered_length : Option Choice → ℕ
offered_length None = 1
offered_length (Some choice) = 1 + choice_length choice

abbrev pub fact_length : Fact → ℕ
fact_length (facts.Booted epoch) = 5
fact_length (facts.Promised key low high ballot) = 26 + key_length key
fact_length (facts.Voted key version ballot options offered) =
    18 + key_length key + options_length options + offered_length offered
fact_length (facts.Heard tx outcome) = 1 + heard_length outcome
fact_length (facts.Adopted key version item adds) = 1 + given_length key item adds
fact_length (facts.Floor centre epoch seq) = 10

-- how many cells of a node's store a fact takes, at 60 bytes a cell
abbrev pub cells_needed : Fact → ℕ
cells_needed fact = div_ceil (fact_length fact) 60

abbrev pub frame_length : Fact → ℕ
frame_length fact = 5 + fact_length fact

-- the eight bytes at the front, the frames, and the closed gate
abbrev pub log_length : List Fact → ℕ
log_length facts = 9 + sum_over frame_length facts

-- the cells that facts lie in
abbrev pub cells_used : List Fact → ℕ
cells_used facts = sum_over cells_needed facts

abbrev pub messages_length : List Envelope → ℕ
messages_length envelopes = sum_over message_length envelopes
