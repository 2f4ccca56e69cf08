-- The lists of a well-formed message are no longer than their counts can say.
use Rattle.std.proofs.Common.{arith}
use Rattle.mdcc_def_messages.specs.declared.messages.Message.{Message}
use Rattle.mdcc_def_messages.specs.declared.messages.Message.TheVariants as messages
use Rattle.mdcc_def_messages.specs.WellFormed.{IsWellFormedMessage}
use Rattle.mdcc_wire.specs.Counts.{HasMessageCounts}

pub has_counts : (message : Message) → IsWellFormedMessage message → HasMessageCounts message
has_counts (messages.Propose choice) w = tt
has_counts (messages.Voted key version ballot tx mark) w = tt
has_counts (messages.Escalate key version tx cause) w = tt
has_counts (messages.Lead choice) w = tt
has_counts (messages.Prepare key version through ballot) w = tt
has_counts (messages.Promise key version through ballot reported votes) w = w.votes_itself.count
has_counts (messages.Accept key version ballot options) w = w.options_itself.count
has_counts (messages.Refused key version ballot promised) w = tt
has_counts (messages.Outcome tx outcome) w = tt
has_counts (messages.Ask tx key version) w = tt
has_counts (messages.SyncAsk key) w = tt
has_counts (messages.SyncGive key version item adds) w = omega (arith, w.few)
has_counts (messages.ClientRead serial key) w = tt
has_counts (messages.ClientBegin serial parts) w = tt
has_counts (messages.ClientAnswer serial answer) w = tt
has_counts (messages.Mark centre epoch seq) w = tt
has_counts (messages.Finished tx) w = tt
