-- Messages whose lists are no longer than their counts can say.
use Rattle.std.specs.Prelude.{◌<◌, ◌^◌, ⊤, length}
use Rattle.mdcc_def_messages.specs.declared.messages.Message.{Message}
use Rattle.mdcc_def_messages.specs.declared.messages.Message.TheVariants as messages

-- a structure is counted with four bytes, deltas with one. Each well-formed message is so
abbrev pub HasMessageCounts : Message → Type 0
HasMessageCounts (messages.Promise key version through ballot reported votes) = length votes < 2 ^ 32
HasMessageCounts (messages.Accept key version ballot options) = length options < 2 ^ 32
HasMessageCounts (messages.SyncGive key version item adds) = length adds < 2 ^ 8
HasMessageCounts _ = ⊤
