-- The bytes of what a client is answered.
use Rattle.std.specs.Prelude.{ℕ, Bool, if◌then◌else◌, List, [], ◌++◌, Option, Some, None}
use Rattle.mdcc_option.specs.declared.items.Item.{Item}
use Rattle.mdcc_option.specs.declared.faults.BeginFault.{BeginFault}
use Rattle.mdcc_option.specs.declared.faults.BeginFault.TheVariants.{Stale, Unseen, NoItem, Sequence, Busy, Memory}
use Rattle.mdcc_option.specs.declared.faults.DraftFault.{DraftFault}
use Rattle.mdcc_option.specs.declared.faults.DraftFault.TheVariants.{Empty, TooMany, RepeatedKey, BadAttribute, ZeroAmount, OutOfBounds}
use Rattle.mdcc_def_messages.specs.declared.messages.ClientAnswer.{ClientAnswer}
use Rattle.mdcc_def_messages.specs.declared.messages.ClientAnswer.TheVariants.{Read, Begun, Refused, Heard, Draft}
use Rattle.mdcc_def_messages.specs.Bytes.{u8_bytes, u64_bytes}
use Rattle.mdcc_def_messages.specs.SpelledParts.{key_bytes, tx_bytes, item_bytes, seen_bytes}

-- 1 for true
abbrev pub flag_bytes : Bool → List ℕ
flag_bytes flag = u8_bytes (if flag then 1 else 0)

-- 0 for no item, 1 and the item
abbrev pub shown_item_bytes : Option Item → List ℕ
shown_item_bytes None = u8_bytes 0
shown_item_bytes (Some item) = u8_bytes 1 ++ item_bytes item

-- why no transaction was begun; want of memory is never answered
abbrev pub begin_fault_bytes : BeginFault → List ℕ
begin_fault_bytes (Stale token) = u8_bytes 1 ++ u64_bytes token.version ++ seen_bytes token.seen
begin_fault_bytes (Unseen version) = u8_bytes 2 ++ u64_bytes version
begin_fault_bytes NoItem = u8_bytes 3
begin_fault_bytes Sequence = u8_bytes 4
begin_fault_bytes Busy = u8_bytes 5
begin_fault_bytes Memory = []

-- why parts make no transaction
abbrev pub draft_fault_number : DraftFault → ℕ
draft_fault_number Empty = 1
draft_fault_number TooMany = 2
draft_fault_number RepeatedKey = 3
draft_fault_number BadAttribute = 4
draft_fault_number ZeroAmount = 5
draft_fault_number OutOfBounds = 6

abbrev pub answer_bytes : ClientAnswer → List ℕ
answer_bytes (Read key token item due) =
    u8_bytes 1 ++ key_bytes key ++ u64_bytes token.version ++ shown_item_bytes item ++ seen_bytes token.seen ++ flag_bytes due
answer_bytes (Begun tx) = u8_bytes 2 ++ tx_bytes tx
answer_bytes (Refused key fault) = u8_bytes 3 ++ key_bytes key ++ begin_fault_bytes fault
answer_bytes (Heard tx commit) = u8_bytes 4 ++ tx_bytes tx ++ flag_bytes commit
answer_bytes (Draft fault) = u8_bytes 5 ++ u8_bytes (draft_fault_number fault)
