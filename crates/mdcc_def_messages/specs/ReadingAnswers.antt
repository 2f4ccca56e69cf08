-- Reading what a client is answered.
use Rattle.std.specs.Prelude.{ℕ, ◌==◌, if◌then◌else◌, List, Option, Some, None, Result, Ok}
use Rattle.mdcc_option.specs.declared.items.Item.{Item}
use Rattle.mdcc_option.specs.declared.faults.BeginFault.{BeginFault}
use Rattle.mdcc_option.specs.declared.faults.BeginFault.TheVariants.{Stale, Unseen, NoItem, Sequence, Busy}
use Rattle.mdcc_option.specs.declared.faults.DraftFault.{DraftFault}
use Rattle.mdcc_option.specs.declared.faults.DraftFault.TheVariants.{Empty, TooMany, RepeatedKey, BadAttribute, ZeroAmount, OutOfBounds}
use Rattle.mdcc_def_messages.specs.declared.messages.ClientAnswer.{ClientAnswer}
use Rattle.mdcc_def_messages.specs.declared.messages.ClientAnswer.TheVariants.{Read, Begun, Refused, Heard, Draft}
use Rattle.mdcc_def_messages.specs.declared.wire.WireFault.{WireFault}
use Rattle.mdcc_def_messages.specs.ReadingSteps.{◌>>=◌, u64_at, u8_within, flag_at}
use Rattle.mdcc_def_messages.specs.ReadingParts.{key_at, tx_at, item_at, seen_at}

abbrev pub some_item_at : List ℕ → ℕ → Result (Option Item × ℕ) WireFault
some_item_at bytes at = do
  item ← item_at bytes at
  Ok (Some item.0, item.1)

-- a byte 0, or a byte 1 and an item
abbrev pub shown_item_at : List ℕ → ℕ → Result (Option Item × ℕ) WireFault
shown_item_at bytes at = do
  flag ← flag_at bytes at
  if flag.0 then some_item_at bytes flag.1 else Ok (None, flag.1)

abbrev pub stale_at : List ℕ → ℕ → Result (BeginFault × ℕ) WireFault
stale_at bytes at = do
  version ← u64_at bytes at
  seen ← seen_at bytes version.1
  Ok (Stale (record { version = version.0; seen = seen.0 }), seen.1)

abbrev pub unseen_at : List ℕ → ℕ → Result (BeginFault × ℕ) WireFault
unseen_at bytes at = do
  version ← u64_at bytes at
  Ok (Unseen version.0, version.1)

-- the begin fault of a number
abbrev pub begin_fault_by : ℕ → List ℕ → ℕ → Result (BeginFault × ℕ) WireFault
begin_fault_by tag bytes at =
    if tag == 1 then stale_at bytes at
    else (if tag == 2 then unseen_at bytes at
    else (if tag == 3 then Ok (NoItem, at)
    else (if tag == 4 then Ok (Sequence, at)
    else Ok (Busy, at))))

abbrev pub begin_fault_at : List ℕ → ℕ → Result (BeginFault × ℕ) WireFault
begin_fault_at bytes at = do
  tag ← u8_within at 1 5 bytes at
  begin_fault_by tag.0 bytes tag.1

-- the draft fault of a number
abbrev pub draft_fault_of : ℕ → DraftFault
draft_fault_of n =
    if n == 1 then Empty
    else (if n == 2 then TooMany
    else (if n == 3 then RepeatedKey
    else (if n == 4 then BadAttribute
    else (if n == 5 then ZeroAmount
    else OutOfBounds))))

abbrev pub read_answer_at : List ℕ → ℕ → Result (ClientAnswer × ℕ) WireFault
read_answer_at bytes at = do
  key ← key_at bytes at
  version ← u64_at bytes key.1
  item ← shown_item_at bytes version.1
  seen ← seen_at bytes item.1
  due ← flag_at bytes seen.1
  Ok (Read key.0 (record { version = version.0; seen = seen.0 }) item.0 due.0, due.1)

abbrev pub begun_answer_at : List ℕ → ℕ → Result (ClientAnswer × ℕ) WireFault
begun_answer_at bytes at = do
  tx ← tx_at bytes at
  Ok (Begun tx.0, tx.1)

abbrev pub refused_answer_at : List ℕ → ℕ → Result (ClientAnswer × ℕ) WireFault
refused_answer_at bytes at = do
  key ← key_at bytes at
  fault ← begin_fault_at bytes key.1
  Ok (Refused key.0 fault.0, fault.1)

abbrev pub heard_answer_at : List ℕ → ℕ → Result (ClientAnswer × ℕ) WireFault
heard_answer_at bytes at = do
  tx ← tx_at bytes at
  commit ← flag_at bytes tx.1
  Ok (Heard tx.0 commit.0, commit.1)

abbrev pub draft_answer_at : List ℕ → ℕ → Result (ClientAnswer × ℕ) WireFault
draft_answer_at bytes at = do
  fault ← u8_within at 1 6 bytes at
  Ok (Draft (draft_fault_of fault.0), fault.1)

-- the answer of a number
abbrev pub answer_by : ℕ → List ℕ → ℕ → Result (ClientAnswer × ℕ) WireFault
answer_by tag bytes at =
    if tag == 1 then read_answer_at bytes at
    else (if tag == 2 then begun_answer_at bytes at
    else (if tag == 3 then refused_answer_at bytes at
    else (if tag == 4 then heard_answer_at bytes at
    else draft_answer_at bytes at)))

abbrev pub answer_at : List ℕ → ℕ → Result (ClientAnswer × ℕ) WireFault
answer_at bytes at = do
  tag ← u8_within at 1 5 bytes at
  answer_by tag.0 bytes tag.1
