-- Reading the parts of messages and facts. A fault of range names the part of which the number is, and its own place
-- where it is of none; a fault of order names the list, and one of equality the choice or the write set.
use Rattle.std.specs.Prelude.{ℕ, ◌+◌, ◌-◌, ◌^◌, ℤ, not, ◌==◌, nat_lt, nat_eq, min, if◌then◌else◌, List, length, take, drop, Option, Some, None, Result, Ok, Err}
use Rattle.std.specs.List.{list_all}
use Rattle.mdcc_base.specs.declared.identifiers.Ballot.{Ballot}
use Rattle.mdcc_base.specs.declared.identifiers.TxId.{TxId}
use Rattle.mdcc_base.specs.Key.{is_key_byte, key_eq, key_lt}
use Rattle.mdcc_base.specs.TxId.{tx_eq, tx_lt}
use Rattle.mdcc_option.specs.Transaction.{is_zero_amount}
use Rattle.mdcc_option.specs.declared.items.Item.{Item}
use Rattle.mdcc_option.specs.declared.items.Part.{Part}
use Rattle.mdcc_option.specs.declared.items.Delta.{Delta}
use Rattle.mdcc_option.specs.declared.items.Update.{Update}
use Rattle.mdcc_option.specs.declared.items.Update.TheVariants.{Write, Add}
use Rattle.mdcc_option.specs.declared.choices.Cause.{Cause}
use Rattle.mdcc_option.specs.declared.choices.Cause.TheVariants.{Behind, Classic, Limit, Full}
use Rattle.mdcc_option.specs.declared.choices.Choice.{Choice}
use Rattle.mdcc_option.specs.declared.choices.Mark.{Mark}
use Rattle.mdcc_option.specs.declared.choices.Mark.TheVariants.{Accept, Reject}
use Rattle.mdcc_option.specs.declared.choices.Outcome.{Outcome}
use Rattle.mdcc_option.specs.declared.choices.Outcome.TheVariants.{Commit, Abort}
use Rattle.mdcc_struct.specs.Options.{Marks}
use Rattle.mdcc_def_messages.specs.declared.wire.WireFault.{WireFault}
use Rattle.mdcc_def_messages.specs.declared.wire.WireFault.TheVariants.{Truncated, Range, NotCanonical}
use Rattle.mdcc_def_messages.specs.WellFormedParts.{is_written}
use Rattle.mdcc_def_messages.specs.ReadingSteps.{◌>>=◌, u32_at, u64_at, i64_at, checked, free, same, fault_unless_after, u8_within, u32_within, elements_at, list_at}

-- ---- keys, identifiers, ballots

-- so many bytes of a key: one that is not of keys comes before the end
abbrev pub key_by : List ℕ → ℕ → ℕ → List ℕ → Result (List ℕ × ℕ) WireFault
key_by bytes at count key =
    if not (list_all is_key_byte key) then Err (Range at)
    else (if nat_lt (length key) count then Err (Truncated (length bytes))
    else Ok (key, at + 1 + count))

abbrev pub key_at : List ℕ → ℕ → Result (List ℕ × ℕ) WireFault
key_at bytes at = do
  count ← u8_within at 1 32 bytes at
  key_by bytes at count.0 (take count.0 (drop count.1 bytes))

abbrev pub tx_at : List ℕ → ℕ → Result (TxId × ℕ) WireFault
tx_at bytes at = do
  centre ← u8_within at 1 9 bytes at
  epoch ← u32_within at 1 (2 ^ 32 - 1) bytes centre.1
  seq ← u32_within at 1 (2 ^ 32 - 1) bytes epoch.1
  Ok (record { centre = centre.0; epoch = epoch.0; seq = seq.0 }, seq.1)

-- a ballot whose round is in a range: where the round is 0 so are the epoch and the centre, elsewhere neither is
abbrev pub ballot_from : ℕ → List ℕ → ℕ → Result (Ballot × ℕ) WireFault
ballot_from low bytes at = do
  round ← u32_within at low (2 ^ 32 - 1) bytes at
  epoch ← u32_within at (min 1 round.0) (if round.0 == 0 then 0 else 2 ^ 32 - 1) bytes round.1
  centre ← u8_within at (min 1 round.0) (if round.0 == 0 then 0 else 9) bytes epoch.1
  Ok (record { round = round.0; epoch = epoch.0; centre = centre.0 }, centre.1)

abbrev pub ballot_at : List ℕ → ℕ → Result (Ballot × ℕ) WireFault
ballot_at bytes at = ballot_from 0 bytes at

-- a ballot other than the fast one
abbrev pub classic_at : List ℕ → ℕ → Result (Ballot × ℕ) WireFault
classic_at bytes at = ballot_from 1 bytes at

-- ---- items and what is done to them

-- so many bytes
abbrev pub body_by : List ℕ → ℕ → List ℕ → ℕ → Result (List ℕ × ℕ) WireFault
body_by bytes count body at =
    if nat_lt (length body) count then Err (Truncated (length bytes)) else Ok (body, at + count)

abbrev pub item_at : List ℕ → ℕ → Result (Item × ℕ) WireFault
item_at bytes at = do
  count ← u8_within at 0 128 bytes at
  body ← body_by bytes count.0 (take count.0 (drop count.1 bytes)) count.1
  values ← list_at at 1 4 (λ last. i64_at bytes) (λ value. value) bytes body.1
  Ok (record { body = body.0; values = values.0 }, values.1)

-- a transaction behind the last one of the list that begins at a place
abbrev pub tx_behind : ℕ → List ℕ → Option TxId → ℕ → Result (TxId × ℕ) WireFault
tx_behind part bytes last at = checked (fault_unless_after tx_lt part last) (tx_at bytes at)

abbrev pub seen_at : List ℕ → ℕ → Result (List TxId × ℕ) WireFault
seen_at bytes at = list_at at 0 64 (tx_behind at bytes) (λ tx. tx) bytes at

abbrev pub not_zero : ℕ → ℤ → Option WireFault
not_zero part amount = if is_zero_amount (0, amount) then Some (Range part) else None

-- an attribute behind the last one, and its amount
abbrev pub amount_behind : ℕ → List ℕ → Option ℕ → ℕ → Result ((ℕ × ℤ) × ℕ) WireFault
amount_behind part bytes last at = do
  attribute ← checked (fault_unless_after nat_lt part last) (u8_within part 1 4 bytes at)
  amount ← checked (not_zero part) (i64_at bytes attribute.1)
  Ok ((attribute.0, amount.0), amount.1)

abbrev pub amounts_at : List ℕ → ℕ → Result (List (ℕ × ℤ) × ℕ) WireFault
amounts_at bytes at = list_at at 1 4 (amount_behind at bytes) (λ amount. amount.0) bytes at

abbrev pub write_at : List ℕ → ℕ → Result (Update × ℕ) WireFault
write_at bytes at = do
  item ← item_at bytes at
  seen ← seen_at bytes item.1
  Ok (Write item.0 seen.0, seen.1)

abbrev pub add_at : List ℕ → ℕ → Result (Update × ℕ) WireFault
add_at bytes at = do
  amounts ← amounts_at bytes at
  Ok (Add amounts.0, amounts.1)

abbrev pub update_at : List ℕ → ℕ → Result (Update × ℕ) WireFault
update_at bytes at = do
  tag ← u8_within at 1 2 bytes at
  if tag.0 == 1 then write_at bytes tag.1 else add_at bytes tag.1

-- a key behind the last one, its version and its update
abbrev pub part_behind : ℕ → List ℕ → Option (List ℕ) → ℕ → Result (Part × ℕ) WireFault
part_behind part bytes last at = do
  key ← checked (fault_unless_after key_lt part last) (key_at bytes at)
  version ← u64_at bytes key.1
  update ← update_at bytes version.1
  Ok (record { key = key.0; version = version.0; update = update.0 }, update.1)

-- a transaction behind the last one, and its amounts
abbrev pub delta_behind : ℕ → List ℕ → Option TxId → ℕ → Result (Delta × ℕ) WireFault
delta_behind part bytes last at = do
  tx ← tx_behind part bytes last at
  amounts ← amounts_at bytes tx.1
  Ok (record { tx = tx.0; amounts = amounts.0 }, amounts.1)

abbrev pub delta_at : List ℕ → ℕ → Result (Delta × ℕ) WireFault
delta_at bytes at = delta_behind at bytes None at

-- ---- choices

-- a key behind the last one, and its version
abbrev pub written_behind : ℕ → List ℕ → Option (List ℕ) → ℕ → Result ((List ℕ × ℕ) × ℕ) WireFault
written_behind part bytes last at = do
  key ← checked (fault_unless_after key_lt part last) (key_at bytes at)
  version ← u64_at bytes key.1
  Ok ((key.0, version.0), version.1)

abbrev pub write_set_at : List ℕ → ℕ → Result (List (List ℕ × ℕ) × ℕ) WireFault
write_set_at bytes at = list_at at 1 8 (written_behind at bytes) (λ written. written.0) bytes at

-- the write set that begins at a place has a choice's own key and version
abbrev pub has_own : ℕ → List ℕ → ℕ → List (List ℕ × ℕ) → Option WireFault
has_own part key version write_set = if is_written write_set key version then None else Some (NotCanonical part)

-- a choice whose transaction, key and version are checked as soon as each is read
abbrev pub choice_checked : (TxId → Option WireFault) → (List ℕ → Option WireFault) → (ℕ → Option WireFault) → List ℕ → ℕ → Result (Choice × ℕ) WireFault
choice_checked check_tx check_key check_version bytes at = do
  tx ← checked check_tx (tx_at bytes at)
  key ← checked check_key (key_at bytes tx.1)
  version ← checked check_version (u64_at bytes key.1)
  update ← update_at bytes version.1
  write_set ← checked (has_own update.1 key.0 version.0) (write_set_at bytes update.1)
  Ok (record { tx = tx.0; key = key.0; version = version.0; update = update.0; write_set = write_set.0 }, write_set.1)

abbrev pub choice_at : List ℕ → ℕ → Result (Choice × ℕ) WireFault
choice_at bytes at = choice_checked free free free bytes at

-- ---- marks, structures, outcomes

abbrev pub reject_behind : ℕ → List ℕ → Option TxId → ℕ → Result ((TxId × Mark) × ℕ) WireFault
reject_behind part bytes last at = do
  tx ← tx_behind part bytes last at
  Ok ((tx.0, Reject), tx.1)

abbrev pub accept_behind : ℕ → List ℕ → ℕ → List ℕ → Option TxId → ℕ → Result ((TxId × Mark) × ℕ) WireFault
accept_behind part key version bytes last at = do
  choice ← choice_checked (fault_unless_after tx_lt part last) (same key_eq at key) (same nat_eq at version) bytes at
  Ok ((choice.0.tx, Accept choice.0), choice.1)

-- a mark in a part for this key and version, of a transaction behind the last one
abbrev pub entry_behind : ℕ → List ℕ → ℕ → List ℕ → Option TxId → ℕ → Result ((TxId × Mark) × ℕ) WireFault
entry_behind part key version bytes last at = do
  tag ← u8_within at 0 1 bytes at
  if tag.0 == 0 then reject_behind part bytes last tag.1 else accept_behind part key version bytes last tag.1

abbrev pub mark_entry_at : List ℕ → ℕ → List ℕ → ℕ → Result ((TxId × Mark) × ℕ) WireFault
mark_entry_at bytes at key version = entry_behind at key version bytes None at

abbrev pub options_at : List ℕ → ℕ → List ℕ → ℕ → Result (Marks × ℕ) WireFault
options_at bytes at key version = do
  count ← u32_at bytes at
  elements_at (entry_behind at key version bytes) (λ e. e.0) count.0 None count.1

-- a choice of this transaction, for a key behind the last one
abbrev pub choice_behind : ℕ → TxId → List ℕ → Option (List ℕ) → ℕ → Result (Choice × ℕ) WireFault
choice_behind part tx bytes last at = choice_checked (same tx_eq at tx) (fault_unless_after key_lt part last) free bytes at

abbrev pub commit_at : List ℕ → ℕ → TxId → Result (Outcome × ℕ) WireFault
commit_at bytes at tx = do
  choices ← list_at at 1 8 (choice_behind at tx bytes) (λ choice. choice.key) bytes at
  Ok (Commit choices.0, choices.1)

abbrev pub outcome_at : List ℕ → ℕ → TxId → Result (Outcome × ℕ) WireFault
outcome_at bytes at tx = do
  tag ← u8_within at 0 1 bytes at
  if tag.0 == 0 then Ok (Abort, tag.1) else commit_at bytes tag.1 tx

abbrev pub classic_cause_at : List ℕ → ℕ → Result (Cause × ℕ) WireFault
classic_cause_at bytes at = do
  ballot ← classic_at bytes at
  Ok (Classic ballot.0, ballot.1)

abbrev pub limit_cause_at : List ℕ → ℕ → Result (Cause × ℕ) WireFault
limit_cause_at bytes at = do
  quantity ← u8_within at 0 4 bytes at
  Ok (Limit quantity.0, quantity.1)

-- the cause of a number
abbrev pub cause_by : ℕ → List ℕ → ℕ → Result (Cause × ℕ) WireFault
cause_by tag bytes at =
    if tag == 1 then Ok (Behind, at)
    else (if tag == 2 then classic_cause_at bytes at
    else (if tag == 3 then limit_cause_at bytes at
    else Ok (Full, at)))

abbrev pub cause_at : List ℕ → ℕ → Result (Cause × ℕ) WireFault
cause_at bytes at = do
  tag ← u8_within at 1 4 bytes at
  cause_by tag.0 bytes tag.1
