-- The entries of a fact that bring an update into an instance, as they are read in its encoding: of each its transaction, and the amounts that it adds, none where it writes.
use Rattle.std.specs.Prelude.{◌≡◌, Bool, List, None, Ok, Err, Option, Result, Some, [], drop, if◌then◌else◌, suc, take, zero, ℕ, ℤ, ◌&&◌, ◌+◌, ◌==◌, ◌∷◌}
use Rattle.mdcc_base.specs.Key.{key_eq}
use Rattle.mdcc_base.specs.declared.identifiers.TxId.{TxId}
use Rattle.mdcc_base.specs.declared.key.Key.{Key}
use Rattle.mdcc_def_messages.specs.ReadingParts.{amounts_at, tx_at}
use Rattle.mdcc_def_messages.specs.ReadingSteps.{u32_at, u64_at}
use Rattle.mdcc_def_messages.specs.declared.wire.WireFault.{WireFault}
use Rattle.mdcc_cells_delta_walk.specs.Passing.{after_counted, after_counted_item, byte_at, entry_head, past_update}
use Rattle.mdcc_cells_delta_walk.specs.declared.entries.Entries.{Entries}
use Rattle.mdcc_cells_delta_walk.specs.declared.entries.Kind.{Kind}
use Rattle.mdcc_def_protocol.specs.Marks.{Amounts}

abbrev pub DeltaEntry : Type 0
DeltaEntry = TxId × Option Amounts

-- ---- what is read

abbrev pub tx_read : Result (TxId × ℕ) WireFault → TxId
tx_read (Ok found) = found.0
tx_read (Err fault) = record { centre = 1; epoch = 1; seq = 1 }

-- the transaction there
abbrev pub tx_in : List ℕ → ℕ → TxId
tx_in bytes at = tx_read (tx_at bytes at)

abbrev pub amounts_read : Result (Amounts × ℕ) WireFault → Amounts
amounts_read (Ok found) = found.0
amounts_read (Err fault) = []

-- the amounts there
abbrev pub amounts_in : List ℕ → ℕ → Amounts
amounts_in bytes at = amounts_read (amounts_at bytes at)

abbrev pub number_read : Result (ℕ × ℕ) WireFault → ℕ
number_read (Ok found) = found.0
number_read (Err fault) = 0

-- the number of four bytes there
abbrev pub number_in : List ℕ → ℕ → ℕ
number_in bytes at = number_read (u32_at bytes at)

-- the number of eight bytes there
abbrev pub version_in : List ℕ → ℕ → ℕ
version_in bytes at = number_read (u64_at bytes at)

-- whether there is the key with the version
abbrev pub is_instance_in : Key → ℕ → List ℕ → ℕ → Bool
is_instance_in key version bytes at = key_eq (take (byte_at at bytes) (drop (at + 1) bytes)) key && version_in bytes (at + 1 + byte_at at bytes) == version

-- ---- where the update of an entry begins

-- after a choice's transaction, key and version
abbrev pub bytes_at_update : List ℕ → List ℕ
bytes_at_update bytes = drop (18 + byte_at 9 (entry_head bytes)) bytes

-- of a mark: of one that rejects, where the next begins
abbrev pub after_mark_entry : List ℕ → List ℕ
after_mark_entry bytes = if byte_at 0 (entry_head bytes) == 0 then drop 10 bytes else drop (19 + byte_at 10 (entry_head bytes)) bytes

abbrev pub tx_of_mark : List ℕ → Option TxId
tx_of_mark bytes = if byte_at 0 (entry_head bytes) == 0 then None else Some (tx_in (entry_head bytes) 1)

-- whether there is a choice that adds to the instance
abbrev pub is_add_of : Key → ℕ → List ℕ → Bool
is_add_of key version bytes = is_instance_in key version (entry_head bytes) 9 && byte_at 0 (bytes_at_update bytes) == 2

-- of a choice: of one that does not add to the instance, where the next begins
abbrev pub after_other_choice : Key → ℕ → List ℕ → List ℕ
after_other_choice key version bytes = if is_add_of key version bytes then bytes_at_update bytes else past_update (bytes_at_update bytes)

abbrev pub tx_of_choice : Key → ℕ → List ℕ → Option TxId
tx_of_choice key version bytes = if is_add_of key version bytes then Some (tx_in (entry_head bytes) 0) else None

-- ---- entries

-- the transaction of an entry, if it brings an update
abbrev pub tx_entered : Kind → Key → ℕ → List ℕ → Option TxId
tx_entered Kind.Marks key version bytes = tx_of_mark bytes
tx_entered Kind.Choices key version bytes = tx_of_choice key version bytes
tx_entered Kind.Deltas key version bytes = Some (tx_in (entry_head bytes) 0)

-- its update, or where the next begins if it brings none
abbrev pub after_entered : Kind → Key → ℕ → List ℕ → List ℕ
after_entered Kind.Marks key version bytes = after_mark_entry bytes
after_entered Kind.Choices key version bytes = after_other_choice key version bytes
after_entered Kind.Deltas key version bytes = drop 9 bytes

abbrev pub added_in : List ℕ → Option Amounts
added_in bytes = if byte_at 0 (entry_head bytes) == 2 then Some (amounts_in (entry_head bytes) 1) else None

-- the amounts that an update adds
abbrev pub added_as : Kind → List ℕ → Option Amounts
added_as Kind.Deltas bytes = Some (amounts_in (entry_head bytes) 0)
added_as _ bytes = added_in bytes

-- after the entry whose update begins there
abbrev pub past_entry : Kind → List ℕ → List ℕ
past_entry Kind.Deltas bytes = after_counted 9 bytes
past_entry _ bytes = past_update bytes

abbrev pub cons_entry : Option TxId → Option Amounts → (taken passed : List DeltaEntry) → List DeltaEntry
cons_entry None added taken passed = passed
cons_entry (Some tx) added taken passed = (tx, added) ∷ taken

-- so many entries
abbrev pub delta_entries_in : Kind → Key → ℕ → ℕ → List ℕ → List DeltaEntry
delta_entries_in kind key version zero bytes = []
delta_entries_in kind key version (suc count) bytes =
    cons_entry (tx_entered kind key version bytes) (added_as kind (after_entered kind key version bytes))
    (delta_entries_in kind key version count (past_entry kind (after_entered kind key version bytes)))
    (delta_entries_in kind key version count (after_entered kind key version bytes))

-- ---- a reader of entries

-- those that are left, where it stands at the beginning of one
abbrev pub left_in : Entries → List DeltaEntry
left_in e = delta_entries_in e.kind e.key e.version e.left e.cursor

-- those that are left after the one at whose update it stands
abbrev pub rest_in : Entries → List DeltaEntry
rest_in e = delta_entries_in e.kind e.key e.version e.left (past_entry e.kind e.cursor)

-- what the entry adds at whose update it stands
abbrev pub added_by : Entries → Option Amounts
added_by e = added_as e.kind e.cursor

-- it stands at the update of the first of these, or there is none
abbrev pub IsAtFirst : List DeltaEntry → Option TxId → Entries → Type 0
IsAtFirst [] found e = found ≡ None
IsAtFirst (first ∷ others) found e = record { tx : found ≡ Some first.0; added : added_by e ≡ first.1; rest : rest_in e ≡ others }

-- ---- facts

-- a reader of no entry
abbrev pub no_entries : Key → ℕ → List ℕ → Entries
no_entries key version bytes = record { cursor = bytes; left = 0; kind = Kind.Marks; key = key; version = version }

-- the marks of a vote in the instance
abbrev pub marks_opened : Key → ℕ → List ℕ → Entries
marks_opened key version bytes =
    if is_instance_in key version (entry_head bytes) 1
    then record { cursor = drop (23 + byte_at 1 (entry_head bytes)) bytes; left = number_in (entry_head bytes) (19 + byte_at 1 (entry_head bytes)); kind = Kind.Marks; key = key; version = version }
    else no_entries key version bytes

-- the choices of a commit
abbrev pub choices_opened : Key → ℕ → List ℕ → Entries
choices_opened key version bytes =
    if byte_at 10 (entry_head bytes) == 1
    then record { cursor = drop 12 bytes; left = byte_at 11 (entry_head bytes); kind = Kind.Choices; key = key; version = version }
    else no_entries key version bytes

-- the deltas that were adopted with the version
abbrev pub deltas_opened : Key → ℕ → List ℕ → Entries
deltas_opened key version bytes =
    if is_instance_in key version (entry_head bytes) 1
    then record { cursor = drop 1 (after_counted_item (drop (10 + byte_at 1 (entry_head bytes)) bytes)); left = byte_at 0 (after_counted_item (drop (10 + byte_at 1 (entry_head bytes)) bytes)); kind = Kind.Deltas; key = key; version = version }
    else no_entries key version bytes

-- those of a fact that bring deltas
abbrev pub opened_deltas : Key → ℕ → List ℕ → Entries
opened_deltas key version bytes =
    if byte_at 0 (entry_head bytes) == 4 then choices_opened key version bytes
    else (if byte_at 0 (entry_head bytes) == 5 then deltas_opened key version bytes else no_entries key version bytes)

-- those of a fact that bring live updates
abbrev pub opened_live : Key → ℕ → List ℕ → Entries
opened_live key version bytes = if byte_at 0 (entry_head bytes) == 3 then marks_opened key version bytes else opened_deltas key version bytes

abbrev pub deltas_read : Key → ℕ → List ℕ → List DeltaEntry
deltas_read key version bytes = left_in (opened_deltas key version bytes)

abbrev pub live_read : Key → ℕ → List ℕ → List DeltaEntry
live_read key version bytes = left_in (opened_live key version bytes)
