-- The base that a fact gives a version of a key, as it is read in its encoding.
use Rattle.std.specs.Prelude.{Bool, Err, List, None, Ok, Option, Result, Some, drop, false, if◌then◌else◌, suc, take, zero, ℕ, ◌&&◌, ◌+◌, ◌==◌}
use Rattle.mdcc_base.specs.Key.{key_eq}
use Rattle.mdcc_base.specs.declared.key.Key.{Key}
use Rattle.mdcc_option.specs.OneCopy.{next_version}
use Rattle.mdcc_option.specs.declared.items.Item.{Item}
use Rattle.mdcc_def_messages.specs.Reading.{instance_at}
use Rattle.mdcc_def_messages.specs.ReadingParts.{item_at}
use Rattle.mdcc_def_messages.specs.declared.wire.WireFault.{WireFault}
use Rattle.mdcc_cells_delta_walk.specs.Entries.{bytes_at_update, is_instance_in}
use Rattle.mdcc_cells_delta_walk.specs.Passing.{byte_at, entry_head, past_update}

abbrev pub item_if_read : Result (Item × ℕ) WireFault → Option Item
item_if_read (Ok found) = Some found.0
item_if_read (Err fault) = None

-- the item there: a body of at most 128 bytes, and at most 4 values
abbrev pub item_in : List ℕ → Option Item
item_in bytes = item_if_read (item_at (take 162 bytes) 0)

abbrev pub gives_version : Key → ℕ → Result ((List ℕ × ℕ) × ℕ) WireFault → Bool
gives_version key version (Ok found) = next_version found.0.1 == version && key_eq found.0.0 key
gives_version key version (Err fault) = false

-- whether there is the key with a version before this one
abbrev pub is_before_in : Key → ℕ → List ℕ → ℕ → Bool
is_before_in key version bytes at = gives_version key version (instance_at bytes at)

-- whether there is a choice that writes the version
abbrev pub is_write_of : Key → ℕ → List ℕ → Bool
is_write_of key version bytes = is_before_in key version (entry_head bytes) 9 && byte_at 0 (bytes_at_update bytes) == 1

-- the item of the first of so many choices that writes the version
abbrev pub written_in : Key → ℕ → ℕ → List ℕ → Option Item
written_in key version zero bytes = None
written_in key version (suc count) bytes =
    if is_write_of key version bytes then item_in (drop 1 (bytes_at_update bytes))
    else written_in key version count (past_update (bytes_at_update bytes))

-- by a commit
abbrev pub base_committed : Key → ℕ → List ℕ → Option Item
base_committed key version bytes = if byte_at 10 (entry_head bytes) == 1 then written_in key version (byte_at 11 (entry_head bytes)) (drop 12 bytes) else None

-- by an adoption
abbrev pub base_adopted : Key → ℕ → List ℕ → Option Item
base_adopted key version bytes = if is_instance_in key version (entry_head bytes) 1 then item_in (drop (10 + byte_at 1 (entry_head bytes)) bytes) else None

abbrev pub base_in : Key → ℕ → List ℕ → Option Item
base_in key version bytes =
    if byte_at 0 bytes == 4 then base_committed key version bytes
    else (if byte_at 0 bytes == 5 then base_adopted key version bytes else None)
