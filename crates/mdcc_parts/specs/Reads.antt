-- What is read behind the front of a part, and what is left of a reading whose value is not asked for.
use Rattle.std.specs.Prelude.{ℕ, Bool, true, false, List, Result, Ok}
use Rattle.mdcc_base.specs.declared.identifiers.TxId.{TxId}
use Rattle.mdcc_option.specs.declared.choices.Choice.{Choice}
use Rattle.mdcc_def_messages.specs.declared.wire.WireFault.{WireFault}
use Rattle.mdcc_def_messages.specs.declared.wire.WireFault.TheVariants.{Truncated, Trailing, Kind, Range, NotCanonical, Memory}
use Rattle.mdcc_def_messages.specs.ReadingSteps.{◌>>=◌, checked}
use Rattle.mdcc_def_messages.specs.ReadingParts.{update_at, write_set_at, has_own}

-- the update and the write set of a choice whose transaction, key and version were read
abbrev pub choice_behind_version : TxId → List ℕ → ℕ → List ℕ → ℕ → Result (Choice × ℕ) WireFault
choice_behind_version tx key version bytes at = do
  update ← update_at bytes at
  write_set ← checked (has_own update.1 key version) (write_set_at bytes update.1)
  Ok (record { tx = tx; key = key; version = version; update = update.0; write_set = write_set.0 }, write_set.1)

-- where a part ends, or its fault
abbrev pub end_of : {X : Type 0} → Result (X × ℕ) WireFault → Result ℕ WireFault
end_of read = do
  x ← read
  Ok x.1

-- what names an element and where it ends, or its fault
abbrev pub name_and_end : {X K : Type 0} → (X → K) → Result (X × ℕ) WireFault → Result (K × ℕ) WireFault
name_and_end name_of read = do
  x ← read
  Ok (name_of x.0, x.1)

-- want of memory
abbrev pub is_wire_memory : WireFault → Bool
is_wire_memory (Truncated at) = false
is_wire_memory (Trailing at) = false
is_wire_memory Kind = false
is_wire_memory (Range at) = false
is_wire_memory (NotCanonical at) = false
is_wire_memory Memory = true
