-- Which parts make a transaction, and the options that it proposes.
use Rattle.std.specs.Prelude.{ℕ, ◌-◌, ℤ, pos, ◌-ℤ◌, Bool, true, ◌&&◌, ◌||◌, not, nat_lt, nat_le, nat_abs, int_le, ◌==◌, if◌then◌else◌, get_or, List, [], ◌∷◌, length, map, Option, Some, None, Result, Ok, Err}
use Rattle.std.specs.List.{list_all, list_any}
use Rattle.mdcc_base.specs.declared.identifiers.TxId.{TxId}
use Rattle.mdcc_option.specs.declared.items.Part.{Part}
use Rattle.mdcc_option.specs.declared.items.Update.{Update}
use Rattle.mdcc_option.specs.declared.items.Update.TheVariants.{Write, Add}
use Rattle.mdcc_option.specs.declared.choices.Choice.{Choice}
use Rattle.mdcc_option.specs.declared.faults.DraftFault.{DraftFault}
use Rattle.mdcc_option.specs.declared.faults.DraftFault.TheVariants.{Empty, TooMany, RepeatedKey, BadAttribute, ZeroAmount, OutOfBounds}
use Rattle.mdcc_option.specs.Bounds.{are_within}
use Rattle.mdcc_option.specs.Parts.{sorted_parts, is_key_repeated}

-- ---- one part

-- attributes of a schema with so many, ascending, above the last one
abbrev pub are_attributes : ℕ → ℕ → List (ℕ × ℤ) → Bool
are_attributes count last [] = true
are_attributes count last (a ∷ as') = nat_lt last a.0 && (nat_le a.0 count && are_attributes count a.0 as')

-- the bounds of an attribute, which is counted from 1
abbrev pub bounds_of : List (ℤ × ℤ) → ℕ → ℤ × ℤ
bounds_of schema attribute = get_or schema (attribute - 1) (pos 0, pos 0)

-- the amount is no larger than what lies between the bounds
abbrev pub is_amount_within : List (ℤ × ℤ) → ℕ × ℤ → Bool
is_amount_within schema a =
    int_le (pos (nat_abs a.1)) ((bounds_of schema a.0).1 -ℤ (bounds_of schema a.0).0)

abbrev pub is_zero_amount : ℕ × ℤ → Bool
is_zero_amount a = nat_abs a.1 == 0

-- why values are not those of an item of the schema
abbrev pub write_fault : List (ℤ × ℤ) → List ℤ → Option DraftFault
write_fault schema values =
    if not (length values == length schema) then Some BadAttribute
    else (if are_within schema values then None else Some OutOfBounds)

-- why amounts are not ones that may be added under the schema
abbrev pub add_fault : List (ℤ × ℤ) → List (ℕ × ℤ) → Option DraftFault
add_fault schema amounts =
    if length amounts == 0 || not (are_attributes (length schema) 0 amounts) then Some BadAttribute
    else (if list_any is_zero_amount amounts then Some ZeroAmount
    else (if list_all (is_amount_within schema) amounts then None else Some OutOfBounds))

-- why an update is not one of the schema
abbrev pub update_fault : List (ℤ × ℤ) → Update → Option DraftFault
update_fault schema (Write item seen) = write_fault schema item.values
update_fault schema (Add amounts) = add_fault schema amounts

-- ---- all parts

abbrev pub fault_or : Option DraftFault → Option DraftFault → Option DraftFault
fault_or None later = later
fault_or (Some fault) later = Some fault

-- the fault of the first part that has one
abbrev pub parts_fault : List (ℤ × ℤ) → List Part → Option DraftFault
parts_fault schema [] = None
parts_fault schema (part ∷ parts) = fault_or (update_fault schema part.update) (parts_fault schema parts)

abbrev pub checked_by : Option DraftFault → List Part → Result (List Part) DraftFault
checked_by None parts = Ok parts
checked_by (Some fault) parts = Err fault

-- the parts in key order, or why they make no transaction
abbrev pub transaction_of : List (ℤ × ℤ) → List Part → Result (List Part) DraftFault
transaction_of schema parts =
    if length parts == 0 then Err Empty
    else (if nat_lt 8 (length parts) then Err TooMany
    else (if is_key_repeated parts then Err RepeatedKey
    else checked_by (parts_fault schema (sorted_parts parts)) (sorted_parts parts)))

-- ---- what it proposes

-- all keys with their versions
abbrev pub write_set_of_parts : List Part → List (List ℕ × ℕ)
write_set_of_parts parts = map (λ part. (part.key, part.version)) parts

abbrev pub choice_of_part : TxId → List (List ℕ × ℕ) → Part → Choice
choice_of_part tx write_set part =
    record { tx = tx; key = part.key; version = part.version; update = part.update; write_set = write_set }

-- the choice for each key
abbrev pub choices_of : TxId → List Part → List Choice
choices_of tx parts = map (choice_of_part tx (write_set_of_parts parts)) parts
