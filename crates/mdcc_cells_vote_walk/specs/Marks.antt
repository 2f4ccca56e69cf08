-- The marks of a vote, in the bytes that begin with them.
use Rattle.std.specs.Option.{option_and_then, option_map, option_or}
use Rattle.std.specs.Prelude.{Bool, List, None, Option, Some, Result, Ok, Err, [], false, ℕ, ◌&&◌, ◌==◌, ◌∷◌, drop, get_or, if◌then◌else◌, suc, take, zero}
use Rattle.mdcc_base.specs.TxId.{tx_eq}
use Rattle.mdcc_base.specs.declared.identifiers.TxId.{TxId}
use Rattle.mdcc_option.specs.declared.choices.Choice.{Choice}
use Rattle.mdcc_option.specs.declared.choices.Mark.{Mark}
use Rattle.mdcc_option.specs.declared.choices.Mark.TheVariants.{Accept, Reject}
use Rattle.mdcc_struct.specs.Maps.{TxMap}
use Rattle.mdcc_def_messages.specs.declared.wire.WireFault.{WireFault}
use Rattle.mdcc_def_messages.specs.ReadingParts.{choice_at, tx_at}
use Rattle.mdcc_def_messages.specs.ReadingSteps.{◌>>=◌, u8_within}
use Rattle.mdcc_cells_vote_walk.specs.Passing.{after_mark, after_marks}
use Rattle.mdcc_def_protocol.specs.Marks.{choice_in}
use Rattle.mdcc_cells_vote_walk.specs.declared.heads.Head.{Head}

-- ---- what marks begin with

-- the transaction of a mark, and its tag
abbrev pub tag_at : List ℕ → Result ((TxId × ℕ) × ℕ) WireFault
tag_at bytes = do
  tag ← u8_within 0 0 1 bytes 0
  tx ← tx_at bytes tag.1
  Ok ((tx.0, tag.0), tx.1)

abbrev pub tagged : Result ((TxId × ℕ) × ℕ) WireFault → Option (TxId × Bool)
tagged (Ok mark) = Some (mark.0.0, mark.0.1 == 1)
tagged (Err fault) = None

-- the transaction of the first mark, and whether it is accepted
abbrev pub first_tag : List ℕ → Option (TxId × Bool)
first_tag bytes = tagged (tag_at (take 10 bytes))

abbrev pub tag_before : Option (TxId × Bool) → TxMap Bool → TxMap Bool
tag_before None tags = []
tag_before (Some tag) tags = tag ∷ tags

-- the transactions of so many marks, and which of them are accepted
abbrev pub tags_in : ℕ → List ℕ → TxMap Bool
tags_in zero bytes = []
tags_in (suc count) bytes = tag_before (first_tag bytes) (tags_in count (after_mark bytes))

-- ---- the mark of a transaction

abbrev pub found_here : TxId → Option (TxId × Bool) → List ℕ → Option (List ℕ) → Option (List ℕ)
found_here tx None bytes later = None
found_here tx (Some tag) bytes later = if tx_eq tag.0 tx then Some bytes else later

-- the bytes from the mark of a transaction on, among so many marks
abbrev pub found_in : TxId → ℕ → List ℕ → Option (List ℕ)
found_in tx zero bytes = None
found_in tx (suc count) bytes = found_here tx (first_tag bytes) bytes (found_in tx count (after_mark bytes))

abbrev pub choice_read : Result (Choice × ℕ) WireFault → Option Choice
choice_read (Ok choice) = Some choice.0
choice_read (Err fault) = None

-- the choice that comes after a tag
abbrev pub first_choice : List ℕ → Option Choice
first_choice bytes = choice_read (choice_at (take 1120 bytes) 1)

abbrev pub accepted : Choice → Mark
accepted choice = Accept choice

-- the mark that bytes begin with
abbrev pub first_mark : List ℕ → Option Mark
first_mark bytes = if get_or bytes 0 0 == 1 then option_map accepted (first_choice bytes) else Some Reject

-- the mark of a transaction in a vote with this head
abbrev pub mark_of : TxId → Head → List ℕ → Option Mark
mark_of tx head bytes = option_and_then first_mark (found_in tx head.count (drop head.begin bytes))

-- ---- the choice of a transaction

abbrev pub is_offered : TxId → Option (TxId × Bool) → Bool
is_offered tx None = false
is_offered tx (Some tag) = tag.1 && tx_eq tag.0 tx

-- the choice that bytes offer a transaction
abbrev pub offered_to : TxId → List ℕ → Option Choice
offered_to tx bytes = if is_offered tx (first_tag bytes) then first_choice bytes else None

-- the choice of a transaction that a vote with this head accepts
abbrev pub accepted_of : TxId → Head → List ℕ → Option Choice
accepted_of tx head bytes = option_and_then choice_in (mark_of tx head bytes)

-- the one that stands after its marks
abbrev pub offered_of : TxId → Head → List ℕ → Option Choice
offered_of tx head bytes = offered_to tx (after_marks head.count (drop head.begin bytes))

-- the choice of a transaction in a vote with this head, accepted or offered
abbrev pub choice_of : TxId → Head → List ℕ → Option Choice
choice_of tx head bytes = option_or (accepted_of tx head bytes) (offered_of tx head bytes)
