-- The bytes of the parts of messages and facts. Every value has one spelling.
use Rattle.std.specs.Prelude.{ℕ, ℤ, List, ◌++◌, length}
use Rattle.std.specs.List.{flat_map}
use Rattle.mdcc_base.specs.declared.identifiers.Ballot.{Ballot}
use Rattle.mdcc_base.specs.declared.identifiers.TxId.{TxId}
use Rattle.mdcc_option.specs.declared.items.Item.{Item}
use Rattle.mdcc_option.specs.declared.items.Part.{Part}
use Rattle.mdcc_option.specs.declared.items.Delta.{Delta}
use Rattle.mdcc_option.specs.declared.items.Update.{Update}
use Rattle.mdcc_option.specs.declared.items.Update.TheVariants.{Write, Add}
use Rattle.mdcc_option.specs.declared.choices.Cause.{Cause}
use Rattle.mdcc_option.specs.declared.choices.Cause.TheVariants.{Behind, Classic, Limit, Full}
use Rattle.mdcc_option.specs.declared.choices.Choice.{Choice}
use Rattle.mdcc_option.specs.declared.choices.Mark.{Mark}
use Rattle.mdcc_option.specs.declared.choices.Mark.TheVariants.{Accept, Reject}
use Rattle.mdcc_option.specs.declared.choices.Outcome.{Outcome}
use Rattle.mdcc_option.specs.declared.choices.Outcome.TheVariants.{Commit, Abort}
use Rattle.mdcc_struct.specs.Options.{Marks}
use Rattle.mdcc_def_messages.specs.Bytes.{u8_bytes, u32_bytes, u64_bytes, i64_bytes, counted_bytes}

-- the length, and the bytes of the key
abbrev pub key_bytes : List ℕ → List ℕ
key_bytes key = u8_bytes (length key) ++ key

-- centre, epoch, number
abbrev pub tx_bytes : TxId → List ℕ
tx_bytes tx = u8_bytes tx.centre ++ u32_bytes tx.epoch ++ u32_bytes tx.seq

-- round, epoch, centre
abbrev pub ballot_bytes : Ballot → List ℕ
ballot_bytes ballot = u32_bytes ballot.round ++ u32_bytes ballot.epoch ++ u8_bytes ballot.centre

-- ---- items and what is done to them

-- the length of the body and the body, the number of values and the values
abbrev pub item_bytes : Item → List ℕ
item_bytes item = u8_bytes (length item.body) ++ item.body ++ counted_bytes i64_bytes item.values

-- transactions, ascending
abbrev pub seen_bytes : List TxId → List ℕ
seen_bytes seen = counted_bytes tx_bytes seen

-- an attribute and its amount
abbrev pub amount_bytes : ℕ × ℤ → List ℕ
amount_bytes amount = u8_bytes amount.0 ++ i64_bytes amount.1

-- amounts, ascending by attribute
abbrev pub amounts_bytes : List (ℕ × ℤ) → List ℕ
amounts_bytes amounts = counted_bytes amount_bytes amounts

-- 1 for a written item, 2 for added amounts
abbrev pub update_bytes : Update → List ℕ
update_bytes (Write item seen) = u8_bytes 1 ++ item_bytes item ++ seen_bytes seen
update_bytes (Add amounts) = u8_bytes 2 ++ amounts_bytes amounts

-- what a client asks to do to a key
abbrev pub part_bytes : Part → List ℕ
part_bytes part = key_bytes part.key ++ u64_bytes part.version ++ update_bytes part.update

-- what a transaction added
abbrev pub delta_bytes : Delta → List ℕ
delta_bytes delta = tx_bytes delta.tx ++ amounts_bytes delta.amounts

-- ---- choices and what becomes of them

-- a key and its version
abbrev pub written_bytes : List ℕ × ℕ → List ℕ
written_bytes written = key_bytes written.0 ++ u64_bytes written.1

-- keys with their versions, ascending by key
abbrev pub write_set_bytes : List (List ℕ × ℕ) → List ℕ
write_set_bytes write_set = counted_bytes written_bytes write_set

abbrev pub choice_bytes : Choice → List ℕ
choice_bytes choice =
    tx_bytes choice.tx ++ key_bytes choice.key ++ u64_bytes choice.version
    ++ update_bytes choice.update ++ write_set_bytes choice.write_set

-- 0 and the transaction for a rejection, 1 and the choice, which names its transaction, for an acceptance
abbrev pub entry_bytes : TxId → Mark → List ℕ
entry_bytes tx Reject = u8_bytes 0 ++ tx_bytes tx
entry_bytes tx (Accept choice) = u8_bytes 1 ++ choice_bytes choice

-- how many marks there are, and each with its transaction, ascending
abbrev pub options_bytes : Marks → List ℕ
options_bytes options = u32_bytes (length options) ++ flat_map (λ e. entry_bytes e.0 e.1) options

-- 0 for an abort, 1 and the choices for a commit
abbrev pub outcome_bytes : Outcome → List ℕ
outcome_bytes Abort = u8_bytes 0
outcome_bytes (Commit choices) = u8_bytes 1 ++ counted_bytes choice_bytes choices

-- why no vote was given at the fast ballot
abbrev pub cause_bytes : Cause → List ℕ
cause_bytes Behind = u8_bytes 1
cause_bytes (Classic ballot) = u8_bytes 2 ++ ballot_bytes ballot
cause_bytes (Limit quantity) = u8_bytes 3 ++ u8_bytes quantity
cause_bytes Full = u8_bytes 4

-- ---- what messages and facts have in common

-- a transaction and how it ended
abbrev pub heard_bytes : TxId → Outcome → List ℕ
heard_bytes tx outcome = tx_bytes tx ++ outcome_bytes outcome

-- what a centre holds of a key: version, base, and deltas, ascending by transaction
abbrev pub given_bytes : List ℕ → ℕ → Item → List Delta → List ℕ
given_bytes key version item adds =
    key_bytes key ++ u64_bytes version ++ item_bytes item ++ counted_bytes delta_bytes adds
