-- The transactions that are not resolved, in a table that has the number of a fact with the write set of each.
use Rattle.std.specs.Option.{option_and_then}
use Rattle.std.specs.Prelude.{List, Option, Some, Bool, ℕ, ◌≡◌, ◌<◌, filter_map, fold, if◌then◌else◌, length, option_map, slice_get}
use Rattle.std.specs.List.{AllByRecursion}
use Rattle.mdcc_base.specs.declared.identifiers.TxId.{TxId}
use Rattle.mdcc_base.specs.declared.key.Key.{Key}
use Rattle.mdcc_struct.specs.Maps.{TxMap, txs_of, value_of, with_entry}
use Rattle.mdcc_def_protocol.specs.Facts.{is_heard, write_sets_from}
use Rattle.mdcc_def_protocol.specs.Plain.{plain_unresolved_at, plain_unresolved_of}
use Rattle.mdcc_def_messages.specs.declared.facts.Fact.{Fact}
use Rattle.mdcc_cells_chains.specs.Unresolved.{without}
use Rattle.mdcc_cells_tables.specs.Numbers.{fact_numbered}

-- ---- with one more fact

-- with the number of a transaction, unless it was heard. A number that is there stays
abbrev pub with_unheard_number : (TxId → Bool) → ℕ → TxMap ℕ → TxId → TxMap ℕ
with_unheard_number heard number entries tx = if heard tx then entries else with_entry entries (tx, number)

-- with each of some transactions that was not heard
abbrev pub with_all_unheard : (TxId → Bool) → ℕ → TxMap ℕ → List TxId → TxMap ℕ
with_all_unheard heard number entries txs = fold (with_unheard_number heard number) entries txs

-- an outcome takes its transaction out, and a vote puts in those of its choices that were not heard
abbrev pub next_numbers : (TxId → Bool) → ℕ → TxMap ℕ → Fact → TxMap ℕ
next_numbers heard number entries (Fact.Heard tx outcome) = without entries tx
next_numbers heard number entries fact = with_all_unheard heard number entries (txs_of (write_sets_from fact))

-- ---- what a table says of facts

-- the write set that the fact of a number has of a transaction
abbrev pub write_set_numbered : List Fact → ℕ → TxId → Option (List (Key × ℕ))
write_set_numbered facts number tx = option_and_then (λ fact. value_of (write_sets_from fact) tx) (fact_numbered facts number)

-- each number is below this one
abbrev pub AreBelowNumber : ℕ → TxMap ℕ → Type 0
AreBelowNumber number entries = AllByRecursion (λ e. e.1 < number) entries

-- the table has the unresolved transactions, ascending, and of each the number of a fact that has its write set
pub record ListsUnresolved (entries : TxMap ℕ) (facts : List Fact) : Type 0 where
  pub txs : txs_of entries ≡ txs_of (plain_unresolved_of facts)
  pub write_sets : (tx : TxId) → value_of (plain_unresolved_of facts) tx ≡ option_and_then (λ number. write_set_numbered facts number tx) (value_of entries tx)
  pub numbers : AreBelowNumber (length facts) entries

-- a test of transactions is that of these facts
abbrev pub TellsHeard : (TxId → Bool) → List Fact → Type 0
TellsHeard heard facts = (tx : TxId) → heard tx ≡ is_heard facts tx

-- ---- what a reader of facts by their numbers answers

-- an entry with the write set of its transaction
abbrev pub with_write_set : List Fact → TxId × ℕ → Option (TxId × List (Key × ℕ))
with_write_set facts e = option_map (λ write_set. (e.0, write_set)) (write_set_numbered facts e.1 e.0)

abbrev pub WriteSetIsRead : Type 0
WriteSetIsRead =
    (facts : List Fact) (number : ℕ) (fact : Fact) (tx : TxId) → fact_numbered facts number ≡ Some fact → write_set_numbered facts number tx ≡ value_of (write_sets_from fact) tx

abbrev pub UnresolvedIsRead : Type 0
UnresolvedIsRead =
    (entries : TxMap ℕ) (facts : List Fact) (place : ℕ) → ListsUnresolved entries facts → plain_unresolved_at facts place ≡ option_and_then (with_write_set facts) (slice_get entries place)

abbrev pub AllUnresolvedAreRead : Type 0
AllUnresolvedAreRead = (entries : TxMap ℕ) (facts : List Fact) → ListsUnresolved entries facts → plain_unresolved_of facts ≡ filter_map (with_write_set facts) entries
