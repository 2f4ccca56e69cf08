-- How transactions ended, found by their transactions.
use Rattle.std.specs.Prelude.{List, Option, None, Some, Result, Ok, Err, [], filter_map, ◌∷◌, ◌++◌, ◌≡◌, ◌<◌, ◌≤◌, Bool, ℕ, ◌==◌, false, get_or, length, option_map, true}
use Rattle.mdcc_base.specs.TxId.{tx_eq}
use Rattle.mdcc_base.specs.declared.identifiers.TxId.{TxId}
use Rattle.mdcc_option.specs.declared.choices.Choice.{Choice}
use Rattle.mdcc_option.specs.declared.choices.Outcome.{Outcome}
use Rattle.mdcc_def_messages.specs.Reading.{heard_at}
use Rattle.mdcc_def_messages.specs.declared.facts.Fact.{Fact}
use Rattle.mdcc_def_messages.specs.declared.wire.WireFault.{WireFault}
use Rattle.mdcc_def_protocol.specs.Facts.{delta_given}
use Rattle.mdcc_def_protocol.specs.Marks.{Amounts}
use Rattle.mdcc_struct.specs.Maps.{TxMap}
use Rattle.mdcc_base.specs.declared.key.Key.{Key}
use Rattle.mdcc_cells_chains.specs.Keyed.{Keyed}
use Rattle.mdcc_cells_chains.specs.Walks.{last_in, walk}
use Rattle.mdcc_theorem_fact_folds.specs.Entered.{heard_in}

-- ---- what is found by transaction

-- those of all facts, the newest first
abbrev pub heard_txs : List Fact → List TxId
heard_txs [] = []
heard_txs (fact ∷ facts) = heard_in fact ++ heard_txs facts

-- a fact's number, the number of the older ones, once for each of its transactions
abbrev pub numbers_by : Fact → ℕ → List ℕ
numbers_by (Fact.Heard tx outcome) number = number ∷ []
numbers_by _ number = []

-- those of all facts, the oldest first
abbrev pub heard_numbers : List Fact → List ℕ
heard_numbers [] = []
heard_numbers (fact ∷ facts) = heard_numbers facts ++ numbers_by fact (length facts)

-- the deltas that an outcome gives a version of a key
abbrev pub deltas_given : Key → ℕ → Option Outcome → TxMap Amounts
deltas_given key version (Some (Outcome.Commit choices)) = filter_map (delta_given key version) choices
deltas_given key version _ = []

-- ---- what is stored

-- the transactions that were heard, the newest first, and the numbers of their facts, the oldest first
pub record HeardTxs : Type 0 where
  pub txs : Keyed TxId
  pub numbers : List ℕ

-- each transaction has a number, and there is room for as many
pub record AreNumbered (txs : Keyed TxId) (numbers : List ℕ) (capacity : ℕ) : Type 0 where
  pub alike : length numbers ≡ length txs.keys
  pub capacity_for : txs.room ≤ capacity

-- each number is below a bound
abbrev pub AreNumbersBelow : ℕ → List ℕ → Type 0
AreNumbersBelow bound numbers = (i : ℕ) → i < length numbers → get_or numbers i 0 < bound

-- they are those of these facts
pub record AreHeard (heard : HeardTxs) (facts : List Fact) : Type 0 where
  pub txs_are : heard.txs.keys ≡ heard_txs facts
  pub numbers_are : heard.numbers ≡ heard_numbers facts

-- ---- what is read

abbrev pub outcome_read : Result ((TxId × Outcome) × ℕ) WireFault → Option Outcome
outcome_read (Ok heard) = Some heard.0.1
outcome_read (Err fault) = None

-- how a transaction ended, by the bytes of a fact that says so
abbrev pub outcome_spelled : List ℕ → Option Outcome
outcome_spelled bytes = outcome_read (heard_at bytes 1)

-- an outcome without the place after it
abbrev pub outcome_alone : Result (Outcome × ℕ) WireFault → Option Outcome
outcome_alone (Ok outcome) = Some outcome.0
outcome_alone (Err fault) = None

-- what a list has, where choices were read into it, and whether each could be read
abbrev pub AreRead : Result (List Choice × ℕ) WireFault → Bool → List Choice → Type 0
AreRead (Ok found) read choices = (read ≡ true) × (choices ≡ found.0)
AreRead (Err fault) read choices = read ≡ false

-- whether it committed: the byte after the kind and the transaction
abbrev pub is_commit_spelled : List ℕ → Bool
is_commit_spelled bytes = get_or bytes 10 0 == 1

-- the number of the oldest fact that says how a transaction ended
abbrev pub fact_number_in : List ℕ → Option ℕ → Option ℕ
fact_number_in numbers index = option_map (λ i. get_or numbers i 0) index

abbrev pub number_found : HeardTxs → TxId → Option ℕ
number_found heard tx = fact_number_in heard.numbers (last_in (walk (tx_eq tx) heard.txs.keys))

-- whether a transaction committed, by the fact that is found
abbrev pub ended_told : List (List ℕ) → HeardTxs → TxId → Option Bool
ended_told encodings heard tx = option_map (λ number. is_commit_spelled (get_or encodings number [])) (number_found heard tx)
