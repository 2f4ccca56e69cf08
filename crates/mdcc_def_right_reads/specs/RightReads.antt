-- What a right read is, over the transactions that committed, each as its choices.
use Rattle.std.specs.Prelude.{Bool, Contains, IsTrue, List, None, Option, Some, [], true, ℕ, ◌&&◌, ◌+◌, ◌∷◌, ◌≡◌}
use Rattle.mdcc_base.specs.TxId.{tx_lt}
use Rattle.mdcc_base.specs.declared.identifiers.TxId.{TxId}
use Rattle.mdcc_base.specs.declared.key.Key.{Key}
use Rattle.mdcc_option.specs.Held.{Held}
use Rattle.mdcc_option.specs.OneCopy.{seen_of, shown}
use Rattle.mdcc_option.specs.declared.choices.Choice.{Choice}
use Rattle.mdcc_option.specs.declared.items.Delta.{Delta}
use Rattle.mdcc_option.specs.declared.items.Item.{Item}
use Rattle.mdcc_option.specs.declared.items.Known.{Known}
use Rattle.mdcc_option.specs.declared.items.Update.{Update}

-- each transaction stands before the next
abbrev pub are_txs_ascending : List TxId → Bool
are_txs_ascending [] = true
are_txs_ascending (tx ∷ []) = true
are_txs_ascending (tx ∷ next ∷ txs) = tx_lt tx next && are_txs_ascending (next ∷ txs)

-- a committed transaction writes this item to the key as this version: its Write stands at the version before
pub record IsWritten (committed : List (List Choice)) (key : Key) (version : ℕ) (item : Item) : Type 0 where
  pub choices : List Choice
  pub listed : Contains committed choices
  pub choice : Choice
  pub one_of : Contains choices choice
  pub of_key : choice.key ≡ key
  pub of_version : choice.version + 1 ≡ version
  pub seen : List TxId
  pub writes : choice.update ≡ Update.Write item seen

-- the transaction committed, and adds these amounts to the key at this version
pub record IsAdded (committed : List (List Choice)) (key : Key) (version : ℕ) (delta : Delta) : Type 0 where
  pub choices : List Choice
  pub listed : Contains committed choices
  pub choice : Choice
  pub one_of : Contains choices choice
  pub of_tx : choice.tx ≡ delta.tx
  pub of_key : choice.key ≡ key
  pub of_version : choice.version ≡ version
  pub adds : choice.update ≡ Update.Add delta.amounts

-- what was read of the key is what a one-copy store shows that holds this of it: a committed base of a version with committed deltas of that
-- version, each transaction once
pub record IsItemVersion (committed : List (List Choice)) (known : Known) (item : Item) (held : Held) : Type 0 where
  pub written : IsWritten committed known.key held.version held.base
  pub added : (delta : Delta) → Contains held.deltas delta → IsAdded committed known.key held.version delta
  pub once : IsTrue (are_txs_ascending (seen_of held.deltas))
  pub shows : (item, known.token) ≡ shown held

-- without an item a read shows the first state of its key
abbrev pub IsReadOf : List (List Choice) → Known → Option Item → Type 0
IsReadOf committed known None = known.token.version ≡ 0
IsReadOf committed known (Some item) = (held : Held) × IsItemVersion committed known item held
