-- What a version of a key may hold: the item of a committed Write, and the amounts of committed Adds.
use Rattle.std.specs.Prelude.{Contains, List, None, Option, Some, ℕ, ◌+◌, ◌≡◌}
use Rattle.mdcc_base.specs.declared.identifiers.TxId.{TxId}
use Rattle.mdcc_base.specs.declared.key.Key.{Key}
use Rattle.mdcc_option.specs.declared.choices.Choice.{Choice}
use Rattle.mdcc_option.specs.declared.cluster.Cluster.{Cluster}
use Rattle.mdcc_option.specs.declared.items.Item.{Item}
use Rattle.mdcc_option.specs.declared.items.Update.{Update}
use Rattle.mdcc_def_ledger.specs.Ledger.{Entry}
use Rattle.mdcc_def_protocol.specs.Marks.{Amounts}
use Rattle.mdcc_theorem_agreement.specs.Laws.{IsCommit}

-- the choice is one of a committed transaction, in the instance
pub record IsCommitted (cluster : Cluster) (entries : List Entry) (key : Key) (version : ℕ) (tx : TxId) (choices : List Choice) (choice : Choice) : Type 0 where
  pub outcome : IsCommit cluster entries tx choices
  pub one_of : Contains choices choice
  pub of_key : choice.key ≡ key
  pub of_version : choice.version ≡ version

-- a committed Write of the instance
pub record IsWrite (cluster : Cluster) (entries : List Entry) (key : Key) (version : ℕ) (tx : TxId) (choices : List Choice) (choice : Choice) (item : Item) (seen : List TxId) : Type 0 where
  pub committed : IsCommitted cluster entries key version tx choices choice
  pub writes : choice.update ≡ Update.Write item seen

-- the base of a version: none at version 0, else the item of a committed Write of the version before
abbrev pub IsBase : Cluster → List Entry → Key → ℕ → Option Item → Type 0
IsBase cluster entries key version None = version ≡ 0
IsBase cluster entries key version (Some item) =
    (before : ℕ) × (before + 1 ≡ version)
    × (tx : TxId) × (choices : List Choice) × (choice : Choice) × (seen : List TxId) × IsWrite cluster entries key before tx choices choice item seen

-- the transaction committed, and these are the amounts that it adds in the instance
abbrev pub IsCommittedAdd : Cluster → List Entry → Key → ℕ → TxId × Amounts → Type 0
IsCommittedAdd cluster entries key version delta =
    (choices : List Choice) × (choice : Choice) × IsCommitted cluster entries key version delta.0 choices choice × (choice.update ≡ Update.Add delta.1)
