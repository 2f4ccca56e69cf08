-- Numbers of transactions, ascending by transaction.
use Rattle.std.specs.Prelude.{◌≡◌, ◌<◌, ◌≤◌, ◌^◌, ℕ, Bool, true, not, if◌then◌else◌, Option, None, Some, length}
use Rattle.std.specs.List.{filter}
use Rattle.mdcc_base.specs.declared.identifiers.TxId.{TxId}
use Rattle.mdcc_base.specs.TxId.{tx_eq, tx_lt}
use Rattle.mdcc_struct.specs.Maps.{TxMap, are_ascending}

-- how many there may be, and the number of each transaction
pub record Numbered : Type 0 where
  pub room : ℕ
  pub entries : TxMap ℕ

-- the map without a transaction
abbrev pub without : {X : Type 0} → TxMap X → TxId → TxMap X
without m tx = filter (λ e. not (tx_eq e.0 tx)) m

-- whether a transaction comes after another, if there is one
abbrev pub is_after_tx : Option TxId → TxId → Bool
is_after_tx None tx = true
is_after_tx (Some last) tx = tx_lt last tx

-- the value of an entry, if it is that of a transaction
abbrev pub value_if : {X : Type 0} → TxId → TxId × X → Option X
value_if tx e = if tx_eq e.0 tx then Some e.1 else None

pub record AreTxNumbers (entries : TxMap ℕ) (room capacity : ℕ) : Type 0 where
  pub ascending : are_ascending entries ≡ true
  pub within : length entries ≤ room
  pub small : room < 2 ^ 32
  pub reserved : room ≤ capacity
