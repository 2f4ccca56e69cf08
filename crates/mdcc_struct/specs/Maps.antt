-- Maps from transaction to a value: lists of pairs, ascending by transaction.
use Rattle.std.specs.Prelude.{Bool, true, ◌&&◌, List, [], ◌∷◌, Option, None, Some, fold, is_some, if◌then◌else◌, map}
use Rattle.mdcc_base.specs.declared.identifiers.TxId.{TxId}
use Rattle.mdcc_base.specs.TxId.{tx_eq, tx_lt}

abbrev pub TxMap : Type 0 → Type 0
TxMap X = List (TxId × X)

-- the value of a transaction
abbrev pub value_of : {X : Type 0} → TxMap X → TxId → Option X
value_of [] tx = None
value_of (e ∷ es) tx = if tx_eq e.0 tx then Some e.1 else value_of es tx

-- an entry put before the first of a later transaction
abbrev pub inserted : {X : Type 0} → TxMap X → TxId × X → TxMap X
inserted [] e = e ∷ []
inserted (x ∷ xs) e = if tx_lt x.0 e.0 then x ∷ inserted xs e else e ∷ x ∷ xs

-- the map with one more entry in its place; an entry that is there stays.
-- It looks first, so that what is found afterwards needs no premise on the order of the map
abbrev pub with_entry : {X : Type 0} → TxMap X → TxId × X → TxMap X
with_entry m e = if is_some (value_of m e.0) then m else inserted m e

-- both maps' entries; where both have a transaction, the first map's
abbrev pub union : {X : Type 0} → TxMap X → TxMap X → TxMap X
union xs ys = fold with_entry xs ys

abbrev pub txs_of : {X : Type 0} → TxMap X → List TxId
txs_of m = map (λ e. e.0) m

-- each transaction stands before the next
abbrev pub are_ascending : {X : Type 0} → TxMap X → Bool
are_ascending [] = true
are_ascending (e ∷ []) = true
are_ascending (e ∷ f ∷ es) = tx_lt e.0 f.0 && are_ascending (f ∷ es)
