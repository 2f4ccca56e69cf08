-- Where transactions stand in a map.
use Rattle.std.specs.Prelude.{ℕ}
use Rattle.std.specs.List.{prefix_len}
use Rattle.mdcc_base.specs.declared.identifiers.TxId.{TxId}
use Rattle.mdcc_base.specs.TxId.{tx_lt}
use Rattle.mdcc_struct.specs.Maps.{TxMap}

-- how many entries stand before a transaction, in an ascending map
abbrev pub place_of : {X : Type 0} → TxMap X → TxId → ℕ
place_of m tx = prefix_len (λ e. tx_lt e.0 tx) m
