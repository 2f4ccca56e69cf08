-- The tick counters that are kept, by transaction.
use Rattle.std.specs.Prelude.{◌≡◌, Bool, is_some, unwrap_or, ℕ}
use Rattle.std.specs.declared.hash.BuildHasherDefault.{BuildHasherDefault}
use Rattle.std.specs.declared.hash.FoldHasher.{FoldHasher}
use Rattle.indexmap.specs.IndexMap.{IndexMap, get}
use Rattle.mdcc_base.specs.TxId.{tx_eq}
use Rattle.mdcc_base.specs.declared.identifiers.TxId.{TxId}
use Rattle.mdcc_struct.specs.Maps.{TxMap, value_of}

abbrev pub Counters : Type 0
Counters = IndexMap TxId ℕ (BuildHasherDefault FoldHasher)

-- the counter of a transaction, 0 where none is kept
abbrev pub counter_in : Counters → TxId → ℕ
counter_in counters tx = unwrap_or (get tx_eq counters tx) 0

-- whether one is kept
abbrev pub is_kept : Counters → TxId → Bool
is_kept counters tx = is_some (get tx_eq counters tx)

-- they are those of a map
abbrev pub AreCounters : Counters → TxMap ℕ → Type 0
AreCounters counters m = (tx : TxId) → counter_in counters tx ≡ unwrap_or (value_of m tx) 0
