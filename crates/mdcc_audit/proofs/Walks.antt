-- Folds over lists, one item after another.
use Rattle.std.proofs.Common.{◌≡◌, ℕ, List, ◌+◌, Some, refl, drop, fold}
use Rattle.std.specs.Prelude.{slice_get}
use Rattle.mdcc_base.specs.declared.identifiers.TxId.{TxId}
use Rattle.mdcc_def_ledger.specs.Ledger.{with_tx}
use Rattle.mdcc_struct.proofs.Walks.{drop-get}
use Rattle.mdcc_struct.specs.Maps.{TxMap, txs_of}
use Rattle.mdcc_audit.specs.Auditing.{with_txs}

pub fold-next : {X Y : Type 0} (f : Y → X → Y) (y : Y) (xs : List X) (i : ℕ) (x : X) → slice_get xs i ≡ Some x
    → fold f y (drop i xs) ≡ fold f (f y x) (drop (i + 1) xs)
fold-next f y xs i x at = rw (drop-get xs i x at) refl

pub named-next : {X : Type 0} (txs : List TxId) (xs : TxMap X) (i : ℕ) (e : TxId × X) → slice_get xs i ≡ Some e
    → with_txs txs (txs_of (drop i xs)) ≡ with_txs (with_tx txs e.0) (txs_of (drop (i + 1) xs))
named-next txs xs i e at = rw (drop-get xs i e at) refl
