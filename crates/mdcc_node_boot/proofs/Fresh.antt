-- Deltas that are not executed.
use Rattle.std.proofs.Common.{◌≡◌, not, List, [], ◌∷◌, is_some, refl, inl, inr}
use Rattle.std.specs.List.{list_any}
use Rattle.std.proofs.lemmas.Bool.{cases_Bool}
use Rattle.mdcc_base.specs.declared.identifiers.TxId.{TxId}
use Rattle.mdcc_base.specs.TxId.{tx_eq}
use Rattle.mdcc_option.specs.declared.items.Delta.{Delta}
use Rattle.mdcc_def_protocol.specs.Fit.{has_tx}
use Rattle.mdcc_struct.specs.Maps.{TxMap, txs_of, value_of}
use Rattle.mdcc_struct.proofs.Order.{tx_eq-sym}

-- a transaction that has a value is among those of the map
pub among_txs : {X : Type 0} (m : TxMap X) (tx : TxId) → has_tx (txs_of m) tx ≡ is_some (value_of m tx)
among_txs [] tx = refl
among_txs (e ∷ es) tx =
    elim (cases_Bool (tx_eq e.0 tx)) [
      | inl same ↦ rw (tx_eq-sym tx e.0, same) refl
      | inr other ↦ rw (tx_eq-sym tx e.0, other) (among_txs es tx)
    ]

other_of : {X : Type 0} (m : TxMap X) (adds : List Delta)
    → list_any (λ delta. not (has_tx (txs_of m) delta.tx)) adds ≡ list_any (λ delta. not (is_some (value_of m delta.tx))) adds
other_of m [] = refl
other_of m (delta ∷ adds) = rw (among_txs m delta.tx, other_of m adds) refl

-- deltas of other transactions than the executed ones are new
pub other_deltas : {X : Type 0} (m : TxMap X) (txs : List TxId) (adds : List Delta) → txs ≡ txs_of m
    → list_any (λ delta. not (has_tx txs delta.tx)) adds ≡ list_any (λ delta. not (is_some (value_of m delta.tx))) adds
other_deltas m txs adds same = rw same (other_of m adds)
