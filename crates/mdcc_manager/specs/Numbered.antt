-- The numbers that a manager gives.
use Rattle.std.specs.Prelude.{Bool, List, [], nat_le, nat_lt, ℕ, ◌&&◌, ◌==◌, ◌∷◌}
use Rattle.mdcc_base.specs.declared.identifiers.TxId.{TxId}

-- transactions of one centre and epoch, whose numbers ascend above one and are at most another
abbrev pub are_numbered : (me epoch low high : ℕ) → List TxId → Bool
are_numbered me epoch low high [] = nat_le low high
are_numbered me epoch low high (tx ∷ txs) =
    tx.centre == me && (tx.epoch == epoch && (nat_lt low tx.seq && are_numbered me epoch tx.seq high txs))
