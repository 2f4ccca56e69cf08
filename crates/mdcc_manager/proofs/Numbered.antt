-- Numbers of transactions still ascend after one is begun, and after some are closed.
use Rattle.std.proofs.Common.{◌≡◌, ℕ, ◌≤◌, ◌+◌, Bool, true, List, [], ◌∷◌, ◌++◌, arith}
use Rattle.std.proofs.lemmas.Bool.Decides.{nat_tests}
use Rattle.std.specs.List.{filter}
use Rattle.mdcc_base.specs.declared.identifiers.TxId.{TxId}
use Rattle.mdcc_manager.specs.Numbered.{are_numbered}

pub numbered-begun : (me epoch low high : ℕ) (txs : List TxId) → are_numbered me epoch low high txs ≡ true
    → are_numbered me epoch low (high + 1) (txs ++ record { centre = me; epoch = epoch; seq = high + 1 } ∷ []) ≡ true
numbered-begun me epoch low high [] e = grind (arith, nat_tests)
numbered-begun me epoch low high (tx ∷ txs) e = let ih = numbered-begun me epoch tx.seq high txs in grind (arith, nat_tests, ih)

pub numbered-below : (me epoch low above high : ℕ) (txs : List TxId) → low ≤ above → are_numbered me epoch above high txs ≡ true
    → are_numbered me epoch low high txs ≡ true
numbered-below me epoch low above high [] le e = grind (arith, nat_tests)
numbered-below me epoch low above high (tx ∷ txs) le e = grind (arith, nat_tests)

pub numbered-filter : (me epoch low high : ℕ) (test : TxId → Bool) (txs : List TxId) → are_numbered me epoch low high txs ≡ true
    → are_numbered me epoch low high (filter test txs) ≡ true
numbered-filter me epoch low high test [] e = e
numbered-filter me epoch low high test (tx ∷ txs) e =
    let ih = numbered-filter me epoch tx.seq high test txs in
    let below = numbered-below me epoch low tx.seq high (filter test txs) in
    grind (arith, nat_tests, ih, below)
