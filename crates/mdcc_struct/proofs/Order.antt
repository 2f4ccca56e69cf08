-- The order of transactions.
use Rattle.std.proofs.Common.{◌≡◌, true, false, arith}
use Rattle.std.proofs.lemmas.Bool.Decides.{nat_tests}
use Rattle.mdcc_base.specs.declared.identifiers.TxId.{TxId}
use Rattle.mdcc_base.specs.TxId.{tx_eq, tx_lt}

pub tx_lt-trans : (a b c : TxId) → tx_lt a b ≡ true → tx_lt b c ≡ true → tx_lt a c ≡ true
tx_lt-trans a b c h k = grind (arith, nat_tests)

pub tx_lt-apart : (a b : TxId) → tx_lt a b ≡ true → tx_eq a b ≡ false
tx_lt-apart a b h = grind (arith, nat_tests)

pub tx_lt-apart_back : (a b : TxId) → tx_lt a b ≡ true → tx_eq b a ≡ false
tx_lt-apart_back a b h = grind (arith, nat_tests)

pub tx_lt-not_back : (a b : TxId) → tx_lt a b ≡ true → tx_lt b a ≡ false
tx_lt-not_back a b h = grind (arith, nat_tests)

pub tx_lt-other : (a b : TxId) → tx_lt a b ≡ false → tx_eq a b ≡ false → tx_lt b a ≡ true
tx_lt-other a b h k = grind (arith, nat_tests)

pub tx_eq-lt : (a b : TxId) → tx_eq a b ≡ true → tx_lt a b ≡ false
tx_eq-lt a b h = grind (arith, nat_tests)

pub tx_eq-refl : (a : TxId) → tx_eq a a ≡ true
tx_eq-refl a = grind (arith, nat_tests)

pub tx_eq-sym : (a b : TxId) → tx_eq a b ≡ tx_eq b a
tx_eq-sym a b = grind (arith, nat_tests)

pub tx_eq-same : (a b : TxId) → tx_eq a b ≡ true → a ≡ b
tx_eq-same a b h = grind (arith, nat_tests)
