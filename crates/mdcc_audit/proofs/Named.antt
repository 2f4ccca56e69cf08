-- The set of transactions that were named is kept in order.
use Rattle.std.proofs.Common.{◌≡◌, List, [], ◌∷◌, inl, inr, refl, arith, true, false}
use Rattle.std.proofs.lemmas.Bool.Decides.{nat_tests}
use Rattle.std.proofs.lemmas.Bool.{cases_Bool}
use Rattle.std.specs.BTreeSet.{insert_key}
use Rattle.std.specs.Ordering.{nat_cmp, ordering_then}
use Rattle.std.specs.declared.cmp.Ordering.{Ordering}
use Rattle.std.specs.declared.cmp.Ordering.TheVariants.{Equal, Greater, Less}
use Rattle.mdcc_base.specs.TxId.{tx_eq, tx_lt}
use Rattle.mdcc_base.specs.declared.identifiers.TxId.{TxId}
use Rattle.mdcc_def_ledger.specs.Ledger.{with_tx}

abbrev pub tx_cmp : TxId → TxId → Ordering
tx_cmp a b = ordering_then (nat_cmp a.centre b.centre) (ordering_then (nat_cmp a.epoch b.epoch) (nat_cmp a.seq b.seq))

greater : (a b : TxId) → tx_lt b a ≡ true → tx_cmp a b ≡ Greater
greater a b h = grind (arith, nat_tests)

equal : (a b : TxId) → tx_lt b a ≡ false → tx_eq b a ≡ true → tx_cmp a b ≡ Equal
equal a b h k = grind (arith, nat_tests)

less : (a b : TxId) → tx_lt b a ≡ false → tx_eq b a ≡ false → tx_cmp a b ≡ Less
less a b h k = grind (arith, nat_tests)

pub inserted-named : (txs : List TxId) (tx : TxId) → insert_key tx_cmp txs tx ≡ with_tx txs tx
inserted-named [] tx = refl
inserted-named (x ∷ xs) tx =
    let ih = inserted-named xs tx in
    elim (cases_Bool (tx_lt x tx)) [
      | inl e ↦ rw (greater tx x e, e, ih) refl
      | inr e ↦ elim (cases_Bool (tx_eq x tx)) [
        | inl same ↦ rw (equal tx x e same, e, same) refl
        | inr other ↦ rw (less tx x e other, e, other) refl
      ]
    ]
