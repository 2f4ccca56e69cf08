-- Lists of transactions in order.
use Rattle.std.proofs.Common.{◌≡◌, ◌<◌, false, List, [], ◌∷◌, refl, sym, ◌∙◌, subst, arith, inl, inr, ◌⊎◌, Option, Some, None}
use Rattle.std.proofs.lemmas.Bool.{cases_Bool, false≢true}
use Rattle.std.proofs.lemmas.Bool.Decides.{Decides-eqb, Decides-and, Decides-or, Decides-ltb}
use Rattle.std.specs.Bool.{Decides}
use Rattle.std.specs.List.{fold}
use Rattle.mdcc_base.specs.TxId.{tx_eq, tx_lt}
use Rattle.mdcc_base.specs.declared.identifiers.TxId.{TxId}
use Rattle.mdcc_option.specs.OneCopy.{seen_of, with_delta}
use Rattle.mdcc_option.specs.declared.items.Delta.{Delta}
use Rattle.mdcc_struct.specs.Maps.{TxMap, value_of, inserted, with_entry, union, txs_of}
use Rattle.mdcc_def_ledger.specs.Ledger.{with_tx}
use Rattle.mdcc_theorem_agreement.proofs.ReducedLedger.{ApartTx}
use Rattle.mdcc_theorem_agreement.proofs.ReducedOptions.{In}
use Rattle.mdcc_theorem_agreement.proofs.TestsDecide.{Decides-tx}

abbrev pub Before : TxId → TxId → Type 0
Before t u = (t.centre < u.centre) ⊎ ((t.centre ≡ u.centre) × ((t.epoch < u.epoch) ⊎ ((t.epoch ≡ u.epoch) × (t.seq < u.seq))))

pub Decides-tx_lt : (t u : TxId) → Decides (tx_lt t u) (Before t u)
Decides-tx_lt t u =
    Decides-or _ _ (Decides-ltb _ _) (Decides-and _ _ (Decides-eqb _ _)
    (Decides-or _ _ (Decides-ltb _ _) (Decides-and _ _ (Decides-eqb _ _) (Decides-ltb _ _))))

before_trans : (t u w : TxId) → Before t u → Before u w → Before t w
before_trans t u w a b = grind arith

before_irrefl : (t : TxId) → Before t t → ⊥
before_irrefl t a = grind arith

same_tx : (t u : TxId) → t.centre ≡ u.centre → t.epoch ≡ u.epoch → t.seq ≡ u.seq → t ≡ u
same_tx t u a b c k = record { centre = a k; epoch = b k; seq = c k }

before_cases : (t u : TxId) → Before t u ⊎ ((t ≡ u) ⊎ Before u t)
before_cases t u = grind (arith, same_tx t u)

-- all of a list come after
abbrev pub After : TxId → List TxId → Type 0
After t [] = Unit {0}
After t (u ∷ us) = Before t u × After t us

abbrev pub Ascending : List TxId → Type 0
Ascending [] = Unit {0}
Ascending (t ∷ ts) = After t ts × Ascending ts

after_In : (t u : TxId) (ts : List TxId) → After t ts → In u ts → Before t u
after_In t u [] h g = absurd g
after_In t u (w ∷ ts) h g = elim g [ inl here ↦ subst (Before t) here h.0 | inr there ↦ after_In t u ts h.1 there ]

after_less : (t u : TxId) (ts : List TxId) → Before t u → After u ts → After t ts
after_less t u [] b h = tt
after_less t u (w ∷ ts) b h = (before_trans t u w b h.0, after_less t u ts b h.1)

-- two ascending lists with the same transactions are one
pub ascending_same : (ts us : List TxId) → Ascending ts → Ascending us → ((t : TxId) → In t ts → In t us) → ((t : TxId) → In t us → In t ts) → ts ≡ us
ascending_same [] [] a b to from = refl
ascending_same [] (u ∷ us) a b to from = absurd (from u (inl refl))
ascending_same (t ∷ ts) [] a b to from = absurd (to t (inl refl))
ascending_same (t ∷ ts) (u ∷ us) a b to from =
    let same : t ≡ u = elim (to t (inl refl)) [
      | inl here ↦ sym here
      | inr there ↦ elim (from u (inl refl)) [
        | inl too ↦ too
        | inr other ↦ absurd (before_irrefl t (before_trans t u t (after_In t u ts a.0 other) (after_In u t us b.0 there)))
      ]
    ] in
    let rest : ts ≡ us = ascending_same ts us a.1 b.1
    (λ w g. elim (to w (inr g)) [
      | inl here ↦ absurd (before_irrefl t (subst (Before t) (sym here ∙ sym same) (after_In t w ts a.0 g)))
      | inr there ↦ there
    ])
    (λ w g. elim (from w (inr g)) [
      | inl here ↦ absurd (before_irrefl u (subst (Before u) (sym here ∙ same) (after_In u w us b.0 g)))
      | inr there ↦ there
    ]) in
    cc

after_inserted : {X : Type 0} (t : TxId) (m : TxMap X) (e : TxId × X) → After t (txs_of m) → Before t e.0 → After t (txs_of (inserted m e))
after_inserted t [] e h b = (b, tt)
after_inserted t (x ∷ xs) e h b =
    elim (cases_Bool (tx_lt x.0 e.0)) [
      | inl less ↦ rw less (h.0, after_inserted t xs e h.1 b)
      | inr over ↦ rw over (b, h)
    ]

ascending_inserted : {X : Type 0} (m : TxMap X) (e : TxId × X) → value_of m e.0 ≡ None → Ascending (txs_of m) → Ascending (txs_of (inserted m e))
ascending_inserted [] e none h = (tt, tt)
ascending_inserted (x ∷ xs) e none h =
    let other : tx_eq x.0 e.0 ≡ false = elim (cases_Bool (tx_eq x.0 e.0)) [
      | inl g ↦ let bad : Some x.1 ≡ None = rw g at none in absurd (cc)
      | inr g ↦ g
    ] in
    let rest : value_of xs e.0 ≡ None = rw other at none in
    elim (cases_Bool (tx_lt x.0 e.0)) [
      | inl less ↦ rw less (after_inserted x.0 xs e h.0 ((Decides-tx_lt x.0 e.0).0 less), ascending_inserted xs e rest h.1)
      | inr over ↦
          let before : Before e.0 x.0 = elim (before_cases x.0 e.0) [
            | inl b ↦ absurd (false≢true (sym over ∙ (Decides-tx_lt x.0 e.0).1 b))
            | inr more ↦ elim more [ inl same ↦ absurd (false≢true (sym other ∙ (Decides-tx x.0 e.0).1 same)) | inr b ↦ b ]
          ] in
          rw over ((before, after_less e.0 x.0 (txs_of xs) before h.0), h)
    ]

pub ascending_with_entry : {X : Type 0} (m : TxMap X) (e : TxId × X) → Ascending (txs_of m) → Ascending (txs_of (with_entry m e))
ascending_with_entry {X = X} m e h = go (value_of m e.0) refl
  where
    go : (o : Option X) → value_of m e.0 ≡ o → Ascending (txs_of (with_entry m e))
    go None none = rw none (ascending_inserted m e none h)
    go (Some y) there = rw there h

pub ascending_union : {X : Type 0} (xs ys : TxMap X) → Ascending (txs_of xs) → Ascending (txs_of (union xs ys))
ascending_union xs [] h = h
ascending_union xs (y ∷ ys) h = ascending_union (with_entry xs y) ys (ascending_with_entry xs y h)

-- ---- one transaction more

after_with_tx : (t : TxId) (ts : List TxId) (u : TxId) → After t ts → Before t u → After t (with_tx ts u)
after_with_tx t [] u h b = (b, tt)
after_with_tx t (x ∷ xs) u h b =
    elim (cases_Bool (tx_lt x u)) [
      | inl less ↦ rw less (h.0, after_with_tx t xs u h.1 b)
      | inr over ↦ rw over (elim (cases_Bool (tx_eq x u)) [ inl same ↦ rw same h | inr other ↦ rw other (b, h) ])
    ]

not_before : (t u : TxId) → tx_lt t u ≡ false → (t ≡ u → ⊥) → Before u t
not_before t u over other =
    elim (before_cases t u) [
      | inl b ↦ absurd (false≢true (sym over ∙ (Decides-tx_lt t u).1 b))
      | inr more ↦ elim more [ inl same ↦ absurd (other same) | inr b ↦ b ]
    ]

ascending_with_tx : (ts : List TxId) (u : TxId) → Ascending ts → Ascending (with_tx ts u)
ascending_with_tx [] u h = (tt, tt)
ascending_with_tx (x ∷ xs) u h =
    elim (cases_Bool (tx_lt x u)) [
      | inl less ↦ rw less (after_with_tx x xs u h.0 ((Decides-tx_lt x u).0 less), ascending_with_tx xs u h.1)
      | inr over ↦ rw over (elim (cases_Bool (tx_eq x u)) [
        | inl same ↦ rw same h
        | inr other ↦
            let before : Before u x = not_before x u over (λ e. false≢true (sym other ∙ (Decides-tx x u).1 e)) in
            rw other ((before, after_less u x xs before h.0), h)
      ])
    ]

pub ascending_fold : (ts acc : List TxId) → Ascending acc → Ascending (fold with_tx acc ts)
ascending_fold [] acc h = h
ascending_fold (t ∷ ts) acc h = ascending_fold ts (with_tx acc t) (ascending_with_tx acc t h)

In-with_tx : (ts : List TxId) (u : TxId) → In u (with_tx ts u) × ((t : TxId) → In t ts → In t (with_tx ts u))
In-with_tx [] u = (inl refl, (λ t h. absurd h))
In-with_tx (x ∷ xs) u =
    elim (cases_Bool (tx_lt x u)) [
      | inl less ↦ rw less (inr (In-with_tx xs u).0, (λ t h. elim h [ inl here ↦ inl here | inr there ↦ inr ((In-with_tx xs u).1 t there) ]))
      | inr over ↦ rw over (elim (cases_Bool (tx_eq x u)) [
        | inl same ↦ rw same (inl ((Decides-tx x u).0 same), (λ t h. h))
        | inr other ↦ rw other (inl refl, (λ t h. inr h))
      ])
    ]

pub In-fold : (ts acc : List TxId) (t : TxId) → In t acc ⊎ In t ts → In t (fold with_tx acc ts)
In-fold [] acc t h = elim h [ inl old ↦ old | inr none ↦ absurd none ]
In-fold (u ∷ us) acc t h =
    elim h [
      | inl old ↦ In-fold us (with_tx acc u) t (inl ((In-with_tx acc u).1 t old))
      | inr new ↦ elim new [
        | inl here ↦ In-fold us (with_tx acc u) t (inl (subst (λ z. In z (with_tx acc u)) here (In-with_tx acc u).0))
        | inr there ↦ In-fold us (with_tx acc u) t (inr there)
      ]
    ]

-- in an ascending list none stands twice
pub ascending_apart : (ts : List TxId) → Ascending ts → ApartTx ts
ascending_apart [] h = tt
ascending_apart (t ∷ ts) h = ((λ u g same. before_irrefl t (subst (Before t) same (after_In t u ts h.0 g))), ascending_apart ts h.1)

-- ---- one delta more

after_with_delta : (t : TxId) (ds : List Delta) (e : Delta) → After t (seen_of ds) → Before t e.tx → After t (seen_of (with_delta ds e))
after_with_delta t [] e h b = (b, tt)
after_with_delta t (d ∷ ds) e h b =
    elim (cases_Bool (tx_lt e.tx d.tx)) [
      | inl less ↦ rw less (b, h)
      | inr over ↦ rw over (h.0, after_with_delta t ds e h.1 b)
    ]

pub ascending_with_delta : (ds : List Delta) (e : Delta) → (In e.tx (seen_of ds) → ⊥) → Ascending (seen_of ds) → Ascending (seen_of (with_delta ds e))
ascending_with_delta [] e new h = (tt, tt)
ascending_with_delta (d ∷ ds) e new h =
    elim (cases_Bool (tx_lt e.tx d.tx)) [
      | inl less ↦
          let before : Before e.tx d.tx = (Decides-tx_lt e.tx d.tx).0 less in
          rw less ((before, after_less e.tx d.tx (seen_of ds) before h.0), h)
      | inr over ↦ rw over (after_with_delta d.tx ds e h.0 (not_before e.tx d.tx over (λ same. new (inl (sym same)))), ascending_with_delta ds e (λ g. new (inr g)) h.1)
    ]
