-- What is found in a map.
use Rattle.std.proofs.Common.{◌≡◌, Bool, true, false, cond, [], ◌∷◌, Option, Some, None, refl, sym, ◌∙◌, ap, arith, inl, inr}
use Rattle.std.specs.Option.{option_or}
use Rattle.std.specs.List.{filter}
use Rattle.std.proofs.lemmas.Bool.{cases_Bool}
use Rattle.mdcc_base.specs.declared.identifiers.TxId.{TxId}
use Rattle.mdcc_base.specs.TxId.{tx_eq}
use Rattle.mdcc_option.proofs.Equal.{Decides-mark}
use Rattle.mdcc_option.specs.declared.choices.Mark.{Mark}
use Rattle.mdcc_option.specs.Equality.{mark_eq}
use Rattle.mdcc_struct.specs.Maps.{TxMap, value_of, inserted, with_entry, union, are_ascending}
use Rattle.mdcc_struct.specs.Options.{is_mark, is_other_mark}
use Rattle.mdcc_struct.proofs.Order.{tx_eq-same}
use Rattle.mdcc_struct.proofs.Ordered.{ascending-below, ascending-tail, value_of-below}

-- ---- maps with more entries

-- what one entry has for a transaction
abbrev pub entry_value : {X : Type 0} → TxId × X → TxId → Option X
entry_value e tx = cond (tx_eq e.0 tx) (Some e.1) None

pub value_of-inserted : {X : Type 0} (m : TxMap X) (e : TxId × X) (tx : TxId) → value_of m e.0 ≡ None → value_of (inserted m e) tx ≡ cond (tx_eq e.0 tx) (Some e.1) (value_of m tx)
value_of-inserted [] e tx h = refl
value_of-inserted (x ∷ xs) e tx h = let ih = value_of-inserted xs e tx in grind (arith, ih, tx_eq-same)

pub value_of-with_entry : {X : Type 0} (m : TxMap X) (e : TxId × X) (tx : TxId) → value_of (with_entry m e) tx ≡ option_or (value_of m tx) (entry_value e tx)
value_of-with_entry m e tx = grind (arith, value_of-inserted, tx_eq-same)

pub value_of-union : {X : Type 0} (xs ys : TxMap X) (tx : TxId) → value_of (union xs ys) tx ≡ option_or (value_of xs tx) (value_of ys tx)
value_of-union xs [] tx = grind arith
value_of-union xs (y ∷ ys) tx = let ih = value_of-union (with_entry xs y) ys tx in let w = value_of-with_entry xs y tx in grind (arith, ih, w)

-- ---- maps with fewer entries

pub filter-value : {X : Type 0} (p : TxId × X → Bool) (m : TxMap X) (tx : TxId) (x : X) → are_ascending m ≡ true → value_of (filter p m) tx ≡ Some x
    → (value_of m tx ≡ Some x) × (p (tx, x) ≡ true)
filter-value p [] tx x up h = absurd (cc)
filter-value {X = X} p (e ∷ es) tx x up h =
    elim (cases_Bool (p e)) [
      | inl keeps ↦ elim (cases_Bool (tx_eq e.0 tx)) [
        | inl same ↦
            let found : Some e.1 ≡ Some x = rw (keeps, same) at h in
            let is : e.1 ≡ x = cc in
            let at : e.0 ≡ tx = tx_eq-same e.0 tx same in
            let passes : p (tx, x) ≡ true = rw (← at, ← is) keeps in
            (rw same found, passes)
        | inr other ↦
            let rest : value_of (filter p es) tx ≡ Some x = rw (keeps, other) at h in
            rw other (filter-value p es tx x (ascending-tail e es up) rest)
      ]
      | inr leaves ↦
          let rest : value_of (filter p es) tx ≡ Some x = rw leaves at h in
          let found : (value_of es tx ≡ Some x) × (p (tx, x) ≡ true) = filter-value p es tx x (ascending-tail e es up) rest in
          elim (cases_Bool (tx_eq e.0 tx)) [
            | inl same ↦
                let at : e.0 ≡ tx = tx_eq-same e.0 tx same in
                let none : value_of es tx ≡ None = rw (← at) (value_of-below e.0 es (ascending-below e es up)) in
                absurd (let bad : None ≡ Some x = sym none ∙ found.0 in cc)
            | inr other ↦ rw other found
          ]
    ]

pub value-filter : {X : Type 0} (p : TxId × X → Bool) (m : TxMap X) (tx : TxId) (x : X) → value_of m tx ≡ Some x → p (tx, x) ≡ true → value_of (filter p m) tx ≡ Some x
value-filter p [] tx x h passes = absurd (cc)
value-filter {X = X} p (e ∷ es) tx x h passes =
    elim (cases_Bool (tx_eq e.0 tx)) [
      | inl same ↦
          let found : Some e.1 ≡ Some x = rw same at h in
          let is : e.1 ≡ x = cc in
          let at : e.0 ≡ tx = tx_eq-same e.0 tx same in
          let keeps : p e ≡ true = rw (at, is) passes in
          rw (keeps, same) found
      | inr other ↦
          let rest : value_of es tx ≡ Some x = rw other at h in
          let more : value_of (filter p es) tx ≡ Some x = value-filter p es tx x rest passes in
          elim (cases_Bool (p e)) [
            | inl keeps ↦ rw (keeps, other) more
            | inr leaves ↦ rw leaves more
          ]
    ]

-- ---- marks

pub is_mark-same : (mark : Mark) (o : Option Mark) → is_mark mark o ≡ true → o ≡ Some mark
is_mark-same mark None h = absurd (cc)
is_mark-same mark (Some other) h = ap Some (sym ((Decides-mark mark other).0 h))

pub is_mark-there : (mark : Mark) (o : Option Mark) → o ≡ Some mark → is_mark mark o ≡ true
is_mark-there mark None h = absurd (cc)
is_mark-there mark (Some other) h = (Decides-mark mark other).1 (cc)

pub is_other_mark-apart : (mark other : Mark) → is_other_mark mark (Some other) ≡ false → mark ≡ other
is_other_mark-apart mark other h =
    elim (cases_Bool (mark_eq mark other)) [
      | inl same ↦ (Decides-mark mark other).0 same
      | inr apart ↦ absurd (let bad : true ≡ false = rw apart at h in cc)
    ]

pub is_other_mark-there : (mark : Mark) (o : Option Mark) → ((other : Mark) → o ≡ Some other → mark ≡ other) → is_other_mark mark o ≡ false
is_other_mark-there mark None h = refl
is_other_mark-there mark (Some other) h = rw ((Decides-mark mark other).1 (h other refl)) refl
