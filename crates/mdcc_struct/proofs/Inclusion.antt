-- Inclusion by what is found.
use Rattle.std.proofs.Common.{◌≡◌, true, false, [], ◌∷◌, Option, Some, None, refl, sym, ◌∙◌, ap, subst, inl, inr}
use Rattle.std.specs.Prelude.{Ok, IsOk}
use Rattle.std.specs.Option.{option_or}
use Rattle.std.proofs.lemmas.Bool.{cases_Bool, and_parts}
use Rattle.mdcc_base.specs.declared.identifiers.TxId.{TxId}
use Rattle.mdcc_base.specs.TxId.{tx_eq, tx_lt}
use Rattle.mdcc_option.specs.declared.choices.Mark.{Mark}
use Rattle.mdcc_struct.specs.Maps.{TxMap, value_of, union, are_ascending}
use Rattle.mdcc_struct.specs.Options.{Marks, is_mark, is_other_mark, meet_of, differing, join_by, join_of, extends}
use Rattle.mdcc_struct.proofs.Order.{tx_eq-same, tx_eq-refl, tx_lt-other}
use Rattle.mdcc_struct.proofs.Ordered.{IsBelow, IsBelow-trans, ascending-below, ascending-tail, value_of-below}
use Rattle.mdcc_struct.proofs.Values.{value_of-union, filter-value, value-filter, is_mark-same, is_mark-there, is_other_mark-apart, is_other_mark-there}
use Rattle.mdcc_struct.proofs.Walks.{ascending-filter, ascending-union}

-- what the second finds the first finds
abbrev pub FindsAll : Marks → Marks → Type 0
FindsAll a b = (tx : TxId) (mark : Mark) → value_of b tx ≡ Some mark → value_of a tx ≡ Some mark

pub extends-finds : (a b : Marks) → extends a b ≡ true → FindsAll a b
extends-finds a [] h tx mark at = absurd (cc)
extends-finds a (e ∷ es) h tx mark at =
    let parts = and_parts (is_mark e.1 (value_of a e.0)) (extends a es) h in
    elim (cases_Bool (tx_eq e.0 tx)) [
      | inl same ↦
          let found : Some e.1 ≡ Some mark = rw same at at in
          let here : value_of a e.0 ≡ Some e.1 = is_mark-same e.1 (value_of a e.0) parts.0 in
          ap (value_of a) (sym (tx_eq-same e.0 tx same)) ∙ here ∙ found
      | inr other ↦
          let rest : value_of es tx ≡ Some mark = rw other at at in
          extends-finds a es parts.1 tx mark rest
    ]

pub finds-extends : (a b : Marks) → are_ascending b ≡ true → FindsAll a b → extends a b ≡ true
finds-extends a [] up h = refl
finds-extends a (e ∷ es) up h =
    let first : value_of (e ∷ es) e.0 ≡ Some e.1 = rw (tx_eq-refl e.0) refl in
    let here : is_mark e.1 (value_of a e.0) ≡ true = is_mark-there e.1 (value_of a e.0) (h e.0 e.1 first) in
    let none : value_of es e.0 ≡ None = value_of-below e.0 es (ascending-below e es up) in
    let later : FindsAll a es = λ tx mark at. h tx mark (elim (cases_Bool (tx_eq e.0 tx)) [
      | inl same ↦ absurd (let bad : None ≡ Some mark = sym none ∙ ap (value_of es) (tx_eq-same e.0 tx same) ∙ at in cc)
      | inr other ↦ rw other at
    ]) in
    rw (here, finds-extends a es (ascending-tail e es up) later) refl

-- ---- an order

pub extends-refl : (a : Marks) → are_ascending a ≡ true → extends a a ≡ true
extends-refl a up = finds-extends a a up (λ tx mark h. h)

pub extends-trans : (a b c : Marks) → are_ascending c ≡ true → extends a b ≡ true → extends b c ≡ true → extends a c ≡ true
extends-trans a b c up h k = finds-extends a c up (λ tx mark at. extends-finds a b h tx mark (extends-finds b c k tx mark at))

-- ascending maps in which the same is found are equal
pub same_found : {X : Type 0} (a b : TxMap X) → are_ascending a ≡ true → are_ascending b ≡ true → ((tx : TxId) → value_of a tx ≡ value_of b tx) → a ≡ b
same_found [] [] up up' h = refl
same_found {X = X} [] (f ∷ fs) up up' h = absurd (let bad : None ≡ Some f.1 = rw (tx_eq-refl f.0) at (h f.0) in cc)
same_found {X = X} (e ∷ es) [] up up' h = absurd (let bad : Some e.1 ≡ None = rw (tx_eq-refl e.0) at (h e.0) in cc)
same_found {X = X} (e ∷ es) (f ∷ fs) up up' h =
    let first : value_of (e ∷ es) e.0 ≡ Some e.1 = rw (tx_eq-refl e.0) refl in
    let second : value_of (f ∷ fs) f.0 ≡ Some f.1 = rw (tx_eq-refl f.0) refl in
    let below : IsBelow e.0 es = ascending-below e es up in
    let below' : IsBelow f.0 fs = ascending-below f fs up' in
    elim (cases_Bool (tx_lt e.0 f.0)) [
      | inl less ↦
          let none : value_of (f ∷ fs) e.0 ≡ None = value_of-below e.0 (f ∷ fs) (less, IsBelow-trans e.0 f.0 fs less below') in
          absurd (let bad : Some e.1 ≡ None = sym first ∙ h e.0 ∙ none in cc)
      | inr over ↦ elim (cases_Bool (tx_eq e.0 f.0)) [
        | inr apart ↦
            let more : tx_lt f.0 e.0 ≡ true = tx_lt-other e.0 f.0 over apart in
            let none : value_of (e ∷ es) f.0 ≡ None = value_of-below f.0 (e ∷ es) (more, IsBelow-trans f.0 e.0 es more below) in
            absurd (let bad : None ≡ Some f.1 = sym none ∙ h f.0 ∙ second in cc)
        | inl same ↦
            let tx : e.0 ≡ f.0 = tx_eq-same e.0 f.0 same in
            let values : Some e.1 ≡ Some f.1 = sym first ∙ h e.0 ∙ ap (value_of (f ∷ fs)) tx ∙ second in
            let value : e.1 ≡ f.1 = cc in
            let rest : es ≡ fs = same_found es fs (ascending-tail e es up) (ascending-tail f fs up') (λ t. elim (cases_Bool (tx_eq e.0 t)) [
              | inl here ↦
                  let at : e.0 ≡ t = tx_eq-same e.0 t here in
                  let one : value_of es t ≡ None = ap (value_of es) (sym at) ∙ value_of-below e.0 es below in
                  let other : value_of fs t ≡ None = ap (value_of fs) (sym at ∙ tx) ∙ value_of-below f.0 fs below' in
                  one ∙ sym other
              | inr away ↦
                  let away' : tx_eq f.0 t ≡ false = ap (λ z. tx_eq z t) (sym tx) ∙ away in
                  let left : value_of (e ∷ es) t ≡ value_of es t = rw away refl in
                  let right : value_of (f ∷ fs) t ≡ value_of fs t = rw away' refl in
                  sym left ∙ h t ∙ right
            ]) in
            λ i. (tx i, value i) ∷ rest i
      ]
    ]

both_find : (o p : Option Mark) → ((mark : Mark) → p ≡ Some mark → o ≡ Some mark) → ((mark : Mark) → o ≡ Some mark → p ≡ Some mark) → o ≡ p
both_find None None h k = refl
both_find None (Some y) h k = h y refl
both_find (Some x) p h k = sym (k x refl)

pub same_marks : (a b : Marks) → are_ascending a ≡ true → are_ascending b ≡ true → extends a b ≡ true → extends b a ≡ true → a ≡ b
same_marks a b up up' h k =
    same_found a b up up' (λ tx. both_find (value_of a tx) (value_of b tx) (λ mark at. extends-finds a b h tx mark at) (λ mark at. extends-finds b a k tx mark at))

-- ---- meets

pub meet-left : (a b : Marks) → are_ascending a ≡ true → extends a (meet_of a b) ≡ true
meet-left a b up =
    finds-extends a (meet_of a b) (ascending-filter (λ e. is_mark e.1 (value_of b e.0)) a up)
    (λ tx mark at. (filter-value (λ e. is_mark e.1 (value_of b e.0)) a tx mark up at).0)

pub meet-right : (a b : Marks) → are_ascending a ≡ true → extends b (meet_of a b) ≡ true
meet-right a b up =
    finds-extends b (meet_of a b) (ascending-filter (λ e. is_mark e.1 (value_of b e.0)) a up)
    (λ tx mark at. is_mark-same mark (value_of b tx) (filter-value (λ e. is_mark e.1 (value_of b e.0)) a tx mark up at).1)

pub meet-greatest : (a b c : Marks) → are_ascending c ≡ true → extends a c ≡ true → extends b c ≡ true → extends (meet_of a b) c ≡ true
meet-greatest a b c up h k =
    finds-extends (meet_of a b) c up
    (λ tx mark at. value-filter (λ e. is_mark e.1 (value_of b e.0)) a tx mark (extends-finds a c h tx mark at)
    (is_mark-there mark (value_of b tx) (extends-finds b c k tx mark at)))

-- ---- joins

-- where the maps differ nowhere, both find the same
pub differing-none : (a b : Marks) (tx : TxId) (x y : Mark) → differing a b ≡ None → value_of a tx ≡ Some x → value_of b tx ≡ Some y → x ≡ y
differing-none [] b tx x y h at at' = absurd (cc)
differing-none (e ∷ es) b tx x y h at at' =
    elim (cases_Bool (is_other_mark e.1 (value_of b e.0))) [
      | inl differs ↦ absurd (let bad : Some e.0 ≡ None = rw differs at h in cc)
      | inr agrees ↦
          let rest : differing es b ≡ None = rw agrees at h in
          elim (cases_Bool (tx_eq e.0 tx)) [
            | inl same ↦
                let found : Some e.1 ≡ Some x = rw same at at in
                let there : value_of b e.0 ≡ Some y = ap (value_of b) (tx_eq-same e.0 tx same) ∙ at' in
                let one : is_other_mark e.1 (Some y) ≡ false = subst (λ o. is_other_mark e.1 o ≡ false) there agrees in
                let is : e.1 ≡ y = is_other_mark-apart e.1 y one in
                cc
            | inr other ↦ differing-none es b tx x y rest (rw other at at) at'
          ]
    ]

-- where something extends both, they differ nowhere
pub differing-extended : (a b c : Marks) → extends c a ≡ true → extends c b ≡ true → differing a b ≡ None
differing-extended [] b c h k = refl
differing-extended (e ∷ es) b c h k =
    let parts = and_parts (is_mark e.1 (value_of c e.0)) (extends c es) h in
    let here : value_of c e.0 ≡ Some e.1 = is_mark-same e.1 (value_of c e.0) parts.0 in
    let agrees : is_other_mark e.1 (value_of b e.0) ≡ false = is_other_mark-there e.1 (value_of b e.0) (λ other at.
    let there : value_of c e.0 ≡ Some other = extends-finds c b k e.0 other at in
    let both : Some e.1 ≡ Some other = sym here ∙ there in cc) in
    rw agrees (differing-extended es b c parts.1 k)

join-cases : (a b joined : Marks) (o : Option TxId) → differing a b ≡ o → join_by o a b ≡ Ok joined → (joined ≡ union a b) × (differing a b ≡ None)
join-cases a b joined None d h = (let same : union a b ≡ joined = cc in sym same, d)
join-cases a b joined (Some tx) d h = absurd (cc)

-- a join is the union of maps that differ nowhere
pub joined-union : (a b joined : Marks) → join_of a b ≡ Ok joined → (joined ≡ union a b) × (differing a b ≡ None)
joined-union a b joined h = join-cases a b joined (differing a b) refl h

pub joined-there : (a b c : Marks) → extends c a ≡ true → extends c b ≡ true → IsOk (join_of a b)
joined-there a b c h k = rw (differing-extended a b c h k) refl

either : (o p : Option Mark) (mark : Mark) (Q : Type 0) → option_or o p ≡ Some mark → (o ≡ Some mark → Q) → (p ≡ Some mark → Q) → Q
either None p mark Q h first second = second h
either (Some x) p mark Q h first second = first h

pub union-finds_first : (a b : Marks) → FindsAll (union a b) a
union-finds_first a b tx mark at = value_of-union a b tx ∙ ap (λ o. option_or o (value_of b tx)) at

pub union-finds_second : (a b : Marks) → differing a b ≡ None → FindsAll (union a b) b
union-finds_second a b none tx mark at = value_of-union a b tx ∙ second (value_of a tx) refl
  where
    second : (o : Option Mark) → value_of a tx ≡ o → option_or o (value_of b tx) ≡ Some mark
    second None is = at
    second (Some x) is = ap Some (differing-none a b tx x mark none is at)

pub join-extends : (a b joined : Marks) → are_ascending a ≡ true → are_ascending b ≡ true → join_of a b ≡ Ok joined → (extends joined a ≡ true) × (extends joined b ≡ true)
join-extends a b joined up up' h =
    let is = joined-union a b joined h in
    rw is.0 (finds-extends (union a b) a up (union-finds_first a b), finds-extends (union a b) b up' (union-finds_second a b is.1))

pub join-least : (a b joined c : Marks) → are_ascending a ≡ true → join_of a b ≡ Ok joined → extends c a ≡ true → extends c b ≡ true → extends c joined ≡ true
join-least a b joined c up h k l =
    rw (joined-union a b joined h).0 (finds-extends c (union a b) (ascending-union a b up) (λ tx mark at.
    either (value_of a tx) (value_of b tx) mark (value_of c tx ≡ Some mark) (sym (value_of-union a b tx) ∙ at)
    (extends-finds c a k tx mark) (extends-finds c b l tx mark)))
