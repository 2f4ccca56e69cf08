-- The epochs of a table with one more fact.
use Rattle.std.proofs.Common.{◌≡◌, ◌∷◌, [], ℕ, Bool, true, false, List, Option, None, Some, map, fold, filter_map, is_some, refl, subst, sym, ap, ◌∙◌, inl, inr, ◌⊎◌, arith}
use Rattle.std.specs.List.{list_all}
use Rattle.std.specs.Prelude.{if◌then◌else◌, nat_lt, not, ◌==◌, ◌&&◌}
use Rattle.std.proofs.lemmas.Bool.{and_parts, cases_Bool}
use Rattle.std.proofs.lemmas.Bool.Decides.{nat_tests}
use Rattle.mdcc_base.specs.TxId.{tx_eq, tx_lt}
use Rattle.mdcc_base.specs.declared.identifiers.TxId.{TxId}
use Rattle.mdcc_struct.specs.Maps.{TxMap, are_ascending, inserted, value_of, with_entry}
use Rattle.mdcc_struct.proofs.Order.{tx_eq-refl, tx_eq-same, tx_lt-not_back}
use Rattle.mdcc_struct.proofs.Ordered.{IsBelow, ascending-below, ascending-tail, value_of-below}
use Rattle.mdcc_struct.proofs.Walks.{ascending-filter, ascending-with_entry}
use Rattle.mdcc_def_messages.specs.declared.facts.Fact.{Fact}
use Rattle.mdcc_def_protocol.specs.Floors.{is_before, origin_in, origins_of, with_origin}
use Rattle.mdcc_cells_chains.specs.Unresolved.{without}
use Rattle.mdcc_cells_chains.proofs.Ascending.{without-none}
use Rattle.mdcc_cells_floors.specs.Epochs.{epoch_key, origin_of, with_floor, with_floor_by}
use Rattle.mdcc_cells_floors.proofs.Floored.{unless_same, value-without}

-- ---- the newest fact may be entered last

before-trans : (a b c : ℕ × ℕ) → is_before a b ≡ true → is_before b c ≡ true → is_before a c ≡ true
before-trans a b c h k = grind (arith, nat_tests)

before-back : (a b : ℕ × ℕ) → is_before a b ≡ true → is_before b a ≡ false
before-back a b h = grind (arith, nat_tests)

before-same : (a b : ℕ × ℕ) → is_before a b ≡ false → is_before b a ≡ false → a ≡ b
before-same a b h k = grind (arith, nat_tests)

before-none : (a : ℕ × ℕ) → is_before a a ≡ false
before-none a = grind (arith, nat_tests)

-- an origin in its place before, behind or at another
with-before : (x a : ℕ × ℕ) (xs : List (ℕ × ℕ)) → is_before x a ≡ true → with_origin (x ∷ xs) a ≡ x ∷ with_origin xs a
with-before x a xs h = rw h refl

with-after : (x a : ℕ × ℕ) (xs : List (ℕ × ℕ)) → is_before a x ≡ true → with_origin (x ∷ xs) a ≡ a ∷ x ∷ xs
with-after x a xs h = let back = before-back a x h in rw (back, h) refl

with-same : (x : ℕ × ℕ) (xs : List (ℕ × ℕ)) → with_origin (x ∷ xs) x ≡ x ∷ xs
with-same x xs = let no = before-none x in rw no refl

abbrev AreOrdered : ℕ × ℕ → ℕ × ℕ → Type 0
AreOrdered a b = (is_before a b ≡ true) ⊎ ((is_before b a ≡ true) ⊎ (a ≡ b))

ordered : (a b : ℕ × ℕ) → AreOrdered a b
ordered a b = elim (cases_Bool (is_before a b)) [
  | inl before ↦ inl before
  | inr not_before ↦ elim (cases_Bool (is_before b a)) [
    | inl behind ↦ inr (inl behind)
    | inr not_behind ↦ inr (inr (before-same a b not_before not_behind))
  ]
]

abbrev IsSwapped : List (ℕ × ℕ) → ℕ × ℕ → ℕ × ℕ → Type 0
IsSwapped xs a b = with_origin (with_origin xs a) b ≡ with_origin (with_origin xs b) a

swapped-behind : (x a b : ℕ × ℕ) (xs : List (ℕ × ℕ)) → is_before x a ≡ true → is_before x b ≡ true → IsSwapped xs a b → IsSwapped (x ∷ xs) a b
swapped-behind x a b xs ha hb rest =
    ap (λ l. with_origin l b) (with-before x a xs ha)
    ∙ with-before x b (with_origin xs a) hb
    ∙ ap (λ l. x ∷ l) rest
    ∙ sym (ap (λ l. with_origin l a) (with-before x b xs hb) ∙ with-before x a (with_origin xs b) ha)

swapped-apart : (x a b : ℕ × ℕ) (xs : List (ℕ × ℕ)) → is_before x a ≡ true → is_before b x ≡ true → IsSwapped (x ∷ xs) a b
swapped-apart x a b xs ha hb =
    ap (λ l. with_origin l b) (with-before x a xs ha)
    ∙ with-after x b (with_origin xs a) hb
    ∙ sym
    (ap (λ l. with_origin l a) (with-after x b xs hb)
    ∙ with-before b a (x ∷ xs) (before-trans b x a hb ha)
    ∙ ap (λ l. b ∷ l) (with-before x a xs ha))

swapped-before : (x a b : ℕ × ℕ) (xs : List (ℕ × ℕ)) → is_before a x ≡ true → is_before b x ≡ true → is_before a b ≡ true → IsSwapped (x ∷ xs) a b
swapped-before x a b xs ha hb less =
    ap (λ l. with_origin l b) (with-after x a xs ha)
    ∙ with-before a b (x ∷ xs) less
    ∙ ap (λ l. a ∷ l) (with-after x b xs hb)
    ∙ sym (ap (λ l. with_origin l a) (with-after x b xs hb) ∙ with-after b a (x ∷ xs) less)

there : (x a : ℕ × ℕ) (xs : List (ℕ × ℕ)) → AreOrdered x a → with_origin (with_origin (x ∷ xs) a) x ≡ with_origin (x ∷ xs) a
there x a xs (inl ha) = ap (λ l. with_origin l x) (with-before x a xs ha) ∙ with-same x (with_origin xs a) ∙ sym (with-before x a xs ha)
there x a xs (inr (inl ha)) = ap (λ l. with_origin l x) (with-after x a xs ha) ∙ with-before a x (x ∷ xs) ha ∙ ap (λ l. a ∷ l) (with-same x xs) ∙ sym (with-after x a xs ha)
there x a xs (inr (inr same)) = subst (λ b. with_origin (with_origin (x ∷ xs) b) x ≡ with_origin (x ∷ xs) b) same (ap (λ l. with_origin l x) (with-same x xs))

swapped-at : (x a : ℕ × ℕ) (xs : List (ℕ × ℕ)) → IsSwapped (x ∷ xs) a x
swapped-at x a xs = there x a xs (ordered x a) ∙ ap (λ l. with_origin l a) (sym (with-same x xs))

swapped-under : (x a b : ℕ × ℕ) (xs : List (ℕ × ℕ)) → is_before a x ≡ true → is_before b x ≡ true → AreOrdered a b → IsSwapped (x ∷ xs) a b
swapped-under x a b xs ha hb (inl less) = swapped-before x a b xs ha hb less
swapped-under x a b xs ha hb (inr (inl more)) = sym (swapped-before x b a xs hb ha more)
swapped-under x a b xs ha hb (inr (inr same)) = subst (λ c. IsSwapped (x ∷ xs) a c) same refl

swapped-by : (x a b : ℕ × ℕ) (xs : List (ℕ × ℕ)) → AreOrdered x a → AreOrdered x b → IsSwapped xs a b → IsSwapped (x ∷ xs) a b
swapped-by x a b xs (inl ha) (inl hb) rest = swapped-behind x a b xs ha hb rest
swapped-by x a b xs (inl ha) (inr (inl hb)) rest = swapped-apart x a b xs ha hb
swapped-by x a b xs (inr (inl ha)) (inl hb) rest = sym (swapped-apart x b a xs hb ha)
swapped-by x a b xs (inr (inl ha)) (inr (inl hb)) rest = swapped-under x a b xs ha hb (ordered a b)
swapped-by x a b xs ha (inr (inr same)) rest = subst (λ c. IsSwapped (x ∷ xs) a c) same (swapped-at x a xs)
swapped-by x a b xs (inr (inr same)) hb rest = subst (λ c. IsSwapped (x ∷ xs) c b) same (sym (swapped-at x b xs))

swapped : (xs : List (ℕ × ℕ)) (a b : ℕ × ℕ) → IsSwapped xs a b
swapped [] a b = grind (arith, before-same, before-back)
swapped (x ∷ xs) a b = swapped-by x a b xs (ordered x a) (ordered x b) (swapped xs a b)

entered-last : (origins : List (ℕ × ℕ)) (xs : List (ℕ × ℕ)) (a : ℕ × ℕ) → fold with_origin (with_origin xs a) origins ≡ with_origin (fold with_origin xs origins) a
entered-last [] xs a = refl
entered-last (o ∷ origins) xs a = ap (λ s. fold with_origin s origins) (swapped xs a o) ∙ entered-last origins (with_origin xs o) a

pub origins-more : (facts : List Fact) (fact : Fact) (origin : ℕ × ℕ) → origin_in fact ≡ Some origin → origins_of (fact ∷ facts) ≡ with_origin (origins_of facts) origin
origins-more facts fact origin is = rw is (entered-last (filter_map origin_in facts) [] origin)

-- ---- an epoch in a table

abbrev pub are_keys : TxMap ℕ → Bool
are_keys epochs = list_all (λ e. e.0.seq == 0) epochs

key-order : (e : TxId × ℕ) (key : TxId) → (e.0.seq == 0) ≡ true → key.seq ≡ 0 → tx_lt e.0 key ≡ is_before (origin_of e) (key.centre, key.epoch)
key-order e key here there = grind (arith, nat_tests)

key-same : (e : TxId × ℕ) (key : TxId) → (e.0.seq == 0) ≡ true → key.seq ≡ 0 → tx_eq e.0 key ≡ true → origin_of e ≡ (key.centre, key.epoch)
key-same e key here there same = grind (arith, nat_tests)

-- an epoch that is not there is entered in its place
entered-new : (epochs : TxMap ℕ) (key : TxId) (seq : ℕ) → are_keys epochs ≡ true → key.seq ≡ 0 → value_of epochs key ≡ None
    → map origin_of (inserted epochs (key, seq)) ≡ with_origin (map origin_of epochs) (key.centre, key.epoch)
entered-new [] key seq keys zero none = refl
entered-new (e ∷ epochs) key seq keys zero none =
    let parts = and_parts (e.0.seq == 0) (are_keys epochs) keys in
    let order : tx_lt e.0 key ≡ is_before (origin_of e) (key.centre, key.epoch) = key-order e key parts.0 zero in
    elim (cases_Bool (tx_eq e.0 key)) [
      | inl same ↦ let bad : Some e.1 ≡ None = rw same at none in absurd (cc)
      | inr other ↦ elim (cases_Bool (tx_lt e.0 key)) [
        | inl less ↦
            let before : is_before (origin_of e) (key.centre, key.epoch) ≡ true = sym order ∙ less in
            rw (less, before) (ap (λ os. origin_of e ∷ os) (entered-new epochs key seq parts.1 zero (rw other at none)))
        | inr over ↦
            let above : is_before (origin_of e) (key.centre, key.epoch) ≡ false = sym order ∙ over in
            let below : is_before (key.centre, key.epoch) (origin_of e) ≡ true = key-below e key parts.0 zero over other in
            rw (over, above, below) refl
      ]
    ]
  where
    key-below : (x : TxId × ℕ) (k : TxId) → (x.0.seq == 0) ≡ true → k.seq ≡ 0 → tx_lt x.0 k ≡ false → tx_eq x.0 k ≡ false → is_before (k.centre, k.epoch) (origin_of x) ≡ true
    key-below x k here there over other = grind (arith, nat_tests)

-- an entry before one that is found
first-less : (e : TxId × ℕ) (epochs : TxMap ℕ) (key : TxId) (floor : ℕ) → IsBelow e.0 epochs → value_of epochs key ≡ Some floor → tx_lt e.0 key ≡ true
first-less e [] key floor below some = absurd (cc)
first-less e (x ∷ epochs) key floor below some = elim (cases_Bool (tx_eq x.0 key)) [
  | inl same ↦ ap (tx_lt e.0) (sym (tx_eq-same x.0 key same)) ∙ below.0
  | inr other ↦ first-less e epochs key floor below.1 (rw other at some)
]

-- the origins of a list in which one is
present : (epochs : TxMap ℕ) (key : TxId) (floor : ℕ) → are_keys epochs ≡ true → key.seq ≡ 0 → are_ascending epochs ≡ true → value_of epochs key ≡ Some floor
    → with_origin (map origin_of epochs) (key.centre, key.epoch) ≡ map origin_of epochs
present [] key floor keys zero up some = absurd (cc)
present (e ∷ epochs) key floor keys zero up some =
    let parts = and_parts (e.0.seq == 0) (are_keys epochs) keys in
    elim (cases_Bool (tx_eq e.0 key)) [
      | inl same ↦
          let is : origin_of e ≡ (key.centre, key.epoch) = key-same e key parts.0 zero same in
          let a : is_before (origin_of e) (key.centre, key.epoch) ≡ false = ap (λ o. is_before o (key.centre, key.epoch)) is ∙ before-none (key.centre, key.epoch) in
          let b : is_before (key.centre, key.epoch) (origin_of e) ≡ false = ap (is_before (key.centre, key.epoch)) is ∙ before-none (key.centre, key.epoch) in
          rw (a, b) refl
      | inr other ↦
          let rest : value_of epochs key ≡ Some floor = rw other at some in
          let less : tx_lt e.0 key ≡ true = first-less e epochs key floor (ascending-below e epochs up) rest in
          let before : is_before (origin_of e) (key.centre, key.epoch) ≡ true = sym (key-order e key parts.0 zero) ∙ less in
          rw before (ap (λ os. origin_of e ∷ os) (present epochs key floor parts.1 zero (ascending-tail e epochs up) rest))
    ]

-- a floor set anew stands where the old one stood
set-anew : (epochs : TxMap ℕ) (key : TxId) (floor seq : ℕ) → are_ascending epochs ≡ true → value_of epochs key ≡ Some floor
    → map origin_of (inserted (without epochs key) (key, seq)) ≡ map origin_of epochs
set-anew [] key floor seq up some = absurd (cc)
set-anew (e ∷ epochs) key floor seq up some = elim (cases_Bool (tx_eq e.0 key)) [
  | inl same ↦
      let is : e.0 ≡ key = tx_eq-same e.0 key same in
      let below : IsBelow key epochs = subst (λ t. IsBelow t epochs) is (ascending-below e epochs up) in
      let gone : without epochs key ≡ epochs = without-none epochs key (value_of-below key epochs below) in
      rw (same, gone) (ap (map origin_of) (front epochs (key, seq) below) ∙ ap (λ t. (t.centre, t.epoch) ∷ map origin_of epochs) (sym is))
  | inr other ↦
      let rest : value_of epochs key ≡ Some floor = rw other at some in
      let less : tx_lt e.0 key ≡ true = first-less e epochs key floor (ascending-below e epochs up) rest in
      rw (other, less) (ap (λ os. origin_of e ∷ os) (set-anew epochs key floor seq (ascending-tail e epochs up) rest))
]
  where
    front : (es : TxMap ℕ) (x : TxId × ℕ) → IsBelow x.0 es → inserted es x ≡ x ∷ es
    front [] x below = refl
    front (y ∷ es) x below = rw (tx_lt-not_back x.0 y.0 below.0) refl

none-without : (epochs : TxMap ℕ) (key : TxId) → is_some (value_of (without epochs key) key) ≡ false
none-without epochs key = ap is_some (value-without epochs key key) ∙ gone (tx_eq key key) (value_of epochs key) (tx_eq-refl key)
  where
    gone : (same : Bool) (found : Option ℕ) → same ≡ true → is_some (unless_same same found) ≡ false
    gone true found is = refl
    gone false found is = absurd (cc)

origin-by : (epochs : TxMap ℕ) (key : TxId) (seq : ℕ) (found : Option ℕ) → are_keys epochs ≡ true → key.seq ≡ 0 → are_ascending epochs ≡ true → value_of epochs key ≡ found
    → map origin_of (with_floor_by epochs key seq found) ≡ with_origin (map origin_of epochs) (key.centre, key.epoch)
origin-by epochs key seq None keys zero up is = rw is (entered-new epochs key seq keys zero is)
origin-by epochs key seq (Some floor) keys zero up is = elim (cases_Bool (nat_lt floor seq)) [
  | inl less ↦ rw (less, none-without epochs key) (set-anew epochs key floor seq up is ∙ sym (present epochs key floor keys zero up is))
  | inr more ↦ rw more (sym (present epochs key floor keys zero up is))
]

pub origin-with : (epochs : TxMap ℕ) (centre epoch seq : ℕ) → are_keys epochs ≡ true → are_ascending epochs ≡ true → map origin_of (with_floor epochs centre epoch seq) ≡ with_origin (map origin_of epochs) (centre, epoch)
origin-with epochs centre epoch seq keys up = origin-by epochs (epoch_key centre epoch) seq (value_of epochs (epoch_key centre epoch)) keys refl up refl

-- ---- the order and the keys stay

ascending-by : (epochs : TxMap ℕ) (key : TxId) (seq : ℕ) (found : Option ℕ) → are_ascending epochs ≡ true → are_ascending (with_floor_by epochs key seq found) ≡ true
ascending-by epochs key seq None up = ascending-with_entry epochs (key, seq) up
ascending-by epochs key seq (Some floor) up = elim (cases_Bool (nat_lt floor seq)) [
  | inl less ↦ rw less (ascending-with_entry (without epochs key) (key, seq) (ascending-filter (λ e. not (tx_eq e.0 key)) epochs up))
  | inr more ↦ rw more up
]

pub ascending-with : (epochs : TxMap ℕ) (centre epoch seq : ℕ) → are_ascending epochs ≡ true → are_ascending (with_floor epochs centre epoch seq) ≡ true
ascending-with epochs centre epoch seq up = ascending-by epochs (epoch_key centre epoch) seq (value_of epochs (epoch_key centre epoch)) up

and-both : (a b : Bool) → a ≡ true → b ≡ true → (a && b) ≡ true
and-both true b one two = two
and-both false b one two = one

keys-inserted : (epochs : TxMap ℕ) (e : TxId × ℕ) → are_keys epochs ≡ true → (e.0.seq == 0) ≡ true → are_keys (inserted epochs e) ≡ true
keys-inserted [] e keys here = and-both (e.0.seq == 0) true here refl
keys-inserted (x ∷ epochs) e keys here =
    let parts = and_parts (x.0.seq == 0) (are_keys epochs) keys in
    elim (cases_Bool (tx_lt x.0 e.0)) [
      | inl less ↦ rw less (and-both (x.0.seq == 0) (are_keys (inserted epochs e)) parts.0 (keys-inserted epochs e parts.1 here))
      | inr over ↦ rw over (and-both (e.0.seq == 0) (are_keys (x ∷ epochs)) here keys)
    ]

keys-entry : (epochs : TxMap ℕ) (e : TxId × ℕ) → are_keys epochs ≡ true → (e.0.seq == 0) ≡ true → are_keys (with_entry epochs e) ≡ true
keys-entry epochs e keys here = elim (cases_Bool (is_some (value_of epochs e.0))) [
  | inl some ↦ rw some keys
  | inr none ↦ rw none (keys-inserted epochs e keys here)
]

keys-without : (epochs : TxMap ℕ) (key : TxId) → are_keys epochs ≡ true → are_keys (without epochs key) ≡ true
keys-without [] key keys = refl
keys-without (e ∷ epochs) key keys =
    let parts = and_parts (e.0.seq == 0) (are_keys epochs) keys in
    elim (cases_Bool (tx_eq e.0 key)) [
      | inl same ↦ rw same (keys-without epochs key parts.1)
      | inr other ↦ rw other (and-both (e.0.seq == 0) (are_keys (without epochs key)) parts.0 (keys-without epochs key parts.1))
    ]

keys-by : (epochs : TxMap ℕ) (key : TxId) (seq : ℕ) (found : Option ℕ) → are_keys epochs ≡ true → (key.seq == 0) ≡ true → are_keys (with_floor_by epochs key seq found) ≡ true
keys-by epochs key seq None keys zero = keys-entry epochs (key, seq) keys zero
keys-by epochs key seq (Some floor) keys zero = elim (cases_Bool (nat_lt floor seq)) [
  | inl less ↦ rw less (keys-entry (without epochs key) (key, seq) (keys-without epochs key keys) zero)
  | inr more ↦ rw more keys
]

pub keys-with : (epochs : TxMap ℕ) (centre epoch seq : ℕ) → are_keys epochs ≡ true → are_keys (with_floor epochs centre epoch seq) ≡ true
keys-with epochs centre epoch seq keys = keys-by epochs (epoch_key centre epoch) seq (value_of epochs (epoch_key centre epoch)) keys refl
