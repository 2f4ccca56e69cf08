-- Walks over ascending maps.
use Rattle.std.proofs.Common.{◌≡◌, ℕ, suc, zero, ◌+◌, ◌≤◌, ◌⊎◌, Bool, true, false, List, [], ◌∷◌, ◌++◌, Option, Some, None, refl, sym, ◌∙◌, ap, subst, add-one, inl, inr, length, drop, append_assoc}
use Rattle.std.specs.Prelude.{slice_get, is_some}
use Rattle.std.specs.Option.{option_map}
use Rattle.std.specs.List.{filter, filter_map, cons_option, find, list_all}
use Rattle.std.proofs.lemmas.Bool.{cases_Bool}
use Rattle.std.proofs.lemmas.List.{append-nil, drop_all}
use Rattle.mdcc_base.specs.declared.identifiers.TxId.{TxId}
use Rattle.mdcc_base.specs.TxId.{tx_eq, tx_lt}
use Rattle.mdcc_struct.specs.Maps.{TxMap, value_of, with_entry, union, are_ascending}
use Rattle.mdcc_struct.specs.Places.{place_of}
use Rattle.mdcc_struct.proofs.Order.{tx_lt-apart, tx_lt-not_back, tx_lt-other, tx_eq-same, tx_eq-sym}
use Rattle.mdcc_struct.proofs.Ordered.{IsBelow, IsBelow-trans, ascending-tail, ascending-below, ascending-cons, ascending-inserted, value_of-below, place_of-later}

-- ---- what is left of a list

pub drop-get : {X : Type 0} (xs : List X) (i : ℕ) (x : X) → slice_get xs i ≡ Some x → drop i xs ≡ x ∷ drop (i + 1) xs
drop-get [] i x h = absurd (cc)
drop-get (y ∷ xs) zero x h = let same : y ≡ x = cc in ap (λ z. z ∷ xs) same
drop-get (y ∷ xs) (suc i) x h = rw add-one (rw add-one at (drop-get xs i x h))

pub filter-keeps : {X : Type 0} (p : X → Bool) (xs : List X) (i : ℕ) (x : X) → slice_get xs i ≡ Some x → p x ≡ true → filter p (drop i xs) ≡ x ∷ filter p (drop (i + 1) xs)
filter-keeps p xs i x at h = rw (drop-get xs i x at, h) refl

pub filter-leaves : {X : Type 0} (p : X → Bool) (xs : List X) (i : ℕ) (x : X) → slice_get xs i ≡ Some x → p x ≡ false → filter p (drop i xs) ≡ filter p (drop (i + 1) xs)
filter-leaves p xs i x at h = rw (drop-get xs i x at, h) refl

pub list_all-fails : {X : Type 0} (p : X → Bool) (xs : List X) (i : ℕ) (x : X) → slice_get xs i ≡ Some x → p x ≡ false → list_all p (drop i xs) ≡ false
list_all-fails p xs i x at h = rw (drop-get xs i x at, h) refl

pub list_all-passes : {X : Type 0} (p : X → Bool) (xs : List X) (i : ℕ) (x : X) → slice_get xs i ≡ Some x → p x ≡ true → list_all p (drop i xs) ≡ list_all p (drop (i + 1) xs)
list_all-passes p xs i x at h = rw (drop-get xs i x at, h) refl

pub find-here : {X : Type 0} (p : X → Bool) (xs : List X) (i : ℕ) (x : X) → slice_get xs i ≡ Some x → p x ≡ true → find p (drop i xs) ≡ Some x
find-here p xs i x at h = rw (drop-get xs i x at, h) refl

pub find-further : {X : Type 0} (p : X → Bool) (xs : List X) (i : ℕ) (x : X) → slice_get xs i ≡ Some x → p x ≡ false → find p (drop i xs) ≡ find p (drop (i + 1) xs)
find-further p xs i x at h = rw (drop-get xs i x at, h) refl

pub filter_map-keeps : {X Y : Type 0} (f : X → Option Y) (xs : List X) (i : ℕ) (x : X) (y : Y) → slice_get xs i ≡ Some x → f x ≡ Some y → filter_map f (drop i xs) ≡ y ∷ filter_map f (drop (i + 1) xs)
filter_map-keeps f xs i x y at h = rw (drop-get xs i x at, h) refl

pub filter_map-leaves : {X Y : Type 0} (f : X → Option Y) (xs : List X) (i : ℕ) (x : X) → slice_get xs i ≡ Some x → f x ≡ None → filter_map f (drop i xs) ≡ filter_map f (drop (i + 1) xs)
filter_map-leaves f xs i x at h = rw (drop-get xs i x at, h) refl

-- the made list takes what comes next
pub pushed_next : {X : Type 0} (made left rest whole : TxMap X) (x : TxId × X) → left ≡ x ∷ rest → made ++ left ≡ whole → made ++ x ∷ rest ≡ whole
pushed_next made left rest whole x h is = subst (λ zs. made ++ zs ≡ whole) h is

pub pushed_more : {X : Type 0} (made rest whole : TxMap X) (x : TxId × X) → made ++ x ∷ rest ≡ whole → (made ++ x ∷ []) ++ rest ≡ whole
pushed_more made rest whole x h = append_assoc made (x ∷ []) rest ∙ h

pub ascending-front : {X : Type 0} (xs ys : TxMap X) → are_ascending (xs ++ ys) ≡ true → are_ascending xs ≡ true
ascending-front [] ys h = refl
ascending-front (x ∷ xs) ys h =
    ascending-cons x xs (IsBelow-front x.0 xs ys (ascending-below x (xs ++ ys) h)) (ascending-front xs ys (ascending-tail x (xs ++ ys) h))
  where
    IsBelow-front : {X : Type 0} (t : TxId) (xs ys : TxMap X) → IsBelow t (xs ++ ys) → IsBelow t xs
    IsBelow-front t [] ys k = tt
    IsBelow-front t (x ∷ xs) ys k = (k.0, IsBelow-front t xs ys k.1)

pub ascending-pushed : {X : Type 0} (made rest whole : TxMap X) (x : TxId × X) → are_ascending whole ≡ true → made ++ x ∷ rest ≡ whole → are_ascending (made ++ x ∷ []) ≡ true
ascending-pushed made rest whole x h is =
    ascending-front (made ++ x ∷ []) rest (ap are_ascending (pushed_more made rest whole x is) ∙ h)

pub ascending-drop : {X : Type 0} (i : ℕ) (m : TxMap X) → are_ascending m ≡ true → are_ascending (drop i m) ≡ true
ascending-drop zero m h = h
ascending-drop (suc i) [] h = refl
ascending-drop (suc i) (e ∷ es) h = ascending-drop i es (ascending-tail e es h)

-- the entry after another is later
pub ascending-next : {X : Type 0} (m : TxMap X) (i : ℕ) (x y : TxId × X) → are_ascending m ≡ true → slice_get m i ≡ Some x → slice_get m (i + 1) ≡ Some y → tx_lt x.0 y.0 ≡ true
ascending-next m i x y h at after =
    let all : are_ascending (x ∷ drop (i + 1) m) ≡ true = rw (← drop-get m i x at) (ascending-drop i m h) in
    let more : are_ascending (x ∷ (y ∷ drop (i + 1 + 1) m)) ≡ true = subst (λ zs. are_ascending (x ∷ zs) ≡ true) (drop-get m (i + 1) y after) all in
    (ascending-below x (y ∷ drop (i + 1 + 1) m) more).0

-- the place of the next entry's transaction is no earlier
pub place_of-next : {X : Type 0} (a b : TxMap X) (i : ℕ) (x y : TxId × X) → are_ascending a ≡ true → slice_get a i ≡ Some x → slice_get a (i + 1) ≡ Some y
    → place_of b x.0 ≤ place_of b y.0
place_of-next a b i x y h at after = place_of-later b x.0 y.0 (ascending-next a i x y h at after)

-- ---- what is kept of a map

pub ascending-filter : {X : Type 0} (p : TxId × X → Bool) (m : TxMap X) → are_ascending m ≡ true → are_ascending (filter p m) ≡ true
ascending-filter p [] h = refl
ascending-filter p (e ∷ es) h =
    elim (cases_Bool (p e)) [
      | inl keeps ↦ rw keeps (ascending-cons e (filter p es) (IsBelow-filter p e.0 es (ascending-below e es h)) (ascending-filter p es (ascending-tail e es h)))
      | inr leaves ↦ rw leaves (ascending-filter p es (ascending-tail e es h))
    ]
  where
    IsBelow-filter : {X : Type 0} (p : TxId × X → Bool) (t : TxId) (m : TxMap X) → IsBelow t m → IsBelow t (filter p m)
    IsBelow-filter p t [] k = tt
    IsBelow-filter p t (e ∷ es) k = elim (cases_Bool (p e)) [
      | inl keeps ↦ rw keeps (k.0, IsBelow-filter p t es k.1)
      | inr leaves ↦ rw leaves (IsBelow-filter p t es k.1)
    ]

-- the entries' transactions with what a function gives of them
abbrev pub picked_entry : {X Y : Type 0} → (TxId → Option Y) → TxId × X → Option (TxId × Y)
picked_entry f e = option_map (λ y. (e.0, y)) (f e.0)

IsBelow-one : {Y : Type 0} (t tx : TxId) (o : Option Y) (rest : TxMap Y) → tx_lt t tx ≡ true → IsBelow t rest → IsBelow t (cons_option (option_map (λ y. (tx, y)) o) rest)
IsBelow-one t tx None rest h k = k
IsBelow-one t tx (Some y) rest h k = (h, k)

IsBelow-picked : {X Y : Type 0} (f : TxId → Option Y) (t : TxId) (m : TxMap X) → IsBelow t m → IsBelow t (filter_map (picked_entry f) m)
IsBelow-picked f t [] h = tt
IsBelow-picked f t (e ∷ es) h = IsBelow-one t e.0 (f e.0) (filter_map (picked_entry f) es) h.0 (IsBelow-picked f t es h.1)

ascending-one : {Y : Type 0} (tx : TxId) (o : Option Y) (rest : TxMap Y) → IsBelow tx rest → are_ascending rest ≡ true → are_ascending (cons_option (option_map (λ y. (tx, y)) o) rest) ≡ true
ascending-one tx None rest h k = k
ascending-one tx (Some y) rest h k = ascending-cons (tx, y) rest h k

pub ascending-picked : {X Y : Type 0} (f : TxId → Option Y) (m : TxMap X) → are_ascending m ≡ true → are_ascending (filter_map (picked_entry f) m) ≡ true
ascending-picked f [] h = refl
ascending-picked f (e ∷ es) h =
    ascending-one e.0 (f e.0) (filter_map (picked_entry f) es) (IsBelow-picked f e.0 es (ascending-below e es h)) (ascending-picked f es (ascending-tail e es h))

-- ---- unions

pub with_entry-behind : {X : Type 0} (x : TxId × X) (xs : TxMap X) (y : TxId × X) → tx_lt x.0 y.0 ≡ true → with_entry (x ∷ xs) y ≡ x ∷ with_entry xs y
with_entry-behind x xs y h =
    elim (cases_Bool (is_some (value_of xs y.0))) [
      | inl there ↦ rw (tx_lt-apart x.0 y.0 h, there) refl
      | inr none ↦ rw (tx_lt-apart x.0 y.0 h, none, h) refl
    ]

pub union-behind : {X : Type 0} (x : TxId × X) (xs ys : TxMap X) → IsBelow x.0 ys → union (x ∷ xs) ys ≡ x ∷ union xs ys
union-behind x xs [] h = refl
union-behind x xs (y ∷ ys) h = rw (with_entry-behind x xs y h.0) (union-behind x (with_entry xs y) ys h.1)

pub with_entry-front : {X : Type 0} (xs : TxMap X) (y : TxId × X) → IsBelow y.0 xs → with_entry xs y ≡ y ∷ xs
with_entry-front [] y h = refl
with_entry-front (x ∷ xs) y h = rw (value_of-below y.0 (x ∷ xs) h, tx_lt-not_back y.0 x.0 h.0) refl

pub union-front : {X : Type 0} (xs : TxMap X) (y : TxId × X) (ys : TxMap X) → IsBelow y.0 xs → IsBelow y.0 ys → union xs (y ∷ ys) ≡ y ∷ union xs ys
union-front xs y ys h k = rw (with_entry-front xs y h) (union-behind y xs ys k)

pub union-same : {X : Type 0} (x : TxId × X) (xs : TxMap X) (y : TxId × X) (ys : TxMap X) → tx_eq x.0 y.0 ≡ true → IsBelow x.0 ys → union (x ∷ xs) (y ∷ ys) ≡ x ∷ union xs ys
union-same x xs y ys h k = rw h (union-behind x xs ys k)

pub union-none : {X : Type 0} (ys : TxMap X) → are_ascending ys ≡ true → union [] ys ≡ ys
union-none [] h = refl
union-none (y ∷ ys) h = union-front [] y ys tt (ascending-below y ys h) ∙ ap (λ zs. y ∷ zs) (union-none ys (ascending-tail y ys h))

pub ascending-with_entry : {X : Type 0} (m : TxMap X) (e : TxId × X) → are_ascending m ≡ true → are_ascending (with_entry m e) ≡ true
ascending-with_entry {X = X} m e h = go (value_of m e.0) refl
  where
    go : (o : Option X) → value_of m e.0 ≡ o → are_ascending (with_entry m e) ≡ true
    go None none = rw none (ascending-inserted m e h none)
    go (Some y) there = rw there h

pub ascending-union : {X : Type 0} (xs ys : TxMap X) → are_ascending xs ≡ true → are_ascending (union xs ys) ≡ true
ascending-union xs [] h = h
ascending-union xs (y ∷ ys) h = ascending-union (with_entry xs y) ys (ascending-with_entry xs y h)

-- ---- one step of a merge

module _ {X : Type 0} (a b : TxMap X) (i j : ℕ) (x y : TxId × X) (up : are_ascending a ≡ true) (up' : are_ascending b ≡ true)
    (at : slice_get a i ≡ Some x) (at' : slice_get b j ≡ Some y) where
  left_a : are_ascending (x ∷ drop (i + 1) a) ≡ true
  left_a = rw (← drop-get a i x at) (ascending-drop i a up)

  left_b : are_ascending (y ∷ drop (j + 1) b) ≡ true
  left_b = rw (← drop-get b j y at') (ascending-drop j b up')

  pub union-theirs : tx_lt y.0 x.0 ≡ true → union (drop i a) (drop j b) ≡ y ∷ union (drop i a) (drop (j + 1) b)
  union-theirs less =
      let below : IsBelow y.0 (drop i a) = rw (drop-get a i x at) (less, IsBelow-trans y.0 x.0 (drop (i + 1) a) less (ascending-below x (drop (i + 1) a) left_a)) in
      rw (drop-get b j y at') (union-front (drop i a) y (drop (j + 1) b) below (ascending-below y (drop (j + 1) b) left_b))

  pub union-mine : tx_lt y.0 x.0 ≡ false → tx_eq x.0 y.0 ≡ false → union (drop i a) (drop j b) ≡ x ∷ union (drop (i + 1) a) (drop j b)
  union-mine over other =
      let less : tx_lt x.0 y.0 ≡ true = tx_lt-other y.0 x.0 over (tx_eq-sym y.0 x.0 ∙ other) in
      let below : IsBelow x.0 (drop j b) = rw (drop-get b j y at') (less, IsBelow-trans x.0 y.0 (drop (j + 1) b) less (ascending-below y (drop (j + 1) b) left_b)) in
      rw (drop-get a i x at) (union-behind x (drop (i + 1) a) (drop j b) below)

  pub union-both : tx_eq x.0 y.0 ≡ true → union (drop i a) (drop j b) ≡ x ∷ union (drop (i + 1) a) (drop (j + 1) b)
  union-both same =
      let below : IsBelow x.0 (drop (j + 1) b) = rw (tx_eq-same x.0 y.0 same) (ascending-below y (drop (j + 1) b) left_b) in
      rw (drop-get a i x at, drop-get b j y at') (union-same x (drop (i + 1) a) y (drop (j + 1) b) same below)

-- at the end of one map the rest of the other is left
pub union-end : {X : Type 0} (a b : TxMap X) (i j : ℕ) → are_ascending b ≡ true → (length a ≤ i) ⊎ (length b ≤ j) → union (drop i a) (drop j b) ≡ drop i a ++ drop j b
union-end a b i j up h = elim h [
  | inl past ↦ rw (drop_all i a past) (union-none (drop j b) (ascending-drop j b up))
  | inr past ↦ rw (drop_all j b past) (sym (append-nil (drop i a)))
]

-- so what was made and the rests are the union
pub union_rests : {X : Type 0} (a b : TxMap X) (i j : ℕ) (made : TxMap X) → are_ascending b ≡ true → (length a ≤ i) ⊎ (length b ≤ j)
    → made ++ union (drop i a) (drop j b) ≡ union a b → (made ++ drop i a) ++ drop j b ≡ union a b
union_rests a b i j made up past is =
    append_assoc made (drop i a) (drop j b) ∙ ap (λ zs. made ++ zs) (sym (union-end a b i j up past)) ∙ is
