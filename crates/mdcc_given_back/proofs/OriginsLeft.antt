-- The epochs of all facts are those of the facts that are left.
use Rattle.std.proofs.Common.{◌≡◌, ◌==◌, ◌&&◌, ◌||◌, ◌<◌, ◌≤◌, ℕ, Bool, true, false, List, [], ◌∷◌, Option, Some, None, refl, sym, ap, ◌∙◌, inl, inr, arith, fold, filter_map, max}
use Rattle.std.proofs.Math.Path.{fun_ext}
use Rattle.std.specs.List.{cons_option, list_any}
use Rattle.std.specs.Prelude.{if◌then◌else◌, nat_le, nat_lt, not}
use Rattle.std.proofs.lemmas.Bool.{and_parts, cases_Bool, cases_lt, eqb-true, ltb-true}
use Rattle.std.proofs.lemmas.Bool.Decides.{nat_tests}
use Rattle.mdcc_def_messages.specs.declared.facts.Fact.{Fact}
use Rattle.mdcc_def_protocol.specs.Facts.{floor_of, floor_set, heard_of, heard_through_of, is_finished, is_past, shows_mark}
use Rattle.mdcc_def_protocol.specs.Floors.{is_before, origin_in, origins_of, with_origin}
use Rattle.mdcc_given_back.specs.Origins.{OriginsStay, SweepStays}
use Rattle.mdcc_given_back.specs.Rest.{IsRest, bare, is_bared, is_dropped}
use Rattle.mdcc_given_back.proofs.Alike.{AnyFact, any-alike, each}
use Rattle.mdcc_given_back.proofs.FloorsLeft.{floor-stays}
use Rattle.mdcc_given_back.proofs.ThroughLeft.{through-stays}

-- ---- ascending lists of epochs

abbrev Epoch : Type 0
Epoch = ℕ × ℕ

abbrev is_same : Epoch → Epoch → Bool
is_same a b = a.0 == b.0 && a.1 == b.1

before-trans : (a b c : Epoch) → is_before a b ≡ true → is_before b c ≡ true → is_before a c ≡ true
before-trans a b c h k = grind (arith, nat_tests, h, k)

before-apart : (a b : Epoch) → is_before a b ≡ true → is_same a b ≡ false
before-apart a b h = grind (arith, nat_tests, h)

not-before : (a b : Epoch) → is_before a b ≡ false → is_before b a ≡ false → is_same a b ≡ true
not-before a b h k = grind (arith, nat_tests, h, k)

same-self : (a : Epoch) → is_same a a ≡ true
same-self a = grind (arith, nat_tests)

same-is : (a b : Epoch) → is_same a b ≡ true → a ≡ b
same-is a b h =
    let parts = and_parts (a.0 == b.0) (a.1 == b.1) h in
    let first : a.0 ≡ b.0 = eqb-true a.0 b.0 parts.0 in
    let second : a.1 ≡ b.1 = eqb-true a.1 b.1 parts.1 in
    λ i. (first i, second i)

abbrev IsLow : Epoch → List Epoch → Type 0
IsLow a [] = Unit {0}
IsLow a (x ∷ xs) = (is_before a x ≡ true) × IsLow a xs

abbrev IsUp : List Epoch → Type 0
IsUp [] = Unit {0}
IsUp (x ∷ xs) = IsLow x xs × IsUp xs

low-trans : (a b : Epoch) (xs : List Epoch) → is_before a b ≡ true → IsLow b xs → IsLow a xs
low-trans a b [] h low = tt
low-trans a b (x ∷ xs) h low = (before-trans a b x h low.0, low-trans a b xs h low.1)

low-with : (a : Epoch) (xs : List Epoch) (o : Epoch) → is_before a o ≡ true → IsLow a xs → IsLow a (with_origin xs o)
low-with a [] o h low = (h, tt)
low-with a (x ∷ xs) o h low = elim (cases_Bool (is_before x o)) [
  | inl after ↦ rw after (low.0, low-with a xs o h low.1)
  | inr over ↦ elim (cases_Bool (is_before o x)) [
    | inl before ↦ rw (over, before) (h, low)
    | inr same ↦ rw (over, same) low
  ]
]

up-with : (xs : List Epoch) (o : Epoch) → IsUp xs → IsUp (with_origin xs o)
up-with [] o up = (tt, tt)
up-with (x ∷ xs) o up = elim (cases_Bool (is_before x o)) [
  | inl after ↦ rw after (low-with x xs o after up.0, up-with xs o up.1)
  | inr over ↦ elim (cases_Bool (is_before o x)) [
    | inl before ↦ rw (over, before) ((before, low-trans o x xs before up.0), up)
    | inr same ↦ rw (over, same) up
  ]
]

up-fold : (xs os : List Epoch) → IsUp xs → IsUp (fold with_origin xs os)
up-fold xs [] up = up
up-fold xs (o ∷ os) up = up-fold (with_origin xs o) os (up-with xs o up)

-- ---- which epochs a list has

abbrev has : Epoch → List Epoch → Bool
has p xs = list_any (is_same p) xs

or-none : (a : Bool) → (a || false) ≡ a
or-none true = refl
or-none false = refl

or-comm : (a b : Bool) → (a || b) ≡ (b || a)
or-comm true b = sym (by b)
  where
    by : (b : Bool) → (b || true) ≡ true
    by true = refl
    by false = refl
or-comm false b = sym (or-none b)

or-assoc : (a b c : Bool) → ((a || b) || c) ≡ (a || (b || c))
or-assoc true b c = refl
or-assoc false b c = refl

or-twice : (a b c : Bool) → c ≡ a → (a || b) ≡ ((a || b) || c)
or-twice true b c h = refl
or-twice false b c h = sym (ap (λ z. b || z) h ∙ or-none b)

has-with : (p : Epoch) (xs : List Epoch) (o : Epoch) → has p (with_origin xs o) ≡ (has p xs || is_same p o)
has-with p [] o = or-none (is_same p o)
has-with p (x ∷ xs) o = elim (cases_Bool (is_before x o)) [
  | inl after ↦ rw after (ap (λ b. is_same p x || b) (has-with p xs o) ∙ sym (or-assoc (is_same p x) (has p xs) (is_same p o)))
  | inr over ↦ elim (cases_Bool (is_before o x)) [
    | inl before ↦ rw (over, before) (or-comm (is_same p o) (is_same p x || has p xs))
    | inr same ↦
        let is : x ≡ o = same-is x o (not-before x o over same) in
        rw (over, same) (or-twice (is_same p x) (has p xs) (is_same p o) (ap (is_same p) (sym is)))
  ]
]

has-fold : (p : Epoch) (xs os : List Epoch) → has p (fold with_origin xs os) ≡ (has p xs || has p os)
has-fold p xs [] = sym (or-none (has p xs))
has-fold p xs (o ∷ os) =
    has-fold p (with_origin xs o) os ∙ ap (λ b. b || has p os) (has-with p xs o) ∙ or-assoc (has p xs) (is_same p o) (has p os)

low-none : (a : Epoch) (xs : List Epoch) → IsLow a xs → has a xs ≡ false
low-none a [] low = refl
low-none a (x ∷ xs) low = rw (before-apart a x low.0) (low-none a xs low.1)

has-first : (x : Epoch) (xs : List Epoch) → has x (x ∷ xs) ≡ true
has-first x xs = rw (same-self x) refl

same-epochs : (xs ys : List Epoch) → IsUp xs → IsUp ys → ((p : Epoch) → has p xs ≡ has p ys) → xs ≡ ys
same-epochs [] [] up up' h = refl
same-epochs [] (y ∷ ys) up up' h = absurd (let bad : false ≡ true = h y ∙ has-first y ys in cc)
same-epochs (x ∷ xs) [] up up' h = absurd (let bad : true ≡ false = sym (has-first x xs) ∙ h x in cc)
same-epochs (x ∷ xs) (y ∷ ys) up up' h = elim (cases_Bool (is_before x y)) [
  | inl less ↦
      let none : has x (y ∷ ys) ≡ false = low-none x (y ∷ ys) (less, low-trans x y ys less up'.0) in
      absurd (let bad : true ≡ false = sym (has-first x xs) ∙ h x ∙ none in cc)
  | inr over ↦ elim (cases_Bool (is_before y x)) [
    | inl more ↦
        let none : has y (x ∷ xs) ≡ false = low-none y (x ∷ xs) (more, low-trans y x xs more up.0) in
        absurd (let bad : false ≡ true = sym none ∙ h y ∙ has-first y ys in cc)
    | inr same ↦
        let is : x ≡ y = same-is x y (not-before x y over same) in
        let rest : xs ≡ ys = same-epochs xs ys up.1 up'.1 (λ p. elim (cases_Bool (is_same p x)) [
          | inl here ↦
              let at : p ≡ x = same-is p x here in
              ap (λ q. has q xs) at ∙ low-none x xs up.0 ∙ sym (ap (λ q. has q ys) (at ∙ is) ∙ low-none y ys up'.0)
          | inr away ↦
              let away' : is_same p y ≡ false = ap (is_same p) (sym is) ∙ away in
              let left : has p (x ∷ xs) ≡ has p xs = rw away refl in
              let right : has p (y ∷ ys) ≡ has p ys = rw away' refl in
              sym left ∙ h p ∙ right
        ]) in
        λ i. is i ∷ rest i
  ]
]

-- ---- of facts

abbrev is_from : Epoch → Option Epoch → Bool
is_from p None = false
is_from p (Some o) = is_same p o

has-cons : (p : Epoch) (o : Option Epoch) (os : List Epoch) → has p (cons_option o os) ≡ (is_from p o || has p os)
has-cons p None os = refl
has-cons p (Some o) os = refl

has-told : (p : Epoch) (facts : List Fact) → has p (filter_map origin_in facts) ≡ list_any (λ fact. is_from p (origin_in fact)) facts
has-told p [] = refl
has-told p (fact ∷ facts) = has-cons p (origin_in fact) (filter_map origin_in facts) ∙ ap (λ b. is_from p (origin_in fact) || b) (has-told p facts)

has-origin : (p : Epoch) (facts : List Fact) → has p (origins_of facts) ≡ list_any (λ fact. is_from p (origin_in fact)) facts
has-origin p facts = has-fold p [] (filter_map origin_in facts) ∙ has-told p facts

-- where there is a floor a fact tells of the epoch

or-later : (a b : Bool) → b ≡ true → (a || b) ≡ true
or-later true b h = refl
or-later false b h = h

max-right : (a n : ℕ) → 0 < max a n → a ≤ 0 → 0 < n
max-right a n h k = omega (arith, h, k)

sets-floor : (p : Epoch) (fact : Fact) → 0 < floor_set p.0 p.1 fact → is_from p (origin_in fact) ≡ true
sets-floor p (Fact.Floor c e n) h = elim (cases_Bool (c == p.0 && e == p.1)) [
  | inl same ↦ turned c e p same
  | inr other ↦ let none : 0 < 0 = rw other at h in absurd (omega (arith, none))
]
  where
    turned : (c e : ℕ) (p : Epoch) → (c == p.0 && e == p.1) ≡ true → is_same p (c, e) ≡ true
    turned c e p h = grind (arith, nat_tests, h)
sets-floor p (Fact.Booted k) h = absurd (omega (arith, h))
sets-floor p (Fact.Promised k low high b) h = absurd (omega (arith, h))
sets-floor p (Fact.Voted k v b options offered) h = absurd (omega (arith, h))
sets-floor p (Fact.Heard tx outcome) h = absurd (omega (arith, h))
sets-floor p (Fact.Adopted k v item adds) h = absurd (omega (arith, h))

floor-told : (p : Epoch) (facts : List Fact) → 0 < floor_of facts p.0 p.1 → list_any (λ fact. is_from p (origin_in fact)) facts ≡ true
floor-told p [] h = absurd (omega (arith, h))
floor-told p (fact ∷ facts) h = elim (cases_lt 0 (floor_of facts p.0 p.1)) [
  | inl before ↦ or-later (is_from p (origin_in fact)) (list_any (λ fact. is_from p (origin_in fact)) facts) (floor-told p facts before)
  | inr none ↦ rw (sets-floor p fact (max-right (floor_of facts p.0 p.1) (floor_set p.0 p.1 fact) h none)) refl
]

-- where there is none no fact of the epoch is dropped

module _ (all : List Fact) (p : Epoch) (none : floor_of all p.0 p.1 ≤ 0) where
  no-floor : (c e n : ℕ) → nat_lt n (floor_of all c e) ≡ true → is_same p (c, e) ≡ false
  no-floor c e n h = elim (cases_Bool (is_same p (c, e))) [
    | inr other ↦ other
    | inl same ↦
        let parts = and_parts (p.0 == c) (p.1 == e) same in
        let is : floor_of all p.0 p.1 ≡ floor_of all c e =
        ap (λ k. floor_of all k p.1) (eqb-true p.0 c parts.0) ∙ ap (λ k. floor_of all c k) (eqb-true p.1 e parts.1) in
        absurd (too_low n (floor_of all c e) (floor_of all p.0 p.1) h is none)
  ]
    where
      too_low : (n a b : ℕ) → nat_lt n a ≡ true → b ≡ a → b ≤ 0 → ⊥
      too_low n a b h is low = omega (arith, ltb-true n a h, is, low)

  finished-floor : (seq n : ℕ) → (nat_lt 0 seq && nat_le seq n) ≡ true → nat_lt 0 n ≡ true
  finished-floor seq n h = grind (arith, nat_tests, h)

  untold : (fact : Fact) → AnyFact fact → is_dropped all fact ≡ true → is_from p (origin_in fact) ≡ false
  untold (Fact.Booted k) q h = refl
  untold (Fact.Promised k low high b) q h = refl
  untold (Fact.Voted k v b options offered) q h = refl
  untold (Fact.Adopted k v item adds) q h = refl
  untold (Fact.Floor c e n) q h = no-floor c e n h
  untold (Fact.Heard tx outcome) q h =
      let finished : is_finished all tx ≡ true =
      (and_parts (is_finished all tx) (is_past all (heard_of all tx))
      (and_parts (is_finished all tx && is_past all (heard_of all tx)) (not (list_any (shows_mark all tx) all)) h).0).0 in
      no-floor tx.centre tx.epoch 0 (finished-floor tx.seq (floor_of all tx.centre tx.epoch) finished)

  same-told : (fact : Fact) → AnyFact fact → is_bared all fact ≡ true → is_from p (origin_in (bare fact)) ≡ is_from p (origin_in fact)
  same-told (Fact.Booted k) q h = refl
  same-told (Fact.Promised k low high b) q h = refl
  same-told (Fact.Voted k v b options offered) q h = refl
  same-told (Fact.Heard tx outcome) q h = refl
  same-told (Fact.Adopted k v item adds) q h = refl
  same-told (Fact.Floor c e n) q h = refl

told-alike : (rest facts : List Fact) (p : Epoch) → IsRest rest facts
    → list_any (λ fact. is_from p (origin_in fact)) rest ≡ list_any (λ fact. is_from p (origin_in fact)) facts
told-alike rest facts p is = elim (cases_lt 0 (floor_of facts p.0 p.1)) [
  | inl some ↦
      let left : 0 < floor_of rest p.0 p.1 = rw (floor-stays rest facts p.0 p.1 is) some in
      floor-told p rest left ∙ sym (floor-told p facts some)
  | inr none ↦
      any-alike (λ fact. is_from p (origin_in fact)) facts AnyFact (untold facts p none) (same-told facts p none) rest facts (each AnyFact (λ fact. tt) facts) is
]

pub origins-stay : OriginsStay
origins-stay rest facts is =
    same-epochs (origins_of rest) (origins_of facts)
    (up-fold [] (filter_map origin_in rest) tt) (up-fold [] (filter_map origin_in facts) tt)
    (λ p. has-origin p rest ∙ told-alike rest facts p is ∙ sym (has-origin p facts))

abbrev sweep_by : (Epoch → ℕ) → (Epoch → ℕ) → Epoch → Option (ℕ × ℕ × ℕ)
sweep_by through floor origin = if nat_lt (floor origin) (through origin) then Some (origin.0, origin.1, through origin) else None

pub sweep-stays : SweepStays
sweep-stays rest facts is =
    ap (λ (through : Epoch → ℕ). filter_map (sweep_by through (λ o. floor_of rest o.0 o.1)) (origins_of rest)) (fun_ext (λ o. through-stays rest facts o.0 o.1 is))
    ∙ ap (λ (floor : Epoch → ℕ). filter_map (sweep_by (λ o. heard_through_of facts o.0 o.1) floor) (origins_of rest)) (fun_ext (λ o. floor-stays rest facts o.0 o.1 is))
    ∙ ap (filter_map (sweep_by (λ o. heard_through_of facts o.0 o.1) (λ o. floor_of facts o.0 o.1))) (origins-stay rest facts is)
