-- How many messages stand before the first that waits.
use Rattle.std.proofs.Common.{◌≡◌, ◌⊎◌, ℕ, suc, zero, ◌+◌, ◌-◌, ◌≤◌, ◌<◌, Bool, List, [], ◌∷◌, ◌++◌, Some, None, refl, sym, ◌∙◌, ap, arith, inl, inr, length, drop, get_or}
use Rattle.std.specs.Prelude.{set, slice_get, min}
use Rattle.std.proofs.lemmas.Bool.{cases_Bool}
use Rattle.std.proofs.lemmas.List.{length-append}
use Rattle.std.proofs.lemmas.Option.{slice_get-get_or}
use Rattle.std.proofs.Math.Numerals.{add-one}
use Rattle.mdcc_world_mail.specs.StoredMessages.{AreCursors, marked_delivered}
use Rattle.mdcc_world_mail.specs.Waiting.{before_first, waits_among, waits_for}
use Rattle.mdcc_def_messages.specs.Mailbox.{Sent, numbered, with_delivered}

pub first_within : {X : Type 0} (test : X → Bool) (xs : List X) → before_first test xs ≤ length xs
first_within test [] = grind arith
first_within test (x ∷ xs) = let ih = first_within test xs in grind (arith, ih)

-- so many may be passed over
pub first_left : {X : Type 0} (test : X → Bool) (xs : List X) (from : ℕ) → from ≤ before_first test xs
    → from + before_first test (drop from xs) ≡ before_first test xs
first_left test xs zero within = let e : 0 + before_first test xs ≡ before_first test xs = omega arith in e
first_left test [] (suc from) within = absurd (omega (within, arith))
first_left test (x ∷ xs) (suc from) within =
    elim (cases_Bool (test x)) [
      | inl e ↦ absurd (grind (within, e, arith))
      | inr e ↦
          let less : from ≤ before_first test xs = grind (within, e, arith) in
          let ih = first_left test xs from less in
          rw e (omega (ih, arith))
    ]

-- more behind do not lower it
pub first_front : {X : Type 0} (test : X → Bool) (xs ys : List X) → before_first test xs ≤ before_first test (xs ++ ys)
first_front test [] ys = omega arith
first_front test (x ∷ xs) ys = let ih = first_front test xs ys in grind (arith, ih)

-- nor does a delivery
pub first_delivered : (centre : ℕ) (xs : List Sent) (place : ℕ)
    → before_first (waits_for centre) xs ≤ before_first (waits_for centre) (with_delivered xs place)
first_delivered centre [] place = omega arith
first_delivered centre (x ∷ xs) zero = grind arith
first_delivered centre (x ∷ xs) (suc place) = let ih = first_delivered centre xs place in grind (arith, ih)

pub among_none : (xs : List Sent) → before_first (waits_among []) xs ≡ length xs
among_none [] = refl
among_none (x ∷ xs) = let ih = among_none xs in grind (arith, ih)

-- one centre more
pub among_next : (centre : ℕ) (centres : List ℕ) (xs : List Sent)
    → before_first (waits_among (centre ∷ centres)) xs ≡ min (before_first (waits_for centre) xs) (before_first (waits_among centres) xs)
among_next centre centres [] = refl
among_next centre centres (x ∷ xs) = let ih = among_next centre centres xs in grind (arith, ih)

-- a walk over the centres
pub min_among : (least centre : ℕ) (centres : List ℕ) (xs : List Sent)
    → min (min least (before_first (waits_for centre) xs)) (before_first (waits_among centres) xs)
    ≡ min least (before_first (waits_among (centre ∷ centres)) xs)
min_among least centre centres xs = rw (among_next centre centres xs) (omega arith)

-- ---- deliveries

pub set_delivered : (xs : List Sent) (place : ℕ) (x : Sent) → slice_get xs place ≡ Some x → set xs place (marked_delivered x) ≡ with_delivered xs place
set_delivered [] place x at = absurd (cc)
set_delivered (y ∷ xs) zero x at = let same : y ≡ x = cc in rw same refl
set_delivered (y ∷ xs) (suc place) x at = ap (λ ys. y ∷ ys) (set_delivered xs place x at)

pub delivered_past : (xs : List Sent) (place : ℕ) → length xs ≤ place → with_delivered xs place ≡ xs
delivered_past [] place past = refl
delivered_past (x ∷ xs) zero past = absurd (omega (past, arith))
delivered_past (x ∷ xs) (suc place) past = ap (λ ys. x ∷ ys) (delivered_past xs place (omega (past, arith)))

-- ---- numbers

pub message_there : (xs : List Sent) (place : ℕ) (x : Sent) → place < length xs → x ≡ get_or xs place x → slice_get xs place ≡ Some x
message_there xs place x within is = slice_get-get_or xs place x within ∙ ap (λ (y : Sent). Some y) (sym is)

pub numbered_at : {X : Type 0} (xs : List X) (place : ℕ) → numbered xs (place + 1) ≡ slice_get xs place
numbered_at xs place = rw (add-one place) refl

pub past : {X : Type 0} (xs : List X) (place : ℕ) → length xs ≤ place → slice_get xs place ≡ None
past [] place far = refl
past (x ∷ xs) zero far = absurd (omega (far, arith))
past (x ∷ xs) (suc place) far = past xs place (omega (far, arith))

-- ---- cursors

set_either : (xs : List ℕ) (i j v : ℕ) → (get_or (set xs i v) j 0 ≡ get_or xs j 0) ⊎ ((j ≡ i) × (get_or (set xs i v) j 0 ≡ v))
set_either [] i j v = inl refl
set_either (x ∷ xs) zero zero v = inr (refl, refl)
set_either (x ∷ xs) zero (suc j) v = inl refl
set_either (x ∷ xs) (suc i) zero v = inl refl
set_either (x ∷ xs) (suc i) (suc j) v = elim (set_either xs i j v) [
  | inl same ↦ inl same
  | inr moved ↦ inr (ap (λ (n : ℕ). suc n) moved.0, moved.1)
]

pub cursors_moved : (cursors : List ℕ) (xs : List Sent) (centre next : ℕ) → AreCursors cursors xs → 1 ≤ centre
    → next ≤ before_first (waits_for centre) xs → AreCursors (set cursors (centre - 1) next) xs
cursors_moved cursors xs centre next are some within other there = elim (set_either cursors (centre - 1) (other - 1) next) [
  | inl same ↦ rw same (are other there)
  | inr moved ↦ let e : other ≡ centre = omega (moved.0, some, there, arith) in rw (moved.1, e) within
]

pub cursors_front : (cursors : List ℕ) (xs more : List Sent) → AreCursors cursors xs → AreCursors cursors (xs ++ more)
cursors_front cursors xs more are centre some =
    let front = first_front (waits_for centre) xs more in
    let was = are centre some in
    omega (was, front, arith)

pub cursors_delivered : (cursors : List ℕ) (xs : List Sent) (place : ℕ) → AreCursors cursors xs → AreCursors cursors (with_delivered xs place)
cursors_delivered cursors xs place are centre some =
    let later = first_delivered centre xs place in
    let was = are centre some in
    omega (was, later, arith)

pub length_under : (xs more : List Sent) (limit : ℕ) → length xs + length more < limit → length (xs ++ more) < limit
length_under xs more limit under = rw (length-append xs more) under
