-- What the facts of logs say stands in order of their places.
use Rattle.std.proofs.Common.{◌≡◌, ◌≤◌, ℕ, Bool, List, [], ◌∷◌, ◌++◌, ◌+◌, arith, cond, false, true, inl, inr, refl, sym, ap, ◌⊎◌, map, subst}
use Rattle.std.proofs.lemmas.Bool.Decides.{nat_tests}
use Rattle.std.specs.Prelude.{flat_map, ⊤}
use Rattle.mdcc_base.specs.Ballot.{is_fast}
use Rattle.mdcc_base.specs.declared.identifiers.Ballot.{Ballot}
use Rattle.mdcc_base.specs.declared.key.Key.{Key}
use Rattle.mdcc_option.specs.declared.choices.Choice.{Choice}
use Rattle.mdcc_struct.specs.declared.options.Options.{Options}
use Rattle.mdcc_def_messages.specs.declared.facts.Fact.{Fact}
use Rattle.mdcc_audit.specs.Auditing.{Placed}
use Rattle.mdcc_audit.specs.Contradictions.{AreInOrder, IsOneOf, Saying, choice_sayings, choices_in, choices_named, mark_saying, mark_sayings, outcome_sayings}
use Rattle.mdcc_audit.specs.Firsts.{place_lt}
use Rattle.mdcc_audit.specs.Logs.{placed_from, placed_log, placed_of}
use Rattle.mdcc_audit.specs.declared.audited.Place.{Place}
use Rattle.mdcc_audit.proofs.Earliest.{lt-itself}

-- ---- lists

pub either : {X : Type 0} (x : X) (xs ys : List X) → IsOneOf x (xs ++ ys) → IsOneOf x xs ⊎ IsOneOf x ys
either x [] ys is = inr is
either x (y ∷ xs) ys (inl same) = inl (inl same)
either x (y ∷ xs) ys (inr more) =
    elim (either x xs ys more) [
      | inl here ↦ inl (inr here)
      | inr there ↦ inr there
    ]

pub from-each : {X Y : Type 0} (f : X → List Y) (y : Y) (xs : List X) → IsOneOf y (flat_map f xs) → (x : X) × IsOneOf x xs × IsOneOf y (f x)
from-each f y [] is = elim is [ ]
from-each f y (x ∷ xs) is =
    elim (either y (f x) (flat_map f xs) is) [
      | inl here ↦ (x, inl refl, here)
      | inr there ↦ let h = from-each f y xs there in (h.0, inr h.1, h.2)
    ]

-- ---- facts in order

abbrev AreBehind : List Placed → Type 0
AreBehind [] = ⊤
AreBehind (one ∷ others) = ((other : Placed) → IsOneOf other others → place_lt other.0 one.0 ≡ false) × AreBehind others

at-one-place : (place : Place) (xs ys : List Saying) → ((x : Saying) → IsOneOf x xs → x.1.place ≡ place) → ((y : Saying) → IsOneOf y ys → place_lt y.1.place place ≡ false)
    → AreInOrder ys → AreInOrder (xs ++ ys)
at-one-place place [] ys here behind order = order
at-one-place place (x ∷ xs) ys here behind order =
    (later, at-one-place place xs ys (λ y is. here y (inr is)) behind order)
  where
    at-x : (p : Place) → place_lt p place ≡ false → place_lt p x.1.place ≡ false
    at-x p not = subst (λ (q : Place). place_lt p q ≡ false) (sym (here x (inl refl))) not

    later : (e : Saying) → IsOneOf e (xs ++ ys) → place_lt e.1.place x.1.place ≡ false
    later e is =
        elim (either e xs ys is) [
          | inl same ↦ at-x e.1.place (subst (λ (q : Place). place_lt q place ≡ false) (sym (here e (inr same))) (lt-itself place))
          | inr more ↦ at-x e.1.place (behind e more)
        ]

module _ (f : Placed → List Saying) (own : (one : Placed) (e : Saying) → IsOneOf e (f one) → e.1.place ≡ one.0) where
  said-in-order : (facts : List Placed) → AreBehind facts → AreInOrder (flat_map f facts)
  said-in-order [] behind = tt
  said-in-order (one ∷ others) behind =
      at-one-place one.0 (f one) (flat_map f others) (own one) later (said-in-order others behind.1)
    where
      later : (y : Saying) → IsOneOf y (flat_map f others) → place_lt y.1.place one.0 ≡ false
      later y is =
          let h = from-each f y others is in
          subst (λ (q : Place). place_lt q one.0 ≡ false) (sym (own h.0 y h.2)) (behind.0 h.0 h.1)

-- ---- whole logs

abbrev at : ℕ → ℕ → Place
at centre number = record { centre = centre; number = number }

same-log : (centre m n : ℕ) → n ≤ m → place_lt (at centre m) (at centre n) ≡ false
same-log centre m n le = grind (arith, nat_tests)

later-log : (a b m n : ℕ) → a + 1 ≤ b → place_lt (at b m) (at a n) ≡ false
later-log a b m n le = grind (arith, nat_tests)

log-places : (centre number : ℕ) (facts : List Fact) (one : Placed) → IsOneOf one (placed_log centre number facts) → (m : ℕ) × (number ≤ m) × (one.0 ≡ at centre m)
log-places centre number [] one is = elim is [ ]
log-places centre number (fact ∷ facts) one (inl same) = (number, omega arith, ap (λ (p : Placed). p.0) same)
log-places centre number (fact ∷ facts) one (inr more) =
    let h = log-places centre (number + 1) facts one more in
    (h.0, omega (h.1, arith), h.2)

logs-places : (centre : ℕ) (logs : List (List Fact)) (one : Placed) → IsOneOf one (placed_from centre logs) → (b : ℕ) × (m : ℕ) × (centre ≤ b) × (one.0 ≡ at b m)
logs-places centre [] one is = elim is [ ]
logs-places centre (log ∷ logs) one is =
    elim (either one (placed_log centre 1 log) (placed_from (centre + 1) logs) is) [
      | inl here ↦ let h = log-places centre 1 log one here in (centre, h.0, omega arith, h.2)
      | inr there ↦ let h = logs-places (centre + 1) logs one there in (h.0, h.1, omega (h.2, arith), h.3)
    ]

log-behind : (centre number : ℕ) (facts : List Fact) (logs : List (List Fact)) → AreBehind (placed_from (centre + 1) logs)
    → AreBehind (placed_log centre number facts ++ placed_from (centre + 1) logs)
log-behind centre number [] logs behind = behind
log-behind centre number (fact ∷ facts) logs behind = (later, log-behind centre (number + 1) facts logs behind)
  where
    later : (other : Placed) → IsOneOf other (placed_log centre (number + 1) facts ++ placed_from (centre + 1) logs) → place_lt other.0 (at centre number) ≡ false
    later other is =
        elim (either other (placed_log centre (number + 1) facts) (placed_from (centre + 1) logs) is) [
          | inl here ↦
              let h = log-places centre (number + 1) facts other here in
              subst (λ (q : Place). place_lt q (at centre number) ≡ false) (sym h.2) (same-log centre h.0 number (omega (h.1, arith)))
          | inr there ↦
              let h = logs-places (centre + 1) logs other there in
              subst (λ (q : Place). place_lt q (at centre number) ≡ false) (sym h.3) (later-log centre h.0 h.1 number h.2)
        ]

logs-behind : (centre : ℕ) (logs : List (List Fact)) → AreBehind (placed_from centre logs)
logs-behind centre [] = tt
logs-behind centre (log ∷ logs) = log-behind centre 1 log logs (logs-behind (centre + 1) logs)

-- ---- what a fact says has its place

own-outcomes : (one : Placed) (e : Saying) → IsOneOf e (outcome_sayings one) → e.1.place ≡ one.0
own-outcomes (place, Fact.Heard tx outcome) e (inl is) = ap (λ (x : Saying). x.1.place) is
own-outcomes (place, Fact.Heard tx outcome) e (inr none) = elim none [ ]
own-outcomes (place, Fact.Voted key version ballot options offered) e none = elim none [ ]
own-outcomes (place, Fact.Booted epoch) e none = elim none [ ]
own-outcomes (place, Fact.Floor centre epoch seq) e none = elim none [ ]
own-outcomes (place, Fact.Promised key low high ballot) e none = elim none [ ]
own-outcomes (place, Fact.Adopted key version item adds) e none = elim none [ ]

own-mapped : (place : Place) (key : Key) (version : ℕ) (ballot : Ballot) (options : Options) (e : Saying) → IsOneOf e (map (mark_saying place key version ballot) options)
    → e.1.place ≡ place
own-mapped place key version ballot [] e none = elim none [ ]
own-mapped place key version ballot (x ∷ xs) e (inl is) = ap (λ (x : Saying). x.1.place) is
own-mapped place key version ballot (x ∷ xs) e (inr more) = own-mapped place key version ballot xs e more

own-marks : (one : Placed) (e : Saying) → IsOneOf e (mark_sayings one) → e.1.place ≡ one.0
own-marks (place, Fact.Voted key version ballot options offered) e is = by_ballot (is_fast ballot) refl
  where
    by_ballot : (fast : Bool) → is_fast ballot ≡ fast → e.1.place ≡ place
    by_ballot true fast = elim (subst (λ b. IsOneOf e (cond b [] (map (mark_saying place key version ballot) options))) fast is) [ ]
    by_ballot false classic =
        own-mapped place key version ballot options e (subst (λ b. IsOneOf e (cond b [] (map (mark_saying place key version ballot) options))) classic is)
own-marks (place, Fact.Heard tx outcome) e none = elim none [ ]
own-marks (place, Fact.Booted epoch) e none = elim none [ ]
own-marks (place, Fact.Floor centre epoch seq) e none = elim none [ ]
own-marks (place, Fact.Promised key low high ballot) e none = elim none [ ]
own-marks (place, Fact.Adopted key version item adds) e none = elim none [ ]

own-choices : (one : Placed) (e : Saying) → IsOneOf e (choices_in one) → e.1.place ≡ one.0
own-choices (place, fact) e is =
    let h = from-each (choice_sayings place) e (choices_named fact) is in
    of-choice h.0 h.2
  where
    of-choice : (choice : Choice) → IsOneOf e (choice_sayings place choice) → e.1.place ≡ place
    of-choice choice (inl is) = ap (λ (x : Saying). x.1.place) is
    of-choice choice (inr (inl is)) = ap (λ (x : Saying). x.1.place) is
    of-choice choice (inr (inr none)) = elim none [ ]

pub outcomes-in-order : (logs : List (List Fact)) → AreInOrder (flat_map outcome_sayings (placed_of logs))
outcomes-in-order logs = said-in-order outcome_sayings own-outcomes (placed_of logs) (logs-behind 1 logs)

pub marks-in-order : (logs : List (List Fact)) → AreInOrder (flat_map mark_sayings (placed_of logs))
marks-in-order logs = said-in-order mark_sayings own-marks (placed_of logs) (logs-behind 1 logs)

pub choices-in-order : (logs : List (List Fact)) → AreInOrder (flat_map choices_in (placed_of logs))
choices-in-order logs = said-in-order choices_in own-choices (placed_of logs) (logs-behind 1 logs)
