-- Where each floor is above the one that it raises, an epoch has one floor that none raised.
use Rattle.std.proofs.Common.{◌≡◌, ◌==◌, ◌&&◌, ◌+◌, ◌<◌, ◌≤◌, if◌then◌else◌, ℕ, Bool, true, false, not, List, [], ◌∷◌, refl, ap, ◌∙◌, arith, zero-add}
use Rattle.std.specs.Prelude.{max, nat_lt}
use Rattle.std.proofs.Math.Nat.{max-zero}
use Rattle.std.proofs.lemmas.Bool.{and_parts, eqb-true}
use Rattle.std.proofs.lemmas.Bool.Decides.{nat_tests}
use Rattle.mdcc_base.specs.Counts.{number_of}
use Rattle.mdcc_def_messages.specs.declared.facts.Fact.{Fact}
use Rattle.mdcc_def_protocol.specs.Facts.{floor_of}
use Rattle.mdcc_given_back.specs.Counted.{TopFloorsRise, are_risen, is_top, top_floors}

-- ---- numbers

lt-true : (a b : ℕ) → a < b → nat_lt a b ≡ true
lt-true a b h = grind (arith, nat_tests, h)

true-lt : (a b : ℕ) → nat_lt a b ≡ true → a < b
true-lt a b h = grind (arith, nat_tests, h)

eq-flip : (a b : ℕ) → (a == b) ≡ (b == a)
eq-flip a b = grind (arith, nat_tests)

and-flip : (a a' b b' : Bool) → a ≡ a' → b ≡ b' → (a && b) ≡ (a' && b')
and-flip a a' b b' h k = rw (h, k) refl

abbrev counted : Bool → ℕ
counted b = if b then 1 else 0

sum-three : (a b c n m k : ℕ) → a + b ≡ c → n + m ≡ k → (a + n) + (b + m) ≡ c + k
sum-three a b c n m k h g = omega (arith, h, g)

-- ---- the floors of one epoch

module _ (centre epoch : ℕ) where
  abbrev is_own : Fact → Bool
  is_own (Fact.Floor c e s) = c == centre && e == epoch
  is_own _ = false

  -- that are not below a number
  abbrev own_top : ℕ → Fact → Bool
  own_top floor (Fact.Floor c e s) = c == centre && e == epoch && not (nat_lt s floor)
  own_top floor _ = false

  none-by : (own : Bool) (s floor : ℕ) → (if own then s else 0) < floor → counted (own && not (nat_lt s floor)) ≡ 0
  none-by true s floor h = rw (lt-true s floor h) refl
  none-by false s floor h = refl

  none-more : (a b : ℕ) → a ≡ 0 → b ≡ 0 → a + b ≡ 0
  none-more a b h k = omega (arith, h, k)

  -- none of them is above the floor
  none-above : (floor : ℕ) (facts : List Fact) → floor_of facts centre epoch < floor → number_of (own_top floor) facts ≡ 0
  none-above floor [] h = refl
  none-above floor (Fact.Floor c e s ∷ facts) h =
      none-more _ _ (none-by (c == centre && e == epoch) s floor (omega (arith, h))) (none-above floor facts (omega (arith, h)))
  none-above floor (Fact.Booted n ∷ facts) h = none-more 0 (number_of (own_top floor) facts) refl (none-above floor facts (omega (arith, h)))
  none-above floor (Fact.Promised k l g b ∷ facts) h = none-more 0 (number_of (own_top floor) facts) refl (none-above floor facts (omega (arith, h)))
  none-above floor (Fact.Voted k v b os off ∷ facts) h = none-more 0 (number_of (own_top floor) facts) refl (none-above floor facts (omega (arith, h)))
  none-above floor (Fact.Heard tx outcome ∷ facts) h = none-more 0 (number_of (own_top floor) facts) refl (none-above floor facts (omega (arith, h)))
  none-above floor (Fact.Adopted k v item adds ∷ facts) h = none-more 0 (number_of (own_top floor) facts) refl (none-above floor facts (omega (arith, h)))

  -- one of them is the floor, where there is one
  skip-zero : (a n : ℕ) → a + n ≡ 1 → a + (0 + n) ≡ 1
  skip-zero a n h = omega (arith, h)

  abbrev OneIsTop : ℕ → List Fact → Type 0
  OneIsTop floor facts = counted (floor == 0) + number_of (own_top floor) facts ≡ 1

  own-one : (own : Bool) (floor s : ℕ) (facts : List Fact) → OneIsTop floor facts → (own ≡ true → floor < s) → (floor < s → number_of (own_top s) facts ≡ 0)
      → counted (max floor (if own then s else 0) == 0)
      + (counted (own && not (nat_lt s (max floor (if own then s else 0)))) + number_of (own_top (max floor (if own then s else 0))) facts)
      ≡ 1
  own-one true floor s facts one above none =
      let over : floor < s = above refl in
      let top : max floor s ≡ s = omega (arith, over) in
      rw top (own-is-top s (number_of (own_top s) facts) (positive floor s over) (none over))
    where
      positive : (floor s : ℕ) → floor < s → 0 < s
      positive floor s over = omega (arith, over)

      some-top : (s : ℕ) → 0 < s → (s == 0) ≡ false
      some-top s some = grind (arith, nat_tests, some)

      itself : (s : ℕ) → nat_lt s s ≡ false
      itself s = grind (arith, nat_tests)

      own-is-top : (s n : ℕ) → 0 < s → n ≡ 0 → counted (s == 0) + (counted (not (nat_lt s s)) + n) ≡ 1
      own-is-top s n some zero-left = rw (some-top s some, itself s, zero-left) refl
  own-one false floor s facts one above none = rw (max-zero floor) (skip-zero (counted (floor == 0)) (number_of (own_top floor) facts) one)

  other-one : (floor : ℕ) (facts : List Fact) → OneIsTop floor facts
      → counted (max floor 0 == 0) + (0 + number_of (own_top (max floor 0)) facts) ≡ 1
  other-one floor facts one = rw (max-zero floor) (skip-zero (counted (floor == 0)) (number_of (own_top floor) facts) one)

  one-is-top : (facts : List Fact) → are_risen facts ≡ true → OneIsTop (floor_of facts centre epoch) facts
  one-is-top [] h = refl
  one-is-top (Fact.Floor c e s ∷ facts) h =
      let parts = and_parts (nat_lt (floor_of facts c e) s) (are_risen facts) h in
      own-one (c == centre && e == epoch) (floor_of facts centre epoch) s facts (one-is-top facts parts.1)
      (λ own. above-own c e s facts own (true-lt (floor_of facts c e) s parts.0))
      (none-above s facts)
    where
      above-own : (c e s : ℕ) (facts : List Fact) → (c == centre && e == epoch) ≡ true → floor_of facts c e < s → floor_of facts centre epoch < s
      above-own c e s facts own above =
          let same = and_parts (c == centre) (e == epoch) own in
          let c-is : c ≡ centre = eqb-true c centre same.0 in
          let e-is : e ≡ epoch = eqb-true e epoch same.1 in
          rw (← c-is, ← e-is) above
  one-is-top (Fact.Booted n ∷ facts) h = other-one (floor_of facts centre epoch) facts (one-is-top facts h)
  one-is-top (Fact.Promised k l g b ∷ facts) h = other-one (floor_of facts centre epoch) facts (one-is-top facts h)
  one-is-top (Fact.Voted k v b os off ∷ facts) h = other-one (floor_of facts centre epoch) facts (one-is-top facts h)
  one-is-top (Fact.Heard tx outcome ∷ facts) h = other-one (floor_of facts centre epoch) facts (one-is-top facts h)
  one-is-top (Fact.Adopted k v item adds ∷ facts) h = other-one (floor_of facts centre epoch) facts (one-is-top facts h)

  -- ---- a floor takes the place of the one that it raises

  -- one fact, by numbers: whether its epoch is the new floor's, its number, its floor, the epoch's, and the new one
  one-more : (own own' : Bool) (s floor own-floor new rest : ℕ) → own' ≡ own → (own ≡ true → floor ≡ own-floor)
      → max rest (if own then s else 0) ≤ own-floor → own-floor < new
      → counted (not (nat_lt s (max floor (if own' then new else 0)))) + counted (own && not (nat_lt s own-floor)) ≡ counted (not (nat_lt s floor))
  one-more own own' s floor own-floor new rest same is within over = rw same (by own is within)
    where
      raised : (s floor own-floor new rest : ℕ) → floor ≡ own-floor → max rest s ≤ own-floor → own-floor < new → nat_lt s (max floor new) ≡ true
      raised s floor own-floor new rest is within over = lt-true s (max floor new) (omega (arith, is, within, over))

      other : (s floor : ℕ) → counted (not (nat_lt s (max floor 0))) + 0 ≡ counted (not (nat_lt s floor))
      other s floor = rw (max-zero floor) (omega arith)

      by : (own : Bool) → (own ≡ true → floor ≡ own-floor) → max rest (if own then s else 0) ≤ own-floor
          → counted (not (nat_lt s (max floor (if own then new else 0)))) + counted (own && not (nat_lt s own-floor)) ≡ counted (not (nat_lt s floor))
      by true is within = rw (raised s floor own-floor new rest (is refl) within over, is refl) (zero-add (counted (not (nat_lt s own-floor))))
      by false is within = other s floor

  module _ (all : List Fact) (seq : ℕ) (over : floor_of all centre epoch < seq) where
    abbrev new_floor : Fact
    new_floor = Fact.Floor centre epoch seq

    abbrev own : ℕ
    own = floor_of all centre epoch

    none-same : (facts : List Fact) → number_of (is_top (new_floor ∷ all)) facts + number_of (own_top own) facts ≡ number_of (is_top all) facts
        → (0 + number_of (is_top (new_floor ∷ all)) facts) + (0 + number_of (own_top own) facts) ≡ 0 + number_of (is_top all) facts
    none-same facts h = omega (arith, h)

    floors-same : (c e : ℕ) → (c == centre && e == epoch) ≡ true → floor_of all c e ≡ own
    floors-same c e is =
        let same = and_parts (c == centre) (e == epoch) is in
        let c-is : c ≡ centre = eqb-true c centre same.0 in
        let e-is : e ≡ epoch = eqb-true e epoch same.1 in
        rw (c-is, e-is) refl

    all-same : (facts : List Fact) → floor_of facts centre epoch ≤ own
        → number_of (is_top (new_floor ∷ all)) facts + number_of (own_top own) facts ≡ number_of (is_top all) facts
    all-same [] h = refl
    all-same (Fact.Floor c e s ∷ facts) h =
        sum-three (counted (is_top (new_floor ∷ all) (Fact.Floor c e s))) (counted (own_top own (Fact.Floor c e s))) (counted (is_top all (Fact.Floor c e s)))
        (number_of (is_top (new_floor ∷ all)) facts) (number_of (own_top own) facts) (number_of (is_top all) facts)
        (one-more (c == centre && e == epoch) (centre == c && epoch == e) s (floor_of all c e) own seq (floor_of facts centre epoch)
        (and-flip (centre == c) (c == centre) (epoch == e) (e == epoch) (eq-flip centre c) (eq-flip epoch e)) (floors-same c e) h over)
        (all-same facts (omega (arith, h)))
    all-same (Fact.Booted n ∷ facts) h = none-same facts (all-same facts (omega (arith, h)))
    all-same (Fact.Promised k l g b ∷ facts) h = none-same facts (all-same facts (omega (arith, h)))
    all-same (Fact.Voted k v b os off ∷ facts) h = none-same facts (all-same facts (omega (arith, h)))
    all-same (Fact.Heard tx outcome ∷ facts) h = none-same facts (all-same facts (omega (arith, h)))
    all-same (Fact.Adopted k v item adds ∷ facts) h = none-same facts (all-same facts (omega (arith, h)))

    replaced : (new own tops first top : ℕ) → new + own ≡ tops → first + own ≡ 1 → top ≡ 1 → top + new ≡ first + tops
    replaced new own tops first top h g k = omega (arith, h, g, k)

    own-set : (if centre == centre && epoch == epoch then seq else 0) ≡ seq
    own-set = let c-is : (centre == centre) ≡ true = grind (arith, nat_tests) in let e-is : (epoch == epoch) ≡ true = grind (arith, nat_tests) in rw (c-is, e-is) refl

    highest : (floor given seq : ℕ) → given ≡ seq → floor < seq → nat_lt seq (max floor given) ≡ false
    highest floor given seq is above = let top : max floor given ≡ seq = omega (arith, is, above) in rw top (grind (arith, nat_tests))

    is-top : counted (is_top (new_floor ∷ all) new_floor) ≡ 1
    is-top = let none : nat_lt seq (floor_of (new_floor ∷ all) centre epoch) ≡ false = highest own _ seq own-set over in ap (λ b. counted (not b)) none

    floor-rises : are_risen all ≡ true → top_floors (new_floor ∷ all) ≡ counted (own == 0) + top_floors all
    floor-rises h =
        replaced (number_of (is_top (new_floor ∷ all)) all) (number_of (own_top own) all) (top_floors all) (counted (own == 0))
        (counted (is_top (new_floor ∷ all) new_floor)) (all-same all (omega arith)) (one-is-top all h) is-top

-- ---- another fact changes none

module _ (new : Fact) (all : List Fact) (same : (centre epoch : ℕ) → floor_of (new ∷ all) centre epoch ≡ floor_of all centre epoch) where
  top-same : (fact : Fact) → is_top (new ∷ all) fact ≡ is_top all fact
  top-same (Fact.Floor c e s) = ap (λ n. not (nat_lt s n)) (same c e)
  top-same (Fact.Booted n) = refl
  top-same (Fact.Promised k l g b) = refl
  top-same (Fact.Voted k v b os off) = refl
  top-same (Fact.Heard tx outcome) = refl
  top-same (Fact.Adopted k v item adds) = refl

  tops-same : (facts : List Fact) → number_of (is_top (new ∷ all)) facts ≡ number_of (is_top all) facts
  tops-same [] = refl
  tops-same (fact ∷ facts) =
      ap (λ b. counted b + number_of (is_top (new ∷ all)) facts) (top-same fact) ∙ ap (λ n. counted (is_top all fact) + n) (tops-same facts)

other-rises : (new : Fact) (all : List Fact) → ((centre epoch : ℕ) → floor_of (new ∷ all) centre epoch ≡ floor_of all centre epoch)
    → 0 + number_of (is_top (new ∷ all)) all ≡ 0 + top_floors all
other-rises new all same = ap (λ n. 0 + n) (tops-same new all same all)

pub top_floors_rise : TopFloorsRise
top_floors_rise (Fact.Floor c e s) facts rises risen = floor-rises c e facts s (true-lt (floor_of facts c e) s rises) risen
top_floors_rise (Fact.Booted n) facts rises risen = other-rises (Fact.Booted n) facts (λ c e. max-zero (floor_of facts c e))
top_floors_rise (Fact.Promised k l g b) facts rises risen = other-rises (Fact.Promised k l g b) facts (λ c e. max-zero (floor_of facts c e))
top_floors_rise (Fact.Voted k v b os off) facts rises risen = other-rises (Fact.Voted k v b os off) facts (λ c e. max-zero (floor_of facts c e))
top_floors_rise (Fact.Heard tx outcome) facts rises risen = other-rises (Fact.Heard tx outcome) facts (λ c e. max-zero (floor_of facts c e))
top_floors_rise (Fact.Adopted k v item adds) facts rises risen = other-rises (Fact.Adopted k v item adds) facts (λ c e. max-zero (floor_of facts c e))
