-- How far each transaction of an epoch is settled is counted by as many facts as are left.
use Rattle.std.proofs.Common.{◌≡◌, ◌==◌, ◌&&◌, ◌||◌, ◌+◌, ◌<◌, ◌≤◌, ℕ, suc, zero, Bool, true, false, List, [], ◌∷◌, Option, Some, None, is_some, refl, sym, ap, ◌∙◌, inl, inr, arith, length}
use Rattle.std.specs.Option.{option_or}
use Rattle.std.specs.Prelude.{if◌then◌else◌, nat_le, nat_lt}
use Rattle.std.proofs.lemmas.Bool.{and_from, and_parts, cases_Bool, or_cases}
use Rattle.std.proofs.lemmas.Bool.Decides.{nat_tests}
use Rattle.mdcc_base.specs.Counts.{number_of}
use Rattle.mdcc_base.specs.TxId.{tx_eq}
use Rattle.mdcc_base.specs.declared.identifiers.TxId.{TxId}
use Rattle.mdcc_def_messages.specs.declared.facts.Fact.{Fact}
use Rattle.mdcc_def_protocol.specs.Facts.{floor_of, heard_of, is_finished, is_heard, is_settled, outcome_in, settled_after}
use Rattle.mdcc_theorem_fact_folds.specs.Chains.{is_heard_of}
use Rattle.mdcc_given_back.specs.Finished.{HeardThroughByRest, HeardThroughEnds, HeardThroughStays}
use Rattle.mdcc_given_back.specs.Rest.{IsRest}
use Rattle.mdcc_given_back.proofs.FloorsLeft.{floor-stays}
use Rattle.mdcc_given_back.proofs.HeardLeft.{settled-stays, unfinished-stays}

-- ---- a count that has enough steps ends where it is done

abbrev after : (ℕ → Bool) → ℕ → ℕ → ℕ
after test zero n = n
after test (suc more) n = if test (n + 1) then after test more (n + 1) else n

-- each of so many passes
abbrev run : (ℕ → Bool) → ℕ → ℕ → Bool
run test zero n = true
run test (suc more) n = test (n + 1) && run test more (n + 1)

ends : (test : ℕ → Bool) (n : ℕ) → run test 1 n ≡ false → test (n + 1) ≡ false
ends test n h =
    elim (cases_Bool (test (n + 1))) [
      | inl passes ↦ absurd (let bad : true ≡ false = rw passes at h in cc)
      | inr fails ↦ fails
    ]

enough : (test : ℕ → Bool) (a b n : ℕ) → run test (suc a) n ≡ false → run test (suc b) n ≡ false → after test a n ≡ after test b n
enough test zero zero n h k = refl
enough test zero (suc b) n h k = rw (ends test n h) refl
enough test (suc a) zero n h k = rw (ends test n k) refl
enough test (suc a) (suc b) n h k =
    elim (cases_Bool (test (n + 1))) [
      | inl passes ↦ rw passes (enough test a b (n + 1) (rw passes at h) (rw passes at k))
      | inr fails ↦ rw fails refl
    ]

-- so many pass, and the next does not
counted : (test : ℕ → Bool) (steps n more : ℕ) → more ≤ steps → run test more n ≡ true → test (n + more + 1) ≡ false → after test steps n ≡ n + more
counted test zero n more fits h end = omega (arith, fits)
counted test (suc steps) n zero fits h end =
    let ends_here : test (n + 1) ≡ false = ap test (plain n) ∙ end in
    rw ends_here (omega arith)
  where
    plain : (n : ℕ) → n + 1 ≡ n + 0 + 1
    plain n = omega arith
counted test (suc steps) n (suc more) fits h end =
    let parts = and_parts (test (n + 1)) (run test more (n + 1)) h in
    rw parts.0 (counted test steps (n + 1) more (omega (arith, fits)) parts.1 (ap test (shifted n more) ∙ end) ∙ moved n more)
  where
    shifted : (n more : ℕ) → n + 1 + more + 1 ≡ n + suc more + 1
    shifted n more = omega arith

    moved : (n more : ℕ) → n + 1 + more ≡ n + suc more
    moved n more = omega arith

-- where each passes all do
all-pass : (test : ℕ → Bool) (more n : ℕ) → ((k : ℕ) → k < more → test (n + k + 1) ≡ true) → run test more n ≡ true
all-pass test zero n each = refl
all-pass test (suc more) n each =
    and_from (test (n + 1)) (run test more (n + 1))
    (ap test (first n) ∙ each 0 (omega arith))
    (all-pass test more (n + 1) (λ k less. ap test (shifted n k) ∙ each (suc k) (omega (arith, less))))
  where
    first : (n : ℕ) → n + 1 ≡ n + 0 + 1
    first n = omega arith

    shifted : (n k : ℕ) → n + 1 + k + 1 ≡ n + suc k + 1
    shifted n k = omega arith

-- where so many do not all pass, more do not
more-fail : (test : ℕ → Bool) (k m n : ℕ) → k ≤ m → run test k n ≡ false → run test m n ≡ false
more-fail test zero m n less h = absurd (cc)
more-fail test (suc k) zero n less h = absurd (omega (arith, less))
more-fail test (suc k) (suc m) n less h =
    elim (cases_Bool (test (n + 1))) [
      | inl passes ↦ rw passes (more-fail test k m (n + 1) (omega (arith, less)) (rw passes at h))
      | inr fails ↦ rw fails refl
    ]

alike : (p q : ℕ → Bool) → ((n : ℕ) → p n ≡ q n) → (more n : ℕ) → after p more n ≡ after q more n
alike p q same zero n = refl
alike p q same (suc more) n =
    let ih = alike p q same more (n + 1) in
    ap (λ b. if b then after p more (n + 1) else n) (same (n + 1)) ∙ ap (λ m. if q (n + 1) then m else n) ih

-- ---- as many facts as transactions

abbrev numbered : ℕ → ℕ → ℕ → TxId
numbered centre epoch seq = record { centre = centre; epoch = epoch; seq = seq }

-- says how a later transaction of the epoch ended
abbrev is_later : ℕ → ℕ → ℕ → Fact → Bool
is_later centre epoch n (Fact.Heard tx outcome) = tx.centre == centre && (tx.epoch == epoch && nat_lt n tx.seq)
is_later centre epoch n _ = false

abbrev one_if : Bool → ℕ
one_if b = if b then 1 else 0

later-one : (a b : Bool) (s n : ℕ) → one_if (a && (b && s == n + 1)) + one_if (a && (b && nat_lt (n + 1) s)) ≤ one_if (a && (b && nat_lt n s))
later-one false b s n = omega arith
later-one true false s n = omega arith
later-one true true s n = by (s == n + 1) refl (nat_lt (n + 1) s) refl (nat_lt n s) refl
  where
    by : (x : Bool) → (s == n + 1) ≡ x → (y : Bool) → nat_lt (n + 1) s ≡ y → (z : Bool) → nat_lt n s ≡ z
        → one_if (s == n + 1) + one_if (nat_lt (n + 1) s) ≤ one_if (nat_lt n s)
    by true e true f z g = absurd (grind (arith, nat_tests, e, f))
    by true e false f false g = absurd (grind (arith, nat_tests, e, g))
    by false e true f false g = absurd (grind (arith, nat_tests, f, g))
    by true e false f true g = rw (e, f, g) (omega arith)
    by false e true f true g = rw (e, f, g) (omega arith)
    by false e false f true g = rw (e, f, g) (omega arith)
    by false e false f false g = rw (e, f, g) (omega arith)

later-fact : (centre epoch n : ℕ) (fact : Fact)
    → one_if (is_heard_of (numbered centre epoch (n + 1)) fact) + one_if (is_later centre epoch (n + 1) fact) ≤ one_if (is_later centre epoch n fact)
later-fact centre epoch n (Fact.Heard tx outcome) = later-one (tx.centre == centre) (tx.epoch == epoch) tx.seq n
later-fact centre epoch n (Fact.Booted k) = omega arith
later-fact centre epoch n (Fact.Promised k low high b) = omega arith
later-fact centre epoch n (Fact.Voted k v b options offered) = omega arith
later-fact centre epoch n (Fact.Adopted k v item adds) = omega arith
later-fact centre epoch n (Fact.Floor c e m) = omega arith

add-both : (a b c x y z : ℕ) → a + b ≤ c → x + y ≤ z → (a + x) + (b + y) ≤ c + z
add-both a b c x y z h k = omega (arith, h, k)

later-facts : (centre epoch n : ℕ) (facts : List Fact)
    → number_of (is_heard_of (numbered centre epoch (n + 1))) facts + number_of (is_later centre epoch (n + 1)) facts ≤ number_of (is_later centre epoch n) facts
later-facts centre epoch n [] = omega arith
later-facts centre epoch n (fact ∷ facts) =
    add-both
    (one_if (is_heard_of (numbered centre epoch (n + 1)) fact)) (one_if (is_later centre epoch (n + 1) fact)) (one_if (is_later centre epoch n fact))
    (number_of (is_heard_of (numbered centre epoch (n + 1))) facts) (number_of (is_later centre epoch (n + 1)) facts) (number_of (is_later centre epoch n) facts)
    (later-fact centre epoch n fact) (later-facts centre epoch n facts)

within-one : (b : Bool) (m n : ℕ) → m ≤ n → one_if b + m ≤ suc n
within-one true m n h = omega (arith, h)
within-one false m n h = omega (arith, h)

number-within : (test : Fact → Bool) (facts : List Fact) → number_of test facts ≤ length facts
number-within test [] = omega arith
number-within test (fact ∷ facts) = within-one (test fact) (number_of test facts) (length facts) (number-within test facts)

one-here : (b : Bool) (m : ℕ) → b ≡ true → 1 ≤ one_if b + m
one-here true m h = omega arith
one-here false m h = absurd (cc)

one-more : (b : Bool) (m : ℕ) → 1 ≤ m → 1 ≤ one_if b + m
one-more true m h = omega arith
one-more false m h = omega (arith, h)

some-of : {X : Type 0} (a b : Option X) → is_some (option_or a b) ≡ true → (is_some a || is_some b) ≡ true
some-of None b h = h
some-of (Some a) b h = refl

heard-by : (tx : TxId) (fact : Fact) → is_some (outcome_in tx fact) ≡ is_heard_of tx fact
heard-by tx (Fact.Heard t outcome) = elim (cases_Bool (tx_eq t tx)) [ inl same ↦ rw same refl | inr other ↦ rw other refl ]
heard-by tx (Fact.Booted k) = refl
heard-by tx (Fact.Promised k low high b) = refl
heard-by tx (Fact.Voted k v b options offered) = refl
heard-by tx (Fact.Adopted k v item adds) = refl
heard-by tx (Fact.Floor c e m) = refl

heard-once : (tx : TxId) (facts : List Fact) → is_heard facts tx ≡ true → 1 ≤ number_of (is_heard_of tx) facts
heard-once tx [] h = absurd (cc)
heard-once tx (fact ∷ facts) h =
    elim (or_cases (is_heard facts tx) (is_some (outcome_in tx fact)) (some-of (heard_of facts tx) (outcome_in tx fact) h)) [
      | inl before ↦ one-more (is_heard_of tx fact) (number_of (is_heard_of tx) facts) (heard-once tx facts before)
      | inr here ↦ one-here (is_heard_of tx fact) (number_of (is_heard_of tx) facts) (sym (heard-by tx fact) ∙ here)
    ]

next-many : (k a b c : ℕ) → 1 ≤ a → k ≤ b → a + b ≤ c → suc k ≤ c
next-many k a b c h i j = omega (arith, h, i, j)

above-next : (floor n : ℕ) → floor ≤ n → floor < n + 1
above-next floor n h = omega (arith, h)

still-above : (floor n : ℕ) → floor ≤ n → floor ≤ n + 1
still-above floor n h = omega (arith, h)

module _ (test : ℕ → Bool) (centre epoch floor : ℕ) (facts : List Fact)
    (heard : (m : ℕ) → floor < m → test m ≡ true → is_heard facts (numbered centre epoch m) ≡ true) where
  as-many : (k n : ℕ) → floor ≤ n → run test k n ≡ true → k ≤ number_of (is_later centre epoch n) facts
  as-many zero n up h = omega arith
  as-many (suc k) n up h =
      let parts = and_parts (test (n + 1)) (run test k (n + 1)) h in
      next-many k (number_of (is_heard_of (numbered centre epoch (n + 1))) facts) (number_of (is_later centre epoch (n + 1)) facts)
      (number_of (is_later centre epoch n) facts)
      (heard-once (numbered centre epoch (n + 1)) facts (heard (n + 1) (above-next floor n up) parts.0))
      (as-many k (n + 1) (still-above floor n up) parts.1)
      (later-facts centre epoch n facts)

  stops : run test (suc (length facts)) floor ≡ false
  stops = elim (cases_Bool (run test (suc (length facts)) floor)) [
    | inl all ↦ absurd (too_many (length facts) (number_of (is_later centre epoch floor) facts)
        (as-many (suc (length facts)) floor (omega arith) all) (number-within (is_later centre epoch floor) facts))
    | inr some ↦ some
  ]
    where
      too_many : (n m : ℕ) → suc n ≤ m → m ≤ n → ⊥
      too_many n m h k = omega (arith, h, k)

-- ---- of the facts that are left

settled_counts : (facts : List Fact) (centre epoch more n : ℕ)
    → settled_after facts centre epoch more n ≡ after (λ m. is_settled facts (numbered centre epoch m)) more n
settled_counts facts centre epoch zero n = refl
settled_counts facts centre epoch (suc more) n =
    ap (λ m. if is_settled facts (numbered centre epoch (n + 1)) then m else n) (settled_counts facts centre epoch more (n + 1))

not-through : (m floor : ℕ) → floor < m → (nat_lt 0 m && nat_le m floor) ≡ false
not-through m floor up = grind (arith, nat_tests, up)

or-first : (a b : Bool) → b ≡ false → (a || b) ≡ true → a ≡ true
or-first true b none h = refl
or-first false b none h = sym none ∙ h

le-trans : (a b c : ℕ) → a ≤ b → b ≤ c → a ≤ c
le-trans a b c h k = omega (arith, h, k)

same-here : (n : ℕ) → n ≤ n
same-here n = omega arith

module _ (facts : List Fact) (centre epoch : ℕ) where
  abbrev settled_here : ℕ → Bool
  settled_here m = is_settled facts (numbered centre epoch m)

  heard-here : (m : ℕ) → floor_of facts centre epoch < m → settled_here m ≡ true → is_heard facts (numbered centre epoch m) ≡ true
  heard-here m up h =
      or-first (is_heard facts (numbered centre epoch m)) (is_finished facts (numbered centre epoch m)) (not-through m (floor_of facts centre epoch) up) h

  few-pass : (more : ℕ) → run settled_here more (floor_of facts centre epoch) ≡ true → more ≤ length facts
  few-pass more all =
      le-trans more (number_of (is_later centre epoch (floor_of facts centre epoch)) facts) (length facts)
      (as-many settled_here centre epoch (floor_of facts centre epoch) facts heard-here more (floor_of facts centre epoch) (same-here (floor_of facts centre epoch)) all)
      (number-within (is_later centre epoch (floor_of facts centre epoch)) facts)

pub through-ends : HeardThroughEnds
through-ends facts centre epoch more each end =
    settled_counts facts centre epoch (length facts) (floor_of facts centre epoch)
    ∙ counted (settled_here facts centre epoch) (length facts) (floor_of facts centre epoch) more
    (few-pass facts centre epoch more (all-pass (settled_here facts centre epoch) more (floor_of facts centre epoch) each))
    (all-pass (settled_here facts centre epoch) more (floor_of facts centre epoch) each) end

module _ (rest facts : List Fact) (centre epoch : ℕ) (is : IsRest rest facts) where
  abbrev settled : ℕ → Bool
  settled m = is_settled facts (numbered centre epoch m)

  heard-above : (m : ℕ) → floor_of facts centre epoch < m → settled m ≡ true → is_heard facts (numbered centre epoch m) ≡ true
  heard-above m up h =
      or-first (is_heard facts (numbered centre epoch m)) (is_finished facts (numbered centre epoch m)) (not-through m (floor_of facts centre epoch) up) h

  heard-left : (m : ℕ) → floor_of facts centre epoch < m → settled m ≡ true → is_heard rest (numbered centre epoch m) ≡ true
  heard-left m up h =
      unfinished-stays rest facts (numbered centre epoch m) is (not-through m (floor_of facts centre epoch) up) ∙ heard-above m up h

  same-count : settled_after rest centre epoch (length rest) (floor_of facts centre epoch) ≡ settled_after facts centre epoch (length facts) (floor_of facts centre epoch)
  same-count =
      settled_counts rest centre epoch (length rest) (floor_of facts centre epoch)
      ∙ alike (λ m. is_settled rest (numbered centre epoch m)) settled (λ m. settled-stays rest facts (numbered centre epoch m) is)
      (length rest) (floor_of facts centre epoch)
      ∙ enough settled (length rest) (length facts) (floor_of facts centre epoch)
      (stops settled centre epoch (floor_of facts centre epoch) rest heard-left)
      (stops settled centre epoch (floor_of facts centre epoch) facts heard-above)
      ∙ sym (settled_counts facts centre epoch (length facts) (floor_of facts centre epoch))

suc-le : (a b : ℕ) → a ≤ b → suc a ≤ suc b
suc-le a b h = omega (arith, h)

pub through-by-rest : HeardThroughByRest
through-by-rest rest facts centre epoch more is fits =
    settled_counts facts centre epoch (length facts) (floor_of facts centre epoch)
    ∙ enough (settled_here facts centre epoch) (length facts) more (floor_of facts centre epoch)
    (stops (settled_here facts centre epoch) centre epoch (floor_of facts centre epoch) facts (heard-here facts centre epoch))
    (more-fail (settled_here facts centre epoch) (suc (length rest)) (suc more) (floor_of facts centre epoch) (suc-le (length rest) more fits)
    (stops (settled_here facts centre epoch) centre epoch (floor_of facts centre epoch) rest (heard-left rest facts centre epoch is)))
    ∙ sym (settled_counts facts centre epoch more (floor_of facts centre epoch))

pub through-stays : HeardThroughStays
through-stays rest facts centre epoch is =
    ap (λ n. settled_after rest centre epoch (length rest) n) (floor-stays rest facts centre epoch is) ∙ same-count rest facts centre epoch is
