-- Reading the elements of a list one after another, as a loop does.
use Rattle.std.proofs.Common.{◌≡◌, ℕ, zero, suc, ◌-◌, ◌+◌, ◌≤◌, ◌<◌, List, [], ◌∷◌, ◌++◌, length, Option, Some, Result, Ok, Err, refl, sym, ap, ◌∙◌, append_assoc, arith}
use Rattle.std.proofs.lemmas.List.{append-nil, length-append}
use Rattle.mdcc_base.specs.Unless.{GivesUnless}
use Rattle.mdcc_def_messages.specs.declared.wire.WireFault.{WireFault}
use Rattle.mdcc_def_messages.specs.declared.wire.WireFault.TheVariants.{Truncated, Trailing, Kind, Range, NotCanonical, Memory}
use Rattle.mdcc_def_messages.specs.ReadingSteps.{◌>>=◌, elements_at}
use Rattle.mdcc_parts.specs.Reads.{end_of, name_and_end, is_wire_memory}

-- what was read before, and what is still read
abbrev pub with_front : {X : Type 0} → List X → Result (List X × ℕ) WireFault → Result (List X × ℕ) WireFault
with_front front read = read >>= λ x. Ok (front ++ x.0, x.1)

-- so many elements were read up to a place, and with those that follow they are what is read of all
pub record HasRead {X K : Type 0} (read : Option K → ℕ → Result (X × ℕ) WireFault) (name_of : X → K) (count i : ℕ)
    (front : List X) (last : Option K) (at : ℕ) (total : Result (List X × ℕ) WireFault) : Type 0 where
  pub many : length front ≡ i
  pub whole : with_front front (elements_at read name_of (count - i) last at) ≡ total

regroup : {X : Type 0} (front : List X) (x : X) (read : Result (List X × ℕ) WireFault)
    → with_front front (read >>= λ xs. Ok (x ∷ xs.0, xs.1)) ≡ with_front (front ++ x ∷ []) read
regroup front x (Ok xs) = ap (λ ys. Ok (ys, xs.1)) (simp append_assoc)
regroup front x (Err fault) = refl

module _ {X K : Type 0} {read : Option K → ℕ → Result (X × ℕ) WireFault} {name_of : X → K} {count i : ℕ}
    {front : List X} {last : Option K} {at : ℕ} {total : Result (List X × ℕ) WireFault}
    (h : HasRead read name_of count i front last at total) where
  -- one more
  pub goes_on : {x : X} {after : ℕ} → i < count → Ok (x, after) ≡ read last at
      → HasRead read name_of count (i + 1) (front ++ x ∷ []) (Some (name_of x)) after total
  goes_on {x = x} {after = after} lt e =
      let k : count - i ≡ suc (count - (i + 1)) = omega arith in
      let one : with_front front (elements_at read name_of (count - i) last at)
      ≡ with_front (front ++ x ∷ []) (elements_at read name_of (count - (i + 1)) (Some (name_of x)) after)
      = rw (k, ← e) (regroup front x (elements_at read name_of (count - (i + 1)) (Some (name_of x)) after)) in
      record { many = omega (arith, length-append front (x ∷ []), h.many); whole = sym one ∙ h.whole }

  -- a fault
  pub ends : {fault : WireFault} → i < count → Err fault ≡ read last at → Err fault ≡ total
  ends {fault = fault} lt e =
      let k : count - i ≡ suc (count - (i + 1)) = omega arith in
      let one : with_front front (elements_at read name_of (count - i) last at) ≡ Err fault = rw (k, ← e) refl in
      sym one ∙ h.whole

  -- all of them
  pub is_done : count ≤ i → total ≡ Ok (front, at)
  is_done le =
      let k : count - i ≡ 0 = omega arith in
      let one : with_front front (elements_at read name_of (count - i) last at) ≡ Ok (front, at)
      = rw k (ap (λ xs. Ok (xs, at)) (append-nil front)) in
      sym h.whole ∙ one

-- a reader that asks for no last element reads the same behind any
pub HasRead-any : {X K : Type 0} {read : ℕ → Result (X × ℕ) WireFault} {name_of : X → K} {count i : ℕ}
    {front : List X} {at : ℕ} {total : Result (List X × ℕ) WireFault} (last last' : Option K)
    → HasRead (λ last. read) name_of count i front last at total → HasRead (λ last. read) name_of count i front last' at total
HasRead-any {read = read} {name_of = name_of} {count = count} {i = i} {front = front} {at = at} last last' h = record {
  many = h.many;
  whole = ap (with_front front) (same (count - i)) ∙ h.whole;
} where
  same : (n : ℕ) → elements_at (λ last. read) name_of n last' at ≡ elements_at (λ last. read) name_of n last at
  same zero = refl
  same (suc n) = refl

-- ---- the ends alone

abbrev done : {X : Type 0} → X → Result X WireFault
done x = Ok x

ok_is : {X : Type 0} (x y : X) → done x ≡ done y → x ≡ y
ok_is x y e = cc

-- so many elements were read up to a place, and those that follow end where all end
pub record HasPassed {X K : Type 0} (read : Option K → ℕ → Result (X × ℕ) WireFault) (name_of : X → K) (count i : ℕ)
    (last : Option K) (at : ℕ) (total : Result ℕ WireFault) : Type 0 where
  pub whole : end_of (elements_at read name_of (count - i) last at) ≡ total

ends_of : {X K : Type 0} (read : Result (X × ℕ) WireFault) (name_of : X → K) (rest : K → ℕ → Result (List X × ℕ) WireFault) (k : K) (after : ℕ)
    → Ok (k, after) ≡ name_and_end name_of read
    → end_of (read >>= λ first. rest (name_of first.0) first.1 >>= λ others. Ok (first.0 ∷ others.0, others.1)) ≡ end_of (rest k after)
ends_of (Ok x) name_of rest k after e =
    let named : k ≡ name_of x.0 = ap (λ p. p.0) (ok_is (k, after) (name_of x.0, x.1) e) in
    let ended : after ≡ x.1 = ap (λ p. p.1) (ok_is (k, after) (name_of x.0, x.1) e) in
    rw (named, ended) (same x.0 (rest (name_of x.0) x.1))
  where
    same : {X : Type 0} (x : X) (others : Result (List X × ℕ) WireFault) → end_of (others >>= λ xs. Ok (x ∷ xs.0, xs.1)) ≡ end_of others
    same x (Ok xs) = refl
    same x (Err fault) = refl
ends_of (Err fault) name_of rest k after e = absurd cc

fails_of : {X Y K : Type 0} (read : Result (X × ℕ) WireFault) (name_of : X → K) (next : X × ℕ → Result (Y × ℕ) WireFault) (fault : WireFault)
    → Err fault ≡ name_and_end name_of read → Err fault ≡ end_of (read >>= next)
fails_of (Ok x) name_of next fault e = absurd cc
fails_of (Err other) name_of next fault e = let same : fault ≡ other = cc in rw same refl

module _ {X K : Type 0} {read : Option K → ℕ → Result (X × ℕ) WireFault} {name_of : X → K} {count i : ℕ}
    {last : Option K} {at : ℕ} {total : Result ℕ WireFault}
    (h : HasPassed read name_of count i last at total) where
  pub passes : {k : K} {after : ℕ} → i < count → Ok (k, after) ≡ name_and_end name_of (read last at)
      → HasPassed read name_of count (i + 1) (Some k) after total
  passes {k = k} {after = after} lt e =
      let n : count - i ≡ suc (count - (i + 1)) = omega arith in
      let one : end_of (elements_at read name_of (count - i) last at) ≡ end_of (elements_at read name_of (count - (i + 1)) (Some k) after)
      = rw n (ends_of (read last at) name_of (λ k' at'. elements_at read name_of (count - (i + 1)) (Some k') at') k after e) in
      record { whole = sym one ∙ h.whole }

  pub stops : {fault : WireFault} → i < count → Err fault ≡ name_and_end name_of (read last at) → Err fault ≡ total
  stops {fault = fault} lt e =
      let n : count - i ≡ suc (count - (i + 1)) = omega arith in
      let one : Err fault ≡ end_of (elements_at read name_of (count - i) last at)
      = rw n (fails_of (read last at) name_of _ fault e) in
      one ∙ h.whole

  pub is_passed : count ≤ i → Ok at ≡ total
  is_passed le =
      let n : count - i ≡ 0 = omega arith in
      let one : end_of (elements_at read name_of (count - i) last at) ≡ Ok at = rw n refl in
      sym one ∙ h.whole

-- a fault that is told is told, want of memory or not
pub unless_memory : {X : Type 0} (fault : WireFault) (expected : Result X WireFault) → Err fault ≡ expected → GivesUnless is_wire_memory (Err fault) expected
unless_memory Memory expected e = tt
unless_memory (Truncated at) expected e = e
unless_memory (Trailing at) expected e = e
unless_memory Kind expected e = e
unless_memory (Range at) expected e = e
unless_memory (NotCanonical at) expected e = e
