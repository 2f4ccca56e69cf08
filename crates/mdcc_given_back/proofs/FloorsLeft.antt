-- The floors of all facts are those of the facts that are left, so the same transactions are finished.
use Rattle.std.proofs.Common.{◌≡◌, ◌==◌, ◌&&◌, ◌||◌, ◌<◌, ℕ, Bool, true, false, List, [], ◌∷◌, refl, sym, ap, ◌∙◌, inl, inr, arith, max}
use Rattle.std.proofs.lemmas.Bool.{and_parts, eqb-true, ltb-true, cases_Bool}
use Rattle.std.specs.Prelude.{nat_le, nat_lt}
use Rattle.mdcc_def_messages.specs.declared.facts.Fact.{Fact}
use Rattle.mdcc_def_protocol.specs.Facts.{floor_of, floor_set, has_floor, is_floor}
use Rattle.mdcc_given_back.specs.Finished.{FinishedStays, FloorStays, HasFloorStays}
use Rattle.mdcc_given_back.specs.Rest.{AreRest, IsLeft, IsRest, bare, is_bared, is_dropped}
use Rattle.mdcc_given_back.proofs.Alike.{AnyFact, any-alike, each}
use Rattle.mdcc_given_back.proofs.Highest.{greatest, greatest-alike, lower-apart, zero-apart}

floors : (facts : List Fact) (centre epoch : ℕ) → floor_of facts centre epoch ≡ greatest (floor_set centre epoch) facts
floors [] centre epoch = refl
floors (fact ∷ facts) centre epoch = ap (λ n. max n (floor_set centre epoch fact)) (floors facts centre epoch)

module _ (all : List Fact) (centre epoch : ℕ) where
  lower : (fact : Fact) → AnyFact fact → is_dropped all fact ≡ true → 0 < floor_of all centre epoch → (floor_set centre epoch fact == floor_of all centre epoch) ≡ false
  lower (Fact.Booted k) p h up = zero-apart (floor_of all centre epoch) up
  lower (Fact.Promised k low high b) p h up = zero-apart (floor_of all centre epoch) up
  lower (Fact.Voted k v b options offered) p h up = zero-apart (floor_of all centre epoch) up
  lower (Fact.Heard tx outcome) p h up = zero-apart (floor_of all centre epoch) up
  lower (Fact.Adopted k v item adds) p h up = zero-apart (floor_of all centre epoch) up
  lower (Fact.Floor c e n) p h up = by (c == centre && e == epoch) refl
    where
      by : (test : Bool) → (c == centre && e == epoch) ≡ test → (floor_set centre epoch (Fact.Floor c e n) == floor_of all centre epoch) ≡ false
      by false is = rw is (zero-apart (floor_of all centre epoch) up)
      by true is =
          let parts = and_parts (c == centre) (e == epoch) is in
          let same : floor_of all c e ≡ floor_of all centre epoch =
          ap (λ k. floor_of all k e) (eqb-true c centre parts.0) ∙ ap (λ k. floor_of all centre k) (eqb-true e epoch parts.1) in
          let low : nat_lt n (floor_of all centre epoch) ≡ true = ap (λ k. nat_lt n k) (sym same) ∙ h in
          rw is (lower-apart n (floor_of all centre epoch) low)

  same-floor : (fact : Fact) → floor_set centre epoch (bare fact) ≡ floor_set centre epoch fact
  same-floor (Fact.Floor c e n) = refl
  same-floor (Fact.Booted k) = refl
  same-floor (Fact.Promised k low high b) = refl
  same-floor (Fact.Voted k v b options offered) = refl
  same-floor (Fact.Heard tx outcome) = refl
  same-floor (Fact.Adopted k v item adds) = refl

pub floor-stays : FloorStays
floor-stays rest facts centre epoch is =
    floors rest centre epoch
    ∙ greatest-alike (floor_set centre epoch) facts (floor_of facts centre epoch) (sym (floors facts centre epoch)) AnyFact
    (lower facts centre epoch) (same-floor facts centre epoch) rest (each AnyFact (λ fact. tt) facts) is

pub finished-stays : FinishedStays
finished-stays rest facts tx is = ap (λ n. nat_lt 0 tx.seq && nat_le tx.seq n) (floor-stays rest facts tx.centre tx.epoch is)

-- ---- whether there is a floor

or-later : (a b : Bool) → b ≡ true → (a || b) ≡ true
or-later true b h = refl
or-later false b h = h

left-floor : (all : List Fact) (fact left : Fact) → IsLeft all fact left → is_floor left ≡ is_floor fact
left-floor all fact left (inl same) = ap is_floor same
left-floor all fact left (inr is) = ap is_floor is.1 ∙ by fact
  where
    by : (fact : Fact) → is_floor (bare fact) ≡ is_floor fact
    by (Fact.Floor c e n) = refl
    by (Fact.Booted k) = refl
    by (Fact.Promised k low high b) = refl
    by (Fact.Voted k v b options offered) = refl
    by (Fact.Heard tx outcome) = refl
    by (Fact.Adopted k v item adds) = refl

floor-before : (all rest facts : List Fact) → AreRest all rest facts → has_floor rest ≡ true → has_floor facts ≡ true
floor-before all [] [] is h = h
floor-before all (left ∷ rest) [] is h = absurd is
floor-before all [] (fact ∷ facts) is h = absurd (cc)
floor-before all (left ∷ rest) (fact ∷ facts) (inl is) h = or-later (is_floor fact) (has_floor facts) (floor-before all (left ∷ rest) facts is.1 h)
floor-before all (left ∷ rest) (fact ∷ facts) (inr is) h =
    elim (cases_Bool (is_floor fact)) [
      | inl floor ↦ rw floor refl
      | inr other ↦
          let none : is_floor left ≡ false = left-floor all fact left is.0 ∙ other in
          rw other (floor-before all rest facts is.1 (rw none at h))
    ]

no-floors : (facts : List Fact) (centre epoch : ℕ) → has_floor facts ≡ false → floor_of facts centre epoch ≡ 0
no-floors [] centre epoch h = refl
no-floors (Fact.Floor c e n ∷ facts) centre epoch h = absurd (cc)
no-floors (Fact.Booted n ∷ facts) centre epoch h = rw (no-floors facts centre epoch h) refl
no-floors (Fact.Promised k l g b ∷ facts) centre epoch h = rw (no-floors facts centre epoch h) refl
no-floors (Fact.Voted k v b os off ∷ facts) centre epoch h = rw (no-floors facts centre epoch h) refl
no-floors (Fact.Heard tx outcome ∷ facts) centre epoch h = rw (no-floors facts centre epoch h) refl
no-floors (Fact.Adopted k v item adds ∷ facts) centre epoch h = rw (no-floors facts centre epoch h) refl

below-none : (n k : ℕ) → k ≡ 0 → nat_lt n k ≡ true → ⊥
below-none n k none h = omega (arith, ltb-true n k h, none)

-- a floor that is dropped is below one that is left
no-floor : (rest facts : List Fact) → IsRest rest facts → has_floor rest ≡ false → (fact : Fact) → AnyFact fact → is_dropped facts fact ≡ true → is_floor fact ≡ false
no-floor rest facts is none (Fact.Floor c e n) p h =
    absurd (below-none n (floor_of facts c e) (sym (floor-stays rest facts c e is) ∙ no-floors rest c e none) h)
no-floor rest facts is none (Fact.Booted k) p h = refl
no-floor rest facts is none (Fact.Promised k low high b) p h = refl
no-floor rest facts is none (Fact.Voted k v b options offered) p h = refl
no-floor rest facts is none (Fact.Heard tx outcome) p h = refl
no-floor rest facts is none (Fact.Adopted k v item adds) p h = refl

bare-floor : (facts : List Fact) (fact : Fact) → AnyFact fact → is_bared facts fact ≡ true → is_floor (bare fact) ≡ is_floor fact
bare-floor facts fact p h = left-floor facts fact (bare fact) (inr (h, refl))

pub has_floor-stays : HasFloorStays
has_floor-stays rest facts is =
    elim (cases_Bool (has_floor rest)) [
      | inl some ↦ some ∙ sym (floor-before facts rest facts is some)
      | inr none ↦ any-alike is_floor facts AnyFact (no-floor rest facts is none) (bare-floor facts) rest facts (each AnyFact (λ fact. tt) facts) is
    ]
