-- The greatest number that facts give is that of the facts that are left, where a fact that is dropped does not give it.
use Rattle.std.proofs.Common.{◌≡◌, ◌==◌, ◌||◌, ◌<◌, ◌≤◌, ℕ, Bool, true, false, List, [], ◌∷◌, refl, ap, ◌∙◌, inl, inr, arith, max}
use Rattle.std.specs.List.{AllByRecursion}
use Rattle.std.proofs.lemmas.Bool.{cases_Bool, eqb-true, cases_lt}
use Rattle.std.proofs.lemmas.Bool.Decides.{nat_tests}
use Rattle.std.specs.Prelude.{nat_lt}
use Rattle.mdcc_def_messages.specs.declared.facts.Fact.{Fact}
use Rattle.mdcc_theorem_fact_folds.proofs.Folded.{gathered}
use Rattle.mdcc_given_back.specs.Rest.{AreRest, IsLeft, IsRest, bare, is_dropped}
use Rattle.mdcc_given_back.proofs.Alike.{later_or, rest-says}

abbrev pub greatest : (Fact → ℕ) → List Fact → ℕ
greatest of facts = gathered max 0 of facts

-- whether a fact gives this number
abbrev gives : (Fact → ℕ) → ℕ → List Fact → Bool
gives of top facts = gathered later_or false (λ fact. of fact == top) facts

or-here : (a b : Bool) → b ≡ true → (a || b) ≡ true
or-here true b h = refl
or-here false b h = h

max-is : (a n top : ℕ) → max a n ≡ top → (a == top) ≡ false → (n == top) ≡ true
max-is a n top h k = grind (arith, nat_tests, h, k)

le-left : (a n top : ℕ) → top ≤ a → top ≤ max a n
le-left a n top h = omega (arith, h)

le-here : (a n top : ℕ) → n ≡ top → top ≤ max a n
le-here a n top h = omega (arith, h)

le-both : (a b n : ℕ) → a ≤ b → max a n ≤ max b n
le-both a b n h = omega (arith, h)

le-more : (a b n : ℕ) → a ≤ b → a ≤ max b n
le-more a b n h = omega (arith, h)

le-same : (a b top : ℕ) → a ≤ b → b ≡ top → top ≤ a → a ≡ top
le-same a b top h is k = omega (arith, h, is, k)

none-is : (a b top : ℕ) → a ≤ b → b ≡ top → top ≤ 0 → a ≡ top
none-is a b top h is k = omega (arith, h, is, k)

given : (of : Fact → ℕ) (top : ℕ) (facts : List Fact) → 0 < top → greatest of facts ≡ top → gives of top facts ≡ true
given of top [] up h = absurd (omega (arith, up, h))
given of top (fact ∷ facts) up h =
    elim (cases_Bool (greatest of facts == top)) [
      | inl before ↦ or-here (of fact == top) (gives of top facts) (given of top facts up (eqb-true (greatest of facts) top before))
      | inr new ↦ rw (max-is (greatest of facts) (of fact) top h new) refl
    ]

reached : (of : Fact → ℕ) (top : ℕ) (facts : List Fact) → gives of top facts ≡ true → top ≤ greatest of facts
reached of top [] h = absurd (cc)
reached of top (fact ∷ facts) h =
    elim (cases_Bool (of fact == top)) [
      | inl here ↦ le-here (greatest of facts) (of fact) top (eqb-true (of fact) top here)
      | inr other ↦ le-left (greatest of facts) (of fact) top (reached of top facts (rw other at h))
    ]

module _ (of : Fact → ℕ) (all : List Fact) (top : ℕ) (is-top : greatest of all ≡ top) (P : Fact → Type 0)
    (dropped : (fact : Fact) → P fact → is_dropped all fact ≡ true → 0 < top → (of fact == top) ≡ false)
    (bared : (fact : Fact) → of (bare fact) ≡ of fact) where
  left-gives : (fact left : Fact) → IsLeft all fact left → of left ≡ of fact
  left-gives fact left (inl same) = ap of same
  left-gives fact left (inr is) = ap of is.1 ∙ bared fact

  within : (rest facts : List Fact) → AreRest all rest facts → greatest of rest ≤ greatest of facts
  within [] [] is = omega arith
  within (left ∷ rest) [] is = absurd is
  within [] (fact ∷ facts) is = le-more 0 (greatest of facts) (of fact) (within [] facts is.1)
  within (left ∷ rest) (fact ∷ facts) (inl is) = le-more (greatest of (left ∷ rest)) (greatest of facts) (of fact) (within (left ∷ rest) facts is.1)
  within (left ∷ rest) (fact ∷ facts) (inr is) =
      let same : of left ≡ of fact = left-gives fact left is.0 in
      rw same (le-both (greatest of rest) (greatest of facts) (of fact) (within rest facts is.1))

  given-rest : (rest : List Fact) → AllByRecursion P all → IsRest rest all → 0 < top → gives of top rest ≡ true
  given-rest rest ps is up =
      rest-says later_or false (λ b. refl) (λ fact. of fact == top) all P
      (λ fact p d. dropped fact p d up) (λ fact p d. ap (λ n. n == top) (bared fact)) rest all ps is
      ∙ given of top all up is-top

  pub greatest-alike : (rest : List Fact) → AllByRecursion P all → IsRest rest all → greatest of rest ≡ top
  greatest-alike rest ps is =
      elim (cases_lt 0 top) [
        | inl up ↦ le-same (greatest of rest) (greatest of all) top (within rest all is) is-top (reached of top rest (given-rest rest ps is up))
        | inr none ↦ none-is (greatest of rest) (greatest of all) top (within rest all is) is-top none
      ]

-- ---- numbers that are not the top

pub zero-apart : (top : ℕ) → 0 < top → (0 == top) ≡ false
zero-apart top up = grind (arith, nat_tests, up)

pub lower-apart : (n top : ℕ) → nat_lt n top ≡ true → (n == top) ≡ false
lower-apart n top low = grind (arith, nat_tests, low)
