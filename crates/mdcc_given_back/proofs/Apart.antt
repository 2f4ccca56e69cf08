-- The cells that a centre holds, with the floors apart from what is left of the other facts.
use Rattle.std.proofs.Common.{◌≡◌, ◌+◌, if◌then◌else◌, ℕ, true, false, List, [], ◌∷◌, refl, sym, ap, ◌∙◌, inl, inr, arith, zero-add}
use Rattle.std.specs.Prelude.{nat_lt}
use Rattle.std.proofs.lemmas.Bool.{cases_Bool}
use Rattle.mdcc_base.specs.Counts.{number_of, sum_over}
use Rattle.mdcc_def_messages.specs.declared.facts.Fact.{Fact}
use Rattle.mdcc_def_protocol.specs.Cells.{cells_left}
use Rattle.mdcc_def_protocol.specs.Facts.{floor_of}
use Rattle.mdcc_given_back.specs.Counted.{HeldApart, is_top, without_floors}
use Rattle.mdcc_given_back.specs.Rest.{AreRest, IsLeft, bare, is_dropped}
use Rattle.mdcc_given_back.proofs.Compacting.{held_by_rest, used-left}

module _ (all : List Fact) where
  -- ---- each fact that is left has its cells, a floor that none raised one

  top-cell : (centre epoch seq : ℕ) → cells_left all (Fact.Floor centre epoch seq) ≡ (if is_top all (Fact.Floor centre epoch seq) then 1 else 0)
  top-cell centre epoch seq =
      elim (cases_Bool (nat_lt seq (floor_of all centre epoch))) [
        | inl raised ↦ rw raised refl
        | inr top ↦ rw top refl
      ]

  other-step : (l s w n : ℕ) → s ≡ w + n → l + s ≡ (l + w) + (0 + n)
  other-step l s w n h = omega (arith, h)

  floor-step : (l t s w n : ℕ) → l ≡ t → s ≡ w + n → l + s ≡ w + (t + n)
  floor-step l t s w n k h = omega (arith, k, h)

  abbrev other_cells : List Fact → ℕ
  other_cells rest = sum_over (cells_left all) (without_floors rest)

  apart : (rest : List Fact) → sum_over (cells_left all) rest ≡ other_cells rest + number_of (is_top all) rest
  apart [] = refl
  apart (Fact.Floor centre epoch seq ∷ rest) =
      floor-step (cells_left all (Fact.Floor centre epoch seq)) (if is_top all (Fact.Floor centre epoch seq) then 1 else 0)
      (sum_over (cells_left all) rest) (other_cells rest) (number_of (is_top all) rest) (top-cell centre epoch seq) (apart rest)
  apart (Fact.Booted epoch ∷ rest) =
      other-step (cells_left all (Fact.Booted epoch)) (sum_over (cells_left all) rest) (other_cells rest) (number_of (is_top all) rest) (apart rest)
  apart (Fact.Promised key low high ballot ∷ rest) =
      other-step (cells_left all (Fact.Promised key low high ballot)) (sum_over (cells_left all) rest) (other_cells rest) (number_of (is_top all) rest) (apart rest)
  apart (Fact.Voted key version ballot options offered ∷ rest) =
      other-step (cells_left all (Fact.Voted key version ballot options offered)) (sum_over (cells_left all) rest) (other_cells rest)
      (number_of (is_top all) rest) (apart rest)
  apart (Fact.Heard tx outcome ∷ rest) =
      other-step (cells_left all (Fact.Heard tx outcome)) (sum_over (cells_left all) rest) (other_cells rest) (number_of (is_top all) rest) (apart rest)
  apart (Fact.Adopted key version item adds ∷ rest) =
      other-step (cells_left all (Fact.Adopted key version item adds)) (sum_over (cells_left all) rest) (other_cells rest) (number_of (is_top all) rest) (apart rest)

  -- ---- a floor that none raised is left

  not-top : (fact : Fact) → is_dropped all fact ≡ true → is_top all fact ≡ false
  not-top (Fact.Floor centre epoch seq) h = rw h refl
  not-top (Fact.Booted epoch) h = refl
  not-top (Fact.Promised key low high ballot) h = refl
  not-top (Fact.Voted key version ballot options offered) h = refl
  not-top (Fact.Heard tx outcome) h = refl
  not-top (Fact.Adopted key version item adds) h = refl

  bare-top : (fact : Fact) → is_top all (bare fact) ≡ is_top all fact
  bare-top (Fact.Floor centre epoch seq) = refl
  bare-top (Fact.Booted epoch) = refl
  bare-top (Fact.Promised key low high ballot) = refl
  bare-top (Fact.Voted key version ballot options offered) = refl
  bare-top (Fact.Heard tx outcome) = refl
  bare-top (Fact.Adopted key version item adds) = refl

  left-top : (fact left : Fact) → IsLeft all fact left → is_top all left ≡ is_top all fact
  left-top fact left (inl same) = ap (is_top all) same
  left-top fact left (inr bared) = ap (is_top all) bared.1 ∙ bare-top fact

  abbrev tops : List Fact → ℕ
  tops facts = number_of (is_top all) facts

  no-top : (fact : Fact) (n : ℕ) → is_dropped all fact ≡ true → n ≡ (if is_top all fact then 1 else 0) + n
  no-top fact n h = sym (zero-add n) ∙ ap (λ b. (if b then 1 else 0) + n) (sym (not-top fact h))

  tops-of-rest : (rest facts : List Fact) → AreRest all rest facts → tops rest ≡ tops facts
  tops-of-rest [] [] is = refl
  tops-of-rest (left ∷ rest) [] is = absurd is
  tops-of-rest [] (fact ∷ facts) is = tops-of-rest [] facts is.1 ∙ no-top fact (tops facts) is.0
  tops-of-rest (left ∷ rest) (fact ∷ facts) (inl is) = tops-of-rest (left ∷ rest) facts is.1 ∙ no-top fact (tops facts) is.0
  tops-of-rest (left ∷ rest) (fact ∷ facts) (inr is) =
      ap (λ b. (if b then 1 else 0) + tops rest) (left-top fact left is.0) ∙ ap (λ n. (if is_top all fact then 1 else 0) + n) (tops-of-rest rest facts is.1)

joined : (used others tops top_all held sum : ℕ) → used ≡ others → tops ≡ top_all → held ≡ sum → sum ≡ others + tops → used + top_all ≡ held
joined used others tops top_all held sum a b c d = omega (arith, a, b, c, d)

pub held_apart : HeldApart
held_apart rest facts h w is =
    joined _ _ _ _ _ _ (used-left facts (without_floors rest) w) (tops-of-rest facts rest facts is) (held_by_rest rest facts h is) (apart facts rest)
