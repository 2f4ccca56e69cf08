-- Both areas of a centre.
use Rattle.std.proofs.Common.{◌≡◌, ℕ, zero, suc, ◌+◌, ◌≤◌, sym, subst, arith}
use Rattle.mdcc_log.specs.Frames.{other_of, place_of}

pub by_area : (P : ℕ → Type 0) → P 0 → P 1 → (area : ℕ) → area ≤ 1 → P area
by_area P first second zero range = first
by_area P first second (suc zero) range = second
by_area P first second (suc (suc n)) range = absurd (omega (arith, range))

pub first_place : (centre : ℕ) → place_of centre 0 ≡ centre
first_place centre = omega arith

pub second_place : (centre : ℕ) → place_of centre 1 ≡ centre + 16
second_place centre = omega arith

-- the places of the area in use and of the other are those of the centre, in one order or the other
pub by_places : (P : ℕ → ℕ → ℕ → Type 0) (centre : ℕ) → P 0 centre (centre + 16) → P 1 (centre + 16) centre → (area : ℕ) → area ≤ 1 → P area (place_of centre area) (place_of centre (other_of area))
by_places P centre first second area range =
    by_area (λ (n : ℕ). P n (place_of centre n) (place_of centre (other_of n)))
    (subst (λ (p : ℕ). P 0 p (place_of centre 1)) (sym (first_place centre)) (subst (P 0 centre) (sym (second_place centre)) first))
    (subst (λ (p : ℕ). P 1 p (place_of centre 0)) (sym (second_place centre)) (subst (P 1 (centre + 16)) (sym (first_place centre)) second))
    area range

-- and back
pub from_places : (P : ℕ → ℕ → ℕ → Type 0) (Q : Type 0) (centre : ℕ) → (P 0 centre (centre + 16) → Q) → (P 1 (centre + 16) centre → Q)
    → (area : ℕ) → area ≤ 1 → P area (place_of centre area) (place_of centre (other_of area)) → Q
from_places P Q centre first second area range has = by_places (λ n p q. P n p q → Q) centre first second area range has

-- what holds of both places in any order
pub of_both : (P : ℕ → ℕ → Type 0) (centre : ℕ) → P centre (centre + 16) → P (centre + 16) centre → (area : ℕ) → area ≤ 1 → P (place_of centre area) (place_of centre (other_of area))
of_both P centre first second area range = by_places (λ n p q. P p q) centre first second area range

-- the same of a centre by another name
pub at_both : (P : ℕ → Type 0) (centre named area : ℕ) → named ≡ centre → P centre → P (centre + 16) → area ≤ 1 → P (place_of named area) × P (place_of named (other_of area))
at_both P centre named area is first second range =
    subst (λ (n : ℕ). P (place_of n area) × P (place_of n (other_of area))) (sym is)
    (by_places (λ n p q. P p × P q) centre (first, second) (second, first) area range)

-- and of two places in any order
pub swapped_back : (P : ℕ → ℕ → Type 0) → ((p q : ℕ) → P p q → P q p) → (centre named area : ℕ) → named ≡ centre → area ≤ 1 → P (place_of named area) (place_of named (other_of area)) → P centre (centre + 16)
swapped_back P swap centre named area is range has =
    by_places (λ n p q. P p q → P centre (centre + 16)) centre (λ h. h) (λ h. swap (centre + 16) centre h) area range
    (subst (λ (n : ℕ). P (place_of n area) (place_of n (other_of area))) is has)

-- what holds of both places by their areas holds of them
pub from_both : (P : ℕ → Type 0) (centre named area : ℕ) → named ≡ centre → area ≤ 1 → P (place_of named area) → P (place_of named (other_of area)) → P centre × P (centre + 16)
from_both P centre named area is range first second =
    subst (λ (n : ℕ). P n × P (n + 16)) is
    (by_places (λ n p q. P p → P q → P named × P (named + 16)) named (λ one two. (one, two)) (λ two one. (one, two)) area range first second)
