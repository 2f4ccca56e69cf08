-- Bounds of attributes.
use Rattle.std.specs.Prelude.{ℕ, ℤ, ◌≤◌, Bool, ◌&&◌, IsTrue, int_le, nat_le, nat_abs, List, length, zip}
use Rattle.std.specs.List.{list_all}

-- the largest magnitude of a bound
abbrev pub largest_bound : ℕ
largest_bound = 1000000000000000

-- the lower is at most the upper, and neither passes 10^15 in magnitude
abbrev pub is_bound : ℤ × ℤ → Bool
is_bound b = int_le b.0 b.1 && (nat_le (nat_abs b.0) largest_bound && nat_le (nat_abs b.1) largest_bound)

-- bounds for 1 to 4 attributes
pub record IsSchema (bounds : List (ℤ × ℤ)) : Type 0 where
  pub some : 1 ≤ length bounds
  pub few : length bounds ≤ 4
  pub each : IsTrue (list_all is_bound bounds)

abbrev pub is_within : ℤ × ℤ → ℤ → Bool
is_within bounds value = int_le bounds.0 value && int_le value bounds.1

-- each value within its bounds
abbrev pub are_within : List (ℤ × ℤ) → List ℤ → Bool
are_within schema values = list_all (λ e. is_within e.0 e.1) (zip schema values)
