-- Chains of indices, each of which leads to a lower one.
use Rattle.std.specs.Prelude.{List, Option, None, IfSome, ◌<◌, ◌≤◌, ◌^◌, ℕ, get_or, length}

-- the newest index of each chain, the index before each one, and how many there may be
pub record Links : Type 0 where
  pub heads : List (Option ℕ)
  pub links : List (Option ℕ)
  pub room : ℕ

-- no index, or one below a bound
abbrev pub IsUnder : ℕ → Option ℕ → Type 0
IsUnder bound at = IfSome at (λ index. index < bound)

pub record AreLinks (heads links : List (Option ℕ)) (room capacity : ℕ) : Type 0 where
  pub within : length links ≤ room
  pub small : room < 2 ^ 32
  pub reserved : room ≤ capacity
  pub heads_used : (chain : ℕ) → IsUnder (length links) (get_or heads chain None)
  pub lower : (index : ℕ) → IsUnder index (get_or links index None)
