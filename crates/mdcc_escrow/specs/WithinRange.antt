-- How large the numbers of a quantity are.
use Rattle.std.specs.Prelude.{neg_ℤ, pos, ◌^◌, ◌≤ℤ◌}
use Rattle.mdcc_def_protocol.specs.Fit.{Quantity}

-- the sum is from 0 to 2^96, the amount from 0 to 2^63, and the room at most 2^64 in magnitude
pub record IsWithinRange (q : Quantity) : Type 0 where
  pub sum_low : pos 0 ≤ℤ q.sum
  pub sum_high : q.sum ≤ℤ pos (2 ^ 96)
  pub amount_low : pos 0 ≤ℤ q.amount
  pub amount_high : q.amount ≤ℤ pos (2 ^ 63)
  pub room_low : neg_ℤ (pos (2 ^ 64)) ≤ℤ q.room
  pub room_high : q.room ≤ℤ pos (2 ^ 64)
