-- Which loads a fit takes.
use Rattle.std.specs.Prelude.{All, List, pos, ℤ, ◌^◌, ◌≤ℤ◌}
use Rattle.mdcc_def_protocol.specs.declared.fit.Load.{Load}

-- from 0 to 2^96
pub record IsBoundedSum (sum : ℤ) : Type 0 where
  pub low : pos 0 ≤ℤ sum
  pub high : sum ≤ℤ pos (2 ^ 96)

abbrev pub AreBoundedSums : List ℤ → Type 0
AreBoundedSums sums = All IsBoundedSum sums

-- so are the sums of the decreases and those of the increases
pub record IsBoundedLoad (load : Load) : Type 0 where
  pub down : AreBoundedSums load.down
  pub up : AreBoundedSums load.up
