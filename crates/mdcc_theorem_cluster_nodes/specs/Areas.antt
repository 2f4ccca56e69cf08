-- What stands on the disks of a centre.
use Rattle.std.specs.Prelude.{List, ℕ}

-- what stands in the two areas of its log
pub record Areas : Type 0 where
  pub first : List ℕ
  pub second : List ℕ
