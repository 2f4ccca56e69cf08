-- Which clusters are meant.
use Rattle.std.specs.Prelude.{◌≤◌}
use Rattle.mdcc_base.specs.AreQuorums.{AreQuorums}
use Rattle.mdcc_option.specs.Bounds.{IsSchema}
use Rattle.mdcc_option.specs.declared.cluster.Cluster.{Cluster}

-- quorums that meet, one to four attributes with good bounds, at most 1,000 versions above the first in a classic range, and
-- 1 to 4,194,304 cells
pub record IsCluster (cluster : Cluster) : Type 0 where
  pub quorums : AreQuorums cluster.quorums
  pub schema : IsSchema cluster.schema
  pub range : cluster.gamma ≤ 1000
  pub some_cells : 1 ≤ cluster.cells
  pub cells : cluster.cells ≤ 4194304
