-- No answer of a fit depends on where the counts and sums of a load stop.
use Rattle.std.specs.Prelude.{All, None, Option, Some, neg_ℤ, pos, ℤ, ◌^◌, ◌≡◌, ◌≤ℤ◌}
use Rattle.mdcc_base.specs.AreQuorums.{AreQuorums}
use Rattle.mdcc_option.specs.Bounds.{IsSchema}
use Rattle.mdcc_option.specs.declared.cluster.Cluster.{Cluster}
use Rattle.mdcc_option.specs.declared.items.Item.{Item}
use Rattle.mdcc_option.specs.declared.items.Update.{Update}
use Rattle.mdcc_def_protocol.specs.Fit.{capped, exact_fit, fast_fit}
use Rattle.mdcc_def_protocol.specs.declared.fit.Load.{Load}

-- a number of 64 bits with its sign
pub record IsShort (value : ℤ) : Type 0 where
  pub low : neg_ℤ (pos (2 ^ 63)) ≤ℤ value
  pub high : value ≤ℤ pos (2 ^ 63)

-- the values of an item, where there is one
abbrev pub HasShortValues : Option Item → Type 0
HasShortValues None = Unit {0}
HasShortValues (Some item) = All IsShort item.values

-- what declared types say of a cluster and of a base
pub record AreDeclared (cluster : Cluster) (base : Option Item) : Type 0 where
  pub quorums : AreQuorums cluster.quorums
  pub schema : IsSchema cluster.schema
  pub values : HasShortValues base

-- a leader's fit over a capped load is that over the load
abbrev pub ExactFitsOfCappedLoads : Type 0
ExactFitsOfCappedLoads =
    (cluster : Cluster) (base : Option Item) (load : Load) (update : Update)
    → AreDeclared cluster base → exact_fit cluster base (capped load) update ≡ exact_fit cluster base load update

-- and so is an acceptor's
abbrev pub FastFitsOfCappedLoads : Type 0
FastFitsOfCappedLoads =
    (cluster : Cluster) (base : Option Item) (load : Load) (update : Update)
    → AreDeclared cluster base → fast_fit cluster base (capped load) update ≡ fast_fit cluster base load update
