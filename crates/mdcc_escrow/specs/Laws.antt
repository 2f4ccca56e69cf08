-- What the two fits have to do with one another, and with the loads that stores answer.
use Rattle.std.specs.Prelude.{List, Option, fold, ◌≡◌, ◌≢◌, ℕ}
use Rattle.mdcc_base.specs.declared.identifiers.TxId.{TxId}
use Rattle.mdcc_option.specs.declared.cluster.Cluster.{Cluster}
use Rattle.mdcc_option.specs.declared.items.Item.{Item}
use Rattle.mdcc_option.specs.declared.items.Update.{Update}
use Rattle.mdcc_struct.specs.Maps.{TxMap}
use Rattle.mdcc_def_protocol.specs.Fit.{capped, exact_fit, fast_fit, load_of}
use Rattle.mdcc_def_protocol.specs.declared.fit.Fit.{Fit}
use Rattle.mdcc_def_protocol.specs.declared.fit.Load.{Load}
use Rattle.mdcc_escrow.specs.Sums.{IsBoundedLoad}
use Rattle.mdcc_escrow.specs.Weights.{no_load, with_live}

-- a leader knows no limit
abbrev pub ExactFitHasNoLimit : Type 0
ExactFitHasNoLimit =
    (cluster : Cluster) (base : Option Item) (load : Load) (update : Update) (number : ℕ)
    → exact_fit cluster base load update ≢ Fit.Limit number

-- what fits at the fast ballot fits exactly
abbrev pub FastFitsFitExactly : Type 0
FastFitsFitExactly =
    (cluster : Cluster) (base : Option Item) (load : Load) (update : Update)
    → fast_fit cluster base load update ≡ Fit.Fits → exact_fit cluster base load update ≡ Fit.Fits

-- what meets the limit fits exactly
abbrev pub LimitsFitExactly : Type 0
LimitsFitExactly =
    (cluster : Cluster) (base : Option Item) (load : Load) (update : Update) (number : ℕ)
    → fast_fit cluster base load update ≡ Fit.Limit number → exact_fit cluster base load update ≡ Fit.Fits

-- what does not fit exactly has the same answer at the fast ballot
abbrev pub MisfitsAreTheSame : Type 0
MisfitsAreTheSame =
    (cluster : Cluster) (base : Option Item) (load : Load) (update : Update)
    → exact_fit cluster base load update ≢ Fit.Fits → fast_fit cluster base load update ≡ exact_fit cluster base load update

-- what a store answers may be asked for a fit
abbrev pub CappedLoadsAreBounded : Type 0
CappedLoadsAreBounded = (live : TxMap Update) (seen : List TxId) → IsBoundedLoad (capped (load_of live seen))

-- the load that a store answers is summed up from that of nothing
abbrev pub LoadsAreSummed : Type 0
LoadsAreSummed = (live : TxMap Update) (seen : List TxId) → fold (with_live seen) no_load live ≡ capped (load_of live seen)
