-- Which state of the protocol a leader stands for.
use Rattle.std.specs.Prelude.{◌≡◌, ℕ}
use Rattle.indexmap.specs.IndexMap.{get}
use Rattle.mdcc_base.specs.Key.{key_eq}
use Rattle.mdcc_base.specs.Sizes.{Sizes}
use Rattle.mdcc_base.specs.declared.key.Key.{Key}
use Rattle.mdcc_leader.specs.Leads.{KeepsLead}
use Rattle.mdcc_leader.specs.declared.leader.Leader.{Leader}
use Rattle.mdcc_def_protocol.specs.Volatile.{Leading}

-- at this centre, in its epoch and in a cluster with these quorums: for each key it keeps what that state has
pub record RepresentsLeading (leader : Leader) (me epoch : ℕ) (quorums : Sizes) (leading : Leading) : Type 0 where
  pub at : leader.centre ≡ me
  pub since : leader.epoch ≡ epoch
  pub keeps : (key : Key) → KeepsLead quorums leading key (get key_eq leader.leads key)
