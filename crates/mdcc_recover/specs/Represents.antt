-- Which state of the protocol a recovery stands for.
use Rattle.mdcc_base.specs.Sizes.{Sizes}
use Rattle.mdcc_def_protocol.specs.Volatile.{Recovering}
use Rattle.mdcc_learner.specs.Represents.{RepresentsVotes}
use Rattle.mdcc_recover.specs.Counters.{AreCounters}
use Rattle.mdcc_recover.specs.declared.recover.Recover.{Recover}

-- in a cluster with these quorums: each transaction has the counter that it has in that state, and the same votes were counted
pub record RepresentsRecovering (recover : Recover) (quorums : Sizes) (recovering : Recovering) : Type 0 where
  pub ticks : AreCounters recover.counters recovering.counters
  pub counts : RepresentsVotes recover.learner quorums recovering.votes
