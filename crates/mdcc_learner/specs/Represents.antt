-- Which counted votes a learner stands for.
use Rattle.std.specs.Prelude.{◌≡◌, List, [], MatchOption}
use Rattle.mdcc_base.specs.AreQuorums.{AreQuorums}
use Rattle.mdcc_base.specs.Sizes.{Sizes}
use Rattle.mdcc_base.specs.declared.identifiers.TxId.{TxId}
use Rattle.mdcc_base.specs.declared.key.Key.{Key}
use Rattle.mdcc_learner.specs.Places.{votes_at}
use Rattle.mdcc_learner.specs.declared.learner.Learner.{Learner}
use Rattle.mdcc_def_protocol.specs.Learner.{votes_on}
use Rattle.mdcc_def_protocol.specs.declared.votes.Vote.{Vote}

-- in a cluster with these quorums the learner stands for these votes: it knows the quorums, unless no vote was counted,
-- and keeps the votes on each transaction and key in their order
pub record RepresentsVotes (learner : Learner) (quorums : Sizes) (votes : List Vote) : Type 0 where
  pub meet : AreQuorums quorums
  pub knows : MatchOption learner.quorums (votes ≡ []) (λ known. known ≡ quorums)
  pub keeps : (tx : TxId) (key : Key) → votes_at learner.votes tx key ≡ votes_on votes tx key
