-- Which state of the protocol a manager stands for.
use Rattle.std.specs.Prelude.{◌≡◌, IsTrue, ℕ, map}
use Rattle.mdcc_base.specs.Sizes.{Sizes}
use Rattle.mdcc_learner.specs.Represents.{RepresentsVotes}
use Rattle.mdcc_manager.specs.Numbered.{are_numbered}
use Rattle.mdcc_manager.specs.Opened.{kept_of}
use Rattle.mdcc_manager.specs.declared.manager.Manager.{Manager}
use Rattle.mdcc_def_protocol.specs.Volatile.{Managing, txs_opened}

-- at this centre, in its epoch and in a cluster with these quorums
pub record RepresentsManaging (manager : Manager) (me epoch : ℕ) (quorums : Sizes) (managing : Managing) : Type 0 where
  pub at : manager.centre ≡ me
  pub since : manager.epoch ≡ epoch
  pub last : manager.seq ≡ managing.seq
  pub numbered : IsTrue (are_numbered me epoch 0 managing.seq (txs_opened managing))
  pub names : manager.txs.items ≡ txs_opened managing
  pub keeps : manager.opened.items ≡ map kept_of managing.opened
  pub counts : RepresentsVotes manager.learner quorums managing.votes
