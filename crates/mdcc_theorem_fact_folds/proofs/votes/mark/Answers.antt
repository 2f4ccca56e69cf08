use Rattle.mdcc_theorem_fact_folds.proofs.Joined.{mark-walk, voted-walk}
use Rattle.mdcc_theorem_fact_folds.proofs.votes.mark.Goals as goal

pub returns-clause-walk : goal.returns-clause-walk
returns-clause-walk c = mark-walk

pub returns-clause-voted : goal.returns-clause-voted
returns-clause-voted c = voted-walk
