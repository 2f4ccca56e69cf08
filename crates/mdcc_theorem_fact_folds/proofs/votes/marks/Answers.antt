use Rattle.mdcc_theorem_fact_folds.proofs.Joined.{after-chain, place-chain}
use Rattle.mdcc_theorem_fact_folds.proofs.Present.{after-walks, place-steps}
use Rattle.mdcc_theorem_fact_folds.proofs.votes.marks.Goals as goal

pub returns-clause-after : goal.returns-clause-after
returns-clause-after c = after-chain

pub returns-clause-walks : goal.returns-clause-walks
returns-clause-walks c = after-walks

pub returns-clause-place : goal.returns-clause-place
returns-clause-place c = place-chain

pub returns-clause-steps : goal.returns-clause-steps
returns-clause-steps c = place-steps
