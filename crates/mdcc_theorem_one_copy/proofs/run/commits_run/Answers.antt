use Rattle.mdcc_theorem_bounds.proofs.Among.{Contains-In, In-Contains}
use Rattle.mdcc_theorem_one_copy.proofs.CommitsRun.{commits_run, commits_each, commits_only}
use Rattle.mdcc_theorem_one_copy.proofs.run.commits_run.Goals as goal

pub returns-clause-run : goal.returns-clause-run
returns-clause-run c = commits_run

pub returns-clause-each : goal.returns-clause-each
returns-clause-each c = λ cluster ledger h tx choices g. Contains-In _ choices (commits_each cluster ledger h tx choices g)

pub returns-clause-only : goal.returns-clause-only
returns-clause-only c = λ cluster ledger h choices g. commits_only cluster ledger h choices (In-Contains _ choices g)
