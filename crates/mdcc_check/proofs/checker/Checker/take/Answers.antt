use Rattle.mdcc_check.proofs.checker.Checker.take.Goals as goal

pub returns-in-Read-clause-cause : goal.returns-in-Read-clause-cause
returns-in-Read-clause-cause c p r = rw c.in-Read.is (c.read.ensures p r)

pub returns-in-Commit-clause-cause : goal.returns-in-Commit-clause-cause
returns-in-Commit-clause-cause c p r = rw c.in-Commit.is (c.commit.ensures.cause p r)

pub returns-in-Commit-clause-after : goal.returns-in-Commit-clause-after
returns-in-Commit-clause-after c p r = rw c.in-Commit.is (c.commit.ensures.after p r)
