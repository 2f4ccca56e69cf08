use Rattle.mdcc_world.proofs.commits.report_fact.Goals as goal

pub returns-in_ok-add_fact-in-Some-clause-ledger : goal.returns-in_ok-add_fact-in-Some-clause-ledger
returns-in_ok-add_fact-in-Some-clause-ledger c quorums entries stands = rw c.in-Some.is (c.in_ok-add_fact-in-Some.ensures.ledger quorums entries stands)
