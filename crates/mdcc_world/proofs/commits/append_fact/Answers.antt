use Rattle.mdcc_world.proofs.commits.append_fact.Goals as goal

pub returns-in-Some-clause-tail : goal.returns-in-Some-clause-tail
returns-in-Some-clause-tail c centres up facts stand running = rw c.in-Some.is (c.append.ensures.tail centres up facts stand running)
