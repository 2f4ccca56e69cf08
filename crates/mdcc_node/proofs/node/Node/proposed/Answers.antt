use Rattle.mdcc_node.proofs.node.Node.proposed.Goals as goal

pub returns-in-Vote : goal.returns-in-Vote
returns-in-Vote g c = λ volatile. rw c.in-Vote.is (c.vote.ensures volatile)
