use Rattle.mdcc_node.proofs.node.Node.accepted.Goals as goal

pub returns-in-Vote : goal.returns-in-Vote
returns-in-Vote g c = λ facts volatile store. rw c.in-Vote.is (c.vote_marks.ensures facts volatile store)
