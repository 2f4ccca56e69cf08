use Rattle.mdcc_node.proofs.node.Node.add_planned.Goals as goal

pub returns-in_ok-add-clause-ok : goal.returns-in_ok-add-clause-ok
returns-in_ok-add-clause-ok g c = λ cluster me facts volatile known. rw c.in-Some.is (c.in_ok-add.ensures.ok cluster me facts volatile known)
