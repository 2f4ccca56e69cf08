use Rattle.mdcc_manager.proofs.manager.Manager.act_on_cause.Goals as goal

pub returns-in-Classic-clause-left : goal.returns-in-Classic-clause-left
returns-in-Classic-clause-left c me epoch managing stands =
    rw (c.in-Classic.is, ← c.leader_of.ensures) (c.lead.ensures.left me epoch c.args.quorums.now managing stands)

pub returns-in-Limit-clause-act : goal.returns-in-Limit-clause-act
returns-in-Limit-clause-act c me epoch managing stands =
    rw (c.in-Limit.is, ← c.home.ensures) (c.lead-in-Limit.ensures.act me epoch c.args.quorums.now managing stands)

pub returns-in-Limit-clause-left : goal.returns-in-Limit-clause-left
returns-in-Limit-clause-left c me epoch managing stands =
    rw (c.in-Limit.is, ← c.home.ensures) (c.lead-in-Limit.ensures.left me epoch c.args.quorums.now managing stands)

pub returns-in-Full-clause-act : goal.returns-in-Full-clause-act
returns-in-Full-clause-act c me epoch managing stands =
    rw (c.in-Full.is, ← c.home-in-Full.ensures) (c.lead-in-Full.ensures.act me epoch c.args.quorums.now managing stands)

pub returns-in-Full-clause-left : goal.returns-in-Full-clause-left
returns-in-Full-clause-left c me epoch managing stands =
    rw (c.in-Full.is, ← c.home-in-Full.ensures) (c.lead-in-Full.ensures.left me epoch c.args.quorums.now managing stands)
