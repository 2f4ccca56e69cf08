use Rattle.mdcc_manager.proofs.manager.Manager.lead.Goals as goal

pub returns-clause-left : goal.returns-clause-left
returns-clause-left c me epoch quorums managing stands =
    rw (← c.in_ok-choice.ensures me epoch quorums managing stands) (c.mark_led.ensures me epoch quorums managing stands)
