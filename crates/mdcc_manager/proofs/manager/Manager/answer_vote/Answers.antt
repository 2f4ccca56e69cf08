use Rattle.mdcc_def_protocol.specs.Manager.{vote_taken}
use Rattle.mdcc_manager.proofs.manager.Manager.answer_vote.Goals as goal

pub returns-clause-act : goal.returns-clause-act
returns-clause-act c me epoch managing stands =
    let quorums = c.args.cluster.now.quorums in
    c.act_on_vote.ensures.act me epoch (vote_taken quorums managing c.args.vote.now) (c.in_ok-take.ensures.ok me epoch managing stands)

pub returns-clause-ok : goal.returns-clause-ok
returns-clause-ok c me epoch managing stands =
    let quorums = c.args.cluster.now.quorums in
    c.act_on_vote.ensures.left me epoch (vote_taken quorums managing c.args.vote.now) (c.in_ok-take.ensures.ok me epoch managing stands)
