use Rattle.std.proofs.Common.{◌≡◌, ◌∙◌, refl, sym}
use Rattle.mdcc_def_protocol.specs.Manager.{decision}
use Rattle.mdcc_manager.proofs.Acts.{act-collided, act-decided, act-quiet, left-decided, undecided-none}
use Rattle.mdcc_manager.proofs.manager.Manager.act_on_vote.Goals as goal

pub returns-then-is_decided-clause-act : goal.returns-then-is_decided-clause-act
returns-then-is_decided-clause-act c me epoch managing stands =
    let quorums = c.args.quorums.now in
    let vote = c.args.vote.now in
    c.decide_act.ensures me epoch quorums managing stands
    ∙ sym (act-decided quorums managing vote (decision quorums managing vote.tx) (c.if-is_decided.ensures me epoch quorums managing stands))

pub returns-then-is_decided-clause-left : goal.returns-then-is_decided-clause-left
returns-then-is_decided-clause-left c me epoch managing stands =
    let quorums = c.args.quorums.now in
    let vote = c.args.vote.now in
    rw (left-decided quorums managing vote (decision quorums managing vote.tx) (c.if-is_decided.ensures me epoch quorums managing stands)) stands

pub returns-then-collided-clause-act : goal.returns-then-collided-clause-act
returns-then-collided-clause-act c me epoch managing stands =
    let quorums = c.args.quorums.now in
    let vote = c.args.vote.now in
    let none = undecided-none (decision quorums managing vote.tx) (c.if-is_decided.ensures me epoch quorums managing stands) in
    rw (act-collided quorums managing vote none (c.if-collided.ensures quorums managing.votes stands.counts), ← c.home.ensures)
    (c.lead.ensures.act me epoch quorums managing stands)

pub returns-then-collided-clause-left : goal.returns-then-collided-clause-left
returns-then-collided-clause-left c me epoch managing stands =
    let quorums = c.args.quorums.now in
    let vote = c.args.vote.now in
    let none = undecided-none (decision quorums managing vote.tx) (c.if-is_decided.ensures me epoch quorums managing stands) in
    rw (act-collided quorums managing vote none (c.if-collided.ensures quorums managing.votes stands.counts), ← c.home.ensures)
    (c.lead.ensures.left me epoch quorums managing stands)

pub returns-else-collided-clause-act : goal.returns-else-collided-clause-act
returns-else-collided-clause-act c me epoch managing stands =
    let quorums = c.args.quorums.now in
    let vote = c.args.vote.now in
    let none = undecided-none (decision quorums managing vote.tx) (c.if-is_decided.ensures me epoch quorums managing stands) in
    c.requires ∙ sym (act-quiet quorums managing vote (decision quorums managing vote.tx) none (c.if-collided.ensures quorums managing.votes stands.counts))
