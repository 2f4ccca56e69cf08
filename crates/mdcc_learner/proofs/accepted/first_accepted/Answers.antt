use Rattle.std.proofs.Common.{◌≡◌, ◌∙◌, Some, sym, ap}
use Rattle.std.specs.Option.{option_copied}
use Rattle.mdcc_def_protocol.specs.Recover.{choice_accepted}
use Rattle.mdcc_learner.proofs.Lists.{first-here}
use Rattle.mdcc_learner.proofs.accepted.first_accepted.Goals as goal

pub returns-in-Some : goal.returns-in-Some
returns-in-Some c =
    let accepts : choice_accepted c.args.version c.vote-item.result ≡ Some c.in-Some.choice.now = sym c.choice_accepted.ensures ∙ ap option_copied c.in-Some.is in
    let first = first-here (choice_accepted c.args.version) c.args.votes.now c.loop-vote.vote-index c.vote-item.result c.in-Some.choice.now c.loop-vote-test.true c.vote-item.is accepts in
    rw c.copy.ensures (sym first ∙ c.loop-vote.invariant)
