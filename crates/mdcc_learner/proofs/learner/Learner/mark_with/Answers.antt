use Rattle.mdcc_learner.proofs.Taken.{votes_on-with_vote}
use Rattle.mdcc_learner.proofs.learner.Learner.mark_with.Goals as goal

pub returns : goal.returns
returns c votes stands =
    rw (
      c.mark_decided.ensures,
      c.votes_at.ensures,
      c.counted_on.ensures,
      stands.keeps c.args.tx.now c.args.key.now,
      stands.keeps c.args.vote.now.tx c.args.vote.now.key,
      votes_on-with_vote c.args.quorums.now votes c.args.vote.now c.args.tx.now c.args.key.now,
    )
