use Rattle.mdcc_def_protocol.specs.Learner.{with_counted_vote}
use Rattle.mdcc_learner.proofs.Taken.{votes_on-with_vote, knows-still}
use Rattle.mdcc_learner.proofs.learner.Learner.take.Goals as goal

pub returns-else-is_none-clause-ok : goal.returns-else-is_none-clause-ok
returns-else-is_none-clause-ok c votes stands =
    let quorums = c.args.quorums.now in
    let vote = c.args.vote.now in
    record {
      meet = stands.meet;
      knows = knows-still c.args.self.now.quorums quorums votes (with_counted_vote quorums votes vote) c.if-is_none.ensures stands.knows;
      keeps = λ tx key.
          rw (
            c.in_ok-keep_counted.ensures.ok tx key,
            votes_on-with_vote quorums votes vote tx key,
            stands.keeps tx key,
            stands.keeps vote.tx vote.key,
          );
    }
