use Rattle.mdcc_learner.proofs.Taken.{votes_on-without_tx, knows-without_tx}
use Rattle.mdcc_learner.proofs.learner.Learner.forget.Goals as goal

pub returns : goal.returns
returns c quorums votes stands = record {
  meet = stands.meet;
  knows = knows-without_tx c.args.self.now.quorums quorums votes c.args.tx stands.knows;
  keeps = λ tx key. rw (c.forget.ensures tx key, votes_on-without_tx votes c.args.tx tx key, stands.keeps tx key);
}
