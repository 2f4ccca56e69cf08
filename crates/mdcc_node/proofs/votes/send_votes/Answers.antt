use Rattle.std.proofs.Common.{◌++◌}
use Rattle.mdcc_node.proofs.Ending.{next-votes}
use Rattle.mdcc_def_rules.specs.AcceptorRules.{all_votes_sent}
use Rattle.mdcc_node.proofs.votes.send_votes.Goals as goal

pub loop-place-preserved : goal.loop-place-preserved
loop-place-preserved g c = λ facts store.
    rw (c.in_ok-send_unsettled.ensures facts store)
    (next-votes c.args.from facts c.args.key.now c.args.version c.args.ballot c.args.marks.now c.loop-place.place (c.at-tx.result.0, c.at-tx.result.1.now) c.loop-place.sends
    (c.args.sends.now ++ all_votes_sent c.args.from facts c.args.key.now c.args.version c.args.ballot c.args.marks.now) c.at-tx.ensures (c.loop-place.invariant facts store))
