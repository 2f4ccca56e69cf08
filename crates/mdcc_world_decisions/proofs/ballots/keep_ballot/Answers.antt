use Rattle.mdcc_world_decisions.proofs.Kept.{ballots-put}
use Rattle.mdcc_world_decisions.proofs.ballots.keep_ballot.Goals as goal

pub returns-in_ok-insert-in-None : goal.returns-in_ok-insert-in-None
returns-in_ok-insert-in-None c other at =
    ballots-put c.args.keys.now c.get_mut.follows.lender-at-none c.insert.new.self c.args.key.now other c.args.version at c.args.ballot.now
    c.in_ok-versions-in-None.versions c.get_mut.follows.holds-at-none c.in-None.ensures.value (c.in_ok-versions-in-None.ensures at)
    (c.in_ok-insert-in-None.ensures.updates.0 other)
