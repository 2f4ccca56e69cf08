use Rattle.mdcc_world_decisions.proofs.ByLedger.{decided_cast-ledger}
use Rattle.mdcc_world_decisions.proofs.decisions.Decisions.decided_of.Goals as goal

pub returns : goal.returns
returns c quorums entries stands =
    rw (c.decided_cast.ensures, c.casts_at.ensures, c.instances_at.ensures, stands.knows, stands.casts, stands.begun)
    (decided_cast-ledger quorums entries c.args.tx.now c.args.self.now.ballots stands.ballots)
