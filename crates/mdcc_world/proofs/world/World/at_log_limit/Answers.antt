use Rattle.std.proofs.Common.{false, refl, true}
use Rattle.mdcc_world.proofs.Counted.{up-centre}
use Rattle.mdcc_world.proofs.Limits.{log-full, log-room}
use Rattle.mdcc_theorem_worlds.proofs.Stays.{some-centre}
use Rattle.mdcc_def_ledger.specs.Ledger.{facts_of}
use Rattle.mdcc_def_simulation.specs.State.{is_up_at}
use Rattle.mdcc_world.proofs.world.World.at_log_limit.Goals as goal

pub returns-then-is_full-clause-limit : goal.returns-then-is_full-clause-limit
returns-then-is_full-clause-limit c w measures =
    let a = c.args.centre in
    let both = some-centre w.cluster a (up-centre w a measures.up) in
    log-full w a c.args.fact.now true (c.if-is_full.ensures w.cluster.quorums.centres (is_up_at w) (facts_of w.ledger) measures.logs measures.up both.0 both.1) refl

pub returns-clause-limit : goal.returns-clause-limit
returns-clause-limit c w measures =
    let a = c.args.centre in
    let both = some-centre w.cluster a (up-centre w a measures.up) in
    log-room w a c.args.fact.now false (c.if-is_full.ensures w.cluster.quorums.centres (is_up_at w) (facts_of w.ledger) measures.logs measures.up both.0 both.1) refl
