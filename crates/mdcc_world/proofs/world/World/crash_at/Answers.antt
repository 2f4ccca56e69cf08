use Rattle.std.proofs.Common.{◌+◌, ◌-◌, ◌∙◌, Bool, List, Option, ap, arith, false, subst, ℕ}
use Rattle.std.specs.Prelude.{set}
use Rattle.mdcc_base.specs.declared.outside.Image.{Image}
use Rattle.mdcc_world_logs.specs.Represents.{LogsRepresent}
use Rattle.mdcc_world_logs.specs.Tails.{HasTail, tail_at}
use Rattle.mdcc_world.specs.declared.world.World.{World as TheWorld}
use Rattle.mdcc_def_ledger.specs.Ledger.{facts_of}
use Rattle.mdcc_def_simulation.specs.State.{is_up_at}
use Rattle.mdcc_world.proofs.Counted.{up-centre}
use Rattle.mdcc_world.proofs.Crashed.{has-crashed}
use Rattle.mdcc_world.proofs.Limits.{log-there}
use Rattle.mdcc_world.proofs.world.World.crash_at.Goals as goal

pub crash-requires : goal.crash-requires
crash-requires c =
    let w = c.requires.like.0 in
    let like = c.requires.like.1 in
    rw c.fall.ensures.rest (log-there c.args.self.now w c.args.centre (up-centre w c.args.centre (c.requires.up w like)) like.logs)

pub returns-clause-happened : goal.returns-clause-happened
returns-clause-happened c w like =
    let world = c.args.self.now in
    let a = c.args.centre in
    let up = c.requires.up w like in
    let logs = c.crash.new.self in
    let rest = ap (λ (x : TheWorld). record x { logs = logs }) c.fall.ensures.rest
    ∙ ap (λ (ups : List Bool). record world { up = ups; stops = c.fall.new.self.stops; logs = logs; events = world.events + 1 }) c.fall.ensures.up
    ∙ ap (λ (stops : List (Option (ℕ × Image))). record world { up = set world.up (a - 1) false; stops = stops; logs = logs; events = world.events + 1 }) c.fall.ensures.stops in
    let before : LogsRepresent c.fall.new.self.logs w.cluster.quorums.centres (is_up_at w) (facts_of w.ledger) = rw c.fall.ensures.rest like.logs in
    has-crashed world _ w a c.args.lines.now c.push.new.self like up (omega arith) (omega arith) rest (omega arith)
    (c.crash.ensures.kept w.cluster.quorums.centres (is_up_at w) (facts_of w.ledger) before up)
    (subst (λ (x : TheWorld). HasTail x.logs logs a (tail_at x.logs a)) c.fall.ensures.rest (c.crash.ensures.tail w.cluster.quorums.centres (is_up_at w) (facts_of w.ledger) before up)) c.in_ok-push.ensures.ok
