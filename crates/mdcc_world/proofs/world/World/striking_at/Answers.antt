use Rattle.std.proofs.Common.{None, Some, ap, arith, get_or, refl, sym, ◌-◌, ◌∙◌, ◌<◌, ℕ}
use Rattle.mdcc_def_ledger.specs.Ledger.{facts_of}
use Rattle.mdcc_world_logs.specs.Tails.{tail_at}
use Rattle.mdcc_def_simulation.specs.Checkpoints.{striking}
use Rattle.mdcc_def_simulation.specs.State.{is_up_at}
use Rattle.mdcc_world.proofs.StoppedStep.{strikes-as, strikes-due, strikes-early, strikes-not}
use Rattle.mdcc_world.proofs.world.World.striking_at.Goals as goal

pub returns-in_default : goal.returns-in_default
returns-in_default c w input made run =
    let stops = c.args.self.now.stops in
    let armed = ap (λ (n : ℕ). get_or stops (n - 1) None) (sym (c.from.ensures ∙ c.number.ensures.value)) ∙ c.in_default.is in
    strikes-as c.args.self.now w c.args.centre input made run _ None refl (ap (striking (tail_at c.args.self.now.logs c.args.centre)) armed)

pub returns-then-stop-le4 : goal.returns-then-stop-le4
returns-then-stop-le4 c w input made run =
    let stops = c.args.self.now.stops in
    let armed = ap (λ (n : ℕ). get_or stops (n - 1) None) (sym (c.from.ensures ∙ c.number.ensures.value)) ∙ c.in-Some.is in
    let tail = tail_at c.args.self.now.logs c.args.centre in
    strikes-as c.args.self.now w c.args.centre input made run _ (Some c.in-Some.stop) refl (ap (striking tail) armed ∙ strikes-early tail c.in-Some.stop c.if-stop-le4.true)

pub returns-then-is_due_next : goal.returns-then-is_due_next
returns-then-is_due_next c w input made run =
    let stops = c.args.self.now.stops in
    let armed = ap (λ (n : ℕ). get_or stops (n - 1) None) (sym (c.from.ensures ∙ c.number.ensures.value)) ∙ c.in-Some.is in
    let tail = tail_at c.args.self.now.logs c.args.centre in
    strikes-as c.args.self.now w c.args.centre input made run _ (Some c.in-Some.stop) refl
    (ap (striking tail) armed ∙ strikes-due tail c.in-Some.stop (sym (c.if-is_due_next.ensures w.cluster.quorums.centres (is_up_at w) (facts_of w.ledger) run.before.logs run.before.up)))

pub returns : goal.returns
returns c w input made run =
    let stops = c.args.self.now.stops in
    let armed = ap (λ (n : ℕ). get_or stops (n - 1) None) (sym (c.from.ensures ∙ c.number.ensures.value)) ∙ c.in-Some.is in
    let tail = tail_at c.args.self.now.logs c.args.centre in
    let late : 4 < c.in-Some.stop.0 = omega (c.if-stop-le4.false, arith) in
    strikes-as c.args.self.now w c.args.centre input made run _ None refl
    (ap (striking tail) armed ∙ strikes-not tail c.in-Some.stop late (sym (c.if-is_due_next.ensures w.cluster.quorums.centres (is_up_at w) (facts_of w.ledger) run.before.logs run.before.up)))
