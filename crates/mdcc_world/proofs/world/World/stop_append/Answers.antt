use Rattle.std.proofs.Common.{List, OnOk, Result, Ok, Err, false, subst, ℕ}
use Rattle.mdcc_base.specs.declared.faults.Memory.{Memory}
use Rattle.mdcc_world_logs.specs.Represents.{LogsRepresent, with_up}
use Rattle.mdcc_world_logs.specs.Tails.{HasTail, tail_at}
use Rattle.mdcc_def_messages.specs.declared.facts.Fact.{Fact}
use Rattle.mdcc_world.proofs.StoppedStep.{kept-facts, kept-tail}
use Rattle.mdcc_world.proofs.world.World.stop_append.Goals as goal
use Rattle.mdcc_world_logs.specs.Stopping.{stopped_facts}
use Rattle.mdcc_def_simulation.specs.Checkpoints.{tail_stopped}
use Rattle.mdcc_world.specs.declared.world.World.{World as TheWorld}

always : (r : Result (Unit {0}) Memory) (P : Type 0) → P → OnOk r P
always (Ok x) P p = p
always (Err fault) P p = tt

pub stop_append-requires-clause-due : goal.stop_append-requires-clause-due
stop_append-requires-clause-due c late = rw c.fall.ensures.rest (c.requires.due (c.in_append.ensures.late late))

pub returns-clause-tail : goal.returns-clause-tail
returns-clause-tail c centres up facts stands is_up =
    let a = c.args.centre in
    let call = c.in_append.result in
    let image = c.args.image in
    let was = c.args.self.now.logs in
    let before : LogsRepresent c.fall.new.self.logs centres up facts = rw c.fall.ensures.rest stands in
    let tail : HasTail was c.stop_append.new.self a (tail_stopped (tail_at was a) call image) =
    subst (λ (x : TheWorld). HasTail x.logs c.stop_append.new.self a (tail_stopped (tail_at x.logs a) call image)) c.fall.ensures.rest
    (c.in_ok-stop_append.ensures.tail centres up facts before is_up) in
    always c.count_kept.result (HasTail was c.stop_append.new.self a (tail_stopped (tail_at was a) c.args.call image))
    (subst (λ (n : ℕ). HasTail was c.stop_append.new.self a n)
    (kept-tail (tail_at was a) call c.args.call image (c.in_append.ensures.kept image) (c.in_append.ensures.copied image)) tail)

pub returns-clause-logs : goal.returns-clause-logs
returns-clause-logs c centres up facts stands is_up =
    let a = c.args.centre in
    let fact = c.args.fact.now in
    let image = c.args.image in
    let before : LogsRepresent c.fall.new.self.logs centres up facts = rw c.fall.ensures.rest stands in
    always c.count_kept.result (LogsRepresent c.stop_append.new.self centres (with_up up a false) (stopped_facts facts a fact c.args.call image))
    (subst (λ (others : ℕ → List Fact). LogsRepresent c.stop_append.new.self centres (with_up up a false) others)
    (kept-facts facts a fact c.in_append.result c.args.call image (c.in_append.ensures.kept image))
    (c.in_ok-stop_append.ensures.stopped centres up facts before is_up))
