use Rattle.std.proofs.Common.{◌<◌, ◌+◌, ◌-◌, ◌∷◌, Bool, List, Ok, Option, true, ℕ, arith, ap, ◌∙◌, subst}
use Rattle.mdcc_node_log.specs.Nodes.{IsNodeOf}
use Rattle.mdcc_world_logs.specs.Represents.{with_up}
use Rattle.mdcc_world_logs.specs.Starting.{HasStarted, Starts}
use Rattle.mdcc_world_logs.specs.Tails.{HasTail, StartsWithTail, tail_at}
use Rattle.mdcc_world_logs.specs.declared.starting.Started.{Started}
use Rattle.mdcc_option.specs.declared.cluster.Cluster.{Cluster}
use Rattle.mdcc_base.specs.declared.outside.Image.{Image}
use Rattle.mdcc_def_ledger.specs.Ledger.{facts_of}
use Rattle.mdcc_def_simulation.specs.State.{is_up_at}
use Rattle.std.specs.Prelude.{set}
use Rattle.mdcc_def_protocol.specs.Volatile.{initial_volatile}
use Rattle.mdcc_def_messages.specs.declared.facts.Fact.{Fact}
use Rattle.mdcc_node_log.specs.Logged.{AreLogged}
use Rattle.mdcc_def_simulation.specs.Checkpoints.{tail_after_append}
use Rattle.mdcc_world.proofs.Crashed.{has-restarted, may-restart, more-epochs, restart-cells, restart-limit}
use Rattle.mdcc_theorem_node_steps.specs.NodeInvariant.{FitInTurn}
use Rattle.mdcc_theorem_worlds.proofs.Stays.{some-centre}
use Rattle.mdcc_world.proofs.world.World.restart_at.Goals as goal

pub restart-requires-clause-among : goal.restart-requires-clause-among
restart-requires-clause-among c =
    let w = c.requires.like.0 in
    let like = c.requires.like.1 in
    rw like.records.cluster (c.requires.among w like)

pub rise-requires-clause-within : goal.rise-requires-clause-within
rise-requires-clause-within c =
    let w = c.requires.like.0 in
    let like = c.requires.like.1 in
    let few = (some-centre w.cluster c.args.centre (c.requires.among w like)).1 in
    let many = like.nodes.as_many in
    omega (few, many, arith)

pub returns-in_ok-push-in-Node-clause-happens : goal.returns-in_ok-push-in-Node-clause-happens
returns-in_ok-push-in-Node-clause-happens c w like =
    let world = c.args.self.now in
    let a = c.args.centre in
    let centre = c.requires.among w like in
    let events = like.records.events in
    let early : w.events < 100000 = omega (events, c.requires.few, arith) in
    let logged : AreLogged world.cluster (facts_of w.ledger a) = rw like.records.cluster (may-restart w a like.records.itself centre) in
    let fits : FitInTurn world.cluster (facts_of w.ledger a) = rw like.records.cluster (like.records.itself.cells a centre) in
    let started : HasStarted c.in-Node.node c.in-Node.epoch c.restart.new.self world.cluster w.cluster.quorums.centres (with_up (is_up_at w) a true) a (facts_of w.ledger) =
    subst (λ (s : Started). Starts (Ok s) c.restart.new.self world.cluster w.cluster.quorums.centres (with_up (is_up_at w) a true) a (facts_of w.ledger)) c.in-Node.is
    (c.in_ok-node.ensures.started w.cluster.quorums.centres (is_up_at w) (facts_of w.ledger) like.logs logged fits (more-epochs w a like.records.itself centre early)) in
    let node : IsNodeOf c.in-Node.node w.cluster a (Fact.Booted c.in-Node.epoch ∷ facts_of w.ledger a) initial_volatile = rw (← like.records.cluster) started.node_of in
    let tail : HasTail world.logs c.restart.new.self a (tail_after_append (tail_at world.logs a)) =
    subst (λ (s : Started). StartsWithTail (Ok s) world.logs c.restart.new.self a) c.in-Node.is
    (c.in_ok-node.ensures.tail w.cluster.quorums.centres (is_up_at w) (facts_of w.ledger) like.logs logged fits (more-epochs w a like.records.itself centre early)) in
    let rest = c.rise.ensures.rest
    ∙ ap (λ (ups : List Bool). record world { nodes = c.rise.new.self.nodes; up = ups; stops = c.rise.new.self.stops; logs = c.restart.new.self; events = world.events + 1 }) c.rise.ensures.up
    ∙ ap (λ (stops : List (Option (ℕ × Image))). record world { nodes = c.rise.new.self.nodes; up = set world.up (a - 1) true; stops = stops; logs = c.restart.new.self; events = world.events + 1 }) c.rise.ensures.stops in
    has-restarted world c.rise.new.self c.restart.new.self w a c.in-Node.epoch c.in-Node.node c.args.lines.now c.push.new.self like centre early
    (omega arith) (omega arith) rest (omega arith) c.rise.ensures.nodes started.next node started.stand started.room tail c.in_ok-push-in-Node.ensures.ok

pub returns-in-Full-clause-happens : goal.returns-in-Full-clause-happens
returns-in-Full-clause-happens c w like =
    let world = c.args.self.now in
    let a = c.args.centre in
    let centre = c.requires.among w like in
    let events = like.records.events in
    let early : w.events < 100000 = omega (events, c.requires.few, arith) in
    let logged : AreLogged world.cluster (facts_of w.ledger a) = rw like.records.cluster (may-restart w a like.records.itself centre) in
    let fits : FitInTurn world.cluster (facts_of w.ledger a) = rw like.records.cluster (like.records.itself.cells a centre) in
    let lacks : Starts (Ok Started.Full) c.restart.new.self w.cluster w.cluster.quorums.centres (with_up (is_up_at w) a true) a (facts_of w.ledger) =
    subst (λ (of : Cluster). Starts (Ok Started.Full) c.restart.new.self of w.cluster.quorums.centres (with_up (is_up_at w) a true) a (facts_of w.ledger)) like.records.cluster
    (subst (λ (s : Started). Starts (Ok s) c.restart.new.self world.cluster w.cluster.quorums.centres (with_up (is_up_at w) a true) a (facts_of w.ledger)) c.in-Full.is
    (c.in_ok-node.ensures.started w.cluster.quorums.centres (is_up_at w) (facts_of w.ledger) like.logs logged fits (more-epochs w a like.records.itself centre early))) in
    restart-limit w a lacks.0 lacks.1

pub returns-in-NoRoom-clause-happens : goal.returns-in-NoRoom-clause-happens
returns-in-NoRoom-clause-happens c w like =
    let world = c.args.self.now in
    let a = c.args.centre in
    let centre = c.requires.among w like in
    let events = like.records.events in
    let early : w.events < 100000 = omega (events, c.requires.few, arith) in
    let logged : AreLogged world.cluster (facts_of w.ledger a) = rw like.records.cluster (may-restart w a like.records.itself centre) in
    let fits : FitInTurn world.cluster (facts_of w.ledger a) = rw like.records.cluster (like.records.itself.cells a centre) in
    let lacks : Starts (Ok (Started.NoRoom c.in-NoRoom.needed)) c.restart.new.self w.cluster w.cluster.quorums.centres (with_up (is_up_at w) a true) a (facts_of w.ledger) =
    subst (λ (of : Cluster). Starts (Ok (Started.NoRoom c.in-NoRoom.needed)) c.restart.new.self of w.cluster.quorums.centres (with_up (is_up_at w) a true) a (facts_of w.ledger)) like.records.cluster
    (subst (λ (s : Started). Starts (Ok s) c.restart.new.self world.cluster w.cluster.quorums.centres (with_up (is_up_at w) a true) a (facts_of w.ledger)) c.in-NoRoom.is
    (c.in_ok-node.ensures.started w.cluster.quorums.centres (is_up_at w) (facts_of w.ledger) like.logs logged fits (more-epochs w a like.records.itself centre early))) in
    restart-cells w a c.in-NoRoom.needed lacks.0 lacks.1
