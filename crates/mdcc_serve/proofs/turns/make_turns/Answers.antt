use Rattle.std.proofs.Common.{◌≡◌, ◌<◌, Err, arith, length, rules}
use Rattle.std.specs.Prelude.{fold}
use Rattle.mdcc_def_server_runs.specs.Servers.{after_turn}
use Rattle.mdcc_serve.proofs.Repeated.{HaveRun, begun, none_run, one_run, run_stops}
use Rattle.mdcc_serve.specs.Centres.{places}
use Rattle.mdcc_serve_site.specs.Moments.{outside}
use Rattle.mdcc_serve.proofs.turns.make_turns.Goals as goal

pub loop-turn-init : goal.loop-turn-init
loop-turn-init g c served hold ascend =
    let w = outside c.args.config.now.checkpoint g.D.Disks.disk g.D.Disks.may_leave g.L.Link.calls g.L.Link.lost g.L.Link.faults g.O.Sink.held g.O.Sink.faults in
    none_run w c.args.config.now c.args.config.now.cluster (places c.args.disks.now c.args.sites.now c.args.link.now c.args.out.now) served hold ascend

pub turn_of_all-requires-clause-served : goal.turn_of_all-requires-clause-served
turn_of_all-requires-clause-served g c =
    let all = c.requires.served in
    let run = c.loop-turn.invariant all.sites all.stand all.ascend in
    record { sites = (fold (after_turn c.args.config.now) (begun all.sites) run.given).sites; stand = run.finish.stand; ascend = run.ascend }

pub loop-turn-preserved : goal.loop-turn-preserved
loop-turn-preserved g c served hold ascend =
    let w = outside c.args.config.now.checkpoint g.D.Disks.disk g.D.Disks.may_leave g.L.Link.calls g.L.Link.lost g.L.Link.faults g.O.Sink.held g.O.Sink.faults in
    let config = c.args.config.now in
    let start = places c.args.disks.now c.args.sites.now c.args.link.now c.args.out.now in
    let now = places c.loop-turn.disks c.loop-turn.sites c.loop-turn.link c.loop-turn.out in
    let new = places c.turn_of_all.new.disks c.turn_of_all.new.sites c.turn_of_all.new.link c.turn_of_all.new.out in
    let run : HaveRun w config config.cluster start now served c.loop-turn._turn = c.loop-turn.invariant served hold ascend in
    let turn = c.in_ok-turn_of_all.ensures (fold (after_turn config) (begun served) run.given).sites run.finish.stand run.ascend in
    one_run w config config.cluster start now new served c.loop-turn._turn run turn.given turn.as_many turn.finish

pub returns-in_err-turn_of_all : goal.returns-in_err-turn_of_all
returns-in_err-turn_of_all g c served hold ascend =
    let w = outside c.args.config.now.checkpoint g.D.Disks.disk g.D.Disks.may_leave g.L.Link.calls g.L.Link.lost g.L.Link.faults g.O.Sink.held g.O.Sink.faults in
    let config = c.args.config.now in
    let start = places c.args.disks.now c.args.sites.now c.args.link.now c.args.out.now in
    let now = places c.loop-turn.disks c.loop-turn.sites c.loop-turn.link c.loop-turn.out in
    let new = places c.turn_of_all.new.disks c.turn_of_all.new.sites c.turn_of_all.new.link c.turn_of_all.new.out in
    let run : HaveRun w config config.cluster start now served c.loop-turn._turn = c.loop-turn.invariant served hold ascend in
    let turn = c.in_err-turn_of_all.ensures (fold (after_turn config) (begun served) run.given).sites run.finish.stand run.ascend in
    let fewer : c.loop-turn._turn < c.args.turns = omega arith in
    let e : c.from_residual.result ≡ Err c.in_err-turn_of_all.field-0.0 = search rules in
    rw e (run_stops w config config.cluster start now new served c.loop-turn._turn c.args.turns c.in_err-turn_of_all.field-0.0 run fewer turn)

pub returns : goal.returns
returns g c served hold ascend =
    let w = outside c.args.config.now.checkpoint g.D.Disks.disk g.D.Disks.may_leave g.L.Link.calls g.L.Link.lost g.L.Link.faults g.O.Sink.held g.O.Sink.faults in
    let config = c.args.config.now in
    let start = places c.args.disks.now c.args.sites.now c.args.link.now c.args.out.now in
    let now = places c.loop-turn.disks c.loop-turn.sites c.loop-turn.link c.loop-turn.out in
    let run : HaveRun w config config.cluster start now served c.loop-turn._turn = c.loop-turn.invariant served hold ascend in
    let made = run.made in
    let all : length run.given ≡ c.args.turns = omega arith in
    record { given = run.given; made = all; each = run.each; finish = run.finish }
