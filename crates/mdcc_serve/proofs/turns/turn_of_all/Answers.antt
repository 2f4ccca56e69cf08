use Rattle.std.proofs.Common.{◌≡◌, ◌<◌, ◌≤◌, Err, arith, length, rules, subst, sym}
use Rattle.mdcc_def_server_runs.specs.Servers.{Server}
use Rattle.mdcc_def_server_runs.specs.Turns.{turn_of}
use Rattle.mdcc_serve.proofs.Doings.{turns_are, turns_own}
use Rattle.mdcc_serve.proofs.Rounds.{HaveGone, all_gone, next_gone, next_served, next_stopped, none_gone}
use Rattle.mdcc_serve.specs.Centres.{AllFinish, AllStop, places}
use Rattle.mdcc_serve_site.specs.Moments.{outside}
use Rattle.mdcc_serve.proofs.turns.turn_of_all.Goals as goal

pub loop-index-init : goal.loop-index-init
loop-index-init g c served hold ascend =
    let w = outside c.args.config.now.checkpoint g.D.Disks.disk g.D.Disks.may_leave g.L.Link.calls g.L.Link.lost g.L.Link.faults g.O.Sink.held g.O.Sink.faults in
    none_gone w (turn_of c.args.config.now) c.args.config.now.cluster (places c.args.disks.now c.args.sites.now c.args.link.now c.args.out.now) served hold

pub turn_at-requires-clause-served : goal.turn_at-requires-clause-served
turn_at-requires-clause-served g c =
    let w = outside c.args.config.now.checkpoint g.D.Disks.disk g.D.Disks.may_leave g.L.Link.calls g.L.Link.lost g.L.Link.faults g.O.Sink.held g.O.Sink.faults in
    let start = places c.args.disks.now c.args.sites.now c.args.link.now c.args.out.now in
    let now = places c.loop-index.disks c.loop-index.sites c.loop-index.link c.loop-index.out in
    let all = c.requires.served in
    let within : c.loop-index.index < length c.loop-index.sites = omega arith in
    next_served w (turn_of c.args.config.now) (turns_own c.args.config.now) c.args.config.now.cluster start now now all.sites c.loop-index.index all.ascend (c.loop-index.invariant all.sites all.stand all.ascend) within

pub loop-index-preserved : goal.loop-index-preserved
loop-index-preserved g c served hold ascend =
    let w = outside c.args.config.now.checkpoint g.D.Disks.disk g.D.Disks.may_leave g.L.Link.calls g.L.Link.lost g.L.Link.faults g.O.Sink.held g.O.Sink.faults in
    let start = places c.args.disks.now c.args.sites.now c.args.link.now c.args.out.now in
    let now = places c.loop-index.disks c.loop-index.sites c.loop-index.link c.loop-index.out in
    let new = places c.turn_at.new.disks c.turn_at.new.sites c.turn_at.new.link c.turn_at.new.out in
    let within : c.loop-index.index < length c.loop-index.sites = omega arith in
    next_gone w (turn_of c.args.config.now) (turns_own c.args.config.now) c.args.config.now.cluster start now new served c.loop-index.index ascend (c.loop-index.invariant served hold ascend) within _ (λ one site at holds. (let went = c.in_ok-turn_at.ensures one site at holds in record { given = went.given; next = went.next; held = went.held; goes = went.goes }))

pub returns-in_err-turn_at : goal.returns-in_err-turn_at
returns-in_err-turn_at g c served hold ascend =
    let w = outside c.args.config.now.checkpoint g.D.Disks.disk g.D.Disks.may_leave g.L.Link.calls g.L.Link.lost g.L.Link.faults g.O.Sink.held g.O.Sink.faults in
    let start = places c.args.disks.now c.args.sites.now c.args.link.now c.args.out.now in
    let now = places c.loop-index.disks c.loop-index.sites c.loop-index.link c.loop-index.out in
    let new = places c.turn_at.new.disks c.turn_at.new.sites c.turn_at.new.link c.turn_at.new.out in
    let within : c.loop-index.index < length c.loop-index.sites = omega arith in
    let config = c.args.config.now in
    let fault = c.in_err-turn_at.field-0.0 in
    let e : c.from_residual.result ≡ Err fault = search rules in
    let mid = next_stopped w (turn_of config) (turns_own config) config.cluster start now new served c.loop-index.index ascend (c.loop-index.invariant served hold ascend) within fault
    (λ one site at holds. (let went = c.in_err-turn_at.ensures one site at holds in record { given = went.given; next = went.next; held = went.held; goes = went.goes })) in
    rw e (record {
      at = record { front = mid.front; site = mid.site; back = mid.back; are = mid.are; earlier = mid.earlier; as_many = mid.as_many; given = mid.given };
      stop = subst (λ (server : Server). AllStop w served server.acts (turn_of config mid.site mid.given) fault start new) (sym (turns_are config mid.front mid.earlier)) mid.stop;
    })

pub returns : goal.returns
returns g c served hold ascend =
    let w = outside c.args.config.now.checkpoint g.D.Disks.disk g.D.Disks.may_leave g.L.Link.calls g.L.Link.lost g.L.Link.faults g.O.Sink.held g.O.Sink.faults in
    let config = c.args.config.now in
    let start = places c.args.disks.now c.args.sites.now c.args.link.now c.args.out.now in
    let now = places c.loop-index.disks c.loop-index.sites c.loop-index.link c.loop-index.out in
    let gone : HaveGone w (turn_of config) config.cluster start now served c.loop-index.index = c.loop-index.invariant served hold ascend in
    let over : length c.loop-index.sites ≤ c.loop-index.index = omega arith in
    let all = all_gone w (turn_of config) config.cluster start now served c.loop-index.index gone over in
    record { given = gone.given; as_many = all.0; finish = subst (λ (server : Server). AllFinish w config.cluster served server start now) (sym (turns_are config served gone.given)) all.1 }
