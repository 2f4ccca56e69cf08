use Rattle.std.proofs.Common.{List}
use Rattle.mdcc_def_server_runs.specs.Sites.{Site}
use Rattle.mdcc_serve.proofs.Repeated.{HaveRun}
use Rattle.mdcc_serve.specs.Centres.{Ascend, HoldSites, places}
use Rattle.mdcc_serve_site.specs.Moments.{outside}
use Rattle.mdcc_serve.proofs.turns.make_turns.Given as goal

abbrev pub invariant-loop-turn : goal.invariant-loop-turn
invariant-loop-turn g l =
    let w = outside l.config.checkpoint g.D.Disks.disk g.D.Disks.may_leave g.L.Link.calls g.L.Link.lost g.L.Link.faults g.O.Sink.held g.O.Sink.faults in
    (served : List Site) → HoldSites w l.config.cluster l.fn.disks l.fn.sites served → Ascend 0 served
    → HaveRun w l.config l.config.cluster (places l.fn.disks l.fn.sites l.fn.link l.fn.out) (places l.disks l.sites l.link l.out) served l._turn
