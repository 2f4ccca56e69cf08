use Rattle.std.proofs.Common.{take}
use Rattle.mdcc_def_server_runs.specs.Sending.{heard_printed}
use Rattle.mdcc_serve_site.specs.SiteState.{PrintsAll}
use Rattle.mdcc_serve_site.proofs.persist.print_heard.Given as goal

abbrev pub invariant-loop-end : goal.invariant-loop-end
invariant-loop-end g l = record {
  told : PrintsAll g.O.Sink.held g.O.Sink.faults (heard_printed l.centre (take l.end-index l.heard)) l.initial.out l.out;
}
