use Rattle.std.proofs.Common.{take}
use Rattle.mdcc_serve.specs.Openings.{boots_told}
use Rattle.mdcc_serve_site.specs.SiteState.{PrintsAll}
use Rattle.mdcc_serve.proofs.opening.tell_boots.Given as goal

abbrev pub invariant-loop-site : goal.invariant-loop-site
invariant-loop-site g l = PrintsAll g.O.Sink.held g.O.Sink.faults (boots_told (take l.site-index l.sites)) l.fn.out l.out
