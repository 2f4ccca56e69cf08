use Rattle.std.proofs.Common.{take}
use Rattle.mdcc_serve.specs.Openings.{BindsAll, binds_of_all}
use Rattle.mdcc_serve.proofs.opening.bind_all.Given as goal

abbrev pub invariant-loop-site : goal.invariant-loop-site
invariant-loop-site g l = BindsAll g.L.Link.calls g.L.Link.lost g.L.Link.faults (binds_of_all l.config (take l.site-index l.sites)) l.fn.link l.link
