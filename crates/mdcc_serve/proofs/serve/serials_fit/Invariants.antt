use Rattle.std.proofs.Common.{take}
use Rattle.mdcc_serve.specs.Ends.{SerialsFit}
use Rattle.mdcc_serve.proofs.serve.serials_fit.Given as goal

abbrev pub invariant-loop-site : goal.invariant-loop-site
invariant-loop-site l = SerialsFit (take l.site-index l.sites)
