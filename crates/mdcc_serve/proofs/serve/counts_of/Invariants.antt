use Rattle.std.proofs.Common.{◌≡◌, take}
use Rattle.mdcc_serve.specs.Totals.{counts_of}
use Rattle.mdcc_serve.proofs.serve.counts_of.Given as goal

abbrev pub invariant-loop-site : goal.invariant-loop-site
invariant-loop-site l = l.served ≡ counts_of l.turns (take l.site-index l.sites)
