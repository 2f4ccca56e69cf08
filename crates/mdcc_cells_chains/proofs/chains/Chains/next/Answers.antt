use Rattle.std.proofs.Common.{length, ap, arith}
use Rattle.mdcc_cells_chains.proofs.Linked.{under-read}
use Rattle.mdcc_cells_chains.proofs.chains.Chains.next.Goals as goal

pub returns-clause-lower : goal.returns-clause-lower
returns-clause-lower c =
    under-read c.args.index c.self.inside.links.items c.args.index c.index.result.now
    (omega (arith, c.requires, ap (λ links. length links.links) c.self.view_is)) c.index.ensures (c.self.invariant.lower c.args.index)
