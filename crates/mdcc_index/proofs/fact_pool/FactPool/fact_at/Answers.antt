use Rattle.std.proofs.Common.{◌<◌, length, sym, subst, ap, arith}
use Rattle.mdcc_cells_indices.proofs.Entered.{fact_at, held-length, stored-at}
use Rattle.mdcc_index.specs.Stores.{HasFactsInCells}
use Rattle.mdcc_index.proofs.Reading.{found-there}
use Rattle.mdcc_index.proofs.fact_pool.FactPool.fact_at.Goals as goal

pub returns-clause-fact : goal.returns-clause-fact
returns-clause-fact c facts kept =
    let inside = subst (λ s. HasFactsInCells s facts) (sym c.self.view_is) kept in
    let encodings = c.self.inside.cells.encodings in
    let within : c.args.number < length c.self.inside.cells.encodings = omega (arith, c.requires, ap (λ s. length s.cells.encodings) c.self.view_is) in
    let stored = stored-at encodings facts c.args.number inside.cells within in
    found-there c.fact_at.result facts c.args.number (omega (arith, within, held-length encodings facts inside.cells))
    (c.fact_at.ensures.fact (fact_at facts c.args.number) stored.well_formed stored.bytes)
