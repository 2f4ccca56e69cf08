use Rattle.std.proofs.Common.{◌<◌, length, sym, subst, ap, ◌∙◌, arith}
use Rattle.mdcc_cells_tables.proofs.UnresolvedRead.{write_set-read}
use Rattle.mdcc_cells_indices.proofs.Entered.{fact_at, held-length, stored-at}
use Rattle.mdcc_index.specs.Stores.{Represents}
use Rattle.mdcc_index.proofs.Reading.{entry-there}
use Rattle.mdcc_index.proofs.fact_pool.FactPool.write_set_by.Goals as goal

pub returns : goal.returns
returns c facts kept =
    let inside = subst (λ s. Represents s facts) (sym c.self.view_is) kept in
    let encodings = c.self.inside.cells.encodings in
    let within : c.args.number < length encodings = omega (arith, c.requires, ap (λ s. length s.cells.encodings) c.self.view_is) in
    let stored = stored-at encodings facts c.args.number inside.cells within in
    c.write_set_at.ensures (fact_at facts c.args.number) stored.well_formed stored.bytes
    ∙ sym (write_set-read facts c.args.number (fact_at facts c.args.number) c.args.tx
    (entry-there facts c.args.number (omega (arith, within, held-length encodings facts inside.cells))))
