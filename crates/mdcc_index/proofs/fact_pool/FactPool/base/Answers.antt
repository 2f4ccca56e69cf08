use Rattle.std.proofs.Common.{◌<◌, length, sym, subst, ◌∙◌, arith}
use Rattle.mdcc_cells_indices.proofs.Entered.{fact_at, held-length, stored-at}
use Rattle.mdcc_index.specs.Stores.{Represents}
use Rattle.mdcc_index.proofs.Reading.{entry-there}
use Rattle.mdcc_index.proofs.Tied.{given-below}
use Rattle.mdcc_index.proofs.fact_pool.FactPool.base.Goals as goal

pub item_at-requires : goal.item_at-requires
item_at-requires c = c.in-Some.ensures.within (length c.self.inside.cells.encodings) (given-below _ c.self.invariant.facts c.self.invariant.has)

pub returns-in-Some : goal.returns-in-Some
returns-in-Some c facts kept =
    let inside = subst (λ s. Represents s facts) (sym c.self.view_is) kept in
    let encodings = c.self.inside.cells.encodings in
    let within : c.in-Some.number < length encodings = c.in-Some.ensures.within (length encodings) (given-below _ c.self.invariant.facts c.self.invariant.has) in
    let stored = stored-at encodings facts c.in-Some.number inside.cells within in
    let gives = c.in-Some.ensures.base facts inside.held in
    c.item_at.ensures (fact_at facts c.in-Some.number) stored.well_formed stored.bytes
    ∙ sym (gives.base (fact_at facts c.in-Some.number) (entry-there facts c.in-Some.number (omega (arith, within, held-length encodings facts inside.cells))))
