use Rattle.std.proofs.Common.{length, sym, subst, ap, ◌∙◌, arith}
use Rattle.std.specs.Option.{option_and_then}
use Rattle.mdcc_cells_tables.specs.UnresolvedNumbers.{with_write_set}
use Rattle.mdcc_cells_tables.proofs.UnresolvedRead.{unresolved-read}
use Rattle.mdcc_index.specs.Stores.{Represents}
use Rattle.mdcc_index.proofs.Tied.{unresolved-below}
use Rattle.mdcc_index.proofs.fact_pool.FactPool.unresolved.Goals as goal

pub with_write_set-requires : goal.with_write_set-requires
with_write_set-requires c =
    let within = c.in-Some.ensures.below (length c.self.inside.cells.encodings) (unresolved-below _ c.self.invariant.facts c.self.invariant.has) in
    omega (arith, within, ap (λ s. length s.cells.encodings) c.self.view_is)

pub returns-in-Some : goal.returns-in-Some
returns-in-Some c facts kept =
    let inside = subst (λ s. Represents s facts) (sym c.self.view_is) kept in
    c.with_write_set.ensures facts kept
    ∙ ap (option_and_then (with_write_set facts)) (sym c.in-Some.is ∙ c.get.ensures.value)
    ∙ sym (unresolved-read c.self.inside.unresolved.entries facts c.args.place inside.unresolved)

pub returns-in-None : goal.returns-in-None
returns-in-None c facts kept =
    let inside = subst (λ s. Represents s facts) (sym c.self.view_is) kept in
    ap (option_and_then (with_write_set facts)) (sym c.in-None.is ∙ c.get.ensures.value)
    ∙ sym (unresolved-read c.self.inside.unresolved.entries facts c.args.place inside.unresolved)
