use Rattle.std.proofs.Common.{◌∙◌, subst, sym}
use Rattle.mdcc_cells_indices.proofs.Endings.{heard-known}
use Rattle.mdcc_index.specs.Stores.{Represents}
use Rattle.mdcc_index.proofs.fact_pool.FactPool.is_heard.Goals as goal

pub returns : goal.returns
returns c facts kept =
    let inside = subst (λ s. Represents s facts) (sym c.self.view_is) kept in
    c.is_heard.ensures ∙ heard-known c.self.inside.outcomes facts c.args.tx inside.cells.well_formed inside.outcomes
