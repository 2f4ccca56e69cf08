use Rattle.std.proofs.Common.{sym, subst}
use Rattle.mdcc_cells_indices.specs.Active.{is_active}
use Rattle.mdcc_index.specs.Stores.{Represents}
use Rattle.mdcc_index.proofs.Tied.{active-below}
use Rattle.mdcc_index.proofs.fact_pool.FactPool.walk_active.Goals as goal

pub walk-requires : goal.walk-requires
walk-requires g c = active-below _ c.self.invariant.facts c.self.invariant.has

pub returns : goal.returns
returns g c facts kept =
    let inside = subst (λ s. Represents s facts) (sym c.self.view_is) kept in
    c.walk.ensures is_active facts inside.cells inside.active
