use Rattle.std.proofs.Common.{sym, subst, ap, ◌∙◌}
use Rattle.std.specs.List.{filter, fold}
use Rattle.mdcc_theorem_fact_folds.specs.Chains.{is_of_instance}
use Rattle.mdcc_cells_indices.specs.Entries.{is_any}
use Rattle.mdcc_index.specs.Stores.{Represents}
use Rattle.mdcc_index.proofs.Active.{any-kept}
use Rattle.mdcc_index.proofs.Tied.{instances-below}
use Rattle.mdcc_index.proofs.fact_pool.FactPool.walk.Goals as goal

pub walk-requires : goal.walk-requires
walk-requires g c = instances-below _ c.self.invariant.facts c.self.invariant.has

pub returns : goal.returns
returns g c facts kept =
    let inside = subst (λ s. Represents s facts) (sym c.self.view_is) kept in
    c.walk.ensures is_any facts inside.cells inside.instances
    ∙ ap (λ all. fold g.S.FactStep.step c.args.state.now (filter (is_of_instance c.args.key.now c.args.version) all)) (any-kept facts)
