use Rattle.std.proofs.Common.{sym, subst, ◌∙◌}
use Rattle.std.specs.List.{filter}
use Rattle.mdcc_escrow.specs.Weights.{no_load}
use Rattle.mdcc_theorem_fact_folds.specs.Chains.{is_of_instance}
use Rattle.mdcc_cells_indices.specs.Active.{is_active}
use Rattle.mdcc_index.specs.Stores.{Represents}
use Rattle.mdcc_index.proofs.Active.{load-active}
use Rattle.mdcc_index.proofs.LoadBy.{load-by-steps}
use Rattle.mdcc_index.proofs.Tied.{active-below}
use Rattle.mdcc_index.proofs.fact_pool.FactPool.load_by.Goals as goal

pub facts_of-walk-requires : goal.facts_of-walk-requires
facts_of-walk-requires g c = active-below _ c.self.invariant.facts c.self.invariant.has

pub returns : goal.returns
returns g c facts kept =
    let inside = subst (λ s. Represents s facts) (sym c.self.view_is) kept in
    let key = c.args.key.now in
    let version = c.args.version in
    let void = g.V.VoidTest.void c.args.void.now in
    c.load.ensures (filter (is_of_instance key version) (filter is_active facts)) (c.facts_of-walk.ensures is_active facts inside.cells inside.active)
    ∙ load-active (is_of_instance key version) key version c.args.seen.now void no_load facts
    ∙ sym (load-by-steps (is_of_instance key version) key version c.args.seen.now void (λ fact is. is) facts kept.added.ordered)
