use Rattle.std.proofs.Common.{None, sym, ap, ◌∙◌}
use Rattle.std.specs.List.{filter, fold}
use Rattle.mdcc_theorem_fact_folds.specs.Chains.{is_of_instance}
use Rattle.mdcc_theorem_fact_folds.specs.Held.{older_amounts}
use Rattle.mdcc_cells_indices.specs.Active.{is_active}
use Rattle.mdcc_cells_delta_walk.proofs.Walked.{amounts-are-folded}
use Rattle.mdcc_index.proofs.Active.{active-chain, active-deltas, is_active_of}
use Rattle.mdcc_index.proofs.Amounts.{amounts-walk}
use Rattle.mdcc_index.proofs.fact_pool.FactPool.walked_amounts.Goals as goal

pub returns : goal.returns
returns c facts kept =
    let key = c.args.key.now in
    let version = c.args.version in
    let tx = c.args.tx in
    ap (λ s. s.found) (c.walk_active.ensures facts kept)
    ∙ amounts-are-folded key version tx (filter (is_of_instance key version) (filter is_active facts))
    ∙ ap (fold (older_amounts key version tx) None) (active-chain key version facts)
    ∙ sym (amounts-walk (is_active_of key version) key version tx facts (active-deltas key version))
