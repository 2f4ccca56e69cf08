use Rattle.std.proofs.Common.{None, ap, ◌∙◌}
use Rattle.std.specs.List.{filter}
use Rattle.mdcc_theorem_fact_folds.specs.Chains.{is_of_instance}
use Rattle.mdcc_index.proofs.Stepped.{mark-stepped}
use Rattle.mdcc_index.proofs.fact_pool.FactPool.mark_at.Goals as goal

pub returns : goal.returns
returns c facts kept =
    ap (λ s. s.found) (c.walk.ensures facts kept)
    ∙ mark-stepped c.args.key.now c.args.version c.args.ballot c.args.tx None (filter (is_of_instance c.args.key.now c.args.version) facts)
