use Rattle.std.proofs.Common.{option_map, ap, ◌∙◌}
use Rattle.mdcc_def_protocol.specs.Facts.{deltas_at}
use Rattle.mdcc_struct.specs.Maps.{value_of}
use Rattle.mdcc_theorem_fact_folds.specs.Held.{delta_by}
use Rattle.mdcc_index.proofs.fact_pool.FactPool.delta.Goals as goal

pub returns : goal.returns
returns c facts kept =
    c.delta_by.ensures
    ∙ ap (option_map (delta_by c.args.tx))
    (c.amounts_at.ensures facts kept ∙ ap (λ version. value_of (deltas_at facts c.args.key.now version) c.args.tx) (c.current-version.ensures facts kept))
