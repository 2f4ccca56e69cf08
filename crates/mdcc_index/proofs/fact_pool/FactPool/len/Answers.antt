use Rattle.std.proofs.Common.{length, ap, ◌∙◌}
use Rattle.mdcc_cells_indices.proofs.Entered.{held-length}
use Rattle.mdcc_index.proofs.fact_pool.FactPool.len.Goals as goal

pub returns-clause-facts : goal.returns-clause-facts
returns-clause-facts c facts kept =
    c.len.ensures ∙ ap (λ s. length s.cells.encodings) c.self.view_is ∙ held-length c.args.self.now.cells.encodings facts kept.cells
