use Rattle.std.proofs.Common.{ap, ◌∙◌}
use Rattle.mdcc_index.specs.Loads.{plain_load_by}
use Rattle.mdcc_index.proofs.Reading.{void-told}
use Rattle.mdcc_index.proofs.fact_pool.FactPool.load.Goals as goal

pub returns : goal.returns
returns c facts kept =
    c.load_by.ensures facts kept ∙ ap (λ void. plain_load_by void facts c.args.key.now c.args.version c.args.seen.now) (void-told c.args.self.now facts kept)
