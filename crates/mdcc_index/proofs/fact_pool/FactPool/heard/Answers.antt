use Rattle.mdcc_index.proofs.Tied.{outcomes-below}
use Rattle.mdcc_index.proofs.fact_pool.FactPool.heard.Goals as goal

pub heard-requires : goal.heard-requires
heard-requires c = outcomes-below _ c.self.invariant.facts c.self.invariant.has
