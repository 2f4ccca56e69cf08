use Rattle.mdcc_index.proofs.Tied.{outcomes-below}
use Rattle.mdcc_index.proofs.fact_pool.FactPool.ended.Goals as goal

pub ended-requires : goal.ended-requires
ended-requires c = outcomes-below _ c.self.invariant.facts c.self.invariant.has
