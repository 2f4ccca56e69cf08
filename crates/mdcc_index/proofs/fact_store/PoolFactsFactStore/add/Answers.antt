use Rattle.mdcc_index.proofs.Spare.{answer_held}
use Rattle.mdcc_index.proofs.fact_store.PoolFactsFactStore.add.Goals as goal

pub returns-clause-answer : goal.returns-clause-answer
returns-clause-answer c facts kept = answer_held c.args.self.now facts c.args.fact.now c.add.result kept (c.add.ensures.answer facts kept)
