use Rattle.std.proofs.Common.{sym, ◌∙◌}
use Rattle.mdcc_index.specs.Crowding.{is_key_crowded}
use Rattle.mdcc_index.proofs.Reading.{any-at}
use Rattle.mdcc_index.proofs.fact_pool.FactPool.is_one_crowded.Goals as goal

pub returns-then-is_crowded : goal.returns-then-is_crowded
returns-then-is_crowded c facts kept =
    sym (any-at (is_key_crowded facts c.args.fact.now) c.args.choices.now c.loop-choice.choice-index c.choice-item.result c.loop-choice-test.true c.choice-item.is
    (sym (c.is_crowded.ensures facts kept) ∙ c.if-is_crowded.true))
