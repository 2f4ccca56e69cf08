use Rattle.mdcc_facts_held.proofs.Sizes.{full_at_adds}
use Rattle.mdcc_facts_held.proofs.deltas.put_adopted.Goals as goal

pub returns-then-not-put-clause-few : goal.returns-then-not-put-clause-few
returns-then-not-put-clause-few c =
    full_at_adds c.loop-delta.deltas _ c.args.adds.now c.loop-delta.delta-index c.delta-item.result c.loop-delta-test.true c.delta-item.is c.loop-delta.invariant.value c.if-not-put.ensures.few
