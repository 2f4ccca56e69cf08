use Rattle.mdcc_def_protocol.specs.Facts.{delta_given}
use Rattle.mdcc_facts_held.proofs.Sizes.{full_at_choices}
use Rattle.mdcc_facts_held.proofs.deltas.put_given.Goals as goal

pub returns-then-not-put-clause-few : goal.returns-then-not-put-clause-few
returns-then-not-put-clause-few c =
    full_at_choices (delta_given c.args.key.now c.args.version) c.loop-choice.deltas _ c.args.choices.now c.loop-choice.choice-index c.choice-item.result c.in-Some.delta
    c.loop-choice-test.true c.choice-item.is c.in-Some.ensures c.loop-choice.invariant.value c.if-not-put.ensures.few
