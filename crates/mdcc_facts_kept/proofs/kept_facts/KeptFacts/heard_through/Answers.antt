use Rattle.std.proofs.Common.{sym, ◌∙◌}
use Rattle.mdcc_facts_kept.proofs.Through.{all-settled}
use Rattle.mdcc_facts_kept.proofs.kept_facts.KeptFacts.heard_through.Goals as goal

pub returns : goal.returns
returns c facts kept =
    let are = c.loop-centre.invariant facts kept in
    all-settled facts c.args.centre c.args.epoch c.loop-centre.seq are (sym (c.is_next_settled.ensures.value facts kept are.from) ∙ c.loop-centre-test.false)
