use Rattle.std.proofs.Common.{sym, ◌∙◌}
use Rattle.mdcc_def_protocol.specs.Facts.{is_finished}
use Rattle.mdcc_facts_kept.proofs.Drops.{any-here, any-later}
use Rattle.mdcc_facts_kept.proofs.kept_facts.KeptFacts.is_one_finished.Goals as goal

pub returns-then-finished : goal.returns-then-finished
returns-then-finished c facts kept =
    sym
    (any-here (λ e. is_finished facts e.0) c.args.options.now c.loop-place.place (c.at-tx.result.0, c.at-tx.result.1.now) c.at-tx.ensures
    (sym (c.finished.ensures.value facts kept) ∙ c.if-finished.true))
    ∙ c.loop-place.invariant facts kept

pub loop-place-preserved : goal.loop-place-preserved
loop-place-preserved c facts kept =
    any-later (λ e. is_finished facts e.0) c.args.options.now c.loop-place.place (c.at-tx.result.0, c.at-tx.result.1.now) c.at-tx.ensures
    (sym (c.finished.ensures.value facts kept) ∙ c.if-finished.false)
    ∙ c.loop-place.invariant facts kept
