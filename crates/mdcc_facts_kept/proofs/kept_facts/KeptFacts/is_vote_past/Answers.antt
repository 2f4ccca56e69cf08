use Rattle.std.proofs.Common.{◌≤◌, ap, arith, length, sym, ◌∙◌}
use Rattle.std.specs.List.{list_all}
use Rattle.mdcc_def_protocol.specs.Facts.{is_forgotten}
use Rattle.mdcc_facts_kept.proofs.Drops.{all-fails, all-later, drop-end}
use Rattle.mdcc_facts_kept.proofs.kept_facts.KeptFacts.is_vote_past.Goals as goal

pub returns-then-not-is_forgotten : goal.returns-then-not-is_forgotten
returns-then-not-is_forgotten c facts kept =
    sym
    (all-fails (λ e. is_forgotten facts c.args.key.now c.args.version e.0) c.args.options.now c.loop-place.place (c.at-tx.result.0, c.at-tx.result.1.now) c.at-tx.ensures
    (sym (c.is_forgotten.ensures facts kept) ∙ c.if-not-is_forgotten.true))
    ∙ c.loop-place.invariant facts kept

pub loop-place-preserved : goal.loop-place-preserved
loop-place-preserved c facts kept =
    all-later (λ e. is_forgotten facts c.args.key.now c.args.version e.0) c.args.options.now c.loop-place.place (c.at-tx.result.0, c.at-tx.result.1.now) c.at-tx.ensures
    (sym (c.is_forgotten.ensures facts kept) ∙ c.if-not-is_forgotten.false)
    ∙ c.loop-place.invariant facts kept

pub returns : goal.returns
returns c facts kept =
    let past : length c.args.options.now ≤ c.loop-place.place = omega (arith, c.loop-place-test.false, c.len-place-end.ensures.value) in
    sym (ap (list_all (λ e. is_forgotten facts c.args.key.now c.args.version e.0)) (drop-end c.args.options.now c.loop-place.place past)) ∙ c.loop-place.invariant facts kept
