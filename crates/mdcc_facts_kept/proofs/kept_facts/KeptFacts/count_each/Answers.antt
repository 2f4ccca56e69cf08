use Rattle.std.proofs.Common.{◌≡◌, ◌+◌, ap, arith, drop, sym, ℕ, ◌∙◌}
use Rattle.std.specs.Prelude.{if◌then◌else◌}
use Rattle.mdcc_facts.specs.Past.{count_past, is_past_mark}
use Rattle.mdcc_facts_kept.proofs.Drops.{number-here}
use Rattle.mdcc_facts_kept.proofs.kept_facts.KeptFacts.count_each.Goals.{else-is_past_mark, then-is_past_mark}
use Rattle.mdcc_facts_kept.proofs.kept_facts.KeptFacts.count_each.Goals as goal

stepped : (count later left rest total one : ℕ) → count + left ≡ total → left ≡ one + rest → later ≡ count + one → later + rest ≡ total
stepped count later left rest total one a b d = omega (arith, a, b, d)

pub loop-place-preserved : goal.loop-place-preserved
loop-place-preserved c = elim c.if-is_past_mark.branch [
  | then-is_past_mark w ↦ record {
    few = omega (arith, w.count-is, c.loop-place.invariant.few);
    value = λ facts kept.
        let left = count_past facts c.args.key.now c.args.version c.args.ballot (drop (c.loop-place.place + 1) c.args.options.now) in
        stepped c.loop-place.count c.if-is_past_mark.count (count_past facts c.args.key.now c.args.version c.args.ballot (drop c.loop-place.place c.args.options.now)) left
        (count_past facts c.args.key.now c.args.version c.args.ballot c.args.options.now) 1 (c.loop-place.invariant.value facts kept)
        (number-here (λ e. is_past_mark facts c.args.key.now c.args.version c.args.ballot e.0) c.args.options.now c.loop-place.place (c.at-tx.result.0, c.at-tx.result.1.now) c.at-tx.ensures
        ∙ ap (λ b. (if b then 1 else 0) + left) (sym (c.is_past_mark.ensures facts kept) ∙ w.if-is_past_mark.true))
        w.count-is;
  }
  | else-is_past_mark w ↦ record {
    few = omega (arith, w.count-is, c.loop-place.invariant.few);
    value = λ facts kept.
        let left = count_past facts c.args.key.now c.args.version c.args.ballot (drop (c.loop-place.place + 1) c.args.options.now) in
        stepped c.loop-place.count c.if-is_past_mark.count (count_past facts c.args.key.now c.args.version c.args.ballot (drop c.loop-place.place c.args.options.now)) left
        (count_past facts c.args.key.now c.args.version c.args.ballot c.args.options.now) 0 (c.loop-place.invariant.value facts kept)
        (number-here (λ e. is_past_mark facts c.args.key.now c.args.version c.args.ballot e.0) c.args.options.now c.loop-place.place (c.at-tx.result.0, c.at-tx.result.1.now) c.at-tx.ensures
        ∙ ap (λ b. (if b then 1 else 0) + left) (sym (c.is_past_mark.ensures facts kept) ∙ w.if-is_past_mark.false))
        (omega (arith, w.count-is));
  }
]
