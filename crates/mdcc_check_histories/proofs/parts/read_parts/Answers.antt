use Rattle.std.proofs.Common.{List, ℕ, ◌+◌, arith, ap, ◌∙◌, sym}
use Rattle.std.proofs.lemmas.Result.{err_from_is_err_and}
use Rattle.mdcc_check_histories.specs.Grammar.{part_of}
use Rattle.mdcc_check_histories.proofs.NineParts.{part_read, part_refused}
use Rattle.mdcc_check_histories.proofs.parts.read_parts.Goals as goal

pub returns-in_err-part-clause-value : goal.returns-in_err-part-clause-value
returns-in_err-part-clause-value c =
    let p = err_from_is_err_and c.from_residual.result c.from_residual.ensures.1 in
    let read = ap (λ (word : List ℕ). part_of word (c.loop-place.place + 1)) (sym c.word_at-word.ensures.word) ∙ sym c.part_of.ensures.value ∙ c.in_err-part.was in
    rw (p.1, p.2) (part_refused _ c.loop-place.parts c.loop-place.place c.args.line.now c.loop-place-test.true c.loop-place.invariant.same c.in_err-part.field-0.0 read)

pub loop-place-preserved : goal.loop-place-preserved
loop-place-preserved c =
    let read = ap (λ (word : List ℕ). part_of word (c.loop-place.place + 1)) (sym c.word_at-word.ensures.word) ∙ sym c.part_of.ensures.value ∙ c.in_ok-part.was in
    record {
      same = rw (c.keep.ensures.value, c.word_at-word.ensures.word)
          (part_read _ c.loop-place.parts c.loop-place.place c.args.line.now c.loop-place-test.true c.loop-place.invariant.same c.in_ok-part.part read);
      few = c.keep.ensures.few;
      within = omega (arith, c.word_at-word.ensures.within);
    }
