use Rattle.std.proofs.Common.{List, ℕ, ◌+◌, arith, ap, ◌∙◌, sym}
use Rattle.std.proofs.lemmas.Result.{err_from_is_err_and}
use Rattle.mdcc_def_language.specs.Schedule.{numbers_from}
use Rattle.mdcc_sched.specs.Numbers.{number_of_word}
use Rattle.mdcc_sched.proofs.Steps.{on_false, word_read, word_refused, number_law}
use Rattle.mdcc_sched.proofs.lists.numbers_from.Goals as goal

pub returns-in_err-number-clause-value : goal.returns-in_err-number-clause-value
returns-in_err-number-clause-value c =
    let p = err_from_is_err_and c.from_residual.result c.from_residual.ensures.1 in
    let read = ap (λ (word : List ℕ). number_of_word (c.loop-place.place + 1) word) (sym c.word_at-word.ensures.word) ∙ sym c.number_of_word.ensures.value ∙ c.in_err-number.was in
    rw (p.1, p.2) (on_false _ (word_refused (λ (s : Unit {0}). numbers_from) (λ s. number_of_word) (λ s x. tt) number_law _ c.loop-place.numbers tt c.loop-place.place c.args.line.now c.loop-place-test.true c.loop-place.invariant.same c.in_err-number.field-0.0 read))

pub loop-place-preserved : goal.loop-place-preserved
loop-place-preserved c =
    let read = ap (λ (word : List ℕ). number_of_word (c.loop-place.place + 1) word) (sym c.word_at-word.ensures.word) ∙ sym c.number_of_word.ensures.value ∙ c.in_ok-number.was in
    record {
      same = rw (c.in_ok-push.ensures.ok, c.word_at-word.ensures.word)
          (word_read (λ (s : Unit {0}). numbers_from) (λ s. number_of_word) (λ s x. tt) number_law _ c.loop-place.numbers tt c.loop-place.place c.args.line.now c.loop-place-test.true c.loop-place.invariant.same c.in_ok-number.number read);
      within = omega (arith, c.word_at-word.ensures.within);
    }
