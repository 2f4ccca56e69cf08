use Rattle.std.proofs.Common.{List, ℕ, ◌+◌, arith, ap, ◌∙◌, sym}
use Rattle.std.proofs.lemmas.Result.{err_from_is_err_and}
use Rattle.mdcc_def_language.specs.Schedule.{updates_from}
use Rattle.mdcc_def_language.specs.Updates.{update_of}
use Rattle.mdcc_sched.proofs.Steps.{on_false, word_read, word_refused, update_law}
use Rattle.mdcc_sched.proofs.lists.updates_from.Goals as goal

pub returns-in_err-update-clause-value : goal.returns-in_err-update-clause-value
returns-in_err-update-clause-value c =
    let p = err_from_is_err_and c.from_residual.result c.from_residual.ensures.1 in
    let read = ap (λ (word : List ℕ). update_of word (c.loop-place.place + 1)) (sym c.word_at-word.ensures.word) ∙ sym c.update_of.ensures.value ∙ c.in_err-update.was in
    rw (p.1, p.2) (on_false _ (word_refused (λ (s : Unit {0}). updates_from) (λ s column word. update_of word column) (λ s x. tt) update_law _ c.loop-place.updates tt c.loop-place.place c.args.line.now c.loop-place-test.true c.loop-place.invariant.same c.in_err-update.field-0.0 read))

pub loop-place-preserved : goal.loop-place-preserved
loop-place-preserved c =
    let read = ap (λ (word : List ℕ). update_of word (c.loop-place.place + 1)) (sym c.word_at-word.ensures.word) ∙ sym c.update_of.ensures.value ∙ c.in_ok-update.was in
    record {
      same = rw (c.in_ok-push.ensures.ok, c.word_at-word.ensures.word)
          (word_read (λ (s : Unit {0}). updates_from) (λ s column word. update_of word column) (λ s x. tt) update_law _ c.loop-place.updates tt c.loop-place.place c.args.line.now c.loop-place-test.true c.loop-place.invariant.same c.in_ok-update.update read);
      within = omega (arith, c.word_at-word.ensures.within);
    }
