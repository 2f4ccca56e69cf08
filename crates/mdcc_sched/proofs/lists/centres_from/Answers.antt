use Rattle.std.proofs.Common.{List, ℕ, ◌+◌, arith, ap, ◌∙◌, sym}
use Rattle.std.proofs.lemmas.Result.{err_from_is_err_and}
use Rattle.mdcc_def_language.specs.Schedule.{centres_from}
use Rattle.mdcc_sched.specs.Centres.{centre_above}
use Rattle.mdcc_sched.proofs.Steps.{on_false, word_read, word_refused, centre_law}
use Rattle.mdcc_sched.proofs.lists.centres_from.Goals as goal

pub returns-in_err-centre-clause-value : goal.returns-in_err-centre-clause-value
returns-in_err-centre-clause-value c =
    let p = err_from_is_err_and c.from_residual.result c.from_residual.ensures.1 in
    let read = ap (λ (word : List ℕ). centre_above c.args.cluster.now c.loop-place.last (c.loop-place.place + 1) word) (sym c.word_at-word.ensures.word) ∙ sym c.centre_above.ensures.value ∙ c.in_err-centre.was in
    rw (p.1, p.2) (on_false _ (word_refused (centres_from c.args.cluster.now) (centre_above c.args.cluster.now) (λ last centre. centre) (centre_law c.args.cluster.now) _ c.loop-place.centres c.loop-place.last c.loop-place.place c.args.line.now c.loop-place-test.true c.loop-place.invariant.same c.in_err-centre.field-0.0 read))

pub loop-place-preserved : goal.loop-place-preserved
loop-place-preserved c =
    let read = ap (λ (word : List ℕ). centre_above c.args.cluster.now c.loop-place.last (c.loop-place.place + 1) word) (sym c.word_at-word.ensures.word) ∙ sym c.centre_above.ensures.value ∙ c.in_ok-centre.was in
    record {
      same = rw (c.in_ok-push.ensures.ok, c.number-last.ensures.value, c.word_at-word.ensures.word)
          (word_read (centres_from c.args.cluster.now) (centre_above c.args.cluster.now) (λ last centre. centre) (centre_law c.args.cluster.now) _ c.loop-place.centres c.loop-place.last c.loop-place.place c.args.line.now c.loop-place-test.true c.loop-place.invariant.same c.in_ok-centre.centre read);
      within = omega (arith, c.word_at-word.ensures.within);
    }
