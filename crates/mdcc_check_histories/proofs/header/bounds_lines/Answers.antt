use Rattle.std.proofs.Common.{ap, refl, sym, ◌∙◌, ◌+◌, ◌<◌, ◌≡◌, ◌++◌, ◌∷◌, length, arith, []}
use Rattle.mdcc_def_language.specs.Header.{bound_line}
use Rattle.std.proofs.lemmas.Result.{err_from_is_err_and}
use Rattle.mdcc_sched.proofs.MoreBounds.{first_bound, bound_read, bound_refused, bounds_full, bounds_ended, all_more, length_more}
use Rattle.mdcc_check_histories.proofs.header.bounds_lines.Goals.{then-loop-rest-test+else-is_next, else-loop-rest-test}
use Rattle.mdcc_check_histories.proofs.header.bounds_lines.Goals as goal

pub loop-rest-init : goal.loop-rest-init
loop-rest-init c =
    rw (c.push_bound.ensures, c.new-bounds.ensures) (record {
      same = first_bound c.args.left.now (c.in_ok-first.first, c.in_ok-first.rest) (sym c.bound_line.ensures.value ∙ c.in_ok-first.was);
      some = omega arith;
      few = omega arith;
      each = all_more [] c.in_ok-first.first refl c.in_ok-first.ensures.good;
      number = omega (arith, c.in_ok-first.ensures.next);
    })

pub returns-in_err-next-clause-value : goal.returns-in_err-next-clause-value
returns-in_err-next-clause-value c =
    let p = err_from_is_err_and c.from_residual-in_err-next.result c.from_residual-in_err-next.ensures.1 in
    let few : length c.loop-rest.bounds < 4 = omega (arith, c.len.ensures.value, c.loop-rest-test.true) in
    let read = ap (λ n. bound_line (n + 1) c.loop-rest.rest) (sym c.len-in-loop-rest.ensures.value) ∙ sym c.bound_line-in-loop-rest.ensures.value ∙ c.in_err-next.was in
    rw (p.1, p.2) (bound_refused _ c.loop-rest.bounds c.loop-rest.rest c.loop-rest.invariant.same c.in_err-next.field-0.0 few
    (sym c.is_next.ensures ∙ c.if-is_next.true) read)

pub loop-rest-preserved : goal.loop-rest-preserved
loop-rest-preserved c =
    let few : length c.loop-rest.bounds < 4 = omega (arith, c.len.ensures.value, c.loop-rest-test.true) in
    let more : length (c.loop-rest.bounds ++ c.in_ok-next.next ∷ []) ≡ length c.loop-rest.bounds + 1 = length_more c.loop-rest.bounds c.in_ok-next.next in
    let read = ap (λ n. bound_line (n + 1) c.loop-rest.rest) (sym c.len-in-loop-rest.ensures.value) ∙ sym c.bound_line-in-loop-rest.ensures.value ∙ c.in_ok-next.was in
    rw c.push_bound-in-loop-rest.ensures (record {
      same = bound_read _ c.loop-rest.bounds c.loop-rest.rest c.loop-rest.invariant.same (c.in_ok-next.next, c.in_ok-next.behind) few (sym c.is_next.ensures ∙ c.if-is_next.true) read;
      some = omega (arith, more);
      few = omega (arith, more, few);
      each = all_more c.loop-rest.bounds c.in_ok-next.next c.loop-rest.invariant.each c.in_ok-next.ensures.good;
      number = omega (arith, more, c.in_ok-next.ensures.next, c.loop-rest.invariant.number);
    })

pub returns-clause-value : goal.returns-clause-value
returns-clause-value c =
    elim c.loop-rest-test.branch [
      | then-loop-rest-test+else-is_next w ↦ bounds_ended _ c.loop-rest.bounds c.loop-rest.rest c.loop-rest.invariant.same (sym w.is_next.ensures ∙ w.if-is_next.false)
      | else-loop-rest-test w ↦ bounds_full _ c.loop-rest.bounds c.loop-rest.rest c.loop-rest.invariant.same (omega (arith, c.len.ensures.value, w.loop-rest-test.false))
    ]
