use Rattle.std.proofs.Common.{◌≡◌, None, Some, rules, ◌∙◌}
use Rattle.mdcc_manager.proofs.Kept.{decision-found, found-kept, none-found}
use Rattle.mdcc_def_protocol.specs.Volatile.{opened_of}
use Rattle.mdcc_manager.proofs.manager.Manager.decision.Goals as goal

pub returns : goal.returns
returns c me epoch quorums managing stands =
    let found = c.in_ok-open.open.now in
    rw (
      c.outcome_of_marks.ensures,
      c.as_slice-2.ensures.value,
      c.marks_learned-marks.ensures quorums managing.votes stands.counts,
      c.as_slice.ensures.value,
    )
    (decision-found quorums managing.votes c.args.tx (opened_of managing c.args.tx) found
    (found-kept _ managing c.args.tx (Some found) c.in_ok-open.ensures (c.deref.ensures.value ∙ stands.keeps)))

pub returns-in_err-open : goal.returns-in_err-open
returns-in_err-open c me epoch quorums managing stands =
    let none : c.from_residual.result ≡ None = search rules in
    none ∙ none-found _ (opened_of managing c.args.tx) (found-kept _ managing c.args.tx None c.in_err-open.ensures (c.deref.ensures.value ∙ stands.keeps))
