use Rattle.std.proofs.Common.{◌≡◌, None, Some, rules, ◌∙◌}
use Rattle.mdcc_manager.proofs.Kept.{found-kept, would_decide-found, would_decide-none}
use Rattle.mdcc_manager.proofs.manager.Manager.would_decide.Goals as goal

pub returns : goal.returns
returns c me epoch managing stands =
    let vote = c.args.vote.now in
    let found = c.in_ok-open.open.now in
    rw (
      c.outcome_of_marks.ensures,
      c.as_slice.ensures.value,
      c.marks_with-marks.ensures managing.votes stands.counts,
      c.as_slice-choices.ensures.value,
    )
    (would_decide-found c.args.cluster.now.quorums managing vote found
    (found-kept _ managing vote.tx (Some found) c.in_ok-open.ensures (c.deref.ensures.value ∙ stands.keeps)))

pub returns-in_err-open : goal.returns-in_err-open
returns-in_err-open c me epoch managing stands =
    let vote = c.args.vote.now in
    let none : c.from_residual.result ≡ None = search rules in
    none ∙ would_decide-none c.args.cluster.now.quorums managing vote (found-kept _ managing vote.tx None c.in_err-open.ensures (c.deref.ensures.value ∙ stands.keeps))
