use Rattle.std.proofs.Common.{◌≡◌, None, Some, ap, ◌∙◌}
use Rattle.std.specs.Prelude.{is_some}
use Rattle.mdcc_def_protocol.specs.Learner.{learned_with}
use Rattle.mdcc_manager.proofs.Kept.{found-kept, would_decide-found, would_decide-none}
use Rattle.mdcc_manager.proofs.Sides.{sides-decide}
use Rattle.mdcc_manager.proofs.manager.Manager.would_end.Goals as goal

pub returns : goal.returns
returns c me epoch managing stands =
    let quorums = c.args.cluster.now.quorums in
    let vote = c.args.vote.now in
    let found = c.in-Some.open.now in
    rw (
      c.are_deciding.ensures,
      c.as_slice.ensures.value,
      c.sides_with-sides.ensures managing.votes stands.counts,
      c.as_slice-choices.ensures.value,
    )
    (sides-decide (λ entry. learned_with quorums managing.votes vote vote.tx entry.choice.key) found.choices
    ∙ ap is_some (would_decide-found quorums managing vote found
    (found-kept _ managing vote.tx (Some found) c.in-Some.ensures (c.deref.ensures.value ∙ stands.keeps))))

pub returns-in_default : goal.returns-in_default
returns-in_default c me epoch managing stands =
    let vote = c.args.vote.now in
    ap is_some (would_decide-none c.args.cluster.now.quorums managing vote (found-kept _ managing vote.tx None c.in_default.ensures (c.deref.ensures.value ∙ stands.keeps)))
