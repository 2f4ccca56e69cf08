use Rattle.std.proofs.Common.{◌≡◌, None, Some, ap, ◌∙◌}
use Rattle.std.specs.Prelude.{is_some}
use Rattle.mdcc_def_protocol.specs.Learner.{learned}
use Rattle.mdcc_def_protocol.specs.Volatile.{opened_of}
use Rattle.mdcc_manager.proofs.Kept.{decision-found, found-kept, none-found}
use Rattle.mdcc_manager.proofs.Sides.{sides-decide}
use Rattle.mdcc_manager.proofs.manager.Manager.is_decided.Goals as goal

pub returns : goal.returns
returns c me epoch quorums managing stands =
    let tx = c.args.tx.now in
    let found = c.in-Some.open.now in
    rw (
      c.are_deciding.ensures,
      c.as_slice-2.ensures.value,
      c.sides_learned-sides.ensures quorums managing.votes stands.counts,
      c.as_slice.ensures.value,
    )
    (sides-decide (λ entry. learned quorums managing.votes tx entry.choice.key) found.choices
    ∙ ap is_some (decision-found quorums managing.votes tx (opened_of managing tx) found
    (found-kept _ managing tx (Some found) c.in-Some.ensures (c.deref.ensures.value ∙ stands.keeps))))

pub returns-in_default : goal.returns-in_default
returns-in_default c me epoch quorums managing stands =
    let tx = c.args.tx.now in
    ap is_some (none-found _ (opened_of managing tx) (found-kept _ managing tx None c.in_default.ensures (c.deref.ensures.value ∙ stands.keeps)))
