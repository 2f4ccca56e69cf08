use Rattle.std.proofs.Common.{refl}
use Rattle.mdcc_audit.proofs.votes.Votes.choose.Goals as goal

pub returns-in_ok-insert-in-Acceptance : goal.returns-in_ok-insert-in-Acceptance
returns-in_ok-insert-in-Acceptance c = rw (c.in-Acceptance.is, c.in_ok-insert-in-Acceptance.ensures.keys, c.at_instance-instance.ensures) refl

pub returns-in_ok-insert-in-Rejection-2 : goal.returns-in_ok-insert-in-Rejection-2
returns-in_ok-insert-in-Rejection-2 c =
    rw (c.in-Rejection.is, c.in_ok-insert-in-Rejection-2.ensures.keys, c.in_ok-insert-in-Rejection.ensures.keys, c.at_instance-instance.ensures, c.of_tx.ensures) refl
