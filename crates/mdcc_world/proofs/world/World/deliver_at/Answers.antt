use Rattle.mdcc_world.proofs.Happened.{opened, refused-is, residual}
use Rattle.mdcc_theorem_worlds.proofs.Events.{delivery-is}
use Rattle.mdcc_theorem_worlds.specs.DeliveryProgress.{at_message, delivery_reported}
use Rattle.mdcc_world.proofs.world.World.deliver_at.Goals as goal

pub returns-in_err-at_message-clause-happens : goal.returns-in_err-at_message-clause-happens
returns-in_err-at_message-clause-happens c w like =
    let number = c.args.number in
    let fault = c.in_err-at_message.field-0.0 in
    rw (residual c.from_residual.result fault c.from_residual.ensures.1)
    (refused-is _ (at_message w number) (delivery_reported w number) fault (delivery-is w number) (c.in_err-at_message.ensures.message w like))

pub returns-clause-happens : goal.returns-clause-happens
returns-clause-happens c w like =
    let number = c.args.number in
    opened c.report_delivery.result _ _ _ _ (at_message w number) (delivery_reported w number) (delivery-is w number)
    (c.in_ok-at_message.ensures.message w like) (c.report_delivery.ensures.happens w like)
