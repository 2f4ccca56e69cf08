use Rattle.mdcc_audit.proofs.InOrder.{choices-in-order, marks-in-order, outcomes-in-order}
use Rattle.mdcc_audit.proofs.laws.logs_are_in_order.Goals as goal

pub returns : goal.returns
returns c logs = (outcomes-in-order logs, marks-in-order logs, choices-in-order logs)
