use Rattle.std.proofs.Common.{ap, sym, ◌∙◌}
use Rattle.mdcc_option.specs.Transaction.{checked_by}
use Rattle.mdcc_check_histories.proofs.InOrder.{in_order}
use Rattle.mdcc_check_histories.proofs.texts.fault_in_order.Goals as goal

pub returns : goal.returns
returns c = in_order c.args.schema.now c.args.parts.now c.requires ∙ ap (λ fault. checked_by fault c.args.parts.now) (sym c.parts_fault.ensures)
