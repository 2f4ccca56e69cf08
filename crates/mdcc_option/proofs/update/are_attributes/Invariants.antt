use Rattle.std.proofs.Common.{◌≡◌, drop}
use Rattle.mdcc_option.specs.Transaction.{are_attributes}
use Rattle.mdcc_option.proofs.update.are_attributes.Given as goal

abbrev pub invariant-loop-amount : goal.invariant-loop-amount
invariant-loop-amount l =
    are_attributes l.count l.last (drop l.amount-index l.amounts) ≡ are_attributes l.count 0 l.amounts
