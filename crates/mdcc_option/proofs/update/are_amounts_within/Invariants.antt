use Rattle.std.proofs.Common.{◌≡◌, drop}
use Rattle.std.specs.List.{list_all}
use Rattle.mdcc_option.specs.Transaction.{is_amount_within}
use Rattle.mdcc_option.proofs.update.are_amounts_within.Given as goal

abbrev pub invariant-loop-amount : goal.invariant-loop-amount
invariant-loop-amount l =
    list_all (is_amount_within l.bounds) (drop l.amount-index l.amounts) ≡ list_all (is_amount_within l.bounds) l.amounts
