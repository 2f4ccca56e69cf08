use Rattle.std.proofs.Common.{◌≡◌, drop}
use Rattle.mdcc_def_protocol.specs.Fit.{first_number, is_past_limit}
use Rattle.mdcc_escrow.proofs.quantity.first_past_limit.Given as goal

abbrev pub invariant-loop-quantity : goal.invariant-loop-quantity
invariant-loop-quantity l =
    first_number (is_past_limit l.limit l.quorums) (drop l.quantity-index l.quantities) ≡ first_number (is_past_limit l.limit l.quorums) l.quantities
