use Rattle.mdcc_theorem_round_trip.proofs.Elsewhere.{others-change-nothing}
use Rattle.mdcc_theorem_round_trip.proofs.acceptors_accept_in_any_order.Goals as goal

pub returns-clause-unchanged : goal.returns-clause-unchanged
returns-clause-unchanged c = others-change-nothing
