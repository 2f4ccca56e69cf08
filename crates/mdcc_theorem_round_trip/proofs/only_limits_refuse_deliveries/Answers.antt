use Rattle.mdcc_theorem_round_trip.proofs.Refusals.{only-limits}
use Rattle.mdcc_theorem_round_trip.proofs.only_limits_refuse_deliveries.Goals as goal

pub returns : goal.returns
returns c = only-limits
