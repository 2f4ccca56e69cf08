use Rattle.mdcc_world_log_stops.proofs.Stopped.{stopped_is_roomy}
use Rattle.mdcc_world_log_stops.proofs.stops.stopped_is_roomy.Goals as goal

pub returns : goal.returns
returns c = stopped_is_roomy
