use Rattle.mdcc_log.proofs.Rooms.{roomy_grows}
use Rattle.mdcc_log.proofs.laws.roomy_grows.Goals as goal

pub returns : goal.returns
returns c = roomy_grows
