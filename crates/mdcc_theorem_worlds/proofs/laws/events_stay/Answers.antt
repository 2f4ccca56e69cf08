use Rattle.mdcc_theorem_worlds.proofs.Staying.{event-between}
use Rattle.mdcc_theorem_worlds.proofs.laws.events_stay.Goals as goal

pub returns : goal.returns
returns c = event-between
