use Rattle.mdcc_theorem_bounds.proofs.HeldTold.{held_deltas}
use Rattle.mdcc_theorem_bounds.proofs.held.executed.Goals as goal

pub returns : goal.returns
returns c = held_deltas
