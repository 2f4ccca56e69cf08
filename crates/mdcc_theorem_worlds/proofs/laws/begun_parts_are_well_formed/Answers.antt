use Rattle.mdcc_theorem_worlds.proofs.Drafting.{parts-formed}
use Rattle.mdcc_theorem_worlds.proofs.laws.begun_parts_are_well_formed.Goals as goal

pub returns : goal.returns
returns c = parts-formed
