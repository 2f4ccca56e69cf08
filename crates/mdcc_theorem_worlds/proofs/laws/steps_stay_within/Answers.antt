use Rattle.mdcc_theorem_worlds.proofs.Within.{made-quiet, made-stays}
use Rattle.mdcc_theorem_worlds.proofs.laws.steps_stay_within.Goals as goal

pub returns-clause-within : goal.returns-clause-within
returns-clause-within c = made-stays

pub returns-clause-quiet : goal.returns-clause-quiet
returns-clause-quiet c = made-quiet
