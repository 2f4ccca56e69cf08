use Rattle.mdcc_theorem_bounds.proofs.HeldTold.{held_base, one_base, one_write}
use Rattle.mdcc_theorem_bounds.proofs.held.held.Goals as goal

pub returns-clause-holds : goal.returns-clause-holds
returns-clause-holds c = held_base

pub returns-clause-one_write : goal.returns-clause-one_write
returns-clause-one_write c = one_write

pub returns-clause-one_base : goal.returns-clause-one_base
returns-clause-one_base c = one_base
