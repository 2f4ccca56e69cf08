-- The laws are the lemmas.
use Rattle.mdcc_theorem_fast_path.proofs.Accepting.{accepts, may}
use Rattle.mdcc_theorem_fast_path.proofs.acceptors_accept_where_they_may.Goals as goal

pub returns-clause-accepts : goal.returns-clause-accepts
returns-clause-accepts c = accepts

pub returns-clause-may : goal.returns-clause-may
returns-clause-may c = may
