use Rattle.mdcc_theorem_server_runs.proofs.Same.{dropped_leaves, turns_as_good}
use Rattle.mdcc_theorem_server_runs.proofs.laws.dropped_pieces_change_nothing.Goals as goal

pub returns-clause-table : goal.returns-clause-table
returns-clause-table c = dropped_leaves

pub returns-clause-turns : goal.returns-clause-turns
returns-clause-turns c = turns_as_good
