use Rattle.mdcc_cells_tables.proofs.UnresolvedRead.{all-read, unresolved-read, write_set-read}
use Rattle.mdcc_cells_tables.proofs.theorems.write_sets_are_read.Goals as goal

pub returns-clause-one : goal.returns-clause-one
returns-clause-one c = unresolved-read

pub returns-clause-all : goal.returns-clause-all
returns-clause-all c = all-read

pub returns-clause-fact : goal.returns-clause-fact
returns-clause-fact c = write_set-read
