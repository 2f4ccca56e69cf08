use Rattle.mdcc_cells_tables.proofs.Entries.{keys-in_cells, transactions-in_cells}
use Rattle.mdcc_cells_tables.proofs.rooms.entries_in_cells.Goals as goal

pub returns-clause-keys : goal.returns-clause-keys
returns-clause-keys c = keys-in_cells

pub returns-clause-transactions : goal.returns-clause-transactions
returns-clause-transactions c = transactions-in_cells
