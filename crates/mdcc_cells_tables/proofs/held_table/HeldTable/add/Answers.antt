use Rattle.mdcc_cells_tables.proofs.HeldMore.{table-below, table-more}
use Rattle.mdcc_cells_tables.proofs.held_table.HeldTable.add.Goals as goal

pub returns-clause-holds : goal.returns-clause-holds
returns-clause-holds c facts = table-more c.args.self.now c.raise_by.new.self facts c.args.fact.now c.args.number c.raise_by.ensures.held

pub returns-clause-below : goal.returns-clause-below
returns-clause-below c = table-below c.args.self.now c.raise_by.new.self c.args.fact.now c.args.number c.raise_by.ensures.held
