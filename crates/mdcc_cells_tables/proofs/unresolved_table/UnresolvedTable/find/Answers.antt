use Rattle.mdcc_cells_tables.proofs.UnresolvedMore.{value-below}
use Rattle.mdcc_cells_tables.proofs.unresolved_table.UnresolvedTable.find.Goals as goal

pub returns-clause-below : goal.returns-clause-below
returns-clause-below c number below = rw (c.find.ensures, c.self.view_is) (value-below number c.args.self.now.entries c.args.tx below)
