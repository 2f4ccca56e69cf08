use Rattle.mdcc_cells_tables.proofs.UnresolvedMore.{below-next, length-next, lists-more}
use Rattle.mdcc_cells_tables.proofs.unresolved_table.UnresolvedTable.add.Goals as goal

pub returns-clause-lists : goal.returns-clause-lists
returns-clause-lists g c facts lists tells newest =
    rw c.update.ensures.entries (lists-more (g.H.HeardTest.heard c.args.test.now) c.args.self.now.entries facts c.args.fact.now c.args.number lists tells newest)

pub returns-clause-below : goal.returns-clause-below
returns-clause-below g c below = rw c.update.ensures.entries (below-next (g.H.HeardTest.heard c.args.test.now) c.args.number c.args.self.now.entries c.args.fact.now below)

pub returns-clause-more : goal.returns-clause-more
returns-clause-more g c = rw c.update.ensures.entries (length-next (g.H.HeardTest.heard c.args.test.now) c.args.number c.args.self.now.entries c.args.fact.now)
