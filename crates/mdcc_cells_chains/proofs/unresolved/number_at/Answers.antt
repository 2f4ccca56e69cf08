use Rattle.std.proofs.Common.{sym, ◌∙◌}
use Rattle.mdcc_cells_chains.proofs.Ascending.{value-at, value-past}
use Rattle.mdcc_cells_chains.proofs.unresolved.number_at.Goals as goal

pub returns-in-Some : goal.returns-in-Some
returns-in-Some c =
    c.number_of.ensures ∙ value-at c.args.entries.now c.args.tx.now c.args.place c.in-Some.entry c.requires.ascending c.requires.place (sym c.in-Some.ensures)

pub returns-in-None : goal.returns-in-None
returns-in-None c = value-past c.args.entries.now c.args.tx.now c.args.place c.requires.ascending c.requires.place (sym c.in-None.ensures)
