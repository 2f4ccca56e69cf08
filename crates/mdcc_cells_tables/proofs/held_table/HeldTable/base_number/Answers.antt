use Rattle.mdcc_cells_tables.specs.HeldVersions.{held_of}
use Rattle.mdcc_cells_tables.proofs.HeldMore.{number-below}
use Rattle.mdcc_cells_tables.proofs.held_table.HeldTable.base_number.Goals as goal

pub returns-clause-within : goal.returns-clause-within
returns-clause-within c number below = rw (c.base_number.ensures, c.held_of.ensures) (number-below (held_of c.args.self.now c.args.key.now) number (below c.args.key.now))
