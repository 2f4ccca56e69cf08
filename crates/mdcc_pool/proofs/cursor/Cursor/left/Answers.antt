use Rattle.std.proofs.Common.{length, sym, ap, ◌∙◌}
use Rattle.mdcc_pool.proofs.Readings.{left_length}
use Rattle.mdcc_pool.proofs.cursor.Cursor.left.Goals as goal

pub returns : goal.returns
returns c =
    sym (left_length c.self.inside.cells.now c.self.inside.at c.self.inside.within c.self.inside.left c.self.invariant)
    ∙ ap length c.self.view_is
