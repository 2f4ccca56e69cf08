use Rattle.std.proofs.Common.{length, sym, ap, ◌∙◌}
use Rattle.mdcc_pool.proofs.Held.{held-length}
use Rattle.mdcc_pool.proofs.pool.CellPool.size.Goals as goal

pub returns : goal.returns
returns c =
    c.size.ensures ∙ sym c.self.invariant.alike
    ∙ sym (held-length c.self.inside.cells 0 c.self.inside.lens)
    ∙ ap (λ pool. length pool.held) c.self.view_is
