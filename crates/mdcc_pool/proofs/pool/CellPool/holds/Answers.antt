use Rattle.std.proofs.Common.{is_some, sym, ap, ◌∙◌}
use Rattle.mdcc_pool.specs.Held.{bytes_held_at}
use Rattle.mdcc_pool.proofs.Kept.{held-is}
use Rattle.mdcc_pool.proofs.pool.CellPool.holds.Goals as goal

pub returns : goal.returns
returns c =
    c.is_some.ensures ∙ ap is_some c.get.ensures
    ∙ sym (held-is c.self.inside.cells c.self.inside.lens c.args.ticket.now.first)
    ∙ ap (λ pool. is_some (bytes_held_at pool c.args.ticket.now.first)) c.self.view_is
