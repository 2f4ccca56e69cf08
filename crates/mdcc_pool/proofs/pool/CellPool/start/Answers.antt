use Rattle.std.proofs.Common.{Some, sym, ap, ◌∙◌, subst}
use Rattle.std.specs.Prelude.{IsSome}
use Rattle.mdcc_pool.specs.Held.{bytes_held_at}
use Rattle.mdcc_pool.proofs.Kept.{held-record, length-stands}
use Rattle.mdcc_pool.proofs.Readings.{reading_start, record_left}
use Rattle.mdcc_pool.proofs.pool.CellPool.start.Goals as goal

pub at-requires : goal.at-requires
at-requires c =
    length-stands c.self.inside.cells c.self.inside.lens c.args.ticket.now.first
    (subst (λ pool. IsSome (bytes_held_at pool c.args.ticket.now.first)) (sym c.self.view_is) c.requires)

pub invariant_of-result : goal.invariant_of-result
invariant_of-result c =
    reading_start c.self.inside.cells c.self.inside.lens c.self.inside.free c.self.inside.spare c.self.invariant c.args.ticket.now.first c.at.result c.at.ensures

pub returns : goal.returns
returns c =
    ap (λ pool. bytes_held_at pool c.args.ticket.now.first) (sym c.self.view_is)
    ∙ held-record c.self.inside.cells c.self.inside.lens c.args.ticket.now.first c.at.result c.at.ensures
    ∙ ap Some (record_left c.self.inside.cells c.args.ticket.now.first c.at.result)
