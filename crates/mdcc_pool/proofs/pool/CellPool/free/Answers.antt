use Rattle.std.proofs.Common.{◌≡◌, ◌-◌, Some, None, set, sym, ap, ◌∙◌, arith, subst}
use Rattle.std.specs.Prelude.{IsSome}
use Rattle.mdcc_pool.specs.Chains.{cell_bytes, step}
use Rattle.mdcc_pool.specs.Sizes.{cells_for}
use Rattle.mdcc_pool.specs.Held.{bytes_held_at}
use Rattle.mdcc_pool.specs.Pool.{record_at}
use Rattle.mdcc_pool.proofs.Kept.{held-free, held-record, kept-count, kept-free, length-stands, record-length}
use Rattle.mdcc_pool.proofs.pool.CellPool.free.Goals as goal

-- what the calls before the writes found
module _ (c : goal.After-set-2) where
  last-is : c.step-last.result ≡ step c.self.inside.cells (cells_for c.at.result - 1) c.args.ticket.first
  last-is = c.step-last.ensures ∙ ap (λ n. step c.self.inside.cells (n - 1) c.args.ticket.first) c.cells_for-count.ensures

  bytes-are : c.cell.result.bytes ≡ cell_bytes c.self.inside.cells c.step-last.result
  bytes-are = ap (λ x. x.bytes) c.cell.ensures

pub at-requires : goal.at-requires
at-requires c =
    length-stands c.self.inside.cells c.self.inside.lens c.args.ticket.first
    (subst (λ pool. IsSome (bytes_held_at pool c.args.ticket.first)) (sym c.self.view_is) c.requires)

pub overflow_cast-self : goal.overflow_cast-self
overflow_cast-self c = omega (arith, c.self.invariant.small, c.cells_for-count.ensures, kept-count c.self.inside.cells c.self.inside.lens c.self.inside.free c.self.inside.spare c.self.invariant c.args.ticket.first c.at.result c.at.ensures)

pub overflow_add-self : goal.overflow_add-self
overflow_add-self c = omega (arith, c.self.invariant.small, c.cells_for-count.ensures, kept-count c.self.inside.cells c.self.inside.lens c.self.inside.free c.self.inside.spare c.self.invariant c.args.ticket.first c.at.result c.at.ensures)

pub invariant_of-self : goal.invariant_of-self
invariant_of-self c =
    rw (c.set.ensures, c.set-2.ensures, c.cells_for-count.ensures)
    (kept-free c.self.inside.cells c.self.inside.lens c.self.inside.free c.self.inside.spare c.self.invariant c.args.ticket.first c.at.result c.step-last.result
    c.cell.result.bytes c.at.ensures (last-is c) (bytes-are c))

pub returns-clause-held : goal.returns-clause-held
returns-clause-held c =
    rw (c.set.ensures, c.set-2.ensures)
    (held-free c.self.inside.cells c.self.inside.lens c.self.inside.free c.self.inside.spare c.self.invariant c.args.ticket.first c.at.result c.step-last.result
    c.cell.result.bytes c.at.ensures (last-is c) (bytes-are c)
    ∙ ap (λ pool. set pool.held c.args.ticket.first None) c.self.view_is)

pub returns-clause-spare : goal.returns-clause-spare
returns-clause-spare c =
    let found : bytes_held_at c.args.self.now c.args.ticket.first ≡ Some (record_at c.self.inside.cells c.args.ticket.first c.at.result) =
    ap (λ pool. bytes_held_at pool c.args.ticket.first) (sym c.self.view_is) ∙ held-record c.self.inside.cells c.self.inside.lens c.args.ticket.first c.at.result c.at.ensures in
    let long = record-length c.self.inside.cells c.self.inside.lens c.self.inside.free c.self.inside.spare c.self.invariant c.args.ticket.first c.at.result c.at.ensures in
    rw found (omega (arith, ap (λ pool. pool.spare) c.self.view_is, c.cells_for-count.ensures, ap cells_for long))
