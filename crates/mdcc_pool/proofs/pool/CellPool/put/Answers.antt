use Rattle.std.proofs.Common.{◌+◌, Some, None, length, set, get_or, option_map, sym, ap, ◌∙◌, arith}
use Rattle.mdcc_pool.specs.Pool.{record_at}
use Rattle.mdcc_pool.proofs.Held.{held-get, held-length}
use Rattle.mdcc_pool.proofs.Kept.{free-within-lens, held-put, kept-put, unused}
use Rattle.mdcc_pool.proofs.pool.CellPool.put.Goals as goal

pub invariant_of-self : goal.invariant_of-self
invariant_of-self c =
    rw (c.write-self-inside.ensures.cells, c.set.ensures, c.write-self-inside.ensures.after, c.cells_for-needed.ensures)
    (kept-put c.self.inside.cells c.self.inside.lens c.self.inside.free c.self.inside.spare c.self.invariant c.args.bytes.now
    (omega (arith, c.if-needed-self.false, c.cells_for-needed.ensures)))

pub returns-clause-unused : goal.returns-clause-unused
returns-clause-unused c =
    ap (λ pool. get_or pool.held c.self.inside.free None) (sym c.self.view_is)
    ∙ held-get c.self.inside.cells 0 c.self.inside.lens c.self.inside.free
    ∙ ap (option_map (record_at c.self.inside.cells (0 + c.self.inside.free)))
    (unused c.self.inside.cells c.self.inside.lens c.self.inside.free c.self.inside.spare c.self.invariant c.args.bytes.now
    (omega (arith, c.if-needed-self.false, c.cells_for-needed.ensures)))

pub returns-clause-within : goal.returns-clause-within
returns-clause-within c =
    omega (
      arith,
      ap (λ pool. length pool.held) (sym c.self.view_is),
      held-length c.self.inside.cells 0 c.self.inside.lens,
      free-within-lens c.self.inside.cells c.self.inside.lens c.self.inside.free c.self.inside.spare c.self.invariant c.args.bytes.now
          (omega (arith, c.if-needed-self.false, c.cells_for-needed.ensures)),
    )

pub returns-clause-held : goal.returns-clause-held
returns-clause-held c =
    rw (c.write-self-inside.ensures.cells, c.set.ensures)
    (held-put c.self.inside.cells c.self.inside.lens c.self.inside.free c.self.inside.spare c.self.invariant c.args.bytes.now
    (omega (arith, c.if-needed-self.false, c.cells_for-needed.ensures))
    ∙ ap (λ pool. set pool.held c.self.inside.free (Some c.args.bytes.now)) c.self.view_is)
