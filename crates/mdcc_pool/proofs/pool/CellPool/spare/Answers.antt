use Rattle.std.proofs.Common.{◌≡◌, ◌+◌, length, subst}
use Rattle.mdcc_pool.specs.Held.{cells_in_use}
use Rattle.mdcc_pool.proofs.Kept.{held-sum}
use Rattle.mdcc_pool.proofs.pool.CellPool.spare.Goals as goal

pub returns-clause-sum : goal.returns-clause-sum
returns-clause-sum c =
    subst (λ pool. c.self.inside.spare + cells_in_use pool.held ≡ length pool.held) c.self.view_is
    (held-sum c.self.inside.cells c.self.inside.lens c.self.inside.free c.self.inside.spare c.self.invariant)
