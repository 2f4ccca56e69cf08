use Rattle.std.proofs.Common.{length, ap, arith}
use Rattle.mdcc_index.proofs.Tied.{unresolved-below}
use Rattle.mdcc_index.proofs.fact_pool.FactPool.write_set.Goals as goal

pub write_set_by-requires : goal.write_set_by-requires
write_set_by-requires c =
    let within = c.in-Some.ensures.below (length c.self.inside.cells.encodings) (unresolved-below _ c.self.invariant.facts c.self.invariant.has) in
    omega (arith, within, ap (λ s. length s.cells.encodings) c.self.view_is)
