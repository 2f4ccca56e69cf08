use Rattle.std.proofs.Common.{length, ap, arith}
use Rattle.mdcc_pool.proofs.Fresh.{extended_length}
use Rattle.mdcc_pool.proofs.region.Region.cell.Goals as goal

pub unused-requires : goal.unused-requires
unused-requires c = omega (arith, ap length c.self.view_is, c.requires, c.self.invariant.0, extended_length c.self.inside.size c.self.inside.cells.items c.self.invariant.0)
