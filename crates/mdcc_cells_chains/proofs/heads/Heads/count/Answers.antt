use Rattle.std.proofs.Common.{length, ap, arith}
use Rattle.mdcc_cells_chains.proofs.Blocks.{heads-length}
use Rattle.mdcc_cells_chains.proofs.heads.Heads.count.Goals as goal

pub returns : goal.returns
returns c = omega (arith, ap length c.self.view_is, heads-length c.self.inside.blocks.items c.self.inside.heads.items c.self.inside.count)
