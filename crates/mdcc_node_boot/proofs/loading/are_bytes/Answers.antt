use Rattle.std.proofs.Common.{arith}
use Rattle.mdcc_node_boot.proofs.Short.{each-byte}
use Rattle.mdcc_node_boot.proofs.loading.are_bytes.Goals as goal

pub returns : goal.returns
returns c = each-byte c.args.bytes.now (λ i. omega (arith, c.type_inv.bytes i))
