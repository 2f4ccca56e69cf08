use Rattle.std.proofs.Common.{arith}
use Rattle.mdcc_tests.proofs.Read.{each-byte}
use Rattle.mdcc_tests.proofs.adding.are_bytes.Goals as goal

pub returns : goal.returns
returns c = each-byte c.args.bytes.now (λ i. omega (arith, c.type_inv.bytes i))
