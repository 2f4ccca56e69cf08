use Rattle.std.proofs.Common.{arith}
use Rattle.std.proofs.lemmas.Int.{ints, to_z-of_z}
use Rattle.mdcc_option.proofs.Deltas.{value_after-with_delta}
use Rattle.mdcc_option.proofs.held.value_with.Goals as goal

pub returns : goal.returns
returns c = rw value_after-with_delta (grind (arith, ints, to_z-of_z))
