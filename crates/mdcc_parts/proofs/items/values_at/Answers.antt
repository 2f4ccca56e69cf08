use Rattle.std.proofs.Common.{◌≡◌, None, w64, to_z, of_z, arith}
use Rattle.std.proofs.lemmas.Int.{ints, to_z-of_z}
use Rattle.mdcc_parts.proofs.Elements.{HasRead-any, goes_on}
use Rattle.mdcc_parts.proofs.items.values_at.Goals as goal

pub loop-preserved : goal.loop-preserved
loop-preserved c =
    let value = c.in_ok-value.value in
    let same : to_z w64 (of_z w64 value) ≡ value = grind (arith, ints, to_z-of_z) in
    rw (c.push.ensures, same) (HasRead-any _ None (goes_on c.loop.invariant c.loop-test.true c.in_ok-value.ensures))
