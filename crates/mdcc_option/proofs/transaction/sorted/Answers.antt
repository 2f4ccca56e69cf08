use Rattle.std.proofs.Common.{◌≡◌, take, arith}
use Rattle.std.proofs.lemmas.List.{take_all}
use Rattle.mdcc_option.proofs.Ordered.{ascending-sorted_parts, IsPermutation-sorted_parts}
use Rattle.mdcc_option.proofs.transaction.sorted.Goals as goal

pub returns-clause-ascending : goal.returns-clause-ascending
returns-clause-ascending c = λ apart.
    let whole : take c.loop-part.part-index c.args.parts.now ≡ c.args.parts.now = take_all _ _ (omega arith) in
    rw (c.loop-part.invariant.sorted, whole) (ascending-sorted_parts c.args.parts.now apart)

pub returns-clause-same : goal.returns-clause-same
returns-clause-same c =
    let whole : take c.loop-part.part-index c.args.parts.now ≡ c.args.parts.now = take_all _ _ (omega arith) in
    rw (c.loop-part.invariant.sorted, whole) (IsPermutation-sorted_parts c.args.parts.now)
