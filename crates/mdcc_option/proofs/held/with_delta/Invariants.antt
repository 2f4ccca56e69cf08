use Rattle.std.proofs.Common.{◌≡◌, ◌++◌, drop, cond}
use Rattle.mdcc_option.specs.OneCopy.{with_delta}
use Rattle.mdcc_option.proofs.held.with_delta.Given as goal

abbrev pub invariant-loop-other : goal.invariant-loop-other
invariant-loop-other l =
    l.list ++ cond l.placed (drop l.other-index l.deltas) (with_delta (drop l.other-index l.deltas) l.delta) ≡ with_delta l.deltas l.delta
