use Rattle.std.proofs.Common.{◌≡◌, take}
use Rattle.mdcc_option.specs.OneCopy.{seen_of}
use Rattle.mdcc_option.proofs.held.seen_of.Given as goal

abbrev pub invariant-loop-delta : goal.invariant-loop-delta
invariant-loop-delta l = l.seen ≡ seen_of (take l.delta-index l.deltas)
