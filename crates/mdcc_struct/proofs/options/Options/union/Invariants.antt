use Rattle.std.proofs.Common.{◌≡◌, ◌++◌, ◌+◌, ◌-◌, drop}
use Rattle.mdcc_struct.specs.Maps.{union}
use Rattle.mdcc_struct.proofs.options.Options.union.Given as goal

abbrev pub invariant-loop-i : goal.invariant-loop-i
invariant-loop-i l = l.all ++ union (drop l.i l.self) (drop l.j l.other) ≡ union l.self l.other

abbrev pub decreases-loop-i : goal.decreases-loop-i
decreases-loop-i l = l.len - l.i + (l.other_len - l.j)
