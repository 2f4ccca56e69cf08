use Rattle.std.proofs.Common.{◌≡◌, ◌++◌, drop}
use Rattle.mdcc_struct.proofs.options.Options.push_rest.Given as goal

abbrev pub invariant-loop-place : goal.invariant-loop-place
invariant-loop-place l = l.self ++ drop l.place l.other ≡ l.initial.self ++ drop l.from l.other
