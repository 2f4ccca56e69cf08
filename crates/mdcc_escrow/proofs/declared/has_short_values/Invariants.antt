use Rattle.std.proofs.Common.{All, take}
use Rattle.mdcc_escrow.specs.Capped.{IsShort}
use Rattle.mdcc_escrow.proofs.declared.has_short_values.Given as goal

abbrev pub invariant-loop-value : goal.invariant-loop-value
invariant-loop-value l = All IsShort (take l.value-index l.value-items)
