use Rattle.std.proofs.Common.{length, ◌≡◌}
use Rattle.mdcc_option.specs.Parts.{are_parts_ascending}
use Rattle.mdcc_check_histories.proofs.parts.are_ascending.Given as goal

abbrev pub invariant-loop-rest : goal.invariant-loop-rest
invariant-loop-rest l = are_parts_ascending l.rest ≡ are_parts_ascending l.parts

abbrev pub decreases-loop-rest : goal.decreases-loop-rest
decreases-loop-rest l = length l.rest
