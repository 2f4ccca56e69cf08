use Rattle.std.proofs.Common.{◌≡◌, drop}
use Rattle.mdcc_audit.specs.Auditing.{are_all_own}
use Rattle.mdcc_audit.proofs.verdicts.are_all_own.Given as goal

abbrev pub invariant-loop-i : goal.invariant-loop-i
invariant-loop-i l = are_all_own l.tx (drop l.i l.places) (drop l.i l.choices) ≡ are_all_own l.tx l.places l.choices
