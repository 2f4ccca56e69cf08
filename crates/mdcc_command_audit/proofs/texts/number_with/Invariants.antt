use Rattle.std.proofs.Common.{drop, ◌+◌, ◌≡◌, ◌≤◌}
use Rattle.mdcc_command_audit.specs.Texts.{number_with}
use Rattle.mdcc_command_audit.proofs.texts.number_with.Given as goal

abbrev pub invariant-loop-e : goal.invariant-loop-e
invariant-loop-e l = record {
  counted : l.count + number_with l.verdict (drop l.e-index l.verdicts) ≡ number_with l.verdict l.verdicts;
  few : l.count ≤ l.e-index;
}
