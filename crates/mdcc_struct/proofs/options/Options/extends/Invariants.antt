use Rattle.std.proofs.Common.{◌≡◌, drop}
use Rattle.mdcc_struct.specs.Options.{extends}
use Rattle.mdcc_struct.specs.Steps.{IsReached}
use Rattle.mdcc_struct.proofs.options.Options.extends.Given as goal

abbrev pub invariant-loop-i : goal.invariant-loop-i
invariant-loop-i l = record {
  left : extends l.self (drop l.i l.other) ≡ extends l.self l.other;
  reached : IsReached l.other l.i l.self l.place;
}
