use Rattle.std.proofs.Common.{◌≡◌, drop}
use Rattle.mdcc_struct.specs.Options.{differing}
use Rattle.mdcc_struct.specs.Steps.{IsReached}
use Rattle.mdcc_struct.proofs.options.Options.differing.Given as goal

abbrev pub invariant-loop-i : goal.invariant-loop-i
invariant-loop-i l = record {
  left : differing (drop l.i l.self) l.other ≡ differing l.self l.other;
  reached : IsReached l.self l.i l.other l.place;
}
