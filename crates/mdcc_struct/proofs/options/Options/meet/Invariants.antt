use Rattle.std.proofs.Common.{◌≡◌, ◌++◌, drop}
use Rattle.mdcc_struct.specs.Options.{meet_of}
use Rattle.mdcc_struct.specs.Steps.{IsReached}
use Rattle.mdcc_struct.proofs.options.Options.meet.Given as goal

abbrev pub invariant-loop-i : goal.invariant-loop-i
invariant-loop-i l = record {
  made : l.both ++ meet_of (drop l.i l.self) l.other ≡ meet_of l.self l.other;
  reached : IsReached l.self l.i l.other l.place;
}
