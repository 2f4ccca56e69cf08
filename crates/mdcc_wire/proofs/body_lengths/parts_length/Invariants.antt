use Rattle.std.proofs.Common.{◌≡◌, ◌+◌, ◌*◌, ◌≤◌, drop}
use Rattle.mdcc_base.specs.Counts.{sum_over}
use Rattle.mdcc_def_messages.specs.Lengths.{part_length}
use Rattle.mdcc_wire.proofs.body_lengths.parts_length.Given as goal

abbrev pub invariant-loop-part : goal.invariant-loop-part
invariant-loop-part l = record {
  whole : l.total + sum_over part_length (drop l.part-index l.parts) ≡ sum_over part_length l.parts;
  bound : l.total ≤ 781 * l.part-index;
}
