use Rattle.std.proofs.Common.{◌≡◌, ◌+◌, ◌*◌, ◌≤◌, drop}
use Rattle.mdcc_base.specs.Counts.{sum_over}
use Rattle.mdcc_def_messages.specs.Lengths.{delta_length}
use Rattle.mdcc_parts_append.proofs.lengths.deltas_length.Given as goal

abbrev pub invariant-loop-delta : goal.invariant-loop-delta
invariant-loop-delta l = record {
  whole : l.total + sum_over delta_length (drop l.delta-index l.adds) ≡ 0 + sum_over delta_length l.adds;
  bound : l.total ≤ 0 + 46 * l.delta-index;
}
