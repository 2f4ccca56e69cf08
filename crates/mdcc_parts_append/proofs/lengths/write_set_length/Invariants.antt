use Rattle.std.proofs.Common.{◌≡◌, ◌+◌, ◌*◌, ◌≤◌, drop}
use Rattle.mdcc_base.specs.Counts.{sum_over}
use Rattle.mdcc_def_messages.specs.Lengths.{written_length}
use Rattle.mdcc_parts_append.proofs.lengths.write_set_length.Given as goal

abbrev pub invariant-loop-written : goal.invariant-loop-written
invariant-loop-written l = record {
  whole : l.total + sum_over written_length (drop l.written-index l.write_set) ≡ 1 + sum_over written_length l.write_set;
  bound : l.total ≤ 1 + 41 * l.written-index;
}
