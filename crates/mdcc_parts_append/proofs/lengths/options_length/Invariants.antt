use Rattle.std.proofs.Common.{◌≡◌, ◌+◌, ◌*◌, ◌≤◌, drop}
use Rattle.mdcc_base.specs.Counts.{sum_over}
use Rattle.mdcc_def_messages.specs.Lengths.{entry_length}
use Rattle.mdcc_parts_append.proofs.lengths.options_length.Given as goal

abbrev pub invariant-loop-place : goal.invariant-loop-place
invariant-loop-place l = record {
  whole : l.total + sum_over (λ e. entry_length e.1) (drop l.place l.options) ≡ 4 + sum_over (λ e. entry_length e.1) l.options;
  bound : l.total ≤ 4 + 1120 * l.place;
}
