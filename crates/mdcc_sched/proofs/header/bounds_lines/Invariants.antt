use Rattle.std.proofs.Common.{◌≡◌, ◌+◌, ◌-◌, ◌≤◌, length, true}
use Rattle.std.specs.List.{list_all}
use Rattle.mdcc_option.specs.Bounds.{is_bound}
use Rattle.mdcc_def_language.specs.Header.{more_bounds, bounds_lines}
use Rattle.mdcc_sched.proofs.MoreBounds.{onto_bounds}
use Rattle.mdcc_sched.proofs.header.bounds_lines.Given as goal

abbrev pub invariant-loop-rest : goal.invariant-loop-rest
invariant-loop-rest l = record {
  same : onto_bounds l.bounds (more_bounds (4 - length l.bounds) (length l.bounds + 1) l.rest) ≡ bounds_lines l.left;
  some : 1 ≤ length l.bounds;
  few : length l.bounds ≤ 4;
  each : list_all is_bound l.bounds ≡ true;
  number : l.rest.number ≤ l.left.number + length l.bounds;
}

abbrev pub decreases-loop-rest : goal.decreases-loop-rest
decreases-loop-rest l = 4 - length l.bounds
