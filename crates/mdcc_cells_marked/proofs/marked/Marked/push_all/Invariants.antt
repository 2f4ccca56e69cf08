use Rattle.std.proofs.Common.{◌≡◌, ◌+◌, ◌++◌, ◌≤◌, drop, length}
use Rattle.mdcc_cells_marked.specs.Marks.{marks_beside}
use Rattle.mdcc_cells_marked.proofs.marked.Marked.push_all.Given as goal

abbrev pub invariant-loop-left : goal.invariant-loop-left
invariant-loop-left l = record {
  within : l.left ≤ length l.options;
  fits : l.left + length l.self.entries ≤ l.self.room;
  room : l.self.room ≡ l.initial.self.room;
  entries : l.self.entries ≡ marks_beside (l.key, l.version) (drop l.left l.options) ++ l.initial.self.entries;
}

abbrev pub decreases-loop-left : goal.decreases-loop-left
decreases-loop-left l = l.left
