use Rattle.std.proofs.Common.{◌≡◌, ◌++◌, ◌+◌, ◌≤◌, length}
use Rattle.mdcc_world.proofs.report.extend.Given as goal

abbrev pub invariant-loop-line : goal.invariant-loop-line
invariant-loop-line l = record {
  all : l.lines.items ++ l.line-iterator.rest.items ≡ l.fn.lines.items ++ l.fn.more.items;
  room : l.lines.len + length l.line-iterator.rest.items ≤ l.lines.cap;
}
