use Rattle.std.proofs.Common.{◌≤◌}
use Rattle.mdcc_command_dump.proofs.Printed.{Printed}
use Rattle.mdcc_command_dump.proofs.dumping.print_payloads.Given as goal

abbrev pub invariant-loop-index : goal.invariant-loop-index
invariant-loop-index g l = record {
  printed : Printed (g.O.Sink.held l.fn.out) (g.O.Sink.held l.out) l.payloads l.index;
  later : g.O.Sink.faults l.fn.out ≤ g.O.Sink.faults l.out;
}
