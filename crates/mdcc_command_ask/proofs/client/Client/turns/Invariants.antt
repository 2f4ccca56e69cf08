use Rattle.std.proofs.Common.{◌≤◌, length}
use Rattle.mdcc_command_ask.proofs.Turns.{Went}
use Rattle.mdcc_command_ask.proofs.client.Client.turns.Given as goal

abbrev pub invariant-loop-index : goal.invariant-loop-index
invariant-loop-index g l = record {
  went : Went g.L.Link.calls g.O.Sink.held l.config l.order l.fn.self l.fn.link l.fn.out l.index l.link l.out l.self;
  few : length l.self.known ≤ length l.order.keys;
  link : g.L.Link.faults l.fn.link ≤ g.L.Link.faults l.link;
  output : g.O.Sink.faults l.fn.out ≤ g.O.Sink.faults l.out;
}
