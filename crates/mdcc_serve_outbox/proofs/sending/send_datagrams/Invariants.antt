use Rattle.std.proofs.Common.{◌≤◌}
use Rattle.mdcc_serve_outbox.specs.Sends.{Hands, first_datagrams}
use Rattle.mdcc_serve_outbox.proofs.sending.send_datagrams.Given as goal

abbrev pub invariant-loop-index : goal.invariant-loop-index
invariant-loop-index g l = record {
  handed : Hands g.L.Link.calls g.L.Link.lost g.L.Link.faults (first_datagrams l.head l.to l.message l.index) l.initial.link l.link l.failed;
  few : l.failed ≤ l.index;
}
