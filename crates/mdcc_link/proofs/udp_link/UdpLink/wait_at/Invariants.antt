use Rattle.std.proofs.Common.{◌≡◌, ◌≤◌}
use Rattle.mdcc_link.specs.Pauses.{busy_at}
use Rattle.mdcc_link.proofs.udp_link.UdpLink.wait_at.Given as goal

abbrev pub invariant-loop : goal.invariant-loop
invariant-loop g l = record {
  busy : busy_at l.at l.fn.self.pauses ≤ busy_at l.at l.self.pauses;
  lost : l.self.lost ≡ l.fn.self.lost;
  faults : l.self.faults ≡ l.fn.self.faults;
}
