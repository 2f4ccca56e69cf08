use Rattle.std.proofs.Common.{◌≡◌, ◌+◌, length}
use Rattle.mdcc_serve.specs.Refusals.{AllBoot}
use Rattle.mdcc_serve.specs.Starts.{HaveStarted}
use Rattle.mdcc_serve.specs.Stays.{AllStay}
use Rattle.mdcc_serve.proofs.starting.start_all.Given as goal

abbrev pub invariant-loop-number : goal.invariant-loop-number
invariant-loop-number g l = record {
  started : HaveStarted g.D.Disks.disk g.D.Disks.may_leave l.config.checkpoint l.config.cluster l.first l.sites.items l.fn.disks l.disks;
  nodes : AllBoot g.D.Disks.disk l.config.cluster l.fn.disks l.first l.number;
  stay : AllStay g.D.Disks.disk g.D.Disks.may_leave g.D.Disks.tears l.config.cluster l.fn.disks l.disks l.first l.number;
  many : l.first + length l.sites.items ≡ l.number;
}
