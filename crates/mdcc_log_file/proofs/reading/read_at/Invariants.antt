use Rattle.std.proofs.Common.{◌≡◌, ◌+◌, ◌≤◌, length, take, drop, IsTrue}
use Rattle.mdcc_disks.specs.Disks.{Within, KeepsOthers, LeavesOnly}
use Rattle.mdcc_log_file.specs.Calls.{ReadsAll, read_calls}
use Rattle.mdcc_log_file.proofs.reading.read_at.Given as goal

abbrev pub invariant-loop-turn : goal.invariant-loop-turn
invariant-loop-turn g l = record {
  filled : IsTrue (g.D.Disks.disk l.initial.disks l.place).told → take l.done l.into ≡ take l.done (drop l.offset (g.D.Disks.disk l.initial.disks l.place).bytes);
  within : l.done ≤ length l.into;
  each : l.turn ≤ l.done;
  bytes : (g.D.Disks.disk l.disks l.place).bytes ≡ (g.D.Disks.disk l.initial.disks l.place).bytes;
  crash : Within (g.D.Disks.may_leave l.initial.disks l.place) (g.D.Disks.may_leave l.disks l.place);
  any_moment : LeavesOnly g.D.Disks.moment g.D.Disks.left_since l.initial.disks l.disks l.place (g.D.Disks.may_leave l.initial.disks l.place);
  others : KeepsOthers g.D.Disks.disk g.D.Disks.may_leave g.D.Disks.moment g.D.Disks.left_since l.initial.disks l.disks l.place;
  calls : ReadsAll l.done (read_calls (l.offset + length l.initial.into) l.offset) (g.D.Disks.disk l.initial.disks l.place).calls (g.D.Disks.disk l.disks l.place).calls;
  later : (g.D.Disks.disk l.initial.disks l.place).faults ≤ (g.D.Disks.disk l.disks l.place).faults;
}
