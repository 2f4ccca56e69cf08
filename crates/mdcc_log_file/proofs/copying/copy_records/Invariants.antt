use Rattle.std.proofs.Common.{◌≡◌, ◌+◌, ◌-◌, ◌*◌, ◌≤◌, ℕ, List, length, vec_capacity, IsTrue}
use Rattle.mdcc_log_file.specs.Both.{KeepsBut, IsOnlyRead, StaysShut}
use Rattle.mdcc_log_file.specs.Copying.{IsSource}
use Rattle.mdcc_log_file.proofs.Copies.{Copied}
use Rattle.mdcc_log_file.proofs.copying.copy_records.Given as goal

abbrev pub invariant-loop-turn : goal.invariant-loop-turn
invariant-loop-turn g l = record {
  from : l.from ≤ l.part.end;
  within : l.end ≤ l.limit;
  counted : l.to + 4 * l.turn ≤ l.end;
  room : 2097157 ≤ vec_capacity l.buffer;
  at_end : IsTrue (g.D.Disks.disk l.initial.disks l.place).told → l.end ≡ length (g.D.Disks.disk l.disks l.place).bytes;
  only_read : IsOnlyRead g.D.Disks.disk g.D.Disks.may_leave g.D.Disks.moment g.D.Disks.left_since l.initial.disks l.disks l.part.place;
  stays : StaysShut g.D.Disks.disk g.D.Disks.may_leave g.D.Disks.moment g.D.Disks.left_since l.initial.disks l.disks l.place;
  others : KeepsBut g.D.Disks.disk g.D.Disks.may_leave g.D.Disks.moment g.D.Disks.left_since l.initial.disks l.disks l.part.place l.place;
  copies : (ps : List (List ℕ)) → IsTrue (g.D.Disks.disk l.initial.disks l.part.place).told
      → IsSource l.part.gap l.part.from l.part.end (l.limit - l.to) l.part.count ps (g.D.Disks.disk l.initial.disks l.part.place).bytes
      → Copied l.part.gap l.from l.part.end (l.limit - l.to) l.part.count l.to l.end l.turn ps (g.D.Disks.disk l.initial.disks l.part.place).bytes (g.D.Disks.disk l.initial.disks l.place).bytes (g.D.Disks.disk l.disks l.place).bytes (g.D.Disks.disk l.initial.disks l.place).told (g.D.Disks.disk l.initial.disks l.place).calls (g.D.Disks.disk l.disks l.place).calls;
}
