use Rattle.std.proofs.Common.{◌≡◌, ◌⊎◌, ◌+◌, ◌^◌, ◌<◌, ◌≤◌, ℕ, length, IsTrue, sym, ◌∙◌, subst, arith, rules, true}
use Rattle.mdcc_base.specs.declared.outside.Image.{Image}
use Rattle.mdcc_disks.specs.Disks.{KeepsOthers, LeavesOnly, Only}
use Rattle.mdcc_disks.specs.Memory.{disk_of, left_since_of, may_leave_of, moment_of, only_now_of}
use Rattle.mdcc_log_file.specs.Calls.{with_calls}
use Rattle.mdcc_log_file.proofs.Moments.{started, weakened}
use Rattle.mdcc_log_file.specs.declared.area.Spare.{Spare}
use Rattle.mdcc_log_file.specs.Area.{generation_of, payloads_of, spare_of}
use Rattle.mdcc_log.specs.Checkpoint.{MayBegin}
use Rattle.mdcc_log.specs.Crash.{IsDead, IsIdle, IsOlder}
use Rattle.mdcc_log.specs.Frames.{place_of, other_of}
use Rattle.mdcc_log.proofs.Dues.{apart_areas}
use Rattle.mdcc_log_file.proofs.Joined.{but_two, nothing_read, read_beside}
use Rattle.mdcc_log.proofs.Uses.{beginning_idle, spare_idle}
use Rattle.mdcc_world_log_stops.specs.Stops.{stopped_calls}
use Rattle.mdcc_world_log_stops.proofs.Stopped.{begun_left}
use Rattle.mdcc_world_log_stops.proofs.stops.checkpoint_until.Goals as goal

pub shut_until-requires-clause-spare : goal.shut_until-requires-clause-spare
shut_until-requires-clause-spare c told =
    let at : c.spare_place.result ≡ (place_of c.args.frames.now.centre (other_of c.args.frames.now.area)) = c.spare_place.ensures in
    let spare = c.requires.spare (subst (λ (n : ℕ). IsTrue (disk_of c.args.disks.now n).told) at told) in
    c.spare.ensures ∙ subst (λ (n : ℕ). c.args.frames.now.spare ≡ spare_of (disk_of c.args.disks.now n).bytes) (sym at) spare.spare

pub shut_until-requires-clause-durable : goal.shut_until-requires-clause-durable
shut_until-requires-clause-durable c told =
    let at : c.spare_place.result ≡ (place_of c.args.frames.now.centre (other_of c.args.frames.now.area)) = c.spare_place.ensures in
    let spare = c.requires.spare (subst (λ (n : ℕ). IsTrue (disk_of c.args.disks.now n).told) at told) in
    subst (λ (n : ℕ). Only (disk_of c.args.disks.now n).bytes (may_leave_of c.args.disks.now n)) (sym at) spare.durable

pub returns-in_err-shut_until-clause-any_moment_other : goal.returns-in_err-shut_until-clause-any_moment_other
returns-in_err-shut_until-clause-any_moment_other c log told there uses =
    let at : c.spare_place.result ≡ (place_of c.args.frames.now.centre (other_of c.args.frames.now.area)) = c.spare_place.ensures in
    let spare = c.requires.spare there in
    let old = (disk_of c.args.disks.now (place_of c.args.frames.now.centre (other_of c.args.frames.now.area))).bytes in
    let idle = subst (λ (n : ℕ). IsDead old ⊎ IsOlder n old) uses.generation spare.idle in
    let begun = subst (λ (n : ℕ). LeavesOnly moment_of left_since_of c.args.disks.now c.shut_until.new.disks n (MayBegin (disk_of c.args.disks.now n).bytes)) at (c.shut_until.ensures.any_moment (subst (λ (n : ℕ). IsTrue (disk_of c.args.disks.now n).told) (sym at) there)) in
    weakened (IsIdle log) begun (λ x may. beginning_idle log old x idle may)

pub returns-in_err-shut_until-clause-reads : goal.returns-in_err-shut_until-clause-reads
returns-in_err-shut_until-clause-reads c =
    let at : c.spare_place.result ≡ (place_of c.args.frames.now.centre (other_of c.args.frames.now.area)) = c.spare_place.ensures in
    let beside = subst (λ (n : ℕ). KeepsOthers disk_of may_leave_of moment_of left_since_of c.args.disks.now c.shut_until.new.disks n) at c.shut_until.ensures.others in
    let apart = apart_areas c.args.frames.now.centre c.args.frames.now.area in
    read_beside disk_of may_leave_of moment_of left_since_of only_now_of c.args.disks.now c.shut_until.new.disks (place_of c.args.frames.now.centre c.args.frames.now.area) (place_of c.args.frames.now.centre (other_of c.args.frames.now.area)) apart beside

pub returns-in_err-shut_until-clause-others : goal.returns-in_err-shut_until-clause-others
returns-in_err-shut_until-clause-others c =
    let at : c.spare_place.result ≡ (place_of c.args.frames.now.centre (other_of c.args.frames.now.area)) = c.spare_place.ensures in
    let beside = subst (λ (n : ℕ). KeepsOthers disk_of may_leave_of moment_of left_since_of c.args.disks.now c.shut_until.new.disks n) at c.shut_until.ensures.others in
    let apart = apart_areas c.args.frames.now.centre c.args.frames.now.area in
    but_two disk_of may_leave_of moment_of left_since_of only_now_of c.args.disks.now c.shut_until.new.disks (place_of c.args.frames.now.centre c.args.frames.now.area) (place_of c.args.frames.now.centre (other_of c.args.frames.now.area)) apart beside (subst (λ (n : ℕ). (disk_of c.args.disks.now n).faults ≤ (disk_of c.shut_until.new.disks n).faults) at c.shut_until.ensures.cause.later)

pub returns-then-call-lt4-clause-any_moment_other : goal.returns-then-call-lt4-clause-any_moment_other
returns-then-call-lt4-clause-any_moment_other c log told there uses =
    let at : c.spare_place.result ≡ (place_of c.args.frames.now.centre (other_of c.args.frames.now.area)) = c.spare_place.ensures in
    let spare = c.requires.spare there in
    let old = (disk_of c.args.disks.now (place_of c.args.frames.now.centre (other_of c.args.frames.now.area))).bytes in
    let idle = subst (λ (n : ℕ). IsDead old ⊎ IsOlder n old) uses.generation spare.idle in
    let begun = subst (λ (n : ℕ). LeavesOnly moment_of left_since_of c.args.disks.now c.shut_until.new.disks n (MayBegin (disk_of c.args.disks.now n).bytes)) at (c.shut_until.ensures.any_moment (subst (λ (n : ℕ). IsTrue (disk_of c.args.disks.now n).told) (sym at) there)) in
    weakened (IsIdle log) begun (λ x may. beginning_idle log old x idle may)

pub returns-then-call-lt4-clause-reads : goal.returns-then-call-lt4-clause-reads
returns-then-call-lt4-clause-reads c =
    let at : c.spare_place.result ≡ (place_of c.args.frames.now.centre (other_of c.args.frames.now.area)) = c.spare_place.ensures in
    let beside = subst (λ (n : ℕ). KeepsOthers disk_of may_leave_of moment_of left_since_of c.args.disks.now c.shut_until.new.disks n) at c.shut_until.ensures.others in
    let apart = apart_areas c.args.frames.now.centre c.args.frames.now.area in
    read_beside disk_of may_leave_of moment_of left_since_of only_now_of c.args.disks.now c.shut_until.new.disks (place_of c.args.frames.now.centre c.args.frames.now.area) (place_of c.args.frames.now.centre (other_of c.args.frames.now.area)) apart beside

pub returns-then-call-lt4-clause-others : goal.returns-then-call-lt4-clause-others
returns-then-call-lt4-clause-others c =
    let at : c.spare_place.result ≡ (place_of c.args.frames.now.centre (other_of c.args.frames.now.area)) = c.spare_place.ensures in
    let beside = subst (λ (n : ℕ). KeepsOthers disk_of may_leave_of moment_of left_since_of c.args.disks.now c.shut_until.new.disks n) at c.shut_until.ensures.others in
    let apart = apart_areas c.args.frames.now.centre c.args.frames.now.area in
    but_two disk_of may_leave_of moment_of left_since_of only_now_of c.args.disks.now c.shut_until.new.disks (place_of c.args.frames.now.centre c.args.frames.now.area) (place_of c.args.frames.now.centre (other_of c.args.frames.now.area)) apart beside (subst (λ (n : ℕ). (disk_of c.args.disks.now n).faults ≤ (disk_of c.shut_until.new.disks n).faults) at c.shut_until.ensures.cause.later)

pub returns-then-call-lt4-clause-stopped : goal.returns-then-call-lt4-clause-stopped
returns-then-call-lt4-clause-stopped c log told there uses =
    let at : c.spare_place.result ≡ (place_of c.args.frames.now.centre (other_of c.args.frames.now.area)) = c.spare_place.ensures in
    let spare = c.requires.spare there in
    let old = (disk_of c.args.disks.now (place_of c.args.frames.now.centre (other_of c.args.frames.now.area))).bytes in
    let idle = subst (λ (n : ℕ). IsDead old ⊎ IsOlder n old) uses.generation spare.idle in
    let has : c.has_copy_room.result ≡ true = search rules in
    let room = c.has_copy_room.ensures.room has in
    let counted : length (payloads_of log) < 2 ^ 64 = omega (arith, uses.count, room.count) in
    let next : c.args.frames.now.generation + 1 ≡ generation_of log.head + 1 = omega (arith, uses.generation) in
    let begun = subst (λ (n : ℕ). LeavesOnly moment_of left_since_of c.args.disks.now c.shut_until.new.disks n (MayBegin (disk_of c.args.disks.now n).bytes)) at (c.shut_until.ensures.any_moment (subst (λ (n : ℕ). IsTrue (disk_of c.args.disks.now n).told) (sym at) there)) in
    let early = λ (few : c.args.call < 6) (image : Image).
    begun_left c.args.disks.now c.shut_until.new.disks (place_of c.args.frames.now.centre (other_of c.args.frames.now.area)) (generation_of log.head) old image idle begun in
    let late = λ (more : 6 ≤ c.args.call). absurd (omega (arith, more, c.if-call-lt4.true)) in
    record { generation = omega (arith, next, room.generation); count = counted; early = early; late = late }

pub returns-then-call-lt4-clause-all_calls : goal.returns-then-call-lt4-clause-all_calls
returns-then-call-lt4-clause-all_calls c log told uses =
    let at : c.spare_place.result ≡ (place_of c.args.frames.now.centre (other_of c.args.frames.now.area)) = c.spare_place.ensures in
    let ps = payloads_of log in
    let made = c.in_ok-shut_until.ensures.all_calls (c.args.frames.now.generation + 1) ps c.if-call-lt4.true in
    subst (λ (x : Spare). (disk_of c.shut_until.new.disks (place_of c.args.frames.now.centre (other_of c.args.frames.now.area))).calls ≡ with_calls (stopped_calls c.args.call x (c.args.frames.now.generation + 1) ps) (disk_of c.args.disks.now (place_of c.args.frames.now.centre (other_of c.args.frames.now.area))).calls) c.spare.ensures
    (subst (λ (n : ℕ). (disk_of c.shut_until.new.disks n).calls ≡ with_calls (stopped_calls c.args.call c.spare.result (c.args.frames.now.generation + 1) ps) (disk_of c.args.disks.now n).calls) at made)

pub returns-clause-all_calls : goal.returns-clause-all_calls
returns-clause-all_calls c log told uses =
    c.fill_until.ensures.all_calls log (omega (arith, c.if-call-lt4.false)) told uses

pub returns-then-not-has_copy_room-clause-reads : goal.returns-then-not-has_copy_room-clause-reads
returns-then-not-has_copy_room-clause-reads c =
    nothing_read disk_of may_leave_of moment_of left_since_of only_now_of c.args.disks.now (place_of c.args.frames.now.centre c.args.frames.now.area)

pub returns-then-not-has_copy_room-clause-any_moment_other : goal.returns-then-not-has_copy_room-clause-any_moment_other
returns-then-not-has_copy_room-clause-any_moment_other c log told there uses =
    let spare = c.requires.spare there in
    started moment_of left_since_of c.args.disks.now (place_of c.args.frames.now.centre (other_of c.args.frames.now.area)) (IsIdle log) (λ x left.
    subst (IsIdle log) (sym (spare.durable x (only_now_of c.args.disks.now (place_of c.args.frames.now.centre (other_of c.args.frames.now.area)) x left))) (spare_idle uses spare))
