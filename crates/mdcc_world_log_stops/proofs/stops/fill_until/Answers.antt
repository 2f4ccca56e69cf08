use Rattle.std.proofs.Common.{◌≡◌, ◌⊎◌, ◌+◌, ◌∷◌, [], ◌^◌, ◌<◌, ◌≤◌, List, ℕ, length, IsTrue, sym, ◌∙◌, ap, subst, arith}
use Rattle.mdcc_base.specs.declared.outside.Image.{Image}
use Rattle.mdcc_disks.specs.Disks.{DiskCall, KeepsOthers, LeavesOnly, Within}
use Rattle.mdcc_disks.specs.Disks.DiskCall.{Write, Sync}
use Rattle.mdcc_disks.specs.Memory.{at_place, disk_of, left_since_of, may_leave_of, moment_of, only_now_of, standing}
use Rattle.mdcc_log_file.specs.Calls.{with_calls}
use Rattle.mdcc_log_file.proofs.Moments.{both, weakened}
use Rattle.mdcc_log_file.proofs.ReadCalls.{all_both}
use Rattle.mdcc_log_file.specs.Area.{generation_of, payloads_of}
use Rattle.mdcc_log.specs.Checkpoint.{MayCopy, MayOpen, copy_of}
use Rattle.mdcc_log_file.specs.Copying.{IsShut}
use Rattle.mdcc_log.specs.Crash.{IsDead, IsIdle, IsOlder}
use Rattle.mdcc_log.specs.Frames.{laid_calls, place_of, other_of}
use Rattle.mdcc_log.proofs.Around.{begun_copy, opened_copy}
use Rattle.mdcc_log.proofs.Dues.{apart_areas}
use Rattle.mdcc_log_file.proofs.Joined.{but_joined, but_two, read_beside, read_joined}
use Rattle.mdcc_log.proofs.Uses.{beginning_idle, copying_idle}
use Rattle.mdcc_world_log_stops.specs.Stops.{opening_copy}
use Rattle.mdcc_world_log_stops.proofs.StopCalls.{calls_laid, calls_opened}
use Rattle.mdcc_world_log_stops.proofs.Stopped.{begun_left}
use Rattle.mdcc_world_log_stops.proofs.stops.fill_until.Goals as goal

pub open_copy-requires-clause-long : goal.open_copy-requires-clause-long
open_copy-requires-clause-long c told =
    let at : c.spare_place-other.result ≡ (place_of c.args.frames.now.centre (other_of c.args.frames.now.area)) = c.spare_place-other.ensures in
    let there = sym c.lay_copy.ensures.others.told_two ∙ subst (λ (n : ℕ). IsTrue (disk_of c.lay_copy.new.disks n).told) at told in
    subst (λ (n : ℕ). 9 ≤ length (disk_of c.lay_copy.new.disks n).bytes) (sym at) (c.in_ok-lay_copy.ensures.long there)

pub open_copy-requires-clause-shut : goal.open_copy-requires-clause-shut
open_copy-requires-clause-shut c told =
    let at : c.spare_place-other.result ≡ (place_of c.args.frames.now.centre (other_of c.args.frames.now.area)) = c.spare_place-other.ensures in
    let there = sym c.lay_copy.ensures.others.told_two ∙ subst (λ (n : ℕ). IsTrue (disk_of c.lay_copy.new.disks n).told) at told in
    subst (λ (n : ℕ). Within IsShut (may_leave_of c.lay_copy.new.disks n)) (sym at) (c.in_ok-lay_copy.ensures.shut there)

pub returns-in_err-lay_copy-clause-any_moment_other : goal.returns-in_err-lay_copy-clause-any_moment_other
returns-in_err-lay_copy-clause-any_moment_other c log told there uses =
    let spare = c.requires.spare there in
    let old = (disk_of c.args.disks.now (place_of c.args.frames.now.centre (other_of c.args.frames.now.area))).bytes in
    let idle = subst (λ (n : ℕ). IsDead old ⊎ IsOlder n old) uses.generation spare.idle in
    weakened (IsIdle log) (c.lay_copy.ensures.any_moment there) (λ x may. beginning_idle log old x idle may)

pub returns-then-call-lt6-clause-any_moment_other : goal.returns-then-call-lt6-clause-any_moment_other
returns-then-call-lt6-clause-any_moment_other c log told there uses =
    let spare = c.requires.spare there in
    let old = (disk_of c.args.disks.now (place_of c.args.frames.now.centre (other_of c.args.frames.now.area))).bytes in
    let idle = subst (λ (n : ℕ). IsDead old ⊎ IsOlder n old) uses.generation spare.idle in
    weakened (IsIdle log) (c.lay_copy.ensures.any_moment there) (λ x may. beginning_idle log old x idle may)

pub returns-in_err-open_copy-clause-reads : goal.returns-in_err-open_copy-clause-reads
returns-in_err-open_copy-clause-reads c =
    let at : c.spare_place-other.result ≡ (place_of c.args.frames.now.centre (other_of c.args.frames.now.area)) = c.spare_place-other.ensures in
    let beside = subst (λ (n : ℕ). KeepsOthers disk_of may_leave_of moment_of left_since_of c.lay_copy.new.disks c.open_copy.new.disks n) at c.open_copy.ensures.others in
    let apart = apart_areas c.args.frames.now.centre c.args.frames.now.area in
    read_joined disk_of may_leave_of moment_of left_since_of only_now_of c.args.disks.now c.lay_copy.new.disks c.open_copy.new.disks (place_of c.args.frames.now.centre c.args.frames.now.area) c.lay_copy.ensures.reads
    (read_beside disk_of may_leave_of moment_of left_since_of only_now_of c.lay_copy.new.disks c.open_copy.new.disks (place_of c.args.frames.now.centre c.args.frames.now.area) (place_of c.args.frames.now.centre (other_of c.args.frames.now.area)) apart beside)

pub returns-in_err-open_copy-clause-others : goal.returns-in_err-open_copy-clause-others
returns-in_err-open_copy-clause-others c =
    let at : c.spare_place-other.result ≡ (place_of c.args.frames.now.centre (other_of c.args.frames.now.area)) = c.spare_place-other.ensures in
    let beside = subst (λ (n : ℕ). KeepsOthers disk_of may_leave_of moment_of left_since_of c.lay_copy.new.disks c.open_copy.new.disks n) at c.open_copy.ensures.others in
    let apart = apart_areas c.args.frames.now.centre c.args.frames.now.area in
    but_joined disk_of may_leave_of moment_of left_since_of only_now_of c.args.disks.now c.lay_copy.new.disks c.open_copy.new.disks (place_of c.args.frames.now.centre c.args.frames.now.area) (place_of c.args.frames.now.centre (other_of c.args.frames.now.area)) c.lay_copy.ensures.others
    (but_two disk_of may_leave_of moment_of left_since_of only_now_of c.lay_copy.new.disks c.open_copy.new.disks (place_of c.args.frames.now.centre c.args.frames.now.area) (place_of c.args.frames.now.centre (other_of c.args.frames.now.area)) apart beside (subst (λ (n : ℕ). (disk_of c.lay_copy.new.disks n).faults ≤ (disk_of c.open_copy.new.disks n).faults) at c.open_copy.ensures.cause.later))

pub returns-in_err-open_copy-clause-any_moment_other : goal.returns-in_err-open_copy-clause-any_moment_other
returns-in_err-open_copy-clause-any_moment_other c log told there uses =
    let at : c.spare_place-other.result ≡ (place_of c.args.frames.now.centre (other_of c.args.frames.now.area)) = c.spare_place-other.ensures in
    let beside = subst (λ (n : ℕ). KeepsOthers disk_of may_leave_of moment_of left_since_of c.lay_copy.new.disks c.open_copy.new.disks n) at c.open_copy.ensures.others in
    let apart = apart_areas c.args.frames.now.centre c.args.frames.now.area in
    let spare = c.requires.spare there in
    let old = (disk_of c.args.disks.now (place_of c.args.frames.now.centre (other_of c.args.frames.now.area))).bytes in
    let idle = subst (λ (n : ℕ). IsDead old ⊎ IsOlder n old) uses.generation spare.idle in
    let room = c.in_ok-lay_copy.ensures.has_room in
    let counted : length (payloads_of log) < 2 ^ 64 = omega (arith, uses.count, room.count) in
    let next : c.args.frames.now.generation + 1 ≡ generation_of log.head + 1 = omega (arith, uses.generation) in
    let ps = payloads_of log in
    let written = c.in_ok-lay_copy.ensures.written log told there uses in
    let told_mid : IsTrue (disk_of c.lay_copy.new.disks c.spare_place-other.result).told = subst (λ (n : ℕ). IsTrue (disk_of c.lay_copy.new.disks n).told) (sym at) (c.lay_copy.ensures.others.told_two ∙ there) in
    let opening = subst (λ (n : ℕ). LeavesOnly moment_of left_since_of c.lay_copy.new.disks c.open_copy.new.disks n (MayOpen (disk_of c.lay_copy.new.disks n).bytes)) at (c.open_copy.ensures.any_moment told_mid) in
    let copying : LeavesOnly moment_of left_since_of c.args.disks.now c.open_copy.new.disks (place_of c.args.frames.now.centre (other_of c.args.frames.now.area)) (MayCopy old (c.args.frames.now.generation + 1) ps) =
    both {old = c.args.disks.now} {mid = c.lay_copy.new.disks} {new = c.open_copy.new.disks}
    (weakened (MayCopy old (c.args.frames.now.generation + 1) ps) (c.lay_copy.ensures.any_moment there) (begun_copy old (c.args.frames.now.generation + 1) ps))
    (weakened (MayCopy old (c.args.frames.now.generation + 1) ps) opening (λ x may. opened_copy old _ x (c.args.frames.now.generation + 1) ps written may)) in
    weakened (IsIdle log) copying (λ x may. copying_idle c.args.frames.now.area (c.args.frames.now.generation + 1) log old x uses.valid next room.generation counted idle may)

pub returns-clause-reads : goal.returns-clause-reads
returns-clause-reads c =
    let at : c.spare_place-other.result ≡ (place_of c.args.frames.now.centre (other_of c.args.frames.now.area)) = c.spare_place-other.ensures in
    let beside = subst (λ (n : ℕ). KeepsOthers disk_of may_leave_of moment_of left_since_of c.lay_copy.new.disks c.open_copy.new.disks n) at c.open_copy.ensures.others in
    let apart = apart_areas c.args.frames.now.centre c.args.frames.now.area in
    read_joined disk_of may_leave_of moment_of left_since_of only_now_of c.args.disks.now c.lay_copy.new.disks c.open_copy.new.disks (place_of c.args.frames.now.centre c.args.frames.now.area) c.lay_copy.ensures.reads
    (read_beside disk_of may_leave_of moment_of left_since_of only_now_of c.lay_copy.new.disks c.open_copy.new.disks (place_of c.args.frames.now.centre c.args.frames.now.area) (place_of c.args.frames.now.centre (other_of c.args.frames.now.area)) apart beside)

pub returns-clause-others : goal.returns-clause-others
returns-clause-others c =
    let at : c.spare_place-other.result ≡ (place_of c.args.frames.now.centre (other_of c.args.frames.now.area)) = c.spare_place-other.ensures in
    let beside = subst (λ (n : ℕ). KeepsOthers disk_of may_leave_of moment_of left_since_of c.lay_copy.new.disks c.open_copy.new.disks n) at c.open_copy.ensures.others in
    let apart = apart_areas c.args.frames.now.centre c.args.frames.now.area in
    but_joined disk_of may_leave_of moment_of left_since_of only_now_of c.args.disks.now c.lay_copy.new.disks c.open_copy.new.disks (place_of c.args.frames.now.centre c.args.frames.now.area) (place_of c.args.frames.now.centre (other_of c.args.frames.now.area)) c.lay_copy.ensures.others
    (but_two disk_of may_leave_of moment_of left_since_of only_now_of c.lay_copy.new.disks c.open_copy.new.disks (place_of c.args.frames.now.centre c.args.frames.now.area) (place_of c.args.frames.now.centre (other_of c.args.frames.now.area)) apart beside (subst (λ (n : ℕ). (disk_of c.lay_copy.new.disks n).faults ≤ (disk_of c.open_copy.new.disks n).faults) at c.open_copy.ensures.cause.later))

pub returns-clause-any_moment_other : goal.returns-clause-any_moment_other
returns-clause-any_moment_other c log told there uses =
    let at : c.spare_place-other.result ≡ (place_of c.args.frames.now.centre (other_of c.args.frames.now.area)) = c.spare_place-other.ensures in
    let beside = subst (λ (n : ℕ). KeepsOthers disk_of may_leave_of moment_of left_since_of c.lay_copy.new.disks c.open_copy.new.disks n) at c.open_copy.ensures.others in
    let apart = apart_areas c.args.frames.now.centre c.args.frames.now.area in
    let spare = c.requires.spare there in
    let old = (disk_of c.args.disks.now (place_of c.args.frames.now.centre (other_of c.args.frames.now.area))).bytes in
    let idle = subst (λ (n : ℕ). IsDead old ⊎ IsOlder n old) uses.generation spare.idle in
    let room = c.in_ok-lay_copy.ensures.has_room in
    let counted : length (payloads_of log) < 2 ^ 64 = omega (arith, uses.count, room.count) in
    let next : c.args.frames.now.generation + 1 ≡ generation_of log.head + 1 = omega (arith, uses.generation) in
    let ps = payloads_of log in
    let written = c.in_ok-lay_copy.ensures.written log told there uses in
    let told_mid : IsTrue (disk_of c.lay_copy.new.disks c.spare_place-other.result).told = subst (λ (n : ℕ). IsTrue (disk_of c.lay_copy.new.disks n).told) (sym at) (c.lay_copy.ensures.others.told_two ∙ there) in
    let opening = subst (λ (n : ℕ). LeavesOnly moment_of left_since_of c.lay_copy.new.disks c.open_copy.new.disks n (MayOpen (disk_of c.lay_copy.new.disks n).bytes)) at (c.open_copy.ensures.any_moment told_mid) in
    let copying : LeavesOnly moment_of left_since_of c.args.disks.now c.open_copy.new.disks (place_of c.args.frames.now.centre (other_of c.args.frames.now.area)) (MayCopy old (c.args.frames.now.generation + 1) ps) =
    both {old = c.args.disks.now} {mid = c.lay_copy.new.disks} {new = c.open_copy.new.disks}
    (weakened (MayCopy old (c.args.frames.now.generation + 1) ps) (c.lay_copy.ensures.any_moment there) (begun_copy old (c.args.frames.now.generation + 1) ps))
    (weakened (MayCopy old (c.args.frames.now.generation + 1) ps) opening (λ x may. opened_copy old _ x (c.args.frames.now.generation + 1) ps written may)) in
    weakened (IsIdle log) copying (λ x may. copying_idle c.args.frames.now.area (c.args.frames.now.generation + 1) log old x uses.valid next room.generation counted idle may)

pub returns-then-call-lt6-clause-stopped : goal.returns-then-call-lt6-clause-stopped
returns-then-call-lt6-clause-stopped c log told there uses =
    let spare = c.requires.spare there in
    let old = (disk_of c.args.disks.now (place_of c.args.frames.now.centre (other_of c.args.frames.now.area))).bytes in
    let idle = subst (λ (n : ℕ). IsDead old ⊎ IsOlder n old) uses.generation spare.idle in
    let room = c.in_ok-lay_copy.ensures.has_room in
    let counted : length (payloads_of log) < 2 ^ 64 = omega (arith, uses.count, room.count) in
    let next : c.args.frames.now.generation + 1 ≡ generation_of log.head + 1 = omega (arith, uses.generation) in
    let early = λ (few : c.args.call < 6) (image : Image).
    begun_left c.args.disks.now c.lay_copy.new.disks (place_of c.args.frames.now.centre (other_of c.args.frames.now.area)) (generation_of log.head) old image idle (c.lay_copy.ensures.any_moment there) in
    let late = λ (more : 6 ≤ c.args.call). absurd (omega (arith, more, c.if-call-lt6.true)) in
    record { generation = omega (arith, next, room.generation); count = counted; early = early; late = late }

pub returns-clause-stopped : goal.returns-clause-stopped
returns-clause-stopped c log told there uses =
    let at : c.spare_place-other.result ≡ (place_of c.args.frames.now.centre (other_of c.args.frames.now.area)) = c.spare_place-other.ensures in
    let beside = subst (λ (n : ℕ). KeepsOthers disk_of may_leave_of moment_of left_since_of c.lay_copy.new.disks c.open_copy.new.disks n) at c.open_copy.ensures.others in
    let apart = apart_areas c.args.frames.now.centre c.args.frames.now.area in
    let spare = c.requires.spare there in
    let old = (disk_of c.args.disks.now (place_of c.args.frames.now.centre (other_of c.args.frames.now.area))).bytes in
    let idle = subst (λ (n : ℕ). IsDead old ⊎ IsOlder n old) uses.generation spare.idle in
    let room = c.in_ok-lay_copy.ensures.has_room in
    let counted : length (payloads_of log) < 2 ^ 64 = omega (arith, uses.count, room.count) in
    let next : c.args.frames.now.generation + 1 ≡ generation_of log.head + 1 = omega (arith, uses.generation) in
    let written = subst (λ (n : ℕ). (disk_of c.lay_copy.new.disks n).bytes ≡ copy_of 0 (c.args.frames.now.generation + 1) (payloads_of log)) (sym at) (c.in_ok-lay_copy.ensures.written log told there uses) in
    let opened = subst (λ (n : ℕ). standing (at_place c.open_copy.new.disks n) ≡ opening_copy (c.args.frames.now.generation + 1) (payloads_of log)) at (c.in_ok-open_copy.ensures.opened (c.args.frames.now.generation + 1) (payloads_of log) written) in
    let early = λ (few : c.args.call < 6) (image : Image). absurd (omega (arith, few, c.if-call-lt6.false)) in
    let late = λ (more : 6 ≤ c.args.call). opened ∙ ap (λ (n : ℕ). opening_copy n (payloads_of log)) next in
    record { generation = omega (arith, next, room.generation); count = counted; early = early; late = late }

pub returns-then-call-lt6-clause-all_calls : goal.returns-then-call-lt6-clause-all_calls
returns-then-call-lt6-clause-all_calls c log some told uses =
    c.in_ok-lay_copy.ensures.all_calls log told uses
    ∙ ap (λ (l : List DiskCall). with_calls l (disk_of c.args.disks.now (place_of c.args.frames.now.centre (other_of c.args.frames.now.area))).calls) (sym (calls_laid c.args.call c.args.frames.now.spare (c.args.frames.now.generation + 1) (payloads_of log) some c.if-call-lt6.true))

pub returns-clause-all_calls : goal.returns-clause-all_calls
returns-clause-all_calls c log some told uses =
    let at : c.spare_place-other.result ≡ (place_of c.args.frames.now.centre (other_of c.args.frames.now.area)) = c.spare_place-other.ensures in
    let ps = payloads_of log in
    let last = subst (λ (n : ℕ). (disk_of c.open_copy.new.disks n).calls ≡ with_calls (Sync ∷ Write 8 (1 ∷ []) ∷ []) (disk_of c.lay_copy.new.disks n).calls) at c.in_ok-open_copy.ensures.all_calls in
    all_both (laid_calls c.args.frames.now.spare (c.args.frames.now.generation + 1) ps) (Sync ∷ Write 8 (1 ∷ []) ∷ []) (disk_of c.args.disks.now (place_of c.args.frames.now.centre (other_of c.args.frames.now.area))).calls (disk_of c.lay_copy.new.disks (place_of c.args.frames.now.centre (other_of c.args.frames.now.area))).calls (disk_of c.open_copy.new.disks (place_of c.args.frames.now.centre (other_of c.args.frames.now.area))).calls
    (c.in_ok-lay_copy.ensures.all_calls log told uses) last
    ∙ ap (λ (l : List DiskCall). with_calls l (disk_of c.args.disks.now (place_of c.args.frames.now.centre (other_of c.args.frames.now.area))).calls) (sym (calls_opened c.args.call c.args.frames.now.spare (c.args.frames.now.generation + 1) ps (omega (arith, c.if-call-lt6.false))))
