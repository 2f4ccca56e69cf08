use Rattle.std.proofs.Common.{◌≡◌, ◌⊎◌, ◌+◌, ◌-◌, ◌∷◌, [], ◌^◌, ◌<◌, ◌≤◌, List, ℕ, length, IsTrue, sym, ◌∙◌, ap, refl, subst, arith}
use Rattle.mdcc_disks.specs.Disks.{DiskCall, KeepsOthers, LeavesOnly, Only, Within}
use Rattle.mdcc_disks.specs.Disks.DiskCall.{Write, Sync}
use Rattle.mdcc_log_file.specs.Calls.{MadeSome, with_calls}
use Rattle.mdcc_log_file.proofs.Calls.{made_both, made_first}
use Rattle.mdcc_log_file.proofs.Moments.{both, weakened}
use Rattle.mdcc_log_file.proofs.ReadCalls.{all_both}
use Rattle.mdcc_log_file.specs.Area.{generation_of, payloads_of, with_gate}
use Rattle.mdcc_log.specs.Checkpoint.{MayCopy, MayOpen, copy_of}
use Rattle.mdcc_log_file.specs.Copying.{IsShut}
use Rattle.mdcc_log.specs.Crash.{IsCurrent, IsDead, IsIdle, IsOlder}
use Rattle.mdcc_log.specs.Frames.{OpenAreas, laid_calls, place_of, other_of}
use Rattle.mdcc_log.proofs.Around.{begun_copy, calls_laid, opened_copy}
use Rattle.mdcc_log.proofs.Choice.{current_is_read}
use Rattle.mdcc_log.proofs.Dues.{apart_areas}
use Rattle.mdcc_log_file.proofs.Joined.{but_joined, but_two, read_beside, read_joined}
use Rattle.mdcc_log.proofs.Uses.{beginning_idle, is_current, packed_in_use, left_idle, left_spare, copying_idle}
use Rattle.mdcc_log.proofs.frames.Frames.checkpoint.Goals as goal

pub open_area-requires-clause-long : goal.open_area-requires-clause-long
open_area-requires-clause-long g c told =
    let at : c.spare_place-other.result ≡ (place_of c.args.self.now.centre (other_of c.args.self.now.area)) = c.spare_place-other.ensures in
    let there = sym c.lay_copy.ensures.others.told_two ∙ subst (λ (n : ℕ). IsTrue (g.D.Disks.disk c.lay_copy.new.disks n).told) at told in
    subst (λ (n : ℕ). 9 ≤ length (g.D.Disks.disk c.lay_copy.new.disks n).bytes) (sym at) (c.in_ok-end.ensures.long there)

pub open_area-requires-clause-shut : goal.open_area-requires-clause-shut
open_area-requires-clause-shut g c told =
    let at : c.spare_place-other.result ≡ (place_of c.args.self.now.centre (other_of c.args.self.now.area)) = c.spare_place-other.ensures in
    let there = sym c.lay_copy.ensures.others.told_two ∙ subst (λ (n : ℕ). IsTrue (g.D.Disks.disk c.lay_copy.new.disks n).told) at told in
    subst (λ (n : ℕ). Within IsShut (g.D.Disks.may_leave c.lay_copy.new.disks n)) (sym at) (c.in_ok-end.ensures.shut there)

pub returns-in_err-end-clause-any_moment : goal.returns-in_err-end-clause-any_moment
returns-in_err-end-clause-any_moment g c log told uses =
    (weakened (IsCurrent c.args.self.now.area log) c.lay_copy.ensures.reads.any_moment (λ x may. subst (IsCurrent c.args.self.now.area log) (sym (uses.durable x may)) (is_current uses)))

pub returns-in_err-end-clause-any_moment_other : goal.returns-in_err-end-clause-any_moment_other
returns-in_err-end-clause-any_moment_other g c log told there uses =
    let spare = c.requires.spare there in
    let old = (g.D.Disks.disk c.args.disks.now (place_of c.args.self.now.centre (other_of c.args.self.now.area))).bytes in
    let idle = subst (λ (n : ℕ). IsDead old ⊎ IsOlder n old) uses.generation spare.idle in
    weakened (IsIdle log) (c.lay_copy.ensures.any_moment there) (λ x may. beginning_idle log old x idle may)

pub returns-in_err-end-clause-any_moment_reads : goal.returns-in_err-end-clause-any_moment_reads
returns-in_err-end-clause-any_moment_reads g c log current other told there uses left left_other =
    let spare = c.requires.spare there in
    let old = (g.D.Disks.disk c.args.disks.now (place_of c.args.self.now.centre (other_of c.args.self.now.area))).bytes in
    let idle = subst (λ (n : ℕ). IsDead old ⊎ IsOlder n old) uses.generation spare.idle in
    current_is_read c.args.self.now.area log current other
    (subst (IsCurrent c.args.self.now.area log) (sym (uses.durable current (c.lay_copy.ensures.reads.any_moment.each current left))) (is_current uses))
    (beginning_idle log old other idle ((c.lay_copy.ensures.any_moment there).each other left_other))

pub returns-in_err-end-clause-calls : goal.returns-in_err-end-clause-calls
returns-in_err-end-clause-calls g c log told uses =
    let ps = payloads_of log in
    subst (λ (l : List DiskCall). MadeSome l (g.D.Disks.disk c.args.disks.now (place_of c.args.self.now.centre (other_of c.args.self.now.area))).calls (g.D.Disks.disk c.lay_copy.new.disks (place_of c.args.self.now.centre (other_of c.args.self.now.area))).calls) (calls_laid c.args.self.now.spare (c.args.self.now.generation + 1) ps)
    (made_first (laid_calls c.args.self.now.spare (c.args.self.now.generation + 1) ps) (Sync ∷ Write 8 (1 ∷ []) ∷ Sync ∷ []) _ _ (c.lay_copy.ensures.calls log told uses))

pub returns-in_err-open_area-clause-reads : goal.returns-in_err-open_area-clause-reads
returns-in_err-open_area-clause-reads g c =
    let at : c.spare_place-other.result ≡ (place_of c.args.self.now.centre (other_of c.args.self.now.area)) = c.spare_place-other.ensures in
    let beside = subst (λ (n : ℕ). KeepsOthers g.D.Disks.disk g.D.Disks.may_leave g.D.Disks.moment g.D.Disks.left_since c.lay_copy.new.disks c.open_area.new.disks n) at c.open_area.ensures.others in
    let apart = apart_areas c.args.self.now.centre c.args.self.now.area in
    let only = read_joined g.D.Disks.disk g.D.Disks.may_leave g.D.Disks.moment g.D.Disks.left_since g.met.D.Disks.only_now c.args.disks.now c.lay_copy.new.disks c.open_area.new.disks (place_of c.args.self.now.centre c.args.self.now.area) c.lay_copy.ensures.reads
    (read_beside g.D.Disks.disk g.D.Disks.may_leave g.D.Disks.moment g.D.Disks.left_since g.met.D.Disks.only_now c.lay_copy.new.disks c.open_area.new.disks (place_of c.args.self.now.centre c.args.self.now.area) (place_of c.args.self.now.centre (other_of c.args.self.now.area)) apart beside) in
    only

pub returns-in_err-open_area-clause-others : goal.returns-in_err-open_area-clause-others
returns-in_err-open_area-clause-others g c =
    let at : c.spare_place-other.result ≡ (place_of c.args.self.now.centre (other_of c.args.self.now.area)) = c.spare_place-other.ensures in
    let beside = subst (λ (n : ℕ). KeepsOthers g.D.Disks.disk g.D.Disks.may_leave g.D.Disks.moment g.D.Disks.left_since c.lay_copy.new.disks c.open_area.new.disks n) at c.open_area.ensures.others in
    let apart = apart_areas c.args.self.now.centre c.args.self.now.area in
    but_joined g.D.Disks.disk g.D.Disks.may_leave g.D.Disks.moment g.D.Disks.left_since g.met.D.Disks.only_now c.args.disks.now c.lay_copy.new.disks c.open_area.new.disks (place_of c.args.self.now.centre c.args.self.now.area) (place_of c.args.self.now.centre (other_of c.args.self.now.area)) c.lay_copy.ensures.others
    (but_two g.D.Disks.disk g.D.Disks.may_leave g.D.Disks.moment g.D.Disks.left_since g.met.D.Disks.only_now c.lay_copy.new.disks c.open_area.new.disks (place_of c.args.self.now.centre c.args.self.now.area) (place_of c.args.self.now.centre (other_of c.args.self.now.area)) apart beside (subst (λ (n : ℕ). (g.D.Disks.disk c.lay_copy.new.disks n).faults ≤ (g.D.Disks.disk c.open_area.new.disks n).faults) at c.open_area.ensures.cause.later))

pub returns-in_err-open_area-clause-any_moment : goal.returns-in_err-open_area-clause-any_moment
returns-in_err-open_area-clause-any_moment g c log told uses =
    let at : c.spare_place-other.result ≡ (place_of c.args.self.now.centre (other_of c.args.self.now.area)) = c.spare_place-other.ensures in
    let beside = subst (λ (n : ℕ). KeepsOthers g.D.Disks.disk g.D.Disks.may_leave g.D.Disks.moment g.D.Disks.left_since c.lay_copy.new.disks c.open_area.new.disks n) at c.open_area.ensures.others in
    let apart = apart_areas c.args.self.now.centre c.args.self.now.area in
    let only = read_joined g.D.Disks.disk g.D.Disks.may_leave g.D.Disks.moment g.D.Disks.left_since g.met.D.Disks.only_now c.args.disks.now c.lay_copy.new.disks c.open_area.new.disks (place_of c.args.self.now.centre c.args.self.now.area) c.lay_copy.ensures.reads
    (read_beside g.D.Disks.disk g.D.Disks.may_leave g.D.Disks.moment g.D.Disks.left_since g.met.D.Disks.only_now c.lay_copy.new.disks c.open_area.new.disks (place_of c.args.self.now.centre c.args.self.now.area) (place_of c.args.self.now.centre (other_of c.args.self.now.area)) apart beside) in
    (weakened (IsCurrent c.args.self.now.area log) only.any_moment (λ x may. subst (IsCurrent c.args.self.now.area log) (sym (uses.durable x may)) (is_current uses)))

pub returns-in_err-open_area-clause-any_moment_other : goal.returns-in_err-open_area-clause-any_moment_other
returns-in_err-open_area-clause-any_moment_other g c log told there uses =
    let at : c.spare_place-other.result ≡ (place_of c.args.self.now.centre (other_of c.args.self.now.area)) = c.spare_place-other.ensures in
    let beside = subst (λ (n : ℕ). KeepsOthers g.D.Disks.disk g.D.Disks.may_leave g.D.Disks.moment g.D.Disks.left_since c.lay_copy.new.disks c.open_area.new.disks n) at c.open_area.ensures.others in
    let apart = apart_areas c.args.self.now.centre c.args.self.now.area in
    let spare = c.requires.spare there in
    let old = (g.D.Disks.disk c.args.disks.now (place_of c.args.self.now.centre (other_of c.args.self.now.area))).bytes in
    let idle = subst (λ (n : ℕ). IsDead old ⊎ IsOlder n old) uses.generation spare.idle in
    let room = c.in_ok-end.ensures.has_room in
    let counted : length (payloads_of log) < 2 ^ 64 = omega (arith, uses.count, room.count) in
    let next : c.args.self.now.generation + 1 ≡ generation_of log.head + 1 = omega (arith, uses.generation) in
    let ps = payloads_of log in
    let written = c.in_ok-end.ensures.written log told there uses in
    let told_mid : IsTrue (g.D.Disks.disk c.lay_copy.new.disks c.spare_place-other.result).told = subst (λ (n : ℕ). IsTrue (g.D.Disks.disk c.lay_copy.new.disks n).told) (sym at) (c.lay_copy.ensures.others.told_two ∙ there) in
    let opening = subst (λ (n : ℕ). LeavesOnly g.D.Disks.moment g.D.Disks.left_since c.lay_copy.new.disks c.open_area.new.disks n (MayOpen (g.D.Disks.disk c.lay_copy.new.disks n).bytes)) at (c.open_area.ensures.any_moment told_mid) in
    let copying : LeavesOnly g.D.Disks.moment g.D.Disks.left_since c.args.disks.now c.open_area.new.disks (place_of c.args.self.now.centre (other_of c.args.self.now.area)) (MayCopy old (c.args.self.now.generation + 1) ps) =
    both (weakened (MayCopy old (c.args.self.now.generation + 1) ps) (c.lay_copy.ensures.any_moment there) (begun_copy old (c.args.self.now.generation + 1) ps))
    (weakened (MayCopy old (c.args.self.now.generation + 1) ps) opening (λ x may. opened_copy old _ x (c.args.self.now.generation + 1) ps written may)) in
    weakened (IsIdle log) copying (λ x may. copying_idle c.args.self.now.area (c.args.self.now.generation + 1) log old x uses.valid next room.generation counted idle may)

pub returns-in_err-open_area-clause-any_moment_reads : goal.returns-in_err-open_area-clause-any_moment_reads
returns-in_err-open_area-clause-any_moment_reads g c log current other told there uses left left_other =
    let at : c.spare_place-other.result ≡ (place_of c.args.self.now.centre (other_of c.args.self.now.area)) = c.spare_place-other.ensures in
    let beside = subst (λ (n : ℕ). KeepsOthers g.D.Disks.disk g.D.Disks.may_leave g.D.Disks.moment g.D.Disks.left_since c.lay_copy.new.disks c.open_area.new.disks n) at c.open_area.ensures.others in
    let apart = apart_areas c.args.self.now.centre c.args.self.now.area in
    let only = read_joined g.D.Disks.disk g.D.Disks.may_leave g.D.Disks.moment g.D.Disks.left_since g.met.D.Disks.only_now c.args.disks.now c.lay_copy.new.disks c.open_area.new.disks (place_of c.args.self.now.centre c.args.self.now.area) c.lay_copy.ensures.reads
    (read_beside g.D.Disks.disk g.D.Disks.may_leave g.D.Disks.moment g.D.Disks.left_since g.met.D.Disks.only_now c.lay_copy.new.disks c.open_area.new.disks (place_of c.args.self.now.centre c.args.self.now.area) (place_of c.args.self.now.centre (other_of c.args.self.now.area)) apart beside) in
    let spare = c.requires.spare there in
    let old = (g.D.Disks.disk c.args.disks.now (place_of c.args.self.now.centre (other_of c.args.self.now.area))).bytes in
    let idle = subst (λ (n : ℕ). IsDead old ⊎ IsOlder n old) uses.generation spare.idle in
    let room = c.in_ok-end.ensures.has_room in
    let counted : length (payloads_of log) < 2 ^ 64 = omega (arith, uses.count, room.count) in
    let next : c.args.self.now.generation + 1 ≡ generation_of log.head + 1 = omega (arith, uses.generation) in
    let ps = payloads_of log in
    let written = c.in_ok-end.ensures.written log told there uses in
    let told_mid : IsTrue (g.D.Disks.disk c.lay_copy.new.disks c.spare_place-other.result).told = subst (λ (n : ℕ). IsTrue (g.D.Disks.disk c.lay_copy.new.disks n).told) (sym at) (c.lay_copy.ensures.others.told_two ∙ there) in
    let opening = subst (λ (n : ℕ). LeavesOnly g.D.Disks.moment g.D.Disks.left_since c.lay_copy.new.disks c.open_area.new.disks n (MayOpen (g.D.Disks.disk c.lay_copy.new.disks n).bytes)) at (c.open_area.ensures.any_moment told_mid) in
    let copying : LeavesOnly g.D.Disks.moment g.D.Disks.left_since c.args.disks.now c.open_area.new.disks (place_of c.args.self.now.centre (other_of c.args.self.now.area)) (MayCopy old (c.args.self.now.generation + 1) ps) =
    both (weakened (MayCopy old (c.args.self.now.generation + 1) ps) (c.lay_copy.ensures.any_moment there) (begun_copy old (c.args.self.now.generation + 1) ps))
    (weakened (MayCopy old (c.args.self.now.generation + 1) ps) opening (λ x may. opened_copy old _ x (c.args.self.now.generation + 1) ps written may)) in
    current_is_read c.args.self.now.area log current other
    (subst (IsCurrent c.args.self.now.area log) (sym (uses.durable current (only.any_moment.each current left))) (is_current uses))
    (copying_idle c.args.self.now.area (c.args.self.now.generation + 1) log old other uses.valid next room.generation counted idle (copying.each other left_other))

pub returns-in_err-open_area-clause-calls : goal.returns-in_err-open_area-clause-calls
returns-in_err-open_area-clause-calls g c log told uses =
    let at : c.spare_place-other.result ≡ (place_of c.args.self.now.centre (other_of c.args.self.now.area)) = c.spare_place-other.ensures in
    let ps = payloads_of log in
    let last = subst (λ (n : ℕ). MadeSome (Sync ∷ Write 8 (1 ∷ []) ∷ Sync ∷ []) (g.D.Disks.disk c.lay_copy.new.disks n).calls (g.D.Disks.disk c.open_area.new.disks n).calls) at c.open_area.ensures.calls in
    subst (λ (l : List DiskCall). MadeSome l (g.D.Disks.disk c.args.disks.now (place_of c.args.self.now.centre (other_of c.args.self.now.area))).calls (g.D.Disks.disk c.open_area.new.disks (place_of c.args.self.now.centre (other_of c.args.self.now.area))).calls) (calls_laid c.args.self.now.spare (c.args.self.now.generation + 1) ps)
    (made_both (laid_calls c.args.self.now.spare (c.args.self.now.generation + 1) ps) (Sync ∷ Write 8 (1 ∷ []) ∷ Sync ∷ []) _ _ _ (c.in_ok-end.ensures.all_calls log told uses) last)

pub returns-clause-reads : goal.returns-clause-reads
returns-clause-reads g c =
    let at : c.spare_place-other.result ≡ (place_of c.args.self.now.centre (other_of c.args.self.now.area)) = c.spare_place-other.ensures in
    let beside = subst (λ (n : ℕ). KeepsOthers g.D.Disks.disk g.D.Disks.may_leave g.D.Disks.moment g.D.Disks.left_since c.lay_copy.new.disks c.open_area.new.disks n) at c.open_area.ensures.others in
    let apart = apart_areas c.args.self.now.centre c.args.self.now.area in
    let only = read_joined g.D.Disks.disk g.D.Disks.may_leave g.D.Disks.moment g.D.Disks.left_since g.met.D.Disks.only_now c.args.disks.now c.lay_copy.new.disks c.open_area.new.disks (place_of c.args.self.now.centre c.args.self.now.area) c.lay_copy.ensures.reads
    (read_beside g.D.Disks.disk g.D.Disks.may_leave g.D.Disks.moment g.D.Disks.left_since g.met.D.Disks.only_now c.lay_copy.new.disks c.open_area.new.disks (place_of c.args.self.now.centre c.args.self.now.area) (place_of c.args.self.now.centre (other_of c.args.self.now.area)) apart beside) in
    only

pub returns-clause-others : goal.returns-clause-others
returns-clause-others g c =
    let at : c.spare_place-other.result ≡ (place_of c.args.self.now.centre (other_of c.args.self.now.area)) = c.spare_place-other.ensures in
    let beside = subst (λ (n : ℕ). KeepsOthers g.D.Disks.disk g.D.Disks.may_leave g.D.Disks.moment g.D.Disks.left_since c.lay_copy.new.disks c.open_area.new.disks n) at c.open_area.ensures.others in
    let apart = apart_areas c.args.self.now.centre c.args.self.now.area in
    but_joined g.D.Disks.disk g.D.Disks.may_leave g.D.Disks.moment g.D.Disks.left_since g.met.D.Disks.only_now c.args.disks.now c.lay_copy.new.disks c.open_area.new.disks (place_of c.args.self.now.centre c.args.self.now.area) (place_of c.args.self.now.centre (other_of c.args.self.now.area)) c.lay_copy.ensures.others
    (but_two g.D.Disks.disk g.D.Disks.may_leave g.D.Disks.moment g.D.Disks.left_since g.met.D.Disks.only_now c.lay_copy.new.disks c.open_area.new.disks (place_of c.args.self.now.centre c.args.self.now.area) (place_of c.args.self.now.centre (other_of c.args.self.now.area)) apart beside (subst (λ (n : ℕ). (g.D.Disks.disk c.lay_copy.new.disks n).faults ≤ (g.D.Disks.disk c.open_area.new.disks n).faults) at c.open_area.ensures.cause.later))

pub returns-clause-any_moment : goal.returns-clause-any_moment
returns-clause-any_moment g c log told uses =
    let at : c.spare_place-other.result ≡ (place_of c.args.self.now.centre (other_of c.args.self.now.area)) = c.spare_place-other.ensures in
    let beside = subst (λ (n : ℕ). KeepsOthers g.D.Disks.disk g.D.Disks.may_leave g.D.Disks.moment g.D.Disks.left_since c.lay_copy.new.disks c.open_area.new.disks n) at c.open_area.ensures.others in
    let apart = apart_areas c.args.self.now.centre c.args.self.now.area in
    let only = read_joined g.D.Disks.disk g.D.Disks.may_leave g.D.Disks.moment g.D.Disks.left_since g.met.D.Disks.only_now c.args.disks.now c.lay_copy.new.disks c.open_area.new.disks (place_of c.args.self.now.centre c.args.self.now.area) c.lay_copy.ensures.reads
    (read_beside g.D.Disks.disk g.D.Disks.may_leave g.D.Disks.moment g.D.Disks.left_since g.met.D.Disks.only_now c.lay_copy.new.disks c.open_area.new.disks (place_of c.args.self.now.centre c.args.self.now.area) (place_of c.args.self.now.centre (other_of c.args.self.now.area)) apart beside) in
    (weakened (IsCurrent c.args.self.now.area log) only.any_moment (λ x may. subst (IsCurrent c.args.self.now.area log) (sym (uses.durable x may)) (is_current uses)))

pub returns-clause-any_moment_other : goal.returns-clause-any_moment_other
returns-clause-any_moment_other g c log told there uses =
    let at : c.spare_place-other.result ≡ (place_of c.args.self.now.centre (other_of c.args.self.now.area)) = c.spare_place-other.ensures in
    let beside = subst (λ (n : ℕ). KeepsOthers g.D.Disks.disk g.D.Disks.may_leave g.D.Disks.moment g.D.Disks.left_since c.lay_copy.new.disks c.open_area.new.disks n) at c.open_area.ensures.others in
    let apart = apart_areas c.args.self.now.centre c.args.self.now.area in
    let spare = c.requires.spare there in
    let old = (g.D.Disks.disk c.args.disks.now (place_of c.args.self.now.centre (other_of c.args.self.now.area))).bytes in
    let idle = subst (λ (n : ℕ). IsDead old ⊎ IsOlder n old) uses.generation spare.idle in
    let room = c.in_ok-end.ensures.has_room in
    let counted : length (payloads_of log) < 2 ^ 64 = omega (arith, uses.count, room.count) in
    let next : c.args.self.now.generation + 1 ≡ generation_of log.head + 1 = omega (arith, uses.generation) in
    let ps = payloads_of log in
    let written = c.in_ok-end.ensures.written log told there uses in
    let told_mid : IsTrue (g.D.Disks.disk c.lay_copy.new.disks c.spare_place-other.result).told = subst (λ (n : ℕ). IsTrue (g.D.Disks.disk c.lay_copy.new.disks n).told) (sym at) (c.lay_copy.ensures.others.told_two ∙ there) in
    let opening = subst (λ (n : ℕ). LeavesOnly g.D.Disks.moment g.D.Disks.left_since c.lay_copy.new.disks c.open_area.new.disks n (MayOpen (g.D.Disks.disk c.lay_copy.new.disks n).bytes)) at (c.open_area.ensures.any_moment told_mid) in
    let copying : LeavesOnly g.D.Disks.moment g.D.Disks.left_since c.args.disks.now c.open_area.new.disks (place_of c.args.self.now.centre (other_of c.args.self.now.area)) (MayCopy old (c.args.self.now.generation + 1) ps) =
    both (weakened (MayCopy old (c.args.self.now.generation + 1) ps) (c.lay_copy.ensures.any_moment there) (begun_copy old (c.args.self.now.generation + 1) ps))
    (weakened (MayCopy old (c.args.self.now.generation + 1) ps) opening (λ x may. opened_copy old _ x (c.args.self.now.generation + 1) ps written may)) in
    weakened (IsIdle log) copying (λ x may. copying_idle c.args.self.now.area (c.args.self.now.generation + 1) log old x uses.valid next room.generation counted idle may)

pub returns-clause-any_moment_reads : goal.returns-clause-any_moment_reads
returns-clause-any_moment_reads g c log current other told there uses left left_other =
    let at : c.spare_place-other.result ≡ (place_of c.args.self.now.centre (other_of c.args.self.now.area)) = c.spare_place-other.ensures in
    let beside = subst (λ (n : ℕ). KeepsOthers g.D.Disks.disk g.D.Disks.may_leave g.D.Disks.moment g.D.Disks.left_since c.lay_copy.new.disks c.open_area.new.disks n) at c.open_area.ensures.others in
    let apart = apart_areas c.args.self.now.centre c.args.self.now.area in
    let only = read_joined g.D.Disks.disk g.D.Disks.may_leave g.D.Disks.moment g.D.Disks.left_since g.met.D.Disks.only_now c.args.disks.now c.lay_copy.new.disks c.open_area.new.disks (place_of c.args.self.now.centre c.args.self.now.area) c.lay_copy.ensures.reads
    (read_beside g.D.Disks.disk g.D.Disks.may_leave g.D.Disks.moment g.D.Disks.left_since g.met.D.Disks.only_now c.lay_copy.new.disks c.open_area.new.disks (place_of c.args.self.now.centre c.args.self.now.area) (place_of c.args.self.now.centre (other_of c.args.self.now.area)) apart beside) in
    let spare = c.requires.spare there in
    let old = (g.D.Disks.disk c.args.disks.now (place_of c.args.self.now.centre (other_of c.args.self.now.area))).bytes in
    let idle = subst (λ (n : ℕ). IsDead old ⊎ IsOlder n old) uses.generation spare.idle in
    let room = c.in_ok-end.ensures.has_room in
    let counted : length (payloads_of log) < 2 ^ 64 = omega (arith, uses.count, room.count) in
    let next : c.args.self.now.generation + 1 ≡ generation_of log.head + 1 = omega (arith, uses.generation) in
    let ps = payloads_of log in
    let written = c.in_ok-end.ensures.written log told there uses in
    let told_mid : IsTrue (g.D.Disks.disk c.lay_copy.new.disks c.spare_place-other.result).told = subst (λ (n : ℕ). IsTrue (g.D.Disks.disk c.lay_copy.new.disks n).told) (sym at) (c.lay_copy.ensures.others.told_two ∙ there) in
    let opening = subst (λ (n : ℕ). LeavesOnly g.D.Disks.moment g.D.Disks.left_since c.lay_copy.new.disks c.open_area.new.disks n (MayOpen (g.D.Disks.disk c.lay_copy.new.disks n).bytes)) at (c.open_area.ensures.any_moment told_mid) in
    let copying : LeavesOnly g.D.Disks.moment g.D.Disks.left_since c.args.disks.now c.open_area.new.disks (place_of c.args.self.now.centre (other_of c.args.self.now.area)) (MayCopy old (c.args.self.now.generation + 1) ps) =
    both (weakened (MayCopy old (c.args.self.now.generation + 1) ps) (c.lay_copy.ensures.any_moment there) (begun_copy old (c.args.self.now.generation + 1) ps))
    (weakened (MayCopy old (c.args.self.now.generation + 1) ps) opening (λ x may. opened_copy old _ x (c.args.self.now.generation + 1) ps written may)) in
    current_is_read c.args.self.now.area log current other
    (subst (IsCurrent c.args.self.now.area log) (sym (uses.durable current (only.any_moment.each current left))) (is_current uses))
    (copying_idle c.args.self.now.area (c.args.self.now.generation + 1) log old other uses.valid next room.generation counted idle (copying.each other left_other))

pub returns-clause-calls : goal.returns-clause-calls
returns-clause-calls g c log told uses =
    let at : c.spare_place-other.result ≡ (place_of c.args.self.now.centre (other_of c.args.self.now.area)) = c.spare_place-other.ensures in
    let ps = payloads_of log in
    let last = subst (λ (n : ℕ). MadeSome (Sync ∷ Write 8 (1 ∷ []) ∷ Sync ∷ []) (g.D.Disks.disk c.lay_copy.new.disks n).calls (g.D.Disks.disk c.open_area.new.disks n).calls) at c.open_area.ensures.calls in
    subst (λ (l : List DiskCall). MadeSome l (g.D.Disks.disk c.args.disks.now (place_of c.args.self.now.centre (other_of c.args.self.now.area))).calls (g.D.Disks.disk c.open_area.new.disks (place_of c.args.self.now.centre (other_of c.args.self.now.area))).calls) (calls_laid c.args.self.now.spare (c.args.self.now.generation + 1) ps)
    (made_both (laid_calls c.args.self.now.spare (c.args.self.now.generation + 1) ps) (Sync ∷ Write 8 (1 ∷ []) ∷ Sync ∷ []) _ _ _ (c.in_ok-end.ensures.all_calls log told uses) last)

pub returns-clause-all_calls : goal.returns-clause-all_calls
returns-clause-all_calls g c log told uses =
    let at : c.spare_place-other.result ≡ (place_of c.args.self.now.centre (other_of c.args.self.now.area)) = c.spare_place-other.ensures in
    let ps = payloads_of log in
    let last = subst (λ (n : ℕ). (g.D.Disks.disk c.open_area.new.disks n).calls ≡ with_calls (Sync ∷ Write 8 (1 ∷ []) ∷ Sync ∷ []) (g.D.Disks.disk c.lay_copy.new.disks n).calls) at c.in_ok-open_area.ensures.all_calls in
    all_both (laid_calls c.args.self.now.spare (c.args.self.now.generation + 1) ps) (Sync ∷ Write 8 (1 ∷ []) ∷ Sync ∷ []) _ _ _ (c.in_ok-end.ensures.all_calls log told uses) last
    ∙ ap (λ (l : List DiskCall). with_calls l (g.D.Disks.disk c.args.disks.now (place_of c.args.self.now.centre (other_of c.args.self.now.area))).calls) (calls_laid c.args.self.now.spare (c.args.self.now.generation + 1) ps)

pub returns-clause-packed : goal.returns-clause-packed
returns-clause-packed g c log told there uses =
    let at : c.spare_place-other.result ≡ (place_of c.args.self.now.centre (other_of c.args.self.now.area)) = c.spare_place-other.ensures in
    let room = c.in_ok-end.ensures.has_room in
    let written = c.in_ok-end.ensures.written log told there uses in
    let told_mid : IsTrue (g.D.Disks.disk c.lay_copy.new.disks c.spare_place-other.result).told = subst (λ (n : ℕ). IsTrue (g.D.Disks.disk c.lay_copy.new.disks n).told) (sym at) (c.lay_copy.ensures.others.told_two ∙ there) in
    let opened = subst (λ (n : ℕ). (g.D.Disks.disk c.open_area.new.disks n).bytes ≡ with_gate 1 (g.D.Disks.disk c.lay_copy.new.disks n).bytes) at (c.in_ok-open_area.ensures.opened told_mid) in
    let made : (g.D.Disks.disk c.open_area.new.disks (place_of c.args.self.now.centre (other_of c.args.self.now.area))).bytes ≡ copy_of 1 (c.args.self.now.generation + 1) (payloads_of log) = opened ∙ ap (λ (l : List ℕ). with_gate 1 l) written in
    let durable = subst (λ (n : ℕ). Only (g.D.Disks.disk c.open_area.new.disks n).bytes (g.D.Disks.may_leave c.open_area.new.disks n)) at (c.in_ok-open_area.ensures.durable told_mid) in
    packed_in_use c.args.self.now _ log c.in_ok-end.end _ (g.D.Disks.disk c.open_area.new.disks (place_of c.args.self.now.centre (other_of c.args.self.now.area))).bytes _ (g.D.Disks.may_leave c.open_area.new.disks (place_of c.args.self.now.centre (other_of c.args.self.now.area))) uses room.generation room.count made durable
    (c.in_ok-end.ensures.size log told uses) (ap (λ (v : OpenAreas). v.generation + 1) (c.self.view_is ∙ c.lay_copy.ensures.keeps)) (ap (λ (v : OpenAreas). v.count) (c.self.view_is ∙ c.lay_copy.ensures.keeps)) refl refl refl refl

pub returns-clause-spare : goal.returns-clause-spare
returns-clause-spare g c log told uses =
    let at : c.spare_place-other.result ≡ (place_of c.args.self.now.centre (other_of c.args.self.now.area)) = c.spare_place-other.ensures in
    let beside = subst (λ (n : ℕ). KeepsOthers g.D.Disks.disk g.D.Disks.may_leave g.D.Disks.moment g.D.Disks.left_since c.lay_copy.new.disks c.open_area.new.disks n) at c.open_area.ensures.others in
    let apart = apart_areas c.args.self.now.centre c.args.self.now.area in
    let only = read_joined g.D.Disks.disk g.D.Disks.may_leave g.D.Disks.moment g.D.Disks.left_since g.met.D.Disks.only_now c.args.disks.now c.lay_copy.new.disks c.open_area.new.disks (place_of c.args.self.now.centre c.args.self.now.area) c.lay_copy.ensures.reads
    (read_beside g.D.Disks.disk g.D.Disks.may_leave g.D.Disks.moment g.D.Disks.left_since g.met.D.Disks.only_now c.lay_copy.new.disks c.open_area.new.disks (place_of c.args.self.now.centre c.args.self.now.area) (place_of c.args.self.now.centre (other_of c.args.self.now.area)) apart beside) in
    let generation : c.self.inside.generation ≡ c.args.self.now.generation = ap (λ (v : OpenAreas). v.generation) (c.self.view_is ∙ c.lay_copy.ensures.keeps) in
    let size : c.self.inside.size ≡ c.args.self.now.size = ap (λ (v : OpenAreas). v.size) (c.self.view_is ∙ c.lay_copy.ensures.keeps) in
    let next : c.self.inside.generation + 1 ≡ generation_of log.head + 1 = omega (arith, generation, uses.generation) in
    record {
      idle = left_idle c.args.self.now.area (c.self.inside.generation + 1) log (g.D.Disks.disk c.open_area.new.disks (place_of c.args.self.now.centre c.args.self.now.area)).bytes uses.valid (only.bytes ∙ uses.file) next;
      spare = c.left_area-self-inside.ensures ∙ left_spare c.args.self.now.area c.self.inside.generation c.self.inside.size log (g.D.Disks.disk c.open_area.new.disks (place_of c.args.self.now.centre c.args.self.now.area)).bytes uses.valid (only.bytes ∙ uses.file) (generation ∙ uses.generation) (size ∙ uses.size ∙ sym (ap (λ (l : List ℕ). length l) only.bytes));
      durable = λ x now. uses.durable x (only.crash x now) ∙ sym only.bytes;
    }
