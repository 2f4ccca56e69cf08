use Rattle.std.proofs.Common.{◌+◌, ◌≡◌, ◌≢◌, ℕ, List, OnOk, IsTrue, sym, ◌∙◌, ap, subst}
use Rattle.std.proofs.Common.{Option}
use Rattle.mdcc_disks.specs.Disks.{Disk, DiskCall}
use Rattle.mdcc_log_file.specs.Calls.{with_calls}
use Rattle.mdcc_log_file.specs.Area.{payloads_of}
use Rattle.mdcc_disks.specs.Memory.{at_place, disk_of, left_since_of, may_leave_of, moment_of, only_now_of, standing}
use Rattle.mdcc_log_file.specs.Both.{IsOnlyRead, KeepsBut, RoseAtOne}
use Rattle.mdcc_log.specs.Crash.{IsCurrent, ReadsAsEither, payloads_by}
use Rattle.mdcc_log.specs.Frames.{OpenAreas, IsInUse, IsSpare, appended, place_of, other_of}
use Rattle.mdcc_world_log_stops.specs.Stops.{IsStoppedCopy, stopped_calls}
use Rattle.mdcc_log.proofs.Dues.{apart_areas, append_reads, due_reads}
use Rattle.mdcc_log_file.proofs.Moments.{weakened}
use Rattle.mdcc_log_file.proofs.Joined.{but_joined, but_one, fault_later}
use Rattle.mdcc_world_log_stops.proofs.Stopped.{on_always, read_in_use, still_spare}
use Rattle.mdcc_log.proofs.Uses.{is_current}
use Rattle.mdcc_world_log_stops.proofs.stops.append_due_until.Goals as goal

pub returns-in_err-append-clause-any_moment_reads : goal.returns-in_err-append-clause-any_moment_reads
returns-in_err-append-clause-any_moment_reads c all current spare told there rest left left_other =
    subst (λ (l : List (List ℕ)). ReadsAsEither l c.args.payload.now (payloads_by c.args.frames.now.area current spare)) (sym rest.payloads_are)
    (append_reads disk_of may_leave_of moment_of left_since_of only_now_of c.args.disks.now c.append.new.disks c.args.frames.now rest.log c.args.payload.now rest.in_use.generation c.append.ensures.others rest.spare (c.append.ensures.any_moment rest.log told rest.in_use) current spare left left_other)

pub returns-in_err-append-clause-others : goal.returns-in_err-append-clause-others
returns-in_err-append-clause-others c = but_one disk_of may_leave_of moment_of left_since_of only_now_of c.args.disks.now c.append.new.disks (place_of c.args.frames.now.centre c.args.frames.now.area) (place_of c.args.frames.now.centre (other_of c.args.frames.now.area)) (apart_areas c.args.frames.now.centre c.args.frames.now.area) c.append.ensures.others c.append.ensures.later

pub returns-clause-others : goal.returns-clause-others
returns-clause-others c =
    let keeps = c.in_ok-append.ensures.keeps in
    let centre_is : c.append.new.self.centre ≡ c.args.frames.now.centre = ap (λ (f : OpenAreas). f.centre) keeps in
    let area_is : c.append.new.self.area ≡ c.args.frames.now.area = ap (λ (f : OpenAreas). f.area) keeps in
    let here : place_of c.append.new.self.centre c.append.new.self.area ≡ (place_of c.args.frames.now.centre c.args.frames.now.area) = ap (λ (f : OpenAreas). place_of f.centre f.area) keeps in
    let there : place_of c.append.new.self.centre (other_of c.append.new.self.area) ≡ (place_of c.args.frames.now.centre (other_of c.args.frames.now.area)) = ap (λ (f : OpenAreas). place_of f.centre (other_of f.area)) keeps in
    let first = but_one disk_of may_leave_of moment_of left_since_of only_now_of c.args.disks.now c.append.new.disks (place_of c.args.frames.now.centre c.args.frames.now.area) (place_of c.args.frames.now.centre (other_of c.args.frames.now.area)) (apart_areas c.args.frames.now.centre c.args.frames.now.area) c.append.ensures.others c.append.ensures.later in
    let moved = subst (λ (q : ℕ). KeepsBut disk_of may_leave_of moment_of left_since_of c.append.new.disks c.checkpoint_until.new.disks (place_of c.args.frames.now.centre c.args.frames.now.area) q) there
    (subst (λ (q : ℕ). KeepsBut disk_of may_leave_of moment_of left_since_of c.append.new.disks c.checkpoint_until.new.disks q (place_of c.append.new.self.centre (other_of c.append.new.self.area))) here c.checkpoint_until.ensures.others) in
    but_joined disk_of may_leave_of moment_of left_since_of only_now_of c.args.disks.now c.append.new.disks c.checkpoint_until.new.disks (place_of c.args.frames.now.centre c.args.frames.now.area) (place_of c.args.frames.now.centre (other_of c.args.frames.now.area)) first moved

pub returns-clause-disk_fault : goal.returns-clause-disk_fault
returns-clause-disk_fault c is =
    let keeps = c.in_ok-append.ensures.keeps in
    let centre_is : c.append.new.self.centre ≡ c.args.frames.now.centre = ap (λ (f : OpenAreas). f.centre) keeps in
    let area_is : c.append.new.self.area ≡ c.args.frames.now.area = ap (λ (f : OpenAreas). f.area) keeps in
    let here : place_of c.append.new.self.centre c.append.new.self.area ≡ (place_of c.args.frames.now.centre c.args.frames.now.area) = ap (λ (f : OpenAreas). place_of f.centre f.area) keeps in
    let there : place_of c.append.new.self.centre (other_of c.append.new.self.area) ≡ (place_of c.args.frames.now.centre (other_of c.args.frames.now.area)) = ap (λ (f : OpenAreas). place_of f.centre (other_of f.area)) keeps in
    let first = but_one disk_of may_leave_of moment_of left_since_of only_now_of c.args.disks.now c.append.new.disks (place_of c.args.frames.now.centre c.args.frames.now.area) (place_of c.args.frames.now.centre (other_of c.args.frames.now.area)) (apart_areas c.args.frames.now.centre c.args.frames.now.area) c.append.ensures.others c.append.ensures.later in
    let rose = subst (λ (q : ℕ). RoseAtOne (disk_of c.append.new.disks (place_of c.args.frames.now.centre c.args.frames.now.area)) (disk_of c.checkpoint_until.new.disks (place_of c.args.frames.now.centre c.args.frames.now.area)) (disk_of c.append.new.disks q) (disk_of c.checkpoint_until.new.disks q)) there
    (subst (λ (q : ℕ). RoseAtOne (disk_of c.append.new.disks q) (disk_of c.checkpoint_until.new.disks q) (disk_of c.append.new.disks (place_of c.append.new.self.centre (other_of c.append.new.self.area))) (disk_of c.checkpoint_until.new.disks (place_of c.append.new.self.centre (other_of c.append.new.self.area)))) here (c.checkpoint_until.ensures.disk_fault is)) in
    fault_later (disk_of c.args.disks.now (place_of c.args.frames.now.centre c.args.frames.now.area)) (disk_of c.append.new.disks (place_of c.args.frames.now.centre c.args.frames.now.area)) (disk_of c.checkpoint_until.new.disks (place_of c.args.frames.now.centre c.args.frames.now.area)) (disk_of c.args.disks.now (place_of c.args.frames.now.centre (other_of c.args.frames.now.area))) (disk_of c.append.new.disks (place_of c.args.frames.now.centre (other_of c.args.frames.now.area))) (disk_of c.checkpoint_until.new.disks (place_of c.args.frames.now.centre (other_of c.args.frames.now.area))) first.faults_one first.faults_two rose

pub returns-clause-any_moment_reads : goal.returns-clause-any_moment_reads
returns-clause-any_moment_reads c all current spare told there' rest left left_other =
    let keeps = c.in_ok-append.ensures.keeps in
    let centre_is : c.append.new.self.centre ≡ c.args.frames.now.centre = ap (λ (f : OpenAreas). f.centre) keeps in
    let area_is : c.append.new.self.area ≡ c.args.frames.now.area = ap (λ (f : OpenAreas). f.area) keeps in
    let here : place_of c.append.new.self.centre c.append.new.self.area ≡ (place_of c.args.frames.now.centre c.args.frames.now.area) = ap (λ (f : OpenAreas). place_of f.centre f.area) keeps in
    let there : place_of c.append.new.self.centre (other_of c.append.new.self.area) ≡ (place_of c.args.frames.now.centre (other_of c.args.frames.now.area)) = ap (λ (f : OpenAreas). place_of f.centre (other_of f.area)) keeps in
    let used = subst (λ (q : ℕ). IsInUse c.append.new.self (appended rest.log c.args.payload.now) (disk_of c.append.new.disks q).bytes (may_leave_of c.append.new.disks q)) (sym here) (c.in_ok-append.ensures.acknowledged rest.log told rest.in_use) in
    let told_here : IsTrue (disk_of c.append.new.disks (place_of c.append.new.self.centre c.append.new.self.area)).told = subst (λ (q : ℕ). IsTrue (disk_of c.append.new.disks q).told) (sym here) (c.append.ensures.others.told ∙ told) in
    let told_there : IsTrue (disk_of c.append.new.disks (place_of c.append.new.self.centre (other_of c.append.new.self.area))).told = subst (λ (q : ℕ). IsTrue (disk_of c.append.new.disks q).told) (sym there) (ap (λ (d : Disk). d.told) (c.append.ensures.others.others (place_of c.args.frames.now.centre (other_of c.args.frames.now.area)) (λ same. apart_areas c.args.frames.now.centre c.args.frames.now.area (sym same))) ∙ there') in
    subst (λ (l : List (List ℕ)). ReadsAsEither l c.args.payload.now (payloads_by c.args.frames.now.area current spare)) (sym rest.payloads_are)
    (due_reads disk_of may_leave_of moment_of left_since_of only_now_of c.args.disks.now c.append.new.disks c.args.frames.now rest.log c.args.payload.now rest.in_use.generation c.append.ensures.others rest.spare c.checkpoint_until.new.disks c.append.new.self centre_is area_is (c.append.ensures.any_moment rest.log told rest.in_use)
    (weakened (IsCurrent c.append.new.self.area (appended rest.log c.args.payload.now)) c.checkpoint_until.ensures.reads.any_moment (λ x may. subst (IsCurrent c.append.new.self.area (appended rest.log c.args.payload.now)) (sym (used.durable x may)) (is_current used))) (c.checkpoint_until.ensures.any_moment_other (appended rest.log c.args.payload.now) told_here told_there used) current spare left left_other)

pub returns-clause-stopped : goal.returns-clause-stopped
returns-clause-stopped c log told there' uses =
    let keeps = c.in_ok-append.ensures.keeps in
    let here : place_of c.append.new.self.centre c.append.new.self.area ≡ (place_of c.args.frames.now.centre c.args.frames.now.area) = ap (λ (f : OpenAreas). place_of f.centre f.area) keeps in
    let there : place_of c.append.new.self.centre (other_of c.append.new.self.area) ≡ (place_of c.args.frames.now.centre (other_of c.args.frames.now.area)) = ap (λ (f : OpenAreas). place_of f.centre (other_of f.area)) keeps in
    let used = subst (λ (q : ℕ). IsInUse c.append.new.self (appended log c.args.payload.now) (disk_of c.append.new.disks q).bytes (may_leave_of c.append.new.disks q)) (sym here) (c.in_ok-append.ensures.acknowledged log told uses) in
    let told_here : IsTrue (disk_of c.append.new.disks (place_of c.append.new.self.centre c.append.new.self.area)).told = subst (λ (q : ℕ). IsTrue (disk_of c.append.new.disks q).told) (sym here) (c.append.ensures.others.told ∙ told) in
    let told_there : IsTrue (disk_of c.append.new.disks (place_of c.append.new.self.centre (other_of c.append.new.self.area))).told = subst (λ (q : ℕ). IsTrue (disk_of c.append.new.disks q).told) (sym there) (ap (λ (d : Disk). d.told) (c.append.ensures.others.others (place_of c.args.frames.now.centre (other_of c.args.frames.now.area)) (λ same. apart_areas c.args.frames.now.centre c.args.frames.now.area (sym same))) ∙ there') in
    subst (λ (q : ℕ). OnOk c.checkpoint_until.result (IsStoppedCopy c.args.call (appended log c.args.payload.now) (standing (at_place c.checkpoint_until.new.disks q)))) there
    (c.checkpoint_until.ensures.stopped (appended log c.args.payload.now) told_here told_there used)

pub returns-clause-appended : goal.returns-clause-appended
returns-clause-appended c log told uses =
    let keeps = c.in_ok-append.ensures.keeps in
    let here : place_of c.append.new.self.centre c.append.new.self.area ≡ (place_of c.args.frames.now.centre c.args.frames.now.area) = ap (λ (f : OpenAreas). place_of f.centre f.area) keeps in
    let used = c.in_ok-append.ensures.acknowledged log told uses in
    let reads = subst (λ (q : ℕ). IsOnlyRead disk_of may_leave_of moment_of left_since_of c.append.new.disks c.checkpoint_until.new.disks q) here c.checkpoint_until.ensures.reads in
    on_always c.checkpoint_until.result
    (subst (λ (f : OpenAreas). IsInUse f (appended log c.args.payload.now) (disk_of c.checkpoint_until.new.disks (place_of c.args.frames.now.centre c.args.frames.now.area)).bytes (may_leave_of c.checkpoint_until.new.disks (place_of c.args.frames.now.centre c.args.frames.now.area))) (sym c.checkpoint_until.ensures.keeps)
    (read_in_use c.append.new.self (appended log c.args.payload.now) _ _ _ _ used reads.bytes reads.crash))

pub checkpoint_until-requires-clause-spare : goal.checkpoint_until-requires-clause-spare
checkpoint_until-requires-clause-spare c told =
    let keeps = c.in_ok-append.ensures.keeps in
    let there : place_of c.append.new.self.centre (other_of c.append.new.self.area) ≡ (place_of c.args.frames.now.centre (other_of c.args.frames.now.area)) = ap (λ (f : OpenAreas). place_of f.centre (other_of f.area)) keeps in
    let other = place_of c.args.frames.now.centre (other_of c.args.frames.now.area) in
    let apart : other ≢ place_of c.args.frames.now.centre c.args.frames.now.area = λ same. apart_areas c.args.frames.now.centre c.args.frames.now.area (sym same) in
    let same = c.append.ensures.others.others other apart in
    let told_mid = subst (λ (q : ℕ). IsTrue (disk_of c.append.new.disks q).told) there told in
    let spare = c.requires.spare (sym (ap (λ (d : Disk). d.told) same) ∙ told_mid) in
    subst (λ (q : ℕ). IsSpare c.append.new.self (disk_of c.append.new.disks q).bytes (may_leave_of c.append.new.disks q)) (sym there)
    (still_spare c.args.frames.now c.append.new.self _ _ _ _ spare (ap (λ (f : OpenAreas). f.generation) keeps) (ap (λ (f : OpenAreas). f.spare) keeps) (ap (λ (d : Disk). d.bytes) same) (c.append.ensures.others.crash other apart))

pub returns-clause-all_calls : goal.returns-clause-all_calls
returns-clause-all_calls c log told uses =
    let keeps = c.in_ok-append.ensures.keeps in
    let here : place_of c.append.new.self.centre c.append.new.self.area ≡ (place_of c.args.frames.now.centre c.args.frames.now.area) = ap (λ (f : OpenAreas). place_of f.centre f.area) keeps in
    let used = subst (λ (q : ℕ). IsInUse c.append.new.self (appended log c.args.payload.now) (disk_of c.append.new.disks q).bytes (may_leave_of c.append.new.disks q)) (sym here) (c.in_ok-append.ensures.acknowledged log told uses) in
    let told_here : IsTrue (disk_of c.append.new.disks (place_of c.append.new.self.centre c.append.new.self.area)).told = subst (λ (q : ℕ). IsTrue (disk_of c.append.new.disks q).told) (sym here) (c.append.ensures.others.told ∙ told) in
    let other = place_of c.args.frames.now.centre (other_of c.args.frames.now.area) in
    let apart : other ≢ place_of c.args.frames.now.centre c.args.frames.now.area = λ same. apart_areas c.args.frames.now.centre c.args.frames.now.area (sym same) in
    let all = payloads_of (appended log c.args.payload.now) in
    let made = c.checkpoint_until.ensures.all_calls (appended log c.args.payload.now) told_here used in
    subst (λ (o : Option (List DiskCall)). OnOk c.checkpoint_until.result ((disk_of c.checkpoint_until.new.disks other).calls ≡ with_calls (stopped_calls c.args.call c.args.frames.now.spare (c.args.frames.now.generation + 1) all) o))
    (ap (λ (d : Disk). d.calls) (c.append.ensures.others.others other apart))
    (subst (λ (f : OpenAreas). OnOk c.checkpoint_until.result ((disk_of c.checkpoint_until.new.disks (place_of f.centre (other_of f.area))).calls ≡ with_calls (stopped_calls c.args.call f.spare (f.generation + 1) all) (disk_of c.append.new.disks (place_of f.centre (other_of f.area))).calls)) keeps made)
