use Rattle.std.proofs.Common.{inl, ◌≡◌, ◌∷◌, ◌++◌, arith, ℕ, IsTrue, sym, ◌∙◌, ap, subst}
use Rattle.mdcc_disks.specs.Disks.{Disk}
use Rattle.mdcc_log_file.specs.Both.{KeepsBut, RoseAtOne}
use Rattle.mdcc_log.specs.Frames.{OpenAreas, IsInUse, place_of, other_of}
use Rattle.mdcc_log.specs.Groups.{MayHaveDueGroup, with_payloads}
use Rattle.mdcc_log.proofs.Dues.{apart_areas, idle_moment, rested_later, rested_packed}
use Rattle.mdcc_log.proofs.Groups.{due_group_reads, due_moment, due_moment_other, group_reads, joined_payloads}
use Rattle.mdcc_log_file.proofs.Moments.{weakened}
use Rattle.mdcc_log_file.proofs.Joined.{but_joined, but_one, fault_later}
use Rattle.mdcc_log.proofs.Outcomes.{on_ok_three}
use Rattle.mdcc_log.proofs.frames.Frames.append_group_due.Goals as goal

pub returns-in_err-append_group-clause-any_moment_reads : goal.returns-in_err-append_group-clause-any_moment_reads
returns-in_err-append_group-clause-any_moment_reads g c all current spare told there rest left left_other =
    group_reads g.D.Disks.disk g.D.Disks.may_leave g.D.Disks.moment g.D.Disks.left_since g.met.D.Disks.only_now c.args.disks.now c.append_group.new.disks c.args.self.now all (c.args.first.now ∷ c.args.others.now) (omega arith) rest c.append_group.ensures.others (c.append_group.ensures.any_moment rest.log told rest.in_use) current spare left left_other

pub returns-in_err-append_group-clause-others : goal.returns-in_err-append_group-clause-others
returns-in_err-append_group-clause-others g c = but_one g.D.Disks.disk g.D.Disks.may_leave g.D.Disks.moment g.D.Disks.left_since g.met.D.Disks.only_now c.args.disks.now c.append_group.new.disks (place_of c.args.self.now.centre c.args.self.now.area) (place_of c.args.self.now.centre (other_of c.args.self.now.area)) (apart_areas c.args.self.now.centre c.args.self.now.area) c.append_group.ensures.others c.append_group.ensures.later

pub returns-clause-any_moment_reads : goal.returns-clause-any_moment_reads
returns-clause-any_moment_reads g c all current spare told there rest left left_other =
    group_reads g.D.Disks.disk g.D.Disks.may_leave g.D.Disks.moment g.D.Disks.left_since g.met.D.Disks.only_now c.args.disks.now c.append_group.new.disks c.args.self.now all (c.args.first.now ∷ c.args.others.now) (omega arith) rest c.append_group.ensures.others (c.append_group.ensures.any_moment rest.log told rest.in_use) current spare left left_other

pub returns-clause-others : goal.returns-clause-others
returns-clause-others g c = but_one g.D.Disks.disk g.D.Disks.may_leave g.D.Disks.moment g.D.Disks.left_since g.met.D.Disks.only_now c.args.disks.now c.append_group.new.disks (place_of c.args.self.now.centre c.args.self.now.area) (place_of c.args.self.now.centre (other_of c.args.self.now.area)) (apart_areas c.args.self.now.centre c.args.self.now.area) c.append_group.ensures.others c.append_group.ensures.later

pub returns-clause-acknowledged : goal.returns-clause-acknowledged
returns-clause-acknowledged g c all told there' rest =
    let keeps = c.in_ok-append_group.ensures.keeps in
    let centre_is : c.append_group.new.self.centre ≡ c.args.self.now.centre = ap (λ (f : OpenAreas). f.centre) keeps in
    let area_is : c.append_group.new.self.area ≡ c.args.self.now.area = ap (λ (f : OpenAreas). f.area) keeps in
    let here : place_of c.append_group.new.self.centre c.append_group.new.self.area ≡ (place_of c.args.self.now.centre c.args.self.now.area) = ap (λ (f : OpenAreas). place_of f.centre f.area) keeps in
    let there : place_of c.append_group.new.self.centre (other_of c.append_group.new.self.area) ≡ (place_of c.args.self.now.centre (other_of c.args.self.now.area)) = ap (λ (f : OpenAreas). place_of f.centre (other_of f.area)) keeps in
    rested_later g.D.Disks.disk g.D.Disks.may_leave g.D.Disks.moment g.D.Disks.left_since g.met.D.Disks.only_now c.args.disks.now c.append_group.new.disks c.args.self.now c.append_group.new.self (c.args.first.now ∷ c.args.others.now) all rest (with_payloads rest.log (c.args.first.now ∷ c.args.others.now)) (joined_payloads rest.log (c.args.first.now ∷ c.args.others.now)) centre_is area_is (ap (λ (f : OpenAreas). f.generation) keeps) (ap (λ (f : OpenAreas). f.spare) keeps) c.append_group.ensures.others (c.in_ok-append_group.ensures.acknowledged rest.log told rest.in_use)

pub returns-then-due-clause-others : goal.returns-then-due-clause-others
returns-then-due-clause-others g c =
    let keeps = c.in_ok-append_group.ensures.keeps in
    let centre_is : c.append_group.new.self.centre ≡ c.args.self.now.centre = ap (λ (f : OpenAreas). f.centre) keeps in
    let area_is : c.append_group.new.self.area ≡ c.args.self.now.area = ap (λ (f : OpenAreas). f.area) keeps in
    let here : place_of c.append_group.new.self.centre c.append_group.new.self.area ≡ (place_of c.args.self.now.centre c.args.self.now.area) = ap (λ (f : OpenAreas). place_of f.centre f.area) keeps in
    let there : place_of c.append_group.new.self.centre (other_of c.append_group.new.self.area) ≡ (place_of c.args.self.now.centre (other_of c.args.self.now.area)) = ap (λ (f : OpenAreas). place_of f.centre (other_of f.area)) keeps in
    let first = but_one g.D.Disks.disk g.D.Disks.may_leave g.D.Disks.moment g.D.Disks.left_since g.met.D.Disks.only_now c.args.disks.now c.append_group.new.disks (place_of c.args.self.now.centre c.args.self.now.area) (place_of c.args.self.now.centre (other_of c.args.self.now.area)) (apart_areas c.args.self.now.centre c.args.self.now.area) c.append_group.ensures.others c.append_group.ensures.later in
    let moved = subst (λ (q : ℕ). KeepsBut g.D.Disks.disk g.D.Disks.may_leave g.D.Disks.moment g.D.Disks.left_since c.append_group.new.disks c.checkpoint.new.disks (place_of c.args.self.now.centre c.args.self.now.area) q) there
    (subst (λ (q : ℕ). KeepsBut g.D.Disks.disk g.D.Disks.may_leave g.D.Disks.moment g.D.Disks.left_since c.append_group.new.disks c.checkpoint.new.disks q (place_of c.append_group.new.self.centre (other_of c.append_group.new.self.area))) here c.checkpoint.ensures.others) in
    but_joined g.D.Disks.disk g.D.Disks.may_leave g.D.Disks.moment g.D.Disks.left_since g.met.D.Disks.only_now c.args.disks.now c.append_group.new.disks c.checkpoint.new.disks (place_of c.args.self.now.centre c.args.self.now.area) (place_of c.args.self.now.centre (other_of c.args.self.now.area)) first moved

pub returns-then-due-clause-disk_fault : goal.returns-then-due-clause-disk_fault
returns-then-due-clause-disk_fault g c is =
    let keeps = c.in_ok-append_group.ensures.keeps in
    let centre_is : c.append_group.new.self.centre ≡ c.args.self.now.centre = ap (λ (f : OpenAreas). f.centre) keeps in
    let area_is : c.append_group.new.self.area ≡ c.args.self.now.area = ap (λ (f : OpenAreas). f.area) keeps in
    let here : place_of c.append_group.new.self.centre c.append_group.new.self.area ≡ (place_of c.args.self.now.centre c.args.self.now.area) = ap (λ (f : OpenAreas). place_of f.centre f.area) keeps in
    let there : place_of c.append_group.new.self.centre (other_of c.append_group.new.self.area) ≡ (place_of c.args.self.now.centre (other_of c.args.self.now.area)) = ap (λ (f : OpenAreas). place_of f.centre (other_of f.area)) keeps in
    let first = but_one g.D.Disks.disk g.D.Disks.may_leave g.D.Disks.moment g.D.Disks.left_since g.met.D.Disks.only_now c.args.disks.now c.append_group.new.disks (place_of c.args.self.now.centre c.args.self.now.area) (place_of c.args.self.now.centre (other_of c.args.self.now.area)) (apart_areas c.args.self.now.centre c.args.self.now.area) c.append_group.ensures.others c.append_group.ensures.later in
    let rose = subst (λ (q : ℕ). RoseAtOne (g.D.Disks.disk c.append_group.new.disks (place_of c.args.self.now.centre c.args.self.now.area)) (g.D.Disks.disk c.checkpoint.new.disks (place_of c.args.self.now.centre c.args.self.now.area)) (g.D.Disks.disk c.append_group.new.disks q) (g.D.Disks.disk c.checkpoint.new.disks q)) there
    (subst (λ (q : ℕ). RoseAtOne (g.D.Disks.disk c.append_group.new.disks q) (g.D.Disks.disk c.checkpoint.new.disks q) (g.D.Disks.disk c.append_group.new.disks (place_of c.append_group.new.self.centre (other_of c.append_group.new.self.area))) (g.D.Disks.disk c.checkpoint.new.disks (place_of c.append_group.new.self.centre (other_of c.append_group.new.self.area)))) here (c.checkpoint.ensures.disk_fault is)) in
    fault_later (g.D.Disks.disk c.args.disks.now (place_of c.args.self.now.centre c.args.self.now.area)) (g.D.Disks.disk c.append_group.new.disks (place_of c.args.self.now.centre c.args.self.now.area)) (g.D.Disks.disk c.checkpoint.new.disks (place_of c.args.self.now.centre c.args.self.now.area)) (g.D.Disks.disk c.args.disks.now (place_of c.args.self.now.centre (other_of c.args.self.now.area))) (g.D.Disks.disk c.append_group.new.disks (place_of c.args.self.now.centre (other_of c.args.self.now.area))) (g.D.Disks.disk c.checkpoint.new.disks (place_of c.args.self.now.centre (other_of c.args.self.now.area))) first.faults_one first.faults_two rose

pub returns-then-due-clause-any_moment_reads : goal.returns-then-due-clause-any_moment_reads
returns-then-due-clause-any_moment_reads g c all current spare told there' rest left left_other =
    let keeps = c.in_ok-append_group.ensures.keeps in
    let centre_is : c.append_group.new.self.centre ≡ c.args.self.now.centre = ap (λ (f : OpenAreas). f.centre) keeps in
    let area_is : c.append_group.new.self.area ≡ c.args.self.now.area = ap (λ (f : OpenAreas). f.area) keeps in
    let here : place_of c.append_group.new.self.centre c.append_group.new.self.area ≡ (place_of c.args.self.now.centre c.args.self.now.area) = ap (λ (f : OpenAreas). place_of f.centre f.area) keeps in
    let there : place_of c.append_group.new.self.centre (other_of c.append_group.new.self.area) ≡ (place_of c.args.self.now.centre (other_of c.args.self.now.area)) = ap (λ (f : OpenAreas). place_of f.centre (other_of f.area)) keeps in
    let used = subst (λ (q : ℕ). IsInUse c.append_group.new.self (with_payloads rest.log (c.args.first.now ∷ c.args.others.now)) (g.D.Disks.disk c.append_group.new.disks q).bytes (g.D.Disks.may_leave c.append_group.new.disks q)) (sym here) (c.in_ok-append_group.ensures.acknowledged rest.log told rest.in_use) in
    let told_here : IsTrue (g.D.Disks.disk c.append_group.new.disks (place_of c.append_group.new.self.centre c.append_group.new.self.area)).told = subst (λ (q : ℕ). IsTrue (g.D.Disks.disk c.append_group.new.disks q).told) (sym here) (c.append_group.ensures.others.told ∙ told) in
    let told_there : IsTrue (g.D.Disks.disk c.append_group.new.disks (place_of c.append_group.new.self.centre (other_of c.append_group.new.self.area))).told = subst (λ (q : ℕ). IsTrue (g.D.Disks.disk c.append_group.new.disks q).told) (sym there) (ap (λ (d : Disk). d.told) (c.append_group.ensures.others.others (place_of c.args.self.now.centre (other_of c.args.self.now.area)) (λ same. apart_areas c.args.self.now.centre c.args.self.now.area (sym same))) ∙ there') in
    due_group_reads g.D.Disks.disk g.D.Disks.may_leave g.D.Disks.moment g.D.Disks.left_since g.met.D.Disks.only_now c.args.disks.now c.append_group.new.disks c.args.self.now all (c.args.first.now ∷ c.args.others.now) (omega arith) rest c.append_group.ensures.others (c.append_group.ensures.any_moment rest.log told rest.in_use) c.checkpoint.new.disks c.append_group.new.self centre_is area_is
    (c.checkpoint.ensures.any_moment (with_payloads rest.log (c.args.first.now ∷ c.args.others.now)) told_here used) (c.checkpoint.ensures.any_moment_other (with_payloads rest.log (c.args.first.now ∷ c.args.others.now)) told_here told_there used) current spare left left_other

pub returns-then-due-clause-acknowledged : goal.returns-then-due-clause-acknowledged
returns-then-due-clause-acknowledged g c all told there' rest =
    let keeps = c.in_ok-append_group.ensures.keeps in
    let centre_is : c.append_group.new.self.centre ≡ c.args.self.now.centre = ap (λ (f : OpenAreas). f.centre) keeps in
    let area_is : c.append_group.new.self.area ≡ c.args.self.now.area = ap (λ (f : OpenAreas). f.area) keeps in
    let here : place_of c.append_group.new.self.centre c.append_group.new.self.area ≡ (place_of c.args.self.now.centre c.args.self.now.area) = ap (λ (f : OpenAreas). place_of f.centre f.area) keeps in
    let there : place_of c.append_group.new.self.centre (other_of c.append_group.new.self.area) ≡ (place_of c.args.self.now.centre (other_of c.args.self.now.area)) = ap (λ (f : OpenAreas). place_of f.centre (other_of f.area)) keeps in
    let more = rested_later g.D.Disks.disk g.D.Disks.may_leave g.D.Disks.moment g.D.Disks.left_since g.met.D.Disks.only_now c.args.disks.now c.append_group.new.disks c.args.self.now c.append_group.new.self (c.args.first.now ∷ c.args.others.now) all rest (with_payloads rest.log (c.args.first.now ∷ c.args.others.now)) (joined_payloads rest.log (c.args.first.now ∷ c.args.others.now)) centre_is area_is (ap (λ (f : OpenAreas). f.generation) keeps) (ap (λ (f : OpenAreas). f.spare) keeps) c.append_group.ensures.others (c.in_ok-append_group.ensures.acknowledged rest.log told rest.in_use) in
    let told_here : IsTrue (g.D.Disks.disk c.append_group.new.disks (place_of c.append_group.new.self.centre c.append_group.new.self.area)).told = subst (λ (q : ℕ). IsTrue (g.D.Disks.disk c.append_group.new.disks q).told) (sym here) (c.append_group.ensures.others.told ∙ told) in
    let told_there : IsTrue (g.D.Disks.disk c.append_group.new.disks (place_of c.append_group.new.self.centre (other_of c.append_group.new.self.area))).told = subst (λ (q : ℕ). IsTrue (g.D.Disks.disk c.append_group.new.disks q).told) (sym there) (ap (λ (d : Disk). d.told) (c.append_group.ensures.others.others (place_of c.args.self.now.centre (other_of c.args.self.now.area)) (λ same. apart_areas c.args.self.now.centre c.args.self.now.area (sym same))) ∙ there') in
    on_ok_three _ _ _ _ c.checkpoint.result (c.checkpoint.ensures.packed more.log told_here told_there more.in_use) (c.checkpoint.ensures.spare more.log told_here more.in_use) c.checkpoint.ensures.areas.1.1
    (λ used idle areas. rested_packed g.D.Disks.disk g.D.Disks.may_leave g.D.Disks.moment g.D.Disks.left_since g.met.D.Disks.only_now c.append_group.new.disks c.checkpoint.new.disks c.append_group.new.self c.checkpoint.new.self (all ++ (c.args.first.now ∷ c.args.others.now)) more c.checkpoint.ensures.areas.0 areas.0 used idle)

pub returns-in_err-append_group-clause-any_moment : goal.returns-in_err-append_group-clause-any_moment
returns-in_err-append_group-clause-any_moment g c log told there uses = weakened (MayHaveDueGroup c.args.self.now.area log (c.args.first.now ∷ c.args.others.now)) (c.append_group.ensures.any_moment log told uses) (λ x has. inl has)

pub returns-in_err-append_group-clause-any_moment_other : goal.returns-in_err-append_group-clause-any_moment_other
returns-in_err-append_group-clause-any_moment_other g c log told there uses spare = idle_moment g.D.Disks.disk g.D.Disks.may_leave g.D.Disks.moment g.D.Disks.left_since g.met.D.Disks.only_now c.args.disks.now c.append_group.new.disks c.args.self.now (with_payloads log (c.args.first.now ∷ c.args.others.now)) uses.generation c.append_group.ensures.others spare

pub returns-clause-any_moment : goal.returns-clause-any_moment
returns-clause-any_moment g c log told there uses = weakened (MayHaveDueGroup c.args.self.now.area log (c.args.first.now ∷ c.args.others.now)) (c.append_group.ensures.any_moment log told uses) (λ x has. inl has)

pub returns-clause-any_moment_other : goal.returns-clause-any_moment_other
returns-clause-any_moment_other g c log told there uses spare = idle_moment g.D.Disks.disk g.D.Disks.may_leave g.D.Disks.moment g.D.Disks.left_since g.met.D.Disks.only_now c.args.disks.now c.append_group.new.disks c.args.self.now (with_payloads log (c.args.first.now ∷ c.args.others.now)) uses.generation c.append_group.ensures.others spare

pub returns-then-due-clause-any_moment : goal.returns-then-due-clause-any_moment
returns-then-due-clause-any_moment g c log told there' uses =
    let keeps = c.in_ok-append_group.ensures.keeps in
    let centre_is : c.append_group.new.self.centre ≡ c.args.self.now.centre = ap (λ (f : OpenAreas). f.centre) keeps in
    let area_is : c.append_group.new.self.area ≡ c.args.self.now.area = ap (λ (f : OpenAreas). f.area) keeps in
    let here : place_of c.append_group.new.self.centre c.append_group.new.self.area ≡ (place_of c.args.self.now.centre c.args.self.now.area) = ap (λ (f : OpenAreas). place_of f.centre f.area) keeps in
    let there : place_of c.append_group.new.self.centre (other_of c.append_group.new.self.area) ≡ (place_of c.args.self.now.centre (other_of c.args.self.now.area)) = ap (λ (f : OpenAreas). place_of f.centre (other_of f.area)) keeps in
    let used = subst (λ (q : ℕ). IsInUse c.append_group.new.self (with_payloads log (c.args.first.now ∷ c.args.others.now)) (g.D.Disks.disk c.append_group.new.disks q).bytes (g.D.Disks.may_leave c.append_group.new.disks q)) (sym here) (c.in_ok-append_group.ensures.acknowledged log told uses) in
    let told_here : IsTrue (g.D.Disks.disk c.append_group.new.disks (place_of c.append_group.new.self.centre c.append_group.new.self.area)).told = subst (λ (q : ℕ). IsTrue (g.D.Disks.disk c.append_group.new.disks q).told) (sym here) (c.append_group.ensures.others.told ∙ told) in
    let told_there : IsTrue (g.D.Disks.disk c.append_group.new.disks (place_of c.append_group.new.self.centre (other_of c.append_group.new.self.area))).told = subst (λ (q : ℕ). IsTrue (g.D.Disks.disk c.append_group.new.disks q).told) (sym there) (ap (λ (d : Disk). d.told) (c.append_group.ensures.others.others (place_of c.args.self.now.centre (other_of c.args.self.now.area)) (λ same. apart_areas c.args.self.now.centre c.args.self.now.area (sym same))) ∙ there') in
    due_moment g.D.Disks.disk g.D.Disks.may_leave g.D.Disks.moment g.D.Disks.left_since g.met.D.Disks.only_now c.args.disks.now c.append_group.new.disks c.checkpoint.new.disks c.args.self.now c.append_group.new.self log (c.args.first.now ∷ c.args.others.now) centre_is area_is (c.append_group.ensures.any_moment log told uses)
    (c.checkpoint.ensures.any_moment (with_payloads log (c.args.first.now ∷ c.args.others.now)) told_here used)

pub returns-then-due-clause-any_moment_other : goal.returns-then-due-clause-any_moment_other
returns-then-due-clause-any_moment_other g c log told there' uses spare =
    let keeps = c.in_ok-append_group.ensures.keeps in
    let centre_is : c.append_group.new.self.centre ≡ c.args.self.now.centre = ap (λ (f : OpenAreas). f.centre) keeps in
    let area_is : c.append_group.new.self.area ≡ c.args.self.now.area = ap (λ (f : OpenAreas). f.area) keeps in
    let here : place_of c.append_group.new.self.centre c.append_group.new.self.area ≡ (place_of c.args.self.now.centre c.args.self.now.area) = ap (λ (f : OpenAreas). place_of f.centre f.area) keeps in
    let there : place_of c.append_group.new.self.centre (other_of c.append_group.new.self.area) ≡ (place_of c.args.self.now.centre (other_of c.args.self.now.area)) = ap (λ (f : OpenAreas). place_of f.centre (other_of f.area)) keeps in
    let used = subst (λ (q : ℕ). IsInUse c.append_group.new.self (with_payloads log (c.args.first.now ∷ c.args.others.now)) (g.D.Disks.disk c.append_group.new.disks q).bytes (g.D.Disks.may_leave c.append_group.new.disks q)) (sym here) (c.in_ok-append_group.ensures.acknowledged log told uses) in
    let told_here : IsTrue (g.D.Disks.disk c.append_group.new.disks (place_of c.append_group.new.self.centre c.append_group.new.self.area)).told = subst (λ (q : ℕ). IsTrue (g.D.Disks.disk c.append_group.new.disks q).told) (sym here) (c.append_group.ensures.others.told ∙ told) in
    let told_there : IsTrue (g.D.Disks.disk c.append_group.new.disks (place_of c.append_group.new.self.centre (other_of c.append_group.new.self.area))).told = subst (λ (q : ℕ). IsTrue (g.D.Disks.disk c.append_group.new.disks q).told) (sym there) (ap (λ (d : Disk). d.told) (c.append_group.ensures.others.others (place_of c.args.self.now.centre (other_of c.args.self.now.area)) (λ same. apart_areas c.args.self.now.centre c.args.self.now.area (sym same))) ∙ there') in
    due_moment_other g.D.Disks.disk g.D.Disks.may_leave g.D.Disks.moment g.D.Disks.left_since g.met.D.Disks.only_now c.args.disks.now c.append_group.new.disks c.checkpoint.new.disks c.args.self.now c.append_group.new.self log (c.args.first.now ∷ c.args.others.now) centre_is area_is
    (idle_moment g.D.Disks.disk g.D.Disks.may_leave g.D.Disks.moment g.D.Disks.left_since g.met.D.Disks.only_now c.args.disks.now c.append_group.new.disks c.args.self.now (with_payloads log (c.args.first.now ∷ c.args.others.now)) uses.generation c.append_group.ensures.others spare)
    (c.checkpoint.ensures.any_moment_other (with_payloads log (c.args.first.now ∷ c.args.others.now)) told_here told_there used)
