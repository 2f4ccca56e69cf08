use Rattle.std.proofs.Common.{◌≡◌, ◌≤◌, ◌∷◌, ◌++◌, [], List, OnOk, ap, arith, inr, length, subst, sym, ◌∙◌, ℕ}
use Rattle.mdcc_node_log.proofs.Appended.{reads_either, still_in_use, still_spare}
use Rattle.mdcc_node_log.proofs.Persisted.{on-ok}
use Rattle.mdcc_node_log.proofs.starting.persist_boot.Goals as goal
use Rattle.mdcc_disks.specs.Disks.{LeavesOnly}
use Rattle.mdcc_log.proofs.Groups.{full_one, one_due, one_full}
use Rattle.mdcc_log.specs.AtRest.{IsAtRest, MayBeDue}
use Rattle.mdcc_log.specs.Crash.{IsIdle, payloads_by}
use Rattle.mdcc_log.specs.Frames.{other_of, place_of}
use Rattle.mdcc_log.specs.Groups.{AreFull, MayHaveDueGroup, ReadsAsAllOrNone, with_payloads}
use Rattle.mdcc_log.specs.Room.{HasGrown, IsFull}
use Rattle.mdcc_log.specs.Tails.{tail_with}
use Rattle.mdcc_log_file.proofs.Moments.{weakened}
use Rattle.mdcc_log_file.specs.Crash.{AreShort}
use Rattle.mdcc_def_messages.specs.Spelling.{fact_bytes}

-- ---- a group of one

pub persist-requires-clause-short : goal.persist-requires-clause-short
persist-requires-clause-short g c =
    let are : c.as_slice.result.now ≡ fact_bytes c.args.boot.now ∷ [] = c.as_slice.ensures ∙ ap (λ (p : List ℕ). p ∷ []) (c.from_vec.ensures ∙ c.in-Ok.ensures) in
    subst AreShort (sym are) (c.requires.short, tt)

pub returns-clause-acknowledged : goal.returns-clause-acknowledged
returns-clause-acknowledged g c all told told_other rest =
    let are : c.as_slice.result.now ≡ fact_bytes c.args.boot.now ∷ [] = c.as_slice.ensures ∙ ap (λ (p : List ℕ). p ∷ []) (c.from_vec.ensures ∙ c.in-Ok.ensures) in
    subst (λ (ps : List (List ℕ)). OnOk c.persist.result (IsAtRest g.D.Disks.disk g.D.Disks.may_leave c.persist.new.disks c.persist.new.log (all ++ ps))) are (c.persist.ensures.acknowledged all told told_other rest)

pub returns-clause-few : goal.returns-clause-few
returns-clause-few g c =
    let are : c.as_slice.result.now ≡ fact_bytes c.args.boot.now ∷ [] = c.as_slice.ensures ∙ ap (λ (p : List ℕ). p ∷ []) (c.from_vec.ensures ∙ c.in-Ok.ensures) in
    let one : 1 ≤ length c.as_slice.result.now = subst (λ (ps : List (List ℕ)). 1 ≤ length ps) (sym are) (omega arith) in
    c.persist.ensures.few (inr one)

pub returns-clause-grown : goal.returns-clause-grown
returns-clause-grown g c =
    let are : c.as_slice.result.now ≡ fact_bytes c.args.boot.now ∷ [] = c.as_slice.ensures ∙ ap (λ (p : List ℕ). p ∷ []) (c.from_vec.ensures ∙ c.in-Ok.ensures) in
    subst (λ (ps : List (List ℕ)). OnOk c.persist.result (HasGrown (length ps) c.args.log.now c.persist.new.log)) are c.persist.ensures.grown

pub returns-clause-tail : goal.returns-clause-tail
returns-clause-tail g c =
    let are : c.as_slice.result.now ≡ fact_bytes c.args.boot.now ∷ [] = c.as_slice.ensures ∙ ap (λ (p : List ℕ). p ∷ []) (c.from_vec.ensures ∙ c.in-Ok.ensures) in
    let one : 1 ≤ length c.as_slice.result.now = subst (λ (ps : List (List ℕ)). 1 ≤ length ps) (sym are) (omega arith) in
    subst (λ (ps : List (List ℕ)). OnOk c.persist.result (c.persist.new.log.tail ≡ tail_with c.args.log.now.every c.args.log.now.tail (length ps))) are (c.persist.ensures.tail one)

pub returns-clause-any_moment : goal.returns-clause-any_moment
returns-clause-any_moment g c area_log told told_other used =
    let are : c.as_slice.result.now ≡ fact_bytes c.args.boot.now ∷ [] = c.as_slice.ensures ∙ ap (λ (p : List ℕ). p ∷ []) (c.from_vec.ensures ∙ c.in-Ok.ensures) in
    weakened (MayBeDue c.args.log.now.area area_log (fact_bytes c.args.boot.now)) (c.persist.ensures.any_moment area_log told told_other used)
    (λ x may. one_due c.args.log.now.area area_log (fact_bytes c.args.boot.now) x (subst (λ (ps : List (List ℕ)). MayHaveDueGroup c.args.log.now.area area_log ps x) are may))

pub returns-clause-any_moment_other : goal.returns-clause-any_moment_other
returns-clause-any_moment_other g c area_log told told_other used spare =
    let are : c.as_slice.result.now ≡ fact_bytes c.args.boot.now ∷ [] = c.as_slice.ensures ∙ ap (λ (p : List ℕ). p ∷ []) (c.from_vec.ensures ∙ c.in-Ok.ensures) in
    subst (λ (ps : List (List ℕ)). LeavesOnly g.D.Disks.moment g.D.Disks.left_since c.args.disks.now c.persist.new.disks (place_of c.args.log.now.centre (other_of c.args.log.now.area)) (IsIdle (with_payloads area_log ps))) are
    (c.persist.ensures.any_moment_other area_log told told_other used spare)

pub returns-clause-any_moment_reads : goal.returns-clause-any_moment_reads
returns-clause-any_moment_reads g c all current spare told told_other rest left left_other =
    let are : c.as_slice.result.now ≡ fact_bytes c.args.boot.now ∷ [] = c.as_slice.ensures ∙ ap (λ (p : List ℕ). p ∷ []) (c.from_vec.ensures ∙ c.in-Ok.ensures) in
    subst (λ (ps : List (List ℕ)). ReadsAsAllOrNone all ps (payloads_by c.args.log.now.area current spare)) are (c.persist.ensures.any_moment_reads all current spare told told_other rest left left_other)

pub returns-clause-full : goal.returns-clause-full
returns-clause-full g c is =
    let are : c.as_slice.result.now ≡ fact_bytes c.args.boot.now ∷ [] = c.as_slice.ensures ∙ ap (λ (p : List ℕ). p ∷ []) (c.from_vec.ensures ∙ c.in-Ok.ensures) in
    one_full c.args.log.now (fact_bytes c.args.boot.now) (subst (λ (ps : List (List ℕ)). AreFull c.args.log.now ps) are (c.persist.ensures.full is))

pub returns-clause-has_room : goal.returns-clause-has_room
returns-clause-has_room g c =
    let are : c.as_slice.result.now ≡ fact_bytes c.args.boot.now ∷ [] = c.as_slice.ensures ∙ ap (λ (p : List ℕ). p ∷ []) (c.from_vec.ensures ∙ c.in-Ok.ensures) in
    let one : 1 ≤ length c.as_slice.result.now = subst (λ (ps : List (List ℕ)). 1 ≤ length ps) (sym are) (omega arith) in
    on-ok (AreFull c.args.log.now c.as_slice.result.now → ⊥) (IsFull c.args.log.now (length (fact_bytes c.args.boot.now)) → ⊥) c.persist.result
    (λ room full. room (subst (λ (ps : List (List ℕ)). AreFull c.args.log.now ps) (sym are) (full_one c.args.log.now (fact_bytes c.args.boot.now) full))) (c.persist.ensures.has_room one)

-- nothing was written
pub returns-in_default-clause-any_moment_other : goal.returns-in_default-clause-any_moment_other
returns-in_default-clause-any_moment_other g c area_log told told_other used spare =
    still_spare g.D.Disks.disk g.D.Disks.may_leave g.D.Disks.moment g.D.Disks.left_since g.met.D.Disks.only_now c.args.disks.now (place_of c.args.log.now.centre (other_of c.args.log.now.area)) c.args.log.now area_log (fact_bytes c.args.boot.now) used.generation spare

pub returns-in_default-clause-any_moment_reads : goal.returns-in_default-clause-any_moment_reads
returns-in_default-clause-any_moment_reads g c all current spare told told_other rest left left_other =
    reads_either g.D.Disks.disk g.D.Disks.may_leave g.D.Disks.moment g.D.Disks.left_since g.met.D.Disks.only_now c.args.disks.now c.args.disks.now c.args.log.now all (fact_bytes c.args.boot.now) rest
    (still_in_use g.D.Disks.disk g.D.Disks.may_leave g.D.Disks.moment g.D.Disks.left_since g.met.D.Disks.only_now c.args.disks.now (place_of c.args.log.now.centre c.args.log.now.area) c.args.log.now rest.log (fact_bytes c.args.boot.now) rest.in_use)
    (returns-in_default-clause-any_moment_other g c rest.log told told_other rest.in_use rest.spare) current spare left left_other
