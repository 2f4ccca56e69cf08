use Rattle.std.proofs.Common.{◌≡◌, ◌≤◌, ◌∷◌, ◌++◌, [], List, ap, arith, inl, inr, length, subst, sym, ◌∙◌, ℕ}
use Rattle.mdcc_disks.specs.Memory.{disk_of, left_since_of, may_leave_of, moment_of, only_now_of}
use Rattle.mdcc_log.proofs.Groups.{rest_reads}
use Rattle.mdcc_log.specs.AtRest.{IsAtRest}
use Rattle.mdcc_log.specs.Crash.{payloads_by}
use Rattle.mdcc_log.specs.Groups.{ReadsAsAllOrNone}
use Rattle.mdcc_log.specs.Room.{HasGrown}
use Rattle.mdcc_log_file.specs.Crash.{AreShort}
use Rattle.mdcc_world_logs.proofs.logs.append.Goals as goal
use Rattle.mdcc_def_messages.specs.Spelling.{fact_bytes}

-- ---- a group of one

pub persist-requires-clause-short : goal.persist-requires-clause-short
persist-requires-clause-short c =
    let are : c.as_slice.result.now ≡ fact_bytes c.args.fact.now ∷ [] = c.as_slice.ensures ∙ ap (λ (p : List ℕ). p ∷ []) (c.from_vec.ensures ∙ c.in_ok-payload.ensures) in
    subst AreShort (sym are) (c.requires.short, tt)

pub returns-in-Ok-clause-acknowledged : goal.returns-in-Ok-clause-acknowledged
returns-in-Ok-clause-acknowledged c all told told_other rest =
    let are : c.as_slice.result.now ≡ fact_bytes c.args.fact.now ∷ [] = c.as_slice.ensures ∙ ap (λ (p : List ℕ). p ∷ []) (c.from_vec.ensures ∙ c.in_ok-payload.ensures) in
    subst (λ (ps : List (List ℕ)). IsAtRest disk_of may_leave_of c.persist.new.disks c.persist.new.log (all ++ ps)) are (c.in-Ok.ensures.acknowledged all told told_other rest)

pub returns-in-Ok-clause-few : goal.returns-in-Ok-clause-few
returns-in-Ok-clause-few c =
    let are : c.as_slice.result.now ≡ fact_bytes c.args.fact.now ∷ [] = c.as_slice.ensures ∙ ap (λ (p : List ℕ). p ∷ []) (c.from_vec.ensures ∙ c.in_ok-payload.ensures) in
    c.in-Ok.ensures.few (inr (subst (λ (ps : List (List ℕ)). 1 ≤ length ps) (sym are) (omega arith)))

pub returns-in-Ok-clause-grown : goal.returns-in-Ok-clause-grown
returns-in-Ok-clause-grown c =
    let are : c.as_slice.result.now ≡ fact_bytes c.args.fact.now ∷ [] = c.as_slice.ensures ∙ ap (λ (p : List ℕ). p ∷ []) (c.from_vec.ensures ∙ c.in_ok-payload.ensures) in
    subst (λ (ps : List (List ℕ)). HasGrown (length ps) c.args.log.now c.persist.new.log) are c.in-Ok.ensures.grown

pub returns-in-Ok-clause-any_moment_reads : goal.returns-in-Ok-clause-any_moment_reads
returns-in-Ok-clause-any_moment_reads c all current spare told told_other rest left left_other =
    let are : c.as_slice.result.now ≡ fact_bytes c.args.fact.now ∷ [] = c.as_slice.ensures ∙ ap (λ (p : List ℕ). p ∷ []) (c.from_vec.ensures ∙ c.in_ok-payload.ensures) in
    subst (λ (ps : List (List ℕ)). ReadsAsAllOrNone all ps (payloads_by c.args.log.now.area current spare)) are (c.persist.ensures.any_moment_reads all current spare told told_other rest left left_other)

pub returns-clause-any_moment_reads : goal.returns-clause-any_moment_reads
returns-clause-any_moment_reads c all current spare told told_other rest left left_other =
    let are : c.as_slice.result.now ≡ fact_bytes c.args.fact.now ∷ [] = c.as_slice.ensures ∙ ap (λ (p : List ℕ). p ∷ []) (c.from_vec.ensures ∙ c.in_ok-payload.ensures) in
    subst (λ (ps : List (List ℕ)). ReadsAsAllOrNone all ps (payloads_by c.args.log.now.area current spare)) are (c.persist.ensures.any_moment_reads all current spare told told_other rest left left_other)

-- nothing was written
pub returns-in_err-payload-clause-any_moment_reads : goal.returns-in_err-payload-clause-any_moment_reads
returns-in_err-payload-clause-any_moment_reads c all current spare told told_other rest left left_other =
    inl (rest_reads disk_of may_leave_of moment_of left_since_of only_now_of c.args.disks.now c.args.log.now all rest current spare left left_other)
