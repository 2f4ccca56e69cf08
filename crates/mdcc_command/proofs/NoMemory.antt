-- The words could not be read for want of memory, and nothing was done.
use Rattle.std.proofs.Common.{◌≡◌, Err, IfSome, List, None, Option, Result, Some, inl, inr, refl, subst, sym, ℕ}
use Rattle.std.specs.Bool.{OnFalse}
use Rattle.mdcc_base.specs.declared.source.ReadAllFault.{ReadAllFault}
use Rattle.mdcc_command_endings.proofs.LogEnds.{ends_unlucky}
use Rattle.mdcc_command_endings.specs.Endings.{EndsWithStatus}
use Rattle.mdcc_command_endings.specs.Logs.{EndsByLogs, LogRefusal}
use Rattle.mdcc_command_endings.specs.declared.fault.Failure.{Failure}
use Rattle.mdcc_log_file.specs.declared.fault.LogFault.{LogFault}
use Rattle.mdcc_def_messages.specs.declared.facts.Fact.{Fact}
use Rattle.mdcc_command_replay.specs.Runs.{is_own_status, own_line}
use Rattle.mdcc_command_replay.specs.Writing.{Tells}

pub known_always : {X : Type 0} (o : Option X) (P : X → Type 0) → ((x : X) → P x) → IfSome o P
known_always None P h = tt
known_always (Some x) P h = h x

pub of_others : (status : ℕ) (P : Type 0) → status ≡ 10 → OnFalse (is_own_status status) P
of_others status P e = subst (λ (n : ℕ). OnFalse (is_own_status n) P) (sym e) tt

pub ended : {T : Type 0} (status : ℕ) (before after : Option (List ℕ)) (faults_before faults_after : ℕ) → status ≡ 10 → Tells before after faults_before faults_after (own_line 10)
    → EndsWithStatus {T = T} (Err (Failure.Input ReadAllFault.Memory)) status before after faults_before faults_after
ended {T} status before after faults_before faults_after e told =
    subst (λ (n : ℕ). EndsWithStatus {T = T} (Err (Failure.Input ReadAllFault.Memory)) n before after faults_before faults_after) (sym e) (record { status_is = inl refl; told = told })

-- no log was opened
pub memory_ends : (node : ℕ → Result (List Fact) LogRefusal) (first last status : ℕ) → status ≡ 10 → EndsByLogs node first last status
memory_ends node first last status e =
    ends_unlucky node first last {T = Unit {0}} (Err (Failure.Input ReadAllFault.Memory)) (Failure.Input ReadAllFault.Memory) status refl (inl e) (record { why = inr refl })

-- no disk failed
pub names_no_disk : {T : Type 0} (a : ℕ) → ◌≡◌ {A = Result T Failure} (Err (Failure.Input ReadAllFault.Memory)) (Err (Failure.Log a LogFault.DiskFault)) → ⊥
names_no_disk a is = absurd (cc)
