-- What an audit of logs did, and how the command ends.
use Rattle.std.proofs.Common.{◌≡◌, ◌∙◌, ◌≤◌, ◌&&◌, ◌==◌, ◌⊎◌, [], Bool, Err, IfErr, IfSome, IsTrue, List, None, Ok, Option, Result, Some, arith, false, inl, inr, nat_lt, refl, subst, sym, true, ℕ}
use Rattle.std.proofs.lemmas.Bool.{ltb-false, ltb-true}
use Rattle.std.specs.Io.KnownBytes.{Appends}
use Rattle.std.specs.Prelude.{IsErrAnd, is_err}
use Rattle.mdcc_audit.specs.declared.audited.AuditFault.{AuditFault}
use Rattle.mdcc_audit.specs.declared.audited.AuditCause.{AuditCause}
use Rattle.mdcc_audit.specs.declared.audited.Place.{Place}
use Rattle.mdcc_audit.specs.declared.audited.Verdict3.{Verdict3}
use Rattle.mdcc_command_audit.proofs.Places.{elsewhere_one, elsewhere_two, opens_never}
use Rattle.mdcc_command_audit.specs.Audits.{GivesVerdicts, IsCentreUpTo, IsElsewhere, IsPrintFailure, KeepsDisks, SaysAt, UnlessDisk, some_calls}
use Rattle.mdcc_command_audit.specs.Commands.{AuditEnds, AuditEndsByLogs, Audits, AuditsLogs, RunsAudit}
use Rattle.mdcc_command_audit.specs.Texts.{audit_text}
use Rattle.mdcc_command_audit.specs.declared.found.Found.{Found}
use Rattle.mdcc_node_log.proofs.Opens.{opens_broke}
use Rattle.mdcc_node_log.specs.Opening.{OnlyOpens}
use Rattle.mdcc_config.specs.declared.config.Config.{Config}
use Rattle.mdcc_disks.specs.Disks.{Disk}
use Rattle.mdcc_command_dump.specs.Commands.{UntouchedDisks}
use Rattle.mdcc_command_endings.proofs.Accepted.{IsUnlucky, accepted}
use Rattle.mdcc_command_endings.proofs.Causes.{failed_at}
use Rattle.mdcc_command_endings.proofs.LogEnds.{ends_by_logs, ends_unlucky}
use Rattle.mdcc_command_endings.specs.Endings.{failure_status, status_after}
use Rattle.mdcc_command_endings.specs.Logs.{EndsByLogs, LogRefusal, SaysLogs, SaysRefused, node_booted_at}
use Rattle.mdcc_command_endings.specs.Readings.{GivesConfig, IsEarly}
use Rattle.mdcc_command_endings.specs.declared.fault.Failure.{Failure}
use Rattle.mdcc_log_file.specs.declared.fault.LogFault.{LogFault}
use Rattle.mdcc_def_messages.specs.declared.facts.Fact.{Fact}
use Rattle.mdcc_option.specs.declared.cluster.Cluster.{Cluster}
use Rattle.mdcc_command_replay.specs.Writing.{Front}
use Rattle.mdcc_struct.specs.Maps.{TxMap}

-- ---- failures

-- of the input it is no failure of a log
pub log_not_early : {D : Type 0} (disk : D → ℕ → Disk) (disks : D) (a : ℕ) (cluster : Cluster) (failure : Failure) → SaysAt disk cluster disks a failure → IsEarly failure → ⊥
log_not_early disk disks a cluster (Failure.Log b LogFault.DiskFault) says early = early
log_not_early disk disks a cluster (Failure.Log b (LogFault.NotALog n)) says early = early
log_not_early disk disks a cluster (Failure.Log b LogFault.LogFull) says early = early
log_not_early disk disks a cluster (Failure.Log b LogFault.Memory) says early = early
log_not_early disk disks a cluster (Failure.Boot b why) says early = early
log_not_early disk disks a cluster Failure.Memory says early = early
log_not_early disk disks a cluster (Failure.Input fault) says early = says
log_not_early disk disks a cluster (Failure.Config fault) says early = says
log_not_early disk disks a cluster Failure.Centre says early = says
log_not_early disk disks a cluster Failure.Link says early = says
log_not_early disk disks a cluster Failure.Serial says early = says
log_not_early disk disks a cluster Failure.Output says early = says

-- where an audit failed otherwise than at its output nothing was printed
pub nothing_answered : (expected : Result (TxMap Verdict3) AuditFault) (failure : Failure) (before after : Option (List ℕ)) → (failure ≡ Failure.Output → ⊥) → Appends before after [] → GivesVerdicts expected (Err failure) before after
nothing_answered expected Failure.Output before after not none = absurd (not refl)
nothing_answered expected (Failure.Log b fault) before after not none = none
nothing_answered expected (Failure.Boot b why) before after not none = none
nothing_answered expected (Failure.Input fault) before after not none = none
nothing_answered expected (Failure.Config fault) before after not none = none
nothing_answered expected Failure.Centre before after not none = none
nothing_answered expected Failure.Link before after not none = none
nothing_answered expected Failure.Serial before after not none = none
nothing_answered expected Failure.Memory before after not none = none

-- printing failed
pub printing_answers : (expected : Result (TxMap Verdict3) AuditFault) (verdicts : TxMap Verdict3) (failure : Failure) (before after : Option (List ℕ)) → expected ≡ Ok verdicts → IsPrintFailure failure
    → (failure ≡ Failure.Output → Front before after (audit_text verdicts)) → (failure ≡ Failure.Memory → Appends before after []) → GivesVerdicts expected (Err failure) before after
printing_answers expected verdicts Failure.Output before after is may front nothing = (verdicts, is, front refl)
printing_answers expected verdicts Failure.Memory before after is may front nothing = nothing refl
printing_answers expected verdicts (Failure.Log b fault) before after is may front nothing = absurd may
printing_answers expected verdicts (Failure.Boot b why) before after is may front nothing = absurd may
printing_answers expected verdicts (Failure.Input fault) before after is may front nothing = absurd may
printing_answers expected verdicts (Failure.Config fault) before after is may front nothing = absurd may
printing_answers expected verdicts Failure.Centre before after is may front nothing = absurd may
printing_answers expected verdicts Failure.Link before after is may front nothing = absurd may
printing_answers expected verdicts Failure.Serial before after is may front nothing = absurd may

-- the faults of printing are no others
pub only_printing : (failure : Failure) (P : Failure → Type 0) → IsPrintFailure failure → P Failure.Output → P Failure.Memory → P failure
only_printing Failure.Output P may output memory = output
only_printing Failure.Memory P may output memory = memory
only_printing (Failure.Log b fault) P may output memory = absurd may
only_printing (Failure.Boot b why) P may output memory = absurd may
only_printing (Failure.Input fault) P may output memory = absurd may
only_printing (Failure.Config fault) P may output memory = absurd may
only_printing Failure.Centre P may output memory = absurd may
only_printing Failure.Link P may output memory = absurd may
only_printing Failure.Serial P may output memory = absurd may

if_printing : {T : Type 0} (result : Result T Failure) (P : Failure → Type 0) → IfErr result IsPrintFailure → P Failure.Output → P Failure.Memory → IfErr result P
if_printing (Ok x) P may output memory = tt
if_printing (Err failure) P may output memory = only_printing failure P may output memory

pub not_printing : {T : Type 0} (result : Result T Failure) (failure : Failure) → IfErr result IsPrintFailure → (failure ≡ Failure.Output → ⊥) → (failure ≡ Failure.Memory → ⊥) → result ≡ Err failure → ⊥
not_printing {T} result failure may output memory is =
    let its : IsPrintFailure failure = subst (λ (r : Result T Failure). IfErr r IsPrintFailure) is may in
    only_printing failure (λ (f : Failure). failure ≡ f → ⊥) its output memory refl

-- ---- what is said of the logs

module _ (node : ℕ → Result (List Fact) LogRefusal) (last : ℕ) where
  -- by the failure of what opened them
  pub says_again : {T U : Type 0} (result : Result U Failure) (failure : Failure) → result ≡ Err failure → SaysLogs {T = T} node 1 last (Err failure) → SaysLogs node 1 last result
  says_again {T} {U} result failure is says =
      subst (λ (r : Result U Failure). SaysLogs node 1 last r) (sym is) (let its : SaysLogs {T = U} node 1 last (Err failure) = record { says = says.says; refused = says.refused } in its)

  -- all were opened, and then it was printed
  pub says_printed : {T U : Type 0} (opened : T) (result : Result U Failure) → IfErr result IsPrintFailure → SaysLogs node 1 last (let done : Result T Failure = Ok opened in done) → SaysLogs node 1 last result
  says_printed opened result may says = record {
    says = if_printing result (SaysRefused node 1 last) may tt tt;
    refused = λ a why refused. absurd (says.refused a why refused);
  }

unless_again : (T U : Type 0) (failure : Failure) (P : Type 0) → UnlessDisk {T = T} (Err failure) P → UnlessDisk {T = U} (Err failure) P
unless_again T U (Failure.Log a LogFault.DiskFault) P h = tt
unless_again T U (Failure.Log a (LogFault.NotALog n)) P h = h
unless_again T U (Failure.Log a LogFault.LogFull) P h = h
unless_again T U (Failure.Log a LogFault.Memory) P h = h
unless_again T U (Failure.Boot a why) P h = h
unless_again T U (Failure.Input fault) P h = h
unless_again T U (Failure.Config fault) P h = h
unless_again T U Failure.Centre P h = h
unless_again T U Failure.Link P h = h
unless_again T U Failure.Serial P h = h
unless_again T U Failure.Output P h = h
unless_again T U Failure.Memory P h = h

pub unless_failed : (T : Type 0) {U : Type 0} (result : Result U Failure) (failure : Failure) (P : Type 0) → result ≡ Err failure → UnlessDisk {T = T} (Err failure) P → UnlessDisk result P
unless_failed T {U} result failure P is h = subst (λ (r : Result U Failure). UnlessDisk r P) (sym is) (unless_again T U failure P h)

pub unless_broke : {T U : Type 0} (opened : Result T Failure) (result : Result U Failure) (failure : Failure) (P : Type 0) → opened ≡ Err failure → result ≡ Err failure → UnlessDisk opened P → UnlessDisk result P
unless_broke {T} {U} opened result failure P was is h = unless_failed T result failure P is (subst (λ (r : Result T Failure). UnlessDisk r P) was h)

-- ---- the disks of centres of no configuration too

module _ {D : Type 0} (disk : D → ℕ → Disk) (may_leave : D → ℕ → List ℕ → Type 0) (moment : D → ℕ) (left_since : D → ℕ → ℕ → List ℕ → Type 0) (tears : ℕ → Type 0) (counts_now : (disks : D) (p t : ℕ) (c : List ℕ) → t ≤ moment disks → may_leave disks p c → left_since disks p t c) (only_now : (disks : D) (p : ℕ) (c : List ℕ) → left_since disks p (moment disks) c → may_leave disks p c) where
  pub some_open : {T E : Type 0} (result : Result T E) (last : ℕ) (old new : D) → last ≤ 9 → ((a : ℕ) → IsCentreUpTo last a → OnlyOpens disk may_leave moment left_since tears old new a result)
      → KeepsDisks disk may_leave moment left_since (IsElsewhere last) old new → (a : ℕ) → IsCentreUpTo 9 a → OnlyOpens disk may_leave moment left_since tears old new a some_calls
  some_open result last old new few opens keeps a is = by (nat_lt last a) refl
    where
      by : (b : Bool) → nat_lt last a ≡ b → OnlyOpens disk may_leave moment left_since tears old new a some_calls
      by true past =
          opens_never disk may_leave moment left_since tears counts_now only_now some_calls a (IsElsewhere last) (elsewhere_one last a (ltb-true last a past) is.1) (elsewhere_two last a (ltb-true last a past) is.1) old new tt refl keeps
      by false among = opens_broke disk may_leave moment left_since tears old new result some_calls a tt refl (opens a (is.0, ltb-false last a among))

-- ---- by the input

module _ {D O : Type 0} (disk : D → ℕ → Disk) (may_leave : D → ℕ → List ℕ → Type 0) (moment : D → ℕ) (left_since : D → ℕ → ℕ → List ℕ → Type 0) (tears : ℕ → Type 0) (held : O → Option (List ℕ)) (disks_old disks_new : D) (out_old out_new : O) where
  pub unread_runs : (left : Option (List ℕ)) (failure : Failure) (found : Result Found Failure) → found ≡ Err failure → UntouchedDisks disks_old disks_new out_old out_new → IfSome left (λ input. GivesConfig input (Err failure))
      → IfSome left (λ input. RunsAudit disk may_leave moment left_since tears held disks_old disks_new out_old out_new input found)
  unread_runs None failure found is untouched gives = tt
  unread_runs (Some input) failure found is untouched gives = record { read = Err failure; gives = gives; audits = (is, untouched) }

  pub audited_runs : (left : Option (List ℕ)) (config : Config) (found : Result Found Failure) → AuditsLogs disk may_leave moment left_since tears held disks_old disks_new out_old out_new config found → IfSome left (λ input. GivesConfig input (Ok config))
      → IfSome left (λ input. RunsAudit disk may_leave moment left_since tears held disks_old disks_new out_old out_new input found)
  audited_runs None config found audits gives = tt
  audited_runs (Some input) config found audits gives = record { read = Ok config; gives = gives; audits = audits }

-- ---- by the status

pub record StatusOf (found : Result Found Failure) (status : ℕ) : Type 0 where
  pub is : ((status ≡ status_after found) ⊎ (IsTrue (is_err found && status == 10))) ⊎ ((cause : AuditCause) × (a : Place) × (b : Place) × (found ≡ Ok (Found.Contradiction cause a b)) × ((status ≡ 13) ⊎ (status ≡ 10)))

pub status_by : (found : Result Found Failure) (status : ℕ) (before after : Option (List ℕ)) (faults_before faults_after : ℕ) → AuditEnds found status before after faults_before faults_after → StatusOf found status
status_by (Ok Found.Verdicts) status before after faults_before faults_after ends = record { is = inl ends.status_is }
status_by (Ok (Found.Contradiction cause a b)) status before after faults_before faults_after ends = record {
  is = inr (
    cause,
    a,
    b,
    refl,
    elim ends [
      | inl one ↦ inl one.0
      | inr other ↦ inr other.0
    ],
  );
}
status_by (Err failure) status before after faults_before faults_after ends = record { is = inl ends.status_is }

-- with what it failed, at a status that is neither of what it found nor want of memory
pub failed_with : (found : Result Found Failure) (status wanted : ℕ) → StatusOf found status → status ≡ wanted → (wanted ≡ 0 → ⊥) → (wanted ≡ 10 → ⊥) → (wanted ≡ 13 → ⊥)
    → (failure : Failure) × (found ≡ Err failure) × (failure_status failure ≡ wanted)
failed_with found status wanted of at zero ten thirteen = elim of.is [
  | inl is ↦ failed_at found status wanted is at zero ten
  | inr it ↦ absurd (elim it.4 [
    | inl e ↦ thirteen (sym at ∙ e)
    | inr e ↦ ten (sym at ∙ e)
  ])
]

-- ---- by the logs

module _ (node : ℕ → Result (List Fact) LogRefusal) (last : ℕ) where
  found_ends : (found : Result Found Failure) (status : ℕ) → StatusOf found status → SaysLogs node 1 last found → EndsByLogs node 1 last status
  found_ends found status of says = elim of.is [
    | inl is ↦ ends_by_logs node 1 last found status is says
    | inr it ↦ record {
      none = λ at. absurd (neither 9 at it.4 (λ h. absurd (omega (h, arith))) (λ h. absurd (omega (h, arith))));
      epochs = λ at. absurd (neither 12 at it.4 (λ h. absurd (omega (h, arith))) (λ h. absurd (omega (h, arith))));
      refused = λ a why refused. absurd (none_said _ it.0 it.1 it.2 it.3 (says.refused a why refused));
    }
  ]
    where
      neither : (n : ℕ) → status ≡ n → (status ≡ 13) ⊎ (status ≡ 10) → (n ≡ 13 → ⊥) → (n ≡ 10 → ⊥) → ⊥
      neither n at is thirteen ten = elim is [
        | inl e ↦ thirteen (sym at ∙ e)
        | inr e ↦ ten (sym at ∙ e)
      ]

      none_said : (P : Failure → Type 0) (cause : AuditCause) (a b : Place) → found ≡ Ok (Found.Contradiction cause a b) → IsErrAnd found P → ⊥
      none_said P cause a b e h = subst (λ (r : Result Found Failure). IsErrAnd r P) e h

pub audit_ends : {D O : Type 0} (disk : D → ℕ → Disk) (may_leave : D → ℕ → List ℕ → Type 0) (moment : D → ℕ) (left_since : D → ℕ → ℕ → List ℕ → Type 0) (tears : ℕ → Type 0) (held : O → Option (List ℕ)) (disks_old disks_new : D) (out_old out_new : O)
    → (found : Result Found Failure) (status : ℕ) → StatusOf found status → (left : Option (List ℕ)) → IfSome left (λ input. RunsAudit disk may_leave moment left_since tears held disks_old disks_new out_old out_new input found)
    → AuditEndsByLogs disk disks_old left status
audit_ends {D} {O} disk may_leave moment left_since tears held disks_old disks_new out_old out_new found status of left runs input config known is told = by_read run (accepted input config run.read is run.gives)
  where
    run : RunsAudit disk may_leave moment left_since tears held disks_old disks_new out_old out_new input found
    run = subst (λ (l : Option (List ℕ)). IfSome l (λ input. RunsAudit disk may_leave moment left_since tears held disks_old disks_new out_old out_new input found)) known runs

    of_err : (failure : Failure) → found ≡ Err failure → (status ≡ status_after found) ⊎ IsTrue (is_err found && status == 10)
    of_err failure e = elim of.is [
      | inl is ↦ is
      | inr it ↦ absurd (let both : Err failure ≡ Ok (Found.Contradiction it.0 it.1 it.2) = sym e ∙ it.3 in cc)
    ]

    by_read : (run : RunsAudit disk may_leave moment left_since tears held disks_old disks_new out_old out_new input found) → (run.read ≡ Ok config) ⊎ ((failure : Failure) × (run.read ≡ Err failure) × IsUnlucky failure)
        → EndsByLogs (node_booted_at disk config.cluster disks_old) 1 config.cluster.quorums.centres status
    by_read run (inl e) =
        let all : AuditsLogs disk may_leave moment left_since tears held disks_old disks_new out_old out_new config found =
        subst (λ (r : Result Config Failure). Audits disk may_leave moment left_since tears held disks_old disks_new out_old out_new r found) e run.audits in
        found_ends (node_booted_at disk config.cluster disks_old) config.cluster.quorums.centres found status of (all.logs told)
    by_read run (inr it) =
        let same : found ≡ Err it.0 = (subst (λ (r : Result Config Failure). Audits disk may_leave moment left_since tears held disks_old disks_new out_old out_new r found) it.1 run.audits).0 in
        ends_unlucky (node_booted_at disk config.cluster disks_old) 1 config.cluster.quorums.centres found it.0 status same (of_err it.0 same) it.2
