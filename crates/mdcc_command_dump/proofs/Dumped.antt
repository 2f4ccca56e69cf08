-- What a dump does, by what opening its log and printing its facts do.
use Rattle.std.proofs.Common.{◌≡◌, Err, IfErr, IsErrOf, List, Ok, OnErr, OnOk, Option, Result, ap, inl, inr, refl, subst, ℕ}
use Rattle.std.specs.Io.KnownBytes.{Appends}
use Rattle.std.proofs.KnownBytes.{Appends-nil}
use Rattle.mdcc_log_file.specs.declared.fault.LogFault.{LogFault}
use Rattle.mdcc_disks.specs.Disks.{Disk}
use Rattle.mdcc_command_dump.specs.Dumps.{IsDumped, IsPrintFault, IsUndumped, IsUnopened, KeepsUnlessDiskFault, MayFail, dump_text, of_restart, of_writing, payload_lines, read_lines}
use Rattle.mdcc_node_log.specs.Opening.{HasBooted, IsOpeningFault, IsUnbooted, StandsUnlessDisk}
use Rattle.mdcc_command_dump.specs.Texts.{dumped_fact_lines}
use Rattle.mdcc_command_dump.specs.declared.fault.DumpFault.{DumpFault}
use Rattle.mdcc_node_boot.specs.Loading.{fact_in}
use Rattle.mdcc_def_messages.specs.Reading.{fact_of}
use Rattle.mdcc_def_messages.specs.declared.facts.Fact.{Fact}
use Rattle.mdcc_def_messages.specs.declared.wire.WireFault.{WireFault}
use Rattle.mdcc_option.specs.declared.cluster.Cluster.{Cluster}
use Rattle.mdcc_command_replay.specs.Writing.{Front}
use Rattle.mdcc_command_replay.specs.declared.writing.Failure.{Failure}
use Rattle.mdcc_node_log.specs.Starting.{IsUnread}
use Rattle.mdcc_node_log.specs.declared.fault.StartFault.{StartFault}

-- ---- one payload

-- the lines of what a payload is read as
pub lines_read : (number : ℕ) (payload : List ℕ) (fact : Fact) → fact_of payload ≡ Ok fact → payload_lines number payload ≡ dumped_fact_lines number fact
lines_read number payload fact e = ap (λ (r : Result Fact WireFault). read_lines number (fact_in r)) e

pub writing_prints : (fault : Failure) → IsPrintFault (of_writing fault)
writing_prints Failure.Output = tt
writing_prints Failure.Memory = tt

pub output_failed : (fault : Failure) → of_writing fault ≡ DumpFault.Output → fault ≡ Failure.Output
output_failed Failure.Output e = refl
output_failed Failure.Memory e = absurd (cc)

-- ---- no log was opened, or it gives no node

pub refused_dump : (cluster : Cluster) (all : List (List ℕ)) (fault : StartFault) (held : Option (List ℕ)) → IsUnbooted cluster all fault → IsDumped cluster all (Err (of_restart fault)) held held
refused_dump cluster all (StartFault.Log fault) held h = (h, Appends-nil held)
refused_dump cluster all (StartFault.Boot fault) held h = (h, Appends-nil held)
refused_dump cluster all StartFault.Memory held h = inl (Appends-nil held)

pub may_fail : (fault : StartFault) (held : Option (List ℕ)) → IsOpeningFault fault → MayFail held held (of_restart fault)
may_fail (StartFault.Log fault) held h = (h, Appends-nil held)
may_fail (StartFault.Boot fault) held h = (h, Appends-nil held)
may_fail StartFault.Memory held h = tt

pub log_fault : (fault other : StartFault) → of_restart fault ≡ DumpFault.Log other → fault ≡ other
log_fault (StartFault.Log fault) other e = cc
log_fault (StartFault.Boot fault) other e = cc
log_fault StartFault.Memory other e = absurd (cc)

pub no_output : (fault : StartFault) → of_restart fault ≡ DumpFault.Output → ⊥
no_output (StartFault.Log fault) e = absurd (cc)
no_output (StartFault.Boot fault) e = absurd (cc)
no_output StartFault.Memory e = absurd (cc)

kept_opening_at : (T U : Type 0) (fault : StartFault) (kept : Type 0) → StandsUnlessDisk {T = T} (Err fault) kept → KeepsUnlessDiskFault {T = U} (Err (of_restart fault)) kept
kept_opening_at T U (StartFault.Log LogFault.DiskFault) kept h = tt
kept_opening_at T U (StartFault.Log (LogFault.NotALog n)) kept h = h
kept_opening_at T U (StartFault.Log LogFault.LogFull) kept h = h
kept_opening_at T U (StartFault.Log LogFault.Memory) kept h = h
kept_opening_at T U (StartFault.Boot fault) kept h = h
kept_opening_at T U StartFault.Memory kept h = h

pub kept_opening : {T U : Type 0} (opened : Result T StartFault) (result : Result U DumpFault) (fault : StartFault) (kept : Type 0) → opened ≡ Err fault → result ≡ Err (of_restart fault)
    → StandsUnlessDisk opened kept → KeepsUnlessDiskFault result kept
kept_opening {T = T} {U = U} opened result fault kept was is h =
    rw is (kept_opening_at T U fault kept (subst (λ (r : Result T StartFault). StandsUnlessDisk r kept) was h))

undumped : {D : Type 0} (n me : ℕ) (disk : D → ℕ → Disk) (old new : D) (fault : StartFault) → IsUnread n fault me disk old new → IsUndumped n (of_restart fault) me disk old new
undumped n me disk old new (StartFault.Log fault) h = h
undumped n me disk old new (StartFault.Boot fault) h = h
undumped n me disk old new StartFault.Memory h = h

pub unopened : {D : Type 0} (n me : ℕ) (disk : D → ℕ → Disk) (old new : D) (fault : StartFault) (held : Option (List ℕ)) → IsUnread n fault me disk old new
    → IsUnopened n me disk old new (Err (of_restart fault)) held held
unopened n me disk old new fault held h = record { fault = undumped n me disk old new fault h; output = Appends-nil held }

-- ---- the facts are printed

by_result : (cluster : Cluster) (all : List (List ℕ)) (result : Result (Unit {0}) DumpFault) (before after : Option (List ℕ)) → HasBooted cluster all
    → OnOk result (Appends before after (dump_text all)) → OnErr result (Front before after (dump_text all)) → IfErr result IsPrintFault → IsDumped cluster all result before after
by_result cluster all (Ok done) before after boots whole front printing = (boots, whole)
by_result cluster all (Err (DumpFault.Log fault)) before after boots whole front printing = absurd printing
by_result cluster all (Err DumpFault.Output) before after boots whole front printing = (boots, front)
by_result cluster all (Err DumpFault.Memory) before after boots whole front printing = inr (boots, front)

pub printed_dump : (cluster : Cluster) (found all : List (List ℕ)) (result : Result (Unit {0}) DumpFault) (before after : Option (List ℕ)) → found ≡ all → HasBooted cluster all
    → OnOk result (Appends before after (dump_text found)) → OnErr result (Front before after (dump_text found)) → IfErr result IsPrintFault → IsDumped cluster all result before after
printed_dump cluster found all result before after is boots whole front printing =
    by_result cluster all result before after boots
    (subst (λ (ps : List (List ℕ)). OnOk result (Appends before after (dump_text ps))) is whole)
    (subst (λ (ps : List (List ℕ)). OnErr result (Front before after (dump_text ps))) is front) printing

pub printing_fails : (result : Result (Unit {0}) DumpFault) (before after : Option (List ℕ)) → IfErr result IsPrintFault → IfErr result (MayFail before after)
printing_fails (Ok done) before after h = tt
printing_fails (Err (DumpFault.Log fault)) before after h = absurd h
printing_fails (Err DumpFault.Output) before after h = tt
printing_fails (Err DumpFault.Memory) before after h = tt

-- a log is not refused by printing
pub no_log_fault : (result : Result (Unit {0}) DumpFault) (fault : StartFault) → IfErr result IsPrintFault → IsErrOf result (DumpFault.Log fault) → ⊥
no_log_fault (Ok done) fault h e = absurd (cc)
no_log_fault (Err (DumpFault.Log other)) fault h e = absurd h
no_log_fault (Err DumpFault.Output) fault h e = absurd (cc)
no_log_fault (Err DumpFault.Memory) fault h e = absurd (cc)

pub kept_printing : (result : Result (Unit {0}) DumpFault) (kept : Type 0) → kept → KeepsUnlessDiskFault result kept
kept_printing (Ok done) kept h = h
kept_printing (Err (DumpFault.Log (StartFault.Log LogFault.DiskFault))) kept h = tt
kept_printing (Err (DumpFault.Log (StartFault.Log (LogFault.NotALog n)))) kept h = h
kept_printing (Err (DumpFault.Log (StartFault.Log LogFault.LogFull))) kept h = h
kept_printing (Err (DumpFault.Log (StartFault.Log LogFault.Memory))) kept h = h
kept_printing (Err (DumpFault.Log (StartFault.Boot fault))) kept h = h
kept_printing (Err (DumpFault.Log StartFault.Memory)) kept h = h
kept_printing (Err DumpFault.Output) kept h = h
kept_printing (Err DumpFault.Memory) kept h = h
