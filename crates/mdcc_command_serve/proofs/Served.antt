-- What a server was, as a command has it.
use Rattle.std.proofs.Common.{◌≡◌, Bool, Err, IfErr, IsErrOf, Ok, Result, false, refl, subst, sym, true, ℕ}
use Rattle.std.specs.Prelude.{MatchBool}
use Rattle.mdcc_log_file.specs.declared.fault.LogFault.{LogFault}
use Rattle.mdcc_base.specs.declared.source.ReadAllFault.{ReadAllFault}
use Rattle.mdcc_command_endings.specs.Readings.{IsEarly}
use Rattle.mdcc_command_endings.specs.declared.fault.Failure.{Failure}
use Rattle.mdcc_serve.specs.Refusals.{MayServe}
use Rattle.mdcc_serve.specs.declared.served.Served.{Served}
use Rattle.mdcc_command_serve.specs.Commands.{as_served, failure_of}
use Rattle.mdcc_serve_site.specs.declared.fault.ServeFault.{ServeFault}

-- ---- one fault

record Kinds (fault : ServeFault) : Type 0 where
  pub early : IsEarly (failure_of fault) → ⊥
  pub input : failure_of fault ≡ Failure.Input ReadAllFault.Failed → ⊥
  pub disk : (a : ℕ) → failure_of fault ≡ Failure.Log a LogFault.DiskFault → fault ≡ ServeFault.Disk a
  pub link : failure_of fault ≡ Failure.Link → fault ≡ ServeFault.Link
  pub output : failure_of fault ≡ Failure.Output → fault ≡ ServeFault.Output

kinds : (fault : ServeFault) → MayServe fault → Kinds fault
kinds (ServeFault.Disk b) may = record {
  early = λ h. h;
  input = λ e. absurd (cc);
  disk = λ a e. let same : b ≡ a = cc in rw same refl;
  link = λ e. absurd (cc);
  output = λ e. absurd (cc);
}
kinds ServeFault.Link may = record { early = λ h. h; input = λ e. absurd (cc); disk = λ a e. absurd (cc); link = λ e. refl; output = λ e. absurd (cc) }
kinds ServeFault.Output may = record { early = λ h. h; input = λ e. absurd (cc); disk = λ a e. absurd (cc); link = λ e. absurd (cc); output = λ e. refl }
kinds (ServeFault.Log b LogFault.DiskFault) may = absurd may
kinds (ServeFault.Log b (LogFault.NotALog offset)) may = record { early = λ h. h; input = λ e. absurd (cc); disk = λ a e. absurd (cc); link = λ e. absurd (cc); output = λ e. absurd (cc) }
kinds (ServeFault.Log b LogFault.LogFull) may = record { early = λ h. h; input = λ e. absurd (cc); disk = λ a e. absurd (cc); link = λ e. absurd (cc); output = λ e. absurd (cc) }
kinds (ServeFault.Log b LogFault.Memory) may = absurd may
kinds (ServeFault.Boot b fault) may = record { early = λ h. h; input = λ e. absurd (cc); disk = λ a e. absurd (cc); link = λ e. absurd (cc); output = λ e. absurd (cc) }
kinds ServeFault.Serial may = record { early = λ h. h; input = λ e. absurd (cc); disk = λ a e. absurd (cc); link = λ e. absurd (cc); output = λ e. absurd (cc) }
kinds ServeFault.Memory may = record { early = λ h. h; input = λ e. absurd (cc); disk = λ a e. absurd (cc); link = λ e. absurd (cc); output = λ e. absurd (cc) }

-- ---- its result

pub none_early : (P : Type 0) (result : Result Served ServeFault) → IfErr result MayServe → IfErr (as_served result) (λ failure. IsEarly failure → P)
none_early P (Ok served) may = tt
none_early P (Err fault) may = λ h. absurd ((kinds fault may).early h)

pub no_input : (result : Result Served ServeFault) → IfErr result MayServe → as_served result ≡ Err (Failure.Input ReadAllFault.Failed) → ⊥
no_input (Ok served) may e = absurd (cc)
no_input (Err fault) may e = (kinds fault may).input (cc)

pub disk_served : (a : ℕ) (result : Result Served ServeFault) → IfErr result MayServe → as_served result ≡ Err (Failure.Log a LogFault.DiskFault) → IsErrOf result (ServeFault.Disk a)
disk_served a (Ok served) may e = absurd (cc)
disk_served a (Err fault) may e =
    let same : failure_of fault ≡ Failure.Log a LogFault.DiskFault = cc in
    rw ((kinds fault may).disk a same) refl

pub link_served : (result : Result Served ServeFault) → IfErr result MayServe → as_served result ≡ Err Failure.Link → IsErrOf result ServeFault.Link
link_served (Ok served) may e = absurd (cc)
link_served (Err fault) may e =
    let same : failure_of fault ≡ Failure.Link = cc in
    rw ((kinds fault may).link same) refl

pub output_served : (result : Result Served ServeFault) → IfErr result MayServe → as_served result ≡ Err Failure.Output → IsErrOf result ServeFault.Output
output_served (Ok served) may e = absurd (cc)
output_served (Err fault) may e =
    let same : failure_of fault ≡ Failure.Output = cc in
    rw ((kinds fault may).output same) refl

-- ---- by whether there is such a centre

pub at_true : (b : Bool) (P Q : Type 0) → b ≡ true → P → MatchBool b P Q
at_true true P Q e p = p
at_true false P Q e p = absurd (cc)

pub at_false : (b : Bool) (P Q : Type 0) → b ≡ false → Q → MatchBool b P Q
at_false true P Q e q = absurd (cc)
at_false false P Q e q = q

pub input_early : (failure : Failure) → failure ≡ Failure.Input ReadAllFault.Failed → IsEarly failure
input_early failure e = subst (λ (f : Failure). IsEarly f) (sym e) tt
