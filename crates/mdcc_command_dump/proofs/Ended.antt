-- How the command ends, by what its dump did.
use Rattle.std.proofs.Common.{◌≡◌, Bool, Err, IfErr, IfSome, IsErrOf, List, None, Ok, Option, Result, Some, false, refl, subst, sym, true, ℕ}
use Rattle.std.specs.Prelude.{MatchBool}
use Rattle.mdcc_log_file.specs.declared.fault.LogFault.{LogFault}
use Rattle.mdcc_base.specs.declared.source.ReadAllFault.{ReadAllFault}
use Rattle.mdcc_config.specs.declared.config.Config.{Config}
use Rattle.mdcc_disks.specs.Disks.{Disk}
use Rattle.mdcc_command_dump.specs.Commands.{DumpsOne, RunsDump, UntouchedDisks, as_done}
use Rattle.mdcc_command_dump.specs.declared.fault.DumpFault.{DumpFault}
use Rattle.mdcc_command_endings.specs.Readings.{GivesConfig, IsEarly}
use Rattle.mdcc_command_endings.specs.declared.fault.Failure.{Failure}
use Rattle.mdcc_def_protocol.specs.Belongs.{is_centre}
use Rattle.mdcc_node_log.specs.declared.fault.StartFault.{StartFault}

-- ---- what a dump was

-- it is not refused before the disks are asked
none_early : (P : Type 0) (centre : ℕ) (result : Result (Unit {0}) DumpFault) → IfErr (as_done centre result) (λ failure. IsEarly failure → P)
none_early P centre (Ok done) = tt
none_early P centre (Err (DumpFault.Log (StartFault.Log fault))) = λ h. absurd h
none_early P centre (Err (DumpFault.Log (StartFault.Boot fault))) = λ h. absurd h
none_early P centre (Err (DumpFault.Log StartFault.Memory)) = λ h. absurd h
none_early P centre (Err DumpFault.Output) = λ h. absurd h
none_early P centre (Err DumpFault.Memory) = λ h. absurd h

pub not_early : (P : Type 0) (centre : ℕ) (result : Result (Unit {0}) DumpFault) (done : Result (Unit {0}) Failure) → done ≡ as_done centre result → IfErr done (λ failure. IsEarly failure → P)
not_early P centre result done is = subst (λ (r : Result (Unit {0}) Failure). IfErr r (λ failure. IsEarly failure → P)) (sym is) (none_early P centre result)

pub no_link : (centre : ℕ) (result : Result (Unit {0}) DumpFault) → as_done centre result ≡ Err Failure.Link → ⊥
no_link centre (Ok done) e = absurd (cc)
no_link centre (Err (DumpFault.Log (StartFault.Log fault))) e = absurd (cc)
no_link centre (Err (DumpFault.Log (StartFault.Boot fault))) e = absurd (cc)
no_link centre (Err (DumpFault.Log StartFault.Memory)) e = absurd (cc)
no_link centre (Err DumpFault.Output) e = absurd (cc)
no_link centre (Err DumpFault.Memory) e = absurd (cc)

pub no_input : (centre : ℕ) (result : Result (Unit {0}) DumpFault) → as_done centre result ≡ Err (Failure.Input ReadAllFault.Failed) → ⊥
no_input centre (Ok done) e = absurd (cc)
no_input centre (Err (DumpFault.Log (StartFault.Log fault))) e = absurd (cc)
no_input centre (Err (DumpFault.Log (StartFault.Boot fault))) e = absurd (cc)
no_input centre (Err (DumpFault.Log StartFault.Memory)) e = absurd (cc)
no_input centre (Err DumpFault.Output) e = absurd (cc)
no_input centre (Err DumpFault.Memory) e = absurd (cc)

-- a disk failed in it
pub disk_dumped : (centre a : ℕ) (result : Result (Unit {0}) DumpFault) → as_done centre result ≡ Err (Failure.Log a LogFault.DiskFault)
    → (centre ≡ a) × IsErrOf result (DumpFault.Log (StartFault.Log LogFault.DiskFault))
disk_dumped centre a (Ok done) e = absurd (cc)
disk_dumped centre a (Err (DumpFault.Log (StartFault.Log fault))) e =
    let same : Failure.Log centre fault ≡ Failure.Log a LogFault.DiskFault = cc in
    let failed : fault ≡ LogFault.DiskFault = cc in
    (cc, rw failed refl)
disk_dumped centre a (Err (DumpFault.Log (StartFault.Boot fault))) e = absurd (cc)
disk_dumped centre a (Err (DumpFault.Log StartFault.Memory)) e = absurd (cc)
disk_dumped centre a (Err DumpFault.Output) e = absurd (cc)
disk_dumped centre a (Err DumpFault.Memory) e = absurd (cc)

-- the output failed in it
pub output_dumped : (centre : ℕ) (result : Result (Unit {0}) DumpFault) → as_done centre result ≡ Err Failure.Output → IsErrOf result DumpFault.Output
output_dumped centre (Ok done) e = absurd (cc)
output_dumped centre (Err (DumpFault.Log (StartFault.Log fault))) e = absurd (cc)
output_dumped centre (Err (DumpFault.Log (StartFault.Boot fault))) e = absurd (cc)
output_dumped centre (Err (DumpFault.Log StartFault.Memory)) e = absurd (cc)
output_dumped centre (Err DumpFault.Output) e = refl
output_dumped centre (Err DumpFault.Memory) e = absurd (cc)

-- ---- what the command did

at_true : (b : Bool) (P Q : Type 0) → b ≡ true → P → MatchBool b P Q
at_true true P Q e p = p
at_true false P Q e p = absurd (cc)

at_false : (b : Bool) (P Q : Type 0) → b ≡ false → Q → MatchBool b P Q
at_false true P Q e q = absurd (cc)
at_false false P Q e q = q

module _ {D O : Type 0} (disk : D → ℕ → Disk) (held : O → Option (List ℕ)) (disks_old disks_new : D) (out_old out_new : O) where
  -- its input is no configuration
  pub unread_runs : (left : Option (List ℕ)) (number : ℕ) (failure : Failure) (done : Result (Unit {0}) Failure) → done ≡ Err failure → UntouchedDisks disks_old disks_new out_old out_new → IfSome left (λ input. GivesConfig input (Err failure))
      → IfSome left (λ input. RunsDump disk held disks_old disks_new out_old out_new input number done)
  unread_runs None number failure done is untouched gives = tt
  unread_runs (Some input) number failure done is untouched gives = record { read = Err failure; gives = gives; dumps = (is, untouched) }

  -- the configuration has no such centre
  pub no_centre_runs : (left : Option (List ℕ)) (number : ℕ) (config : Config) → is_centre config.cluster number ≡ false → UntouchedDisks disks_old disks_new out_old out_new → IfSome left (λ input. GivesConfig input (Ok config))
      → IfSome left (λ input. RunsDump disk held disks_old disks_new out_old out_new input number (Err Failure.Centre))
  no_centre_runs None number config none untouched gives = tt
  no_centre_runs (Some input) number config none untouched gives =
      record { read = Ok config; gives = gives; dumps = at_false (is_centre config.cluster number) (DumpsOne disk held disks_old disks_new out_old out_new config number (Err Failure.Centre)) _ none (refl, untouched) }

  -- the log of its centre was dumped
  pub dumped_runs : (left : Option (List ℕ)) (centre number : ℕ) (config : Config) (done : Result (Unit {0}) Failure) → centre ≡ number → is_centre config.cluster number ≡ true
      → DumpsOne disk held disks_old disks_new out_old out_new config centre done → IfSome left (λ input. GivesConfig input (Ok config))
      → IfSome left (λ input. RunsDump disk held disks_old disks_new out_old out_new input number done)
  dumped_runs None centre number config done same there one gives = tt
  dumped_runs (Some input) centre number config done same there one gives =
      let its : DumpsOne disk held disks_old disks_new out_old out_new config number done = subst (λ (n : ℕ). DumpsOne disk held disks_old disks_new out_old out_new config n done) same one in
      record { read = Ok config; gives = gives; dumps = at_true (is_centre config.cluster number) (DumpsOne disk held disks_old disks_new out_old out_new config number done) _ there its }

-- ---- the end of the command

pub input_early : (failure : Failure) → failure ≡ Failure.Input ReadAllFault.Failed → IsEarly failure
input_early failure e = subst (λ (f : Failure). IsEarly f) (sym e) tt
