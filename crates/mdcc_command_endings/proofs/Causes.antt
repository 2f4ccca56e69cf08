-- What a failure is, by its status.
use Rattle.std.proofs.Common.{◌≡◌, ◌&&◌, ◌==◌, Err, IsTrue, Ok, Result, arith, inl, inr, refl, ℕ, ◌⊎◌}
use Rattle.std.proofs.lemmas.Bool.{and_parts, eqb-true}
use Rattle.std.specs.Prelude.{is_err}
use Rattle.mdcc_log_file.specs.declared.fault.LogFault.{LogFault}
use Rattle.mdcc_base.specs.declared.source.ReadAllFault.{ReadAllFault}
use Rattle.mdcc_config.specs.declared.faults.ConfigFault.{ConfigFault}
use Rattle.mdcc_command_endings.specs.Endings.{failure_status, status_after}
use Rattle.mdcc_command_endings.specs.Readings.{IsEarly}
use Rattle.mdcc_command_endings.specs.declared.fault.Failure.{Failure}
use Rattle.mdcc_def_rules.specs.declared.node.BootFault.{BootFault}

pub record Causes (failure : Failure) : Type 0 where
  pub input : failure_status failure ≡ 5 → failure ≡ Failure.Input ReadAllFault.Failed
  pub disk : failure_status failure ≡ 7 → (a : ℕ) × (failure ≡ Failure.Log a LogFault.DiskFault)
  pub link : failure_status failure ≡ 8 → failure ≡ Failure.Link
  pub output : failure_status failure ≡ 6 → failure ≡ Failure.Output
  pub early : failure_status failure ≡ 3 → IsEarly failure

pub causes_of : (failure : Failure) → Causes failure
causes_of (Failure.Input ReadAllFault.Failed) = record { input = λ _. refl; disk = λ h. absurd (omega arith); link = λ h. absurd (omega arith); output = λ h. absurd (omega arith); early = λ h. absurd (omega arith) }
causes_of (Failure.Input ReadAllFault.TooLong) = record { input = λ h. absurd (omega arith); disk = λ h. absurd (omega arith); link = λ h. absurd (omega arith); output = λ h. absurd (omega arith); early = λ h. absurd (omega arith) }
causes_of (Failure.Input ReadAllFault.Memory) = record { input = λ h. absurd (omega arith); disk = λ h. absurd (omega arith); link = λ h. absurd (omega arith); output = λ h. absurd (omega arith); early = λ h. absurd (omega arith) }
causes_of (Failure.Config ConfigFault.Json) = record { input = λ h. absurd (omega arith); disk = λ h. absurd (omega arith); link = λ h. absurd (omega arith); output = λ h. absurd (omega arith); early = λ _. tt }
causes_of (Failure.Config (ConfigFault.Member name)) = record { input = λ h. absurd (omega arith); disk = λ h. absurd (omega arith); link = λ h. absurd (omega arith); output = λ h. absurd (omega arith); early = λ _. tt }
causes_of (Failure.Config (ConfigFault.Kind name)) = record { input = λ h. absurd (omega arith); disk = λ h. absurd (omega arith); link = λ h. absurd (omega arith); output = λ h. absurd (omega arith); early = λ _. tt }
causes_of (Failure.Config (ConfigFault.Range name)) = record { input = λ h. absurd (omega arith); disk = λ h. absurd (omega arith); link = λ h. absurd (omega arith); output = λ h. absurd (omega arith); early = λ _. tt }
causes_of (Failure.Config (ConfigFault.Quorums fault)) = record { input = λ h. absurd (omega arith); disk = λ h. absurd (omega arith); link = λ h. absurd (omega arith); output = λ h. absurd (omega arith); early = λ _. tt }
causes_of (Failure.Config (ConfigFault.Schema fault)) = record { input = λ h. absurd (omega arith); disk = λ h. absurd (omega arith); link = λ h. absurd (omega arith); output = λ h. absurd (omega arith); early = λ _. tt }
causes_of (Failure.Config (ConfigFault.Address centre)) = record { input = λ h. absurd (omega arith); disk = λ h. absurd (omega arith); link = λ h. absurd (omega arith); output = λ h. absurd (omega arith); early = λ _. tt }
causes_of (Failure.Config ConfigFault.Memory) = record { input = λ h. absurd (omega arith); disk = λ h. absurd (omega arith); link = λ h. absurd (omega arith); output = λ h. absurd (omega arith); early = λ h. absurd (omega arith) }
causes_of Failure.Centre = record { input = λ h. absurd (omega arith); disk = λ h. absurd (omega arith); link = λ h. absurd (omega arith); output = λ h. absurd (omega arith); early = λ _. tt }
causes_of (Failure.Log centre LogFault.DiskFault) = record { input = λ h. absurd (omega arith); disk = λ _. (centre, refl); link = λ h. absurd (omega arith); output = λ h. absurd (omega arith); early = λ h. absurd (omega arith) }
causes_of (Failure.Log centre (LogFault.NotALog offset)) = record { input = λ h. absurd (omega arith); disk = λ h. absurd (omega arith); link = λ h. absurd (omega arith); output = λ h. absurd (omega arith); early = λ h. absurd (omega arith) }
causes_of (Failure.Log centre LogFault.LogFull) = record { input = λ h. absurd (omega arith); disk = λ h. absurd (omega arith); link = λ h. absurd (omega arith); output = λ h. absurd (omega arith); early = λ h. absurd (omega arith) }
causes_of (Failure.Log centre LogFault.Memory) = record { input = λ h. absurd (omega arith); disk = λ h. absurd (omega arith); link = λ h. absurd (omega arith); output = λ h. absurd (omega arith); early = λ h. absurd (omega arith) }
causes_of (Failure.Boot centre BootFault.Epochs) = record { input = λ h. absurd (omega arith); disk = λ h. absurd (omega arith); link = λ h. absurd (omega arith); output = λ h. absurd (omega arith); early = λ h. absurd (omega arith) }
causes_of (Failure.Boot centre (BootFault.NotARun number)) = record { input = λ h. absurd (omega arith); disk = λ h. absurd (omega arith); link = λ h. absurd (omega arith); output = λ h. absurd (omega arith); early = λ h. absurd (omega arith) }
causes_of (Failure.Boot centre (BootFault.Room needed cells)) = record { input = λ h. absurd (omega arith); disk = λ h. absurd (omega arith); link = λ h. absurd (omega arith); output = λ h. absurd (omega arith); early = λ h. absurd (omega arith) }
causes_of (Failure.Boot centre BootFault.Memory) = record { input = λ h. absurd (omega arith); disk = λ h. absurd (omega arith); link = λ h. absurd (omega arith); output = λ h. absurd (omega arith); early = λ h. absurd (omega arith) }
causes_of Failure.Link = record { input = λ h. absurd (omega arith); disk = λ h. absurd (omega arith); link = λ _. refl; output = λ h. absurd (omega arith); early = λ h. absurd (omega arith) }
causes_of Failure.Serial = record { input = λ h. absurd (omega arith); disk = λ h. absurd (omega arith); link = λ h. absurd (omega arith); output = λ h. absurd (omega arith); early = λ h. absurd (omega arith) }
causes_of Failure.Output = record { input = λ h. absurd (omega arith); disk = λ h. absurd (omega arith); link = λ h. absurd (omega arith); output = λ _. refl; early = λ h. absurd (omega arith) }
causes_of Failure.Memory = record { input = λ h. absurd (omega arith); disk = λ h. absurd (omega arith); link = λ h. absurd (omega arith); output = λ h. absurd (omega arith); early = λ h. absurd (omega arith) }

-- where a command ended at a status that is not want of memory, with what it failed
pub failed_at : {T : Type 0} (done : Result T Failure) (status wanted : ℕ) → (status ≡ status_after done) ⊎ IsTrue (is_err done && status == 10) → status ≡ wanted → (wanted ≡ 0 → ⊥) → (wanted ≡ 10 → ⊥)
    → (failure : Failure) × (done ≡ Err failure) × (failure_status failure ≡ wanted)
failed_at (Ok done) status wanted (inl e) w zero ten = absurd (zero (omega arith))
failed_at (Err failure) status wanted (inl e) w zero ten = (failure, refl, omega arith)
failed_at done status wanted (inr h) w zero ten =
    let e : status ≡ 10 = eqb-true status 10 (and_parts (is_err done) (status == 10) h).1 in
    absurd (ten (omega arith))
