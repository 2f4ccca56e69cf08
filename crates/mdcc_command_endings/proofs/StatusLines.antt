-- The statuses of failures, and their lines.
use Rattle.std.proofs.Common.{◌≡◌, ◌==◌, Bool, Err, ap, cond, false, refl, subst, true, ℕ}
use Rattle.mdcc_log_file.specs.declared.fault.LogFault.{LogFault}
use Rattle.mdcc_base.specs.declared.source.ReadAllFault.{ReadAllFault}
use Rattle.mdcc_config.specs.declared.faults.ConfigFault.{ConfigFault}
use Rattle.mdcc_command_endings.specs.Endings.{boot_status, boot_text, config_status, config_text, failure_status, failure_text, input_status, input_text, is_ending, line_at, log_status, log_text}
use Rattle.mdcc_command_endings.specs.declared.fault.Failure.{Failure}
use Rattle.mdcc_def_language.specs.Errors.{error_line, memory_text}
use Rattle.mdcc_command_replay.specs.Runs.{is_own_status, own_line}
use Rattle.mdcc_def_rules.specs.declared.node.BootFault.{BootFault}

-- ---- the line of want of memory

input_memory : (fault : ReadAllFault) → (input_status fault == 10) ≡ true → input_text fault ≡ memory_text
input_memory ReadAllFault.Failed h = absurd (cc)
input_memory ReadAllFault.TooLong h = absurd (cc)
input_memory ReadAllFault.Memory h = refl

config_memory : (fault : ConfigFault) → (config_status fault == 10) ≡ true → config_text fault ≡ memory_text
config_memory ConfigFault.Json h = absurd (cc)
config_memory (ConfigFault.Member name) h = absurd (cc)
config_memory (ConfigFault.Kind name) h = absurd (cc)
config_memory (ConfigFault.Range name) h = absurd (cc)
config_memory (ConfigFault.Quorums fault) h = absurd (cc)
config_memory (ConfigFault.Schema fault) h = absurd (cc)
config_memory (ConfigFault.Address centre) h = absurd (cc)
config_memory ConfigFault.Memory h = refl

log_memory : (centre : ℕ) (fault : LogFault) → (log_status fault == 10) ≡ true → log_text centre fault ≡ memory_text
log_memory centre LogFault.DiskFault h = absurd (cc)
log_memory centre (LogFault.NotALog offset) h = absurd (cc)
log_memory centre LogFault.LogFull h = absurd (cc)
log_memory centre LogFault.Memory h = refl

boot_memory : (centre : ℕ) (fault : BootFault) → (boot_status fault == 10) ≡ true → boot_text centre fault ≡ memory_text
boot_memory centre BootFault.Epochs h = absurd (cc)
boot_memory centre (BootFault.NotARun number) h = absurd (cc)
boot_memory centre (BootFault.Room needed cells) h = absurd (cc)
boot_memory centre BootFault.Memory h = refl

pub memory_line : (failure : Failure) → (failure_status failure == 10) ≡ true → failure_text failure ≡ memory_text
memory_line (Failure.Input fault) h = input_memory fault h
memory_line (Failure.Config fault) h = config_memory fault h
memory_line Failure.Centre h = absurd (cc)
memory_line (Failure.Log centre fault) h = log_memory centre fault h
memory_line (Failure.Boot centre fault) h = boot_memory centre fault h
memory_line Failure.Link h = absurd (cc)
memory_line Failure.Serial h = absurd (cc)
memory_line Failure.Output h = absurd (cc)
memory_line Failure.Memory h = refl

pub line_is : (failure : Failure) (status : ℕ) → status ≡ failure_status failure → error_line (failure_text failure) ≡ line_at {T = Unit {0}} status (Err failure)
line_is failure status e = by (status == 10) refl
  where
    by : (b : Bool) → (status == 10) ≡ b → error_line (failure_text failure) ≡ cond b (error_line memory_text) (error_line (failure_text failure))
    by true h = ap error_line (memory_line failure (subst (λ (n : ℕ). (n == 10) ≡ true) e h))
    by false h = refl

-- ---- the lines of the statuses that a replay has too

input_own : (fault : ReadAllFault) → is_own_status (input_status fault) ≡ true → own_line (input_status fault) ≡ error_line (input_text fault)
input_own ReadAllFault.Failed h = refl
input_own ReadAllFault.TooLong h = absurd (cc)
input_own ReadAllFault.Memory h = refl

config_own : (fault : ConfigFault) → is_own_status (config_status fault) ≡ true → own_line (config_status fault) ≡ error_line (config_text fault)
config_own ConfigFault.Json h = absurd (cc)
config_own (ConfigFault.Member name) h = absurd (cc)
config_own (ConfigFault.Kind name) h = absurd (cc)
config_own (ConfigFault.Range name) h = absurd (cc)
config_own (ConfigFault.Quorums fault) h = absurd (cc)
config_own (ConfigFault.Schema fault) h = absurd (cc)
config_own (ConfigFault.Address centre) h = absurd (cc)
config_own ConfigFault.Memory h = refl

log_own : (centre : ℕ) (fault : LogFault) → is_own_status (log_status fault) ≡ true → own_line (log_status fault) ≡ error_line (log_text centre fault)
log_own centre LogFault.DiskFault h = absurd (cc)
log_own centre (LogFault.NotALog offset) h = absurd (cc)
log_own centre LogFault.LogFull h = absurd (cc)
log_own centre LogFault.Memory h = refl

boot_own : (centre : ℕ) (fault : BootFault) → is_own_status (boot_status fault) ≡ true → own_line (boot_status fault) ≡ error_line (boot_text centre fault)
boot_own centre BootFault.Epochs h = absurd (cc)
boot_own centre (BootFault.NotARun number) h = absurd (cc)
boot_own centre (BootFault.Room needed cells) h = absurd (cc)
boot_own centre BootFault.Memory h = refl

pub own_lines : (failure : Failure) → is_own_status (failure_status failure) ≡ true → own_line (failure_status failure) ≡ error_line (failure_text failure)
own_lines (Failure.Input fault) h = input_own fault h
own_lines (Failure.Config fault) h = config_own fault h
own_lines Failure.Centre h = absurd (cc)
own_lines (Failure.Log centre fault) h = log_own centre fault h
own_lines (Failure.Boot centre fault) h = boot_own centre fault h
own_lines Failure.Link h = absurd (cc)
own_lines Failure.Serial h = absurd (cc)
own_lines Failure.Output h = refl
own_lines Failure.Memory h = refl

-- ---- the statuses

input_ends : (fault : ReadAllFault) → is_ending (input_status fault) ≡ true
input_ends ReadAllFault.Failed = refl
input_ends ReadAllFault.TooLong = refl
input_ends ReadAllFault.Memory = refl

config_ends : (fault : ConfigFault) → is_ending (config_status fault) ≡ true
config_ends ConfigFault.Json = refl
config_ends (ConfigFault.Member name) = refl
config_ends (ConfigFault.Kind name) = refl
config_ends (ConfigFault.Range name) = refl
config_ends (ConfigFault.Quorums fault) = refl
config_ends (ConfigFault.Schema fault) = refl
config_ends (ConfigFault.Address centre) = refl
config_ends ConfigFault.Memory = refl

log_ends : (fault : LogFault) → is_ending (log_status fault) ≡ true
log_ends LogFault.DiskFault = refl
log_ends (LogFault.NotALog offset) = refl
log_ends LogFault.LogFull = refl
log_ends LogFault.Memory = refl

boot_ends : (fault : BootFault) → is_ending (boot_status fault) ≡ true
boot_ends BootFault.Epochs = refl
boot_ends (BootFault.NotARun number) = refl
boot_ends (BootFault.Room needed cells) = refl
boot_ends BootFault.Memory = refl

pub failures_end : (failure : Failure) → is_ending (failure_status failure) ≡ true
failures_end (Failure.Input fault) = input_ends fault
failures_end (Failure.Config fault) = config_ends fault
failures_end Failure.Centre = refl
failures_end (Failure.Log centre fault) = log_ends fault
failures_end (Failure.Boot centre fault) = boot_ends fault
failures_end Failure.Link = refl
failures_end Failure.Serial = refl
failures_end Failure.Output = refl
failures_end Failure.Memory = refl
