-- Why a command over a configuration ends: its status, and its line on the error stream.
use Rattle.std.specs.List.{list_any}
use Rattle.std.specs.Prelude.{Bool, Err, IsTrue, List, Ok, Option, Result, [], codes, decimal, if◌then◌else◌, is_err, ℕ, ◌&&◌, ◌++◌, ◌-◌, ◌==◌, ◌^◌, ◌∷◌, ◌≡◌, ◌⊎◌}
use Rattle.mdcc_log_file.specs.declared.fault.LogFault.{LogFault}
use Rattle.mdcc_base.specs.declared.source.ReadAllFault.{ReadAllFault}
use Rattle.mdcc_config.specs.declared.faults.ConfigFault.{ConfigFault}
use Rattle.mdcc_def_language.specs.Errors.{error_line, memory_text, most_input}
use Rattle.mdcc_command_replay.specs.Writing.{Tells}
use Rattle.mdcc_def_rules.specs.declared.node.BootFault.{BootFault}
use Rattle.mdcc_command_endings.specs.declared.fault.Failure.{Failure}

-- ---- statuses

abbrev pub input_status : ReadAllFault → ℕ
input_status ReadAllFault.Failed = 5
input_status ReadAllFault.TooLong = 11
input_status ReadAllFault.Memory = 10

abbrev pub config_status : ConfigFault → ℕ
config_status ConfigFault.Memory = 10
config_status fault = 3

abbrev pub log_status : LogFault → ℕ
log_status LogFault.DiskFault = 7
log_status (LogFault.NotALog offset) = 9
log_status LogFault.LogFull = 11
log_status LogFault.Memory = 10

abbrev pub boot_status : BootFault → ℕ
boot_status BootFault.Epochs = 12
boot_status (BootFault.NotARun number) = 9
boot_status (BootFault.Room needed cells) = 11
boot_status BootFault.Memory = 10

abbrev pub failure_status : Failure → ℕ
failure_status (Failure.Input fault) = input_status fault
failure_status (Failure.Config fault) = config_status fault
failure_status Failure.Centre = 3
failure_status (Failure.Log centre fault) = log_status fault
failure_status (Failure.Boot centre fault) = boot_status fault
failure_status Failure.Link = 8
failure_status Failure.Serial = 11
failure_status Failure.Output = 6
failure_status Failure.Memory = 10

-- ---- lines, without their beginning and their line end

abbrev pub input_text : ReadAllFault → List ℕ
input_text ReadAllFault.Failed = codes "input failed"
input_text ReadAllFault.TooLong = codes "limit input " ++ decimal most_input
input_text ReadAllFault.Memory = memory_text

-- the name of the cause alone
abbrev pub config_text : ConfigFault → List ℕ
config_text ConfigFault.Json = codes "config: Json"
config_text (ConfigFault.Member name) = codes "config: Member"
config_text (ConfigFault.Kind name) = codes "config: Kind"
config_text (ConfigFault.Range name) = codes "config: Range"
config_text (ConfigFault.Quorums fault) = codes "config: Quorums"
config_text (ConfigFault.Schema fault) = codes "config: Schema"
config_text (ConfigFault.Address centre) = codes "config: Address"
config_text ConfigFault.Memory = memory_text

-- the most bytes of a log
abbrev pub most_log_bytes : ℕ
most_log_bytes = 2 ^ 30

abbrev pub log_text : ℕ → LogFault → List ℕ
log_text centre LogFault.DiskFault = codes "disk " ++ decimal centre ++ codes " failed"
log_text centre (LogFault.NotALog offset) = codes "log " ++ decimal centre ++ codes ": NotALog " ++ decimal offset
log_text centre LogFault.LogFull = codes "limit log " ++ decimal most_log_bytes
log_text centre LogFault.Memory = memory_text

-- for cells the number that is needed
abbrev pub boot_text : ℕ → BootFault → List ℕ
boot_text centre BootFault.Epochs = codes "epochs " ++ decimal centre
boot_text centre (BootFault.NotARun number) = codes "log " ++ decimal centre ++ codes ": NotARun " ++ decimal number
boot_text centre (BootFault.Room needed cells) = codes "limit cells " ++ decimal needed
boot_text centre BootFault.Memory = memory_text

abbrev pub failure_text : Failure → List ℕ
failure_text (Failure.Input fault) = input_text fault
failure_text (Failure.Config fault) = config_text fault
failure_text Failure.Centre = codes "config: Centre"
failure_text (Failure.Log centre fault) = log_text centre fault
failure_text (Failure.Boot centre fault) = boot_text centre fault
failure_text Failure.Link = codes "link failed"
failure_text Failure.Serial = codes "limit serial " ++ decimal (2 ^ 32 - 1)
failure_text Failure.Output = codes "output failed"
failure_text Failure.Memory = memory_text

-- ---- the end of a command

-- the status, by what the command did
abbrev pub status_after : {T : Type 0} → Result T Failure → ℕ
status_after (Ok done) = 0
status_after (Err failure) = failure_status failure

abbrev pub line_after : {T : Type 0} → Result T Failure → List ℕ
line_after (Ok done) = []
line_after (Err failure) = error_line (failure_text failure)

-- the line of a status: without memory there is no other
abbrev pub line_at : {T : Type 0} → ℕ → Result T Failure → List ℕ
line_at status done = if status == 10 then error_line memory_text else line_after done

-- A command ends with the status of what it did, or one that failed for want of memory for its line.
pub record EndsWithStatus {T : Type 0} (done : Result T Failure) (status : ℕ) (before after : Option (List ℕ)) (faults_before faults_after : ℕ) : Type 0 where
  pub status_is : (status ≡ status_after done) ⊎ IsTrue (is_err done && status == 10)
  pub told : Tells before after faults_before faults_after (line_at status done)

-- the statuses that there are
abbrev pub is_ending : ℕ → Bool
is_ending status = list_any (λ s. s == status) (0 ∷ 3 ∷ 5 ∷ 6 ∷ 7 ∷ 8 ∷ 9 ∷ 10 ∷ 11 ∷ 12 ∷ [])
