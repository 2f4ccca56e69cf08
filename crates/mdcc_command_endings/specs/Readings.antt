-- Which configuration an input has.
use Rattle.std.specs.Bool.{OnFalse}
use Rattle.std.specs.Prelude.{Err, List, Ok, Result, length, ⊤, ℕ, ◌<◌, ◌≡◌, ◌≤◌}
use Rattle.mdcc_base.specs.declared.source.ReadAllFault.{ReadAllFault}
use Rattle.mdcc_config.specs.Configuration.{config_of, is_config_memory}
use Rattle.mdcc_config.specs.declared.config.Config.{Config}
use Rattle.mdcc_config.specs.declared.faults.ConfigFault.{ConfigFault}
use Rattle.mdcc_def_language.specs.Errors.{most_input}
use Rattle.mdcc_command_endings.specs.declared.fault.Failure.{Failure}

-- an input of no more bytes than an input may have is this configuration, or none for this reason
pub record IsConfigRead (input : List ℕ) (read : Result Config ConfigFault) : Type 0 where
  pub short : length input ≤ most_input
  pub is : config_of input ≡ read

-- why an input was not read
abbrev pub IsInputUnread : List ℕ → ReadAllFault → Type 0
IsInputUnread input ReadAllFault.TooLong = most_input < length input
IsInputUnread input fault = ⊤

-- why an input is no configuration
abbrev pub IsConfigRefused : List ℕ → Failure → Type 0
IsConfigRefused input (Failure.Input fault) = IsInputUnread input fault
IsConfigRefused input (Failure.Config fault) = OnFalse (is_config_memory fault) (IsConfigRead input (Err fault))
IsConfigRefused input failure = ⊥

-- what an input was read as
abbrev pub GivesConfig : List ℕ → Result Config Failure → Type 0
GivesConfig input (Ok config) = IsConfigRead input (Ok config)
GivesConfig input (Err failure) = IsConfigRefused input failure

-- the input was not read, or is no configuration
abbrev pub IsOfInput : Failure → Type 0
IsOfInput (Failure.Input fault) = ⊤
IsOfInput (Failure.Config fault) = ⊤
IsOfInput failure = ⊥

-- the same, or the configuration has no such centre
abbrev pub IsEarly : Failure → Type 0
IsEarly Failure.Centre = ⊤
IsEarly failure = IsOfInput failure
