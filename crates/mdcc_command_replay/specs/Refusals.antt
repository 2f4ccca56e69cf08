-- Why a replay ends early, as the program keeps it.
use Rattle.std.specs.Prelude.{Option, option_map}
use Rattle.mdcc_def_language.specs.Errors.{ReplayFault, TooLong, AtHeader, AtLine, AtEvent}
use Rattle.mdcc_command_replay.specs.declared.refusals.Refusal.{Refusal}

abbrev pub fault_of : Refusal → ReplayFault
fault_of Refusal.TooLong = TooLong
fault_of (Refusal.Header fault) = AtHeader fault
fault_of (Refusal.Line number fault) = AtLine number fault
fault_of (Refusal.Event number fault) = AtEvent number fault

abbrev pub faults_of : Option Refusal → Option ReplayFault
faults_of refusal = option_map fault_of refusal
