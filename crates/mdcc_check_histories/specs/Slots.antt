-- What was read of a line of which the large part was put into a slot.
use Rattle.std.specs.Prelude.{Err, List, None, Ok, Option, Result, Some}
use Rattle.mdcc_def_language.specs.declared.schedule.SchedFault.{SchedFault}
use Rattle.mdcc_check_histories.specs.Grammar.{first_known}
use Rattle.mdcc_check_histories.specs.declared.lines.LineKind.{LineKind}
use Rattle.mdcc_check_histories.specs.declared.lines.Slot.{Slot}
use Rattle.mdcc_check_histories.specs.declared.lines.Spelled.{Spelled}
use Rattle.mdcc_option.specs.declared.items.Part.{Part}

abbrev pub parts_by : Result (Unit {0}) SchedFault → List Part → Result (List Part) SchedFault
parts_by (Ok read) parts = Ok parts
parts_by (Err fault) parts = Err fault

abbrev pub spelled_as : LineKind → Slot → Spelled
spelled_as (LineKind.Commit tx) slot = Spelled.Commit tx slot.parts
spelled_as (LineKind.First key) slot = Spelled.Read (first_known key)
spelled_as LineKind.Read slot = Spelled.Read slot.known

abbrev pub spelled_by : Result LineKind SchedFault → Slot → Result Spelled SchedFault
spelled_by (Ok kind) slot = Ok (spelled_as kind slot)
spelled_by (Err fault) slot = Err fault

-- a line that is skipped is none
abbrev pub spelled_in_slot : Option LineKind → Slot → Option Spelled
spelled_in_slot None slot = None
spelled_in_slot (Some kind) slot = Some (spelled_as kind slot)

abbrev pub spelled_by_any : Result (Option LineKind) SchedFault → Slot → Result (Option Spelled) SchedFault
spelled_by_any (Ok kind) slot = Ok (spelled_in_slot kind slot)
spelled_by_any (Err fault) slot = Err fault
