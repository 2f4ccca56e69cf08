-- Columns of faults in 32 bits.
use Rattle.std.specs.Prelude.{Err, Ok, Result, min, ◌-◌, ◌^◌}
use Rattle.mdcc_def_language.specs.declared.schedule.SchedFault.{SchedFault}

-- a column past 32 bits is told as the last one of 32 bits
abbrev pub with_column_within : {A : Type 0} → Result A SchedFault → Result A SchedFault
with_column_within (Ok x) = Ok x
with_column_within (Err fault) = Err (record { column = min fault.column (2 ^ 32 - 1); cause = fault.cause })
