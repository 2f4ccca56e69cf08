-- Faults that may come at any time.
use Rattle.std.specs.Prelude.{Bool, true, false, ◌&&◌, ◌==◌}
use Rattle.mdcc_def_language.specs.declared.schedule.ResolveFault.{ResolveFault}
use Rattle.mdcc_def_language.specs.declared.schedule.SchedCause.{SchedCause}
use Rattle.mdcc_def_language.specs.declared.schedule.SchedFault.{SchedFault}

abbrev pub is_memory_cause : SchedCause → Bool
is_memory_cause SchedCause.Memory = true
is_memory_cause _ = false

-- want of memory, which stands at the first column
abbrev pub is_sched_memory : SchedFault → Bool
is_sched_memory fault = fault.column == 1 && is_memory_cause fault.cause

abbrev pub is_resolve_memory : ResolveFault → Bool
is_resolve_memory ResolveFault.Memory = true
is_resolve_memory _ = false
