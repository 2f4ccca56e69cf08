-- The faults of a log and of a boot, as faults of a start. Want of memory is the same for all.
use Rattle.mdcc_log_file.specs.declared.fault.LogFault.{LogFault}
use Rattle.mdcc_def_rules.specs.declared.node.BootFault.{BootFault}
use Rattle.mdcc_node_log.specs.declared.fault.StartFault.{StartFault}

abbrev pub of_log : LogFault → StartFault
of_log LogFault.Memory = StartFault.Memory
of_log fault = StartFault.Log fault

abbrev pub of_boot : BootFault → StartFault
of_boot BootFault.Memory = StartFault.Memory
of_boot fault = StartFault.Boot fault
