-- What the faults of a log are called at a start.
use Rattle.std.proofs.Common.{◌≡◌, ◌≤◌, ℕ, arith, refl}
use Rattle.mdcc_base.specs.Causes.{Rose}
use Rattle.mdcc_log_file.specs.declared.fault.LogFault.{LogFault}
use Rattle.mdcc_node_log.specs.Faults.{of_log}
use Rattle.mdcc_node_log.specs.declared.fault.StartFault.{StartFault}
use Rattle.mdcc_def_rules.specs.declared.node.BootFault.{BootFault}

pub of-disk : (fault : LogFault) → of_log fault ≡ StartFault.Log LogFault.DiskFault → fault ≡ LogFault.DiskFault
of-disk LogFault.DiskFault e = refl
of-disk (LogFault.NotALog n) e = absurd (cc)
of-disk LogFault.LogFull e = absurd (cc)
of-disk LogFault.Memory e = absurd (cc)

pub no-log-memory : (fault : LogFault) → of_log fault ≡ StartFault.Log LogFault.Memory → ⊥
no-log-memory LogFault.DiskFault e = absurd (cc)
no-log-memory (LogFault.NotALog n) e = absurd (cc)
no-log-memory LogFault.LogFull e = absurd (cc)
no-log-memory LogFault.Memory e = absurd (cc)

pub no-boot-memory : (fault : LogFault) → of_log fault ≡ StartFault.Boot BootFault.Memory → ⊥
no-boot-memory LogFault.DiskFault e = absurd (cc)
no-boot-memory (LogFault.NotALog n) e = absurd (cc)
no-boot-memory LogFault.LogFull e = absurd (cc)
no-boot-memory LogFault.Memory e = absurd (cc)

pub rose-later : (a b c : ℕ) → a ≤ b → Rose b c → Rose a c
rose-later a b c h rose = omega (arith, h, rose)
