-- Why a server ends before its last turn, and at which act.
use Rattle.std.specs.Prelude.{Err, List, [], if◌then◌else◌, ⊤, ℕ, ◌-◌, ◌==◌, ◌^◌, ◌∷◌, ◌≡◌, ◌≤◌}
use Rattle.std.specs.List.{AllByRecursion}
use Rattle.mdcc_option.specs.declared.cluster.Cluster.{Cluster}
use Rattle.mdcc_def_protocol.specs.Facts.{epoch_of}
use Rattle.mdcc_def_rules.specs.Boot.{boot_of}
use Rattle.mdcc_def_rules.specs.declared.node.BootFault.{BootFault}
use Rattle.mdcc_def_server_runs.specs.Servers.{Log}
use Rattle.mdcc_theorem_node_steps.specs.NodeInvariant.{fact_payloads}
use Rattle.mdcc_def_messages.specs.declared.facts.Fact.{Fact}
use Rattle.mdcc_log_file.specs.declared.fault.LogFault.{LogFault}
use Rattle.mdcc_link.specs.Link.{LinkCall}
use Rattle.mdcc_def_server_runs.specs.Acts.{Act, printed_by}
use Rattle.mdcc_serve_outbox.specs.Sends.{IsSending}
use Rattle.mdcc_serve_outbox.specs.Shows.{failed_call}
use Rattle.mdcc_serve_outbox.specs.declared.fault.PrintFault.{PrintFault}
use Rattle.mdcc_serve_site.specs.declared.fault.ServeFault.{ServeFault}

-- ---- of what else it is

abbrev pub of_print : PrintFault → ServeFault
of_print PrintFault.Output = ServeFault.Output
of_print PrintFault.Memory = ServeFault.Memory

-- ---- which act comes next

abbrev pub IsLogging : ℕ → List Act → Type 0
IsLogging a (Act.Append centre facts ∷ acts) = centre ≡ a
IsLogging a _ = ⊥

abbrev pub IsAtLink : List Act → Type 0
IsAtLink (Act.Bind at address ∷ acts) = ⊤
IsAtLink (Act.Receive at gave ∷ acts) = ⊤
IsAtLink _ = ⊥

abbrev pub IsPrinting : List Act → Type 0
IsPrinting (Act.Print line ∷ acts) = ⊤
IsPrinting _ = ⊥

-- the act at which a fault comes; there may be no memory at any
abbrev pub ComesAt : ServeFault → List Act → Type 0
ComesAt (ServeFault.Disk a) rest = IsLogging a rest
ComesAt (ServeFault.Log a LogFault.LogFull) rest = IsLogging a rest
ComesAt (ServeFault.Log a fault) rest = ⊥
ComesAt (ServeFault.Boot a fault) rest = IsLogging a rest
ComesAt ServeFault.Link rest = IsAtLink rest
ComesAt ServeFault.Output rest = IsPrinting rest
ComesAt ServeFault.Serial rest = IsSending rest
ComesAt ServeFault.Memory rest = ⊤

-- ---- why a boot is refused

-- the epochs are used up, or cells lack for these facts or their boot
abbrev pub IsBootRefused : Cluster → List Fact → BootFault → Type 0
IsBootRefused cluster facts BootFault.Epochs = 2 ^ 32 - 1 ≤ epoch_of facts
IsBootRefused cluster facts (BootFault.Room needed all) = boot_of cluster (fact_payloads facts) ≡ Err (BootFault.Room needed all)
IsBootRefused cluster facts fault = ⊥

-- where the boot of a centre is refused it is by its facts
abbrev pub BootsRefused : Cluster → List Log → ServeFault → Type 0
BootsRefused cluster logs (ServeFault.Boot a fault) = AllByRecursion (λ log. log.centre ≡ a → IsBootRefused cluster log.facts fault) logs
BootsRefused cluster logs fault = ⊤

-- it is no boot
abbrev pub IsNoBoot : ServeFault → Type 0
IsNoBoot (ServeFault.Boot a fault) = ⊥
IsNoBoot fault = ⊤

-- ---- what it may leave

-- the facts that are being appended at a centre
abbrev pub next_facts : ℕ → List Act → List Fact
next_facts a (Act.Append centre facts ∷ acts) = if centre == a then facts else []
next_facts a _ = []

-- where a call of a disk failed, they may be in the log, all of them or none
abbrev pub in_flight : ServeFault → ℕ → List Act → List Fact
in_flight (ServeFault.Disk a) centre rest = next_facts centre rest
in_flight fault centre rest = []

-- a boot opens the log: where a call of its disk failed then, or there was no memory, no byte is torn to 1
abbrev pub IsSafeIn : (ℕ → Type 0) → List Act → Type 0
IsSafeIn tears (Act.Append centre (Fact.Booted epoch ∷ more) ∷ acts) = tears 1 → ⊥
IsSafeIn tears _ = ⊤

abbrev pub IsSafeAt : (ℕ → Type 0) → ServeFault → List Act → Type 0
IsSafeAt tears (ServeFault.Disk a) rest = IsSafeIn tears rest
IsSafeAt tears ServeFault.Memory rest = IsSafeIn tears rest
IsSafeAt tears fault rest = ⊤

-- where a call of the link failed, it is recorded
abbrev pub failed_next : List Act → List LinkCall
failed_next (act ∷ acts) = failed_call act
failed_next [] = []

abbrev pub failed_by : ServeFault → List Act → List LinkCall
failed_by ServeFault.Link rest = failed_next rest
failed_by fault rest = []

-- where a write failed, a front of the line may be printed
abbrev pub next_line_text : List Act → List ℕ
next_line_text (act ∷ acts) = printed_by act
next_line_text [] = []

abbrev pub text_begun : ServeFault → List Act → List ℕ
text_begun ServeFault.Output rest = next_line_text rest
text_begun fault rest = []
