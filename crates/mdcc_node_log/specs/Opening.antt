-- What a look into a log does.
use Rattle.std.specs.List.{AllByRecursion}
use Rattle.std.specs.Prelude.{Err, IsTrue, List, Ok, Result, is_some, ⊤, ℕ, ◌+◌, ◌≡◌}
use Rattle.mdcc_node_boot.specs.Loading.{fact_read}
use Rattle.mdcc_log_file.specs.Area.{payloads}
use Rattle.mdcc_log.specs.Opening.{OpensOne}
use Rattle.mdcc_log_file.specs.declared.fault.LogFault.{LogFault}
use Rattle.mdcc_disks.specs.Disks.{Disk, Only}
use Rattle.mdcc_node_log.specs.Nodes.{facts_at_boot}
use Rattle.mdcc_node_log.specs.declared.fault.StartFault.{StartFault}
use Rattle.mdcc_def_messages.specs.declared.facts.Fact.{Fact}
use Rattle.mdcc_option.specs.declared.cluster.Cluster.{Cluster}
use Rattle.mdcc_def_rules.specs.declared.node.BootFault.{BootFault}

-- ---- the node of a log

abbrev pub HasBooted : Cluster → List (List ℕ) → Type 0
HasBooted cluster payloads = (facts : List Fact) × (facts_at_boot cluster payloads ≡ Ok facts)

-- each payload is a fact
abbrev pub AreFacts : List (List ℕ) → Type 0
AreFacts payloads = AllByRecursion (λ payload. IsTrue (is_some (fact_read payload))) payloads

-- why a log of these payloads gives no node; a disk may fail at any time
abbrev pub GivesNone : Cluster → List (List ℕ) → StartFault → Type 0
GivesNone cluster payloads (StartFault.Log LogFault.DiskFault) = ⊤
GivesNone cluster payloads (StartFault.Boot BootFault.Memory) = ⊥
GivesNone cluster payloads (StartFault.Boot fault) = facts_at_boot cluster payloads ≡ Err fault
GivesNone cluster payloads fault = ⊥

-- the same, or memory lacked
abbrev pub IsUnbooted : Cluster → List (List ℕ) → StartFault → Type 0
IsUnbooted cluster payloads StartFault.Memory = ⊤
IsUnbooted cluster payloads fault = GivesNone cluster payloads fault

-- the faults of a log that may come
abbrev pub IsOpeningFault : StartFault → Type 0
IsOpeningFault (StartFault.Log LogFault.LogFull) = ⊥
IsOpeningFault (StartFault.Log LogFault.Memory) = ⊥
IsOpeningFault (StartFault.Boot BootFault.Memory) = ⊥
IsOpeningFault fault = ⊤

-- something is kept unless a disk failed
abbrev pub StandsUnlessDisk : {T : Type 0} → Result T StartFault → Type 0 → Type 0
StandsUnlessDisk (Err (StartFault.Log LogFault.DiskFault)) kept = ⊤
StandsUnlessDisk result kept = kept

-- ---- at its disks

module _ {D : Type 0} (disk : D → ℕ → Disk) (may_leave : D → ℕ → List ℕ → Type 0) (moment : D → ℕ) (left_since : D → ℕ → ℕ → List ℕ → Type 0) (tears : ℕ → Type 0) where
  -- Where no byte is torn to 1, a crash at any moment since old leaves the payloads of the log of this centre, all of which were durable.
  abbrev pub StaysAsLog : D → D → ℕ → Type 0
  StaysAsLog old new a =
      (all : List (List ℕ)) (current other : List ℕ) → (tears 1 → ⊥) → IsTrue (disk old a).told → IsTrue (disk old (a + 16)).told
      → Only (disk old a).bytes (may_leave old a) → Only (disk old (a + 16)).bytes (may_leave old (a + 16))
      → payloads (disk old a).bytes (disk old (a + 16)).bytes ≡ Ok all
      → left_since new a (moment old) current → left_since new (a + 16) (moment old) other
      → payloads current other ≡ Ok all

  -- At both areas of this centre the calls of an opening were made, a front of them, and all of them at Ok.
  abbrev pub OnlyOpens : {T E : Type 0} → D → D → ℕ → Result T E → Type 0
  OnlyOpens old new a result =
      IsTrue (disk old a).told → IsTrue (disk old (a + 16)).told
      → OpensOne disk may_leave moment left_since tears old new a 0 (disk old a).bytes (disk old (a + 16)).bytes result
      × OpensOne disk may_leave moment left_since tears old new (a + 16) 1 (disk old a).bytes (disk old (a + 16)).bytes result
