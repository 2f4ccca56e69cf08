-- Logs that stand as they were where a server ends before its first turn.
use Rattle.std.specs.Prelude.{Err, List, Ok, Option, Result, [], ⊤, ℕ, ◌+◌, ◌++◌, ◌<◌, ◌∷◌, ◌≡◌, ◌≤◌, ◌⊎◌}
use Rattle.mdcc_node_log.specs.Nodes.{facts_at_boot}
use Rattle.mdcc_node_log.specs.Starting.{AreasStand}
use Rattle.mdcc_disks.specs.Disks.{Disk, Only}
use Rattle.mdcc_command_endings.specs.Logs.{AreAreasTold}
use Rattle.mdcc_link.specs.Link.{LinkCall}
use Rattle.mdcc_log_file.specs.Area.{payloads}
use Rattle.mdcc_log_file.specs.declared.fault.LogFault.{LogFault}
use Rattle.mdcc_def_messages.specs.Spelling.{fact_bytes}
use Rattle.mdcc_def_messages.specs.declared.facts.Fact.{Fact}
use Rattle.mdcc_option.specs.declared.cluster.Cluster.{Cluster}
use Rattle.mdcc_def_rules.specs.Boot.{next_boot}
use Rattle.mdcc_def_server_runs.specs.Servers.{Log}
use Rattle.mdcc_serve.specs.Serving.{IsServedLog}
use Rattle.mdcc_serve_site.specs.Room.{HasNoRoom}
use Rattle.mdcc_serve_site.specs.declared.fault.ServeFault.{ServeFault}

-- a log is refused: areas are none, or their payloads give no node
abbrev pub IsLogRefused : ServeFault → Type 0
IsLogRefused (ServeFault.Log a (LogFault.NotALog offset)) = ⊤
IsLogRefused (ServeFault.Boot a why) = ⊤
IsLogRefused fault = ⊥

-- something stands unless a call of a disk failed
abbrev pub UnlessDiskFault : ServeFault → Type 0 → Type 0
UnlessDiskFault (ServeFault.Disk a) P = ⊤
UnlessDiskFault fault P = P

-- read are the payloads, or these and the boot of the node that they give
abbrev pub MayHaveBoot : Cluster → List (List ℕ) → Result (List (List ℕ)) ℕ → Type 0
MayHaveBoot cluster all read =
    (read ≡ Ok all) ⊎ ((boot : Fact) × (facts : List Fact) × (facts_at_boot cluster all ≡ Ok (boot ∷ facts)) × (read ≡ Ok (all ++ fact_bytes boot ∷ [])))

module _ {D : Type 0} (disk : D → ℕ → Disk) (may_leave : D → ℕ → List ℕ → Type 0) (tears : ℕ → Type 0) (cluster : Cluster) (old new : D) where
  -- The log of a centre has the payloads that it had, with or without its own new boot; areas that are no log have the bytes that they
  -- had. Of a log that was durable so much is read of whatever a crash leaves, on disks that tear no byte to 1.
  pub record LogStays (a : ℕ) : Type 0 where
    pub read : (all : List (List ℕ)) → AreAreasTold disk old a → payloads (disk old a).bytes (disk old (a + 16)).bytes ≡ Ok all
        → MayHaveBoot cluster all (payloads (disk new a).bytes (disk new (a + 16)).bytes)
    pub crash : (all : List (List ℕ)) (first second : List ℕ) → (tears 1 → ⊥) → AreAreasTold disk old a
        → Only (disk old a).bytes (may_leave old a) → Only (disk old (a + 16)).bytes (may_leave old (a + 16))
        → payloads (disk old a).bytes (disk old (a + 16)).bytes ≡ Ok all → may_leave new a first → may_leave new (a + 16) second
        → MayHaveBoot cluster all (payloads first second)
    pub unread : (offset : ℕ) → AreAreasTold disk old a → payloads (disk old a).bytes (disk old (a + 16)).bytes ≡ Err offset → AreasStand a disk old new

  -- so do those of several centres, up to this number
  abbrev pub AllStay : ℕ → ℕ → Type 0
  AllStay first end = (a : ℕ) → first ≤ a → a < end → LogStays a

-- No call of the link was made, nothing was printed, and the logs of all centres that were to be served stand.
pub record HasRefused {D L O : Type 0} (disk : D → ℕ → Disk) (may_leave : D → ℕ → List ℕ → Type 0) (tears : ℕ → Type 0) (calls : L → Option (List LinkCall)) (lost : L → ℕ) (cluster : Cluster) (first end : ℕ) (disks_old disks_new : D) (link_old link_new : L) (out_old out_new : O) : Type 0 where
  pub link : calls link_new ≡ calls link_old
  pub sends : lost link_new ≡ lost link_old
  pub output : out_new ≡ out_old
  pub logs : AllStay disk may_leave tears cluster disks_old disks_new first end

-- the log of a centre, with facts that it may have added, is said to be full only where it has no room for its boot
abbrev pub OnFullBoot : {D : Type 0} → (D → ℕ → Disk) → (D → ℕ → List ℕ → Type 0) → ℕ → Cluster → D → D → ServeFault → Type 0
OnFullBoot disk may_leave every cluster old new (ServeFault.Log a LogFault.LogFull) =
    (log : Log) → log.centre ≡ a → IsServedLog disk cluster old log → HasNoRoom disk may_leave every new log.centre (next_boot log.facts ∷ [])
OnFullBoot disk may_leave every cluster old new fault = ⊤

-- No call of the link was made and nothing was printed. The logs of all centres that were to be served stand, unless a call of a disk
-- failed.
pub record NeverServed {D L O : Type 0} (disk : D → ℕ → Disk) (may_leave : D → ℕ → List ℕ → Type 0) (tears : ℕ → Type 0) (every : ℕ) (calls : L → Option (List LinkCall)) (lost : L → ℕ) (cluster : Cluster) (first end : ℕ) (disks_old disks_new : D) (link_old link_new : L) (out_old out_new : O) (fault : ServeFault) : Type 0 where
  pub link : calls link_new ≡ calls link_old
  pub sends : lost link_new ≡ lost link_old
  pub output : out_new ≡ out_old
  pub logs : UnlessDiskFault fault (AllStay disk may_leave tears cluster disks_old disks_new first end)
  pub full : OnFullBoot disk may_leave every cluster disks_old disks_new fault
