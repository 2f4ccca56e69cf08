-- What the acts of a server leave in the logs.
use Rattle.std.specs.Prelude.{List, Ok, length, ℕ, ◌+◌, ◌<◌, ◌≡◌, ◌⊎◌}
use Rattle.mdcc_log_file.specs.Area.{AreaLog, payloads, payloads_of, read_areas}
use Rattle.mdcc_disks.specs.Disks.{Disk, Only}
use Rattle.mdcc_def_messages.specs.declared.facts.Fact.{Fact}
use Rattle.mdcc_def_server_runs.specs.Acts.{Act, facts_appended}
use Rattle.mdcc_def_messages.specs.Spelling.{encodings_of}
pub use Rattle.mdcc_node_log.specs.Logged.{with_facts}

-- the facts of a centre after these acts
abbrev pub facts_after : ℕ → List Fact → List Act → List Fact
facts_after centre facts acts = with_facts facts (facts_appended centre acts)

-- the log of a centre has these facts
abbrev pub HasFacts : {D : Type 0} → (D → ℕ → Disk) → D → ℕ → List Fact → Type 0
HasFacts disk disks centre facts = payloads (disk disks centre).bytes (disk disks (centre + 16)).bytes ≡ Ok (encodings_of facts)

module _ {D : Type 0} (disk : D → ℕ → Disk) (may_leave : D → ℕ → List ℕ → Type 0) (every : ℕ) (disks : D) (centre : ℕ) where
  -- The log of a centre has these facts, all of them durable, and no checkpoint is due: its tail has fewer frames than make it so.
  pub record KeepsFacts (facts : List Fact) : Type 0 where
    pub log : AreaLog
    pub read : read_areas (disk disks centre).bytes (disk disks (centre + 16)).bytes ≡ Ok log
    pub facts_themselves : payloads_of log ≡ encodings_of facts
    pub short : length log.tail < every
    pub durable : Only (disk disks centre).bytes (may_leave disks centre)
    pub durable_other : Only (disk disks (centre + 16)).bytes (may_leave disks (centre + 16))

module _ {D : Type 0} (disk : D → ℕ → Disk) (may_leave : D → ℕ → List ℕ → Type 0) (disks : D) (centre : ℕ) where
  -- after a crash it has these facts, or these and all the next ones
  abbrev pub MayHaveFacts : List Fact → List Fact → Type 0
  MayHaveFacts facts next =
      (first second : List ℕ) → may_leave disks centre first → may_leave disks (centre + 16) second
      → (payloads first second ≡ Ok (encodings_of facts)) ⊎ (payloads first second ≡ Ok (encodings_of (with_facts facts next)))
