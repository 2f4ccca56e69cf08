-- A log that has no room for the facts that are to be appended.
use Rattle.std.specs.Prelude.{IsTrue, List, map, ⊤, ℕ, ◌∷◌, ◌≡◌}
use Rattle.mdcc_log.specs.AtRest.{IsAtRest}
use Rattle.mdcc_log.specs.Frames.{OpenAreas}
use Rattle.mdcc_log.specs.Groups.{AreFull}
use Rattle.mdcc_log_file.specs.declared.fault.LogFault.{LogFault}
use Rattle.mdcc_disks.specs.Disks.{Disk}
use Rattle.mdcc_def_messages.specs.Spelling.{encodings_of, fact_bytes}
use Rattle.mdcc_def_messages.specs.declared.facts.Fact.{Fact}
use Rattle.mdcc_def_server_runs.specs.Acts.{Act}
use Rattle.mdcc_serve_site.specs.declared.fault.ServeFault.{ServeFault}

module _ {D : Type 0} (disk : D → ℕ → Disk) (may_leave : D → ℕ → List ℕ → Type 0) (every : ℕ) (disks : D) where
  -- The open log of a centre, as it stands on its disks, has no room for these facts: with them the area in use, or a copy of all that is
  -- due then, after so many frames, would pass the limit of a log, or all facts would as a file of version 1.
  pub record HasNoRoom (centre : ℕ) (more : List Fact) : Type 0 where
    pub facts : List Fact
    pub log : OpenAreas
    pub of : log.centre ≡ centre
    pub often : log.every ≡ every
    pub at_rest : IsAtRest disk may_leave disks log (encodings_of facts)
    pub full : AreFull log (map fact_bytes more)

  -- where it tells its bytes, so is the log for the facts that come next
  abbrev pub LacksRoom : List Act → Type 0
  LacksRoom (Act.Append centre facts ∷ acts) = IsTrue (disk disks centre).told → HasNoRoom centre facts
  LacksRoom acts = ⊤

  -- a log is said to be full only where it has no room for the facts that come next
  abbrev pub OnFull : ServeFault → List Act → Type 0
  OnFull (ServeFault.Log a LogFault.LogFull) rest = LacksRoom rest
  OnFull fault rest = ⊤
