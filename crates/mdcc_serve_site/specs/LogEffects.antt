-- What logging facts does.
use Rattle.std.specs.List.{AllByRecursion}
use Rattle.std.specs.Prelude.{Err, IsTrue, List, Ok, Result, map, ⊤, ℕ, ◌+◌, ◌≡◌}
use Rattle.mdcc_log_file.specs.Both.{RoseAtOne}
use Rattle.mdcc_log.specs.Frames.{OpenAreas}
use Rattle.mdcc_log_file.specs.declared.fault.LogFault.{LogFault}
use Rattle.mdcc_disks.specs.Disks.{Disk}
use Rattle.mdcc_def_messages.specs.Spelling.{fact_bytes}
use Rattle.mdcc_def_messages.specs.declared.facts.Fact.{Fact}
use Rattle.mdcc_def_server_runs.specs.Sending.{facts_logged}
use Rattle.mdcc_serve_site.specs.Causes.{IsNoBoot, in_flight}
use Rattle.mdcc_serve_site.specs.Logs.{MayHaveFacts, with_facts}
use Rattle.mdcc_serve_site.specs.Moments.{DiskPasses, KeepsOthers, MayComeAt}
use Rattle.mdcc_serve_site.specs.Room.{OnFull}
use Rattle.mdcc_serve_site.specs.SiteState.{HoldsLog, IsShortFact}
use Rattle.mdcc_serve_site.specs.declared.fault.ServeFault.{ServeFault}

-- a fault of a log as a server's
abbrev pub log_fault_of : ℕ → LogFault → ServeFault
log_fault_of centre LogFault.DiskFault = ServeFault.Disk centre
log_fault_of centre LogFault.Memory = ServeFault.Memory
log_fault_of centre fault = ServeFault.Log centre fault

-- these are the bytes of facts that fit into a log
abbrev pub AreShortFacts : List (List ℕ) → Type 0
AreShortFacts payloads = (facts : List Fact) × (payloads ≡ map fact_bytes facts) × AllByRecursion IsShortFact facts

module _ {D : Type 0} (disk : D → ℕ → Disk) (may_leave : D → ℕ → List ℕ → Type 0) where
  abbrev pub CausedOn : ServeFault → D → D → Type 0
  CausedOn (ServeFault.Disk a) old new = RoseAtOne (disk old a) (disk new a) (disk old (a + 16)) (disk new (a + 16))
  CausedOn fault old new = ⊤

  pub record HasLogged (every centre : ℕ) (facts more : List Fact) (old new : D) (log : OpenAreas) : Type 0 where
    pub stands : HoldsLog disk may_leave every new log centre (with_facts facts more)
    pub passes : DiskPasses disk may_leave old new
    pub others : KeepsOthers disk may_leave centre old new

  pub record FailsToLog (every centre : ℕ) (facts more : List Fact) (fault : ServeFault) (old new : D) : Type 0 where
    pub comes : MayComeAt (IsTrue (disk old centre).told) fault (facts_logged centre more)
    pub no_boot : IsNoBoot fault
    pub cause : CausedOn fault old new
    pub full : OnFull disk may_leave every new fault (facts_logged centre more)
    pub log : IsTrue (disk old centre).told → MayHaveFacts disk may_leave new centre facts (in_flight fault centre (facts_logged centre more))
    pub passes : DiskPasses disk may_leave old new
    pub others : KeepsOthers disk may_leave centre old new

  -- the log of a centre, of which a checkpoint is due after so many frames, has these facts and these more, or it is said why not and what it may have then
  abbrev pub Logs : ℕ → ℕ → List Fact → List Fact → Result (Unit {0}) ServeFault → D → D → OpenAreas → Type 0
  Logs every centre facts more (Ok done) old new log = HasLogged every centre facts more old new log
  Logs every centre facts more (Err fault) old new log = FailsToLog every centre facts more fault old new
