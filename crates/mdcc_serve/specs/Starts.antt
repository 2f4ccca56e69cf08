-- What the start of a centre does, and that of several.
use Rattle.std.specs.List.{AllByRecursion}
use Rattle.std.specs.Prelude.{List, [], length, ⊤, ℕ, ◌+◌, ◌++◌, ◌∷◌, ◌≡◌, ◌≤◌, ◌⊎◌}
use Rattle.mdcc_disks.specs.Disks.{Disk, Within}
use Rattle.mdcc_node_log.specs.Nodes.{CentreStore, IsNodeOf}
use Rattle.mdcc_def_messages.specs.Spelling.{encodings_of}
use Rattle.mdcc_def_messages.specs.declared.facts.Fact.{Fact}
use Rattle.mdcc_node.specs.declared.node.Node.{Node}
use Rattle.mdcc_option.specs.declared.cluster.Cluster.{Cluster}
use Rattle.mdcc_def_protocol.specs.Facts.{epoch_of}
use Rattle.mdcc_def_protocol.specs.Volatile.{initial_volatile}
use Rattle.mdcc_node_log.specs.Logged.{AreLogged}
use Rattle.mdcc_node_log.specs.declared.fault.StartFault.{StartFault}
use Rattle.mdcc_node_log.specs.declared.starting.Running.{Running}
use Rattle.mdcc_def_rules.specs.Boot.{next_boot}
use Rattle.mdcc_def_rules.specs.declared.node.BootFault.{BootFault}
use Rattle.mdcc_def_server_runs.specs.Acts.{Act}
use Rattle.mdcc_def_server_runs.specs.Servers.{Log, site_of, starts}
use Rattle.mdcc_serve.specs.Others.{KeepsElsewhere, KeepsUnserved}
use Rattle.mdcc_serve.specs.Serving.{AreLogsOf, IsDurable, IsServedLog}
use Rattle.mdcc_serve.specs.Stays.{LogStays, UnlessDiskFault}
use Rattle.mdcc_serve_site.specs.Causes.{BootsRefused, ComesAt, IsBootRefused, IsSafeAt, in_flight}
use Rattle.mdcc_serve_site.specs.LogEffects.{CausedOn, log_fault_of}
use Rattle.mdcc_serve_site.specs.Logs.{MayHaveFacts, facts_after}
use Rattle.mdcc_serve_site.specs.Moments.{DiskPasses, KeepsOthers}
use Rattle.mdcc_serve_site.specs.Room.{OnFull}
use Rattle.mdcc_serve_site.specs.SiteState.{HoldsLog, IsSite}
use Rattle.mdcc_serve_site.specs.declared.fault.ServeFault.{ServeFault}
use Rattle.mdcc_serve_site.specs.declared.site.Site.{Site as TheSite}
use Rattle.mdcc_theorem_node_steps.specs.NodeInvariant.{IsNode}

-- ---- its node

-- a fault of a boot as a server's
abbrev pub boot_fault_of : ℕ → BootFault → ServeFault
boot_fault_of centre BootFault.Memory = ServeFault.Memory
boot_fault_of centre fault = ServeFault.Boot centre fault

-- The node of a centre has the facts of these payloads and the next boot.
pub record GivesNode (cluster : Cluster) (centre : ℕ) (all : List (List ℕ)) (node : Node CentreStore) (boot : Fact) : Type 0 where
  pub facts : List Fact
  pub itself : IsNodeOf node cluster centre (next_boot facts ∷ facts) initial_volatile
  pub kept : IsNode cluster centre (next_boot facts ∷ facts) initial_volatile
  pub boot_is : boot ≡ next_boot facts
  pub payloads_are : all ≡ encodings_of facts
  -- where they are those of facts that it may have added, of these facts
  pub over : (before : List Fact) → AreLogged cluster before → all ≡ encodings_of before → facts ≡ before

-- They give none: there was no memory, or by their facts.
abbrev pub GivesNoServer : Cluster → ℕ → List (List ℕ) → ServeFault → Type 0
GivesNoServer cluster centre all fault =
    (fault ≡ ServeFault.Memory)
    ⊎ ((why : BootFault) × (fault ≡ ServeFault.Boot centre why) × ((before : List Fact) → AreLogged cluster before → all ≡ encodings_of before → IsBootRefused cluster before why))

-- a fault of a start as a server's
abbrev pub start_fault_of : ℕ → StartFault → ServeFault
start_fault_of centre (StartFault.Log fault) = log_fault_of centre fault
start_fault_of centre (StartFault.Boot fault) = boot_fault_of centre fault
start_fault_of centre StartFault.Memory = ServeFault.Memory

-- ---- its log

-- in what a start of a centre may end
abbrev pub IsOfStart : ℕ → ServeFault → Type 0
IsOfStart centre (ServeFault.Boot a fault) = a ≡ centre
IsOfStart centre ServeFault.Link = ⊥
IsOfStart centre ServeFault.Output = ⊥
IsOfStart centre ServeFault.Serial = ⊥
IsOfStart centre fault = ⊤

-- the next boot is appended
abbrev pub starting : Log → List Act
starting log = Act.Append log.centre (next_boot log.facts ∷ []) ∷ []

-- nothing was counted yet
pub record IsFresh (held : TheSite) : Type 0 where
  pub steps : held.steps ≡ 0
  pub dropped : held.dropped ≡ 0
  pub lost : held.sender.lost ≡ 0

module _ {D : Type 0} (disk : D → ℕ → Disk) (may_leave : D → ℕ → List ℕ → Type 0) (every : ℕ) where
  -- The node has the facts of its log and the next boot, and so has the open log, all of them durable. After so many frames a checkpoint
  -- of it is due.
  pub record IsRunning (tears : ℕ → Type 0) (cluster : Cluster) (centre : ℕ) (running : Running CentreStore) (old new : D) : Type 0 where
    pub facts : List Fact
    pub itself : IsNodeOf running.node cluster centre (next_boot facts ∷ facts) initial_volatile
    pub kept : IsNode cluster centre (next_boot facts ∷ facts) initial_volatile
    pub epoch : running.epoch ≡ epoch_of (next_boot facts ∷ facts)
    pub holds : HoldsLog disk may_leave every new running.log centre (next_boot facts ∷ facts)
    pub passes : DiskPasses disk may_leave old new
    pub others : KeepsOthers disk may_leave centre old new
    pub stays : LogStays disk may_leave tears cluster old new centre
    pub over : (before : Log) → before.centre ≡ centre → IsServedLog disk cluster old before → facts ≡ before.facts

  -- The centre runs, with the facts of its log and the new boot.
  pub record HasStarted (tears : ℕ → Type 0) (cluster : Cluster) (centre : ℕ) (held : TheSite) (old new : D) : Type 0 where
    pub log : Log
    pub of : log.centre ≡ centre
    pub itself : IsSite cluster held (site_of log)
    pub holds : HoldsLog disk may_leave every new held.log centre (next_boot log.facts ∷ log.facts)
    pub fresh : IsFresh held
    pub passes : DiskPasses disk may_leave old new
    pub others : KeepsOthers disk may_leave centre old new
    pub stays : LogStays disk may_leave tears cluster old new centre
    pub over : (before : Log) → before.centre ≡ centre → IsServedLog disk cluster old before → log ≡ before

  module _ (tears : ℕ → Type 0) where
    -- over a log of facts that it may have added
    pub record StopsOver (cluster : Cluster) (log : Log) (fault : ServeFault) (old new : D) : Type 0 where
      pub comes : ComesAt fault (starting log)
      pub boots : BootsRefused cluster (log ∷ []) fault
      pub full : OnFull disk may_leave every new fault (starting log)
      pub kept : IsDurable disk may_leave old log → IsSafeAt tears fault (starting log) → MayHaveFacts disk may_leave new log.centre log.facts (in_flight fault log.centre (starting log))

    -- It ended before.
    pub record FailsToStart (cluster : Cluster) (centre : ℕ) (fault : ServeFault) (old new : D) : Type 0 where
      pub of : IsOfStart centre fault
      pub cause : CausedOn disk may_leave fault old new
      pub passes : DiskPasses disk may_leave old new
      pub others : KeepsOthers disk may_leave centre old new
      pub stays : UnlessDiskFault fault (LogStays disk may_leave tears cluster old new centre)
      pub over : (log : Log) → log.centre ≡ centre → IsServedLog disk cluster old log → StopsOver cluster log fault old new

-- ---- several

-- their numbers follow one another
abbrev pub Follow : ℕ → List Log → Type 0
Follow n [] = ⊤
Follow n (log ∷ logs) = (log.centre ≡ n) × Follow (n + 1) logs

module _ {D : Type 0} (disk : D → ℕ → Disk) (may_leave : D → ℕ → List ℕ → Type 0) where
  -- nothing was done to the log of a centre
  pub record IsUntouched (old new : D) (centre : ℕ) : Type 0 where
    pub first : disk new centre ≡ disk old centre
    pub second : disk new (centre + 16) ≡ disk old (centre + 16)
    pub crash_first : Within (may_leave old centre) (may_leave new centre)
    pub crash_second : Within (may_leave old (centre + 16)) (may_leave new (centre + 16))

module _ {D : Type 0} (disk : D → ℕ → Disk) (may_leave : D → ℕ → List ℕ → Type 0) (every : ℕ) where
  -- what is held are the centres of these logs, each with the next boot
  abbrev pub AreHeld : Cluster → D → List TheSite → List Log → Type 0
  AreHeld cluster disks [] [] = ⊤
  AreHeld cluster disks (held ∷ more) (log ∷ logs) =
      (IsSite cluster held (site_of log) × HoldsLog disk may_leave every disks held.log log.centre (next_boot log.facts ∷ log.facts) × IsFresh held) × AreHeld cluster disks more logs
  AreHeld cluster disks _ _ = ⊥

  -- The centres from one number on run, so many as are held.
  pub record HaveStarted (cluster : Cluster) (first : ℕ) (held : List TheSite) (old new : D) : Type 0 where
    pub logs : List Log
    pub follow : Follow first logs
    pub as_many : length logs ≡ length held
    pub each : AreHeld cluster new held logs
    pub passes : DiskPasses disk may_leave old new
    pub later : (a : ℕ) → first + length held ≤ a → a ≤ 9 → IsUntouched disk may_leave old new a
    pub others : KeepsElsewhere disk may_leave (starts logs).sites old new
    -- the log of any centre has its facts and the boots that were appended, whatever a crash leaves
    pub kept : (log : Log) → log.centre ≤ 9 → IsServedLog disk cluster old log → IsDurable disk may_leave old log
        → MayHaveFacts disk may_leave new log.centre (facts_after log.centre log.facts (starts logs).acts) []
    pub over : (before : List Log) → Follow first before → AreLogsOf disk cluster old before → length held ≤ length before → (more : List Log) × (before ≡ logs ++ more)

  module _ (tears : ℕ → Type 0) where
    -- over logs of facts that they may have added: a prefix of the boots was appended, and this comes next
    pub record StopOver (cluster : Cluster) (logs : List Log) (fault : ServeFault) (old new : D) : Type 0 where
      pub done : List Log
      pub left : List Log
      pub are : logs ≡ done ++ left
      pub comes : ComesAt fault (starts left).acts
      pub boots : BootsRefused cluster logs fault
      pub full : OnFull disk may_leave every new fault (starts left).acts
      pub kept : AllByRecursion (IsDurable disk may_leave old) logs → IsSafeAt tears fault (starts left).acts
          → AllByRecursion (λ log. MayHaveFacts disk may_leave new log.centre (facts_after log.centre log.facts (starts done).acts) (in_flight fault log.centre (starts left).acts)) logs

    -- They ended before.
    pub record FailToStart (cluster : Cluster) (first count : ℕ) (fault : ServeFault) (old new : D) : Type 0 where
      pub at : ℕ
      pub of : IsOfStart at fault
      pub cause : CausedOn disk may_leave fault old new
      pub passes : DiskPasses disk may_leave old new
      pub others : KeepsUnserved disk may_leave first (first + count) old new
      pub over : (logs : List Log) → Follow first logs → length logs ≡ count → AreLogsOf disk cluster old logs → StopOver cluster logs fault old new
