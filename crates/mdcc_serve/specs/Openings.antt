-- Endpoints that are bound, and lines that are printed, before the first turn.
use Rattle.std.specs.Io.KnownBytes.{Appends}
use Rattle.std.specs.List.{AllByRecursion}
use Rattle.std.specs.Prelude.{Err, List, Ok, Option, Result, [], flat_map, length, take, ⊤, ℕ, ◌+◌, ◌++◌, ◌∷◌, ◌≡◌, ◌≤◌, ◌⊎◌}
use Rattle.mdcc_base.specs.Causes.{Rose}
use Rattle.mdcc_config.specs.IsConfig.{address_above}
use Rattle.mdcc_config.specs.declared.config.Config.{Config}
use Rattle.mdcc_link.specs.Link.{LinkCall}
use Rattle.mdcc_serve_outbox.specs.Shows.{Records, calls_of}
use Rattle.mdcc_def_server_runs.specs.Acts.{Act, printed}
use Rattle.mdcc_def_server_runs.specs.Servers.{Log, bound_at, opened}
use Rattle.mdcc_def_server_runs.specs.declared.lines.ServerLine.{ServerLine}
use Rattle.mdcc_serve.specs.Centres.{AllFinish, Ascend, Places, all_seen}
use Rattle.mdcc_serve.specs.Others.{KeepsUnserved}
use Rattle.mdcc_serve.specs.Serving.{AreLogsOf, IsDurable}
use Rattle.mdcc_serve.specs.Starts.{Follow}
use Rattle.mdcc_serve_site.specs.Causes.{BootsRefused, IsAtLink, IsPrinting, IsSafeAt, failed_next, in_flight, text_begun}
use Rattle.mdcc_serve_site.specs.Logs.{MayHaveFacts, facts_after}
use Rattle.mdcc_serve_site.specs.Moments.{Broke, Caused, Outside}
use Rattle.mdcc_serve_site.specs.SiteState.{OnSerial, PrintsAll}
use Rattle.mdcc_serve_site.specs.declared.fault.ServeFault.{ServeFault}
use Rattle.mdcc_serve_site.specs.declared.site.Site.{Site as TheSite}

-- the endpoints of a centre: its own, and then its client's
abbrev pub binds_of : Config → ℕ → List Act
binds_of config centre = bound_at centre (address_above config 0 centre) ++ bound_at (centre + 16) (address_above config 16 centre)

abbrev pub binds_of_all : Config → List TheSite → List Act
binds_of_all config sites = flat_map (λ site. binds_of config site.centre) sites

-- the boots of centres, by the epochs of what they send
abbrev pub boots_told : List TheSite → List Act
boots_told sites = flat_map (λ site. Act.Print (ServerLine.Booted site.centre site.sender.epoch) ∷ []) sites

module _ {L : Type 0} (calls : L → Option (List LinkCall)) (lost faults : L → ℕ) where
  pub record BindsAll (acts : List Act) (old new : L) : Type 0 where
    pub recorded : Records (calls_of acts) (calls old) (calls new)
    pub sends : lost new ≡ lost old
    pub later : faults old ≤ faults new

  -- a prefix of them was bound, and the next bind failed
  pub record BindsSome (acts : List Act) (fault : ServeFault) (old new : L) : Type 0 where
    pub is : fault ≡ ServeFault.Link
    pub done : List Act
    pub rest : List Act
    pub are : acts ≡ done ++ rest
    pub next : IsAtLink rest
    pub recorded : Records (calls_of done ++ failed_next rest) (calls old) (calls new)
    pub sends : lost new ≡ lost old
    pub later : faults old ≤ faults new
    pub rose : Rose (faults old) (faults new)

  abbrev pub Binds : List Act → Result (Unit {0}) ServeFault → L → L → Type 0
  Binds acts (Ok done) old new = BindsAll acts old new
  Binds acts (Err fault) old new = BindsSome acts fault old new

module _ {O : Type 0} (held : O → Option (List ℕ)) (faults : O → ℕ) where
  -- a prefix of the lines was printed, and of the next one a prefix of its bytes, or there was no memory
  pub record LinesSome (acts : List Act) (fault : ServeFault) (old new : O) : Type 0 where
    pub done : List Act
    pub rest : List Act
    pub are : acts ≡ done ++ rest
    pub comes : (fault ≡ ServeFault.Memory) ⊎ ((fault ≡ ServeFault.Output) × IsPrinting rest × Rose (faults old) (faults new))
    pub more : ℕ
    pub printed_some : Appends (held old) (held new) (printed done ++ take more (text_begun fault rest))
    pub later : faults old ≤ faults new

  abbrev pub Lines : List Act → Result (Unit {0}) ServeFault → O → O → Type 0
  Lines acts (Ok done) old new = PrintsAll held faults acts old new
  Lines acts (Err fault) old new = LinesSome acts fault old new

-- ---- all of it

module _ {D L O : Type 0} (w : Outside D L O) where
  -- Each centre from the first to the last has its log open, with its boot in it, and its endpoints, and its boot is told.
  pub record HasOpened (config : Config) (first last : ℕ) (old new : Places D L O) : Type 0 where
    pub logs : List Log
    pub follow : Follow first logs
    pub many : length logs + first ≡ last + 1
    pub finish : AllFinish w config.cluster (opened config logs).sites (opened config logs) old new
    pub ascend : Ascend 0 (opened config logs).sites
    pub over : (before : List Log) → Follow first before → length before + first ≡ last + 1 → AreLogsOf w.disk config.cluster old.disks before → logs ≡ before

  -- A log that was durable has its facts and those that were appended, or where a call of its disk failed perhaps those that were being
  -- appended too, whatever a crash leaves of it; where that is a boot, so it is on disks that tear no byte to 1.
  abbrev pub KeepLogs : (ℕ → Type 0) → List Log → ServeFault → D → D → List Act → List Act → Type 0
  KeepLogs tears logs fault old new acts rest =
      AllByRecursion (IsDurable w.disk w.may_leave old) logs → IsSafeAt tears fault rest
      → AllByRecursion (λ log. MayHaveFacts w.disk w.may_leave new log.centre (facts_after log.centre log.facts acts) (in_flight fault log.centre rest)) logs

  -- over logs of facts that they may have added: a prefix of the acts was done, and this comes next
  pub record StopsOpening (tears : ℕ → Type 0) (config : Config) (logs : List Log) (fault : ServeFault) (old new : Places D L O) : Type 0 where
    pub broke : Broke w ⊤ (KeepLogs tears logs fault old.disks new.disks) (opened config logs).acts fault (all_seen old) (all_seen new)
    pub boots : BootsRefused config.cluster logs fault

  -- It ended before.
  pub record FailsToOpen (tears : ℕ → Type 0) (config : Config) (first last : ℕ) (fault : ServeFault) (old new : Places D L O) : Type 0 where
    pub cause : Caused w fault (all_seen old) (all_seen new)
    pub serials : OnSerial fault 0
    pub others : KeepsUnserved w.disk w.may_leave first (last + 1) old.disks new.disks
    pub over : (logs : List Log) → Follow first logs → length logs + first ≡ last + 1 → AreLogsOf w.disk config.cluster old.disks logs → StopsOpening tears config logs fault old new
