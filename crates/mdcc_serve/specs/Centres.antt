-- Several centres that are served, in ascending order.
use Rattle.std.specs.List.{AllByRecursion}
use Rattle.std.specs.Prelude.{Bool, Err, IsTrue, List, Ok, Option, Result, [], length, slice_index_or, slice_set, ⊤, ℕ, ◌++◌, ◌<◌, ◌∷◌, ◌≡◌, ◌≤◌}
use Rattle.mdcc_base.specs.Counts.{sum_over}
use Rattle.mdcc_config.specs.declared.config.Config.{Config}
use Rattle.mdcc_option.specs.declared.cluster.Cluster.{Cluster}
use Rattle.mdcc_def_server_runs.specs.Acts.{Act}
use Rattle.mdcc_def_server_runs.specs.Sending.{persist_then_send}
use Rattle.mdcc_def_server_runs.specs.Servers.{Server, persist_all_then_send, turns_of}
use Rattle.mdcc_def_server_runs.specs.Sites.{Doing, Site}
use Rattle.mdcc_def_server_runs.specs.Turns.{Given, turn_of}
use Rattle.mdcc_serve.specs.Others.{KeepsElsewhere}
use Rattle.mdcc_serve.specs.Stages.{InPart, MidEnd, MidTurn, after_these}
use Rattle.mdcc_serve_site.specs.Causes.{IsNoBoot, in_flight}
use Rattle.mdcc_serve_site.specs.Logs.{MayHaveFacts, facts_after}
use Rattle.mdcc_serve_site.specs.Moments.{Broke, Did, Moment, Outside}
use Rattle.mdcc_serve_site.specs.SiteState.{Goes, HoldsSite, IsServed, OnSerial, place}
use Rattle.mdcc_serve_site.specs.Waiting.{MayWait}
use Rattle.mdcc_serve_site.specs.declared.fault.ServeFault.{ServeFault}
use Rattle.mdcc_serve_site.specs.declared.site.Site.{Site as TheSite}

-- the centres, with the disks, the link and the output
pub record Places (D L O : Type 0) : Type 0 where
  pub disks : D
  pub held : List TheSite
  pub link : L
  pub out : O

abbrev pub places : {D L O : Type 0} → D → List TheSite → L → O → Places D L O
places disks held link out = record { disks = disks; held = held; link = link; out = out }

-- what is seen of them: their counts are added
abbrev pub all_seen : {D L O : Type 0} → Places D L O → Moment D L O
all_seen at = record {
  disks = at.disks;
  link = at.link;
  out = at.out;
  steps = sum_over (λ held. held.steps) at.held;
  dropped = sum_over (λ held. held.dropped) at.held;
  lost = sum_over (λ held. held.sender.lost) at.held;
}

-- the numbers of the centres ascend, so that no two have a disk in common
abbrev pub Ascend : ℕ → List Site → Type 0
Ascend below [] = ⊤
Ascend below (site ∷ sites) = (below < site.centre) × (site.centre ≤ 9) × Ascend site.centre sites

module _ {D L O : Type 0} (w : Outside D L O) where
  -- what is held are these centres
  abbrev pub HoldSites : Cluster → D → List TheSite → List Site → Type 0
  HoldSites cluster disks [] [] = ⊤
  HoldSites cluster disks (held ∷ more) (site ∷ sites) = HoldsSite w cluster disks held site × HoldSites cluster disks more sites
  HoldSites cluster disks _ _ = ⊥

  abbrev pub AllTold : D → List Site → Type 0
  AllTold disks sites = AllByRecursion (λ site. IsTrue (w.disk disks site.centre).told) sites

  -- the log of each has its facts and those that were appended, or where a call of its disk failed perhaps those that were being appended
  abbrev pub AllLogs : List Site → ServeFault → D → D → List Act → List Act → Type 0
  AllLogs sites fault old new acts rest =
      AllByRecursion (λ site. IsTrue (w.disk old site.centre).told
      → MayHaveFacts w.disk w.may_leave new site.centre (facts_after site.centre site.logged acts) (in_flight fault site.centre rest)) sites

  pub record AllServed (cluster : Cluster) (disks : D) (held : List TheSite) : Type 0 where
    pub sites : List Site
    pub stand : HoldSites cluster disks held sites
    pub ascend : Ascend 0 sites

  -- these centres did all that they were to do
  pub record AllFinish (cluster : Cluster) (sites : List Site) (server : Server) (old new : Places D L O) : Type 0 where
    pub did : Did w server.acts (all_seen old) (all_seen new)
    pub stand : HoldSites cluster new.disks new.held server.sites
    pub others : KeepsElsewhere w.disk w.may_leave sites old.disks new.disks

  -- These centres ended before, in the part of one of them, when these acts before it were done.
  pub record AllStop (sites : List Site) (before : List Act) (doing : Doing) (fault : ServeFault) (old new : Places D L O) : Type 0 where
    pub broke : Broke w (AllTold old.disks sites) (λ acts rest. AllLogs sites fault old.disks new.disks acts rest × InPart before doing.acts acts rest) (before ++ doing.acts) fault (all_seen old) (all_seen new)
    pub serials : OnSerial fault doing.site.sent
    pub no_boot : IsNoBoot fault
    pub others : KeepsElsewhere w.disk w.may_leave sites old.disks new.disks

  -- ---- a turn of all of them

  -- each had its own
  pub record TurnMade (config : Config) (sites : List Site) (old new : Places D L O) : Type 0 where
    pub given : List Given
    pub as_many : length given ≡ length sites
    pub finish : AllFinish config.cluster sites (turns_of config sites given) old new

  -- one ended in its own
  pub record TurnStops (config : Config) (sites : List Site) (fault : ServeFault) (old new : Places D L O) : Type 0 where
    pub at : MidTurn sites
    pub stop : AllStop sites (turns_of config at.front at.earlier).acts (turn_of config at.site at.given) fault old new

  abbrev pub HaveTurn : Config → List Site → Result (Unit {0}) ServeFault → Places D L O → Places D L O → Type 0
  HaveTurn config sites (Ok done) old new = TurnMade config sites old new
  HaveTurn config sites (Err fault) old new = TurnStops config sites fault old new

  -- ---- so many turns

  -- all were made
  pub record TurnsMade (config : Config) (sites : List Site) (turns : ℕ) (old new : Places D L O) : Type 0 where
    pub given : List (List Given)
    pub made : length given ≡ turns
    pub each : AllByRecursion (λ turn. length turn ≡ length sites) given
    pub finish : AllFinish config.cluster sites (after_these config sites given) old new

  -- one ended in a turn after these
  pub record TurnsStop (config : Config) (sites : List Site) (turns : ℕ) (fault : ServeFault) (old new : Places D L O) : Type 0 where
    pub given : List (List Given)
    pub fewer : length given < turns
    pub each : AllByRecursion (λ turn. length turn ≡ length sites) given
    pub at : MidTurn (after_these config sites given).sites
    pub stop : AllStop sites ((after_these config sites given).acts ++ (turns_of config at.front at.earlier).acts) (turn_of config at.site at.given) fault old new

  abbrev pub HaveTurns : Config → List Site → ℕ → Result (Unit {0}) ServeFault → Places D L O → Places D L O → Type 0
  HaveTurns config sites turns (Ok done) old new = TurnsMade config sites turns old new
  HaveTurns config sites turns (Err fault) old new = TurnsStop config sites turns fault old new

  -- ---- what is pending after the last turn

  -- it did not all go out
  pub record EndStops (config : Config) (sites : List Site) (fault : ServeFault) (old new : Places D L O) : Type 0 where
    pub at : MidEnd sites
    pub stop : AllStop sites (persist_all_then_send config at.front).acts (persist_then_send config at.site) fault old new

  abbrev pub HaveEnded : Config → List Site → Result (Unit {0}) ServeFault → Places D L O → Places D L O → Type 0
  HaveEnded config sites (Ok done) old new = AllFinish config.cluster sites (persist_all_then_send config sites) old new
  HaveEnded config sites (Err fault) old new = EndStops config sites fault old new

  -- ---- one of them

  -- a centre that is served is held at this index
  pub record IsServedAt (cluster : Cluster) (disks : D) (held : List TheSite) (index : ℕ) : Type 0 where
    pub one : TheSite
    pub is : (d : TheSite) → slice_index_or held index d ≡ one
    pub served : IsServed w cluster disks one

  -- It had its turn, and is held there afterwards; more was said to wait only where the link, as it is now, may have something for it.
  pub record TurnsAt (waiting : L → ℕ → Option Bool) (config : Config) (one : TheSite) (site : Site) (index : ℕ) (result : Result (Unit {0}) ServeFault) (old new : Places D L O) : Type 0 where
    pub given : Given
    pub next : TheSite
    pub held : new.held ≡ slice_set old.held index next
    pub goes : Goes w config.cluster site (turn_of config site given) result (place old.disks one old.link old.out) (place new.disks next new.link new.out)
    pub waits : MayWait (waiting new.link) site.centre given.waits

  -- what was pending there went out, and it is held there afterwards
  pub record PersistsAt (config : Config) (one : TheSite) (site : Site) (index : ℕ) (result : Result (Unit {0}) ServeFault) (old new : Places D L O) : Type 0 where
    pub next : TheSite
    pub held : new.held ≡ slice_set old.held index next
    pub goes : Goes w config.cluster site (persist_then_send config site) result (place old.disks one old.link old.out) (place new.disks next new.link new.out)
