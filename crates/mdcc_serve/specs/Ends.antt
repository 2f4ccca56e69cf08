-- How a server ends after its turns, with the line that tells how many they were.
use Rattle.std.specs.List.{AllByRecursion}
use Rattle.std.specs.Prelude.{Err, List, Ok, Result, [], length, ℕ, ◌++◌, ◌<◌, ◌^◌, ◌∷◌, ◌≡◌, ◌⊎◌}
use Rattle.mdcc_config.specs.declared.config.Config.{Config}
use Rattle.mdcc_def_server_runs.specs.Acts.{Act}
use Rattle.mdcc_def_server_runs.specs.Sending.{persist_then_send}
use Rattle.mdcc_def_server_runs.specs.Servers.{after_last, persist_all_then_send}
use Rattle.mdcc_def_server_runs.specs.Sites.{Site}
use Rattle.mdcc_def_server_runs.specs.Turns.{Given}
use Rattle.mdcc_serve.specs.Centres.{AllFinish, AllStop, Places, TurnsStop, places}
use Rattle.mdcc_serve.specs.Stages.{MidEnd, after_these}
use Rattle.mdcc_serve.specs.Totals.{counts_of, done_of}
use Rattle.mdcc_serve.specs.declared.served.Served.{Served}
use Rattle.mdcc_serve_site.specs.Moments.{Outside}
use Rattle.mdcc_serve_site.specs.SiteState.{PrintsAll, PrintsSome}
use Rattle.mdcc_serve_site.specs.declared.fault.ServeFault.{ServeFault}
use Rattle.mdcc_serve_site.specs.declared.site.Site.{Site as TheSite}

-- the serials of each fit
abbrev pub SerialsFit : List TheSite → Type 0
SerialsFit held = AllByRecursion (λ h. h.sender.sent < 2 ^ 32) held

-- the last line
abbrev pub last_act : ℕ → List TheSite → List Act
last_act turns held = Act.Print (done_of (counts_of turns held)) ∷ []

module _ {D L O : Type 0} (w : Outside D L O) where
  -- All turns were made, nothing is pending, and the output was this before the last line.
  pub record AllMade (config : Config) (sites : List Site) (turns : ℕ) (old new : Places D L O) (out : O) : Type 0 where
    pub given : List (List Given)
    pub turns_made : length given ≡ turns
    pub each : AllByRecursion (λ turn. length turn ≡ length sites) given
    pub finish : AllFinish w config.cluster sites (after_last config (after_these config sites given)) old (places new.disks new.held new.link out)
    pub serials : SerialsFit new.held

  -- the last line was printed too
  pub record AllTell (config : Config) (sites : List Site) (turns : ℕ) (result : Served) (old new : Places D L O) : Type 0 where
    pub out : O
    pub made : AllMade config sites turns old new out
    pub counts : result ≡ counts_of turns new.held
    pub tells : PrintsAll w.held w.out_faults (last_act turns new.held) out new.out

  -- All turns were made, and what was pending did not all go out.
  pub record AllButEnd (config : Config) (sites : List Site) (turns : ℕ) (fault : ServeFault) (old new : Places D L O) : Type 0 where
    pub given : List (List Given)
    pub turns_made : length given ≡ turns
    pub each : AllByRecursion (λ turn. length turn ≡ length sites) given
    pub at : MidEnd (after_these config sites given).sites
    pub stop : AllStop w sites ((after_these config sites given).acts ++ (persist_all_then_send config at.front).acts) (persist_then_send config at.site) fault old new

  -- the last line was not printed
  pub record AllButLast (config : Config) (sites : List Site) (turns : ℕ) (fault : ServeFault) (old new : Places D L O) : Type 0 where
    pub out : O
    pub made : AllMade config sites turns old new out
    pub tells : PrintsSome w.held w.out_faults (last_act turns new.held) fault out new.out

  abbrev pub AllEnd : Config → List Site → ℕ → Result Served ServeFault → Places D L O → Places D L O → Type 0
  AllEnd config sites turns (Ok result) old new = AllTell config sites turns result old new
  AllEnd config sites turns (Err fault) old new =
      TurnsStop w config sites turns fault old new ⊎ (AllButEnd config sites turns fault old new ⊎ AllButLast config sites turns fault old new)
