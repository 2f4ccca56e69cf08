-- Where a server ended before its end: while it opened, in a turn, at the end after the last turn, or at the last line.
use Rattle.std.specs.List.{AllByRecursion}
use Rattle.std.specs.Prelude.{List, [], fold, length, ℕ, ◌++◌, ◌<◌, ◌∷◌, ◌≡◌, ◌⊎◌}
use Rattle.mdcc_config.specs.declared.config.Config.{Config}
use Rattle.mdcc_serve_outbox.specs.Shows.{count_limited}
use Rattle.mdcc_def_server_runs.specs.Acts.{Act, but_answers, dropped_in, lost_in, steps_in}
use Rattle.mdcc_def_server_runs.specs.Sending.{persist_then_send}
use Rattle.mdcc_def_server_runs.specs.Servers.{Log, Server, after_turn, opened, persist_all_then_send, served, turns_of}
use Rattle.mdcc_def_server_runs.specs.Sites.{Site}
use Rattle.mdcc_def_server_runs.specs.Turns.{Given, turn_of}
use Rattle.mdcc_def_server_runs.specs.declared.lines.ServerLine.{ServerLine}
use Rattle.mdcc_serve_site.specs.SiteState.{OnSerial}
use Rattle.mdcc_serve_site.specs.declared.fault.ServeFault.{ServeFault}

-- ---- the centre at which it ended

-- In a turn the first of these centres had their own turns, for what their receives gave, and this one is in the midst of its own.
pub record MidTurn (sites : List Site) : Type 0 where
  pub front : List Site
  pub site : Site
  pub back : List Site
  pub are : sites ≡ front ++ site ∷ back
  pub earlier : List Given
  pub as_many : length earlier ≡ length front
  pub given : Given

-- After the last turn what was pending at the first of these centres went out, and at this one it is going out.
pub record MidEnd (sites : List Site) : Type 0 where
  pub front : List Site
  pub site : Site
  pub back : List Site
  pub are : sites ≡ front ++ site ∷ back

-- All that comes before the part of a centre was done, and of its part all but the rest.
pub record InPart (before part acts rest : List Act) : Type 0 where
  pub some : List Act
  pub done : but_answers acts ≡ before ++ some
  pub are : some ++ rest ≡ part

-- ---- the stages

-- centres that run, after so many turns of all of them
abbrev pub after_these : Config → List Site → List (List Given) → Server
after_these config sites given = fold (after_turn config) (record { acts = []; sites = sites }) given

-- a server over these logs after so many turns of all its centres
abbrev pub after_turns : Config → List Log → List (List Given) → Server
after_turns config logs given = fold (after_turn config) (opened config logs) given

-- the last line
abbrev pub done_line : ℕ → List Act → ServerLine
done_line turns acts = ServerLine.Done turns (count_limited (steps_in acts)) (count_limited (dropped_in acts)) (count_limited (lost_in acts))

-- While it opened; no message has a serial then.
pub record StopsInOpening (config : Config) (logs : List Log) (fault : ServeFault) (acts rest : List Act) : Type 0 where
  pub runs : but_answers acts ++ rest ≡ (opened config logs).acts
  pub serials : OnSerial fault 0

-- In a turn of a centre, after all turns before it. Its serials are used up only by what it sends in this turn and sent before.
pub record StopsInTurn (config : Config) (logs : List Log) (turns : ℕ) (fault : ServeFault) (acts rest : List Act) : Type 0 where
  pub given : List (List Given)
  pub fewer : length given < turns
  pub each : AllByRecursion (λ turn. length turn ≡ length logs) given
  pub at : MidTurn (after_turns config logs given).sites
  pub runs : InPart ((after_turns config logs given).acts ++ (turns_of config at.front at.earlier).acts) (turn_of config at.site at.given).acts acts rest
  pub serials : OnSerial fault (turn_of config at.site at.given).site.sent

-- After all turns, while what is pending at a centre goes out.
pub record StopsInEnd (config : Config) (logs : List Log) (turns : ℕ) (fault : ServeFault) (acts rest : List Act) : Type 0 where
  pub given : List (List Given)
  pub turns_made : length given ≡ turns
  pub each : AllByRecursion (λ turn. length turn ≡ length logs) given
  pub at : MidEnd (after_turns config logs given).sites
  pub runs : InPart ((after_turns config logs given).acts ++ (persist_all_then_send config at.front).acts) (persist_then_send config at.site).acts acts rest
  pub serials : OnSerial fault (persist_then_send config at.site).site.sent

-- At the last line, which is all that is left.
pub record StopsAtLine (config : Config) (logs : List Log) (turns : ℕ) (fault : ServeFault) (acts rest : List Act) : Type 0 where
  pub given : List (List Given)
  pub turns_made : length given ≡ turns
  pub each : AllByRecursion (λ turn. length turn ≡ length logs) given
  pub runs : but_answers acts ≡ (served config logs given).acts
  pub line : rest ≡ Act.Print (done_line turns acts) ∷ []
  pub serials : OnSerial fault 0

-- These acts were done, and these were left of what it was doing: the turns are those that were made, whatever their receives gave.
abbrev pub StopsAt : Config → List Log → ℕ → ServeFault → List Act → List Act → Type 0
StopsAt config logs turns fault acts rest =
    StopsInOpening config logs fault acts rest
    ⊎ (StopsInTurn config logs turns fault acts rest ⊎ (StopsInEnd config logs turns fault acts rest ⊎ StopsAtLine config logs turns fault acts rest))
