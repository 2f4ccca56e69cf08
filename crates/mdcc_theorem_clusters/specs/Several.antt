-- A server of several centres: its acts, each with the centre that does it, are those that a server of each of its centres does alone.
use Rattle.std.specs.Prelude.{List, Some, [], false, if◌then◌else◌, length, map, ℕ, ◌++◌, ◌==◌, ◌∷◌, ◌≡◌}
use Rattle.std.specs.List.{AllByRecursion}
use Rattle.mdcc_config.specs.declared.config.Config.{Config}
use Rattle.mdcc_def_rules.specs.Boot.{next_boot}
use Rattle.mdcc_theorem_server_runs.specs.Centres.{given_at}
use Rattle.mdcc_def_server_runs.specs.Acts.{Act}
use Rattle.mdcc_def_server_runs.specs.Sending.{persist_then_send}
use Rattle.mdcc_def_server_runs.specs.Servers.{Log, boot_line, endpoints_of, served, site_of, turns_of}
use Rattle.mdcc_def_server_runs.specs.Sites.{Site}
use Rattle.mdcc_def_server_runs.specs.Turns.{Given, turn_of}
use Rattle.mdcc_theorem_clusters.specs.Traces.{LifeEvent, Traced, acts_of, traced_after_events}

-- ---- acts with their centres

abbrev pub tagged_acts : ℕ → List Act → List (ℕ × Act)
tagged_acts a [] = []
tagged_acts a (act ∷ acts) = (a, act) ∷ tagged_acts a acts

abbrev pub boots_by : List Log → List (ℕ × Act)
boots_by [] = []
boots_by (log ∷ logs) = (log.centre, Act.Append log.centre (next_boot log.facts ∷ [])) ∷ boots_by logs

abbrev pub endpoints_by : Config → List Log → List (ℕ × Act)
endpoints_by config [] = []
endpoints_by config (log ∷ logs) = tagged_acts log.centre (endpoints_of config (site_of log)) ++ endpoints_by config logs

abbrev pub boot_lines_by : List Log → List (ℕ × Act)
boot_lines_by [] = []
boot_lines_by (log ∷ logs) = tagged_acts log.centre (boot_line (site_of log)) ++ boot_lines_by logs

abbrev pub turn_by : Config → List Site → List Given → List (ℕ × Act)
turn_by config (site ∷ sites) (given ∷ more) = tagged_acts site.centre (turn_of config site given).acts ++ turn_by config sites more
turn_by config sites given = []

abbrev pub last_by : Config → List Site → List (ℕ × Act)
last_by config [] = []
last_by config (site ∷ sites) = tagged_acts site.centre (persist_then_send config site).acts ++ last_by config sites

abbrev pub turns_by : Config → List Site → List (List Given) → List (ℕ × Act)
turns_by config sites [] = last_by config sites
turns_by config sites (turn ∷ turns) = turn_by config sites turn ++ turns_by config (turns_of config sites turn).sites turns

-- the acts of a server of these logs
abbrev pub acts_served_by : Config → List Log → List (List Given) → List (ℕ × Act)
acts_served_by config logs turns = (boots_by logs ++ (endpoints_by config logs ++ boot_lines_by logs)) ++ turns_by config (map site_of logs) turns

-- ---- those of one centre

abbrev pub acts_by : ℕ → List (ℕ × Act) → List Act
acts_by c [] = []
acts_by c (one ∷ acts) = if one.0 == c then one.1 ∷ acts_by c acts else acts_by c acts

abbrev pub AreOthers : ℕ → List Log → Type 0
AreOthers c logs = AllByRecursion (λ (log : Log). (log.centre == c) ≡ false) logs

-- With the centres left out they are just the acts of the server; and those of each centre are the acts of a server of it alone, by what its own
-- receives gave, where no other has its number and each turn has what the receives of each centre gave.
abbrev pub ServersDoAllActs : Type 0
ServersDoAllActs = (config : Config) (logs : List Log) (turns : List (List Given)) → map (λ (one : ℕ × Act). one.1) (acts_served_by config logs turns) ≡ (served config logs turns).acts

abbrev pub CentresDoTheirActs : Type 0
CentresDoTheirActs =
    (config : Config) (before : List Log) (log : Log) (after : List Log) (turns : List (List Given)) → AreOthers log.centre before → AreOthers log.centre after
    → AllByRecursion (λ (turn : List Given). length turn ≡ length (before ++ log ∷ after)) turns
    → acts_by log.centre (acts_served_by config (before ++ log ∷ after) turns) ≡ acts_of config log (given_at (length before) turns)

-- ---- in a trace

-- its centres do these acts, one after the other
abbrev pub does_these : List (ℕ × Act) → List LifeEvent
does_these [] = []
does_these (one ∷ acts) = LifeEvent.Does one.0 ∷ does_these acts

abbrev pub done_onto : List (ℕ × Act) → List (ℕ × Act) → List (ℕ × Act)
done_onto [] done = done
done_onto (one ∷ acts) done = done_onto acts (one ∷ done)

-- Where each centre of these acts has just its own of them left to do, with some after them, the trace does these acts in their order.
abbrev pub TracesDoThese : Type 0
TracesDoThese =
    (config : Config) (trace : Traced) (acts : List (ℕ × Act)) (more : ℕ → List Act)
    → ((c : ℕ) (act : Act) (rest : List Act) → acts_by c acts ≡ act ∷ rest → trace.left c ≡ Some (acts_by c acts ++ more c))
    → (traced_after_events config trace (does_these acts)).done ≡ done_onto acts trace.done
