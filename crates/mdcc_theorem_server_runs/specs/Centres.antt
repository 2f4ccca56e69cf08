-- One centre of a server of several.
use Rattle.std.specs.Prelude.{List, None, false, get_or, length, map, ℕ, ◌++◌, ◌∷◌, ◌≡◌}
use Rattle.mdcc_config.specs.declared.config.Config.{Config}
use Rattle.mdcc_def_rules.specs.Boot.{next_boot}
use Rattle.mdcc_theorem_server_runs.specs.Inputs.{turns}
use Rattle.mdcc_def_server_runs.specs.Acts.{facts_appended}
use Rattle.mdcc_def_server_runs.specs.Servers.{Log, Server, site_of}
use Rattle.mdcc_def_server_runs.specs.Sites.{Doing, Site}
use Rattle.mdcc_def_server_runs.specs.Turns.{Given}

-- what the receives of the centre at this place gave, turn by turn
abbrev pub given_at : ℕ → List (List Given) → List Given
given_at place given = map (λ turn. get_or turn place (record { own = None; asked = None; waits = false })) given

-- its turns, by what its own receives gave, after the last of which what is pending goes out
abbrev pub turns_at : Config → ℕ → Log → List (List Given) → Doing
turns_at config place log given = turns config (site_of log) (given_at place given)

-- the centre at this place
pub record StandsAt (place : ℕ) (site : Site) (sites : List Site) : Type 0 where
  pub before : List Site
  pub after : List Site
  pub are : sites ≡ before ++ site ∷ after
  pub long : length before ≡ place

-- It ends as after its own turns, and what is appended to its log is its boot and what its own turns append.
pub record DoesItsTurns (config : Config) (place : ℕ) (log : Log) (given : List (List Given)) (server : Server) : Type 0 where
  pub facts : facts_appended log.centre server.acts ≡ next_boot log.facts ∷ facts_appended log.centre (turns_at config place log given).acts
  pub stands : StandsAt place (turns_at config place log given).site server.sites
