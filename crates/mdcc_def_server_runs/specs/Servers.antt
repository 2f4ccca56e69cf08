-- What a server of one or more centres does: it starts each, binds their endpoints, makes its turns, and tells how many.
use Rattle.std.specs.Prelude.{List, None, Option, Some, [], flat_map, fold, map, ℕ, ◌+◌, ◌++◌, ◌∷◌}
use Rattle.mdcc_base.specs.declared.outside.Address.{Address}
use Rattle.mdcc_config.specs.IsConfig.{address_above}
use Rattle.mdcc_config.specs.declared.config.Config.{Config}
use Rattle.mdcc_def_messages.specs.declared.facts.Fact.{Fact}
use Rattle.mdcc_def_protocol.specs.Facts.{epoch_of}
use Rattle.mdcc_def_protocol.specs.Volatile.{initial_volatile}
use Rattle.mdcc_def_server_runs.specs.Acts.{Act}
use Rattle.mdcc_def_server_runs.specs.Clients.{no_clients}
use Rattle.mdcc_def_server_runs.specs.Sending.{persist_then_send}
use Rattle.mdcc_def_server_runs.specs.Sites.{Site, nothing_pending}
use Rattle.mdcc_def_server_runs.specs.Turns.{Given, turn_of}
use Rattle.mdcc_def_server_runs.specs.declared.lines.ServerLine.{ServerLine}
use Rattle.mdcc_def_rules.specs.Boot.{next_boot}

-- all that was done, and the centres afterwards, ascending
pub record Server : Type 0 where
  pub acts : List Act
  pub sites : List Site

abbrev pub with_acts : Server → List Act → Server
with_acts server acts = record server { acts = server.acts ++ acts }

-- ---- the start of a centre

-- what its log had: the facts, the newest first
pub record Log : Type 0 where
  pub centre : ℕ
  pub facts : List Fact

-- the centre with its boot
abbrev pub site_of : Log → Site
site_of log = record {
  centre = log.centre;
  node = record { facts = next_boot log.facts ∷ log.facts; volatile = initial_volatile };
  logged = next_boot log.facts ∷ log.facts;
  sent = 0;
  clients = no_clients;
  own = [];
  asked = [];
  pending = nothing_pending;
}

-- one centre after the other appends its boot
abbrev pub starts : List Log → Server
starts logs = record { acts = map (λ log. Act.Append log.centre (next_boot log.facts ∷ [])) logs; sites = map site_of logs }

-- ---- its endpoints

abbrev pub bound_at : ℕ → Option Address → List Act
bound_at at None = []
bound_at at (Some address) = Act.Bind at address ∷ []

-- its own, and then its client's
abbrev pub endpoints_of : Config → Site → List Act
endpoints_of config site =
    bound_at site.centre (address_above config 0 site.centre) ++ bound_at (site.centre + 16) (address_above config 16 site.centre)

abbrev pub boot_line : Site → List Act
boot_line site = Act.Print (ServerLine.Booted site.centre (epoch_of site.node.facts)) ∷ []

-- the endpoints are bound once all logs are open, and the boots are told once all endpoints are bound
abbrev pub opened : Config → List Log → Server
opened config logs =
    let server = starts logs in
    with_acts server (flat_map (endpoints_of config) server.sites ++ flat_map boot_line server.sites)

-- ---- turns

-- what the receives of each centre gave makes it do
abbrev pub turns_of : Config → List Site → List Given → Server
turns_of config (site ∷ sites) (given ∷ more) =
    let first = turn_of config site given in let rest = turns_of config sites more in
    record { acts = first.acts ++ rest.acts; sites = first.site ∷ rest.sites }
turns_of config sites _ = record { acts = []; sites = sites }

-- one turn, in which each centre has its own
abbrev pub after_turn : Config → Server → List Given → Server
after_turn config server given =
    let turn = turns_of config server.sites given in
    record { acts = server.acts ++ turn.acts; sites = turn.sites }

-- what is pending at each centre goes out
abbrev pub persist_all_then_send : Config → List Site → Server
persist_all_then_send config [] = record { acts = []; sites = [] }
persist_all_then_send config (site ∷ sites) =
    let first = persist_then_send config site in let rest = persist_all_then_send config sites in
    record { acts = first.acts ++ rest.acts; sites = first.site ∷ rest.sites }

-- after the last turn nothing is pending
abbrev pub after_last : Config → Server → Server
after_last config server =
    let end = persist_all_then_send config server.sites in
    record { acts = server.acts ++ end.acts; sites = end.sites }

-- the server after these turns
abbrev pub served : Config → List Log → List (List Given) → Server
served config logs turns = after_last config (fold (after_turn config) (opened config logs) turns)
