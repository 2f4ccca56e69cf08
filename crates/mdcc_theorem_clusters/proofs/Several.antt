-- A server of several centres does the acts of each.
use Rattle.std.proofs.Common.{List, None, [], ap, append-nil, append_assoc, arith, false, flat_map, fold, get_or, inl, inr, length, map, refl, suc, sym, ℕ, ◌++◌, ◌==◌, ◌∙◌, ◌∷◌, ◌≡◌}
use Rattle.std.specs.List.{AllByRecursion}
use Rattle.std.proofs.lemmas.Bool.{cases_Bool, eq-eqb}
use Rattle.mdcc_config.specs.declared.config.Config.{Config}
use Rattle.mdcc_def_rules.specs.Boot.{next_boot}
use Rattle.mdcc_theorem_server_runs.specs.Centres.{given_at}
use Rattle.mdcc_def_server_runs.specs.Acts.{Act}
use Rattle.mdcc_def_server_runs.specs.Sending.{persist_then_send}
use Rattle.mdcc_def_server_runs.specs.Servers.{Log, Server, after_last, after_turn, boot_line, endpoints_of, opened, persist_all_then_send, served, site_of, turns_of}
use Rattle.mdcc_def_server_runs.specs.Sites.{Site}
use Rattle.mdcc_def_server_runs.specs.Turns.{Given, turn_of}
use Rattle.mdcc_theorem_clusters.proofs.Tracing.{acts-are, rest, turn-centre}
use Rattle.mdcc_theorem_clusters.specs.Several.{AreOthers, acts_by, acts_served_by, boot_lines_by, boots_by, endpoints_by, last_by, tagged_acts, turn_by, turns_by}
use Rattle.mdcc_theorem_clusters.specs.Traces.{acts_of}

-- ---- all acts

abbrev untagged : List (ℕ × Act) → List Act
untagged acts = map (λ (one : ℕ × Act). one.1) acts

untagged-both : (xs ys : List (ℕ × Act)) → untagged (xs ++ ys) ≡ untagged xs ++ untagged ys
untagged-both [] ys = refl
untagged-both (x ∷ xs) ys = ap (λ (acts : List Act). x.1 ∷ acts) (untagged-both xs ys)

untagged-tagged : (a : ℕ) (acts : List Act) → untagged (tagged_acts a acts) ≡ acts
untagged-tagged a [] = refl
untagged-tagged a (act ∷ acts) = ap (λ (xs : List Act). act ∷ xs) (untagged-tagged a acts)

-- some acts of a centre before others
untagged-then : (a : ℕ) (acts : List Act) (xs : List (ℕ × Act)) (ys : List Act) → untagged xs ≡ ys → untagged (tagged_acts a acts ++ xs) ≡ acts ++ ys
untagged-then a acts xs ys e =
    untagged-both (tagged_acts a acts) xs ∙ (ap (λ (zs : List Act). zs ++ untagged xs) (untagged-tagged a acts) ∙ ap (λ (zs : List Act). acts ++ zs) e)

boots-all : (logs : List Log) → untagged (boots_by logs) ≡ map (λ (log : Log). Act.Append log.centre (next_boot log.facts ∷ [])) logs
boots-all [] = refl
boots-all (log ∷ logs) = ap (λ (xs : List Act). Act.Append log.centre (next_boot log.facts ∷ []) ∷ xs) (boots-all logs)

endpoints-all : (config : Config) (logs : List Log) → untagged (endpoints_by config logs) ≡ flat_map (endpoints_of config) (map site_of logs)
endpoints-all config [] = refl
endpoints-all config (log ∷ logs) = untagged-then log.centre (endpoints_of config (site_of log)) (endpoints_by config logs) (flat_map (endpoints_of config) (map site_of logs)) (endpoints-all config logs)

lines-all : (logs : List Log) → untagged (boot_lines_by logs) ≡ flat_map boot_line (map site_of logs)
lines-all [] = refl
lines-all (log ∷ logs) = untagged-then log.centre (boot_line (site_of log)) (boot_lines_by logs) (flat_map boot_line (map site_of logs)) (lines-all logs)

turn-all : (config : Config) (sites : List Site) (given : List Given) → untagged (turn_by config sites given) ≡ (turns_of config sites given).acts
turn-all config [] [] = refl
turn-all config [] (g ∷ given) = refl
turn-all config (site ∷ sites) [] = refl
turn-all config (site ∷ sites) (g ∷ given) =
    untagged-then site.centre (turn_of config site g).acts (turn_by config sites given) (turns_of config sites given).acts (turn-all config sites given)

last-all : (config : Config) (sites : List Site) → untagged (last_by config sites) ≡ (persist_all_then_send config sites).acts
last-all config [] = refl
last-all config (site ∷ sites) = untagged-then site.centre (persist_then_send config site).acts (last_by config sites) (persist_all_then_send config sites).acts (last-all config sites)

turns-all : (config : Config) (server : Server) (turns : List (List Given)) → (after_last config (fold (after_turn config) server turns)).acts ≡ server.acts ++ untagged (turns_by config server.sites turns)
turns-all config server [] = ap (λ (acts : List Act). server.acts ++ acts) (sym (last-all config server.sites))
turns-all config server (turn ∷ turns) =
    let now = turns_of config server.sites turn in
    turns-all config (after_turn config server turn) turns
    ∙ (append_assoc server.acts now.acts (untagged (turns_by config now.sites turns))
    ∙ ap (λ (acts : List Act). server.acts ++ acts)
    (ap (λ (acts : List Act). acts ++ untagged (turns_by config now.sites turns)) (sym (turn-all config server.sites turn))
    ∙ sym (untagged-both (turn_by config server.sites turn) (turns_by config now.sites turns))))

pub all-acts : (config : Config) (logs : List Log) (turns : List (List Given)) → untagged (acts_served_by config logs turns) ≡ (served config logs turns).acts
all-acts config logs turns =
    let first = boots_by logs ++ (endpoints_by config logs ++ boot_lines_by logs) in
    let start : untagged first ≡ (opened config logs).acts =
    untagged-both (boots_by logs) (endpoints_by config logs ++ boot_lines_by logs)
    ∙ (ap (λ (acts : List Act). acts ++ untagged (endpoints_by config logs ++ boot_lines_by logs)) (boots-all logs)
    ∙ ap (λ (acts : List Act). map (λ (log : Log). Act.Append log.centre (next_boot log.facts ∷ [])) logs ++ acts)
    (untagged-both (endpoints_by config logs) (boot_lines_by logs)
    ∙ (ap (λ (acts : List Act). acts ++ untagged (boot_lines_by logs)) (endpoints-all config logs) ∙ ap (λ (acts : List Act). flat_map (endpoints_of config) (map site_of logs) ++ acts) (lines-all logs)))) in
    untagged-both first (turns_by config (map site_of logs) turns)
    ∙ (ap (λ (acts : List Act). acts ++ untagged (turns_by config (map site_of logs) turns)) start ∙ sym (turns-all config (opened config logs) turns))

-- ---- the acts of one centre

by-both : (c : ℕ) (xs ys : List (ℕ × Act)) → acts_by c (xs ++ ys) ≡ acts_by c xs ++ acts_by c ys
by-both c [] ys = refl
by-both c (x ∷ xs) ys =
    elim (cases_Bool (x.0 == c)) [
      | inl e ↦ rw e (ap (λ (acts : List Act). x.1 ∷ acts) (by-both c xs ys))
      | inr e ↦ rw e (by-both c xs ys)
    ]

by-own : (c : ℕ) (acts : List Act) → acts_by c (tagged_acts c acts) ≡ acts
by-own c [] = refl
by-own c (act ∷ acts) = rw (eq-eqb c c refl) (ap (λ (xs : List Act). act ∷ xs) (by-own c acts))

by-none : (c a : ℕ) (acts : List Act) → (a == c) ≡ false → acts_by c (tagged_acts a acts) ≡ []
by-none c a [] o = refl
by-none c a (act ∷ acts) o = rw o (by-none c a acts o)

-- of another centre, before more
by-skip : (c a : ℕ) (acts : List Act) (xs : List (ℕ × Act)) → (a == c) ≡ false → acts_by c (tagged_acts a acts ++ xs) ≡ acts_by c xs
by-skip c a acts xs o = by-both c (tagged_acts a acts) xs ∙ ap (λ (zs : List Act). zs ++ acts_by c xs) (by-none c a acts o)

by-here : (c a : ℕ) (acts : List Act) (xs : List (ℕ × Act)) → a ≡ c → acts_by c (tagged_acts a acts ++ xs) ≡ acts ++ acts_by c xs
by-here c a acts xs e =
    by-both c (tagged_acts a acts) xs ∙ ap (λ (zs : List Act). zs ++ acts_by c xs) (ap (λ (z : ℕ). acts_by c (tagged_acts z acts)) e ∙ by-own c acts)

abbrev SitesApart : ℕ → List Site → Type 0
SitesApart c sites = AllByRecursion (λ (site : Site). (site.centre == c) ≡ false) sites

logs-apart : (c : ℕ) (logs : List Log) → AreOthers c logs → SitesApart c (map site_of logs)
logs-apart c [] h = tt
logs-apart c (log ∷ logs) h = (h.0, logs-apart c logs h.1)

-- ---- its start

boots-none : (c : ℕ) (logs : List Log) → AreOthers c logs → acts_by c (boots_by logs) ≡ []
boots-none c [] h = refl
boots-none c (log ∷ logs) h = by-skip c log.centre (Act.Append log.centre (next_boot log.facts ∷ []) ∷ []) (boots_by logs) h.0 ∙ boots-none c logs h.1

boots-one : (before : List Log) (log : Log) (after : List Log) → AreOthers log.centre before → AreOthers log.centre after
    → acts_by log.centre (boots_by (before ++ log ∷ after)) ≡ Act.Append log.centre (next_boot log.facts ∷ []) ∷ []
boots-one [] log after h k =
    let act : Act = Act.Append log.centre (next_boot log.facts ∷ []) in
    by-here log.centre log.centre (act ∷ []) (boots_by after) refl ∙ ap (λ (acts : List Act). act ∷ acts) (boots-none log.centre after k)
boots-one (x ∷ before) log after h k =
    by-skip log.centre x.centre (Act.Append x.centre (next_boot x.facts ∷ []) ∷ []) (boots_by (before ++ log ∷ after)) h.0 ∙ boots-one before log after h.1 k

endpoints-none : (config : Config) (c : ℕ) (logs : List Log) → AreOthers c logs → acts_by c (endpoints_by config logs) ≡ []
endpoints-none config c [] h = refl
endpoints-none config c (log ∷ logs) h = by-skip c log.centre (endpoints_of config (site_of log)) (endpoints_by config logs) h.0 ∙ endpoints-none config c logs h.1

endpoints-one : (config : Config) (before : List Log) (log : Log) (after : List Log) → AreOthers log.centre before → AreOthers log.centre after
    → acts_by log.centre (endpoints_by config (before ++ log ∷ after)) ≡ endpoints_of config (site_of log) ++ []
endpoints-one config [] log after h k =
    by-here log.centre log.centre (endpoints_of config (site_of log)) (endpoints_by config after) refl
    ∙ ap (λ (acts : List Act). endpoints_of config (site_of log) ++ acts) (endpoints-none config log.centre after k)
endpoints-one config (x ∷ before) log after h k =
    by-skip log.centre x.centre (endpoints_of config (site_of x)) (endpoints_by config (before ++ log ∷ after)) h.0 ∙ endpoints-one config before log after h.1 k

lines-none : (c : ℕ) (logs : List Log) → AreOthers c logs → acts_by c (boot_lines_by logs) ≡ []
lines-none c [] h = refl
lines-none c (log ∷ logs) h = by-skip c log.centre (boot_line (site_of log)) (boot_lines_by logs) h.0 ∙ lines-none c logs h.1

lines-one : (before : List Log) (log : Log) (after : List Log) → AreOthers log.centre before → AreOthers log.centre after
    → acts_by log.centre (boot_lines_by (before ++ log ∷ after)) ≡ boot_line (site_of log) ++ []
lines-one [] log after h k =
    by-here log.centre log.centre (boot_line (site_of log)) (boot_lines_by after) refl ∙ ap (λ (acts : List Act). boot_line (site_of log) ++ acts) (lines-none log.centre after k)
lines-one (x ∷ before) log after h k =
    by-skip log.centre x.centre (boot_line (site_of x)) (boot_lines_by (before ++ log ∷ after)) h.0 ∙ lines-one before log after h.1 k

-- ---- its turns

last-none : (config : Config) (c : ℕ) (sites : List Site) → SitesApart c sites → acts_by c (last_by config sites) ≡ []
last-none config c [] h = refl
last-none config c (site ∷ sites) h = by-skip c site.centre (persist_then_send config site).acts (last_by config sites) h.0 ∙ last-none config c sites h.1

last-one : (config : Config) (c : ℕ) (before : List Site) (site : Site) (after : List Site) → site.centre ≡ c → SitesApart c before → SitesApart c after
    → acts_by c (last_by config (before ++ site ∷ after)) ≡ (persist_then_send config site).acts
last-one config c [] site after e h k =
    by-here c site.centre (persist_then_send config site).acts (last_by config after) e
    ∙ (ap (λ (acts : List Act). (persist_then_send config site).acts ++ acts) (last-none config c after k) ∙ append-nil (persist_then_send config site).acts)
last-one config c (x ∷ before) site after e h k =
    by-skip c x.centre (persist_then_send config x).acts (last_by config (before ++ site ∷ after)) h.0 ∙ last-one config c before site after e h.1 k

-- a turn of others does nothing of it
record Skips (config : Config) (c : ℕ) (sites : List Site) (given : List Given) : Type 0 where
  acts : acts_by c (turn_by config sites given) ≡ []
  apart : SitesApart c (turns_of config sites given).sites

turn-skips : (config : Config) (c : ℕ) (sites : List Site) (given : List Given) → SitesApart c sites → Skips config c sites given
turn-skips config c [] [] h = record { acts = refl; apart = tt }
turn-skips config c [] (g ∷ given) h = record { acts = refl; apart = tt }
turn-skips config c (site ∷ sites) [] h = record { acts = refl; apart = h }
turn-skips config c (site ∷ sites) (g ∷ given) h =
    let rest = turn-skips config c sites given h.1 in
    record {
      acts = by-skip c site.centre (turn_of config site g).acts (turn_by config sites given) h.0 ∙ rest.acts;
      apart = (ap (λ (z : ℕ). z == c) (turn-centre config site g) ∙ h.0, rest.apart);
    }

abbrev silent : Given
silent = record { own = None; asked = None; waits = false }

-- it does its own, and is at its place again
record Takes (config : Config) (c place : ℕ) (site : Site) (sites : List Site) (given : List Given) : Type 0 where
  before : List Site
  after : List Site
  acts : acts_by c (turn_by config sites given) ≡ (turn_of config site (get_or given place silent)).acts
  are : (turns_of config sites given).sites ≡ before ++ (turn_of config site (get_or given place silent)).site ∷ after
  long : length before ≡ place
  same : length (turns_of config sites given).sites ≡ length sites
  first : SitesApart c before
  last : SitesApart c after

turn-long : (config : Config) (sites : List Site) (given : List Given) → length (turns_of config sites given).sites ≡ length sites
turn-long config [] [] = refl
turn-long config [] (g ∷ given) = refl
turn-long config (site ∷ sites) [] = refl
turn-long config (site ∷ sites) (g ∷ given) = ap suc (turn-long config sites given)

turn-takes : (config : Config) (c : ℕ) (before : List Site) (site : Site) (after : List Site) (given : List Given) → length given ≡ length (before ++ site ∷ after) → site.centre ≡ c → SitesApart c before → SitesApart c after
    → Takes config c (length before) site (before ++ site ∷ after) given
turn-takes config c [] site after [] long e h k = absurd (omega (arith, long))
turn-takes config c [] site after (g ∷ given) long e h k =
    let rest = turn-skips config c after given k in
    record {
      before = [];
      after = (turns_of config after given).sites;
      acts = by-here c site.centre (turn_of config site g).acts (turn_by config after given) e ∙ (ap (λ (acts : List Act). (turn_of config site g).acts ++ acts) rest.acts ∙ append-nil (turn_of config site g).acts);
      are = refl;
      long = refl;
      same = turn-long config (site ∷ after) (g ∷ given);
      first = tt;
      last = rest.apart;
    }
turn-takes config c (x ∷ before) site after [] long e h k = absurd (omega (arith, long))
turn-takes config c (x ∷ before) site after (g ∷ given) long e h k =
    let rest = turn-takes config c before site after given (omega (arith, long)) e h.1 k in
    record {
      before = (turn_of config x g).site ∷ rest.before;
      after = rest.after;
      acts = by-skip c x.centre (turn_of config x g).acts (turn_by config (before ++ site ∷ after) given) h.0 ∙ rest.acts;
      are = ap (λ (sites : List Site). (turn_of config x g).site ∷ sites) rest.are;
      long = ap suc rest.long;
      same = turn-long config (x ∷ (before ++ site ∷ after)) (g ∷ given);
      first = (ap (λ (z : ℕ). z == c) (turn-centre config x g) ∙ h.0, rest.first);
      last = rest.last;
    }

turns-own : (config : Config) (c count : ℕ) (before : List Site) (site : Site) (after : List Site) (turns : List (List Given)) → length (before ++ site ∷ after) ≡ count → AllByRecursion (λ (turn : List Given). length turn ≡ count) turns
    → site.centre ≡ c → SitesApart c before → SitesApart c after → acts_by c (turns_by config (before ++ site ∷ after) turns) ≡ rest config site (given_at (length before) turns)
turns-own config c count before site after [] many long e h k = last-one config c before site after e h k
turns-own config c count before site after (turn ∷ turns) many long e h k =
    let all = before ++ site ∷ after in
    let t = turn-takes config c before site after turn (long.0 ∙ sym many) e h k in
    let g : Given = get_or turn (length before) silent in
    let next = (turn_of config site g).site in
    let later : acts_by c (turns_by config (turns_of config all turn).sites turns) ≡ rest config next (given_at (length before) turns) =
    ap (λ (sites : List Site). acts_by c (turns_by config sites turns)) t.are
    ∙ (turns-own config c count t.before next t.after turns (ap (λ (sites : List Site). length sites) (sym t.are) ∙ (t.same ∙ many)) long.1 (turn-centre config site g ∙ e) t.first t.last
    ∙ ap (λ (place : ℕ). rest config next (given_at place turns)) t.long) in
    by-both c (turn_by config all turn) (turns_by config (turns_of config all turn).sites turns)
    ∙ (ap (λ (acts : List Act). acts ++ acts_by c (turns_by config (turns_of config all turn).sites turns)) t.acts ∙ ap (λ (acts : List Act). (turn_of config site g).acts ++ acts) later)

-- ---- all

map-both : (xs ys : List Log) → map site_of (xs ++ ys) ≡ map site_of xs ++ map site_of ys
map-both [] ys = refl
map-both (x ∷ xs) ys = ap (λ (sites : List Site). site_of x ∷ sites) (map-both xs ys)

map-long : (xs : List Log) → length (map site_of xs) ≡ length xs
map-long [] = refl
map-long (x ∷ xs) = ap suc (map-long xs)

pub centre-acts : (config : Config) (before : List Log) (log : Log) (after : List Log) (turns : List (List Given)) → AreOthers log.centre before → AreOthers log.centre after
    → AllByRecursion (λ (turn : List Given). length turn ≡ length (before ++ log ∷ after)) turns
    → acts_by log.centre (acts_served_by config (before ++ log ∷ after) turns) ≡ acts_of config log (given_at (length before) turns)
centre-acts config before log after turns h k long =
    let c = log.centre in
    let logs = before ++ log ∷ after in
    let site : Site = site_of log in
    let act : Act = Act.Append c (next_boot log.facts ∷ []) in
    let start = boots_by logs ++ (endpoints_by config logs ++ boot_lines_by logs) in
    let first : acts_by c start ≡ (opened config (log ∷ [])).acts =
    by-both c (boots_by logs) (endpoints_by config logs ++ boot_lines_by logs)
    ∙ (ap (λ (acts : List Act). acts ++ acts_by c (endpoints_by config logs ++ boot_lines_by logs)) (boots-one before log after h k)
    ∙ ap (λ (acts : List Act). act ∷ acts)
    (by-both c (endpoints_by config logs) (boot_lines_by logs)
    ∙ (ap (λ (acts : List Act). acts ++ acts_by c (boot_lines_by logs)) (endpoints-one config before log after h k)
    ∙ ap (λ (acts : List Act). (endpoints_of config site ++ []) ++ acts) (lines-one before log after h k)))) in
    let sites = map-both before (log ∷ after) in
    let many : length (map site_of before ++ site ∷ map site_of after) ≡ length logs = ap (λ (xs : List Site). length xs) (sym sites) ∙ map-long logs in
    let own : acts_by c (turns_by config (map site_of logs) turns) ≡ rest config site (given_at (length before) turns) =
    ap (λ (xs : List Site). acts_by c (turns_by config xs turns)) sites
    ∙ (turns-own config c (length logs) (map site_of before) site (map site_of after) turns many long refl (logs-apart c before h) (logs-apart c after k)
    ∙ ap (λ (place : ℕ). rest config site (given_at place turns)) (map-long before)) in
    by-both c start (turns_by config (map site_of logs) turns)
    ∙ (ap (λ (acts : List Act). acts ++ acts_by c (turns_by config (map site_of logs) turns)) first
    ∙ (ap (λ (acts : List Act). (opened config (log ∷ [])).acts ++ acts) own ∙ sym (acts-are config log (given_at (length before) turns))))
