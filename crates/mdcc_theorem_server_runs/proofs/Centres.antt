-- One centre of a server does its own turns.
use Rattle.std.proofs.Common.{◌≡◌, ◌≢◌, ℕ, suc, ◌+◌, ◌==◌, Bool, true, false, cond, List, [], ◌∷◌, ◌++◌, length, map, get_or, Option, Some, None, refl, sym, ◌∙◌, ap, ap₂, subst, inl, inr, arith, append-nil, append_assoc, flat_map, fold}
use Rattle.std.proofs.lemmas.Bool.{cases_Bool, eqb-true}
use Rattle.std.proofs.lemmas.Bool.Decides.{nat_tests}
use Rattle.std.proofs.lemmas.Grind.{flat_map-append}
use Rattle.std.proofs.lemmas.List.{length-map, map-append}
use Rattle.std.specs.List.{AllByRecursion}
use Rattle.mdcc_base.specs.declared.outside.Address.{Address}
use Rattle.mdcc_config.specs.IsConfig.{address_above}
use Rattle.mdcc_config.specs.declared.config.Config.{Config}
use Rattle.mdcc_def_messages.specs.declared.facts.Fact.{Fact}
use Rattle.mdcc_def_rules.specs.Boot.{next_boot}
use Rattle.mdcc_theorem_server_runs.proofs.Outgoing.{out_shows, out_site}
use Rattle.mdcc_theorem_server_runs.proofs.Turned.{inputs_run}
use Rattle.mdcc_theorem_server_runs.specs.Centres.{DoesItsTurns, given_at}
use Rattle.mdcc_theorem_server_runs.specs.Inputs.{turns_alone}
use Rattle.mdcc_def_server_runs.specs.Acts.{Act, appended_by, facts_appended}
use Rattle.mdcc_def_server_runs.specs.Servers.{Log, Server, after_turn, boot_line, bound_at, endpoints_of, opened, persist_all_then_send, served, site_of, starts, turns_of}
use Rattle.mdcc_def_server_runs.specs.Sending.{persist_then_send}
use Rattle.mdcc_def_server_runs.specs.Sites.{Doing, Site, idle_site}
use Rattle.mdcc_def_server_runs.specs.Turns.{Given, is_held, released, turn_inputs_taken, turn_of}

appended_joined : (a : ℕ) (xs ys : List Act) → facts_appended a (xs ++ ys) ≡ facts_appended a xs ++ facts_appended a ys
appended_joined a xs ys = flat_map-append (appended_by a) xs ys

-- where neither appends
none_joined : (a : ℕ) (xs ys : List Act) → facts_appended a xs ≡ [] → facts_appended a ys ≡ [] → facts_appended a (xs ++ ys) ≡ []
none_joined a xs ys one two = appended_joined a xs ys ∙ ap₂ (λ (x y : List Fact). x ++ y) one two

-- ---- a turn of all

-- a turn of centres of other numbers
record Apart (c : ℕ) (server : Server) : Type 0 where
  facts : facts_appended c server.acts ≡ []
  sites : AllByRecursion (λ site. site.centre ≢ c) server.sites

-- what goes out of a centre goes into its own log
out_apart : (config : Config) (c : ℕ) (site : Site) → site.centre ≢ c
    → (facts_appended c (persist_then_send config site).acts ≡ []) × ((persist_then_send config site).site.centre ≢ c)
out_apart config c site other =
    ((out_shows config site).others c (λ same. other (sym same)), λ same. other (sym (ap (λ (s : Site). s.centre) (out_site config site)) ∙ same))

released_apart : (config : Config) (c : ℕ) (site : Site) (held : Bool) → site.centre ≢ c
    → (let out = cond held (idle_site site) (persist_then_send config site) in (facts_appended c out.acts ≡ []) × (out.site.centre ≢ c))
released_apart config c site true other = (refl, other)
released_apart config c site false other = out_apart config c site other

turn_apart : (config : Config) (c : ℕ) (site : Site) (given : Given) → site.centre ≢ c
    → (facts_appended c (turn_of config site given).acts ≡ []) × ((turn_of config site given).site.centre ≢ c)
turn_apart config c site given other =
    let runs = inputs_run config site given in
    let inputs = turn_inputs_taken config site given in
    let out = released_apart config c inputs.site (is_held given inputs) (λ same. other (sym runs.centre_is ∙ same)) in
    (none_joined c inputs.acts (released config (is_held given inputs) inputs.site).acts (runs.inward.facts_are c) out.0, out.1)

turns_apart : (config : Config) (c : ℕ) (sites : List Site) (given : List Given) → AllByRecursion (λ site. site.centre ≢ c) sites → Apart c (turns_of config sites given)
turns_apart config c [] [] apart = record { facts = refl; sites = tt }
turns_apart config c [] (g ∷ given) apart = record { facts = refl; sites = tt }
turns_apart config c (site ∷ sites) [] apart = record { facts = refl; sites = apart }
turns_apart config c (site ∷ sites) (g ∷ given) apart =
    let first = turn_apart config c site g apart.0 in
    let rest = turns_apart config c sites given apart.1 in
    record {
      facts = none_joined c (turn_of config site g).acts (turns_of config sites given).acts first.0 rest.facts;
      sites = (first.1, rest.sites);
    }

-- the centre at a place, with others of other numbers
record Among (c place : ℕ) (site : Site) (sites : List Site) : Type 0 where
  before : List Site
  after : List Site
  are : sites ≡ before ++ site ∷ after
  long : length before ≡ place
  before_apart : AllByRecursion (λ s. s.centre ≢ c) before
  after_apart : AllByRecursion (λ s. s.centre ≢ c) after

record Turned (c place : ℕ) (did : Doing) (server : Server) : Type 0 where
  facts : facts_appended c server.acts ≡ facts_appended c did.acts
  among : Among c place did.site server.sites

abbrev given_to : ℕ → List Given → Given
given_to place turn = get_or turn place (record { own = None; asked = None; waits = false })

turned : (config : Config) (c : ℕ) (before : List Site) (site : Site) (after : List Site) (given : List Given)
    → length given ≡ length (before ++ site ∷ after) → AllByRecursion (λ s. s.centre ≢ c) before → AllByRecursion (λ s. s.centre ≢ c) after
    → Turned c (length before) (turn_of config site (given_to (length before) given)) (turns_of config (before ++ site ∷ after) given)
turned config c [] site after [] long one two = absurd (omega (long, arith))
turned config c [] site after (g ∷ given) long one two =
    let rest = turns_apart config c after given two in
    record {
      facts = appended_joined c (turn_of config site g).acts (turns_of config after given).acts
          ∙ (ap (λ (fs : List Fact). facts_appended c (turn_of config site g).acts ++ fs) rest.facts ∙ append-nil (facts_appended c (turn_of config site g).acts));
      among = record {
        before = [];
        after = (turns_of config after given).sites;
        are = refl;
        long = refl;
        before_apart = tt;
        after_apart = rest.sites;
      };
    }
turned config c (x ∷ before) site after [] long one two = absurd (omega (long, arith))
turned config c (x ∷ before) site after (g ∷ given) long one two =
    let first = turn_apart config c x g one.0 in
    let rest = turned config c before site after given (omega (long, arith)) one.1 two in
    let among = rest.among in
    record {
      facts = appended_joined c (turn_of config x g).acts (turns_of config (before ++ site ∷ after) given).acts
          ∙ (ap (λ (fs : List Fact). fs ++ facts_appended c (turns_of config (before ++ site ∷ after) given).acts) first.0 ∙ rest.facts);
      among = record {
        before = (turn_of config x g).site ∷ among.before;
        after = among.after;
        are = ap (λ (sites : List Site). (turn_of config x g).site ∷ sites) among.are;
        long = ap (λ (n : ℕ). suc n) among.long;
        before_apart = (first.1, among.before_apart);
        after_apart = among.after_apart;
      };
    }

-- ---- all turns

record Served (c place : ℕ) (facts : List Fact) (did : Doing) (server : Server) : Type 0 where
  facts_are : facts_appended c server.acts ≡ facts ++ facts_appended c did.acts
  among : Among c place did.site server.sites

all_turns : (config : Config) (c place count : ℕ) (site : Site) (server : Server) (given : List (List Given)) → Among c place site server.sites
    → length server.sites ≡ count → AllByRecursion (λ turn. length turn ≡ count) given
    → Served c place (facts_appended c server.acts) (turns_alone config site (given_at place given)) (fold (after_turn config) server given)
all_turns config c place count site server [] among many each = record { facts_are = sym (append-nil (facts_appended c server.acts)); among = among }
all_turns config c place count site server (turn ∷ given) among many each =
    let g = given_to place turn in
    let did = turn_of config site g in
    let all = turns_of config server.sites turn in
    let split : Turned c place did all =
    subst (λ (sites : List Site). Turned c place did (turns_of config sites turn)) (sym among.are)
    (subst (λ (n : ℕ). Turned c n (turn_of config site (given_to n turn)) (turns_of config (among.before ++ site ∷ among.after) turn)) among.long
    (turned config c among.before site among.after turn (each.0 ∙ (sym many ∙ ap (λ (sites : List Site). length sites) among.are)) among.before_apart among.after_apart)) in
    let next = after_turn config server turn in
    let rest = all_turns config c place count did.site next given split.among (turned_long config server.sites turn ∙ many) each.1 in
    let later = facts_appended c (turns_alone config did.site (given_at place given)).acts in
    record {
      facts_are = rest.facts_are
          ∙ (ap (λ (fs : List Fact). fs ++ later) (appended_joined c server.acts all.acts ∙ ap (λ (fs : List Fact). facts_appended c server.acts ++ fs) split.facts)
          ∙ (append_assoc (facts_appended c server.acts) (facts_appended c did.acts) later
          ∙ ap (λ (fs : List Fact). facts_appended c server.acts ++ fs) (sym (appended_joined c did.acts (turns_alone config did.site (given_at place given)).acts))));
      among = rest.among;
    }
  where
    turned_long : (config : Config) (sites : List Site) (given : List Given) → length (turns_of config sites given).sites ≡ length sites
    turned_long config [] [] = refl
    turned_long config [] (g ∷ given) = refl
    turned_long config (site ∷ sites) [] = refl
    turned_long config (site ∷ sites) (g ∷ given) = ap (λ (n : ℕ). suc n) (turned_long config sites given)

-- ---- the end

ends_apart : (config : Config) (c : ℕ) (sites : List Site) → AllByRecursion (λ site. site.centre ≢ c) sites → Apart c (persist_all_then_send config sites)
ends_apart config c [] apart = record { facts = refl; sites = tt }
ends_apart config c (site ∷ sites) apart =
    let first = out_apart config c site apart.0 in
    let rest = ends_apart config c sites apart.1 in
    record {
      facts = none_joined c (persist_then_send config site).acts (persist_all_then_send config sites).acts first.0 rest.facts;
      sites = (first.1, rest.sites);
    }

ended : (config : Config) (c : ℕ) (before : List Site) (site : Site) (after : List Site)
    → AllByRecursion (λ s. s.centre ≢ c) before → AllByRecursion (λ s. s.centre ≢ c) after
    → Turned c (length before) (persist_then_send config site) (persist_all_then_send config (before ++ site ∷ after))
ended config c [] site after one two =
    let rest = ends_apart config c after two in
    let out = persist_then_send config site in
    record {
      facts = appended_joined c out.acts (persist_all_then_send config after).acts
          ∙ (ap (λ (fs : List Fact). facts_appended c out.acts ++ fs) rest.facts ∙ append-nil (facts_appended c out.acts));
      among = record {
        before = [];
        after = (persist_all_then_send config after).sites;
        are = refl;
        long = refl;
        before_apart = tt;
        after_apart = rest.sites;
      };
    }
ended config c (x ∷ before) site after one two =
    let first = out_apart config c x one.0 in
    let rest = ended config c before site after one.1 two in
    let among = rest.among in
    let ends = persist_all_then_send config (before ++ site ∷ after) in
    record {
      facts = appended_joined c (persist_then_send config x).acts ends.acts
          ∙ (ap (λ (fs : List Fact). fs ++ facts_appended c ends.acts) first.0 ∙ rest.facts);
      among = record {
        before = (persist_then_send config x).site ∷ among.before;
        after = among.after;
        are = ap (λ (sites : List Site). (persist_then_send config x).site ∷ sites) among.are;
        long = ap (λ (n : ℕ). suc n) among.long;
        before_apart = (first.1, among.before_apart);
        after_apart = among.after_apart;
      };
    }

-- ---- the start

boot_here : (log : Log) → appended_by log.centre (Act.Append log.centre (next_boot log.facts ∷ [])) ≡ next_boot log.facts ∷ []
boot_here log = let same : (log.centre == log.centre) ≡ true = grind (arith, nat_tests) in rw same refl

boot_apart : (c : ℕ) (log : Log) → log.centre ≢ c → appended_by c (Act.Append log.centre (next_boot log.facts ∷ [])) ≡ []
boot_apart c log other = rw apart refl
  where
    apart : (log.centre == c) ≡ false
    apart = elim (cases_Bool (log.centre == c)) [
      | inl e ↦ absurd (other (eqb-true log.centre c e))
      | inr e ↦ e
    ]

boots_apart : (c : ℕ) (logs : List Log) → AllByRecursion (λ log. log.centre ≢ c) logs → facts_appended c (map (λ log. Act.Append log.centre (next_boot log.facts ∷ [])) logs) ≡ []
boots_apart c [] apart = refl
boots_apart c (log ∷ logs) apart = ap₂ (λ (x y : List Fact). x ++ y) (boot_apart c log apart.0) (boots_apart c logs apart.1)

boots_among : (front : List Log) (log : Log) (back : List Log) → AllByRecursion (λ other. other.centre ≢ log.centre) front → AllByRecursion (λ other. other.centre ≢ log.centre) back
    → facts_appended log.centre (map (λ one. Act.Append one.centre (next_boot one.facts ∷ [])) (front ++ log ∷ back)) ≡ next_boot log.facts ∷ []
boots_among [] log back one two = ap₂ (λ (x y : List Fact). x ++ y) (boot_here log) (boots_apart log.centre back two)
boots_among (x ∷ front) log back one two = ap₂ (λ (x y : List Fact). x ++ y) (boot_apart log.centre x one.0) (boots_among front log back one.1 two)

bound_none : (c at : ℕ) (address : Option Address) → facts_appended c (bound_at at address) ≡ []
bound_none c at None = refl
bound_none c at (Some address) = refl

endpoints_none : (config : Config) (c : ℕ) (sites : List Site) → facts_appended c (flat_map (endpoints_of config) sites) ≡ []
endpoints_none config c [] = refl
endpoints_none config c (site ∷ sites) =
    none_joined c (endpoints_of config site) (flat_map (endpoints_of config) sites)
    (none_joined c (bound_at site.centre (address_above config 0 site.centre)) (bound_at (site.centre + 16) (address_above config 16 site.centre))
    (bound_none c site.centre (address_above config 0 site.centre)) (bound_none c (site.centre + 16) (address_above config 16 site.centre)))
    (endpoints_none config c sites)

lines_none : (c : ℕ) (sites : List Site) → facts_appended c (flat_map boot_line sites) ≡ []
lines_none c [] = refl
lines_none c (site ∷ sites) = lines_none c sites

sites_apart : (c : ℕ) (logs : List Log) → AllByRecursion (λ log. log.centre ≢ c) logs → AllByRecursion (λ site. site.centre ≢ c) (map site_of logs)
sites_apart c [] apart = tt
sites_apart c (log ∷ logs) apart = (apart.0, sites_apart c logs apart.1)

pub centres_alone : (config : Config) (front : List Log) (log : Log) (back : List Log) (given : List (List Given))
    → AllByRecursion (λ turn. length turn ≡ length (front ++ log ∷ back)) given
    → AllByRecursion (λ other. other.centre ≢ log.centre) front → AllByRecursion (λ other. other.centre ≢ log.centre) back
    → DoesItsTurns config (length front) log given (served config (front ++ log ∷ back) given)
centres_alone config front log back given each one two =
    let logs = front ++ log ∷ back in
    let server = opened config logs in
    let c = log.centre in
    let sites = map site_of logs in
    let start : facts_appended c server.acts ≡ next_boot log.facts ∷ [] =
    appended_joined c (starts logs).acts (flat_map (endpoints_of config) sites ++ flat_map boot_line sites)
    ∙ ap₂ (λ (x y : List Fact). x ++ y) (boots_among front log back one two)
    (none_joined c (flat_map (endpoints_of config) sites) (flat_map boot_line sites) (endpoints_none config c sites) (lines_none c sites)) in
    let among : Among c (length front) (site_of log) server.sites = record {
      before = map site_of front;
      after = map site_of back;
      are = map-append site_of front (log ∷ back);
      long = length-map front site_of;
      before_apart = sites_apart c front one;
      after_apart = sites_apart c back two;
    } in
    let place = length front in
    let served_at = given_at place given in
    let all = all_turns config c place (length logs) (site_of log) server given among (length-map logs site_of) each in
    let alone = turns_alone config (site_of log) served_at in
    let last = fold (after_turn config) server given in
    let here = all.among in
    let out = persist_then_send config alone.site in
    let end : Turned c place out (persist_all_then_send config last.sites) =
    subst (λ (sites : List Site). Turned c place out (persist_all_then_send config sites)) (sym here.are)
    (subst (λ (n : ℕ). Turned c n out (persist_all_then_send config (here.before ++ alone.site ∷ here.after))) here.long
    (ended config c here.before alone.site here.after here.before_apart here.after_apart)) in
    let at = end.among in
    record {
      facts = appended_joined c last.acts (persist_all_then_send config last.sites).acts
          ∙ (ap₂ (λ (x y : List Fact). x ++ y) (all.facts_are ∙ ap (λ (fs : List Fact). fs ++ facts_appended c alone.acts) start) end.facts
          ∙ ap (λ (fs : List Fact). next_boot log.facts ∷ fs) (sym (appended_joined c alone.acts out.acts)));
      stands = record { before = at.before; after = at.after; are = at.are; long = at.long };
    }
