-- A server of one centre: its acts, and where it is after so many turns.
use Rattle.std.proofs.Common.{List, [], ap, append-nil, append_assoc, arith, fold, length, map, refl, sym, ◌++◌, ◌∙◌, ◌∷◌, ◌≡◌}
use Rattle.std.specs.List.{AllByRecursion}
use Rattle.mdcc_config.specs.declared.config.Config.{Config}
use Rattle.mdcc_theorem_server_runs.specs.Centres.{given_at}
use Rattle.mdcc_theorem_server_runs.specs.Inputs.{turns, turns_alone}
use Rattle.mdcc_def_server_runs.specs.Acts.{Act}
use Rattle.mdcc_def_server_runs.specs.Sending.{persist_then_send}
use Rattle.mdcc_def_server_runs.specs.Servers.{Log, Server, after_last, after_turn, opened, served, site_of}
use Rattle.mdcc_def_server_runs.specs.Sites.{Site}
use Rattle.mdcc_def_server_runs.specs.Turns.{Given, turn_of}
use Rattle.mdcc_serve.specs.Stages.{after_turns}
use Rattle.mdcc_theorem_clusters.proofs.Tracing.{acts-are, rest}
use Rattle.mdcc_theorem_clusters.specs.Traces.{acts_of}

-- ---- what its receives gave

abbrev pub alone : List Given → List (List Given)
alone given = map (λ (turn : Given). turn ∷ []) given

pub singles : (given : List (List Given)) → AllByRecursion (λ (turn : List Given). length turn ≡ 1) given → alone (given_at 0 given) ≡ given
singles [] h = refl
singles ([] ∷ given) h = absurd (omega (arith, h.0))
singles ((g ∷ []) ∷ given) h = ap (λ (xs : List (List Given)). (g ∷ []) ∷ xs) (singles given h.1)
singles ((g ∷ (k ∷ turn)) ∷ given) h = absurd (omega (arith, h.0))

-- ---- its acts

module _ (config : Config) where
  abbrev pub server_at : List Act → Site → Server
  server_at acts site = record { acts = acts; sites = site ∷ [] }

  turned-one : (acts : List Act) (site : Site) (given : List Given) → fold (after_turn config) (server_at acts site) (alone given) ≡ server_at (acts ++ (turns_alone config site given).acts) (turns_alone config site given).site
  turned-one acts site [] = ap (λ (xs : List Act). server_at xs site) (sym (append-nil acts))
  turned-one acts site (g ∷ given) =
      let turn : List Act = (turn_of config site g).acts in
      let next : Site = (turn_of config site g).site in
      let more : List Act = (turns_alone config next given).acts in
      turned-one (acts ++ (turn ++ [])) next given
      ∙ ap (λ (xs : List Act). server_at xs (turns_alone config next given).site) (ap (λ (xs : List Act). (acts ++ xs) ++ more) (append-nil turn) ∙ append_assoc acts turn more)

  -- after these turns
  pub after-turns : (log : Log) (given : List (List Given)) → AllByRecursion (λ (turn : List Given). length turn ≡ 1) given
      → after_turns config (log ∷ []) given
      ≡ server_at ((opened config (log ∷ [])).acts ++ (turns_alone config (site_of log) (given_at 0 given)).acts) (turns_alone config (site_of log) (given_at 0 given)).site
  after-turns log given each =
      ap (λ (xs : List (List Given)). after_turns config (log ∷ []) xs) (sym (singles given each)) ∙ turned-one (opened config (log ∷ [])).acts (site_of log) (given_at 0 given)

  pub rest-is : (site : Site) (given : List Given) → rest config site given ≡ (turns config site given).acts
  rest-is site [] = refl
  rest-is site (g ∷ given) =
      let turn : List Act = (turn_of config site g).acts in
      let next : Site = (turn_of config site g).site in
      ap (λ (xs : List Act). turn ++ xs) (rest-is next given) ∙ sym (append_assoc turn (turns_alone config next given).acts (persist_then_send config (turns_alone config next given).site).acts)

  -- one turn more
  pub rest-more : (site : Site) (given : List Given) (g : Given) → rest config site (given ++ g ∷ [])
      ≡ (turns_alone config site given).acts ++ ((turn_of config (turns_alone config site given).site g).acts ++ (persist_then_send config (turn_of config (turns_alone config site given).site g).site).acts)
  rest-more site [] g = refl
  rest-more site (k ∷ given) g =
      let turn : List Act = (turn_of config site k).acts in
      let next : Site = (turn_of config site k).site in
      let last : Site = (turns_alone config next given).site in
      ap (λ (xs : List Act). turn ++ xs) (rest-more next given g)
      ∙ sym (append_assoc turn (turns_alone config next given).acts ((turn_of config last g).acts ++ (persist_then_send config (turn_of config last g).site).acts))

  pub served-acts : (log : Log) (given : List (List Given)) → AllByRecursion (λ (turn : List Given). length turn ≡ 1) given → (served config (log ∷ []) given).acts ≡ acts_of config log (given_at 0 given)
  served-acts log given each = ap (λ (xs : List (List Given)). (served config (log ∷ []) xs).acts) (sym (singles given each))

  -- the centre afterwards
  pub served-site : (log : Log) (given : List (List Given)) → AllByRecursion (λ (turn : List Given). length turn ≡ 1) given
      → (served config (log ∷ []) given).sites ≡ (turns config (site_of log) (given_at 0 given)).site ∷ []
  served-site log given each = ap (λ (s : Server). (after_last config s).sites) (after-turns log given each)

  pub all-acts : (log : Log) (given : List Given) → acts_of config log given ≡ (opened config (log ∷ [])).acts ++ (turns config (site_of log) given).acts
  all-acts log given = acts-are config log given ∙ ap (λ (xs : List Act). (opened config (log ∷ [])).acts ++ xs) (rest-is (site_of log) given)

-- ---- the one centre among its centres

pub record IsOnly (s : Site) (front : List Site) (site : Site) : Type 0 where
  pub none : front ≡ []
  pub same : site ≡ s

nothing-then : (front : List Site) (site : Site) (back : List Site) → [] ≡ front ++ site ∷ back → ⊥
nothing-then [] site back e = absurd (cc)
nothing-then (x ∷ front) site back e = absurd (cc)

pub only-one : (s : Site) (front : List Site) (site : Site) (back : List Site) → s ∷ [] ≡ front ++ site ∷ back → IsOnly s front site
only-one s [] site back e = record { none = refl; same = cc }
only-one s (x ∷ front) site back e = let later : [] ≡ front ++ site ∷ back = cc in absurd (nothing-then front site back later)
