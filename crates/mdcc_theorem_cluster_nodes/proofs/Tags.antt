-- Acts of several centres, each with the centre that does it.
use Rattle.std.proofs.Common.{Bool, List, None, Option, Some, [], ap, cond, false, inl, inr, map, refl, sym, true, ℕ, ◌+◌, ◌++◌, ◌==◌, ◌∙◌, ◌∷◌, ◌≡◌, ◌⊎◌}
use Rattle.std.proofs.lemmas.Bool.{cases_Bool}
use Rattle.std.proofs.lemmas.List.Concat.{flat_map-append}
use Rattle.mdcc_base.specs.declared.outside.Address.{Address}
use Rattle.mdcc_config.specs.IsConfig.{address_above}
use Rattle.mdcc_config.specs.declared.config.Config.{Config}
use Rattle.mdcc_def_messages.specs.declared.facts.Fact.{Fact}
use Rattle.mdcc_theorem_server_runs.proofs.Outgoing.{out_appends}
use Rattle.mdcc_theorem_server_runs.proofs.Turned.{inputs_run}
use Rattle.mdcc_def_server_runs.specs.Acts.{Act, appended_by, but_answer, but_answers, facts_appended}
use Rattle.mdcc_def_server_runs.specs.Sending.{persist_then_send}
use Rattle.mdcc_def_server_runs.specs.Servers.{Log, boot_line, bound_at, endpoints_of, site_of, turns_of}
use Rattle.mdcc_def_server_runs.specs.Sites.{Site}
use Rattle.mdcc_def_server_runs.specs.Turns.{Given, is_held, released, turn_inputs_taken, turn_of}
use Rattle.mdcc_theorem_trace_states.proofs.Lists.{Each-append}
use Rattle.mdcc_theorem_trace_states.specs.Words.{Each}
use Rattle.mdcc_theorem_clusters.specs.Clusters.{facts_in_flight as in_flight_of}
use Rattle.mdcc_theorem_clusters.specs.Several.{acts_by, acts_served_by, boot_lines_by, boots_by, endpoints_by, last_by, tagged_acts, turn_by, turns_by}
use Rattle.mdcc_theorem_server_lives.proofs.Living.{same-appended}
use Rattle.mdcc_theorem_server_lives.specs.Histories.{but_all_answers}

abbrev pub untagged : List (ℕ × Act) → List Act
untagged acts = map (λ (one : ℕ × Act). one.1) acts

-- ---- real acts with the centres of those that they are

pub record IsTagged (acts left : List Act) (all : List (ℕ × Act)) : Type 0 where
  pub own : List (ℕ × Act)
  pub others : List (ℕ × Act)
  pub are : untagged own ≡ acts
  pub rest : untagged others ≡ left
  pub both : but_all_answers own ++ others ≡ all

pub tag-them : (acts left : List Act) (all : List (ℕ × Act)) → but_answers acts ++ left ≡ untagged all → IsTagged acts left all
tag-them [] left all e = record { own = []; others = all; are = refl; rest = sym e; both = refl }
tag-them (act ∷ acts) left [] e = absurd (cc)
tag-them (act ∷ acts) left (one ∷ all) e =
    let first : but_answer act ≡ one.1 = cc in
    let later : but_answers acts ++ left ≡ untagged all = cc in
    let more = tag-them acts left all later in
    record {
      own = (one.0, act) ∷ more.own;
      others = more.others;
      are = ap (λ (xs : List Act). act ∷ xs) more.are;
      rest = more.rest;
      both = ap (λ (z : Act). (one.0, z) ∷ (but_all_answers more.own ++ more.others)) first ∙ ap (λ (xs : List (ℕ × Act)). one ∷ xs) more.both;
    }

pub own-both : (c : ℕ) (xs ys : List (ℕ × Act)) → acts_by c (xs ++ ys) ≡ acts_by c xs ++ acts_by c ys
own-both c [] ys = refl
own-both c (x ∷ xs) ys =
    elim (cases_Bool (x.0 == c)) [
      | inl e ↦ rw e (ap (λ (acts : List Act). x.1 ∷ acts) (own-both c xs ys))
      | inr e ↦ rw e (own-both c xs ys)
    ]

pub own-answers : (c : ℕ) (xs : List (ℕ × Act)) → acts_by c (but_all_answers xs) ≡ but_answers (acts_by c xs)
own-answers c [] = refl
own-answers c (x ∷ xs) =
    elim (cases_Bool (x.0 == c)) [
      | inl e ↦ rw e (ap (λ (acts : List Act). but_answer x.1 ∷ acts) (own-answers c xs))
      | inr e ↦ rw e (own-answers c xs)
    ]

-- ---- a centre appends to its own log alone

abbrev pub IsOwn : ℕ × Act → Type 0
IsOwn one = (c : ℕ) → (one.0 == c) ≡ false → appended_by c one.1 ≡ []

abbrev pub AreOwn : ℕ → List Act → Type 0
AreOwn a acts = (c : ℕ) → (a == c) ≡ false → facts_appended c acts ≡ []

nothing-first : (xs ys : List Fact) → xs ++ ys ≡ [] → xs ≡ []
nothing-first [] ys e = refl
nothing-first (x ∷ xs) ys e = absurd (cc)

nothing-later : (xs ys : List Fact) → xs ++ ys ≡ [] → ys ≡ []
nothing-later [] ys e = e
nothing-later (x ∷ xs) ys e = absurd (cc)

none-both : (c : ℕ) (xs ys : List Act) → facts_appended c xs ≡ [] → facts_appended c ys ≡ [] → facts_appended c (xs ++ ys) ≡ []
none-both c xs ys one two = flat_map-append (appended_by c) xs ys ∙ (ap (λ (facts : List Fact). facts ++ facts_appended c ys) one ∙ two)

own-tagged : (a : ℕ) (acts : List Act) → AreOwn a acts → Each IsOwn (tagged_acts a acts)
own-tagged a [] own = tt
own-tagged a (act ∷ acts) own =
    (λ c o. nothing-first (appended_by c act) (facts_appended c acts) (own c o), own-tagged a acts (λ c o. nothing-later (appended_by c act) (facts_appended c acts) (own c o)))

bound-none : (c at : ℕ) (o : Option Address) → facts_appended c (bound_at at o) ≡ []
bound-none c at None = refl
bound-none c at (Some address) = refl

module _ (config : Config) where
  boots-own : (logs : List Log) → Each IsOwn (boots_by logs)
  boots-own [] = tt
  boots-own (log ∷ logs) = (λ c o. rw o refl, boots-own logs)

  endpoints-own : (logs : List Log) → Each IsOwn (endpoints_by config logs)
  endpoints-own [] = tt
  endpoints-own (log ∷ logs) =
      Each-append IsOwn (tagged_acts log.centre (endpoints_of config (site_of log))) (endpoints_by config logs)
      (own-tagged log.centre (endpoints_of config (site_of log))
      (λ c o. none-both c (bound_at log.centre (address_above config 0 log.centre)) (bound_at (log.centre + 16) (address_above config 16 log.centre)) (bound-none c log.centre (address_above config 0 log.centre))
      (bound-none c (log.centre + 16) (address_above config 16 log.centre)))) (endpoints-own logs)

  lines-own : (logs : List Log) → Each IsOwn (boot_lines_by logs)
  lines-own [] = tt
  lines-own (log ∷ logs) = Each-append IsOwn (tagged_acts log.centre (boot_line (site_of log))) (boot_lines_by logs) (own-tagged log.centre (boot_line (site_of log)) (λ c o. refl)) (lines-own logs)

  out-own : (site : Site) (a : ℕ) → site.centre ≡ a → AreOwn a (persist_then_send config site).acts
  out-own site a same c o = out_appends config site c ∙ ap (λ (b : Bool). cond b site.pending.facts []) (ap (λ (z : ℕ). z == c) same ∙ o)

  released-own : (held : Bool) (site : Site) (a : ℕ) → site.centre ≡ a → AreOwn a (released config held site).acts
  released-own true site a same c o = refl
  released-own false site a same c o = out-own site a same c o

  turn-own : (site : Site) (given : Given) → AreOwn site.centre (turn_of config site given).acts
  turn-own site given c o =
      let inputs = turn_inputs_taken config site given in
      let runs = inputs_run config site given in
      none-both c inputs.acts (released config (is_held given inputs) inputs.site).acts (runs.inward.facts_are c) (released-own (is_held given inputs) inputs.site site.centre runs.centre_is c o)

  turn-all-own : (sites : List Site) (given : List Given) → Each IsOwn (turn_by config sites given)
  turn-all-own [] [] = tt
  turn-all-own [] (g ∷ given) = tt
  turn-all-own (site ∷ sites) [] = tt
  turn-all-own (site ∷ sites) (g ∷ given) =
      Each-append IsOwn (tagged_acts site.centre (turn_of config site g).acts) (turn_by config sites given) (own-tagged site.centre (turn_of config site g).acts (turn-own site g)) (turn-all-own sites given)

  last-own : (sites : List Site) → Each IsOwn (last_by config sites)
  last-own [] = tt
  last-own (site ∷ sites) =
      Each-append IsOwn (tagged_acts site.centre (persist_then_send config site).acts) (last_by config sites) (own-tagged site.centre (persist_then_send config site).acts (out-own site site.centre refl)) (last-own sites)

  turns-own : (sites : List Site) (turns : List (List Given)) → Each IsOwn (turns_by config sites turns)
  turns-own sites [] = last-own sites
  turns-own sites (turn ∷ turns) =
      Each-append IsOwn (turn_by config sites turn) (turns_by config (turns_of config sites turn).sites turns) (turn-all-own sites turn) (turns-own (turns_of config sites turn).sites turns)

  pub all-own : (logs : List Log) (turns : List (List Given)) → Each IsOwn (acts_served_by config logs turns)
  all-own logs turns =
      let start = boots_by logs ++ (endpoints_by config logs ++ boot_lines_by logs) in
      Each-append IsOwn start (turns_by config (map site_of logs) turns)
      (Each-append IsOwn (boots_by logs) (endpoints_by config logs ++ boot_lines_by logs) (boots-own logs) (Each-append IsOwn (endpoints_by config logs) (boot_lines_by logs) (endpoints-own logs) (lines-own logs)))
      (turns-own (map site_of logs) turns)

-- ---- so of its log only its own acts are asked

pub own-first : (xs ys : List (ℕ × Act)) → Each IsOwn (but_all_answers xs ++ ys) → Each IsOwn xs
own-first [] ys h = tt
own-first (x ∷ xs) ys h = (λ c o. sym (same-appended c x.1) ∙ h.0 c o, own-first xs ys h.1)

pub own-later : (xs ys : List (ℕ × Act)) → Each IsOwn (but_all_answers xs ++ ys) → Each IsOwn ys
own-later [] ys h = h
own-later (x ∷ xs) ys h = own-later xs ys h.1

pub own-appended : (c : ℕ) (xs : List (ℕ × Act)) → Each IsOwn xs → facts_appended c (untagged xs) ≡ facts_appended c (acts_by c xs)
own-appended c [] h = refl
own-appended c (x ∷ xs) h =
    elim (cases_Bool (x.0 == c)) [
      | inl e ↦ rw e (ap (λ (facts : List Fact). appended_by c x.1 ++ facts) (own-appended c xs h.1))
      | inr e ↦ rw e (ap (λ (facts : List Fact). facts ++ facts_appended c (untagged xs)) (h.0 c e) ∙ own-appended c xs h.1)
    ]

-- what comes next of all acts is what comes next of its own, or it appends nothing to its log
pub own-flight : (c : ℕ) (xs : List (ℕ × Act)) → Each IsOwn xs → (in_flight_of c (untagged xs) ≡ []) ⊎ (in_flight_of c (untagged xs) ≡ in_flight_of c (acts_by c xs))
own-flight c [] h = inl refl
own-flight c (x ∷ xs) h =
    elim (cases_Bool (x.0 == c)) [
      | inl e ↦ inr (rw e refl)
      | inr e ↦ inl (h.0 c e)
    ]
