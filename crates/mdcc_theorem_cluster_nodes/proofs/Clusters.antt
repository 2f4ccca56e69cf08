-- A cluster of calls is a history of lives.
use Rattle.std.proofs.Common.{Result, List, None, Ok, Option, Some, [], ap, cond, false, inl, inr, refl, subst, sym, ℕ, ◌++◌, ◌==◌, ◌∙◌, ◌∷◌, ◌≡◌, Err, fold, map, append-nil}
use Rattle.std.proofs.lemmas.List.Concat.{flat_map-append}
use Rattle.std.proofs.lemmas.Bool.{cases_Bool, eq-eqb, eqb-true}
use Rattle.std.specs.List.{AllByRecursion}
use Rattle.mdcc_node_boot.specs.Loading.{fact_read}
use Rattle.mdcc_node_log.proofs.Logged.{payloads-read}
use Rattle.mdcc_node_log.specs.Logged.{AreLogged}
use Rattle.mdcc_config.specs.IsConfig.{IsConfig}
use Rattle.mdcc_config.specs.declared.config.Config.{Config}
use Rattle.mdcc_disks.specs.Disks.{Disk}
use Rattle.mdcc_killed_process.specs.Killed.{calls_of_killed, disk_of_killed, held_of_killed, lost_of_killed, may_leave_of_killed}
use Rattle.mdcc_link.specs.Link.{LinkCall}
use Rattle.mdcc_log_file.specs.Area.{payloads}
use Rattle.mdcc_def_messages.specs.Spelling.{encodings_of}
use Rattle.mdcc_def_messages.specs.WellFormed.{IsWellFormedFact}
use Rattle.mdcc_def_messages.specs.declared.facts.Fact.{Fact}
use Rattle.mdcc_def_rules.specs.Steps.{with_new}
use Rattle.mdcc_def_server_runs.specs.Acts.{Act, appended_by, facts_appended}
use Rattle.mdcc_def_server_runs.specs.Servers.{Log}
use Rattle.mdcc_theorem_node_steps.specs.NodeInvariant.{fact_payloads}
use Rattle.mdcc_theorem_clusters.proofs.Discharged.{deployed-logged}
use Rattle.mdcc_theorem_clusters.specs.Headline.{IsToldTruly}
use Rattle.mdcc_theorem_clusters.specs.Traces.{MayDoNext}
use Rattle.mdcc_theorem_server_lives.proofs.Living.{histories-executed, onto-both}
use Rattle.mdcc_theorem_server_lives.proofs.Telling.{histories-told}
use Rattle.mdcc_theorem_server_lives.specs.Histories
use Rattle.mdcc_theorem_server_lives.specs.Histories.{IsHistory, MayEnd, Present, Underway, at_first, with_life}
use Rattle.mdcc_theorem_server_lives.specs.Lives.{IsLifeOf, Life, onto}
use Rattle.mdcc_theorem_cluster_nodes.proofs.Calls.{called-lives}
use Rattle.mdcc_theorem_cluster_nodes.specs.Areas.{Areas}
use Rattle.mdcc_theorem_cluster_nodes.specs.Clusters.{AreCalls, Cluster, ClusterHasHeadline, FrontsAreCalls, HasSince, HeadlineOfCalls, IsCalled, KilledCallsAreLives, Lives, LivesFrom, Running, MayBeNext, MayCall, MayReturn, ClusterStep, after_run_act_at, after_acts_left, acts_left_of, after_cluster_step, after_cluster_steps, no_calls, with_now}

-- ---- histories grow at their end

steps-more : (present : Present) (xs ys : List Histories.Step) → Histories.after_life_steps present (xs ++ ys) ≡ Histories.after_life_steps (Histories.after_life_steps present xs) ys
steps-more present [] ys = refl
steps-more present (x ∷ xs) ys = steps-more (Histories.after_life_step present x) xs ys

history-more : (config : Config) (present : Present) (xs ys : List Histories.Step) → IsHistory config present xs → IsHistory config (Histories.after_life_steps present xs) ys → IsHistory config present (xs ++ ys)
history-more config present [] ys h k = k
history-more config present (x ∷ xs) ys h k = (h.0, history-more config (Histories.after_life_step present x) xs ys h.1 k)

-- ---- well-formed facts are known by their encodings

onto-last : (start : List Fact) (all : List (Option Fact)) (fact : Fact) → fold (λ facts one. with_new facts one) start (all ++ Some fact ∷ []) ≡ fact ∷ fold (λ facts one. with_new facts one) start all
onto-last start [] fact = refl
onto-last start (one ∷ all) fact = onto-last (with_new start one) all fact

pub facts-back : (facts : List Fact) → fold (λ before one. with_new before one) [] (fact_payloads facts) ≡ facts
facts-back [] = refl
facts-back (fact ∷ facts) = onto-last [] (fact_payloads facts) fact ∙ ap (λ (xs : List Fact). fact ∷ xs) (facts-back facts)

pub ok-same : (r : Result (List (List ℕ)) ℕ) (xs ys : List (List ℕ)) → r ≡ Ok xs → r ≡ Ok ys → xs ≡ ys
ok-same (Err offset) xs ys e f = absurd (cc)
ok-same (Ok zs) xs ys e f = let one : zs ≡ xs = cc in let two : zs ≡ ys = cc in sym one ∙ two

same-facts : (one other : List Fact) → AllByRecursion IsWellFormedFact one → AllByRecursion IsWellFormedFact other → encodings_of one ≡ encodings_of other → one ≡ other
same-facts one other w v bytes =
    let all : fact_payloads one ≡ fact_payloads other = sym (payloads-read one w) ∙ (ap (λ (xs : List (List ℕ)). map fact_read xs) bytes ∙ payloads-read other v) in
    sym (facts-back one) ∙ (ap (λ (xs : List (Option Fact)). fold (λ before fact. with_new before fact) [] xs) all ∙ facts-back other)

-- ---- calls and lives

abbrev Reads : Areas → List Fact → Type 0
Reads areas log = payloads areas.first areas.second ≡ Ok (encodings_of log)

-- a centre with no call has the log that is read from its areas, and one with a call lives a life that has the same acts to do and leaves that log
record IsRunning (a : ℕ) (areas : Areas) (log : List Fact) (one : Underway) (run : Running) : Type 0 where
  left : one.left ≡ run.left
  read : Reads areas one.life.kept
  since : HasSince a log run

abbrev Matches : ℕ → Areas → List Fact → Option Underway → Option Running → Type 0
Matches a areas log None None = Reads areas log
Matches a areas log (Some one) (Some run) = IsRunning a areas log one run
Matches a areas log one run = ⊥

record Follows (cluster : Cluster) (present : Present) : Type 0 where
  done : cluster.done ≡ present.done
  each : (a : ℕ) → Matches a (cluster.areas a) (present.log a) (present.now a) (cluster.now a)

-- after a step of this centre
follows-with : (cluster : Cluster) (present : Present) (a : ℕ) (done : List (ℕ × Act)) (areas : ℕ → Areas) (acts : Option Running) (life : Option Underway) (log : List Fact)
    → Follows cluster present → ((b : ℕ) → (a == b) ≡ false → areas b ≡ cluster.areas b) → Matches a (areas a) log life acts
    → Follows (record { done = done; areas = areas; now = λ b. cond (a == b) acts (cluster.now b) }) (with_life done present a life log)
follows-with cluster present a done areas acts life log f same m = record { done = refl; each = each }
  where
    each : (b : ℕ) → Matches b (areas b) (cond (a == b) log (present.log b)) (cond (a == b) life (present.now b)) (cond (a == b) acts (cluster.now b))
    each b =
        elim (cases_Bool (a == b)) [
          | inl e ↦ rw e (subst (λ (z : ℕ). Matches z (areas z) log life acts) (eqb-true a b e) m)
          | inr e ↦ rw e (subst (λ (found : Areas). Matches b found (present.log b) (present.now b) (cluster.now b)) (sym (same b e)) (f.each b))
        ]

module _ {D L O : Type 0} (disk : D → ℕ → Disk) (may_leave : D → ℕ → List ℕ → Type 0) (tears : ℕ → Type 0) (calls : L → Option (List LinkCall)) (lost : L → ℕ) (held : O → Option (List ℕ)) (config : Config) (is : IsConfig config) where
  record Goes (cluster : Cluster) : Type 0 where
    steps : List Histories.Step
    history : IsHistory config at_first steps
    follows : Follows cluster (Histories.after_life_steps at_first steps)

  one-more : (cluster next : Cluster) (g : Goes cluster) (step : Histories.Step) → Histories.MayBeNext config (Histories.after_life_steps at_first g.steps) step → Follows next (Histories.after_life_step (Histories.after_life_steps at_first g.steps) step)
      → Goes next
  one-more cluster next g step may f = record {
    steps = g.steps ++ step ∷ [];
    history = history-more config at_first g.steps (step ∷ []) g.history (may, tt);
    follows = subst (Follows next) (sym (steps-more at_first g.steps (step ∷ []))) f;
  }

  -- ---- a call

  -- the log of a centre has facts that it may have added
  logged : (steps : List Histories.Step) → IsHistory config at_first steps → (a : ℕ) → AreLogged config.cluster ((Histories.after_life_steps at_first steps).log a)
  logged steps h a =
      let x = histories-executed config is steps h in
      let l = deployed-logged config is x.moves x.executed a in
      subst (AreLogged config.cluster) (sym (x.logs a)) (record { allowed = l.allowed; well_formed = l.formed })

  nobody : (a : ℕ) (areas : Areas) (log : List Fact) (o : Option Underway) → Matches a areas log o None → (o ≡ None) × Reads areas log
  nobody a areas log None m = (refl, m)
  nobody a areas log (Some one) m = absurd m

  somebody : (a : ℕ) (areas : Areas) (log : List Fact) (o : Option Underway) (run : Running) → Matches a areas log o (Some run) → HasSince a log run
  somebody a areas log None run m = absurd m
  somebody a areas log (Some one) run m = m.since

  module _ (cluster : Cluster) (g : Goes cluster) (a : ℕ) (acts : List Act) (left : Areas) where
    abbrev here : Present
    here = Histories.after_life_steps at_first g.steps

    abbrev log_here : Log
    log_here = record { centre = a; facts = here.log a }

    free : cluster.now a ≡ None → (here.now a ≡ None) × Reads (cluster.areas a) (here.log a)
    free alone = nobody a (cluster.areas a) (here.log a) (here.now a) (subst (Matches a (cluster.areas a) (here.log a) (here.now a)) alone (g.follows.each a))

    -- it is this life
    life-goes : (life : Life) → life.centre ≡ a → life.log ≡ here.log a → life.acts ≡ acts → IsLifeOf config life → Reads left life.kept → (here.now a ≡ None) × Reads (cluster.areas a) (here.log a)
        → Goes (after_cluster_step cluster (ClusterStep.Calls a acts left))
    life-goes life centre own same of read none =
        let one : Underway = record { life = life; left = life.acts } in
        let run : Running = record { found = cluster.areas a; did = []; left = acts } in
        let since : HasSince a life.log run = record { found = life.log; read = none.1 ∙ ap (λ (log : List Fact). Ok (encodings_of log)) (sym own); since = refl } in
        let f = follows-with cluster here a here.done (λ b. cond (a == b) left (cluster.areas b)) (Some run) (Some one) life.log g.follows (λ b e. rw e refl)
        (rw (eq-eqb a a refl) (record { left = same; read = read; since = since })) in
        one-more cluster (after_cluster_step cluster (ClusterStep.Calls a acts left)) g (Histories.Step.Begins life) (record { alone = ap here.now centre ∙ none.0; log = own ∙ ap here.log (sym centre); is = of })
        (subst (λ (z : ℕ). Follows (after_cluster_step cluster (ClusterStep.Calls a acts left)) (with_life here.done here z (Some one) life.log)) (sym centre) (record { done = g.follows.done; each = f.each }))

    lives-goes : cluster.now a ≡ None → Lives config a (cluster.areas a) acts left → Goes (after_cluster_step cluster (ClusterStep.Calls a acts left))
    lives-goes alone k =
        let at = k log_here refl (free alone).1 (logged g.steps g.history a) in
        life-goes at.life (ap (λ (log : Log). log.centre) at.log_is) (ap (λ (log : Log). log.facts) at.log_is) at.acts_are at.is at.read (free alone)

    called-goes : {D L O : Type 0} (disk : D → ℕ → Disk) (may_leave : D → ℕ → List ℕ → Type 0) (tears : ℕ → Type 0) (calls : L → Option (List LinkCall)) (lost : L → ℕ) (held : O → Option (List ℕ)) → cluster.now a ≡ None
        → IsCalled disk may_leave tears calls lost held config a (cluster.areas a) acts left → Goes (after_cluster_step cluster (ClusterStep.Calls a acts left))
    called-goes disk may_leave tears calls lost held alone c = lives-goes alone (called-lives disk may_leave tears calls lost held config a (cluster.areas a) acts left c)

    from-goes : cluster.now a ≡ None → LivesFrom config a (cluster.areas a) acts left → Goes (after_cluster_step cluster (ClusterStep.Calls a acts left))
    from-goes alone k =
        let mine = logged g.steps g.history a in
        let same : k.log.facts ≡ here.log a = same-facts k.log.facts (here.log a) k.allowed.well_formed mine.well_formed
        (ok-same (payloads (cluster.areas a).first (cluster.areas a).second) (encodings_of k.log.facts) (encodings_of (here.log a)) k.read (free alone).1) in
        let at = k.lives in
        life-goes at.life (ap (λ (log : Log). log.centre) at.log_is ∙ k.own) (ap (λ (log : Log). log.facts) at.log_is ∙ same) at.acts_are at.is at.read (free alone)

    call-goes : MayCall disk may_leave tears calls lost held config cluster a acts left → Goes (after_cluster_step cluster (ClusterStep.Calls a acts left))
    call-goes m =
        elim m.called [
          | inl c ↦ called-goes disk may_leave tears calls lost held m.alone c
          | inr others ↦ elim others [
            | inl c ↦ called-goes (disk_of_killed disk) (may_leave_of_killed may_leave) tears (calls_of_killed calls) (lost_of_killed lost) (held_of_killed held) m.alone c
            | inr lives ↦ elim lives [
              | inl k ↦ lives-goes m.alone k
              | inr k ↦ from-goes m.alone k
            ]
          ]
        ]

  -- ---- an act

  -- one more act is done
  since-more : (a : ℕ) (log : List Fact) (run : Running) (act : Act) (left : List Act) → HasSince a log run → HasSince a (onto log (appended_by a act)) (record { found = run.found; did = run.did ++ act ∷ []; left = left })
  since-more a log run act left h = record {
    found = h.found;
    read = h.read;
    since = ap (λ (xs : List Fact). onto xs (appended_by a act)) h.since
        ∙ (sym (onto-both h.found (facts_appended a run.did) (appended_by a act))
        ∙ ap (onto h.found) (ap (λ (xs : List Fact). facts_appended a run.did ++ xs) (sym (append-nil (appended_by a act))) ∙ sym (flat_map-append (appended_by a) run.did (act ∷ []))));
  }

  does-left : (cluster : Cluster) (present : Present) (a : ℕ) → Follows cluster present → (one : Underway) (run : Running) → Reads (cluster.areas a) one.life.kept → HasSince a (present.log a) run → (left acts : List Act) → left ≡ acts
      → Follows (after_acts_left cluster a run acts) (Histories.after_left present a one.life left)
  does-left cluster present a f one run read since [] [] e = f
  does-left cluster present a f one run read since [] (act ∷ acts) e = absurd (cc)
  does-left cluster present a f one run read since (act ∷ left) [] e = absurd (cc)
  does-left cluster present a f one run read since (x ∷ left) (act ∷ acts) e =
      let same : x ≡ act = cc in
      let later : left ≡ acts = cc in
      let next : Running = record { found = run.found; did = run.did ++ act ∷ []; left = acts } in
      let log : List Fact = onto (present.log a) (appended_by a x) in
      let more : HasSince a log next = subst (λ (z : Act). HasSince a (onto (present.log a) (appended_by a z)) next) (sym same) (since-more a (present.log a) run act acts since) in
      let g = follows-with cluster present a ((a, x) ∷ present.done) cluster.areas (Some next) (Some (record { life = one.life; left = left })) log f (λ b o. refl) (record { left = later; read = read; since = more }) in
      record { done = ap (λ (z : Act). (a, z) ∷ cluster.done) (sym same) ∙ ap (λ (done : List (ℕ × Act)). (a, x) ∷ done) f.done; each = g.each }

  does-follows : (cluster : Cluster) (present : Present) (a : ℕ) → Follows cluster present → (o : Option Underway) (now : Option Running) → Matches a (cluster.areas a) (present.log a) o now
      → Follows (after_run_act_at cluster a now) (Histories.after_act_at present a o)
  does-follows cluster present a f None None m = f
  does-follows cluster present a f None (Some run) m = absurd m
  does-follows cluster present a f (Some one) None m = absurd m
  does-follows cluster present a f (Some one) (Some run) m = does-left cluster present a f one run m.read m.since one.left run.left m.left

  may-do : (areas : Areas) (log : List Fact) (done : List (ℕ × Act)) (a : ℕ) (o : Option Underway) (now : Option Running) → Matches a areas log o now → MayDoNext done a (acts_left_of now) → MayDoNext done a (Histories.life_left_of o)
  may-do areas log done a None None m h = h
  may-do areas log done a None (Some run) m h = absurd m
  may-do areas log done a (Some one) None m h = absurd m
  may-do areas log done a (Some one) (Some run) m h = subst (λ (left : List Act). MayDoNext done a (Some left)) (sym m.left) h

  -- ---- an end

  ends-follows : (cluster : Cluster) (present : Present) (a : ℕ) → Follows cluster present → (o : Option Underway) (now : Option Running) → present.now a ≡ o → Matches a (cluster.areas a) (present.log a) o now
      → Follows (with_now cluster.done cluster a None) (Histories.after_end_at present a o)
  ends-follows cluster present a f None None is m = record {
    done = f.done;
    each = λ b. elim (cases_Bool (a == b)) [
      | inl e ↦
          let same : a ≡ b = eqb-true a b e in
          rw e (subst (λ (o : Option Underway). Matches b (cluster.areas b) (present.log b) o None) (sym (ap present.now (sym same) ∙ is)) (subst (λ (z : ℕ). Reads (cluster.areas z) (present.log z)) same m))
      | inr e ↦ rw e (f.each b)
    ];
  }
  ends-follows cluster present a f None (Some run) is m = absurd m
  ends-follows cluster present a f (Some one) None is m = absurd m
  ends-follows cluster present a f (Some one) (Some run) is m =
      let g = follows-with cluster present a present.done cluster.areas None None one.life.kept f (λ b o. refl) m.read in
      record { done = f.done; each = g.each }

  may-end : (a : ℕ) (areas : Areas) (log : List Fact) (o : Option Underway) (now : Option Running) → Matches a areas log o now → MayReturn now → MayEnd o
  may-end a areas log None None m h = tt
  may-end a areas log None (Some run) m h = tt
  may-end a areas log (Some one) None m h = absurd m
  may-end a areas log (Some one) (Some run) m h = m.left ∙ h

  -- ---- all steps

  step-goes : (cluster : Cluster) → Goes cluster → (step : ClusterStep) → MayBeNext disk may_leave tears calls lost held config cluster step → Goes (after_cluster_step cluster step)
  step-goes cluster g (ClusterStep.Calls a acts left) m = call-goes cluster g a acts left m
  step-goes cluster g (ClusterStep.Acts a) m =
      let present : Present = Histories.after_life_steps at_first g.steps in
      one-more cluster (after_run_act_at cluster a (cluster.now a)) g (Histories.Step.Does a)
      (subst (λ (done : List (ℕ × Act)). MayDoNext done a (Histories.life_left_of (present.now a))) g.follows.done
      (may-do (cluster.areas a) (present.log a) cluster.done a (present.now a) (cluster.now a) (g.follows.each a) m))
      (does-follows cluster present a g.follows (present.now a) (cluster.now a) (g.follows.each a))
  step-goes cluster g (ClusterStep.Returns a) m =
      let present : Present = Histories.after_life_steps at_first g.steps in
      one-more cluster (with_now cluster.done cluster a None) g (Histories.Step.Ends a) (may-end a (cluster.areas a) (present.log a) (present.now a) (cluster.now a) (g.follows.each a) m)
      (ends-follows cluster present a g.follows (present.now a) (cluster.now a) refl (g.follows.each a))

  steps-go : (cluster : Cluster) → Goes cluster → (steps : List ClusterStep) → AreCalls disk may_leave tears calls lost held config cluster steps → Goes (after_cluster_steps cluster steps)
  steps-go cluster g [] h = g
  steps-go cluster g (step ∷ steps) h = steps-go (after_cluster_step cluster step) (step-goes cluster g step h.0) steps h.1

  goes-told : (cluster : Cluster) → Goes cluster → ClusterHasHeadline config cluster
  goes-told cluster g =
      let present : Present = Histories.after_life_steps at_first g.steps in
      let told = histories-told config is g.steps g.history in
      record {
        durable = told.durable;
        read = λ a none.
            let free = nobody a (cluster.areas a) (present.log a) (present.now a) (subst (Matches a (cluster.areas a) (present.log a) (present.now a)) none (g.follows.each a)) in
            free.1 ∙ ap (λ (log : List Fact). Ok (encodings_of log)) (told.logs a);
        on = λ a run is.
            let h = somebody a (cluster.areas a) (present.log a) (present.now a) run (subst (Matches a (cluster.areas a) (present.log a) (present.now a)) is (g.follows.each a)) in
            subst (λ (log : List Fact). HasSince a log run) (told.logs a) h;
        allowed = λ a none. subst (AreLogged config.cluster) (told.logs a) (logged g.steps g.history a);
        told = subst (λ (done : List (ℕ × Act)). IsToldTruly config done told.durable) (sym g.follows.done) told.told;
      }

pub calls-told : {D L O : Type 0} (disk : D → ℕ → Disk) (may_leave : D → ℕ → List ℕ → Type 0) (tears : ℕ → Type 0) (calls : L → Option (List LinkCall)) (lost : L → ℕ) (held : O → Option (List ℕ))
    → HeadlineOfCalls disk may_leave tears calls lost held
calls-told disk may_leave tears calls lost held config is areas empty steps h =
    goes-told disk may_leave tears calls lost held config is (after_cluster_steps (no_calls areas) steps)
    (steps-go disk may_leave tears calls lost held config is (no_calls areas) (record { steps = []; history = tt; follows = record { done = refl; each = λ a. empty a } }) steps h)

pub fronts-called : {D L O : Type 0} (disk : D → ℕ → Disk) (may_leave : D → ℕ → List ℕ → Type 0) (tears : ℕ → Type 0) (calls : L → Option (List LinkCall)) (lost : L → ℕ) (held : O → Option (List ℕ))
    → FrontsAreCalls disk may_leave tears calls lost held
fronts-called disk may_leave tears calls lost held config cluster [] more h = tt
fronts-called disk may_leave tears calls lost held config cluster (step ∷ first) more h = (h.0, fronts-called disk may_leave tears calls lost held config (after_cluster_step cluster step) first more h.1)

pub killed-lives : {D L O : Type 0} (disk : D → ℕ → Disk) (may_leave : D → ℕ → List ℕ → Type 0) (tears : ℕ → Type 0) (calls : L → Option (List LinkCall)) (lost : L → ℕ) (held : O → Option (List ℕ))
    → KilledCallsAreLives disk may_leave tears calls lost held
killed-lives disk may_leave tears calls lost held config a found acts left killed =
    called-lives (disk_of_killed disk) (may_leave_of_killed may_leave) tears (calls_of_killed calls) (lost_of_killed lost) (held_of_killed held) config a found acts left killed
