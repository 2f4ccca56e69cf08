-- Every history has the acts and the logs of a trace, and so of an execution.
use Rattle.std.proofs.Common.{Bool, Err, List, None, Ok, Option, Result, Some, [], ap, cond, false, flat_map, inl, inr, map, refl, subst, sym, true, ℕ, ◌++◌, ◌==◌, ◌∙◌, ◌∷◌, ◌≡◌, ◌⊎◌}
use Rattle.std.specs.Prelude.{is_ok}
use Rattle.std.proofs.lemmas.Bool.{cases_Bool, eq-eqb, eqb-true}
use Rattle.mdcc_config.specs.IsConfig.{IsConfig}
use Rattle.mdcc_config.specs.declared.config.Config.{Config}
use Rattle.mdcc_def_ledger.specs.AllowedLedgers.{IsAllowed}
use Rattle.mdcc_def_ledger.specs.Ledger.{Added, Entry, Valued, facts_of}
use Rattle.mdcc_def_messages.specs.declared.facts.Fact.{Fact}
use Rattle.mdcc_option.specs.declared.cluster.Cluster.{Cluster}
use Rattle.mdcc_def_protocol.proofs.Plain.{no_floor_more}
use Rattle.mdcc_def_protocol.specs.Facts.{has_floor}
use Rattle.mdcc_def_rules.specs.Boot.{booted_by}
use Rattle.mdcc_def_rules.specs.declared.node.BootFault.{BootFault}
use Rattle.mdcc_def_server_runs.specs.Acts.{Act, appended_by, but_answer, but_answers}
use Rattle.mdcc_def_server_runs.specs.Servers.{Log}
use Rattle.mdcc_theorem_trace_states.proofs.Tests.{add-test}
use Rattle.mdcc_theorem_trace_states.specs.Words.{In}
use Rattle.mdcc_theorem_commit_groups.specs.Groups.{facts_added_in, facts_onto}
use Rattle.mdcc_theorem_node_steps.proofs.Unfloored.{allowed-not-floor}
use Rattle.mdcc_theorem_clusters.specs.Clusters.{facts_in_flight, log_of}
use Rattle.mdcc_theorem_clusters.specs.Executions.{WasSent}
use Rattle.mdcc_theorem_clusters.specs.Traces.{IsLife, IsTrace, LifeEvent, MayDoNext, MayOccur, MayReceive, Traced, acts_to, after_begin_at, after_next_at, life_of, nothing_yet, traced_after_end_at, traced_after_event, traced_after_events, with_left}
use Rattle.mdcc_theorem_clusters.proofs.Standing.{log-facts}
use Rattle.mdcc_theorem_clusters.proofs.TraceHeadline.{trace-headline}
use Rattle.mdcc_theorem_clusters.proofs.Tracing.{traces-executed}
use Rattle.mdcc_theorem_server_lives.proofs.Bounds.{life-within}
use Rattle.mdcc_theorem_server_lives.specs.Lives.{Life, MayKeep, Serves, log_after, log_before, onto}
use Rattle.mdcc_theorem_server_lives.specs.Histories.{HistoriesAreExecutions, IsHistory, MayBeginLife, MayBeNext, MayEnd, Present, Step, Underway, after_act_at, after_end_at as after_over_at, after_left, after_life_step, after_life_steps, at_first, but_all_answers, life_left_of, with_life}

-- ---- logs

pub onto-both : (log xs ys : List Fact) → onto log (xs ++ ys) ≡ onto (onto log xs) ys
onto-both log [] ys = refl
onto-both log (x ∷ xs) ys = onto-both (x ∷ log) xs ys

log-one : (a : ℕ) (fact : Fact) (durable : List (ℕ × Fact)) → log_of ((a, fact) ∷ durable) a ≡ fact ∷ log_of durable a
log-one a fact durable = rw (eq-eqb a a refl) refl

log-other : (a b : ℕ) (fact : Fact) (durable : List (ℕ × Fact)) → (a == b) ≡ false → log_of ((a, fact) ∷ durable) b ≡ log_of durable b
log-other a b fact durable o = rw o refl

-- what becomes durable at a centre comes onto its log
pub log-onto : (a : ℕ) (facts : List Fact) (durable : List (ℕ × Fact)) → log_of (facts_onto a facts durable) a ≡ onto (log_of durable a) facts
log-onto a [] durable = refl
log-onto a (fact ∷ facts) durable = log-onto a facts ((a, fact) ∷ durable) ∙ ap (λ (log : List Fact). onto log facts) (log-one a fact durable)

-- and onto no other
pub log-others : (a b : ℕ) (facts : List Fact) (durable : List (ℕ × Fact)) → (a == b) ≡ false → log_of (facts_onto a facts durable) b ≡ log_of durable b
log-others a b [] durable o = refl
log-others a b (fact ∷ facts) durable o = log-others a b facts ((a, fact) ∷ durable) o ∙ log-other a b fact durable o

-- ---- floors

-- no fact of an allowed ledger is a floor
legal-plain : (cluster : Cluster) (es : List Entry) (a : ℕ) → IsAllowed cluster es → has_floor (facts_of es a) ≡ false
legal-plain cluster [] a h = refl
legal-plain cluster (Entry.Begun b tx choices ∷ es) a h = legal-plain cluster es a h.0
legal-plain cluster (Valued b key version ballot options ∷ es) a h = legal-plain cluster es a h.0
legal-plain cluster (Added b fact ∷ es) a h =
    elim (cases_Bool (b == a)) [
      | inl e ↦ rw e (no_floor_more fact (facts_of es a) (allowed-not-floor cluster (facts_of es b) fact (add-test cluster (facts_of es b) fact h.1.1)) (legal-plain cluster es a h.0))
      | inr e ↦ rw e (legal-plain cluster es a h.0)
    ]

-- so the logs of a trace have none
logs-plain : (config : Config) → IsConfig config → (events : List LifeEvent) → IsTrace config nothing_yet events → (a : ℕ) → has_floor (log_of (traced_after_events config nothing_yet events).durable a) ≡ false
logs-plain config right events h a =
    let found = trace-headline config right events h in
    let logs : log_of (facts_added_in found.ledger) a ≡ facts_of found.ledger a = log-facts found.ledger a in
    subst (λ (durable : List (ℕ × Fact)). has_floor (log_of durable a) ≡ false) found.true_of.facts
    (subst (λ (facts : List Fact). has_floor facts ≡ false) (sym logs) (legal-plain config.cluster found.ledger a found.true_of.sound.legal))

-- ---- what the link answered

pub same-appended : (a : ℕ) (act : Act) → appended_by a (but_answer act) ≡ appended_by a act
same-appended a (Act.Bind at address) = refl
same-appended a (Act.Receive at gave) = refl
same-appended a (Act.Append centre facts) = refl
same-appended a (Act.Send from to bytes answer) = refl
same-appended a (Act.Print line) = refl
same-appended a Act.Stepped = refl
same-appended a Act.Dropped = refl
same-appended a Act.Unsent = refl

In-map : {A B : Type 0} (f : A → B) (xs : List A) (x : A) → In x xs → In (f x) (map f xs)
In-map f [] x i = i
In-map f (y ∷ ys) x i = elim i [ inl e ↦ inl (ap f e) | inr r ↦ inr (In-map f ys x r) ]

sent-then : (done : List (ℕ × Act)) (bytes : List ℕ) → WasSent done bytes → WasSent (but_all_answers done) bytes
sent-then done bytes h = record {
  centre = h.centre;
  from = h.from;
  to = h.to;
  answer = Ok tt;
  one_of = In-map (λ (one : ℕ × Act). (one.0, but_answer one.1)) done (h.centre, Act.Send h.from h.to bytes h.answer) h.one_of;
}

receive-then : (done : List (ℕ × Act)) (a : ℕ) (act : Act) → MayReceive done a act → MayReceive (but_all_answers done) a (but_answer act)
receive-then done a (Act.Receive at (Some bytes)) h = λ e. sent-then done bytes (h e)
receive-then done a (Act.Receive at None) h = tt
receive-then done a (Act.Bind at address) h = tt
receive-then done a (Act.Append centre facts) h = tt
receive-then done a (Act.Send from to bytes answer) h = tt
receive-then done a (Act.Print line) h = tt
receive-then done a Act.Stepped h = tt
receive-then done a Act.Dropped h = tt
receive-then done a Act.Unsent h = tt

-- ---- a history and a trace

-- what its life has still to do is the first that the process of the trace has to do; and what the life leaves is so of the rest
record IsLiving (a : ℕ) (log : List Fact) (left : Option (List Act)) (one : Underway) : Type 0 where
  rest : List Act
  left_is : left ≡ Some (but_answers one.left ++ rest)
  kept : MayKeep a (log_after a log one.left) rest one.life.kept

-- or it has nothing to do, and the trace has no process
record IsIdle (log : List Fact) (left : Option (List Act)) (one : Underway) : Type 0 where
  left_is : left ≡ None
  none : one.left ≡ []
  kept : one.life.kept ≡ log

abbrev Matches : ℕ → List Fact → Option (List Act) → Option Underway → Type 0
Matches a log left None = left ≡ None
Matches a log left (Some one) = IsLiving a log left one ⊎ IsIdle log left one

record Follows (present : Present) (trace : Traced) : Type 0 where
  done : but_all_answers present.done ≡ trace.done
  logs : (a : ℕ) → present.log a ≡ log_of trace.durable a
  each : (a : ℕ) → Matches a (present.log a) (trace.left a) (present.now a)

record Goes (config : Config) (trace : Traced) (present : Present) : Type 0 where
  events : List LifeEvent
  traced : IsTrace config trace events
  follows : Follows present (traced_after_events config trace events)

-- after one event of this centre
follows-with : (present : Present) (trace : Traced) (a : ℕ) (done tdone : List (ℕ × Act)) (durable : List (ℕ × Fact)) (life : Option Underway) (log : List Fact) (left : Option (List Act))
    → Follows present trace → but_all_answers done ≡ tdone → log ≡ log_of durable a → ((b : ℕ) → (a == b) ≡ false → log_of durable b ≡ log_of trace.durable b) → Matches a log left life
    → Follows (with_life done present a life log) (with_left (record { done = tdone; durable = durable; left = trace.left }) a left)
follows-with present trace a done tdone durable life log left f same here others m = record { done = same; logs = logs; each = each }
  where
    logs : (b : ℕ) → cond (a == b) log (present.log b) ≡ log_of durable b
    logs b =
        elim (cases_Bool (a == b)) [
          | inl e ↦ rw e (here ∙ ap (log_of durable) (eqb-true a b e))
          | inr e ↦ rw e (f.logs b ∙ sym (others b e))
        ]

    each : (b : ℕ) → Matches b (cond (a == b) log (present.log b)) (cond (a == b) left (trace.left b)) (cond (a == b) life (present.now b))
    each b =
        elim (cases_Bool (a == b)) [
          | inl e ↦ rw e (subst (λ (z : ℕ). Matches z log left life) (eqb-true a b e) m)
          | inr e ↦ rw e (f.each b)
        ]

-- and where there is none
follows-still : (present : Present) (trace : Traced) (a : ℕ) (life : Option Underway) (log : List Fact) → Follows present trace → log ≡ present.log a → Matches a log (trace.left a) life
    → Follows (with_life present.done present a life log) trace
follows-still present trace a life log f same m = record { done = f.done; logs = logs; each = each }
  where
    logs : (b : ℕ) → cond (a == b) log (present.log b) ≡ log_of trace.durable b
    logs b =
        elim (cases_Bool (a == b)) [
          | inl e ↦ rw e (same ∙ (f.logs a ∙ ap (log_of trace.durable) (eqb-true a b e)))
          | inr e ↦ rw e (f.logs b)
        ]

    each : (b : ℕ) → Matches b (cond (a == b) log (present.log b)) (trace.left b) (cond (a == b) life (present.now b))
    each b =
        elim (cases_Bool (a == b)) [
          | inl e ↦ rw e (subst (λ (z : ℕ). Matches z log (trace.left z) life) (eqb-true a b e) m)
          | inr e ↦ rw e (f.each b)
        ]

module _ (config : Config) (present : Present) (trace : Traced) (f : Follows present trace) (a : ℕ) where
  stays : Goes config trace present
  stays = record { events = []; traced = tt; follows = f }

  -- one event
  by-event : (event : LifeEvent) (next : Present) (after : Traced) → MayOccur config trace event → traced_after_event config trace event ≡ after → Follows next after → Goes config trace next
  by-event event next after may is g = record {
    events = event ∷ [];
    traced = (may, tt);
    follows = subst (Follows next) (sym is) g;
  }

  -- ---- an act

  does-living : (one : Underway) (act : Act) (left : List Act) → one.left ≡ act ∷ left → MayReceive present.done a act → IsLiving a (present.log a) (trace.left a) one
      → Goes config trace (after_left present a one.life (act ∷ left))
  does-living one act left e h l =
      let rest : List Act = but_answers left ++ l.rest in
      let there : trace.left a ≡ Some (but_answer act ∷ rest) = l.left_is ∙ ap (λ (acts : List Act). Some (but_answers acts ++ l.rest)) e in
      let facts : List Fact = appended_by a (but_answer act) in
      let after : Traced = with_left (record { done = (a, but_answer act) ∷ trace.done; durable = facts_onto a facts trace.durable; left = trace.left }) a (Some rest) in
      let log : List Fact = onto (present.log a) (appended_by a act) in
      let may : MayReceive trace.done a (but_answer act) = subst (λ (done : List (ℕ × Act)). MayReceive done a (but_answer act)) f.done (receive-then present.done a act h) in
      let logged : log ≡ log_of (facts_onto a facts trace.durable) a =
      ap (onto (present.log a)) (sym (same-appended a act)) ∙ (ap (λ (facts_there : List Fact). onto facts_there facts) (f.logs a) ∙ sym (log-onto a facts trace.durable)) in
      let kept : MayKeep a (log_after a log left) l.rest one.life.kept = subst (λ (z : List Fact). MayKeep a z l.rest one.life.kept)
      (ap (log_after a (present.log a)) e ∙ onto-both (present.log a) (appended_by a act) (flat_map (appended_by a) left)) l.kept in
      by-event (LifeEvent.Does a) (after_left present a one.life (act ∷ left)) after (subst (MayDoNext trace.done a) (sym there) may) (ap (after_next_at trace a) there)
      (follows-with present trace a ((a, act) ∷ present.done) ((a, but_answer act) ∷ trace.done) (facts_onto a facts trace.durable) (Some (record { life = one.life; left = left })) log (Some rest) f
      (ap (λ (done : List (ℕ × Act)). (a, but_answer act) ∷ done) f.done) logged (λ b o. log-others a b facts trace.durable o) (inl (record { rest = l.rest; left_is = refl; kept = kept })))

  does-left : (one : Underway) (left : List Act) → one.left ≡ left → MayDoNext present.done a (Some left) → Matches a (present.log a) (trace.left a) (Some one) → Goes config trace (after_left present a one.life left)
  does-left one [] e h m = stays
  does-left one (act ∷ left) e h m =
      elim m [
        | inl l ↦ does-living one act left e h l
        | inr i ↦ let bad : [] ≡ act ∷ left = sym i.none ∙ e in absurd (cc)
      ]

  does-goes : (o : Option Underway) → MayDoNext present.done a (life_left_of o) → Matches a (present.log a) (trace.left a) o → Goes config trace (after_act_at present a o)
  does-goes None h m = stays
  does-goes (Some one) h m = does-left one one.left refl h m

  -- ---- an end

  ends-living : (one : Underway) (logged : Bool) (rest : List Act) → trace.left a ≡ Some rest → one.life.kept ≡ log_of (cond logged (facts_onto a (facts_in_flight a rest) trace.durable) trace.durable) a
      → ((b : ℕ) → (a == b) ≡ false → log_of (cond logged (facts_onto a (facts_in_flight a rest) trace.durable) trace.durable) b ≡ log_of trace.durable b)
      → Goes config trace (with_life present.done present a None one.life.kept)
  ends-living one logged rest there here others =
      let durable : List (ℕ × Fact) = cond logged (facts_onto a (facts_in_flight a rest) trace.durable) trace.durable in
      by-event (LifeEvent.Ends a logged) (with_life present.done present a None one.life.kept) (with_left (record { done = trace.done; durable = durable; left = trace.left }) a None) tt
      (ap (traced_after_end_at trace a logged) there)
      (follows-with present trace a present.done trace.done durable None one.life.kept None f f.done here others refl)

  ends-goes : (o : Option Underway) → MayEnd o → Matches a (present.log a) (trace.left a) o → Goes config trace (after_over_at present a o)
  ends-goes None h m = stays
  ends-goes (Some one) h m =
      elim m [
        | inl l ↦
            let there : trace.left a ≡ Some l.rest = l.left_is ∙ ap (λ (acts : List Act). Some (but_answers acts ++ l.rest)) h in
            let same : log_after a (present.log a) one.left ≡ log_of trace.durable a = ap (log_after a (present.log a)) h ∙ f.logs a in
            elim l.kept [
              | inl k ↦ ends-living one false l.rest there (k ∙ same) (λ b o. refl)
              | inr k ↦ ends-living one true l.rest there (k ∙ (ap (λ (log : List Fact). onto log (facts_in_flight a l.rest)) same ∙ sym (log-onto a (facts_in_flight a l.rest) trace.durable)))
                  (λ b o. log-others a b (facts_in_flight a l.rest) trace.durable o)
            ]
        | inr i ↦ record { events = []; traced = tt; follows = follows-still present trace a None one.life.kept f i.kept i.left_is }
      ]

-- ---- a start

module _ (config : Config) (right : IsConfig config) (present : Present) (trace : Traced) (f : Follows present trace) (life : Life) (plain : has_floor (log_of trace.durable life.centre) ≡ false) (begins : MayBeginLife config present life) where
  abbrev a : ℕ
  a = life.centre

  abbrev first : Option Underway
  first = Some (record { life = life; left = life.acts })

  nobody : trace.left a ≡ None
  nobody = subst (Matches a (present.log a) (trace.left a)) begins.alone (f.each a)

  log-is : life.log ≡ log_of trace.durable a
  log-is = begins.log ∙ f.logs a

  begins-serving : Serves config life → (r : Result (List Fact) BootFault) → booted_by config.cluster (Ok (log_of trace.durable a)) ≡ r → is_ok r ≡ true → Goes config trace (with_life present.done present a first life.log)
  begins-serving s (Err fault) e ok = absurd (cc)
  begins-serving s (Ok facts) e ok =
      let log : List Fact = log_of trace.durable a in
      let same : log_before life ≡ record { centre = a; facts = log } = ap (λ (facts : List Fact). record { centre = a; facts = facts }) log-is in
      let all : Some (acts_to config (record { centre = a; facts = log }) s.given s.ending) ≡ Some (but_answers life.acts ++ s.rest) =
      ap (λ (log : Log). Some (acts_to config log s.given s.ending)) (sym same) ∙ ap (λ (acts : List Act). Some acts) (sym s.acts) in
      let after : Traced = with_left trace a (Some (acts_to config (record { centre = a; facts = log }) s.given s.ending)) in
      let begun : after_begin_at config trace a s.given s.ending None ≡ with_left trace a (life_of config a log s.given s.ending (booted_by config.cluster (Ok log))) = rw begins.is.centre refl in
      record {
        events = LifeEvent.Starts a s.given s.ending ∷ [];
        traced = (subst (λ (z : Log). IsLife config z s.given s.ending) same (life-within config right life (subst (λ (facts : List Fact). has_floor facts ≡ false) (sym log-is) plain) s), tt);
        follows = subst (Follows (with_life present.done present a first life.log))
            (sym (ap (after_begin_at config trace a s.given s.ending) nobody ∙ (begun ∙ ap (λ (r : Result (List Fact) BootFault). with_left trace a (life_of config a log s.given s.ending r)) e)))
            (follows-with present trace a present.done trace.done trace.durable first life.log (Some (acts_to config (record { centre = a; facts = log }) s.given s.ending)) f f.done log-is (λ b o. refl)
            (inl (record { rest = s.rest; left_is = all; kept = s.kept })));
      }

  begins-goes : Goes config trace (with_life present.done present a first life.log)
  begins-goes =
      elim begins.is.lived [
        | inl s ↦ begins-serving s (booted_by config.cluster (Ok (log_of trace.durable a))) refl (subst (λ (log : List Fact). is_ok (booted_by config.cluster (Ok log)) ≡ true) log-is s.boots)
        | inr n ↦ record {
          events = [];
          traced = tt;
          follows = follows-still present trace a first life.log f begins.log (inr (record { left_is = nobody; none = n.acts; kept = n.kept }));
        }
      ]

-- ---- all steps

trace-more : (config : Config) (trace : Traced) (xs ys : List LifeEvent) → traced_after_events config trace (xs ++ ys) ≡ traced_after_events config (traced_after_events config trace xs) ys
trace-more config trace [] ys = refl
trace-more config trace (x ∷ xs) ys = trace-more config (traced_after_event config trace x) xs ys

traced-more : (config : Config) (trace : Traced) (xs ys : List LifeEvent) → IsTrace config trace xs → IsTrace config (traced_after_events config trace xs) ys → IsTrace config trace (xs ++ ys)
traced-more config trace [] ys h k = k
traced-more config trace (x ∷ xs) ys h k = (h.0, traced-more config (traced_after_event config trace x) xs ys h.1 k)

step-goes : (config : Config) → IsConfig config → (present : Present) (trace : Traced) (step : Step) → ((a : ℕ) → has_floor (log_of trace.durable a) ≡ false) → Follows present trace → MayBeNext config present step
    → Goes config trace (after_life_step present step)
step-goes config right present trace (Step.Begins life) plain f h = begins-goes config right present trace f life (plain life.centre) h
step-goes config right present trace (Step.Does a) plain f h = does-goes config present trace f a (present.now a) h (f.each a)
step-goes config right present trace (Step.Ends a) plain f h = ends-goes config present trace f a (present.now a) h (f.each a)

-- after the events so far
steps-go : (config : Config) → IsConfig config → (present : Present) (before : List LifeEvent) → IsTrace config nothing_yet before → (steps : List Step) → Follows present (traced_after_events config nothing_yet before)
    → IsHistory config present steps → Goes config (traced_after_events config nothing_yet before) (after_life_steps present steps)
steps-go config right present before b [] f h = record { events = []; traced = tt; follows = f }
steps-go config right present before b (step ∷ steps) f h =
    let trace : Traced = traced_after_events config nothing_yet before in
    let one = step-goes config right present trace step (logs-plain config right before b) f h.0 in
    let joined : traced_after_events config nothing_yet (before ++ one.events) ≡ traced_after_events config trace one.events = trace-more config nothing_yet before one.events in
    let more = subst (λ (z : Traced). Goes config z (after_life_steps (after_life_step present step) steps)) joined
    (steps-go config right (after_life_step present step) (before ++ one.events) (traced-more config nothing_yet before one.events b one.traced) steps (subst (Follows (after_life_step present step)) (sym joined) one.follows) h.1) in
    record {
      events = one.events ++ more.events;
      traced = traced-more config trace one.events more.events one.traced more.traced;
      follows = subst (Follows (after_life_steps (after_life_step present step) steps)) (sym (trace-more config trace one.events more.events)) more.follows;
    }

pub histories-executed : HistoriesAreExecutions
histories-executed config right steps h =
    let g = steps-go config right at_first [] tt steps (record { done = refl; logs = λ a. refl; each = λ a. refl }) h in
    let x = traces-executed config g.events g.traced in
    record {
      moves = x.moves;
      executed = x.executed;
      done = g.follows.done ∙ x.done;
      logs = λ a. g.follows.logs a ∙ ap (λ (durable : List (ℕ × Fact)). log_of durable a) x.durable;
    }
