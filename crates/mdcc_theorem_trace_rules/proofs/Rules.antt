-- The rules of the manager, of outcomes and of SyncGive are good.
use Rattle.std.proofs.Common.{Bool, List, None, Option, Some, [], ap, cond, false, inl, inr, length, not, refl, subst, sym, true, ℕ, ◌&&◌, ◌<◌, ◌∙◌, ◌∷◌, ◌≡◌}
use Rattle.std.specs.Prelude.{map, option_and_then, option_map}
use Rattle.std.proofs.lemmas.Bool.{and_from, cases_Bool, lt-ltb, not_from_false}
use Rattle.mdcc_base.specs.declared.key.Key.{Key}
use Rattle.mdcc_base.specs.declared.identifiers.TxId.{TxId}
use Rattle.mdcc_base.specs.Quorums.{home_of}
use Rattle.mdcc_base.specs.Key.{key_eq}
use Rattle.mdcc_base.specs.TxId.{tx_eq}
use Rattle.mdcc_option.specs.declared.choices.Cause.{Cause}
use Rattle.mdcc_option.specs.declared.choices.Choice.{Choice}
use Rattle.mdcc_option.specs.declared.cluster.Cluster.{Cluster}
use Rattle.mdcc_option.specs.declared.items.Delta.{Delta}
use Rattle.mdcc_option.specs.declared.items.Item.{Item}
use Rattle.mdcc_option.specs.declared.choices.Outcome.{Outcome}
use Rattle.mdcc_struct.specs.Maps.{TxMap, value_of}
use Rattle.mdcc_def_protocol.specs.Marks.{Amounts}
use Rattle.mdcc_def_messages.specs.declared.facts.Fact.{Fact}
use Rattle.mdcc_def_protocol.specs.Facts.{base_of, current_of, executed_of, is_finished, is_heard, is_settled, unresolved_of, write_sets_of}
use Rattle.mdcc_def_ledger.specs.Ledger.{Added, Entry, choices_begun, facts_of, outcome_of}
use Rattle.mdcc_def_ledger.specs.AllowedLedgers.{IsBacked, IsAllowed}
use Rattle.mdcc_def_ledger.specs.AllowedStructures.{is_begun}
use Rattle.mdcc_def_protocol.specs.Belongs.{is_centre, outcome_belongs, tx_belongs}
use Rattle.mdcc_def_protocol.specs.Learner.{collided, decision_of, is_learned, with_counted_vote}
use Rattle.mdcc_def_protocol.specs.Manager.{act_on_cause, act_on_vote, acted, choice_on_key, choice_unled, decision, keys_of_choices, lead_act, vote_taken, would_decide}
use Rattle.mdcc_def_rules.specs.ManagerRules.{acted_step, decided_step, escalate_step, opened_step, undecided_step, voted_step, watched_step}
use Rattle.mdcc_def_protocol.specs.Recover
use Rattle.mdcc_def_protocol.specs.Recover.{keys_watched, on_voted_by, watched_vote}
use Rattle.mdcc_def_messages.specs.declared.messages.Envelope.{Envelope}
use Rattle.mdcc_def_messages.specs.declared.messages.Message.{Message}
use Rattle.mdcc_def_rules.specs.Messages.{to_one, to_others}
use Rattle.mdcc_def_protocol.specs.News.{is_crowding}
use Rattle.mdcc_def_rules.specs.SyncRules.{give_sent, give_sent_by, outcome_step}
use Rattle.mdcc_def_rules.specs.Steps.{NodeStep, nothing_done}
use Rattle.mdcc_def_protocol.specs.Volatile.{Managing, Recovering, Undecided, Volatile, closed, has_key, is_opened, is_watched, opened_of, with_led, with_manager, with_recovery}
use Rattle.mdcc_def_protocol.specs.declared.votes.Vote.{Vote}
use Rattle.mdcc_theorem_trace_states.specs.Words.{Each, In, IsTail}
use Rattle.mdcc_theorem_trace_states.specs.VolatileInvariant.{AreVotes, IsGiven, IsOpened, Keeps, Manages}
use Rattle.mdcc_theorem_trace_states.specs.Sound.{HasOneMark}
use Rattle.mdcc_theorem_trace_states.specs.Invariant.{IsGoodBy, IsGoodStep}
use Rattle.mdcc_theorem_trace_states.specs.MessageMeaning.{TrueWhenSent}
use Rattle.mdcc_theorem_trace_states.proofs.Lists.{Each-at, Each-like, IsTail-same, find_some}
use Rattle.mdcc_theorem_trace_states.proofs.Maps.{tx-true}
use Rattle.mdcc_theorem_trace_states.proofs.Ledgers.{In-any}
use Rattle.mdcc_theorem_trace_rules.proofs.Outcomes.{outcome-tail}
use Rattle.mdcc_theorem_trace_rules.proofs.Votes.{AreVotes-push, decided}
use Rattle.mdcc_theorem_trace_states.proofs.Kept.{ArePlaced-fact, Keeps-more, true-more, quiet-fact}
use Rattle.mdcc_theorem_trace_rules.proofs.Begins.{nothing-good, sends-good, stands-each}
use Rattle.mdcc_theorem_trace_rules.proofs.Deciding.{begun-tx, closed-keeps, decision-belongs, set-keys, some-in, value_of-filter}
use Rattle.mdcc_def_protocol.specs.declared.visible.Give.{Give}
use Rattle.mdcc_theorem_trace_states.proofs.Tests.{may-add}
use Rattle.mdcc_def_protocol.specs.declared.manager.ManagerAct.{ManagerAct}
use Rattle.mdcc_theorem_trace_rules.specs.Closed.{IsClosed}
use Rattle.mdcc_theorem_trace_states.specs.Steps.{IsUp}
use Rattle.mdcc_theorem_trace_rules.proofs.Accepting.{neither}
use Rattle.mdcc_def_rules.specs.Here.{here}

pub each-map-same : (P : Undecided → Type 0) (f : Undecided → Undecided) (ts : List Undecided) → ((t : Undecided) → P t → P (f t)) → Each P ts → Each P (map f ts)
each-map-same P f [] h g = tt
each-map-same P f (t ∷ ts) h g = (h t g.0, each-map-same P f ts h g.1)

led-opened : (es : List Entry) (b : Bool) (k : Key) (t : Undecided) → IsOpened es t → IsOpened es (cond b (record t { led = k ∷ t.led }) t)
led-opened es true k t h = record { choices = h.choices; some_choice = h.some_choice }
led-opened es false k t h = h

-- marking a choice led changes no more
pub led-keeps : (cluster : Cluster) (es : List Entry) (a : ℕ) (v : Volatile) (t : TxId) (k : Key) → Keeps cluster es a v → Keeps cluster es a (record v { manager = with_led v.manager t k })
led-keeps cluster es a v t k h = record {
  manager = record {
    seq = h.manager.seq;
    opened = each-map-same (IsOpened es) (λ (u : Undecided). cond (tx_eq u.tx t) (record u { led = k ∷ u.led }) u) v.manager.opened (λ u g. led-opened es (tx_eq u.tx t) k u g) h.manager.opened;
    votes = h.manager.votes;
  };
  recovery = h.recovery;
  leader = h.leader;
  told = h.told;
}

map-again : (m : TxMap Amounts) → m ≡ map (λ (delta : Delta). (delta.tx, delta.amounts)) (map (λ (e : TxId × Amounts). record { tx = e.0; amounts = e.1 }) m)
map-again [] = refl
map-again (e ∷ es) = ap (λ z. e ∷ z) (map-again es)

-- what a centre gives is what it holds
pub give-stands : (cluster : Cluster) (es : List Entry) (a s : ℕ) (k : Key) → is_centre cluster a ≡ true → Each (TrueWhenSent cluster es) (give_sent a (facts_of es a) s k)
give-stands cluster es a s k here = by_case (base_of (facts_of es a) k) refl
  where
    by_case : (o : Option Item) → base_of (facts_of es a) k ≡ o →
        Each (TrueWhenSent cluster es) (give_sent_by a s (option_map {U = Give} (λ (item : Item). record { key = k; version = current_of (facts_of es a) k; item = item; adds = map (λ (e : TxId × Amounts). record { tx = e.0; amounts = e.1 }) (executed_of (facts_of es a) k) }) o))
    by_case None e = tt
    by_case (Some item) e = (record { from = here; old = es; tail = IsTail-same es; says = (refl, e, map-again (executed_of (facts_of es a) k)) }, tt)

module _ (also : List Entry → Type 0) (shut : IsClosed also) (cluster : Cluster) (es : List Entry) (a : ℕ) (volatile : Volatile) (up : IsUp also cluster es a volatile) where
  abbrev pub Good : NodeStep → Type 0
  Good step = IsGoodBy cluster also es a step step.fact

  -- the fact Heard of an outcome
  heard-legal : (t : TxId) (o : Outcome) → outcome_of cluster.quorums es t ≡ Some o → is_settled (facts_of es a) t ≡ false → tx_belongs cluster t ≡ true → outcome_belongs cluster o ≡ true → is_crowding (facts_of es a) (Fact.Heard t o) ≡ false →
      IsAllowed cluster (Added a (Fact.Heard t o) ∷ es)
  heard-legal t o is unheard tx outcome room =
      (up.legal, (up.centre, may-add cluster (facts_of es a) (Fact.Heard t o) (and_from _ _ (and_from _ _ (and_from _ _ tx outcome) (lt-ltb 0 _ up.booted)) (and_from _ _ (and_from _ _ (not_from_false (is_heard (facts_of es a) t) (neither (is_heard (facts_of es a) t) (is_finished (facts_of es a) t) unheard).0) (not_from_false (is_finished (facts_of es a) t) (neither (is_heard (facts_of es a) t) (is_finished (facts_of es a) t) unheard).1)) (not_from_false (is_crowding (facts_of es a) (Fact.Heard t o)) room))), is))

  pub heard-fact : (t : TxId) (o : Outcome) (v : Volatile) (sends : List Envelope) → Keeps cluster es a v → outcome_of cluster.quorums es t ≡ Some o → is_settled (facts_of es a) t ≡ false → tx_belongs cluster t ≡ true → outcome_belongs cluster o ≡ true →
      is_crowding (facts_of es a) (Fact.Heard t o) ≡ false → Each (TrueWhenSent cluster es) sends → IsGoodStep cluster also es a (Added a (Fact.Heard t o) ∷ []) sends (closed v t)
  heard-fact t o v sends keeps is unheard tx outcome room stand =
      let legal = heard-legal t o is unheard tx outcome room in
      record {
        own = (refl, tt);
        legal = legal;
        placed = ArePlaced-fact cluster a (Fact.Heard t o) es legal up.placed (λ k w b u x g. absurd (cc));
        more = shut.more cluster (Added a (Fact.Heard t o)) es legal tt up.more;
        stand = Each-like (TrueWhenSent cluster es) (TrueWhenSent cluster (Added a (Fact.Heard t o) ∷ es)) sends (λ env g. true-more cluster (Added a (Fact.Heard t o) ∷ []) es env g) stand;
        keeps = Keeps-more cluster (Added a (Fact.Heard t o)) es a (closed v t) legal (quiet-fact a a (Fact.Heard t o) es refl) (closed-keeps cluster es a v t keeps);
      }

  one : HasOneMark cluster.quorums es
  one = shut.one cluster es up.sizes up.legal up.more

  -- an outcome that a message says is one
  pub said-outcome : (old : List Entry) (t : TxId) (o : Outcome) → IsTail old es → outcome_of cluster.quorums old t ≡ Some o → outcome_of cluster.quorums es t ≡ Some o
  said-outcome old t o tail h = outcome-tail cluster up.sizes old es t o tail up.legal one h

  pub heard-good : (old : List Entry) (t : TxId) (o : Outcome) → IsTail old es → outcome_of cluster.quorums old t ≡ Some o → tx_belongs cluster t ≡ true → outcome_belongs cluster o ≡ true →
      ((fact : Fact) → (outcome_step (facts_of es a) volatile t o).fact ≡ Some fact → IsBacked cluster es a fact → is_crowding (facts_of es a) fact ≡ false) → Good (outcome_step (facts_of es a) volatile t o)
  heard-good old t o tail h tx outcome room =
      elim (cases_Bool (is_settled (facts_of es a) t)) [
        | inl e ↦ rw e (nothing-good also cluster es a volatile volatile up up.keeps)
        | inr e ↦
            let crowding : is_crowding (facts_of es a) (Fact.Heard t o) ≡ false = room (Fact.Heard t o) (rw e refl) (said-outcome old t o tail h) in
            rw e (refl, heard-fact t o volatile [] up.keeps (said-outcome old t o tail h) e tx outcome crowding tt)
      ]

  -- ---- a choice that goes to a leader

  pub begun-choice : (t : Undecided) (c : Choice) → IsOpened es t → In c t.choices → is_begun es c ≡ true
  begun-choice t c h i =
      let j : In c (choices_begun es t.tx) = subst (λ z. In c z) (sym h.choices) i in
      let s : c.tx ≡ t.tx = begun-tx cluster es t.tx c up.legal j in
      In-any c (choices_begun es c.tx) (subst (λ z. In c (choices_begun es z)) (sym s) j)

  unled-begun : (m : Managing) (t : TxId) (k : Key) (c : Choice) → Manages cluster es a m → choice_unled m t k ≡ Some c → is_begun es c ≡ true
  unled-begun m t k c manages h = by_case (opened_of m t) refl h
    where
      by_case : (o : Option Undecided) → opened_of m t ≡ o → option_and_then (λ (u : Undecided). cond (has_key u.led k) None (choice_on_key u.choices k)) o ≡ Some c → is_begun es c ≡ true
      by_case None e g = absurd (cc)
      by_case (Some u) e g =
          let i = find_some (λ (u : Undecided). tx_eq u.tx t) m.opened u e in
          elim (cases_Bool (has_key u.led k)) [
            | inl f ↦ let bad : None ≡ Some c = rw f at g in absurd (cc)
            | inr f ↦ let j : choice_on_key u.choices k ≡ Some c = rw f at g in
                let r = find_some (λ (d : Choice). key_eq d.key k) u.choices c j in
                begun-choice u c (Each-at (IsOpened es) m.opened u manages.opened i.0) r.0
          ]

  -- what a manager keeps in the place of what it kept
  managed : (m : Managing) → Manages cluster es a m → Keeps cluster es a (with_manager volatile m)
  managed m h = record { manager = h; recovery = up.keeps.recovery; leader = up.keeps.leader; told = up.keeps.told }

  pub lead-good : (m : Managing) (leader : ℕ) (t : TxId) (k : Key) → Manages cluster es a m → Good (acted_step a (facts_of es a) volatile (acted m (lead_act leader (choice_unled m t k))))
  lead-good m leader t k manages = by_case (choice_unled m t k) refl
    where
      by_case : (o : Option Choice) → choice_unled m t k ≡ o → Good (acted_step a (facts_of es a) volatile (acted m (lead_act leader o)))
      by_case None e = nothing-good also cluster es a volatile (with_manager volatile m) up (managed m manages)
      by_case (Some c) e =
          sends-good also cluster es a volatile (with_manager volatile (with_led m c.tx c.key)) (to_one a leader (Message.Lead c)) up
          (led-keeps cluster es a (with_manager volatile m) c.tx c.key (managed m manages))
          (record { from = up.centre; old = es; tail = IsTail-same es; says = unled-begun m t k c manages e }, tt)

  -- what the manager does and leaves, by a test
  acted-by : (b : Bool) (p q : Option ManagerAct × Managing) → (b ≡ true → Good (acted_step a (facts_of es a) volatile p)) → (b ≡ false → Good (acted_step a (facts_of es a) volatile q)) → Good (acted_step a (facts_of es a) volatile (cond b p q))
  acted-by true p q f h = f refl
  acted-by false p q f h = h refl

  pub escalate-good : (s : ℕ) (k : Key) (t : TxId) (cause : Cause) → Good (escalate_step (here cluster a (facts_of es a)) volatile s k t cause)
  escalate-good s k t cause =
      acted-by (is_opened volatile.manager t && not (is_learned cluster.quorums volatile.manager.votes t k)) (acted volatile.manager (act_on_cause cluster.quorums volatile.manager s t k cause)) (None, volatile.manager)
      (λ e. by_cause cause) (λ e. nothing-good also cluster es a volatile (with_manager volatile volatile.manager) up (managed volatile.manager up.keeps.manager))
    where
      by_cause : (cause : Cause) → Good (acted_step a (facts_of es a) volatile (acted volatile.manager (act_on_cause cluster.quorums volatile.manager s t k cause)))
      by_cause Cause.Behind =
          sends-good also cluster es a volatile (with_manager volatile volatile.manager) (give_sent a (facts_of es a) s k) up (managed volatile.manager up.keeps.manager) (give-stands cluster es a s k up.centre)
      by_cause (Cause.Classic b) = lead-good volatile.manager b.centre t k up.keeps.manager
      by_cause (Cause.Limit n) = lead-good volatile.manager (home_of cluster.quorums k) t k up.keeps.manager
      by_cause Cause.Full = lead-good volatile.manager (home_of cluster.quorums k) t k up.keeps.manager

  -- ---- votes

  decided-good : (t : TxId) (o : Outcome) → outcome_of cluster.quorums es t ≡ Some o → is_settled (facts_of es a) t ≡ false → tx_belongs cluster t ≡ true → outcome_belongs cluster o ≡ true →
      is_crowding (facts_of es a) (Fact.Heard t o) ≡ false → Good (decided_step cluster a volatile t o)
  decided-good t o is unheard tx outcome room =
      (refl, heard-fact t o volatile (to_others cluster.quorums a (Message.Outcome t o)) up.keeps is unheard tx outcome room (stands-each cluster es a (Message.Outcome t o) _ up.centre is))

  -- no fact of the step crowds a version
  abbrev pub HasRoom : NodeStep → Type 0
  HasRoom step = (fact : Fact) → step.fact ≡ Some fact → IsBacked cluster es a fact → is_crowding (facts_of es a) fact ≡ false

  -- a vote is taken
  taken-manages : (vote : Vote) → IsGiven cluster es vote → Manages cluster es a (vote_taken cluster.quorums volatile.manager vote)
  taken-manages vote given = by_open (is_opened volatile.manager vote.tx)
    where
      by_open : (b : Bool) → Manages cluster es a (cond b (record volatile.manager { votes = with_counted_vote cluster.quorums volatile.manager.votes vote }) volatile.manager)
      by_open true = record {
        seq = up.keeps.manager.seq;
        opened = up.keeps.manager.opened;
        votes = AreVotes-push cluster es volatile.manager.votes vote up.keeps.manager.votes given;
      }
      by_open false = up.keeps.manager

  -- what a manager decides is the outcome
  decision-is : (m : Managing) (t : TxId) (o : Outcome) → Manages cluster es a m → decision cluster.quorums m t ≡ Some o → (outcome_of cluster.quorums es t ≡ Some o) × (outcome_belongs cluster o ≡ true)
  decision-is m t o manages h = by_case (opened_of m t) refl h
    where
      by_case : (u : Option Undecided) → opened_of m t ≡ u → option_and_then (λ (u : Undecided). decision_of cluster.quorums m.votes t (keys_of_choices u.choices)) u ≡ Some o →
          (outcome_of cluster.quorums es t ≡ Some o) × (outcome_belongs cluster o ≡ true)
      by_case None e g = absurd (cc)
      by_case (Some u) e g =
          let there = find_some (λ (u : Undecided). tx_eq u.tx t) m.opened u e in
          let is = Each-at (IsOpened es) m.opened u manages.opened there.0 in
          let choices : choices_begun es t ≡ u.choices = ap (choices_begun es) (sym (tx-true u.tx t there.1)) ∙ is.choices in
          let d : decision_of cluster.quorums m.votes t (keys_of_choices (choices_begun es t)) ≡ Some o = subst (λ z. decision_of cluster.quorums m.votes t (keys_of_choices z) ≡ Some o) (sym choices) g in
          let some : 0 < length (choices_begun es t) = subst (λ z. 0 < length z) (sym choices) is.some_choice in (
            decided cluster up.sizes es m.votes t o up.legal up.placed one manages.votes some d,
            decision-belongs cluster es m.votes t (keys_of_choices u.choices) o manages.votes g,
          )

  -- a vote that decides nothing may send its choice to a leader
  collided-good : (m : Managing) (vote : Vote) → Manages cluster es a m → Good (acted_step a (facts_of es a) volatile (acted m (act_on_vote cluster.quorums m vote None)))
  collided-good m vote manages = by_test (collided cluster.quorums m.votes vote.tx vote.key)
    where
      by_test : (b : Bool) → Good (acted_step a (facts_of es a) volatile (acted m (cond b (lead_act (home_of cluster.quorums vote.key) (choice_unled m vote.tx vote.key)) None)))
      by_test true = lead-good m (home_of cluster.quorums vote.key) vote.tx vote.key manages
      by_test false = nothing-good also cluster es a volatile (with_manager volatile m) up (managed m manages)

  undecided-good : (vote : Vote) → IsGiven cluster es vote → decision cluster.quorums (vote_taken cluster.quorums volatile.manager vote) vote.tx ≡ None → Good (undecided_step (here cluster a (facts_of es a)) volatile vote)
  undecided-good vote given e =
      subst (λ z. Good (acted_step a (facts_of es a) volatile (acted taken (act_on_vote cluster.quorums taken vote z)))) (sym e) (collided-good taken vote manages)
    where
      taken : Managing
      taken = vote_taken cluster.quorums volatile.manager vote

      manages : Manages cluster es a taken
      manages = taken-manages vote given

  opened-good : (vote : Vote) (o : Option Outcome) → would_decide cluster.quorums volatile.manager vote ≡ o → IsGiven cluster es vote → is_settled (facts_of es a) vote.tx ≡ false → HasRoom (opened_step (here cluster a (facts_of es a)) volatile vote o) →
      Good (opened_step (here cluster a (facts_of es a)) volatile vote o)
  opened-good vote (Some o) e given unheard room =
      let d = decision-is (vote_taken cluster.quorums volatile.manager vote) vote.tx o (taken-manages vote given) e in
      decided-good vote.tx o d.0 unheard given.tx d.1 (room (Fact.Heard vote.tx o) refl d.0)
  opened-good vote None e given unheard room = undecided-good vote given e

  watched-set : (t : TxId) (keys : List Key) → keys_watched (facts_of es a) volatile.recovery t ≡ Some keys → (0 < length (choices_begun es t)) × (keys ≡ keys_of_choices (choices_begun es t))
  watched-set t keys h =
      elim (cases_Bool (is_watched volatile.recovery t)) [
        | inl e ↦ let g : option_map (λ (ws : List (Key × ℕ)). map (λ (e : Key × ℕ). e.0) ws) (value_of (unresolved_of (facts_of es a)) t) ≡ Some keys = rw e at h in by_case (value_of (unresolved_of (facts_of es a)) t) refl g
        | inr e ↦ let bad : None ≡ Some keys = rw e at h in absurd (cc)
      ]
    where
      by_case : (o : Option (List (Key × ℕ))) → value_of (unresolved_of (facts_of es a)) t ≡ o → option_map (λ (ws : List (Key × ℕ)). map (λ (e : Key × ℕ). e.0) ws) o ≡ Some keys →
          (0 < length (choices_begun es t)) × (keys ≡ keys_of_choices (choices_begun es t))
      by_case None e g = absurd (cc)
      by_case (Some ws) e g =
          let w : value_of (write_sets_of (facts_of es a)) t ≡ Some ws = value_of-filter (λ u. not (is_settled (facts_of es a) u)) (write_sets_of (facts_of es a)) t ws e in
          let set = shut.sets cluster es a t ws up.legal up.more w in
          let s : map (λ (e : Key × ℕ). e.0) ws ≡ keys = cc in
          (some-in set.choice (choices_begun es t) set.begun, sym s ∙ set-keys cluster es t ws up.legal set)

  -- the step of a vote on a transaction that is not open, by what the recovery says to it and leaves
  abbrev pub watched_told : Option (TxId × Outcome) × Recovering → NodeStep
  watched_told (Some d, recovery) = decided_step cluster a volatile d.0 d.1
  watched_told (None, recovery) = nothing_done (with_recovery volatile recovery)

  told-by : (vote : Vote) (r : Option (TxId × Outcome) × Recovering) → Recover.on_voted cluster.quorums (facts_of es a) volatile.recovery vote ≡ r → watched_step (here cluster a (facts_of es a)) volatile vote r.0 ≡ watched_told r
  told-by vote (Some d, recovery) e = refl
  told-by vote (None, recovery) e = ap (λ (z : Option (TxId × Outcome) × Recovering). nothing_done (with_recovery volatile z.1)) e

  watched-is : (vote : Vote) → watched_step (here cluster a (facts_of es a)) volatile vote (Recover.would_decide cluster.quorums (facts_of es a) volatile.recovery vote) ≡
      watched_told (Recover.on_voted cluster.quorums (facts_of es a) volatile.recovery vote)
  watched-is vote = told-by vote (Recover.on_voted cluster.quorums (facts_of es a) volatile.recovery vote) refl

  watched-good : (vote : Vote) (keys : Option (List Key)) → keys_watched (facts_of es a) volatile.recovery vote.tx ≡ keys → IsGiven cluster es vote → is_settled (facts_of es a) vote.tx ≡ false →
      HasRoom (watched_told (on_voted_by cluster.quorums volatile.recovery vote keys)) → Good (watched_told (on_voted_by cluster.quorums volatile.recovery vote keys))
  watched-good vote None e given unheard room = nothing-good also cluster es a volatile (with_recovery volatile volatile.recovery) up (record { manager = up.keeps.manager; recovery = up.keeps.recovery; leader = up.keeps.leader; told = up.keeps.told })
  watched-good vote (Some keys) e given unheard room = by_case (decision_of cluster.quorums after.votes vote.tx keys) refl room
    where
      after : Recovering
      after = watched_vote cluster.quorums volatile.recovery vote

      votes : AreVotes cluster es after.votes
      votes = AreVotes-push cluster es volatile.recovery.votes vote up.keeps.recovery given

      by_case : (o : Option Outcome) → decision_of cluster.quorums after.votes vote.tx keys ≡ o → HasRoom (watched_told (option_map {U = TxId × Outcome} (λ (outcome : Outcome). (vote.tx, outcome)) o, after)) →
          Good (watched_told (option_map {U = TxId × Outcome} (λ (outcome : Outcome). (vote.tx, outcome)) o, after))
      by_case (Some o) d r =
          let set = watched-set vote.tx keys e in
          let d' : decision_of cluster.quorums after.votes vote.tx (keys_of_choices (choices_begun es vote.tx)) ≡ Some o = subst (λ z. decision_of cluster.quorums after.votes vote.tx z ≡ Some o) set.1 d in
          let is = decided cluster up.sizes es after.votes vote.tx o up.legal up.placed one votes set.0 d' in
          decided-good vote.tx o is unheard given.tx (decision-belongs cluster es after.votes vote.tx keys o votes d) (r (Fact.Heard vote.tx o) refl is)
      by_case None d r = nothing-good also cluster es a volatile (with_recovery volatile after) up (record { manager = up.keeps.manager; recovery = votes; leader = up.keeps.leader; told = up.keeps.told })

  pub voted-good : (vote : Vote) → IsGiven cluster es vote → HasRoom (voted_step (here cluster a (facts_of es a)) volatile vote) → Good (voted_step (here cluster a (facts_of es a)) volatile vote)
  voted-good vote given room =
      elim (cases_Bool (is_settled (facts_of es a) vote.tx)) [
        | inl e ↦ rw e (nothing-good also cluster es a volatile volatile up up.keeps)
        | inr e ↦ elim (cases_Bool (is_opened volatile.manager vote.tx)) [
          | inl f ↦ subst Good (sym (opened e f)) (opened-good vote (would_decide cluster.quorums volatile.manager vote) refl given e (subst HasRoom (opened e f) room))
          | inr f ↦ subst Good (sym (watched e f)) (watched-good vote (keys_watched (facts_of es a) volatile.recovery vote.tx) refl given e (subst HasRoom (watched e f) room))
        ]
      ]
    where
      opened : is_settled (facts_of es a) vote.tx ≡ false → is_opened volatile.manager vote.tx ≡ true → voted_step (here cluster a (facts_of es a)) volatile vote ≡
          opened_step (here cluster a (facts_of es a)) volatile vote (would_decide cluster.quorums volatile.manager vote)
      opened e f = pick2 (is_settled (facts_of es a) vote.tx) (is_opened volatile.manager vote.tx) e f _ _ _
        where
          pick2 : (x y : Bool) → x ≡ false → y ≡ true → (p q r : NodeStep) → cond x p (cond y q r) ≡ q
          pick2 true y e f p q r = absurd (cc)
          pick2 false true e f p q r = refl
          pick2 false false e f p q r = absurd (cc)

      watched : is_settled (facts_of es a) vote.tx ≡ false → is_opened volatile.manager vote.tx ≡ false → voted_step (here cluster a (facts_of es a)) volatile vote ≡
          watched_told (on_voted_by cluster.quorums volatile.recovery vote (keys_watched (facts_of es a) volatile.recovery vote.tx))
      watched e f = pick3 (is_settled (facts_of es a) vote.tx) (is_opened volatile.manager vote.tx) e f _ _ _ ∙ watched-is vote
        where
          pick3 : (x y : Bool) → x ≡ false → y ≡ false → (p q r : NodeStep) → cond x p (cond y q r) ≡ r
          pick3 true y e f p q r = absurd (cc)
          pick3 false true e f p q r = absurd (cc)
          pick3 false false e f p q r = refl
