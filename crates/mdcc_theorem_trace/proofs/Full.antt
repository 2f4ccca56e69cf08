-- Each step of a node is good, with all rules, where ledgers with sound marks have one mark.
use Rattle.std.proofs.Common.{Bool, Err, List, None, Ok, Option, Result, Some, [], cond, false, inl, inr, not, refl, subst, sym, true, ℕ, ◌&&◌, ◌++◌, ◌<◌, ◌==◌, ◌∙◌, ◌∷◌, ◌≡◌}
use Rattle.std.specs.Prelude.{filter, flat_map, fold, map, nat_le, ◌%◌}
use Rattle.std.specs.Option.{option_or}
use Rattle.std.proofs.lemmas.Bool.{and_parts, cases_Bool}
use Rattle.mdcc_base.specs.AreQuorums.{AreQuorums}
use Rattle.mdcc_base.specs.declared.key.Key.{Key}
use Rattle.mdcc_base.specs.declared.identifiers.TxId.{TxId}
use Rattle.mdcc_base.specs.Ballot.{is_fast}
use Rattle.mdcc_option.specs.declared.choices.Choice.{Choice}
use Rattle.mdcc_option.specs.declared.cluster.Cluster.{Cluster}
use Rattle.mdcc_option.specs.declared.choices.Outcome.{Outcome}
use Rattle.mdcc_struct.specs.Maps.{TxMap, value_of}
use Rattle.mdcc_def_messages.specs.declared.facts.Fact.{Fact}
use Rattle.mdcc_def_protocol.specs.Facts.{are_heard, choice_known, is_finished, is_settled, outcome_kept, unresolved_of, write_sets_from, write_sets_of}
use Rattle.mdcc_def_ledger.specs.Ledger.{Added, Entry, facts_of, mark_given}
use Rattle.mdcc_def_ledger.specs.AllowedLedgers.{IsAllowed, is_valued}
use Rattle.mdcc_def_protocol.specs.Belongs.{adds_belong, ballot_belongs, is_centre, item_belongs, mark_belongs, message_belongs, options_belong, outcome_belongs, tx_belongs}
use Rattle.mdcc_def_protocol.specs.Learner.{is_learned}
use Rattle.mdcc_def_rules.specs.LeaderRules.{lead_step_after, led_of, promised_by_answer, step_of_led}
use Rattle.mdcc_def_protocol.specs.Leader.{claim_of_choice, on_promise, refused_by}
use Rattle.mdcc_def_protocol.specs.Volatile.{Recovering, Volatile, counter_of, lead_of, next_count, txs_opened, with_leader, with_recovery}
use Rattle.mdcc_def_messages.specs.declared.messages.Envelope.{Envelope}
use Rattle.mdcc_def_rules.specs.declared.node.Input.{Input}
use Rattle.mdcc_def_messages.specs.declared.messages.Message.{Message}
use Rattle.mdcc_def_rules.specs.Node.{message_step, step_of}
use Rattle.mdcc_def_rules.specs.TickRules.{claim_led, manager_ticked, recovery_act, recovery_ticked, tick_parts}
use Rattle.mdcc_def_protocol.specs.Recover.{acts_on, ask_of, choice_received, claim_of_key, counted_tick, dangling, keys_led}
use Rattle.mdcc_def_rules.specs.Steps.{NodeStep, StepPart, nothing_done}
use Rattle.mdcc_def_rules.specs.declared.node.StepFault.{StepFault}
use Rattle.mdcc_theorem_trace_states.specs.Words.{Each, In, IsTail}
use Rattle.mdcc_theorem_trace_states.specs.VolatileInvariant.{AreVotes, IsClaim, IsGiven, IsOwn}
use Rattle.mdcc_theorem_trace_states.specs.Sound.{HasOneMark, IsSound}
use Rattle.mdcc_theorem_trace_states.specs.Invariant.{IsGood, IsGoodRoomy}
use Rattle.mdcc_theorem_trace_states.specs.MessageMeaning.{Says, TrueWhenSent}
use Rattle.mdcc_theorem_trace_states.proofs.Lists.{Each-at, Each-from, Each-like, Each-map, In-filter, IsTail-same}
use Rattle.mdcc_theorem_trace_states.proofs.Ledgers.{is_begun-tail, mark-tail}
use Rattle.mdcc_theorem_trace_rules.proofs.Begins.{Each-flat_map, begin-good, nothing-good, sends-good, stands-each}
use Rattle.mdcc_theorem_trace_rules.proofs.Proposals.{propose-good}
use Rattle.mdcc_theorem_trace_rules.proofs.Rules.{escalate-good, heard-good, voted-good}
use Rattle.mdcc_theorem_trace_rules.proofs.Floors.{finished-good, mark-good, sweep-good}
use Rattle.mdcc_theorem_trace_rules.proofs.Syncs.{ask-good, sync-ask-good, sync-give-good}
use Rattle.mdcc_theorem_trace_rules.proofs.Votings.{kept-heard, was-outcome}
use Rattle.mdcc_theorem_trace_rules.proofs.Chains.{HasOnce, once-union, once-value, structure-once, valued-tail}
use Rattle.mdcc_theorem_trace_rules.proofs.Promises.{prepare-good}
use Rattle.mdcc_theorem_trace_rules.proofs.Accepting.{accept-good}
use Rattle.mdcc_theorem_trace.proofs.Structuring.{GoodLed, promise-good}
use Rattle.mdcc_theorem_trace.proofs.Claiming.{led-good, refused-good}
use Rattle.mdcc_theorem_trace.proofs.Sound.{classic-sound, sound-well}
use Rattle.mdcc_theorem_trace_rules.proofs.Ticks.{IsGoodPart, fold-good, sent-part}
use Rattle.mdcc_theorem_trace.proofs.Own.{begun-in}
use Rattle.mdcc_theorem_trace.proofs.Leaders.{choice-claim, claim-part, manager-part}
use Rattle.mdcc_theorem_trace.proofs.Watching.{own-choice, placed-key, received-choice}
use Rattle.mdcc_theorem_trace_rules.proofs.Dispatch.{checked-good}
use Rattle.mdcc_base.specs.Quorums.{all_centres}
use Rattle.mdcc_def_rules.specs.Messages.{to_all}
use Rattle.mdcc_def_protocol.specs.Fit.{has_tx}
use Rattle.mdcc_def_protocol.specs.declared.recover.RecoverAct.{RecoverAct}
use Rattle.mdcc_def_protocol.specs.declared.leader.LeadFault.{LeadFault}
use Rattle.mdcc_def_protocol.specs.declared.votes.Vote.{Vote}
use Rattle.mdcc_theorem_trace_rules.specs.Closed.{HasSet}
use Rattle.mdcc_theorem_trace_states.specs.Steps.{AreGood, IsFair, IsUp}
use Rattle.mdcc_def_rules.specs.Here.{here}

-- the law that the rules of classic ballots rest on
abbrev pub OneMarkLaw : Type 0
OneMarkLaw = (cluster : Cluster) (es : List Entry) → AreQuorums cluster.quorums → IsAllowed cluster es → IsSound es → HasOneMark cluster.quorums es

-- ---- the second half of a tick

pub once-sets : (fs : List Fact) → HasOnce (write_sets_of fs)
once-sets [] = tt
once-sets (f ∷ fs) = once-union (write_sets_of fs) (write_sets_from f) (once-sets fs)

-- what the recovery does for a transaction with a write set: it asks, or leads a key of it
abbrev pub IsRecoverAct : List Fact → Recovering → TxId × List (Key × ℕ) → RecoverAct → Type 0
IsRecoverAct facts recovery e (RecoverAct.Ask tx key version) = tx ≡ e.0
IsRecoverAct facts recovery e (RecoverAct.LeadHere claim) = (x : Key × ℕ) × (In x e.1) × (claim ≡ claim_of_key facts recovery e.0 x)

asked : (facts : List Fact) (recovery : Recovering) (e : TxId × List (Key × ℕ)) (ws : List (Key × ℕ)) → Each (IsRecoverAct facts recovery e) (map (ask_of e.0) ws)
asked facts recovery e [] = tt
asked facts recovery e (w ∷ ws) = (refl, asked facts recovery e ws)

acts-are : (cluster : Cluster) (facts : List Fact) (recovery : Recovering) (e : TxId × List (Key × ℕ)) → Each (IsRecoverAct facts recovery e) (acts_on cluster.quorums facts recovery e)
acts-are cluster facts recovery (t, ws) = pick (n == 2) (nat_le 4 n && n % 2 == 0)
  where
    n : ℕ
    n = next_count (counter_of recovery t)

    led : Each (IsRecoverAct facts recovery (t, ws)) (keys_led cluster.quorums facts recovery t ws)
    led =
        Each-map (IsRecoverAct facts recovery (t, ws)) (λ (x : Key × ℕ). RecoverAct.LeadHere (claim_of_key facts recovery t x)) (filter (λ (x : Key × ℕ). not (is_learned cluster.quorums recovery.votes t x.0)) ws)
        (Each-from (λ (x : Key × ℕ). IsRecoverAct facts recovery (t, ws) (RecoverAct.LeadHere (claim_of_key facts recovery t x))) (filter (λ (x : Key × ℕ). not (is_learned cluster.quorums recovery.votes t x.0)) ws)
        (λ x i. (x, (In-filter (λ (x : Key × ℕ). not (is_learned cluster.quorums recovery.votes t x.0)) ws x i).0, refl)))

    pick : (x y : Bool) → Each (IsRecoverAct facts recovery (t, ws)) (cond x (map (ask_of t) ws) (cond y (keys_led cluster.quorums facts recovery t ws) []))
    pick true y = asked facts recovery (t, ws) ws
    pick false true = led
    pick false false = tt

AreVotes-tail : (cluster : Cluster) (old es : List Entry) (vs : List Vote) → IsTail old es → AreVotes cluster old vs → AreVotes cluster es vs
AreVotes-tail cluster old es vs tail h = record {
  each = Each-like (IsGiven cluster old) (IsGiven cluster es) vs
      (λ v g. record { given = mark-tail old es v.key v.version v.ballot v.tx v.from v.mark tail g.given; centre = g.centre; tx = g.tx; mark = g.mark }) h.each;
  apart = h.apart;
}

key-claim : (cluster : Cluster) (es : List Entry) (a : ℕ) (facts : List Fact) (recovery : Recovering) (t : TxId) (ws : List (Key × ℕ)) (x : Key × ℕ) → IsAllowed cluster es → IsSound es → facts_of es a ≡ facts → AreVotes cluster es recovery.votes → HasSet es t ws → In x ws →
    IsClaim es x.0 x.1 (t, (claim_of_key facts recovery t x).choice)
key-claim cluster es a facts recovery t ws (k, n) legal sound same votes set i =
    record { placed = placed-key cluster es t ws (k, n) legal set i; own = λ c g. by_case (choice_received recovery.votes t k n) refl c g }
  where
    by_case : (o : Option Choice) → choice_received recovery.votes t k n ≡ o → (c : Choice) → option_or (choice_received recovery.votes t k n) (choice_known facts k n t) ≡ Some c → IsOwn es k n t c
    by_case None e c g = let h : choice_known facts k n t ≡ Some c = rw e at g in own-choice cluster es a k n t c legal sound (subst (λ z. choice_known z k n t ≡ Some c) (sym same) h)
    by_case (Some d) e c g = let h : Some d ≡ Some c = rw e at g in received-choice cluster es recovery.votes k n t c legal sound votes (e ∙ h)

recover-part : (law : OneMarkLaw) (cluster : Cluster) (es : List Entry) (a : ℕ) (facts : List Fact) (recovery : Recovering) (v : Volatile) (e : TxId × List (Key × ℕ)) (act : RecoverAct) → IsUp IsSound cluster es a v → facts_of es a ≡ facts → AreVotes cluster es recovery.votes →
    value_of (write_sets_of facts) e.0 ≡ Some e.1 → IsRecoverAct facts recovery e act → IsGoodPart IsSound cluster es a (recovery_act (here cluster a facts) v act)
recover-part law cluster es a facts recovery v e (RecoverAct.Ask t k n) up same votes found is =
    let known : value_of (write_sets_of (facts_of es a)) e.0 ≡ Some e.1 = subst (λ z. value_of (write_sets_of z) e.0 ≡ Some e.1) (sym same) found in
    let set = (sound-well law).shut.sets cluster es a e.0 e.1 up.legal up.more known in
    let own : tx_belongs cluster e.0 ≡ true = begun-in cluster es e.0 set.choice up.legal set.begun in
    sent-part IsSound cluster es a v v (to_all cluster.quorums a (Message.Ask t k n)) up up.keeps (stands-each cluster es a (Message.Ask t k n) (all_centres cluster.quorums) up.centre (subst (λ z. tx_belongs cluster z ≡ true) (sym is) own))
recover-part law cluster es a facts recovery v e (RecoverAct.LeadHere claim) up same votes found is =
    let known : value_of (write_sets_of (facts_of es a)) e.0 ≡ Some e.1 = subst (λ z. value_of (write_sets_of z) e.0 ≡ Some e.1) (sym same) found in
    let set = (sound-well law).shut.sets cluster es a e.0 e.1 up.legal up.more known in
    subst (λ z. IsGoodPart IsSound cluster es a (claim_led (here cluster a facts) v z)) (sym is.2)
    (claim-part IsSound (sound-well law) cluster es a facts v (claim_of_key facts recovery e.0 is.0) up same (key-claim cluster es a facts recovery e.0 e.1 is.0 up.legal up.more same votes set is.1))

-- an act for a transaction whose write set the node knows
abbrev pub IsKnownAct : List Fact → Recovering → RecoverAct → Type 0
IsKnownAct facts recovery act = (e : TxId × List (Key × ℕ)) × (value_of (write_sets_of facts) e.0 ≡ Some e.1) × IsRecoverAct facts recovery e act

known-acts : (cluster : Cluster) (facts : List Fact) (recovery : Recovering) (opened : List TxId) → Each (IsKnownAct facts recovery) (flat_map (acts_on cluster.quorums facts recovery) (dangling facts opened))
known-acts cluster facts recovery opened =
    Each-flat_map (IsKnownAct facts recovery) (acts_on cluster.quorums facts recovery) (dangling facts opened)
    (λ e i. Each-like (IsRecoverAct facts recovery e) (IsKnownAct facts recovery) (acts_on cluster.quorums facts recovery e) (λ act r. (e, found e i, r)) (acts-are cluster facts recovery e))
  where
    found : (e : TxId × List (Key × ℕ)) → In e (dangling facts opened) → value_of (write_sets_of facts) e.0 ≡ Some e.1
    found e i =
        let j = In-filter (λ (e : TxId × List (Key × ℕ)). not (has_tx opened e.0)) (unresolved_of facts) e i in
        let k = In-filter (λ (e : TxId × List (Key × ℕ)). not (is_settled facts e.0)) (write_sets_of facts) e j.0 in
        once-value (write_sets_of facts) e (once-sets facts) k.0

second-part : (law : OneMarkLaw) (cluster : Cluster) (es : List Entry) (a : ℕ) (v : Volatile) (first : StepPart) → IsUp IsSound cluster es a v → IsGoodPart IsSound cluster es a first →
    IsGoodPart IsSound cluster es a (recovery_ticked (here cluster a (facts_of es a)) first)
second-part law cluster es a v first up h =
    fold-good IsSound cluster (first.entries ++ es) es a (recovery_act (here cluster a (facts_of es a))) (flat_map (acts_on cluster.quorums (facts_of es a) recovery) txs)
    (record first { after = with_recovery first.after after }) v up start (IsTail-same (first.entries ++ es))
    (λ act i new w u s tail.
    let k = Each-at (IsKnownAct (facts_of es a) recovery) (flat_map (acts_on cluster.quorums (facts_of es a) recovery) txs) act (known-acts cluster (facts_of es a) recovery (txs_opened first.after.manager)) i in
    recover-part law cluster (new ++ es) a (facts_of es a) recovery w k.0 act u s (AreVotes-tail cluster (first.entries ++ es) (new ++ es) recovery.votes tail h.good.keeps.recovery) k.1 k.2)
  where
    recovery : Recovering
    recovery = first.after.recovery

    txs : TxMap (List (Key × ℕ))
    txs = dangling (facts_of es a) (txs_opened first.after.manager)

    after : Recovering
    after = record recovery { counters = fold counted_tick recovery.counters txs }

    start : IsGoodPart IsSound cluster es a (record first { after = with_recovery first.after after })
    start = record {
      good = record {
        own = h.good.own;
        legal = h.good.legal;
        placed = h.good.placed;
        more = h.good.more;
        stand = h.good.stand;
        keeps = record { manager = h.good.keeps.manager; recovery = h.good.keeps.recovery; leader = h.good.keeps.leader; told = h.good.keeps.told };
      };
      still = h.still;
    }

tick-part : (law : OneMarkLaw) (cluster : Cluster) (es : List Entry) (a : ℕ) (v : Volatile) → IsUp IsSound cluster es a v → IsGoodPart IsSound cluster es a (tick_parts (here cluster a (facts_of es a)) v)
tick-part law cluster es a v up =
    second-part law cluster es a v (manager_ticked (here cluster a (facts_of es a)) v) up (manager-part IsSound (sound-well law) cluster es a v up)

-- ---- messages

module _ (law : OneMarkLaw) (cluster : Cluster) (es : List Entry) (a : ℕ) (volatile : Volatile) (up : IsUp IsSound cluster es a volatile) where
  abbrev pub Roomy : Result NodeStep StepFault → Type 0
  Roomy r = IsGoodRoomy cluster IsSound es a r

  nothing : Roomy (Ok (nothing_done volatile))
  nothing room = nothing-good IsSound cluster es a volatile volatile up up.keeps

  led-step : (r : Result StepPart LeadFault) → GoodLed IsSound (sound-well law) cluster es a volatile up r → Roomy (step_of_led r)
  led-step (Ok part) g = λ room. g.0
  led-step (Err fault) g = tt

  lead-good : (s : ℕ) (choice : Choice) (o : Option Outcome) → outcome_kept (facts_of es a) choice.tx ≡ o → IsClaim es choice.key choice.version (choice.tx, Some choice) → Roomy (lead_step_after (here cluster a (facts_of es a)) volatile s choice o)
  lead-good s choice (Some o) e claim = λ room.
      let w = was-outcome cluster es a choice.tx o up.legal (kept-heard (facts_of es a) choice.tx o e) in
      sends-good IsSound cluster es a volatile volatile _ up up.keeps (record { from = up.centre; old = w.old; tail = w.tail; says = w.outcome }, tt)
  lead-good s choice None e claim =
      elim (cases_Bool (is_finished (facts_of es a) choice.tx)) [
        | inl f ↦ rw f (λ room. sends-good IsSound cluster es a volatile volatile _ up up.keeps (record { from = up.centre; old = es; tail = IsTail-same es; says = f }, tt))
        | inr f ↦ rw f (led-step (led_of (here cluster a (facts_of es a)) volatile (claim_of_choice choice)) (led-good IsSound (sound-well law) cluster es a volatile up (claim_of_choice choice) claim))
      ]

  pub message-good : (env : Envelope) (message : Message) → env.message ≡ message → TrueWhenSent cluster es env → is_centre cluster env.from ≡ true → message_belongs cluster message ≡ true →
      Roomy (message_step (here cluster a (facts_of es a)) volatile env.from message)
  message-good env (Message.Propose choice) e h from belongs =
      let said = subst (λ z. Says cluster h.old env.from z) e h.says in
      λ room. propose-good IsSound (sound-well law).shut cluster es a volatile up env.from choice (is_begun-tail cluster h.old es choice up.legal h.tail said) belongs
  message-good env (Message.Voted k v b t m) e h from belongs =
      let said : mark_given h.old k v b t env.from ≡ Some m = subst (λ z. Says cluster h.old env.from z) e h.says in
      let p = and_parts (ballot_belongs cluster b && tx_belongs cluster t) (mark_belongs cluster m) belongs in
      λ room. voted-good IsSound (sound-well law).shut cluster es a volatile up (record { from = env.from; key = k; version = v; ballot = b; tx = t; mark = m })
      (record { given = mark-tail h.old es k v b t env.from m h.tail said; centre = from; tx = (and_parts (ballot_belongs cluster b) (tx_belongs cluster t) p.0).1; mark = p.1 }) room
  message-good env (Message.Escalate k v t cause) e h from belongs = λ room. escalate-good IsSound (sound-well law).shut cluster es a volatile up env.from k t cause
  message-good env (Message.Lead choice) e h from belongs =
      let said = subst (λ z. Says cluster h.old env.from z) e h.says in
      lead-good env.from choice (outcome_kept (facts_of es a) choice.tx) refl (choice-claim es choice (is_begun-tail cluster h.old es choice up.legal h.tail said))
  message-good env (Message.Prepare k v w b) e h from belongs =
      let said = subst (λ z. Says cluster h.old env.from z) e h.says in
      λ room. prepare-good IsSound (sound-well law).shut cluster es a volatile up env.from k v w b said.0 said.1 belongs
  message-good env (Message.Promise k v w b r os) e h from belongs =
      let said = subst (λ z. Says cluster h.old env.from z) e h.says in
      led-step (promised_by_answer cluster.quorums a volatile k (on_promise cluster (facts_of es a) volatile.leader env.from (record { key = k; version = v; through = w; ballot = b; reported = r; votes = os })))
      (promise-good IsSound (sound-well law) cluster es a volatile up env.from (record { key = k; version = v; through = w; ballot = b; reported = r; votes = os })
      (record { centre = from; old = h.old; tail = h.tail; promised = said.0; reach = said.1; report = said.2 }))
  message-good env (Message.Accept k v b os) e h from belongs =
      let said : (is_fast b ≡ false) × (is_valued h.old k v b os ≡ true) = subst (λ z. Says cluster h.old env.from z) e h.says in
      let was = valued-tail h.old es k v b os h.tail said.1 in
      let p = and_parts (ballot_belongs cluster b) (options_belong cluster os) belongs in
      λ room. accept-good IsSound (sound-well law).shut cluster es a volatile up env.from k v b os said.0 was p.0 p.1 (up.more.structures k v b os was)
      (λ legal. classic-sound cluster a k v b os es legal (structure-once cluster es k v b os up.legal was) (up.more.structures k v b os was) up.more)
  message-good env (Message.Refused k v b p) e h from belongs =
      λ room. nothing-good IsSound cluster es a volatile (with_leader volatile (refused_by volatile.leader k b p (lead_of volatile.leader k))) up
      (record { manager = up.keeps.manager; recovery = up.keeps.recovery; leader = refused-good IsSound cluster es a volatile up k b p; told = up.keeps.told })
  message-good env (Message.Outcome t o) e h from belongs =
      let said = subst (λ z. Says cluster h.old env.from z) e h.says in
      let p = and_parts (tx_belongs cluster t) (outcome_belongs cluster o) belongs in
      λ room. heard-good IsSound (sound-well law).shut cluster es a volatile up h.old t o h.tail said p.0 p.1 room
  message-good env (Message.Ask t k v) e h from belongs = λ room. ask-good IsSound (sound-well law).shut cluster es a volatile up env.from t k v
  message-good env (Message.SyncAsk k) e h from belongs = λ room. sync-ask-good IsSound (sound-well law).shut cluster es a volatile up env.from k
  message-good env (Message.SyncGive k v item adds) e h from belongs =
      let said = subst (λ z. Says cluster h.old env.from z) e h.says in
      let p = and_parts (item_belongs cluster item) (adds_belong cluster adds) belongs in
      λ room. sync-give-good IsSound (sound-well law).shut cluster es a volatile up h.old env.from k v item adds h.tail said.0 said.1 said.2 p.0 p.1 room
  message-good env (Message.Mark centre era upto) e h from belongs =
      let said : (0 < upto) × (are_heard (facts_of h.old env.from) centre era upto ≡ true) = subst (λ z. Says cluster h.old env.from z) e h.says in
      λ room. mark-good IsSound (sound-well law).shut cluster es a volatile up h.old env.from centre era upto h.tail from belongs said.1
  message-good env (Message.Finished t) e h from belongs = λ room. finished-good IsSound (sound-well law).shut cluster es a volatile up t
  message-good env (Message.ClientRead n k) e h from belongs = nothing
  message-good env (Message.ClientBegin n ps) e h from belongs = nothing
  message-good env (Message.ClientAnswer n x) e h from belongs = nothing

  received-good : (env : Envelope) → TrueWhenSent cluster es env → IsGood cluster IsSound es a (step_of (here cluster a (facts_of es a)) volatile (Input.Message env))
  received-good env h =
      elim (cases_Bool (env.to == a && is_centre cluster env.from && message_belongs cluster env.message)) [
        | inl e ↦
            let p = and_parts (env.to == a && is_centre cluster env.from) (message_belongs cluster env.message) e in
            rw e (checked-good IsSound cluster es a (message_step (here cluster a (facts_of es a)) volatile env.from env.message)
            (message-good env env.message refl h (and_parts (env.to == a) (is_centre cluster env.from) p.0).1 p.1))
        | inr e ↦ rw e tt
      ]

-- all steps are good
pub full-good : OneMarkLaw → AreGood IsSound
full-good law = record {
  step = λ cluster es a volatile input up fair. by_input cluster es a volatile up input fair;
  none = (sound-well law).shut.none;
  boot = λ cluster es a n legal h. (sound-well law).shut.more cluster (Added a (Fact.Booted n)) es legal tt h;
}
  where
    by_input : (cluster : Cluster) (es : List Entry) (a : ℕ) (volatile : Volatile) → IsUp IsSound cluster es a volatile → (input : Input) → IsFair cluster es input → IsGood cluster IsSound es a (step_of (here cluster a (facts_of es a)) volatile input)
    by_input cluster es a volatile up (Input.Message env) fair = received-good law cluster es a volatile up env fair
    by_input cluster es a volatile up Input.Tick fair = (tick-part law cluster es a volatile up).good
    by_input cluster es a volatile up Input.Sweep fair = sweep-good IsSound (sound-well law).shut cluster es a volatile up
    by_input cluster es a volatile up (Input.Read key) fair = nothing-good IsSound cluster es a volatile volatile up up.keeps
    by_input cluster es a volatile up (Input.Begin parts) fair = begin-good IsSound (sound-well law).shut cluster es a volatile parts up fair
