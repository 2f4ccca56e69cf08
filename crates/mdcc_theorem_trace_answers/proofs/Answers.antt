-- A message that was sent is never foreign where it arrives, and its step crowds neither a version nor a structure.
use Rattle.std.proofs.Common.{Bool, Err, List, None, Ok, Option, Result, Some, arith, cond, false, inl, inr, length, refl, subst, suc, sym, true, ℕ, ◌&&◌, ◌+◌, ◌<◌, ◌==◌, ◌∷◌, ◌≡◌, ◌≤◌}
use Rattle.std.specs.Prelude.{nat_le, nat_lt, ◌-◌, ◌^◌}
use Rattle.std.proofs.lemmas.Bool.{and_from, cases_Bool, eq-eqb, leb-true, ltb-true, or_cases, or_left, cond_both}
use Rattle.mdcc_base.specs.Ballot.{ballot_eq}
use Rattle.mdcc_base.specs.Key.{key_eq}
use Rattle.mdcc_base.specs.declared.identifiers.Ballot.{Ballot}
use Rattle.mdcc_base.specs.declared.key.Key.{Key}
use Rattle.mdcc_option.specs.declared.choices.Claim.{Claim}
use Rattle.mdcc_option.specs.declared.choices.Outcome.{Outcome}
use Rattle.mdcc_option.specs.declared.choices.Choice.{Choice}
use Rattle.mdcc_option.specs.declared.cluster.Cluster.{Cluster}
use Rattle.mdcc_struct.specs.declared.options.Options.{Options}
use Rattle.mdcc_def_ledger.specs.AllowedLedgers.{IsAllowed, IsBacked, is_valued, is_valued_as}
use Rattle.mdcc_def_protocol.specs.Belongs.{is_centre, message_belongs}
use Rattle.mdcc_def_protocol.specs.Facts.{current_of, epoch_of, is_finished, outcome_kept}
use Rattle.mdcc_def_protocol.specs.IsCluster.{IsCluster}
use Rattle.mdcc_def_protocol.specs.Leader.{claim_of_choice, counted_promise, has_proposed, is_covered, is_promise_counted, is_waiting, lead, led_anew, led_by, next_round, on_promise, promise_taken, with_promise}
use Rattle.mdcc_def_rules.specs.LeaderRules.{lead_step_after, led_by_answer, promised_by_answer, step_of_led, led_of}
use Rattle.mdcc_def_ledger.specs.Ledger.{Entry, Valued, facts_of}
use Rattle.mdcc_def_protocol.specs.Marks.{accepts_in, options_eq, rejects_in}
use Rattle.mdcc_def_protocol.specs.News.{is_crowding}
use Rattle.mdcc_def_rules.specs.Node.{checked_for_room, is_without_room, message_step, step_of, with_room}
use Rattle.mdcc_def_rules.specs.Steps.{NodeStep, sending}
use Rattle.mdcc_def_protocol.specs.Structures.{first_structure, is_crowded, is_enough}
use Rattle.mdcc_def_protocol.specs.Leader.{reports_of}
use Rattle.mdcc_def_protocol.specs.Volatile.{Lead, Leading, Volatile, lead_of}
use Rattle.mdcc_def_messages.specs.declared.facts.Fact.{Fact}
use Rattle.mdcc_def_protocol.specs.declared.leader.LeadAnswer.{LeadAnswer}
use Rattle.mdcc_def_protocol.specs.declared.leader.LeadFault.{LeadFault}
use Rattle.mdcc_def_protocol.specs.declared.leader.Promise.{Promise}
use Rattle.mdcc_def_protocol.specs.declared.leader.PromiseAnswer.{PromiseAnswer}
use Rattle.mdcc_def_messages.specs.declared.messages.Envelope.{Envelope}
use Rattle.mdcc_def_messages.specs.declared.messages.Message.{Message}
use Rattle.mdcc_def_rules.specs.declared.node.Input.{Input}
use Rattle.mdcc_def_rules.specs.declared.node.StepFault.{StepFault}
use Rattle.mdcc_theorem_agreement.specs.Laws.{IsLedger}
use Rattle.mdcc_theorem_bounds.proofs.RoomTold.{room_sent}
use Rattle.mdcc_theorem_trace_states.specs.Invariant.{IsGoodBy, IsGoodRoomy}
use Rattle.mdcc_theorem_trace_states.specs.Sound.{IsSound}
use Rattle.mdcc_theorem_trace_states.specs.MessageMeaning.{IsBackedMessage, Says, TrueWhenSent}
use Rattle.mdcc_theorem_trace_states.specs.Steps.{IsUp}
use Rattle.mdcc_theorem_trace_states.proofs.Tests.{Decides-ballot, Decides-key, Decides-options}
use Rattle.mdcc_theorem_trace.proofs.Full.{message-good}
use Rattle.mdcc_theorem_trace.proofs.Laws.{law}
use Rattle.mdcc_theorem_trace.proofs.Sound.{sound-well}
use Rattle.mdcc_theorem_trace.proofs.Structuring.{GoodLed, promise-good}
use Rattle.mdcc_theorem_trace_answers.specs.Answered.{IsRefusedForRoom, IsStepAnswered}
use Rattle.mdcc_theorem_trace_answers.proofs.Crowding.{not-crowding}
use Rattle.mdcc_def_rules.specs.Here.{here}
use Rattle.mdcc_def_rules.specs.Messages.{to_one}
use Rattle.mdcc_theorem_agreement.proofs.VersionsLow.{few-begun}

-- ---- structures

valued-here : (es : List Entry) (a : ℕ) (k : Key) (v : ℕ) (b : Ballot) (os : Options) → is_valued (Valued a k v b os ∷ es) k v b os ≡ true
valued-here es a k v b os =
    or_left (is_valued_as k v b os (Valued a k v b os)) (is_valued es k v b os)
    (and_from (v == v && ballot_eq b b && key_eq k k) (options_eq os os) (and_from (v == v && ballot_eq b b) (key_eq k k) (and_from (v == v) (ballot_eq b b) (eq-eqb v v refl) ((Decides-ballot b b).1 refl)) ((Decides-key k k).1 refl)) ((Decides-options os os).1 refl))

-- no structure that may be sent is crowded
not-crowded : (cluster : Cluster) (es : List Entry) (a : ℕ) (k : Key) (v : ℕ) (b : Ballot) (os : Options) → IsLedger cluster (Valued a k v b os ∷ es) → is_crowded os ≡ true → ⊥
not-crowded cluster es a k v b os l crowded =
    let r = room_sent cluster (Valued a k v b os ∷ es) l k v b os (valued-here es a k v b os) in
    elim (or_cases (nat_lt 1024 (length (accepts_in os))) (nat_lt 32768 (length (rejects_in os))) crowded) [
      | inl e ↦ let g = ltb-true 1024 (length (accepts_in os)) e in let f = r.0 in impossible 1024 (length (accepts_in os)) g f
      | inr e ↦ let g = ltb-true 32768 (length (rejects_in os)) e in let f = r.1 in impossible 32768 (length (rejects_in os)) g f
    ]
  where
    impossible : (m n : ℕ) → m < n → n < m → ⊥
    impossible m n g f = omega (arith, g, f)

-- ---- why a leader refuses

anew-fault : (cluster : Cluster) (me epoch : ℕ) (facts : List Fact) (leader : Leading) (claim : Claim) (fault : LeadFault) → next_round facts leader claim.key claim.version < 2 ^ 32 → led_anew cluster me epoch facts leader claim ≡ Err fault → ⊥
anew-fault cluster me epoch facts leader claim fault low h = pick (nat_le (2 ^ 32) (next_round facts leader claim.key claim.version)) refl _ h
  where
    pick : (b : Bool) → nat_le (2 ^ 32) (next_round facts leader claim.key claim.version) ≡ b → (r : LeadAnswer × Leading) → cond b (Err LeadFault.Exhausted) (Ok r) ≡ Err fault → ⊥
    pick true e r g = let m = leb-true (2 ^ 32) (next_round facts leader claim.key claim.version) e in between (next_round facts leader claim.key claim.version) low m
      where
        between : (n : ℕ) → n < 2 ^ 32 → 2 ^ 32 ≤ n → ⊥
        between n x y = omega (arith, x, y)
    pick false e r g = absurd (cc)

pub lead-fault : (cluster : Cluster) (me epoch : ℕ) (facts : List Fact) (leader : Leading) (claim : Claim) (fault : LeadFault) → next_round facts leader claim.key claim.version < 2 ^ 32 → lead cluster me epoch facts leader claim ≡ Err fault → ⊥
lead-fault cluster me epoch facts leader claim fault low h = pick (nat_lt (current_of facts claim.key) claim.version) (λ g. by_lead (lead_of leader claim.key) g) h
  where
    pick2 : (x y z : Bool) (r s : LeadAnswer × Leading) → cond x (led_anew cluster me epoch facts leader claim) (cond y (Ok r) (cond z (Ok s) (led_anew cluster me epoch facts leader claim))) ≡ Err fault → ⊥
    pick2 true y z r s g = anew-fault cluster me epoch facts leader claim fault low g
    pick2 false true z r s g = absurd (cc)
    pick2 false false true r s g = absurd (cc)
    pick2 false false false r s g = anew-fault cluster me epoch facts leader claim fault low g

    by_lead : (o : Option Lead) → led_by cluster me epoch facts leader claim o ≡ Err fault → ⊥
    by_lead None g = anew-fault cluster me epoch facts leader claim fault low g
    by_lead (Some x) g = pick2 x.is_refused (is_covered cluster.quorums x claim.version) (is_waiting x claim.version) _ _ g

    pick : (b : Bool) → (led_by cluster me epoch facts leader claim (lead_of leader claim.key) ≡ Err fault → ⊥) → cond b (Ok (LeadAnswer.Behind, leader)) (led_by cluster me epoch facts leader claim (lead_of leader claim.key)) ≡ Err fault → ⊥
    pick true f g = absurd (cc)
    pick false f g = f g

promise-fault : (cluster : Cluster) (facts : List Fact) (leader : Leading) (from : ℕ) (promise : Promise) (fault : LeadFault) → on_promise cluster facts leader from promise ≡ Err fault → fault ≡ LeadFault.Crowded
promise-fault cluster facts leader from promise fault h = by_lead (lead_of leader promise.key) h
  where
    pick3 : (x y z : Bool) (r s t : PromiseAnswer × Leading) → cond x (Ok r) (cond y (cond z (Err LeadFault.Crowded) (Ok s)) (Ok t)) ≡ Err fault → fault ≡ LeadFault.Crowded
    pick3 true y z r s t g = absurd (cc)
    pick3 false true true r s t g = let e : LeadFault.Crowded ≡ fault = cc in sym e
    pick3 false true false r s t g = absurd (cc)
    pick3 false false z r s t g = absurd (cc)

    counted : (x : Lead) → counted_promise cluster facts leader x ≡ Err fault → fault ≡ LeadFault.Crowded
    counted x g =
        pick3 (has_proposed x) (is_enough cluster facts x.key x.version (reports_of x.promises)) (is_crowded (first_structure cluster facts x.key x.version x.claims (reports_of x.promises))) _ _ _ g

    pick : (b : Bool) (x : Lead) (r : PromiseAnswer × Leading) → cond b (counted_promise cluster facts leader x) (Ok r) ≡ Err fault → fault ≡ LeadFault.Crowded
    pick true x r g = counted x g
    pick false x r g = absurd (cc)

    by_lead : (o : Option Lead) → promise_taken cluster facts leader from promise o ≡ Err fault → fault ≡ LeadFault.Crowded
    by_lead None g = absurd (cc)
    by_lead (Some x) g = pick (is_promise_counted x from promise) (with_promise x from promise) _ g

-- ---- messages

module _ (cluster : Cluster) (es : List Entry) (a : ℕ) (volatile : Volatile) (up : IsUp IsSound cluster es a volatile) (is : IsCluster cluster) (short : length es + 1 ≤ 2 ^ 64 - 1)
    (low : (key : Key) (version : ℕ) → next_round (facts_of es a) volatile.leader key version < 2 ^ 32) where
  ledger : IsLedger cluster es
  ledger = record { of_cluster = is; allowed = up.legal; few = few-begun es (omega (arith, short)) }

  led-answered : (r : Result (LeadAnswer × Leading) LeadFault) (claim : Claim) → ((fault : LeadFault) → r ≡ Err fault → ⊥) → IsStepAnswered (step_of_led (led_by_answer cluster.quorums a volatile claim r))
  led-answered (Ok (answer, after)) claim f = tt
  led-answered (Err fault) claim f = absurd (f fault refl)

  claimed-answered : (s : ℕ) (choice : Choice) (o : Option Outcome) → IsStepAnswered (lead_step_after (here cluster a (facts_of es a)) volatile s choice o)
  claimed-answered s choice (Some o) = tt
  claimed-answered s choice None =
      cond_both (is_finished (facts_of es a) choice.tx) (Ok (sending volatile (to_one a s (Message.Finished choice.tx)))) (step_of_led (led_of (here cluster a (facts_of es a)) volatile (claim_of_choice choice))) IsStepAnswered (λ e. tt)
      (λ f. led-answered (lead cluster a (epoch_of (facts_of es a)) (facts_of es a) volatile.leader (claim_of_choice choice)) (claim_of_choice choice)
      (λ fault e. lead-fault cluster a (epoch_of (facts_of es a)) (facts_of es a) volatile.leader (claim_of_choice choice) fault (low choice.key choice.version) e))

  promised-answered : (k : Key) (r : Result (PromiseAnswer × Leading) LeadFault) → ((fault : LeadFault) → r ≡ Err fault → fault ≡ LeadFault.Crowded) → (r ≡ Err LeadFault.Crowded → ⊥) → IsStepAnswered (step_of_led (promised_by_answer cluster.quorums a volatile k r))
  promised-answered k (Ok (answer, after)) f g = tt
  promised-answered k (Err LeadFault.Exhausted) f g = let bad = f LeadFault.Exhausted refl in absurd (cc)
  promised-answered k (Err LeadFault.Crowded) f g = absurd (g refl)
  promised-answered k (Err LeadFault.Memory) f g = let bad = f LeadFault.Memory refl in absurd (cc)

  message-answered : (env : Envelope) (message : Message) → env.message ≡ message → TrueWhenSent cluster es env → IsStepAnswered (message_step (here cluster a (facts_of es a)) volatile env.from message)
  message-answered env (Message.Propose choice) e h = tt
  message-answered env (Message.Voted k v b t m) e h = tt
  message-answered env (Message.Escalate k v t cause) e h = tt
  message-answered env (Message.Lead choice) e h = claimed-answered env.from choice (outcome_kept (facts_of es a) choice.tx)
  message-answered env (Message.Prepare k v w b) e h = tt
  message-answered env (Message.Promise k v w b r os) e h =
      promised-answered k (on_promise cluster (facts_of es a) volatile.leader env.from promise) (λ fault f. promise-fault cluster (facts_of es a) volatile.leader env.from promise fault f) crowded
    where
      promise : Promise
      promise = record { key = k; version = v; through = w; ballot = b; reported = r; votes = os }

      crowded : on_promise cluster (facts_of es a) volatile.leader env.from promise ≡ Err LeadFault.Crowded → ⊥
      crowded f =
          let said = subst (λ z. Says cluster h.old env.from z) e h.says in
          let good = promise-good IsSound (sound-well law) cluster es a volatile up env.from promise (record { centre = h.from; old = h.old; tail = h.tail; promised = said.0; reach = said.1; report = said.2 }) in
          let told : (key : Key) × (version : ℕ) × (ballot : Ballot) × (options : Options) × IsAllowed cluster (Valued a key version ballot options ∷ es) × (is_crowded options ≡ true) = subst (λ z. GoodLed IsSound (sound-well law) cluster es a volatile up (promised_by_answer cluster.quorums a volatile k z)) f good in
          not-crowded cluster es a told.0 told.1 told.2 told.3 (record { of_cluster = is; allowed = told.4; few = few-begun (Valued a told.0 told.1 told.2 told.3 ∷ es) (longer (length es) short) }) told.5
        where
          longer : (n : ℕ) → n + 1 ≤ 2 ^ 64 - 1 → suc n ≤ 2 ^ 64 - 1
          longer n h = omega (arith, h)
  message-answered env (Message.Accept k v b os) e h = tt
  message-answered env (Message.Refused k v b p) e h = tt
  message-answered env (Message.Outcome t o) e h = tt
  message-answered env (Message.Ask t k v) e h = tt
  message-answered env (Message.SyncAsk k) e h = tt
  message-answered env (Message.SyncGive k v item adds) e h = tt
  message-answered env (Message.Mark centre era upto) e h = tt
  message-answered env (Message.Finished t) e h = tt
  message-answered env (Message.ClientRead n k) e h = tt
  message-answered env (Message.ClientBegin n ps) e h = tt
  message-answered env (Message.ClientAnswer n x) e h = tt

  -- a fact has room, but for that in the cells
  room-answered : (step : NodeStep) (o : Option Fact) → IsGoodBy cluster IsSound es a step o → IsStepAnswered (with_room cluster (facts_of es a) step o)
  room-answered step None g = tt
  room-answered step (Some fact) g =
      elim (cases_Bool (is_without_room cluster (facts_of es a) fact)) [
        | inl e ↦ rw e tt
        | inr e ↦ rw e (let few : is_crowding (facts_of es a) fact ≡ false = not-crowding cluster es a fact ledger g.1.legal.1.2 in rw few tt)
      ]

  pub envelope-answered : (env : Envelope) → env.to ≡ a → IsBackedMessage cluster es env → IsStepAnswered (step_of (here cluster a (facts_of es a)) volatile (Input.Message env))
  envelope-answered env to h =
      rw own (by_result (message_step (here cluster a (facts_of es a)) volatile env.from env.message) refl)
    where
      own : (env.to == a && is_centre cluster env.from && message_belongs cluster env.message) ≡ true
      own = and_from (env.to == a && is_centre cluster env.from) (message_belongs cluster env.message) (and_from (env.to == a) (is_centre cluster env.from) (eq-eqb env.to a to) h.sent.from) h.belongs

      answered : IsStepAnswered (message_step (here cluster a (facts_of es a)) volatile env.from env.message)
      answered = message-answered env env.message refl h.sent

      by_result : (r : Result NodeStep StepFault) → message_step (here cluster a (facts_of es a)) volatile env.from env.message ≡ r → IsStepAnswered (checked_for_room cluster (facts_of es a) r)
      by_result (Err fault) e = let g : IsRefusedForRoom fault = subst IsStepAnswered e answered in g
      by_result (Ok step) e =
          room-answered step step.fact
          (let good = message-good law cluster es a volatile up env env.message refl h.sent h.sent.from h.belongs in
          let roomy : ((fact : Fact) → step.fact ≡ Some fact → IsBacked cluster es a fact → is_crowding (facts_of es a) fact ≡ false) → IsGoodBy cluster IsSound es a step step.fact = subst (λ z. IsGoodRoomy cluster IsSound es a z) e good in
          roomy (λ fact f b. not-crowding cluster es a fact ledger b))
