-- How much a step adds to the ledger, and how many transactions it leaves open.
use Rattle.std.proofs.Common.{Bool, Err, List, None, Ok, Option, Result, Some, [], arith, cond, false, inl, inr, length, refl, suc, true, ℕ, ◌&&◌, ◌*◌, ◌++◌, ◌+◌, ◌==◌, ◌∷◌, ◌≡◌, ◌≤◌}
use Rattle.std.specs.Prelude.{filter, flat_map, fold, map, nat_le, not, ⊤, ◌%◌}
use Rattle.std.proofs.Math.Nat.{mul-suc}
use Rattle.std.proofs.lemmas.Bool.{cases_Bool}
use Rattle.mdcc_base.specs.Counts.{number_of}
use Rattle.mdcc_base.specs.Sizes.{Sizes}
use Rattle.mdcc_base.specs.TxId.{tx_eq}
use Rattle.mdcc_base.specs.declared.identifiers.Ballot.{Ballot}
use Rattle.mdcc_base.specs.declared.identifiers.TxId.{TxId}
use Rattle.mdcc_base.specs.declared.key.Key.{Key}
use Rattle.mdcc_option.specs.declared.choices.Cause.{Cause}
use Rattle.mdcc_option.specs.declared.choices.Choice.{Choice}
use Rattle.mdcc_option.specs.declared.choices.Claim.{Claim}
use Rattle.mdcc_option.specs.declared.choices.Mark.{Mark}
use Rattle.mdcc_option.specs.declared.choices.Outcome.{Outcome}
use Rattle.mdcc_option.specs.declared.cluster.Cluster.{Cluster}
use Rattle.mdcc_struct.specs.declared.options.Options.{Options}
use Rattle.mdcc_def_protocol.specs.Acceptor.{on_accept, on_prepare, on_propose}
use Rattle.mdcc_def_rules.specs.AcceptorRules.{accepted_step, ask_step_after, ask_step_by, prepared_step, proposed_step}
use Rattle.mdcc_def_protocol.specs.Facts.{epoch_of, is_finished, is_settled, outcome_kept, vote_of}
use Rattle.mdcc_def_protocol.specs.Leader.{claim_of_choice, is_marked, lead}
use Rattle.mdcc_def_rules.specs.LeaderRules.{lead_step_after, led_by_answer, led_of, promised_by_answer, step_of_led}
use Rattle.mdcc_def_protocol.specs.Learner.{is_learned}
use Rattle.mdcc_def_ledger.specs.Ledger.{Entry, Valued}
use Rattle.mdcc_def_protocol.specs.Manager
use Rattle.mdcc_def_protocol.specs.Manager.{act_on_cause, act_on_vote, acted, acts_at, choices_unlearned, vote_taken}
use Rattle.mdcc_def_rules.specs.ManagerRules.{acted_step, decided_step, escalate_step, opened_step, undecided_step, voted_step, watched_step}
use Rattle.mdcc_def_rules.specs.Node.{checked_for_room, is_without_room, message_step, with_room}
use Rattle.mdcc_def_protocol.specs.News.{is_crowding}
use Rattle.mdcc_def_protocol.specs.Recover
use Rattle.mdcc_def_protocol.specs.Recover.{acts_on, ask_of, claim_of_key, keys_led}
use Rattle.mdcc_def_rules.specs.Steps.{NodeStep, StepPart, adding, nothing_done, only_sending, part_and_then, sending}
use Rattle.mdcc_def_rules.specs.SyncRules.{outcome_step_by, sync_give_step_by}
use Rattle.mdcc_def_rules.specs.TickRules.{claim_led, led_or_left, manager_act, recovery_act}
use Rattle.mdcc_def_protocol.specs.Visible.{on_outcome, on_sync_give}
use Rattle.mdcc_def_protocol.specs.Volatile.{Leading, Managing, Recovering, Undecided, Volatile, closed, counter_of, is_opened, next_count, with_manager, with_recovery}
use Rattle.mdcc_def_protocol.specs.declared.acceptor.AcceptAnswer.{AcceptAnswer}
use Rattle.mdcc_def_protocol.specs.declared.acceptor.PrepareAnswer.{PrepareAnswer}
use Rattle.mdcc_def_protocol.specs.declared.acceptor.ProposeAnswer.{ProposeAnswer}
use Rattle.mdcc_def_messages.specs.declared.facts.Fact.{Fact}
use Rattle.mdcc_def_protocol.specs.declared.leader.LeadAnswer.{LeadAnswer}
use Rattle.mdcc_def_protocol.specs.declared.leader.LeadFault.{LeadFault}
use Rattle.mdcc_def_protocol.specs.declared.leader.PromiseAnswer.{PromiseAnswer}
use Rattle.mdcc_def_protocol.specs.declared.manager.ManagerAct.{ManagerAct}
use Rattle.mdcc_def_messages.specs.declared.messages.Envelope.{Envelope}
use Rattle.mdcc_def_messages.specs.declared.messages.Message.{Message}
use Rattle.mdcc_def_rules.specs.declared.node.StepFault.{StepFault}
use Rattle.mdcc_def_protocol.specs.declared.recover.RecoverAct.{RecoverAct}
use Rattle.mdcc_def_protocol.specs.declared.votes.Vote.{Vote}
use Rattle.mdcc_theorem_trace_states.specs.Words.{Each}
use Rattle.mdcc_def_rules.specs.Here.{here}
use Rattle.mdcc_def_rules.specs.Messages.{to_one}

abbrev pub is_begin : Entry → Bool
is_begin (Entry.Begun a tx choices) = true
is_begin _ = false

-- how many transactions a node has open
abbrev pub opened_in : Volatile → ℕ
opened_in volatile = length volatile.manager.opened

abbrev pub facts_in : Option Fact → ℕ
facts_in None = 0
facts_in (Some fact) = 1

-- at most one entry comes, none begins a transaction, and no more are open
pub record IsSmall (volatile : Volatile) (step : NodeStep) : Type 0 where
  pub weight : length step.entries + facts_in step.fact ≤ 1
  pub begun : number_of is_begin step.entries ≡ 0
  pub opened : opened_in step.after ≤ opened_in volatile

abbrev pub IsSmallResult : Volatile → Result NodeStep StepFault → Type 0
IsSmallResult volatile (Ok step) = IsSmall volatile step
IsSmallResult volatile (Err fault) = ⊤

done-small : (volatile after : Volatile) → opened_in after ≤ opened_in volatile → IsSmall volatile (nothing_done after)
done-small volatile after h = record { weight = omega arith; begun = refl; opened = h }

sending-small : (volatile after : Volatile) (sends : List Envelope) → opened_in after ≤ opened_in volatile → IsSmall volatile (sending after sends)
sending-small volatile after sends h = record { weight = omega arith; begun = refl; opened = h }

adding-small : (volatile after : Volatile) (fact : Fact) (sends : List Envelope) → opened_in after ≤ opened_in volatile → IsSmall volatile (adding after fact sends)
adding-small volatile after fact sends h = record { weight = omega arith; begun = refl; opened = h }

same : (volatile : Volatile) → opened_in volatile ≤ opened_in volatile
same volatile = omega arith

pub filter-few : {A : Type 0} (p : A → Bool) (xs : List A) → length (filter p xs) ≤ length xs
filter-few p [] = omega arith
filter-few p (x ∷ xs) = elim (cases_Bool (p x)) [ inl e ↦ rw e (omega (arith, filter-few p xs)) | inr e ↦ rw e (omega (arith, filter-few p xs)) ]

pub map-length : {A B : Type 0} (f : A → B) (xs : List A) → length (map f xs) ≡ length xs
map-length f [] = refl
map-length f (x ∷ xs) = omega (arith, map-length f xs)

closed-few : (volatile : Volatile) (tx : TxId) → opened_in (closed volatile tx) ≤ opened_in volatile
closed-few volatile tx = filter-few (λ (t : Undecided). not (tx_eq t.tx tx)) volatile.manager.opened

-- ---- the acceptor

proposed-small : (me : ℕ) (volatile : Volatile) (s : ℕ) (choice : Choice) (answer : ProposeAnswer) → IsSmall volatile (proposed_step me volatile s choice answer)
proposed-small me volatile s choice (ProposeAnswer.Known outcome) = sending-small volatile volatile _ (same volatile)
proposed-small me volatile s choice ProposeAnswer.Finished = sending-small volatile volatile _ (same volatile)
proposed-small me volatile s choice (ProposeAnswer.Again ballot mark) = sending-small volatile volatile _ (same volatile)
proposed-small me volatile s choice (ProposeAnswer.Escalate cause) = sending-small volatile volatile _ (same volatile)
proposed-small me volatile s choice (ProposeAnswer.Vote mark) = adding-small volatile volatile _ _ (same volatile)

prepared-small : (me : ℕ) (facts : List Fact) (volatile : Volatile) (l : ℕ) (k : Key) (v : ℕ) (b : Ballot) (answer : PrepareAnswer) → IsSmall volatile (prepared_step me facts volatile l k v b answer)
prepared-small me facts volatile l k v b (PrepareAnswer.Refused promise) = sending-small volatile volatile _ (same volatile)
prepared-small me facts volatile l k v b (PrepareAnswer.Again high) = sending-small volatile volatile _ (same volatile)
prepared-small me facts volatile l k v b (PrepareAnswer.Promise high) = adding-small volatile volatile _ _ (same volatile)

accepted-small : (me : ℕ) (facts : List Fact) (volatile : Volatile) (l : ℕ) (k : Key) (v : ℕ) (b : Ballot) (os : Options) (answer : AcceptAnswer) → IsSmall volatile (accepted_step me facts volatile l k v b os answer)
accepted-small me facts volatile l k v b os (AcceptAnswer.Refused promise) = sending-small volatile volatile _ (same volatile)
accepted-small me facts volatile l k v b os (AcceptAnswer.Behind current) = sending-small volatile volatile _ (same volatile)
accepted-small me facts volatile l k v b os AcceptAnswer.Older = sending-small volatile volatile _ (same volatile)
accepted-small me facts volatile l k v b os AcceptAnswer.Vote = adding-small volatile volatile _ _ (same volatile)

asked-small : (me : ℕ) (facts : List Fact) (volatile : Volatile) (s : ℕ) (t : TxId) (k : Key) (v : ℕ) (o : Option Outcome) → IsSmall volatile (ask_step_by me facts volatile s t k v o)
asked-small me facts volatile s t k v (Some o) = sending-small volatile volatile _ (same volatile)
asked-small me facts volatile s t k v None = pick (is_finished facts t) (vote_of facts k v t)
  where
    pick : (b : Bool) (x : Option (Ballot × Mark)) → IsSmall volatile (cond b (sending volatile (to_one me s (Message.Finished t))) (ask_step_after me volatile s t k v x))
    pick true x = sending-small volatile volatile _ (same volatile)
    pick false (Some x) = sending-small volatile volatile _ (same volatile)
    pick false None = done-small volatile volatile (same volatile)

outcome-small : (volatile : Volatile) (t : TxId) (o : Option Fact) → IsSmall volatile (outcome_step_by volatile t o)
outcome-small volatile t None = done-small volatile volatile (same volatile)
outcome-small volatile t (Some fact) = adding-small volatile (closed volatile t) fact [] (closed-few volatile t)

given-small : (volatile : Volatile) (o : Option Fact) → IsSmall volatile (sync_give_step_by volatile o)
given-small volatile None = done-small volatile volatile (same volatile)
given-small volatile (Some fact) = adding-small volatile volatile fact [] (same volatile)

-- ---- the manager

taken-few : (quorums : Sizes) (manager : Managing) (vote : Vote) → length (vote_taken quorums manager vote).opened ≡ length manager.opened
taken-few quorums manager vote = elim (cases_Bool (is_opened manager vote.tx)) [ inl e ↦ rw e refl | inr e ↦ rw e refl ]

acted-few : (manager : Managing) (act : Option ManagerAct) → length (acted manager act).1.opened ≡ length manager.opened
acted-few manager None = refl
acted-few manager (Some (ManagerAct.Lead leader choice)) = map-length _ manager.opened
acted-few manager (Some (ManagerAct.Give centre key)) = refl
acted-few manager (Some (ManagerAct.Decide tx outcome)) = refl
acted-few manager (Some (ManagerAct.Propose choice)) = refl
acted-few manager (Some (ManagerAct.LeadHere choice)) = refl

acted-small : (me : ℕ) (facts : List Fact) (volatile : Volatile) (r : Option ManagerAct × Managing) → length r.1.opened ≤ opened_in volatile → IsSmall volatile (acted_step me facts volatile r)
acted-small me facts volatile (act, manager) h = sending-small volatile (with_manager volatile manager) _ h

decided-small : (cluster : Cluster) (me : ℕ) (volatile : Volatile) (t : TxId) (o : Outcome) → IsSmall volatile (decided_step cluster me volatile t o)
decided-small cluster me volatile t o = adding-small volatile (closed volatile t) _ _ (closed-few volatile t)

undecided-small : (cluster : Cluster) (me : ℕ) (facts : List Fact) (volatile : Volatile) (vote : Vote) → IsSmall volatile (undecided_step (here cluster me facts) volatile vote)
undecided-small cluster me facts volatile vote =
    acted-small me facts volatile (Manager.on_voted cluster.quorums volatile.manager vote) (few (acted-few (vote_taken cluster.quorums volatile.manager vote) act) taken)
  where
    taken : length (vote_taken cluster.quorums volatile.manager vote).opened ≡ opened_in volatile
    taken = taken-few cluster.quorums volatile.manager vote

    act : Option ManagerAct
    act = act_on_vote cluster.quorums (vote_taken cluster.quorums volatile.manager vote) vote (Manager.decision cluster.quorums (vote_taken cluster.quorums volatile.manager vote) vote.tx)

    few : {x y z : ℕ} → x ≡ y → y ≡ z → x ≤ z
    few e f = omega (arith, e, f)

opened-small : (cluster : Cluster) (me : ℕ) (facts : List Fact) (volatile : Volatile) (vote : Vote) (o : Option Outcome) → IsSmall volatile (opened_step (here cluster me facts) volatile vote o)
opened-small cluster me facts volatile vote (Some o) = decided-small cluster me volatile vote.tx o
opened-small cluster me facts volatile vote None = undecided-small cluster me facts volatile vote

watched-small : (cluster : Cluster) (me : ℕ) (facts : List Fact) (volatile : Volatile) (vote : Vote) (o : Option (TxId × Outcome)) → IsSmall volatile (watched_step (here cluster me facts) volatile vote o)
watched-small cluster me facts volatile vote (Some d) = decided-small cluster me volatile d.0 d.1
watched-small cluster me facts volatile vote None = done-small volatile (with_recovery volatile (Recover.on_voted cluster.quorums facts volatile.recovery vote).1) (same volatile)

voted-small : (cluster : Cluster) (me : ℕ) (facts : List Fact) (volatile : Volatile) (vote : Vote) → IsSmall volatile (voted_step (here cluster me facts) volatile vote)
voted-small cluster me facts volatile vote =
    elim (cases_Bool (is_settled facts vote.tx)) [
      | inl e ↦ rw e (done-small volatile volatile (same volatile))
      | inr e ↦ rw e (elim (cases_Bool (is_opened volatile.manager vote.tx)) [
        | inl f ↦ rw f (opened-small cluster me facts volatile vote _)
        | inr f ↦ rw f (watched-small cluster me facts volatile vote _)
      ])
    ]

escalate-small : (cluster : Cluster) (me : ℕ) (facts : List Fact) (volatile : Volatile) (a : ℕ) (k : Key) (t : TxId) (cause : Cause) → IsSmall volatile (escalate_step (here cluster me facts) volatile a k t cause)
escalate-small cluster me facts volatile a k t cause = acted-small me facts volatile (Manager.on_escalate cluster.quorums volatile.manager a t k cause) few
  where
    few : length (Manager.on_escalate cluster.quorums volatile.manager a t k cause).1.opened ≤ opened_in volatile
    few = elim (cases_Bool (is_opened volatile.manager t && not (is_learned cluster.quorums volatile.manager.votes t k))) [
      | inl e ↦ rw e (let g = acted-few volatile.manager (act_on_cause cluster.quorums volatile.manager a t k cause) in omega (arith, g))
      | inr e ↦ rw e (omega arith)
    ]

-- ---- the leader

abbrev pub IsSmallLed : Volatile → Result StepPart LeadFault → Type 0
IsSmallLed volatile (Ok part) = (length part.entries ≤ 1) × (number_of is_begin part.entries ≡ 0) × (opened_in part.after ≤ opened_in volatile)
IsSmallLed volatile (Err fault) = ⊤

answered-small : (quorums : Sizes) (me : ℕ) (volatile : Volatile) (claim : Claim) (r : Result (LeadAnswer × Leading) LeadFault) → IsSmallLed volatile (led_by_answer quorums me volatile claim r)
answered-small quorums me volatile claim (Err fault) = tt
answered-small quorums me volatile claim (Ok (LeadAnswer.Behind, after)) = (omega arith, refl, same volatile)
answered-small quorums me volatile claim (Ok (LeadAnswer.Prepare v w b, after)) = (omega arith, refl, same volatile)
answered-small quorums me volatile claim (Ok (LeadAnswer.Left, after)) = (omega arith, refl, same volatile)
answered-small quorums me volatile claim (Ok (LeadAnswer.Accept v b os, after)) = let p = pick (is_marked volatile.leader claim) in (p.0, p.1, same volatile)
  where
    pick : (t : Bool) → (length (cond t [] (Valued me claim.key v b os ∷ [])) ≤ 1) × (number_of is_begin (cond t [] (Valued me claim.key v b os ∷ [])) ≡ 0)
    pick true = (omega arith, refl)
    pick false = (omega arith, refl)

pub led-small : (cluster : Cluster) (me : ℕ) (facts : List Fact) (volatile : Volatile) (claim : Claim) → IsSmallLed volatile (led_of (here cluster me facts) volatile claim)
led-small cluster me facts volatile claim = answered-small cluster.quorums me volatile claim (lead cluster me (epoch_of facts) facts volatile.leader claim)

promised-small : (quorums : Sizes) (me : ℕ) (volatile : Volatile) (k : Key) (r : Result (PromiseAnswer × Leading) LeadFault) → IsSmallLed volatile (promised_by_answer quorums me volatile k r)
promised-small quorums me volatile k (Err fault) = tt
promised-small quorums me volatile k (Ok (PromiseAnswer.Ignored, after)) = (omega arith, refl, same volatile)
promised-small quorums me volatile k (Ok (PromiseAnswer.Waiting n, after)) = (omega arith, refl, same volatile)
promised-small quorums me volatile k (Ok (PromiseAnswer.Counted, after)) = (omega arith, refl, same volatile)
promised-small quorums me volatile k (Ok (PromiseAnswer.Accept v b os, after)) = (omega arith, refl, same volatile)

step-small : (volatile : Volatile) (r : Result StepPart LeadFault) → IsSmallLed volatile r → IsSmallResult volatile (step_of_led r)
step-small volatile (Ok part) h = record { weight = omega (arith, h.0); begun = h.1; opened = h.2 }
step-small volatile (Err fault) h = tt

lead-small : (cluster : Cluster) (me : ℕ) (facts : List Fact) (volatile : Volatile) (s : ℕ) (choice : Choice) (o : Option Outcome) → IsSmallResult volatile (lead_step_after (here cluster me facts) volatile s choice o)
lead-small cluster me facts volatile s choice (Some o) = sending-small volatile volatile _ (same volatile)
lead-small cluster me facts volatile s choice None =
    elim (cases_Bool (is_finished facts choice.tx)) [
      | inl e ↦ rw e (sending-small volatile volatile _ (same volatile))
      | inr e ↦ rw e (step-small volatile (led_of (here cluster me facts) volatile (claim_of_choice choice)) (led-small cluster me facts volatile (claim_of_choice choice)))
    ]

-- ---- messages

message-small : (cluster : Cluster) (me : ℕ) (facts : List Fact) (volatile : Volatile) (s : ℕ) (m : Message) → IsSmallResult volatile (message_step (here cluster me facts) volatile s m)
message-small cluster me facts volatile s (Message.Propose choice) = proposed-small me volatile s choice (on_propose cluster facts choice)
message-small cluster me facts volatile s (Message.Voted k v b t m) = voted-small cluster me facts volatile _
message-small cluster me facts volatile s (Message.Escalate k v t cause) = escalate-small cluster me facts volatile s k t cause
message-small cluster me facts volatile s (Message.Lead choice) = lead-small cluster me facts volatile s choice (outcome_kept facts choice.tx)
message-small cluster me facts volatile s (Message.Prepare k v w b) = prepared-small me facts volatile s k v b (on_prepare facts k v w b)
message-small cluster me facts volatile s (Message.Promise k v w b r os) = step-small volatile _ (promised-small cluster.quorums me volatile k _)
message-small cluster me facts volatile s (Message.Accept k v b os) = accepted-small me facts volatile s k v b os (on_accept facts k v b os)
message-small cluster me facts volatile s (Message.Refused k v b p) = done-small volatile _ (same volatile)
message-small cluster me facts volatile s (Message.Outcome t o) = outcome-small volatile t (on_outcome facts t o)
message-small cluster me facts volatile s (Message.Ask t k v) = asked-small me facts volatile s t k v (outcome_kept facts t)
message-small cluster me facts volatile s (Message.SyncAsk k) = sending-small volatile volatile _ (same volatile)
message-small cluster me facts volatile s (Message.SyncGive k v item adds) = given-small volatile (on_sync_give facts (record { key = k; version = v; item = item; adds = adds }))
message-small cluster me facts volatile s (Message.Mark centre era upto) = done-small volatile volatile (same volatile)
message-small cluster me facts volatile s (Message.Finished t) = done-small volatile (closed volatile t) (closed-few volatile t)
message-small cluster me facts volatile s (Message.ClientRead n k) = done-small volatile volatile (same volatile)
message-small cluster me facts volatile s (Message.ClientBegin n ps) = done-small volatile volatile (same volatile)
message-small cluster me facts volatile s (Message.ClientAnswer n x) = done-small volatile volatile (same volatile)

room-small : (cluster : Cluster) (facts : List Fact) (volatile : Volatile) (step : NodeStep) (o : Option Fact) → IsSmall volatile step → IsSmallResult volatile (with_room cluster facts step o)
room-small cluster facts volatile step None h = h
room-small cluster facts volatile step (Some fact) h =
    elim (cases_Bool (is_without_room cluster facts fact)) [
      | inl e ↦ rw e tt
      | inr e ↦ rw e (elim (cases_Bool (is_crowding facts fact)) [ inl f ↦ rw f tt | inr f ↦ rw f h ])
    ]

pub checked-small : (cluster : Cluster) (me : ℕ) (facts : List Fact) (volatile : Volatile) (s : ℕ) (m : Message) → IsSmallResult volatile (checked_for_room cluster facts (message_step (here cluster me facts) volatile s m))
checked-small cluster me facts volatile s m = by_case (message_step (here cluster me facts) volatile s m) (message-small cluster me facts volatile s m)
  where
    by_case : (r : Result NodeStep StepFault) → IsSmallResult volatile r → IsSmallResult volatile (checked_for_room cluster facts r)
    by_case (Ok step) h = room-small cluster facts volatile step step.fact h
    by_case (Err fault) h = tt

-- ---- ticks

-- so many entries come, none begins a transaction, and no more are open
pub record IsTickSmall (n opened : ℕ) (p : StepPart) : Type 0 where
  pub weight : length p.entries ≤ n
  pub begun : number_of is_begin p.entries ≡ 0
  pub few : opened_in p.after ≤ opened

pub number-append : {A : Type 0} (p : A → Bool) (xs ys : List A) → number_of p (xs ++ ys) ≡ number_of p xs + number_of p ys
number-append p [] ys = omega arith
number-append p (x ∷ xs) ys = omega (arith, number-append p xs ys)

pub length-both : {A : Type 0} (xs ys : List A) → length (xs ++ ys) ≡ length xs + length ys
length-both [] ys = omega arith
length-both (x ∷ xs) ys = omega (arith, length-both xs ys)

pub fold-small : {X : Type 0} (act : Volatile → X → StepPart) (xs : List X) (n opened : ℕ) (before : StepPart) → ((volatile : Volatile) (x : X) → opened_in volatile ≤ opened → IsTickSmall 1 opened (act volatile x)) → IsTickSmall n opened before →
    IsTickSmall (n + length xs) opened (fold (part_and_then act) before xs)
fold-small act [] n opened before f h = record { weight = omega (arith, h.weight); begun = h.begun; few = h.few }
fold-small {X = X} act (x ∷ xs) n opened before f h = more (fold-small act xs (n + 1) opened (part_and_then act before x) f next)
  where
    g : IsTickSmall 1 opened (act before.after x)
    g = f before.after x h.few

    next : IsTickSmall (n + 1) opened (part_and_then act before x)
    next = record {
      weight = let e = length-both (act before.after x).entries before.entries in omega (arith, e, g.weight, h.weight);
      begun = let e = number-append is_begin (act before.after x).entries before.entries in omega (arith, e, g.begun, h.begun);
      few = g.few;
    }

    more : IsTickSmall ((n + 1) + length xs) opened (fold (part_and_then act) (part_and_then act before x) xs) → IsTickSmall (n + length (x ∷ xs)) opened (fold (part_and_then act) (part_and_then act before x) xs)
    more k = record { weight = omega (arith, k.weight); begun = k.begun; few = k.few }

pub ticked-small : (volatile : Volatile) (sends : List Envelope) (n opened : ℕ) → opened_in volatile ≤ opened → IsTickSmall n opened (only_sending volatile sends)
ticked-small volatile sends n opened h = record { weight = omega arith; begun = refl; few = h }

claim-small : (cluster : Cluster) (me : ℕ) (facts : List Fact) (volatile : Volatile) (claim : Claim) (opened : ℕ) → opened_in volatile ≤ opened → IsTickSmall 1 opened (claim_led (here cluster me facts) volatile claim)
claim-small cluster me facts volatile claim opened h =
    by_case (led_of (here cluster me facts) volatile claim) (led-small cluster me facts volatile claim)
  where
    by_case : (r : Result StepPart LeadFault) → IsSmallLed volatile r → IsTickSmall 1 opened (led_or_left volatile r)
    by_case (Ok part) g = record { weight = g.0; begun = g.1; few = omega (arith, h, g.2) }
    by_case (Err fault) g = ticked-small volatile [] 1 opened h

pub manager-act-small : (cluster : Cluster) (me : ℕ) (facts : List Fact) (opened : ℕ) (volatile : Volatile) (act : ManagerAct) → opened_in volatile ≤ opened → IsTickSmall 1 opened (manager_act (here cluster me facts) volatile act)
manager-act-small cluster me facts opened volatile (ManagerAct.Propose choice) h = ticked-small volatile _ 1 opened h
manager-act-small cluster me facts opened volatile (ManagerAct.LeadHere choice) h = claim-small cluster me facts volatile (claim_of_choice choice) opened h
manager-act-small cluster me facts opened volatile (ManagerAct.Lead leader choice) h = ticked-small volatile [] 1 opened h
manager-act-small cluster me facts opened volatile (ManagerAct.Give centre key) h = ticked-small volatile [] 1 opened h
manager-act-small cluster me facts opened volatile (ManagerAct.Decide tx outcome) h = ticked-small volatile [] 1 opened h

pub recovery-act-small : (cluster : Cluster) (me : ℕ) (facts : List Fact) (opened : ℕ) (volatile : Volatile) (act : RecoverAct) → opened_in volatile ≤ opened → IsTickSmall 1 opened (recovery_act (here cluster me facts) volatile act)
recovery-act-small cluster me facts opened volatile (RecoverAct.Ask t k v) h = ticked-small volatile _ 1 opened h
recovery-act-small cluster me facts opened volatile (RecoverAct.LeadHere claim) h = claim-small cluster me facts volatile claim opened h

-- ---- how many acts a tick has

pub flat-few : {A B : Type 0} (f : A → List B) (n : ℕ) (xs : List A) → Each (λ (x : A). length (f x) ≤ n) xs → length (flat_map f xs) ≤ n * length xs
flat-few f n [] h = omega arith
flat-few {A = A} {B = B} f n (x ∷ xs) h = more (length (f x)) (length (flat_map f xs)) (length xs) h.0 (flat-few f n xs h.1) (length-both (f x) (flat_map f xs))
  where
    more : (a b m : ℕ) → a ≤ n → b ≤ n * m → length (f x ++ flat_map f xs) ≡ a + b → length (f x ++ flat_map f xs) ≤ n * suc m
    more a b m p q e = let d = mul-suc n m in omega (arith, p, q, e, d)

pub acts-few : (quorums : Sizes) (votes : List Vote) (t : Undecided) → length (acts_at quorums votes t) ≤ length t.choices
acts-few quorums votes t =
    let e = map-length (Manager.act_at (next_count t.ticks)) (choices_unlearned quorums votes t) in
    omega (arith, e, filter-few (λ (choice : Choice). not (is_learned quorums votes t.tx choice.key)) t.choices)

pub recover-few : (quorums : Sizes) (facts : List Fact) (recovery : Recovering) (e : TxId × List (Key × ℕ)) → length (acts_on quorums facts recovery e) ≤ length e.1
recover-few quorums facts recovery (t, ws) = pick (next_count (counter_of recovery t) == 2) (nat_le 4 (next_count (counter_of recovery t)) && next_count (counter_of recovery t) % 2 == 0)
  where
    led : length (keys_led quorums facts recovery t ws) ≤ length ws
    led =
        let e = map-length (λ (x : Key × ℕ). RecoverAct.LeadHere (claim_of_key facts recovery t x)) (filter (λ (x : Key × ℕ). not (is_learned quorums recovery.votes t x.0)) ws) in
        omega (arith, e, filter-few (λ (x : Key × ℕ). not (is_learned quorums recovery.votes t x.0)) ws)

    pick : (x y : Bool) → length (cond x (map (ask_of t) ws) (cond y (keys_led quorums facts recovery t ws) [])) ≤ length ws
    pick true y = let e = map-length (ask_of t) ws in omega (arith, e)
    pick false true = led
    pick false false = omega arith
