-- What a step leaves of the open transactions: no message and no tick opens one, and one whose outcome is heard is closed.
use Rattle.std.proofs.Common.{Bool, Err, List, None, Ok, Option, Result, Some, [], ap, cond, false, inl, inr, not, refl, subst, sym, true, ℕ, ◌&&◌, ◌++◌, ◌∙◌, ◌∷◌, ◌≡◌}
use Rattle.std.specs.Prelude.{filter, fold, map, ⊤}
use Rattle.std.proofs.lemmas.Bool.{cases_Bool}
use Rattle.mdcc_base.specs.Sizes.{Sizes}
use Rattle.mdcc_base.specs.TxId.{tx_eq}
use Rattle.mdcc_base.specs.declared.identifiers.Ballot.{Ballot}
use Rattle.mdcc_base.specs.declared.identifiers.TxId.{TxId}
use Rattle.mdcc_base.specs.declared.key.Key.{Key}
use Rattle.mdcc_option.specs.declared.choices.Cause.{Cause}
use Rattle.mdcc_option.specs.declared.choices.Choice.{Choice}
use Rattle.mdcc_option.specs.declared.choices.Claim.{Claim}
use Rattle.mdcc_option.specs.declared.choices.Mark.{Mark}
use Rattle.mdcc_option.specs.declared.choices.Outcome.{Outcome}
use Rattle.mdcc_option.specs.declared.cluster.Cluster.{Cluster}
use Rattle.mdcc_struct.specs.declared.options.Options.{Options}
use Rattle.mdcc_def_ledger.specs.Ledger.{Entry, facts_of}
use Rattle.mdcc_def_messages.specs.declared.facts.Fact.{Fact}
use Rattle.mdcc_def_messages.specs.declared.messages.Envelope.{Envelope}
use Rattle.mdcc_def_messages.specs.declared.messages.Message.{Message}
use Rattle.mdcc_def_protocol.specs.Acceptor.{on_accept, on_prepare, on_propose}
use Rattle.mdcc_def_protocol.specs.Facts.{epoch_of, vote_of, is_finished, is_settled, outcome_kept}
use Rattle.mdcc_def_protocol.specs.Leader.{claim_of_choice, lead, on_promise}
use Rattle.mdcc_def_protocol.specs.Learner.{is_learned}
use Rattle.mdcc_def_protocol.specs.Manager
use Rattle.mdcc_def_protocol.specs.Manager.{act_on_cause, act_on_vote, acted, decision, ticked_transaction, vote_taken}
use Rattle.mdcc_def_protocol.specs.News.{is_crowding, is_news}
use Rattle.mdcc_def_protocol.specs.Recover
use Rattle.mdcc_def_protocol.specs.Visible.{on_outcome, on_sync_give}
use Rattle.mdcc_def_protocol.specs.Volatile.{Leading, Managing, Undecided, Volatile, closed, is_opened, txs_opened, with_manager, with_recovery}
use Rattle.mdcc_def_protocol.specs.declared.acceptor.AcceptAnswer.{AcceptAnswer}
use Rattle.mdcc_def_protocol.specs.declared.acceptor.PrepareAnswer.{PrepareAnswer}
use Rattle.mdcc_def_protocol.specs.declared.acceptor.ProposeAnswer.{ProposeAnswer}
use Rattle.mdcc_def_protocol.specs.declared.leader.LeadAnswer.{LeadAnswer}
use Rattle.mdcc_def_protocol.specs.declared.leader.LeadFault.{LeadFault}
use Rattle.mdcc_def_protocol.specs.declared.leader.PromiseAnswer.{PromiseAnswer}
use Rattle.mdcc_def_protocol.specs.declared.manager.ManagerAct.{ManagerAct}
use Rattle.mdcc_def_protocol.specs.declared.recover.RecoverAct.{RecoverAct}
use Rattle.mdcc_def_protocol.specs.declared.visible.Give.{Give}
use Rattle.mdcc_def_protocol.specs.declared.votes.Vote.{Vote}
use Rattle.mdcc_def_rules.specs.AcceptorRules.{accepted_step, ask_step_by, prepared_step, proposed_step, ask_step_after}
use Rattle.mdcc_def_rules.specs.LeaderRules.{lead_step_after, led_by_answer, led_of, promised_by_answer, step_of_led}
use Rattle.mdcc_def_rules.specs.ManagerRules.{acted_step, escalate_step, opened_step, undecided_step, voted_step, watched_step}
use Rattle.mdcc_def_rules.specs.Node.{checked_for_room, is_without_room, message_step, with_room}
use Rattle.mdcc_def_rules.specs.Steps.{NodeStep, StepPart, adding, nothing_done, only_sending, part_and_then, sending}
use Rattle.mdcc_def_rules.specs.SyncRules.{outcome_step_by, sync_give_step_by}
use Rattle.mdcc_def_rules.specs.TickRules.{claim_led, led_or_left, manager_act, manager_ticked, recovery_act, recovery_ticked, tick_parts}
use Rattle.mdcc_def_rules.specs.declared.node.StepFault.{StepFault}
use Rattle.mdcc_theorem_trace_states.specs.Words.{Each, In}
use Rattle.mdcc_theorem_trace_states.proofs.Lists.{Each-at, Each-from, Each-like, Each-map, In-filter}
use Rattle.mdcc_theorem_trace_limits.proofs.RoundMessages.{led-of-plain}
use Rattle.mdcc_def_rules.specs.Here.{here}
use Rattle.mdcc_def_rules.specs.Messages.{to_one}

-- ---- open before

-- a transaction that is open was open before, with the same choices
abbrev pub WasOpen : List Undecided → Undecided → Type 0
WasOpen before t = (u : Undecided) × (In u before) × (u.tx ≡ t.tx) × (u.choices ≡ t.choices)

abbrev pub AreOld : List Undecided → List Undecided → Type 0
AreOld before after = Each (WasOpen before) after

pub old-same : (us : List Undecided) → AreOld us us
old-same us = Each-from (WasOpen us) us (λ u i. (u, i, refl, refl))

old-filter : (test : Undecided → Bool) (us : List Undecided) → AreOld us (filter test us)
old-filter test us = Each-from (WasOpen us) (filter test us) (λ u i. (u, (In-filter test us u i).0, refl, refl))

old-map : (f : Undecided → Undecided) (us : List Undecided) → ((u : Undecided) → (u.tx ≡ (f u).tx) × (u.choices ≡ (f u).choices)) → AreOld us (map f us)
old-map f us same = Each-map (WasOpen us) f us (Each-from (λ u. WasOpen us (f u)) us (λ u i. (u, i, (same u).0, (same u).1)))

old-trans : (us vs ws : List Undecided) → AreOld us vs → AreOld vs ws → AreOld us ws
old-trans us vs ws h g =
    Each-like (WasOpen vs) (WasOpen us) ws
    (λ w k. let was : WasOpen us k.0 = Each-at (WasOpen us) vs k.0 h k.1 in (was.0, was.1, was.2 ∙ k.2, was.3 ∙ k.3)) g

-- the entries are no facts
abbrev pub ArePlain : List Entry → Type 0
ArePlain new = (es : List Entry) (a : ℕ) → facts_of (new ++ es) a ≡ facts_of es a

-- all open transactions were open before, and one whose outcome is heard is not open
pub record IsKeeping (volatile : Volatile) (step : NodeStep) : Type 0 where
  pub opened : AreOld volatile.manager.opened step.after.manager.opened
  pub closes : (tx : TxId) (outcome : Outcome) → step.fact ≡ Some (Fact.Heard tx outcome) → Each (λ (t : Undecided). tx_eq t.tx tx ≡ false) step.after.manager.opened
  pub plain : ArePlain step.entries

abbrev pub IsKeepingResult : Volatile → Result NodeStep StepFault → Type 0
IsKeepingResult volatile (Ok step) = IsKeeping volatile step
IsKeepingResult volatile (Err fault) = ⊤

-- nothing is heard
abbrev IsQuiet : Option Fact → Type 0
IsQuiet o = (tx : TxId) (outcome : Outcome) → o ≡ Some (Fact.Heard tx outcome) → ⊥

done : (volatile after : Volatile) → AreOld volatile.manager.opened after.manager.opened → IsKeeping volatile (nothing_done after)
done volatile after h = record { opened = h; closes = λ tx o e. absurd (cc); plain = λ es a. refl }

sent : (volatile after : Volatile) (sends : List Envelope) → AreOld volatile.manager.opened after.manager.opened → IsKeeping volatile (sending after sends)
sent volatile after sends h = record { opened = h; closes = λ tx o e. absurd (cc); plain = λ es a. refl }

added : (volatile : Volatile) (fact : Fact) (sends : List Envelope) → IsQuiet (Some fact) → IsKeeping volatile (adding volatile fact sends)
added volatile fact sends quiet = record { opened = old-same volatile.manager.opened; closes = λ tx o e. absurd (quiet tx o e); plain = λ es a. refl }

same : (volatile : Volatile) → AreOld volatile.manager.opened volatile.manager.opened
same volatile = old-same volatile.manager.opened

not-self : (test : Bool) → not test ≡ true → test ≡ false
not-self true h = absurd (cc)
not-self false h = refl

-- the transaction is closed
heard : (volatile : Volatile) (tx : TxId) (outcome : Outcome) (sends : List Envelope) → IsKeeping volatile (adding (closed volatile tx) (Fact.Heard tx outcome) sends)
heard volatile tx outcome sends = record {
  opened = old-filter (λ (t : Undecided). not (tx_eq t.tx tx)) volatile.manager.opened;
  closes = λ tx' o e. let is : tx ≡ tx' = cc in subst (λ z. Each (λ (t : Undecided). tx_eq t.tx z ≡ false) (closed volatile tx).manager.opened) is (without tx);
  plain = λ es a. refl;
}
  where
    without : (tx : TxId) → Each (λ (t : Undecided). tx_eq t.tx tx ≡ false) (filter (λ (t : Undecided). not (tx_eq t.tx tx)) volatile.manager.opened)
    without tx =
        Each-from (λ (t : Undecided). tx_eq t.tx tx ≡ false) (filter (λ (t : Undecided). not (tx_eq t.tx tx)) volatile.manager.opened)
        (λ t i. not-self (tx_eq t.tx tx) (In-filter (λ (t : Undecided). not (tx_eq t.tx tx)) volatile.manager.opened t i).1)

-- ---- the acceptor

proposed : (me : ℕ) (volatile : Volatile) (s : ℕ) (choice : Choice) (answer : ProposeAnswer) → IsKeeping volatile (proposed_step me volatile s choice answer)
proposed me volatile s choice (ProposeAnswer.Known outcome) = sent volatile volatile _ (same volatile)
proposed me volatile s choice ProposeAnswer.Finished = sent volatile volatile _ (same volatile)
proposed me volatile s choice (ProposeAnswer.Again ballot mark) = sent volatile volatile _ (same volatile)
proposed me volatile s choice (ProposeAnswer.Escalate cause) = sent volatile volatile _ (same volatile)
proposed me volatile s choice (ProposeAnswer.Vote mark) = added volatile _ _ (λ tx o e. cc)

prepared : (me : ℕ) (facts : List Fact) (volatile : Volatile) (l : ℕ) (k : Key) (v : ℕ) (b : Ballot) (answer : PrepareAnswer) → IsKeeping volatile (prepared_step me facts volatile l k v b answer)
prepared me facts volatile l k v b (PrepareAnswer.Refused promise) = sent volatile volatile _ (same volatile)
prepared me facts volatile l k v b (PrepareAnswer.Again high) = sent volatile volatile _ (same volatile)
prepared me facts volatile l k v b (PrepareAnswer.Promise high) = added volatile _ _ (λ tx o e. cc)

accepted : (me : ℕ) (facts : List Fact) (volatile : Volatile) (l : ℕ) (k : Key) (v : ℕ) (b : Ballot) (os : Options) (answer : AcceptAnswer) → IsKeeping volatile (accepted_step me facts volatile l k v b os answer)
accepted me facts volatile l k v b os (AcceptAnswer.Refused promise) = sent volatile volatile _ (same volatile)
accepted me facts volatile l k v b os (AcceptAnswer.Behind current) = sent volatile volatile _ (same volatile)
accepted me facts volatile l k v b os AcceptAnswer.Older = sent volatile volatile _ (same volatile)
accepted me facts volatile l k v b os AcceptAnswer.Vote = added volatile _ _ (λ tx o e. cc)

asked : (me : ℕ) (facts : List Fact) (volatile : Volatile) (s : ℕ) (t : TxId) (k : Key) (v : ℕ) (o : Option Outcome) → IsKeeping volatile (ask_step_by me facts volatile s t k v o)
asked me facts volatile s t k v (Some o) = sent volatile volatile _ (same volatile)
asked me facts volatile s t k v None = pick (is_finished facts t) (vote_of facts k v t)
  where
    pick : (b : Bool) (x : Option (Ballot × Mark)) → IsKeeping volatile (cond b (sending volatile (to_one me s (Message.Finished t))) (ask_step_after me volatile s t k v x))
    pick true x = sent volatile volatile _ (same volatile)
    pick false (Some x) = sent volatile volatile _ (same volatile)
    pick false None = done volatile volatile (same volatile)

told : (facts : List Fact) (volatile : Volatile) (t : TxId) (o : Outcome) → IsKeeping volatile (outcome_step_by volatile t (on_outcome facts t o))
told facts volatile t o = elim (cases_Bool (is_settled facts t)) [ inl e ↦ rw e (done volatile volatile (same volatile)) | inr e ↦ rw e (heard volatile t o []) ]

given : (facts : List Fact) (volatile : Volatile) (give : Give) → IsKeeping volatile (sync_give_step_by volatile (on_sync_give facts give))
given facts volatile give = pick (is_news facts give.key give.version give.adds)
  where
    pick : (b : Bool) → IsKeeping volatile (sync_give_step_by volatile (cond b (Some (Fact.Adopted give.key give.version give.item give.adds)) None))
    pick true = added volatile _ [] (λ tx o e. cc)
    pick false = done volatile volatile (same volatile)

-- ---- the manager

taken-old : (quorums : Sizes) (manager : Managing) (vote : Vote) → AreOld manager.opened (vote_taken quorums manager vote).opened
taken-old quorums manager vote = elim (cases_Bool (is_opened manager vote.tx)) [ inl e ↦ rw e (old-same manager.opened) | inr e ↦ rw e (old-same manager.opened) ]

acted-old : (manager : Managing) (act : Option ManagerAct) → AreOld manager.opened (acted manager act).1.opened
acted-old manager None = old-same manager.opened
acted-old manager (Some (ManagerAct.Lead leader choice)) = old-map _ manager.opened (λ u. elim (cases_Bool (tx_eq u.tx choice.tx)) [ inl e ↦ rw e (refl, refl) | inr e ↦ rw e (refl, refl) ])
acted-old manager (Some (ManagerAct.Give centre key)) = old-same manager.opened
acted-old manager (Some (ManagerAct.Decide tx outcome)) = old-same manager.opened
acted-old manager (Some (ManagerAct.Propose choice)) = old-same manager.opened
acted-old manager (Some (ManagerAct.LeadHere choice)) = old-same manager.opened

acts : (me : ℕ) (facts : List Fact) (volatile : Volatile) (r : Option ManagerAct × Managing) → AreOld volatile.manager.opened r.1.opened → IsKeeping volatile (acted_step me facts volatile r)
acts me facts volatile (act, manager) h = sent volatile (with_manager volatile manager) _ h

undecided : (cluster : Cluster) (me : ℕ) (facts : List Fact) (volatile : Volatile) (vote : Vote) → IsKeeping volatile (undecided_step (here cluster me facts) volatile vote)
undecided cluster me facts volatile vote =
    let taken : Managing = vote_taken cluster.quorums volatile.manager vote in
    let act = act_on_vote cluster.quorums taken vote (decision cluster.quorums taken vote.tx) in
    acts me facts volatile (Manager.on_voted cluster.quorums volatile.manager vote) (old-trans volatile.manager.opened taken.opened (acted taken act).1.opened before (acted-old taken act))
  where
    before : AreOld volatile.manager.opened (vote_taken cluster.quorums volatile.manager vote).opened
    before = taken-old cluster.quorums volatile.manager vote

voted : (cluster : Cluster) (me : ℕ) (facts : List Fact) (volatile : Volatile) (vote : Vote) → IsKeeping volatile (voted_step (here cluster me facts) volatile vote)
voted cluster me facts volatile vote =
    elim (cases_Bool (is_settled facts vote.tx)) [
      | inl e ↦ rw e (done volatile volatile (same volatile))
      | inr e ↦ rw e (elim (cases_Bool (is_opened volatile.manager vote.tx)) [
        | inl f ↦ rw f (opened _)
        | inr f ↦ rw f (watched _)
      ])
    ]
  where
    opened : (o : Option Outcome) → IsKeeping volatile (opened_step (here cluster me facts) volatile vote o)
    opened (Some o) = heard volatile vote.tx o _
    opened None = undecided cluster me facts volatile vote

    watched : (o : Option (TxId × Outcome)) → IsKeeping volatile (watched_step (here cluster me facts) volatile vote o)
    watched (Some d) = heard volatile d.0 d.1 _
    watched None = done volatile (with_recovery volatile (Recover.on_voted cluster.quorums facts volatile.recovery vote).1) (same volatile)

escalated : (cluster : Cluster) (me : ℕ) (facts : List Fact) (volatile : Volatile) (a : ℕ) (k : Key) (t : TxId) (cause : Cause) → IsKeeping volatile (escalate_step (here cluster me facts) volatile a k t cause)
escalated cluster me facts volatile a k t cause = acts me facts volatile (Manager.on_escalate cluster.quorums volatile.manager a t k cause) old
  where
    old : AreOld volatile.manager.opened (Manager.on_escalate cluster.quorums volatile.manager a t k cause).1.opened
    old = elim (cases_Bool (is_opened volatile.manager t && not (is_learned cluster.quorums volatile.manager.votes t k))) [
      | inl e ↦ rw e (acted-old volatile.manager (act_on_cause cluster.quorums volatile.manager a t k cause))
      | inr e ↦ rw e (same volatile)
    ]

-- ---- the leader

-- a part of a step leaves the manager as it was, and its entries are no facts
pub record IsApart (volatile : Volatile) (part : StepPart) : Type 0 where
  pub manager : part.after.manager ≡ volatile.manager
  pub plain : ArePlain part.entries

abbrev IsApartResult : Volatile → Result StepPart LeadFault → Type 0
IsApartResult volatile (Ok part) = IsApart volatile part
IsApartResult volatile (Err fault) = ⊤

led : (cluster : Cluster) (me : ℕ) (facts : List Fact) (volatile : Volatile) (claim : Claim) → IsApartResult volatile (led_of (here cluster me facts) volatile claim)
led cluster me facts volatile claim = by_answer (lead cluster me (epoch_of facts) facts volatile.leader claim) refl
  where
    by_answer : (r : Result (LeadAnswer × Leading) LeadFault) → lead cluster me (epoch_of facts) facts volatile.leader claim ≡ r → IsApartResult volatile (led_by_answer cluster.quorums me volatile claim r)
    by_answer (Err fault) e = tt
    by_answer (Ok (answer, after)) e = record { manager = refl; plain = λ es a. led-of-plain cluster me facts volatile claim es a _ (ap (led_by_answer cluster.quorums me volatile claim) e) }

promised : (quorums : Sizes) (me : ℕ) (volatile : Volatile) (k : Key) (r : Result (PromiseAnswer × Leading) LeadFault) → IsApartResult volatile (promised_by_answer quorums me volatile k r)
promised quorums me volatile k (Err fault) = tt
promised quorums me volatile k (Ok (PromiseAnswer.Ignored, after)) = record { manager = refl; plain = λ es a. refl }
promised quorums me volatile k (Ok (PromiseAnswer.Waiting n, after)) = record { manager = refl; plain = λ es a. refl }
promised quorums me volatile k (Ok (PromiseAnswer.Counted, after)) = record { manager = refl; plain = λ es a. refl }
promised quorums me volatile k (Ok (PromiseAnswer.Accept v b os, after)) = record { manager = refl; plain = λ es a. refl }

apart-step : (volatile : Volatile) (r : Result StepPart LeadFault) → IsApartResult volatile r → IsKeepingResult volatile (step_of_led r)
apart-step volatile (Err fault) h = tt
apart-step volatile (Ok part) h = record {
  opened = subst (λ (z : Managing). AreOld volatile.manager.opened z.opened) (sym h.manager) (same volatile);
  closes = λ tx o e. absurd (cc);
  plain = h.plain;
}

claimed : (cluster : Cluster) (me : ℕ) (facts : List Fact) (volatile : Volatile) (s : ℕ) (choice : Choice) (o : Option Outcome) → IsKeepingResult volatile (lead_step_after (here cluster me facts) volatile s choice o)
claimed cluster me facts volatile s choice (Some o) = sent volatile volatile _ (same volatile)
claimed cluster me facts volatile s choice None =
    elim (cases_Bool (is_finished facts choice.tx)) [
      | inl e ↦ rw e (sent volatile volatile _ (same volatile))
      | inr e ↦ rw e (apart-step volatile (led_of (here cluster me facts) volatile (claim_of_choice choice)) (led cluster me facts volatile (claim_of_choice choice)))
    ]

-- ---- messages

message : (cluster : Cluster) (me : ℕ) (facts : List Fact) (volatile : Volatile) (s : ℕ) (m : Message) → IsKeepingResult volatile (message_step (here cluster me facts) volatile s m)
message cluster me facts volatile s (Message.Propose choice) = proposed me volatile s choice (on_propose cluster facts choice)
message cluster me facts volatile s (Message.Voted k v b t m) = voted cluster me facts volatile _
message cluster me facts volatile s (Message.Escalate k v t cause) = escalated cluster me facts volatile s k t cause
message cluster me facts volatile s (Message.Lead choice) = claimed cluster me facts volatile s choice (outcome_kept facts choice.tx)
message cluster me facts volatile s (Message.Prepare k v w b) = prepared me facts volatile s k v b (on_prepare facts k v w b)
message cluster me facts volatile s (Message.Promise k v w b r os) =
    apart-step volatile _ (promised cluster.quorums me volatile k (on_promise cluster facts volatile.leader s (record { key = k; version = v; through = w; ballot = b; reported = r; votes = os })))
message cluster me facts volatile s (Message.Accept k v b os) = accepted me facts volatile s k v b os (on_accept facts k v b os)
message cluster me facts volatile s (Message.Refused k v b p) = done volatile _ (same volatile)
message cluster me facts volatile s (Message.Outcome t o) = told facts volatile t o
message cluster me facts volatile s (Message.Ask t k v) = asked me facts volatile s t k v (outcome_kept facts t)
message cluster me facts volatile s (Message.SyncAsk k) = sent volatile volatile _ (same volatile)
message cluster me facts volatile s (Message.SyncGive k v item adds) = given facts volatile (record { key = k; version = v; item = item; adds = adds })
message cluster me facts volatile s (Message.Mark centre era seq) = done volatile volatile (same volatile)
message cluster me facts volatile s (Message.Finished tx) = done volatile _ (old-filter (λ (t : Undecided). not (tx_eq t.tx tx)) volatile.manager.opened)
message cluster me facts volatile s (Message.ClientRead n k) = done volatile volatile (same volatile)
message cluster me facts volatile s (Message.ClientBegin n ps) = done volatile volatile (same volatile)
message cluster me facts volatile s (Message.ClientAnswer n x) = done volatile volatile (same volatile)

pub message-keeps : (cluster : Cluster) (me : ℕ) (facts : List Fact) (volatile : Volatile) (s : ℕ) (m : Message) → IsKeepingResult volatile (checked_for_room cluster facts (message_step (here cluster me facts) volatile s m))
message-keeps cluster me facts volatile s m = by_result (message_step (here cluster me facts) volatile s m) (message cluster me facts volatile s m)
  where
    roomy : (step : NodeStep) (o : Option Fact) → IsKeeping volatile step → IsKeepingResult volatile (with_room cluster facts step o)
    roomy step None h = h
    roomy step (Some fact) h =
        elim (cases_Bool (is_without_room cluster facts fact)) [
          | inl e ↦ rw e tt
          | inr e ↦ rw e (elim (cases_Bool (is_crowding facts fact)) [ inl f ↦ rw f tt | inr f ↦ rw f h ])
        ]

    by_result : (r : Result NodeStep StepFault) → IsKeepingResult volatile r → IsKeepingResult volatile (checked_for_room cluster facts r)
    by_result (Ok step) h = roomy step step.fact h
    by_result (Err fault) h = tt

-- ---- ticks

-- what so many acts leave
pub record IsKeepingPart (before : List Undecided) (part : StepPart) : Type 0 where
  pub opened : AreOld before part.after.manager.opened
  pub plain : ArePlain part.entries

append-plain : (xs ys : List Entry) → ArePlain xs → ArePlain ys → ArePlain (xs ++ ys)
append-plain xs ys h g es a = ap (λ z. facts_of z a) (joined xs) ∙ (h (ys ++ es) a ∙ g es a)
  where
    joined : (xs : List Entry) → (xs ++ ys) ++ es ≡ xs ++ (ys ++ es)
    joined [] = refl
    joined (x ∷ xs) = ap (λ z. x ∷ z) (joined xs)

fold-keeps : {X : Type 0} (before : List Undecided) (act : Volatile → X → StepPart) (xs : List X) (part : StepPart) → ((volatile : Volatile) (x : X) → IsApart volatile (act volatile x))
    → IsKeepingPart before part → IsKeepingPart before (fold (part_and_then act) part xs)
fold-keeps before act [] part one h = h
fold-keeps before act (x ∷ xs) part one h =
    let here = one part.after x in
    fold-keeps before act xs (part_and_then act part x) one (record {
      opened = subst (λ (z : Managing). AreOld before z.opened) (sym here.manager) h.opened;
      plain = append-plain (act part.after x).entries part.entries here.plain h.plain;
    })

quiet-part : (volatile : Volatile) (sends : List Envelope) → IsApart volatile (only_sending volatile sends)
quiet-part volatile sends = record { manager = refl; plain = λ es a. refl }

claim-part : (cluster : Cluster) (me : ℕ) (facts : List Fact) (volatile : Volatile) (claim : Claim) → IsApart volatile (claim_led (here cluster me facts) volatile claim)
claim-part cluster me facts volatile claim = by_result (led_of (here cluster me facts) volatile claim) (led cluster me facts volatile claim)
  where
    by_result : (r : Result StepPart LeadFault) → IsApartResult volatile r → IsApart volatile (led_or_left volatile r)
    by_result (Ok part) h = h
    by_result (Err fault) h = quiet-part volatile []

manager-part : (cluster : Cluster) (me : ℕ) (facts : List Fact) (volatile : Volatile) (act : ManagerAct) → IsApart volatile (manager_act (here cluster me facts) volatile act)
manager-part cluster me facts volatile (ManagerAct.Propose choice) = quiet-part volatile _
manager-part cluster me facts volatile (ManagerAct.LeadHere choice) = claim-part cluster me facts volatile (claim_of_choice choice)
manager-part cluster me facts volatile (ManagerAct.Lead leader choice) = quiet-part volatile []
manager-part cluster me facts volatile (ManagerAct.Give centre key) = quiet-part volatile []
manager-part cluster me facts volatile (ManagerAct.Decide tx outcome) = quiet-part volatile []

recovery-part : (cluster : Cluster) (me : ℕ) (facts : List Fact) (volatile : Volatile) (act : RecoverAct) → IsApart volatile (recovery_act (here cluster me facts) volatile act)
recovery-part cluster me facts volatile (RecoverAct.Ask t k v) = quiet-part volatile _
recovery-part cluster me facts volatile (RecoverAct.LeadHere claim) = claim-part cluster me facts volatile claim

pub tick-keeps : (cluster : Cluster) (me : ℕ) (facts : List Fact) (volatile : Volatile) → IsKeepingPart volatile.manager.opened (tick_parts (here cluster me facts) volatile)
tick-keeps cluster me facts volatile = second (manager_ticked (here cluster me facts) volatile) first
  where
    first : IsKeepingPart volatile.manager.opened (manager_ticked (here cluster me facts) volatile)
    first =
        fold-keeps volatile.manager.opened (manager_act (here cluster me facts)) (Manager.tick cluster.quorums volatile.manager).0 (only_sending (with_manager volatile (Manager.tick cluster.quorums volatile.manager).1) [])
        (λ v act. manager-part cluster me facts v act)
        (record { opened = old-map (ticked_transaction cluster.quorums volatile.manager.votes) volatile.manager.opened (λ u. (refl, refl)); plain = λ es a. refl })

    second : (part : StepPart) → IsKeepingPart volatile.manager.opened part → IsKeepingPart volatile.manager.opened (recovery_ticked (here cluster me facts) part)
    second part h =
        let ticked = Recover.tick cluster.quorums facts part.after.recovery (txs_opened part.after.manager) in
        fold-keeps volatile.manager.opened (recovery_act (here cluster me facts)) ticked.0 (record part { after = with_recovery part.after ticked.1 }) (λ v act. recovery-part cluster me facts v act)
        (record { opened = h.opened; plain = h.plain })
