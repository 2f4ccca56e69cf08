-- How far the step on a message raises the rounds of a key.
use Rattle.std.proofs.Common.{Bool, Err, List, None, Ok, Option, Result, Some, [], arith, cond, false, inl, inr, not, refl, subst, sym, true, ℕ, ◌++◌, ◌+◌, ◌∷◌, ◌≡◌, ◌≤◌}
use Rattle.std.specs.Prelude.{filter, nat_lt, ⊤}
use Rattle.std.proofs.lemmas.Bool.{cases_Bool}
use Rattle.mdcc_base.specs.Ballot.{ballot_lt, fast_ballot}
use Rattle.mdcc_base.specs.Key.{key_eq}
use Rattle.mdcc_base.specs.Sizes.{Sizes}
use Rattle.mdcc_base.specs.declared.identifiers.Ballot.{Ballot}
use Rattle.mdcc_base.specs.declared.identifiers.TxId.{TxId}
use Rattle.mdcc_base.specs.declared.key.Key.{Key}
use Rattle.mdcc_option.specs.declared.choices.Choice.{Choice}
use Rattle.mdcc_option.specs.declared.choices.Claim.{Claim}
use Rattle.mdcc_option.specs.declared.choices.Mark.{Mark}
use Rattle.mdcc_option.specs.declared.choices.Outcome.{Outcome}
use Rattle.mdcc_option.specs.declared.cluster.Cluster.{Cluster}
use Rattle.mdcc_struct.specs.declared.options.Options.{Options}
use Rattle.mdcc_def_protocol.specs.Acceptor.{answer_to_marks, new_marks, on_accept, on_prepare, on_propose, promise_answer, range_end}
use Rattle.mdcc_def_rules.specs.AcceptorRules.{accepted_step, all_votes_sent, ask_step_after, ask_step_by, prepared_step, proposed_step, votes_sent}
use Rattle.mdcc_def_protocol.specs.Facts.{current_of, epoch_of, is_finished, is_settled, outcome_kept, promise_of, promised_through, vote_of}
use Rattle.mdcc_def_protocol.specs.Leader.{claim_of_choice, is_marked, lead, on_promise}
use Rattle.mdcc_def_rules.specs.LeaderRules.{lead_entries, lead_sent, lead_step_after, led_by_answer, led_of, promise_entries, promise_sent, promised_by_answer, step_of_led}
use Rattle.mdcc_def_ledger.specs.Ledger.{Entry, Valued, facts_of}
use Rattle.mdcc_def_protocol.specs.Manager
use Rattle.mdcc_def_rules.specs.ManagerRules.{act_sent, acted_step, decided_step, opened_step, undecided_step, voted_step, watched_step}
use Rattle.mdcc_def_protocol.specs.Marks.{is_accept}
use Rattle.mdcc_def_protocol.specs.News.{is_crowding, is_news}
use Rattle.mdcc_def_rules.specs.Node.{checked_for_room, is_without_room, message_step, with_room}
use Rattle.mdcc_def_protocol.specs.Recover
use Rattle.mdcc_def_rules.specs.Steps.{NodeStep, StepPart, adding, nothing_done, sending}
use Rattle.mdcc_def_rules.specs.SyncRules.{give_sent_by, outcome_step_by, sync_give_step_by}
use Rattle.mdcc_def_protocol.specs.Visible.{on_outcome, on_sync_ask}
use Rattle.mdcc_def_protocol.specs.Volatile.{Leading, Managing, Volatile, closed, is_opened, lead_of, with_leader, with_manager, with_recovery}
use Rattle.mdcc_def_protocol.specs.declared.acceptor.AcceptAnswer.{AcceptAnswer}
use Rattle.mdcc_def_protocol.specs.declared.acceptor.PrepareAnswer.{PrepareAnswer}
use Rattle.mdcc_def_protocol.specs.declared.acceptor.ProposeAnswer.{ProposeAnswer}
use Rattle.mdcc_def_messages.specs.declared.facts.Fact.{Fact}
use Rattle.mdcc_def_protocol.specs.declared.leader.LeadAnswer.{LeadAnswer}
use Rattle.mdcc_def_protocol.specs.declared.leader.LeadFault.{LeadFault}
use Rattle.mdcc_def_protocol.specs.declared.leader.PromiseAnswer.{PromiseAnswer}
use Rattle.mdcc_def_protocol.specs.declared.manager.ManagerAct.{ManagerAct}
use Rattle.mdcc_def_messages.specs.declared.messages.Envelope.{Envelope}
use Rattle.mdcc_def_messages.specs.declared.messages.Message.{Message}
use Rattle.mdcc_def_rules.specs.declared.node.StepFault.{StepFault}
use Rattle.mdcc_def_protocol.specs.declared.visible.Give.{Give}
use Rattle.mdcc_def_protocol.specs.declared.votes.Vote.{Vote}
use Rattle.mdcc_theorem_trace_rules.proofs.Begins.{Each-flat_map}
use Rattle.mdcc_theorem_trace_limits.proofs.RoundSteps.{AreRoundFacts, AreRoundSends, IsRound, IsRoundFact, IsRoundLeader, IsRoundLed, each-round, leader-more, led-round, promise-round, promised-round, raised, refused-round, sends-more, voted-round}
use Rattle.mdcc_def_rules.specs.Here.{here}
use Rattle.mdcc_def_rules.specs.Messages.{to_one}

-- ---- single steps

-- a step keeps the rounds of a key within a number
pub record IsRoundStep (key : Key) (r : ℕ) (step : NodeStep) : Type 0 where
  pub fact : (f : Fact) → step.fact ≡ Some f → IsRoundFact key r f
  pub leader : IsRoundLeader key r step.after.leader
  pub sends : AreRoundSends key r step.sends
  pub plain : (es : List Entry) (a : ℕ) → facts_of (step.entries ++ es) a ≡ facts_of es a

abbrev pub IsRoundResult : Key → ℕ → Result NodeStep StepFault → Type 0
IsRoundResult key r (Ok step) = IsRoundStep key r step
IsRoundResult key r (Err fault) = ⊤

fact-more : (key : Key) (r s : ℕ) (f : Fact) → r ≤ s → IsRoundFact key r f → IsRoundFact key s f
fact-more key r s f h g = λ v. let x = g v in omega (arith, h, x)

step-more : (key : Key) (r s : ℕ) (step : NodeStep) → r ≤ s → IsRoundStep key r step → IsRoundStep key s step
step-more key r s step h g = record {
  fact = λ f e. fact-more key r s f h (g.fact f e);
  leader = leader-more key r s step.after.leader h g.leader;
  sends = sends-more key r s step.sends h g.sends;
  plain = g.plain;
}

sending-round : (key : Key) (r : ℕ) (after : Volatile) (sends : List Envelope) → IsRoundLeader key r after.leader → AreRoundSends key r sends → IsRoundStep key r (sending after sends)
sending-round key r after sends l s = record { fact = λ f e. absurd (cc); leader = l; sends = s; plain = λ es a. refl }

done-round : (key : Key) (r : ℕ) (after : Volatile) → IsRoundLeader key r after.leader → IsRoundStep key r (nothing_done after)
done-round key r after l = record { fact = λ f e. absurd (cc); leader = l; sends = tt; plain = λ es a. refl }

adding-round : (key : Key) (r : ℕ) (after : Volatile) (fact : Fact) (sends : List Envelope) → IsRoundFact key r fact → IsRoundLeader key r after.leader → AreRoundSends key r sends → IsRoundStep key r (adding after fact sends)
adding-round key r after fact sends g l s = record { fact = λ f e. let same : fact ≡ f = cc in subst (IsRoundFact key r) same g; leader = l; sends = s; plain = λ es a. refl }

-- a fact that is neither a promise nor a vote names no ballot
heard-round : (key : Key) (r : ℕ) (t : TxId) (o : Outcome) → IsRoundFact key r (Fact.Heard t o)
heard-round key r t o = λ v. omega arith

proposed-fine : (key : Key) (r me : ℕ) (volatile : Volatile) (s : ℕ) (choice : Choice) (answer : ProposeAnswer) → IsRoundLeader key r volatile.leader → IsRoundStep key r (proposed_step me volatile s choice answer)
proposed-fine key r me volatile s choice (ProposeAnswer.Known outcome) l = sending-round key r volatile _ l (tt, tt)
proposed-fine key r me volatile s choice ProposeAnswer.Finished l = sending-round key r volatile _ l (tt, tt)
proposed-fine key r me volatile s choice (ProposeAnswer.Again ballot mark) l = sending-round key r volatile _ l (tt, tt)
proposed-fine key r me volatile s choice (ProposeAnswer.Escalate cause) l = sending-round key r volatile _ l (tt, tt)
proposed-fine key r me volatile s choice (ProposeAnswer.Vote mark) l = adding-round key r volatile _ _ (voted-round key r choice.key choice.version fast_ballot ((choice.tx, mark) ∷ []) (cond (is_accept mark) None (Some choice)) (λ e. omega arith)) l (tt, tt)

prepared-fine : (key : Key) (r me : ℕ) (facts : List Fact) (volatile : Volatile) (s : ℕ) (k : Key) (v w : ℕ) (b : Ballot) → AreRoundFacts key r facts → IsRoundLeader key r volatile.leader → (k ≡ key → b.round ≤ r) →
    IsRoundStep key r (prepared_step me facts volatile s k v b (on_prepare facts k v w b))
prepared-fine key r me facts volatile s k v w b f l h = pick (ballot_lt b (promise_of facts k v)) (promised_through facts k v b)
  where
    pick : (x : Bool) (o : Option ℕ) → IsRoundStep key r (prepared_step me facts volatile s k v b (cond x (PrepareAnswer.Refused (promise_of facts k v)) (promise_answer o (range_end facts k v w))))
    pick true o = sending-round key r volatile _ l ((λ e. subst (λ z. (promise_of facts z v).round ≤ r) (sym e) (f v)), tt)
    pick false (Some high) = sending-round key r volatile _ l (tt, tt)
    pick false None = adding-round key r volatile _ _ (promised-round key r k v (range_end facts k v w) b h) l (tt, tt)

all-votes-fine : (key : Key) (r me : ℕ) (facts : List Fact) (k : Key) (v : ℕ) (b : Ballot) (os : Options) → AreRoundSends key r (all_votes_sent me facts k v b os)
all-votes-fine key r me facts k v b os =
    Each-flat_map (λ (env : Envelope). IsRound key r env.message) (votes_sent me k v b) (filter (λ (e : TxId × Mark). not (is_settled facts e.0)) os) (λ e i. each-round key r me (Message.Voted k v b e.0 e.1) _ tt)

accepted-fine : (key : Key) (r me : ℕ) (facts : List Fact) (volatile : Volatile) (s : ℕ) (k : Key) (v : ℕ) (b : Ballot) (os : Options) → AreRoundFacts key r facts → IsRoundLeader key r volatile.leader → (k ≡ key → b.round ≤ r) →
    IsRoundStep key r (accepted_step me facts volatile s k v b os (on_accept facts k v b os))
accepted-fine key r me facts volatile s k v b os f l h = pick (ballot_lt b (promise_of facts k v)) (nat_lt (current_of facts k) v) (new_marks facts k v b os)
  where
    pick : (x y : Bool) (ms : Options) → IsRoundStep key r (accepted_step me facts volatile s k v b os (cond x (AcceptAnswer.Refused (promise_of facts k v)) (cond y (AcceptAnswer.Behind (current_of facts k)) (answer_to_marks ms))))
    pick true y ms = sending-round key r volatile _ l ((λ e. subst (λ z. (promise_of facts z v).round ≤ r) (sym e) (f v)), tt)
    pick false true ms = sending-round key r volatile _ l (tt, tt)
    pick false false [] = sending-round key r volatile _ l (all-votes-fine key r me facts k v b os)
    pick false false (m ∷ ms) = adding-round key r volatile _ _ (voted-round key r k v b (new_marks facts k v b os) None h) l (all-votes-fine key r me facts k v b (new_marks facts k v b os))

asked-fine : (key : Key) (r me : ℕ) (facts : List Fact) (volatile : Volatile) (s : ℕ) (t : TxId) (k : Key) (v : ℕ) (o : Option Outcome) → IsRoundLeader key r volatile.leader → IsRoundStep key r (ask_step_by me facts volatile s t k v o)
asked-fine key r me facts volatile s t k v (Some o) l = sending-round key r volatile _ l (tt, tt)
asked-fine key r me facts volatile s t k v None l = pick (is_finished facts t) (vote_of facts k v t)
  where
    pick : (b : Bool) (x : Option (Ballot × Mark)) → IsRoundStep key r (cond b (sending volatile (to_one me s (Message.Finished t))) (ask_step_after me volatile s t k v x))
    pick true x = sending-round key r volatile _ l (tt, tt)
    pick false (Some x) = sending-round key r volatile _ l (tt, tt)
    pick false None = done-round key r volatile l

outcome-fine : (key : Key) (r : ℕ) (volatile : Volatile) (facts : List Fact) (t : TxId) (o : Outcome) → IsRoundLeader key r volatile.leader → IsRoundStep key r (outcome_step_by volatile t (on_outcome facts t o))
outcome-fine key r volatile facts t o l = pick (is_settled facts t)
  where
    pick : (b : Bool) → IsRoundStep key r (outcome_step_by volatile t (cond b None (Some (Fact.Heard t o))))
    pick true = done-round key r volatile l
    pick false = adding-round key r (closed volatile t) (Fact.Heard t o) [] (heard-round key r t o) l tt

given-fine : (key : Key) (r : ℕ) (volatile : Volatile) (b : Bool) (give : Give) → IsRoundLeader key r volatile.leader → IsRoundStep key r (sync_give_step_by volatile (cond b (Some (Fact.Adopted give.key give.version give.item give.adds)) None))
given-fine key r volatile true give l = adding-round key r volatile (Fact.Adopted give.key give.version give.item give.adds) [] (λ v. omega arith) l tt
given-fine key r volatile false give l = done-round key r volatile l

give-sends : (key : Key) (r me s : ℕ) (o : Option Give) → AreRoundSends key r (give_sent_by me s o)
give-sends key r me s (Some give) = (tt, tt)
give-sends key r me s None = tt

-- ---- the manager

act-sends : (key : Key) (r me : ℕ) (facts : List Fact) (act : Option ManagerAct) → AreRoundSends key r (act_sent me facts act)
act-sends key r me facts None = tt
act-sends key r me facts (Some (ManagerAct.Lead leader choice)) = (tt, tt)
act-sends key r me facts (Some (ManagerAct.Give centre k)) = give-sends key r me centre (on_sync_ask facts k)
act-sends key r me facts (Some (ManagerAct.Decide tx outcome)) = tt
act-sends key r me facts (Some (ManagerAct.Propose choice)) = tt
act-sends key r me facts (Some (ManagerAct.LeadHere choice)) = tt

acted-fine : (key : Key) (r me : ℕ) (facts : List Fact) (volatile : Volatile) (x : Option ManagerAct × Managing) → IsRoundLeader key r volatile.leader → IsRoundStep key r (acted_step me facts volatile x)
acted-fine key r me facts volatile (act, manager) l = sending-round key r (with_manager volatile manager) _ l (act-sends key r me facts act)

decided-fine : (key : Key) (r : ℕ) (cluster : Cluster) (me : ℕ) (volatile : Volatile) (t : TxId) (o : Outcome) → IsRoundLeader key r volatile.leader → IsRoundStep key r (decided_step cluster me volatile t o)
decided-fine key r cluster me volatile t o l = adding-round key r (closed volatile t) _ _ (heard-round key r t o) l (each-round key r me (Message.Outcome t o) _ tt)

voted-fine : (key : Key) (r : ℕ) (cluster : Cluster) (me : ℕ) (facts : List Fact) (volatile : Volatile) (vote : Vote) → IsRoundLeader key r volatile.leader → IsRoundStep key r (voted_step (here cluster me facts) volatile vote)
voted-fine key r cluster me facts volatile vote l =
    elim (cases_Bool (is_settled facts vote.tx)) [
      | inl e ↦ rw e (done-round key r volatile l)
      | inr e ↦ rw e (elim (cases_Bool (is_opened volatile.manager vote.tx)) [ inl f ↦ rw f (opened _) | inr f ↦ rw f (watched _) ])
    ]
  where
    undecided : IsRoundStep key r (undecided_step (here cluster me facts) volatile vote)
    undecided =
        acted-fine key r me facts volatile (Manager.on_voted cluster.quorums volatile.manager vote) l

    opened : (o : Option Outcome) → IsRoundStep key r (opened_step (here cluster me facts) volatile vote o)
    opened (Some o) = decided-fine key r cluster me volatile vote.tx o l
    opened None = undecided

    watched : (o : Option (TxId × Outcome)) → IsRoundStep key r (watched_step (here cluster me facts) volatile vote o)
    watched (Some d) = decided-fine key r cluster me volatile d.0 d.1 l
    watched None = done-round key r (with_recovery volatile (Recover.on_voted cluster.quorums facts volatile.recovery vote).1) l

-- ---- the leader

led-fine : (key : Key) (r : ℕ) (volatile : Volatile) (x : Result StepPart LeadFault) → ((es : List Entry) (a : ℕ) (led : StepPart) → x ≡ Ok led → facts_of (led.entries ++ es) a ≡ facts_of es a) → IsRoundLed key r x → IsRoundResult key r (step_of_led x)
led-fine key r volatile (Ok led) plain h = record { fact = λ f e. absurd (cc); leader = h.0; sends = h.1; plain = λ es a. plain es a led refl }
led-fine key r volatile (Err fault) plain h = tt

led-plain : (quorums : Sizes) (me : ℕ) (volatile : Volatile) (claim : Claim) (x : Result (LeadAnswer × Leading) LeadFault) (es : List Entry) (a : ℕ) (led : StepPart) → led_by_answer quorums me volatile claim x ≡ Ok led → facts_of (led.entries ++ es) a ≡ facts_of es a
led-plain quorums me volatile claim (Err fault) es a led e = absurd (cc)
led-plain quorums me volatile claim (Ok (answer, after)) es a led e =
    let same : record { after = with_leader volatile after; entries = lead_entries me volatile.leader claim answer; sends = lead_sent quorums me claim answer } ≡ led = cc in
    subst (λ (z : StepPart). facts_of (z.entries ++ es) a ≡ facts_of es a) same (by_answer answer)
  where
    pick : (b : Bool) (k : Key) (v : ℕ) (m : Ballot) (os : Options) → facts_of (cond b [] (Valued me k v m os ∷ []) ++ es) a ≡ facts_of es a
    pick true k v m os = refl
    pick false k v m os = refl

    by_answer : (answer : LeadAnswer) → facts_of (lead_entries me volatile.leader claim answer ++ es) a ≡ facts_of es a
    by_answer LeadAnswer.Behind = refl
    by_answer (LeadAnswer.Prepare v w b) = refl
    by_answer LeadAnswer.Left = refl
    by_answer (LeadAnswer.Accept v b os) = pick (is_marked volatile.leader claim) claim.key v b os

pub led-of-plain : (cluster : Cluster) (me : ℕ) (facts : List Fact) (volatile : Volatile) (claim : Claim) (es : List Entry) (a : ℕ) (led : StepPart) → led_of (here cluster me facts) volatile claim ≡ Ok led → facts_of (led.entries ++ es) a ≡ facts_of es a
led-of-plain cluster me facts volatile claim es a led e = led-plain cluster.quorums me volatile claim (lead cluster me (epoch_of facts) facts volatile.leader claim) es a led e

promised-plain : (quorums : Sizes) (me : ℕ) (volatile : Volatile) (k : Key) (x : Result (PromiseAnswer × Leading) LeadFault) (es : List Entry) (a : ℕ) (led : StepPart) → promised_by_answer quorums me volatile k x ≡ Ok led → facts_of (led.entries ++ es) a ≡ facts_of es a
promised-plain quorums me volatile k (Err fault) es a led e = absurd (cc)
promised-plain quorums me volatile k (Ok (answer, after)) es a led e =
    let same : record { after = with_leader volatile after; entries = promise_entries me k answer; sends = promise_sent quorums me k answer } ≡ led = cc in
    subst (λ (z : StepPart). facts_of (z.entries ++ es) a ≡ facts_of es a) same (by_answer answer)
  where
    by_answer : (answer : PromiseAnswer) → facts_of (promise_entries me k answer ++ es) a ≡ facts_of es a
    by_answer PromiseAnswer.Ignored = refl
    by_answer (PromiseAnswer.Waiting n) = refl
    by_answer PromiseAnswer.Counted = refl
    by_answer (PromiseAnswer.Accept v b os) = refl

raised-most : (key k : Key) (r : ℕ) → raised key k r ≤ r + 1
raised-most key k r = elim (cases_Bool (key_eq k key)) [ inl e ↦ rw e (omega arith) | inr e ↦ rw e (omega arith) ]

result-more : (key : Key) (r s : ℕ) (x : Result NodeStep StepFault) → r ≤ s → IsRoundResult key r x → IsRoundResult key s x
result-more key r s (Ok step) h g = step-more key r s step h g
result-more key r s (Err fault) h g = tt

lead-fine : (key : Key) (r : ℕ) (cluster : Cluster) (me : ℕ) (facts : List Fact) (volatile : Volatile) (s : ℕ) (choice : Choice) (o : Option Outcome) → AreRoundFacts key r facts → IsRoundLeader key r volatile.leader →
    IsRoundResult key (r + 1) (lead_step_after (here cluster me facts) volatile s choice o)
lead-fine key r cluster me facts volatile s choice (Some o) f l = sending-round key (r + 1) volatile _ (leader-more key r (r + 1) volatile.leader (omega arith) l) (tt, tt)
lead-fine key r cluster me facts volatile s choice None f l =
    elim (cases_Bool (is_finished facts choice.tx)) [
      | inl e ↦ rw e (sending-round key (r + 1) volatile _ (leader-more key r (r + 1) volatile.leader (omega arith) l) (tt, tt))
      | inr e ↦ rw e (
          result-more key (raised key choice.key r) (r + 1) (step_of_led (led_of (here cluster me facts) volatile (claim_of_choice choice))) (raised-most key choice.key r)
          (led-fine key (raised key choice.key r) volatile (led_of (here cluster me facts) volatile (claim_of_choice choice)) (λ es a led e. led-of-plain cluster me facts volatile (claim_of_choice choice) es a led e)
          (led-round key r cluster me facts volatile (claim_of_choice choice) f l)))
    ]

-- ---- messages

message-fine : (key : Key) (r : ℕ) (cluster : Cluster) (me : ℕ) (facts : List Fact) (volatile : Volatile) (s : ℕ) (m : Message) → AreRoundFacts key r facts → IsRoundLeader key r volatile.leader → IsRound key r m →
    IsRoundResult key (r + 1) (message_step (here cluster me facts) volatile s m)
message-fine key r cluster me facts volatile s m f l h = by_message m h
  where
    more : (step : NodeStep) → IsRoundStep key r step → IsRoundStep key (r + 1) step
    more step g = step-more key r (r + 1) step (omega arith) g

    by_message : (m : Message) → IsRound key r m → IsRoundResult key (r + 1) (message_step (here cluster me facts) volatile s m)
    by_message (Message.Propose choice) h = more _ (proposed-fine key r me volatile s choice (on_propose cluster facts choice) l)
    by_message (Message.Voted k v b t x) h = more _ (voted-fine key r cluster me facts volatile _ l)
    by_message (Message.Escalate k v t cause) h = more _ (acted-fine key r me facts volatile (Manager.on_escalate cluster.quorums volatile.manager s t k cause) l)
    by_message (Message.Lead choice) h = lead-fine key r cluster me facts volatile s choice (outcome_kept facts choice.tx) f l
    by_message (Message.Prepare k v w b) h = more _ (prepared-fine key r me facts volatile s k v w b f l h)
    by_message (Message.Promise k v w b q os) h =
        result-more key r (r + 1) (step_of_led (promised_by_answer cluster.quorums me volatile k (on_promise cluster facts volatile.leader s (record { key = k; version = v; through = w; ballot = b; reported = q; votes = os })))) (omega arith)
        (led-fine key r volatile (promised_by_answer cluster.quorums me volatile k (on_promise cluster facts volatile.leader s (record { key = k; version = v; through = w; ballot = b; reported = q; votes = os })))
        (λ es a led e. promised-plain cluster.quorums me volatile k (on_promise cluster facts volatile.leader s (record { key = k; version = v; through = w; ballot = b; reported = q; votes = os })) es a led e)
        (promise-round key r cluster me facts volatile volatile.leader s (record { key = k; version = v; through = w; ballot = b; reported = q; votes = os }) l))
    by_message (Message.Accept k v b os) h = more _ (accepted-fine key r me facts volatile s k v b os f l h)
    by_message (Message.Refused k v b p) h = more _ (done-round key r _ (refused-round key r volatile.leader k b p (lead_of volatile.leader k) refl h l))
    by_message (Message.Outcome t o) h = more _ (outcome-fine key r volatile facts t o l)
    by_message (Message.Ask t k v) h = more _ (asked-fine key r me facts volatile s t k v (outcome_kept facts t) l)
    by_message (Message.SyncAsk k) h = more _ (sending-round key r volatile _ l (give-sends key r me s (on_sync_ask facts k)))
    by_message (Message.SyncGive k v item adds) h = more _ (given-fine key r volatile (is_news facts k v adds) (record { key = k; version = v; item = item; adds = adds }) l)
    by_message (Message.Mark centre era upto) h = more _ (done-round key r volatile l)
    by_message (Message.Finished t) h = more _ (done-round key r (closed volatile t) l)
    by_message (Message.ClientRead n k) h = more _ (done-round key r volatile l)
    by_message (Message.ClientBegin n ps) h = more _ (done-round key r volatile l)
    by_message (Message.ClientAnswer n x) h = more _ (done-round key r volatile l)

pub checked-fine : (key : Key) (r : ℕ) (cluster : Cluster) (me : ℕ) (facts : List Fact) (volatile : Volatile) (s : ℕ) (m : Message) → AreRoundFacts key r facts → IsRoundLeader key r volatile.leader → IsRound key r m →
    IsRoundResult key (r + 1) (checked_for_room cluster facts (message_step (here cluster me facts) volatile s m))
checked-fine key r cluster me facts volatile s m f l h = by_case (message_step (here cluster me facts) volatile s m) (message-fine key r cluster me facts volatile s m f l h)
  where
    room : (step : NodeStep) (o : Option Fact) → IsRoundStep key (r + 1) step → IsRoundResult key (r + 1) (with_room cluster facts step o)
    room step None g = g
    room step (Some fact) g =
        elim (cases_Bool (is_without_room cluster facts fact)) [
          | inl e ↦ rw e tt
          | inr e ↦ rw e (elim (cases_Bool (is_crowding facts fact)) [ inl i ↦ rw i tt | inr i ↦ rw i g ])
        ]

    by_case : (x : Result NodeStep StepFault) → IsRoundResult key (r + 1) x → IsRoundResult key (r + 1) (checked_for_room cluster facts x)
    by_case (Ok step) g = room step step.fact g
    by_case (Err fault) g = tt
