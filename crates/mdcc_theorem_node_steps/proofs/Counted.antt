-- What holds of each counted vote holds after each step.
use Rattle.std.proofs.Common.{◌≡◌, ℕ, ◌&&◌, true, List, [], ◌∷◌, Option, Some, None, Result, Ok, Err, fold, not}
use Rattle.std.specs.List.{AllByRecursion}
use Rattle.std.proofs.lemmas.Bool.{and_parts, cond_both}
use Rattle.mdcc_base.specs.Sizes.{Sizes}
use Rattle.mdcc_base.specs.TxId.{tx_eq}
use Rattle.mdcc_base.specs.declared.identifiers.Ballot.{Ballot}
use Rattle.mdcc_base.specs.declared.identifiers.TxId.{TxId}
use Rattle.mdcc_base.specs.declared.key.Key.{Key}
use Rattle.mdcc_option.specs.declared.choices.Cause.{Cause}
use Rattle.mdcc_option.specs.declared.choices.Choice.{Choice}
use Rattle.mdcc_option.specs.declared.choices.Claim.{Claim}
use Rattle.mdcc_option.specs.declared.choices.Mark.{Mark}
use Rattle.mdcc_option.specs.declared.choices.Outcome.{Outcome}
use Rattle.mdcc_option.specs.declared.cluster.Cluster.{Cluster}
use Rattle.mdcc_option.specs.declared.faults.BeginFault.{BeginFault}
use Rattle.mdcc_option.specs.declared.items.Part.{Part}
use Rattle.mdcc_struct.specs.declared.options.Options.{Options}
use Rattle.mdcc_def_protocol.specs.Acceptor.{on_accept, on_prepare, on_propose}
use Rattle.mdcc_def_rules.specs.AcceptorRules.{accepted_step, ask_step_by, prepared_step, proposed_step, ask_step_after}
use Rattle.mdcc_def_protocol.specs.Belongs.{message_belongs}
use Rattle.mdcc_def_protocol.specs.Facts.{epoch_of, vote_of, is_finished, is_settled, outcome_kept}
use Rattle.mdcc_def_protocol.specs.Leader.{claim_of_choice, lead, on_promise}
use Rattle.mdcc_def_rules.specs.LeaderRules.{lead_step_after, led_by_answer, promised_by_answer, step_of_led, led_of}
use Rattle.mdcc_def_protocol.specs.Learner.{is_learned, with_counted_vote}
use Rattle.mdcc_def_protocol.specs.Manager
use Rattle.mdcc_def_protocol.specs.Manager.{act_on_cause, act_on_vote, acted, after_act, begin_with, begin_fault, vote_taken}
use Rattle.mdcc_def_rules.specs.ManagerRules.{acted_step, begin_step_by, escalate_step, opened_step, undecided_step, voted_step, watched_step}
use Rattle.mdcc_def_rules.specs.Node.{checked_for_room, is_own_message, message_step, step_of}
use Rattle.mdcc_def_protocol.specs.Recover
use Rattle.mdcc_def_protocol.specs.Recover.{keys_watched, on_voted_by}
use Rattle.mdcc_def_rules.specs.Steps.{NodeStep, StepPart, nothing_done, only_sending, part_and_then, sending}
use Rattle.mdcc_def_rules.specs.SyncRules.{outcome_step_by, sync_give_step_by}
use Rattle.mdcc_def_rules.specs.TickRules.{claim_led, led_or_left, manager_act, manager_ticked, recovery_act, recovery_ticked, tick_step}
use Rattle.mdcc_def_protocol.specs.Visible.{on_outcome, on_sync_give}
use Rattle.mdcc_def_protocol.specs.Volatile.{Leading, Managing, Volatile, closed, is_opened, txs_opened, with_manager, with_recovery}
use Rattle.mdcc_def_protocol.specs.declared.acceptor.AcceptAnswer.{AcceptAnswer}
use Rattle.mdcc_def_protocol.specs.declared.acceptor.PrepareAnswer.{PrepareAnswer}
use Rattle.mdcc_def_protocol.specs.declared.acceptor.ProposeAnswer.{ProposeAnswer}
use Rattle.mdcc_def_messages.specs.declared.facts.Fact.{Fact}
use Rattle.mdcc_def_protocol.specs.declared.leader.LeadAnswer.{LeadAnswer}
use Rattle.mdcc_def_protocol.specs.declared.leader.LeadFault.{LeadFault}
use Rattle.mdcc_def_protocol.specs.declared.leader.PromiseAnswer.{PromiseAnswer}
use Rattle.mdcc_def_protocol.specs.declared.manager.ManagerAct.{ManagerAct}
use Rattle.mdcc_def_messages.specs.declared.messages.Message.{Message}
use Rattle.mdcc_def_rules.specs.declared.node.Input.{Input}
use Rattle.mdcc_def_rules.specs.declared.node.StepFault.{StepFault}
use Rattle.mdcc_def_protocol.specs.declared.recover.RecoverAct.{RecoverAct}
use Rattle.mdcc_def_protocol.specs.declared.votes.Vote.{Vote}
use Rattle.mdcc_theorem_node_steps.proofs.Allowing.{OnStep, on_checked}
use Rattle.mdcc_theorem_node_steps.proofs.Decided.{each-with_vote}
use Rattle.mdcc_theorem_node_steps.proofs.Each.{each-kept}
use Rattle.mdcc_def_rules.specs.Here.{here}
use Rattle.mdcc_def_rules.specs.Messages.{to_one}

-- the state after one thing and another
pub after-fold : {X : Type 0} (P : Volatile → Type 0) (act : Volatile → X → StepPart) (each : (v : Volatile) (x : X) → P v → P (act v x).after)
    (xs : List X) (before : StepPart) → P before.after → P (fold (part_and_then act) before xs).after
after-fold P act each [] before h = h
after-fold P act each (x ∷ xs) before h = after-fold P act each xs (part_and_then act before x) (each before.after x h)

module _ (P : Vote → Type 0) where
  abbrev pub AreAll : Volatile → Type 0
  AreAll volatile = AllByRecursion P volatile.manager.votes × AllByRecursion P volatile.recovery.votes

  abbrev pub AreAllAfter : NodeStep → Type 0
  AreAllAfter step = AreAll step.after

  -- what is known of the vote that a message tells
  abbrev pub HoldsOfVote : ℕ → Message → Type 0
  HoldsOfVote s (Message.Voted key version ballot tx mark) = P (record { from = s; key = key; version = version; ballot = ballot; tx = tx; mark = mark })
  HoldsOfVote s _ = Unit {0}

  votes-closed : (volatile : Volatile) (tx : TxId) → AreAll volatile → AreAll (closed volatile tx)
  votes-closed volatile tx h =
      (each-kept P (λ vote. not (tx_eq vote.tx tx)) volatile.manager.votes h.0, each-kept P (λ vote. not (tx_eq vote.tx tx)) volatile.recovery.votes h.1)

  pub votes-taken : (quorums : Sizes) (manager : Managing) (vote : Vote) → AllByRecursion P manager.votes → P vote → AllByRecursion P (vote_taken quorums manager vote).votes
  votes-taken quorums manager vote h k =
      cond_both (is_opened manager vote.tx) (record manager { votes = with_counted_vote quorums manager.votes vote }) manager (λ (m : Managing). AllByRecursion P m.votes)
      (λ e. each-with_vote P quorums manager.votes vote h k) (λ e. h)

  votes-acted : (manager : Managing) (act : Option ManagerAct) → AllByRecursion P manager.votes → AllByRecursion P (after_act manager act).votes
  votes-acted manager None h = h
  votes-acted manager (Some (ManagerAct.Lead leader choice)) h = h
  votes-acted manager (Some (ManagerAct.Decide tx outcome)) h = h
  votes-acted manager (Some (ManagerAct.Give centre key)) h = h
  votes-acted manager (Some (ManagerAct.Propose choice)) h = h
  votes-acted manager (Some (ManagerAct.LeadHere choice)) h = h

  module _ (cluster : Cluster) (me : ℕ) (facts : List Fact) (volatile : Volatile) (all : AreAll volatile) where
    votes-proposed : (s : ℕ) (choice : Choice) (answer : ProposeAnswer) → AreAllAfter (proposed_step me volatile s choice answer)
    votes-proposed s choice (ProposeAnswer.Known outcome) = all
    votes-proposed s choice ProposeAnswer.Finished = all
    votes-proposed s choice (ProposeAnswer.Again ballot mark) = all
    votes-proposed s choice (ProposeAnswer.Vote mark) = all
    votes-proposed s choice (ProposeAnswer.Escalate cause) = all

    votes-undecided : (vote : Vote) → P vote → AreAllAfter (undecided_step (here cluster me facts) volatile vote)
    votes-undecided vote k =
        let taken = vote_taken cluster.quorums volatile.manager vote in
        let h = votes-taken cluster.quorums volatile.manager vote all.0 k in
        (votes-acted taken (act_on_vote cluster.quorums taken vote (Manager.decision cluster.quorums taken vote.tx)) h, all.1)

    votes-opened : (vote : Vote) → P vote → (o : Option Outcome) → AreAllAfter (opened_step (here cluster me facts) volatile vote o)
    votes-opened vote k (Some outcome) = votes-closed volatile vote.tx all
    votes-opened vote k None = votes-undecided vote k

    votes-recovered : (vote : Vote) → P vote → (keys : Option (List Key)) → AllByRecursion P (on_voted_by cluster.quorums volatile.recovery vote keys).1.votes
    votes-recovered vote k None = all.1
    votes-recovered vote k (Some keys) = each-with_vote P cluster.quorums volatile.recovery.votes vote all.1 k

    votes-watched : (vote : Vote) → P vote → (o : Option (TxId × Outcome)) → AreAllAfter (watched_step (here cluster me facts) volatile vote o)
    votes-watched vote k (Some decided) = votes-closed volatile decided.0 all
    votes-watched vote k None = (all.0, votes-recovered vote k (keys_watched facts volatile.recovery vote.tx))

    votes-voted : (vote : Vote) → P vote → AreAllAfter (voted_step (here cluster me facts) volatile vote)
    votes-voted vote k =
        cond_both (is_settled facts vote.tx) (nothing_done volatile) _ AreAllAfter (λ e. all) (λ e.
        cond_both (is_opened volatile.manager vote.tx)
        (opened_step (here cluster me facts) volatile vote (Manager.would_decide cluster.quorums volatile.manager vote))
        (watched_step (here cluster me facts) volatile vote (Recover.would_decide cluster.quorums facts volatile.recovery vote))
        AreAllAfter
        (λ f. votes-opened vote k (Manager.would_decide cluster.quorums volatile.manager vote))
        (λ f. votes-watched vote k (Recover.would_decide cluster.quorums facts volatile.recovery vote)))

    votes-escalate : (s : ℕ) (key : Key) (tx : TxId) (cause : Cause) → AreAllAfter (escalate_step (here cluster me facts) volatile s key tx cause)
    votes-escalate s key tx cause =
        cond_both (is_opened volatile.manager tx && not (is_learned cluster.quorums volatile.manager.votes tx key))
        (acted volatile.manager (act_on_cause cluster.quorums volatile.manager s tx key cause)) (None, volatile.manager)
        (λ (r : Option ManagerAct × Managing). AreAllAfter (acted_step me facts volatile r))
        (λ e. (votes-acted volatile.manager (act_on_cause cluster.quorums volatile.manager s tx key cause) all.0, all.1)) (λ e. all)

    votes-outcome : (tx : TxId) (o : Option Fact) → AreAllAfter (outcome_step_by volatile tx o)
    votes-outcome tx None = all
    votes-outcome tx (Some fact) = votes-closed volatile tx all

    votes-led : (claim : Claim) (r : Result (LeadAnswer × Leading) LeadFault) → OnStep AreAllAfter (step_of_led (led_by_answer cluster.quorums me volatile claim r))
    votes-led claim (Ok answer) = all
    votes-led claim (Err fault) = tt

    votes-promised : (key : Key) (r : Result (PromiseAnswer × Leading) LeadFault) → OnStep AreAllAfter (step_of_led (promised_by_answer cluster.quorums me volatile key r))
    votes-promised key (Ok answer) = all
    votes-promised key (Err fault) = tt

    votes-lead : (s : ℕ) (choice : Choice) (o : Option Outcome) → OnStep AreAllAfter (lead_step_after (here cluster me facts) volatile s choice o)
    votes-lead s choice (Some outcome) = all
    votes-lead s choice None =
        cond_both (is_finished facts choice.tx) (Ok (sending volatile (to_one me s (Message.Finished choice.tx)))) (step_of_led (led_of (here cluster me facts) volatile (claim_of_choice choice))) (OnStep AreAllAfter)
        (λ e. all) (λ e. votes-led (claim_of_choice choice) (lead cluster me (epoch_of facts) facts volatile.leader (claim_of_choice choice)))

    votes-prepared : (l : ℕ) (key : Key) (version : ℕ) (ballot : Ballot) (answer : PrepareAnswer) → AreAllAfter (prepared_step me facts volatile l key version ballot answer)
    votes-prepared l key version ballot (PrepareAnswer.Refused promise) = all
    votes-prepared l key version ballot (PrepareAnswer.Again high) = all
    votes-prepared l key version ballot (PrepareAnswer.Promise high) = all

    votes-accepted : (l : ℕ) (key : Key) (version : ℕ) (ballot : Ballot) (options : Options) (answer : AcceptAnswer)
        → AreAllAfter (accepted_step me facts volatile l key version ballot options answer)
    votes-accepted l key version ballot options (AcceptAnswer.Refused promise) = all
    votes-accepted l key version ballot options (AcceptAnswer.Behind current) = all
    votes-accepted l key version ballot options AcceptAnswer.Older = all
    votes-accepted l key version ballot options AcceptAnswer.Vote = all

    votes-asked : (s : ℕ) (tx : TxId) (key : Key) (version : ℕ) (o : Option Outcome) → AreAllAfter (ask_step_by me facts volatile s tx key version o)
    votes-asked s tx key version (Some outcome) = all
    votes-asked s tx key version None =
        cond_both (is_finished facts tx) (sending volatile (to_one me s (Message.Finished tx))) (ask_step_after me volatile s tx key version (vote_of facts key version tx)) AreAllAfter (λ e. all) (λ e. by_vote (vote_of facts key version tx))
      where
        by_vote : (vote : Option (Ballot × Mark)) → AreAllAfter (ask_step_after me volatile s tx key version vote)
        by_vote (Some vote) = all
        by_vote None = all

    votes-given : (o : Option Fact) → AreAllAfter (sync_give_step_by volatile o)
    votes-given None = all
    votes-given (Some fact) = all

    pub votes-message : (s : ℕ) (message : Message) → HoldsOfVote s message → OnStep AreAllAfter (message_step (here cluster me facts) volatile s message)
    votes-message s (Message.Propose choice) k = votes-proposed s choice (on_propose cluster facts choice)
    votes-message s (Message.Voted key version ballot tx mark) k =
        votes-voted (record { from = s; key = key; version = version; ballot = ballot; tx = tx; mark = mark }) k
    votes-message s (Message.Escalate key version tx cause) k = votes-escalate s key tx cause
    votes-message s (Message.Lead choice) k = votes-lead s choice (outcome_kept facts choice.tx)
    votes-message s (Message.Prepare key version through ballot) k = votes-prepared s key version ballot (on_prepare facts key version through ballot)
    votes-message s (Message.Promise key version through ballot reported votes) k =
        votes-promised key (on_promise cluster facts volatile.leader s (record { key = key; version = version; through = through; ballot = ballot; reported = reported; votes = votes }))
    votes-message s (Message.Accept key version ballot options) k = votes-accepted s key version ballot options (on_accept facts key version ballot options)
    votes-message s (Message.Refused key version ballot promised) k = all
    votes-message s (Message.Outcome tx outcome) k = votes-outcome tx (on_outcome facts tx outcome)
    votes-message s (Message.Ask tx key version) k = votes-asked s tx key version (outcome_kept facts tx)
    votes-message s (Message.SyncAsk key) k = all
    votes-message s (Message.SyncGive key version item adds) k =
        votes-given (on_sync_give facts (record { key = key; version = version; item = item; adds = adds }))
    votes-message s (Message.Mark centre epoch seq) k = all
    votes-message s (Message.Finished tx) k = votes-closed volatile tx all
    votes-message s (Message.ClientRead serial key) k = all
    votes-message s (Message.ClientBegin serial parts) k = all
    votes-message s (Message.ClientAnswer serial answer) k = all

    votes-begin : (parts : List Part) (fault : Option (Key × BeginFault))
        → AreAllAfter (begin_step_by (here cluster me facts) volatile parts (begin_with me (epoch_of facts) volatile.manager parts fault))
    votes-begin parts (Some fault) = all
    votes-begin parts None = all

  module _ (cluster : Cluster) (me : ℕ) (facts : List Fact) where
    votes-led_or_left : (volatile : Volatile) (claim : Claim) (r : Result (LeadAnswer × Leading) LeadFault) → AreAll volatile
        → AreAll (led_or_left volatile (led_by_answer cluster.quorums me volatile claim r)).after
    votes-led_or_left volatile claim (Ok answer) h = h
    votes-led_or_left volatile claim (Err fault) h = h

    votes-claim_led : (volatile : Volatile) (claim : Claim) → AreAll volatile → AreAll (claim_led (here cluster me facts) volatile claim).after
    votes-claim_led volatile claim h = votes-led_or_left volatile claim (lead cluster me (epoch_of facts) facts volatile.leader claim) h

    votes-manager_act : (volatile : Volatile) (act : ManagerAct) → AreAll volatile → AreAll (manager_act (here cluster me facts) volatile act).after
    votes-manager_act volatile (ManagerAct.Propose choice) h = h
    votes-manager_act volatile (ManagerAct.LeadHere choice) h = votes-claim_led volatile (claim_of_choice choice) h
    votes-manager_act volatile (ManagerAct.Lead leader choice) h = h
    votes-manager_act volatile (ManagerAct.Decide tx outcome) h = h
    votes-manager_act volatile (ManagerAct.Give centre key) h = h

    votes-recovery_act : (volatile : Volatile) (act : RecoverAct) → AreAll volatile → AreAll (recovery_act (here cluster me facts) volatile act).after
    votes-recovery_act volatile (RecoverAct.Ask tx key version) h = h
    votes-recovery_act volatile (RecoverAct.LeadHere claim) h = votes-claim_led volatile claim h

    votes-manager_ticked : (volatile : Volatile) → AreAll volatile → AreAll (manager_ticked (here cluster me facts) volatile).after
    votes-manager_ticked volatile h =
        let next = Manager.tick cluster.quorums volatile.manager in
        after-fold AreAll (manager_act (here cluster me facts)) votes-manager_act next.0 (only_sending (with_manager volatile next.1) []) h

    votes-recovery_ticked : (first : StepPart) → AreAll first.after → AreAll (recovery_ticked (here cluster me facts) first).after
    votes-recovery_ticked first h =
        let next = Recover.tick cluster.quorums facts first.after.recovery (txs_opened first.after.manager) in
        after-fold AreAll (recovery_act (here cluster me facts)) votes-recovery_act next.0 (record first { after = with_recovery first.after next.1 }) h

    pub votes-tick : (volatile : Volatile) → AreAll volatile → AreAllAfter (tick_step (here cluster me facts) volatile)
    votes-tick volatile h =
        let first = manager_ticked (here cluster me facts) volatile in
        let k : AreAll first.after = votes-manager_ticked volatile h in
        votes-recovery_ticked first k

    -- what is known of the vote that an input tells, where it is of the cluster
    abbrev pub HoldsOfInput : Input → Type 0
    HoldsOfInput (Input.Message envelope) = message_belongs cluster envelope.message ≡ true → HoldsOfVote envelope.from envelope.message
    HoldsOfInput _ = Unit {0}

    -- after any step
    pub votes-step : (volatile : Volatile) → AreAll volatile → (input : Input) → HoldsOfInput input → OnStep AreAllAfter (step_of (here cluster me facts) volatile input)
    votes-step volatile h (Input.Message envelope) own =
        cond_both (is_own_message cluster me envelope) (checked_for_room cluster facts (message_step (here cluster me facts) volatile envelope.from envelope.message)) (Err StepFault.Foreign) (OnStep AreAllAfter)
        (λ e. on_checked AreAllAfter AreAllAfter cluster facts (message_step (here cluster me facts) volatile envelope.from envelope.message) (λ step g k. g)
        (votes-message cluster me facts volatile h envelope.from envelope.message (own (and_parts _ _ e).1)))
        (λ e. tt)
    votes-step volatile h Input.Tick own = votes-tick volatile h
    votes-step volatile h Input.Sweep own = h
    votes-step volatile h (Input.Read key) own = h
    votes-step volatile h (Input.Begin parts) own = votes-begin cluster me facts volatile h parts (begin_fault facts volatile.manager parts)
