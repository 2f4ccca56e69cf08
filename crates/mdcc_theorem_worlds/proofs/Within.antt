-- The messages of a step stay within the cluster, its entries beside the fact tell no fact, and its fact begins no epoch.
use Rattle.std.proofs.Common.{◌≡◌, ℕ, zero, suc, ◌+◌, ◌&&◌, ◌==◌, ◌≤◌, Bool, true, false, List, [], ◌∷◌, refl, Option, Some, None, Result, Ok, Err, not, nat_le, filter, fold, cond, arith}
use Rattle.std.specs.List.{AllByRecursion, range_with_len}
use Rattle.std.proofs.lemmas.Bool.{and_from, and_parts, cond_both, eqb-true, le-leb}
use Rattle.mdcc_base.specs.AreQuorums.{AreQuorums}
use Rattle.mdcc_base.specs.Ballot.{is_fast}
use Rattle.mdcc_base.specs.Quorums.{all_centres, home_of}
use Rattle.mdcc_base.specs.declared.identifiers.Ballot.{Ballot}
use Rattle.mdcc_base.specs.declared.identifiers.TxId.{TxId}
use Rattle.mdcc_base.specs.declared.key.Key.{Key}
use Rattle.mdcc_option.specs.Transaction.{choices_of}
use Rattle.mdcc_option.specs.declared.choices.Cause.{Cause}
use Rattle.mdcc_option.specs.declared.choices.Choice.{Choice}
use Rattle.mdcc_option.specs.declared.choices.Claim.{Claim}
use Rattle.mdcc_option.specs.declared.choices.Mark.{Mark}
use Rattle.mdcc_option.specs.declared.choices.Outcome.{Outcome}
use Rattle.mdcc_option.specs.declared.cluster.Cluster.{Cluster}
use Rattle.mdcc_option.specs.declared.faults.BeginFault.{BeginFault}
use Rattle.mdcc_option.specs.declared.items.Part.{Part}
use Rattle.mdcc_struct.specs.declared.options.Options.{Options}
use Rattle.mdcc_def_protocol.specs.Acceptor.{new_marks, on_accept, on_prepare, on_propose}
use Rattle.mdcc_def_rules.specs.AcceptorRules.{accepted_step, all_votes_sent, ask_step_by, prepared_step, proposed_step, votes_sent, ask_step_after}
use Rattle.mdcc_def_protocol.specs.Belongs.{ballot_belongs, cause_belongs, is_centre, mark_belongs, message_belongs, options_belong, tx_belongs}
use Rattle.mdcc_def_protocol.specs.Facts.{epoch_of, vote_of, is_finished, is_settled, outcome_kept}
use Rattle.mdcc_def_protocol.specs.Leader.{claim_of_choice, is_marked, lead, on_promise}
use Rattle.mdcc_def_protocol.specs.Learner.{collided, is_learned}
use Rattle.mdcc_def_protocol.specs.Manager
use Rattle.mdcc_def_protocol.specs.Manager.{act_on_cause, act_on_vote, acted, choice_unled, lead_act, vote_taken}
use Rattle.mdcc_def_rules.specs.ManagerRules.{act_sent, acted_step, begin_step_by, decided_step, escalate_step, opened_step, undecided_step, voted_step, watched_step}
use Rattle.mdcc_def_rules.specs.LeaderRules.{lead_entries, lead_sent, lead_step_after, led_by_answer, led_of, promised_by_answer, step_of_led}
use Rattle.mdcc_def_rules.specs.Messages.{to_all, to_each, to_others, to_one}
use Rattle.mdcc_def_rules.specs.Node.{checked_for_room, is_own_message, message_step, step_of}
use Rattle.mdcc_def_ledger.specs.Ledger.{Added, Begun, Entry, Valued}
use Rattle.mdcc_def_protocol.specs.News.{is_news}
use Rattle.mdcc_def_protocol.specs.Recover
use Rattle.mdcc_def_rules.specs.Steps.{NodeStep, StepPart, part_and_then, nothing_done, only_sending, with_new, sending}
use Rattle.mdcc_def_rules.specs.SyncRules.{give_sent_by, outcome_step_by, sync_give_step_by}
use Rattle.mdcc_def_rules.specs.TickRules.{claim_led, led_or_left, manager_act, manager_ticked, recovery_act, recovery_ticked, tick_parts, tick_step}
use Rattle.mdcc_def_protocol.specs.Visible.{on_outcome, on_sync_ask, on_sync_give}
use Rattle.mdcc_def_protocol.specs.Volatile.{Leading, Managing, Volatile, is_opened, txs_opened, with_manager, with_recovery}
use Rattle.mdcc_def_messages.specs.WellFormed.{IsWellFormedMessage}
use Rattle.mdcc_def_messages.specs.WellFormedParts.{IsWellFormedCause, IsWellFormedClassic}
use Rattle.mdcc_def_protocol.specs.declared.acceptor.AcceptAnswer.{AcceptAnswer}
use Rattle.mdcc_def_protocol.specs.declared.acceptor.PrepareAnswer.{PrepareAnswer}
use Rattle.mdcc_def_protocol.specs.declared.acceptor.ProposeAnswer.{ProposeAnswer}
use Rattle.mdcc_def_protocol.specs.declared.leader.LeadAnswer.{LeadAnswer}
use Rattle.mdcc_def_protocol.specs.declared.leader.LeadFault.{LeadFault}
use Rattle.mdcc_def_protocol.specs.declared.leader.Promise.{Promise}
use Rattle.mdcc_def_protocol.specs.declared.leader.PromiseAnswer.{PromiseAnswer}
use Rattle.mdcc_def_messages.specs.declared.facts.Fact.{Fact}
use Rattle.mdcc_def_protocol.specs.declared.manager.ManagerAct.{ManagerAct}
use Rattle.mdcc_def_messages.specs.declared.messages.Envelope.{Envelope}
use Rattle.mdcc_def_messages.specs.declared.messages.Message.{Message}
use Rattle.mdcc_def_rules.specs.declared.node.Input.{Input}
use Rattle.mdcc_def_rules.specs.declared.node.StepFault.{StepFault}
use Rattle.mdcc_def_protocol.specs.declared.recover.RecoverAct.{RecoverAct}
use Rattle.mdcc_def_protocol.specs.declared.visible.Give.{Give}
use Rattle.mdcc_def_protocol.specs.declared.votes.Vote.{Vote}
use Rattle.mdcc_theorem_node_steps.specs.Inputs.{IsWellFormedInput}
use Rattle.mdcc_theorem_node_steps.proofs.Allowing.{OnStep, on_checked}
use Rattle.mdcc_theorem_node_steps.proofs.Each.{all-each, each-append, each-kept}
use Rattle.mdcc_theorem_node_steps.proofs.Sending.{each-flat_map}
use Rattle.mdcc_theorem_node_steps.proofs.Stepping.{on_made}
use Rattle.mdcc_theorem_worlds.specs.StepSends.{GoesWithin, IsValuedBy, StaysWithin, TellNoFact, is_begin_input}
use Rattle.mdcc_def_rules.specs.Here.{here}

-- a new fact begins no epoch
abbrev pub LeavesEpoch : Option Fact → Type 0
LeavesEpoch new = (facts : List Fact) → epoch_of (with_new facts new) ≡ epoch_of facts

-- a step whose entries are structures of this centre, whose messages stay within, and whose fact begins no epoch
abbrev IsQuiet : Cluster → ℕ → NodeStep → Type 0
IsQuiet cluster me step = AllByRecursion (IsValuedBy me) step.entries × AllByRecursion (GoesWithin cluster) step.sends × LeavesEpoch step.fact

-- the same of a part of a step
abbrev IsQuietPart : Cluster → ℕ → StepPart → Type 0
IsQuietPart cluster me part = AllByRecursion (IsValuedBy me) part.entries × AllByRecursion (GoesWithin cluster) part.sends

-- and of what a leader makes of a claim or a promise
abbrev IsQuietLed : Cluster → ℕ → Result StepPart LeadFault → Type 0
IsQuietLed cluster me (Ok part) = IsQuietPart cluster me part
IsQuietLed cluster me (Err fault) = Unit {0}

-- what holds of every step
abbrev pub IsStaying : Cluster → NodeStep → Type 0
IsStaying cluster step = StaysWithin cluster step × LeavesEpoch step.fact

-- a structure tells no fact
no-fact : (me : ℕ) (entries : List Entry) → AllByRecursion (IsValuedBy me) entries → TellNoFact entries
no-fact me [] h ledger a = refl
no-fact me (Valued centre key version ballot options ∷ entries) h ledger a = no-fact me entries h.1 ledger a
no-fact me (Added centre fact ∷ entries) h ledger a = absurd h.0
no-fact me (Begun centre tx choices ∷ entries) h ledger a = absurd h.0

quiet-stays : (cluster : Cluster) (me : ℕ) (step : NodeStep) → IsQuiet cluster me step → IsStaying cluster step
quiet-stays cluster me step h = (record { entries = no-fact me step.entries h.0; sends = h.1 }, h.2)

-- one part of a tick after another
parts-quiet : {X : Type 0} (cluster : Cluster) (me : ℕ) (act : Volatile → X → StepPart) → ((v : Volatile) (x : X) → IsQuietPart cluster me (act v x))
    → (xs : List X) (before : StepPart) → IsQuietPart cluster me before → IsQuietPart cluster me (fold (part_and_then act) before xs)
parts-quiet cluster me act each [] before h = h
parts-quiet cluster me act each (x ∷ xs) before h =
    let next = each before.after x in
    parts-quiet cluster me act each xs (part_and_then act before x) (
      each-append (IsValuedBy me) (act before.after x).entries before.entries next.0 h.0,
      each-append (GoesWithin cluster) before.sends (act before.after x).sends h.1 next.1,
    )

module _ (cluster : Cluster) (me : ℕ) (facts : List Fact) (volatile : Volatile) (sizes : AreQuorums cluster.quorums) where
  centre-within : (a : ℕ) → 1 ≤ a → a ≤ cluster.quorums.centres → is_centre cluster a ≡ true
  centre-within a h k = and_from (nat_le 1 a) (nat_le a cluster.quorums.centres) (le-leb 1 a h) (le-leb a cluster.quorums.centres k)

  range-within : (a n : ℕ) → 1 ≤ a → a + n ≤ cluster.quorums.centres + 1 → AllByRecursion (λ (b : ℕ). is_centre cluster b ≡ true) (range_with_len a n)
  range-within a zero h k = tt
  range-within a (suc n) h k = (centre-within a h (omega arith), range-within (a + 1) n (omega arith) (omega arith))

  all-within : AllByRecursion (λ (b : ℕ). is_centre cluster b ≡ true) (all_centres cluster.quorums)
  all-within = range-within 1 cluster.quorums.centres (omega arith) (omega arith)

  home-within : (key : Key) → is_centre cluster (home_of cluster.quorums key) ≡ true
  home-within key = centre-within (home_of cluster.quorums key) (omega arith) (omega (arith, sizes.some_centre))

  each-within : (centres : List ℕ) (message : Message) → AllByRecursion (λ (b : ℕ). is_centre cluster b ≡ true) centres
      → AllByRecursion (GoesWithin cluster) (to_each centres me message)
  each-within [] message h = tt
  each-within (a ∷ as') message h = (h.0, each-within as' message h.1)

  give-within : (s : ℕ) → is_centre cluster s ≡ true → (o : Option Give) → AllByRecursion (GoesWithin cluster) (give_sent_by me s o)
  give-within s h None = tt
  give-within s h (Some give) = (h, tt)

  -- an act is for a centre of the cluster
  abbrev ActsWithin : Option ManagerAct → Type 0
  ActsWithin (Some (ManagerAct.Lead leader choice)) = is_centre cluster leader ≡ true
  ActsWithin (Some (ManagerAct.Give centre key)) = is_centre cluster centre ≡ true
  ActsWithin _ = Unit {0}

  act-within : (o : Option ManagerAct) → ActsWithin o → AllByRecursion (GoesWithin cluster) (act_sent me facts o)
  act-within None h = tt
  act-within (Some (ManagerAct.Decide tx outcome)) h = tt
  act-within (Some (ManagerAct.Lead leader choice)) h = (h, tt)
  act-within (Some (ManagerAct.LeadHere choice)) h = tt
  act-within (Some (ManagerAct.Propose choice)) h = tt
  act-within (Some (ManagerAct.Give centre key)) h = give-within centre h (on_sync_ask facts key)

  lead-within : (leader : ℕ) → is_centre cluster leader ≡ true → (o : Option Choice) → ActsWithin (lead_act leader o)
  lead-within leader h None = tt
  lead-within leader h (Some choice) = h

  nothing : IsQuiet cluster me (nothing_done volatile)
  nothing = (tt, tt, λ facts. refl)

  proposed : (s : ℕ) (choice : Choice) (answer : ProposeAnswer) → is_centre cluster s ≡ true → IsQuiet cluster me (proposed_step me volatile s choice answer)
  proposed s choice (ProposeAnswer.Known outcome) h = (tt, (h, tt), λ facts. refl)
  proposed s choice ProposeAnswer.Finished h = (tt, (h, tt), λ facts. refl)
  proposed s choice (ProposeAnswer.Again ballot mark) h = (tt, (h, tt), λ facts. refl)
  proposed s choice (ProposeAnswer.Escalate cause) h = (tt, (h, tt), λ facts. refl)
  proposed s choice (ProposeAnswer.Vote mark) h = (tt, (h, tt), λ facts. refl)

  decided : (tx : TxId) (outcome : Outcome) → IsQuiet cluster me (decided_step cluster me volatile tx outcome)
  decided tx outcome = (
    tt,
    each-within (filter (λ to. not (to == me)) (all_centres cluster.quorums)) (Message.Outcome tx outcome)
        (each-kept (λ (b : ℕ). is_centre cluster b ≡ true) (λ to. not (to == me)) (all_centres cluster.quorums) all-within),
    λ facts. refl,
  )

  vote-act : (manager : Managing) (vote : Vote) (o : Option Outcome) → ActsWithin (act_on_vote cluster.quorums manager vote o)
  vote-act manager vote (Some outcome) = tt
  vote-act manager vote None =
      cond_both (collided cluster.quorums manager.votes vote.tx vote.key) (lead_act (home_of cluster.quorums vote.key) (choice_unled manager vote.tx vote.key)) None ActsWithin
      (λ e. lead-within (home_of cluster.quorums vote.key) (home-within vote.key) (choice_unled manager vote.tx vote.key)) (λ e. tt)

  undecided : (vote : Vote) → IsQuiet cluster me (undecided_step (here cluster me facts) volatile vote)
  undecided vote =
      let taken = vote_taken cluster.quorums volatile.manager vote in
      let act = act_on_vote cluster.quorums taken vote (Manager.decision cluster.quorums taken vote.tx) in
      (tt, act-within act (vote-act taken vote (Manager.decision cluster.quorums taken vote.tx)), λ facts. refl)

  opened : (vote : Vote) (o : Option Outcome) → IsQuiet cluster me (opened_step (here cluster me facts) volatile vote o)
  opened vote (Some outcome) = decided vote.tx outcome
  opened vote None = undecided vote

  watched : (vote : Vote) (o : Option (TxId × Outcome)) → IsQuiet cluster me (watched_step (here cluster me facts) volatile vote o)
  watched vote (Some d) = decided d.0 d.1
  watched vote None = (tt, tt, λ facts. refl)

  voted : (vote : Vote) → IsQuiet cluster me (voted_step (here cluster me facts) volatile vote)
  voted vote =
      cond_both (is_settled facts vote.tx) (nothing_done volatile) _ (IsQuiet cluster me) (λ e. nothing) (λ e.
      cond_both (is_opened volatile.manager vote.tx)
      (opened_step (here cluster me facts) volatile vote (Manager.would_decide cluster.quorums volatile.manager vote))
      (watched_step (here cluster me facts) volatile vote (Recover.would_decide cluster.quorums facts volatile.recovery vote))
      (IsQuiet cluster me)
      (λ f. opened vote (Manager.would_decide cluster.quorums volatile.manager vote))
      (λ f. watched vote (Recover.would_decide cluster.quorums facts volatile.recovery vote)))

  ballot-within : (ballot : Ballot) → IsWellFormedClassic ballot → (is_fast ballot ≡ true → IsWellFormedClassic ballot → is_centre cluster ballot.centre ≡ true) → cause_belongs cluster (Cause.Classic ballot) ≡ true
      → is_centre cluster ballot.centre ≡ true
  ballot-within ballot w slow h = by_case (is_fast ballot) refl
    where
      by_case : (b : Bool) → is_fast ballot ≡ b → is_centre cluster ballot.centre ≡ true
      by_case true e = slow e w
      by_case false e = rw e at h

  not-fast : (ballot : Ballot) → is_fast ballot ≡ true → IsWellFormedClassic ballot → is_centre cluster ballot.centre ≡ true
  not-fast ballot e w =
      let parts = and_parts (ballot.round == 0) (ballot.epoch == 0 && ballot.centre == 0) e in
      let none = eqb-true ballot.round 0 parts.0 in
      absurd (omega (none, w.round.0, arith))

  cause-act : (s : ℕ) (tx : TxId) (key : Key) (cause : Cause) → is_centre cluster s ≡ true → IsWellFormedCause cause → cause_belongs cluster cause ≡ true
      → ActsWithin (act_on_cause cluster.quorums volatile.manager s tx key cause)
  cause-act s tx key Cause.Behind h w b = h
  cause-act s tx key (Cause.Classic ballot) h w b = lead-within ballot.centre (ballot-within ballot w (not-fast ballot) b) (choice_unled volatile.manager tx key)
  cause-act s tx key (Cause.Limit quantity) h w b = lead-within (home_of cluster.quorums key) (home-within key) (choice_unled volatile.manager tx key)
  cause-act s tx key Cause.Full h w b = lead-within (home_of cluster.quorums key) (home-within key) (choice_unled volatile.manager tx key)

  escalated : (s : ℕ) (tx : TxId) (key : Key) (cause : Cause) → is_centre cluster s ≡ true → IsWellFormedCause cause → cause_belongs cluster cause ≡ true
      → IsQuiet cluster me (escalate_step (here cluster me facts) volatile s key tx cause)
  escalated s tx key cause h w b =
      cond_both (is_opened volatile.manager tx && not (is_learned cluster.quorums volatile.manager.votes tx key))
      (acted volatile.manager (act_on_cause cluster.quorums volatile.manager s tx key cause)) (None, volatile.manager)
      (λ (r : Option ManagerAct × Managing). IsQuiet cluster me (acted_step me facts volatile r))
      (λ e. (tt, act-within (act_on_cause cluster.quorums volatile.manager s tx key cause) (cause-act s tx key cause h w b), λ facts. refl)) (λ e. (tt, tt, λ facts. refl))

  heard : (tx : TxId) (outcome : Outcome) → IsQuiet cluster me (outcome_step_by volatile tx (on_outcome facts tx outcome))
  heard tx outcome =
      cond_both (is_settled facts tx) None (Some (Fact.Heard tx outcome)) (λ (o : Option Fact). IsQuiet cluster me (outcome_step_by volatile tx o))
      (λ e. (tt, tt, λ facts. refl)) (λ e. (tt, tt, λ facts. refl))

  -- ---- what a leader makes

  others-within : (message : Message) → AllByRecursion (GoesWithin cluster) (to_others cluster.quorums me message)
  others-within message =
      each-within (filter (λ to. not (to == me)) (all_centres cluster.quorums)) message
      (each-kept (λ (b : ℕ). is_centre cluster b ≡ true) (λ to. not (to == me)) (all_centres cluster.quorums) all-within)

  led-entries : (leader : Leading) (claim : Claim) (answer : LeadAnswer) → AllByRecursion (IsValuedBy me) (lead_entries me leader claim answer)
  led-entries leader claim LeadAnswer.Behind = tt
  led-entries leader claim (LeadAnswer.Accept version ballot options) =
      cond_both (is_marked leader claim) [] (Valued me claim.key version ballot options ∷ []) (AllByRecursion (IsValuedBy me)) (λ e. tt) (λ e. (refl, tt))
  led-entries leader claim (LeadAnswer.Prepare version through ballot) = tt
  led-entries leader claim LeadAnswer.Left = tt

  led-sent : (claim : Claim) (answer : LeadAnswer) → AllByRecursion (GoesWithin cluster) (lead_sent cluster.quorums me claim answer)
  led-sent claim LeadAnswer.Behind = others-within (Message.SyncAsk claim.key)
  led-sent claim (LeadAnswer.Accept version ballot options) = each-within (all_centres cluster.quorums) (Message.Accept claim.key version ballot options) all-within
  led-sent claim (LeadAnswer.Prepare version through ballot) = each-within (all_centres cluster.quorums) (Message.Prepare claim.key version through ballot) all-within
  led-sent claim LeadAnswer.Left = tt

  led-quiet : (v : Volatile) (claim : Claim) (r : Result (LeadAnswer × Leading) LeadFault) → IsQuietLed cluster me (led_by_answer cluster.quorums me v claim r)
  led-quiet v claim (Err fault) = tt
  led-quiet v claim (Ok (answer, after)) = (led-entries v.leader claim answer, led-sent claim answer)

  led-here : (v : Volatile) (claim : Claim) → IsQuietLed cluster me (led_of (here cluster me facts) v claim)
  led-here v claim = led-quiet v claim (lead cluster me (epoch_of facts) facts v.leader claim)

  step-led : (r : Result StepPart LeadFault) → IsQuietLed cluster me r → OnStep (IsQuiet cluster me) (step_of_led r)
  step-led (Ok part) h = (h.0, h.1, λ facts. refl)
  step-led (Err fault) h = tt

  claimed : (s : ℕ) (choice : Choice) → is_centre cluster s ≡ true → (o : Option Outcome) → OnStep (IsQuiet cluster me) (lead_step_after (here cluster me facts) volatile s choice o)
  claimed s choice h (Some outcome) = (tt, (h, tt), λ facts. refl)
  claimed s choice h None =
      cond_both (is_finished facts choice.tx) (Ok (sending volatile (to_one me s (Message.Finished choice.tx)))) (step_of_led (led_of (here cluster me facts) volatile (claim_of_choice choice))) (OnStep (IsQuiet cluster me))
      (λ e. (tt, (h, tt), λ facts. refl)) (λ e. step-led (led_of (here cluster me facts) volatile (claim_of_choice choice)) (led-here volatile (claim_of_choice choice)))

  promised : (key : Key) (r : Result (PromiseAnswer × Leading) LeadFault) → IsQuietLed cluster me (promised_by_answer cluster.quorums me volatile key r)
  promised key (Err fault) = tt
  promised key (Ok (PromiseAnswer.Ignored, after)) = (tt, tt)
  promised key (Ok (PromiseAnswer.Waiting count, after)) = (tt, tt)
  promised key (Ok (PromiseAnswer.Accept version ballot options, after)) =
      ((refl, tt), each-within (all_centres cluster.quorums) (Message.Accept key version ballot options) all-within)
  promised key (Ok (PromiseAnswer.Counted, after)) = (tt, tt)

  -- ---- what an acceptor answers

  prepared : (l : ℕ) (key : Key) (version : ℕ) (ballot : Ballot) (answer : PrepareAnswer) → is_centre cluster l ≡ true
      → IsQuiet cluster me (prepared_step me facts volatile l key version ballot answer)
  prepared l key version ballot (PrepareAnswer.Refused promise) h = (tt, (h, tt), λ facts. refl)
  prepared l key version ballot (PrepareAnswer.Again high) h = (tt, (h, tt), λ facts. refl)
  prepared l key version ballot (PrepareAnswer.Promise high) h = (tt, (h, tt), λ facts. refl)

  vote-sent : (key : Key) (version : ℕ) (ballot : Ballot) (e : TxId × Mark) → is_centre cluster ballot.centre ≡ true → is_centre cluster e.0.centre ≡ true
      → AllByRecursion (GoesWithin cluster) (votes_sent me key version ballot e)
  vote-sent key version ballot (tx, mark) h k =
      each-within (cond (tx.centre == ballot.centre) (tx.centre ∷ []) (tx.centre ∷ ballot.centre ∷ [])) (Message.Voted key version ballot tx mark)
      (cond_both (tx.centre == ballot.centre) (tx.centre ∷ []) (tx.centre ∷ ballot.centre ∷ []) (AllByRecursion (λ (b : ℕ). is_centre cluster b ≡ true)) (λ e. (k, tt)) (λ e. (k, (h, tt))))

  abbrev OfCentre : TxId × Mark → Type 0
  OfCentre e = (tx_belongs cluster e.0 && mark_belongs cluster e.1) ≡ true

  votes-sent : (key : Key) (version : ℕ) (ballot : Ballot) (options : Options) → is_centre cluster ballot.centre ≡ true → AllByRecursion OfCentre options
      → AllByRecursion (GoesWithin cluster) (all_votes_sent me facts key version ballot options)
  votes-sent key version ballot options h k =
      each-flat_map OfCentre (GoesWithin cluster) (votes_sent me key version ballot) (filter (λ e. not (is_settled facts e.0)) options)
      (λ e of. vote-sent key version ballot e h (and_parts (tx_belongs cluster e.0) (mark_belongs cluster e.1) of).0)
      (each-kept OfCentre (λ e. not (is_settled facts e.0)) options k)

  accepted : (l : ℕ) (key : Key) (version : ℕ) (ballot : Ballot) (options : Options) (answer : AcceptAnswer) → is_centre cluster l ≡ true
      → is_centre cluster ballot.centre ≡ true → AllByRecursion OfCentre options
      → IsQuiet cluster me (accepted_step me facts volatile l key version ballot options answer)
  accepted l key version ballot options (AcceptAnswer.Refused promise) h c k = (tt, (h, tt), λ facts. refl)
  accepted l key version ballot options (AcceptAnswer.Behind current) h c k = (tt, (h, tt), λ facts. refl)
  accepted l key version ballot options AcceptAnswer.Older h c k = (tt, votes-sent key version ballot options c k, λ facts. refl)
  accepted l key version ballot options AcceptAnswer.Vote h c k =
      (tt, votes-sent key version ballot (new_marks facts key version ballot options) c (each-kept OfCentre _ options k), λ facts. refl)

  asked : (s : ℕ) (tx : TxId) (key : Key) (version : ℕ) (o : Option Outcome) → is_centre cluster s ≡ true
      → IsQuiet cluster me (ask_step_by me facts volatile s tx key version o)
  asked s tx key version (Some outcome) h = (tt, (h, tt), λ facts. refl)
  asked s tx key version None h =
      cond_both (is_finished facts tx) (sending volatile (to_one me s (Message.Finished tx))) (ask_step_after me volatile s tx key version (vote_of facts key version tx)) (IsQuiet cluster me)
      (λ e. (tt, (h, tt), λ facts. refl)) (λ e. by_vote (vote_of facts key version tx))
    where
      by_vote : (vote : Option (Ballot × Mark)) → IsQuiet cluster me (ask_step_after me volatile s tx key version vote)
      by_vote (Some vote) = (tt, (h, tt), λ facts. refl)
      by_vote None = nothing

  given : (give : Give) → IsQuiet cluster me (sync_give_step_by volatile (on_sync_give facts give))
  given give =
      cond_both (is_news facts give.key give.version give.adds) (Some (Fact.Adopted give.key give.version give.item give.adds)) None (λ (o : Option Fact). IsQuiet cluster me (sync_give_step_by volatile o))
      (λ e. (tt, tt, λ facts. refl)) (λ e. nothing)

  -- ---- each message

  message-quiet : (s : ℕ) (message : Message) → is_centre cluster s ≡ true → message_belongs cluster message ≡ true → IsWellFormedMessage message
      → OnStep (IsQuiet cluster me) (message_step (here cluster me facts) volatile s message)
  message-quiet s (Message.Propose choice) h b w = proposed s choice (on_propose cluster facts choice) h
  message-quiet s (Message.Voted key version ballot tx mark) h b w =
      voted (record { from = s; key = key; version = version; ballot = ballot; tx = tx; mark = mark })
  message-quiet s (Message.Escalate key version tx cause) h b w =
      escalated s tx key cause h w.cause_itself (and_parts (tx_belongs cluster tx) (cause_belongs cluster cause) b).1
  message-quiet s (Message.Lead choice) h b w = claimed s choice h (outcome_kept facts choice.tx)
  message-quiet s (Message.Prepare key version through ballot) h b w = prepared s key version ballot (on_prepare facts key version through ballot) h
  message-quiet s (Message.Promise key version through ballot reported votes) h b w =
      let promise : Promise = record { key = key; version = version; through = through; ballot = ballot; reported = reported; votes = votes } in
      let r = promised_by_answer cluster.quorums me volatile key (on_promise cluster facts volatile.leader s promise) in
      step-led r (promised key (on_promise cluster facts volatile.leader s promise))
  message-quiet s (Message.Accept key version ballot options) h b w =
      let both = and_parts (ballot_belongs cluster ballot) (options_belong cluster options) b in
      accepted s key version ballot options (on_accept facts key version ballot options) h (ballot-within ballot w.classic (not-fast ballot) both.0)
      (all-each (λ (e : TxId × Mark). tx_belongs cluster e.0 && mark_belongs cluster e.1) options both.1)
  message-quiet s (Message.Refused key version ballot promised) h b w = (tt, tt, λ facts. refl)
  message-quiet s (Message.Outcome tx outcome) h b w = heard tx outcome
  message-quiet s (Message.Ask tx key version) h b w = asked s tx key version (outcome_kept facts tx) h
  message-quiet s (Message.SyncAsk key) h b w = (tt, give-within s h (on_sync_ask facts key), λ facts. refl)
  message-quiet s (Message.SyncGive key version item adds) h b w = given (record { key = key; version = version; item = item; adds = adds })
  message-quiet s (Message.Mark centre epoch seq) h b w = nothing
  message-quiet s (Message.Finished tx) h b w = (tt, tt, λ facts. refl)
  message-quiet s (Message.ClientRead serial key) h b w = nothing
  message-quiet s (Message.ClientBegin serial parts) h b w = nothing
  message-quiet s (Message.ClientAnswer serial answer) h b w = nothing

  pub envelope-quiet : (envelope : Envelope) → IsWellFormedMessage envelope.message → OnStep (IsQuiet cluster me) (step_of (here cluster me facts) volatile (Input.Message envelope))
  envelope-quiet envelope w =
      cond_both (is_own_message cluster me envelope) (checked_for_room cluster facts (message_step (here cluster me facts) volatile envelope.from envelope.message)) (Err StepFault.Foreign) (OnStep (IsQuiet cluster me))
      (λ e.
      let own = and_parts (envelope.to == me && is_centre cluster envelope.from) (message_belongs cluster envelope.message) e in
      on_checked (IsQuiet cluster me) (IsQuiet cluster me) cluster facts (message_step (here cluster me facts) volatile envelope.from envelope.message) (λ step h room. h)
      (message-quiet envelope.from envelope.message (and_parts (envelope.to == me) (is_centre cluster envelope.from) own.0).1 own.1 w))
      (λ e. tt)

  -- ---- a tick

  claim-part : (v : Volatile) (r : Result StepPart LeadFault) → IsQuietLed cluster me r → IsQuietPart cluster me (led_or_left v r)
  claim-part v (Ok part) h = h
  claim-part v (Err fault) h = (tt, tt)

  claim-quiet : (v : Volatile) (claim : Claim) → IsQuietPart cluster me (claim_led (here cluster me facts) v claim)
  claim-quiet v claim = claim-part v (led_of (here cluster me facts) v claim) (led-here v claim)

  manager-quiet : (v : Volatile) (act : ManagerAct) → IsQuietPart cluster me (manager_act (here cluster me facts) v act)
  manager-quiet v (ManagerAct.Propose choice) = (tt, each-within (all_centres cluster.quorums) (Message.Propose choice) all-within)
  manager-quiet v (ManagerAct.LeadHere choice) = claim-quiet v (claim_of_choice choice)
  manager-quiet v (ManagerAct.Lead leader choice) = (tt, tt)
  manager-quiet v (ManagerAct.Decide tx outcome) = (tt, tt)
  manager-quiet v (ManagerAct.Give centre key) = (tt, tt)

  recovery-quiet : (v : Volatile) (act : RecoverAct) → IsQuietPart cluster me (recovery_act (here cluster me facts) v act)
  recovery-quiet v (RecoverAct.Ask tx key version) = (tt, each-within (all_centres cluster.quorums) (Message.Ask tx key version) all-within)
  recovery-quiet v (RecoverAct.LeadHere claim) = claim-quiet v claim

  managed-quiet : IsQuietPart cluster me (manager_ticked (here cluster me facts) volatile)
  managed-quiet =
      let next = Manager.tick cluster.quorums volatile.manager in
      parts-quiet cluster me (manager_act (here cluster me facts)) manager-quiet next.0 (only_sending (with_manager volatile next.1) []) (tt, tt)

  recovered-quiet : (first : StepPart) → IsQuietPart cluster me first → IsQuietPart cluster me (recovery_ticked (here cluster me facts) first)
  recovered-quiet first h =
      let next = Recover.tick cluster.quorums facts first.after.recovery (txs_opened first.after.manager) in
      parts-quiet cluster me (recovery_act (here cluster me facts)) recovery-quiet next.0 (record first { after = with_recovery first.after next.1 }) h

  tick-quiet : IsQuiet cluster me (tick_step (here cluster me facts) volatile)
  tick-quiet = (all.0, all.1, λ facts. refl)
    where
      all : IsQuietPart cluster me (tick_parts (here cluster me facts) volatile)
      all = recovered-quiet (manager_ticked (here cluster me facts) volatile) managed-quiet

  -- what is no begin
  pub step-quiet : (input : Input) → IsWellFormedInput input → is_begin_input input ≡ false → OnStep (IsQuiet cluster me) (step_of (here cluster me facts) volatile input)
  step-quiet (Input.Message envelope) w other = envelope-quiet envelope w.message
  step-quiet Input.Tick w other = tick-quiet
  step-quiet Input.Sweep w other = nothing
  step-quiet (Input.Read key) w other = (tt, tt, λ facts. refl)
  step-quiet (Input.Begin parts) w other = absurd (cc)

  -- ---- a begin, and every step

  begun-within : (parts : List Part) (r : Result (TxId × Managing) BeginFault) → IsStaying cluster (begin_step_by (here cluster me facts) volatile parts r)
  begun-within parts (Err fault) = (record { entries = λ ledger a. refl; sends = tt }, λ facts. refl)
  begun-within parts (Ok (tx, manager)) = (
    record {
      entries = λ ledger a. refl;
      sends = each-flat_map (λ (choice : Choice). Unit {0}) (GoesWithin cluster) (λ choice. to_all cluster.quorums me (Message.Propose choice)) (choices_of tx parts)
          (λ choice h. each-within (all_centres cluster.quorums) (Message.Propose choice) all-within) (each-any (choices_of tx parts));
    },
    λ facts. refl,
  )
    where
      each-any : (choices : List Choice) → AllByRecursion (λ (choice : Choice). Unit {0}) choices
      each-any [] = tt
      each-any (c ∷ cs) = (tt, each-any cs)

  on_stays : (r : Result NodeStep StepFault) → OnStep (IsQuiet cluster me) r → OnStep (IsStaying cluster) r
  on_stays (Ok step) h = quiet-stays cluster me step h
  on_stays (Err fault) h = tt

  pub step-stays : (input : Input) → IsWellFormedInput input → OnStep (IsStaying cluster) (step_of (here cluster me facts) volatile input)
  step-stays (Input.Message envelope) w = on_stays (step_of (here cluster me facts) volatile (Input.Message envelope)) (envelope-quiet envelope w.message)
  step-stays Input.Tick w = quiet-stays cluster me (tick_step (here cluster me facts) volatile) tick-quiet
  step-stays Input.Sweep w = quiet-stays cluster me (nothing_done volatile) nothing
  step-stays (Input.Read key) w = (record { entries = λ ledger a. refl; sends = tt }, λ facts. refl)
  step-stays (Input.Begin parts) w = begun-within parts (Manager.begin me (epoch_of facts) facts volatile.manager parts)

pub made-stays : (cluster : Cluster) (me : ℕ) (facts : List Fact) (volatile : Volatile) (input : Input) (step : NodeStep)
    → AreQuorums cluster.quorums → IsWellFormedInput input → step_of (here cluster me facts) volatile input ≡ Ok step → StaysWithin cluster step
made-stays cluster me facts volatile input step sizes w made =
    (on_made (IsStaying cluster) _ step (step-stays cluster me facts volatile sizes input w) made).0

-- the fact of a step begins no epoch
pub made-epoch : (cluster : Cluster) (me : ℕ) (facts : List Fact) (volatile : Volatile) (input : Input) (step : NodeStep)
    → AreQuorums cluster.quorums → IsWellFormedInput input → step_of (here cluster me facts) volatile input ≡ Ok step → LeavesEpoch step.fact
made-epoch cluster me facts volatile input step sizes w made =
    (on_made (IsStaying cluster) _ step (step-stays cluster me facts volatile sizes input w) made).1

pub made-quiet : (cluster : Cluster) (me : ℕ) (facts : List Fact) (volatile : Volatile) (input : Input) (step : NodeStep)
    → AreQuorums cluster.quorums → IsWellFormedInput input → is_begin_input input ≡ false → step_of (here cluster me facts) volatile input ≡ Ok step → AllByRecursion (IsValuedBy me) step.entries
made-quiet cluster me facts volatile input step sizes w other made =
    (on_made (IsQuiet cluster me) _ step (step-quiet cluster me facts volatile sizes input w other) made).0
