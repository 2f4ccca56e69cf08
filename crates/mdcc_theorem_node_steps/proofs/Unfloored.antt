-- No step sets a floor and no boot reads one, so that each fact holds the cells that it needs.
use Rattle.std.proofs.Common.{◌≡◌, ℕ, ◌+◌, ◌≤◌, Bool, false, true, List, [], ◌∷◌, refl, subst, sym, Option, Some, None, Result, Ok, Err, arith, nat_lt, not, ◌&&◌, ◌||◌}
use Rattle.std.proofs.lemmas.Bool.{and_parts, cond_both, or_parts}
use Rattle.mdcc_base.specs.declared.identifiers.Ballot.{Ballot}
use Rattle.mdcc_base.specs.declared.identifiers.TxId.{TxId}
use Rattle.mdcc_base.specs.declared.key.Key.{Key}
use Rattle.mdcc_option.specs.declared.choices.Cause.{Cause}
use Rattle.mdcc_option.specs.declared.choices.Choice.{Choice}
use Rattle.mdcc_option.specs.declared.choices.Mark.{Mark}
use Rattle.mdcc_option.specs.declared.choices.Outcome.{Outcome}
use Rattle.mdcc_option.specs.declared.cluster.Cluster.{Cluster}
use Rattle.mdcc_option.specs.declared.faults.BeginFault.{BeginFault}
use Rattle.mdcc_option.specs.declared.items.Part.{Part}
use Rattle.mdcc_struct.specs.declared.options.Options.{Options}
use Rattle.mdcc_def_messages.specs.Lengths.{cells_needed, cells_used}
use Rattle.mdcc_def_messages.specs.declared.facts.Fact.{Fact}
use Rattle.mdcc_def_messages.specs.declared.messages.Message.{Message}
use Rattle.mdcc_def_ledger.specs.BootTest.{are_allowed_facts, is_allowed_fact, is_allowed_kind}
use Rattle.mdcc_def_ledger.specs.AllowedFacts.{is_booted}
use Rattle.mdcc_def_protocol.proofs.Plain.{cells_plain, no_floor_more}
use Rattle.mdcc_def_protocol.specs.Acceptor.{on_accept, on_prepare, on_propose}
use Rattle.mdcc_def_protocol.specs.Belongs.{fact_belongs}
use Rattle.mdcc_def_protocol.specs.Facts.{epoch_of, has_floor, is_finished, is_floor, is_settled, outcome_kept, vote_of}
use Rattle.mdcc_def_protocol.specs.Leader.{claim_of_choice}
use Rattle.mdcc_def_protocol.specs.Learner.{is_learned}
use Rattle.mdcc_def_protocol.specs.Manager
use Rattle.mdcc_def_protocol.specs.Manager.{act_on_cause, acted, begin_fault, begin_with}
use Rattle.mdcc_def_protocol.specs.News.{is_crowding, is_news}
use Rattle.mdcc_def_protocol.specs.Recover
use Rattle.mdcc_def_protocol.specs.Visible.{on_outcome, on_sync_give}
use Rattle.mdcc_def_protocol.specs.Volatile.{Managing, Volatile, is_opened}
use Rattle.mdcc_def_protocol.specs.declared.acceptor.AcceptAnswer.{AcceptAnswer}
use Rattle.mdcc_def_protocol.specs.declared.acceptor.PrepareAnswer.{PrepareAnswer}
use Rattle.mdcc_def_protocol.specs.declared.acceptor.ProposeAnswer.{ProposeAnswer}
use Rattle.mdcc_def_protocol.specs.declared.leader.LeadFault.{LeadFault}
use Rattle.mdcc_def_protocol.specs.declared.manager.ManagerAct.{ManagerAct}
use Rattle.mdcc_def_protocol.specs.declared.visible.Give.{Give}
use Rattle.mdcc_def_protocol.specs.declared.votes.Vote.{Vote}
use Rattle.mdcc_def_rules.specs.AcceptorRules.{accepted_step, ask_step_after, ask_step_by, prepared_step, proposed_step}
use Rattle.mdcc_def_rules.specs.Here.{here}
use Rattle.mdcc_def_rules.specs.LeaderRules.{lead_step_after, led_of, step_of_led}
use Rattle.mdcc_def_rules.specs.ManagerRules.{acted_step, begin_step_by, escalate_step, opened_step, voted_step, watched_step}
use Rattle.mdcc_def_rules.specs.Messages.{to_one}
use Rattle.mdcc_def_rules.specs.Node.{cells_spare, checked_for_room, is_own_message, is_without_room, message_step, step_of, with_room}
use Rattle.mdcc_def_rules.specs.Steps.{NodeStep, StepPart, nothing_done, sending, with_new}
use Rattle.mdcc_def_rules.specs.SyncRules.{outcome_step_by, sync_give_step_by}
use Rattle.mdcc_def_rules.specs.declared.node.Input.{Input}
use Rattle.mdcc_def_rules.specs.declared.node.StepFault.{StepFault}
use Rattle.mdcc_theorem_node_steps.proofs.Allowing.{OnStep}
use Rattle.mdcc_theorem_node_steps.proofs.Stepping.{on_made}
use Rattle.mdcc_theorem_node_steps.specs.NodeInvariant.{FitInTurn}

-- ---- allowed facts

not-floor : (cluster : Cluster) (fact : Fact) → fact_belongs cluster fact ≡ true → is_floor fact ≡ false
not-floor cluster (Fact.Floor origin era upto) h = absurd (cc)
not-floor cluster (Fact.Booted epoch) h = refl
not-floor cluster (Fact.Promised key low high ballot) h = refl
not-floor cluster (Fact.Voted key version ballot options offered) h = refl
not-floor cluster (Fact.Heard tx outcome) h = refl
not-floor cluster (Fact.Adopted key version item adds) h = refl

pub allowed-not-floor : (cluster : Cluster) (facts : List Fact) (fact : Fact) → is_allowed_fact cluster facts fact ≡ true → is_floor fact ≡ false
allowed-not-floor cluster facts fact h =
    let front = (and_parts (fact_belongs cluster fact && (is_booted fact || nat_lt 0 (epoch_of facts))) (is_allowed_kind cluster facts fact) h).0 in
    not-floor cluster fact (and_parts (fact_belongs cluster fact) (is_booted fact || nat_lt 0 (epoch_of facts)) front).0

pub allowed-unfloored : (cluster : Cluster) (facts : List Fact) → are_allowed_facts cluster facts ≡ true → has_floor facts ≡ false
allowed-unfloored cluster [] h = refl
allowed-unfloored cluster (fact ∷ facts) h =
    let parts = and_parts (are_allowed_facts cluster facts) (is_allowed_fact cluster facts fact) h in
    no_floor_more fact facts (allowed-not-floor cluster facts fact parts.1) (allowed-unfloored cluster facts parts.0)

-- ---- room

-- facts without a floor that lie in the cells had room in turn
pub fit-plain : (cluster : Cluster) (facts : List Fact) → has_floor facts ≡ false → cells_used facts ≤ cluster.cells → FitInTurn cluster facts
fit-plain cluster [] h few = tt
fit-plain cluster (fact ∷ facts) h few =
    let parts = or_parts (is_floor fact) (has_floor facts) h in (
      fit-plain cluster facts parts.1 (less (cells_needed fact) (cells_used facts) cluster.cells few),
      subst (λ n. n + cells_needed fact ≤ cluster.cells) (sym (cells_plain facts parts.1)) (turned (cells_needed fact) (cells_used facts) cluster.cells few),
    )
  where
    less : (n used cells : ℕ) → n + used ≤ cells → used ≤ cells
    less n used cells h = omega (arith, h)

    turned : (n used cells : ℕ) → n + used ≤ cells → used + n ≤ cells
    turned n used cells h = omega (arith, h)

-- ---- steps

abbrev is_new_floor : Option Fact → Bool
is_new_floor None = false
is_new_floor (Some fact) = is_floor fact

abbrev IsUnfloored : NodeStep → Type 0
IsUnfloored step = is_new_floor step.fact ≡ false

module _ (cluster : Cluster) (me : ℕ) (facts : List Fact) (volatile : Volatile) where
  plain-proposed : (s : ℕ) (choice : Choice) (answer : ProposeAnswer) → IsUnfloored (proposed_step me volatile s choice answer)
  plain-proposed s choice (ProposeAnswer.Known outcome) = refl
  plain-proposed s choice ProposeAnswer.Finished = refl
  plain-proposed s choice (ProposeAnswer.Again ballot mark) = refl
  plain-proposed s choice (ProposeAnswer.Vote mark) = refl
  plain-proposed s choice (ProposeAnswer.Escalate cause) = refl

  plain-opened : (vote : Vote) (o : Option Outcome) → IsUnfloored (opened_step (here cluster me facts) volatile vote o)
  plain-opened vote (Some outcome) = refl
  plain-opened vote None = refl

  plain-watched : (vote : Vote) (o : Option (TxId × Outcome)) → IsUnfloored (watched_step (here cluster me facts) volatile vote o)
  plain-watched vote (Some decided) = refl
  plain-watched vote None = refl

  plain-voted : (vote : Vote) → IsUnfloored (voted_step (here cluster me facts) volatile vote)
  plain-voted vote =
      cond_both (is_settled facts vote.tx) (nothing_done volatile) _ IsUnfloored (λ e. refl) (λ e.
      cond_both (is_opened volatile.manager vote.tx)
      (opened_step (here cluster me facts) volatile vote (Manager.would_decide cluster.quorums volatile.manager vote))
      (watched_step (here cluster me facts) volatile vote (Recover.would_decide cluster.quorums facts volatile.recovery vote))
      IsUnfloored
      (λ f. plain-opened vote (Manager.would_decide cluster.quorums volatile.manager vote))
      (λ f. plain-watched vote (Recover.would_decide cluster.quorums facts volatile.recovery vote)))

  plain-escalate : (s : ℕ) (key : Key) (tx : TxId) (cause : Cause) → IsUnfloored (escalate_step (here cluster me facts) volatile s key tx cause)
  plain-escalate s key tx cause =
      cond_both (is_opened volatile.manager tx && not (is_learned cluster.quorums volatile.manager.votes tx key))
      (acted volatile.manager (act_on_cause cluster.quorums volatile.manager s tx key cause)) (None, volatile.manager)
      (λ (r : Option ManagerAct × Managing). IsUnfloored (acted_step me facts volatile r)) (λ e. refl) (λ e. refl)

  plain-outcome : (tx : TxId) (outcome : Outcome) → IsUnfloored (outcome_step_by volatile tx (on_outcome facts tx outcome))
  plain-outcome tx outcome =
      cond_both (is_settled facts tx) None (Some (Fact.Heard tx outcome)) (λ (o : Option Fact). IsUnfloored (outcome_step_by volatile tx o)) (λ e. refl) (λ e. refl)

  plain-led : (r : Result StepPart LeadFault) → OnStep IsUnfloored (step_of_led r)
  plain-led (Ok led) = refl
  plain-led (Err fault) = tt

  plain-lead : (s : ℕ) (choice : Choice) (o : Option Outcome) → OnStep IsUnfloored (lead_step_after (here cluster me facts) volatile s choice o)
  plain-lead s choice (Some outcome) = refl
  plain-lead s choice None =
      cond_both (is_finished facts choice.tx) (Ok (sending volatile (to_one me s (Message.Finished choice.tx)))) (step_of_led (led_of (here cluster me facts) volatile (claim_of_choice choice))) (OnStep IsUnfloored)
      (λ e. refl) (λ e. plain-led (led_of (here cluster me facts) volatile (claim_of_choice choice)))

  plain-prepared : (l : ℕ) (key : Key) (version : ℕ) (ballot : Ballot) (answer : PrepareAnswer) → IsUnfloored (prepared_step me facts volatile l key version ballot answer)
  plain-prepared l key version ballot (PrepareAnswer.Refused promise) = refl
  plain-prepared l key version ballot (PrepareAnswer.Again high) = refl
  plain-prepared l key version ballot (PrepareAnswer.Promise high) = refl

  plain-accepted : (l : ℕ) (key : Key) (version : ℕ) (ballot : Ballot) (options : Options) (answer : AcceptAnswer) → IsUnfloored (accepted_step me facts volatile l key version ballot options answer)
  plain-accepted l key version ballot options (AcceptAnswer.Refused promise) = refl
  plain-accepted l key version ballot options (AcceptAnswer.Behind current) = refl
  plain-accepted l key version ballot options AcceptAnswer.Older = refl
  plain-accepted l key version ballot options AcceptAnswer.Vote = refl

  plain-asked : (s : ℕ) (tx : TxId) (key : Key) (version : ℕ) (o : Option Outcome) → IsUnfloored (ask_step_by me facts volatile s tx key version o)
  plain-asked s tx key version (Some outcome) = refl
  plain-asked s tx key version None =
      cond_both (is_finished facts tx) (sending volatile (to_one me s (Message.Finished tx))) (ask_step_after me volatile s tx key version (vote_of facts key version tx)) IsUnfloored (λ e. refl) (λ e. by_vote (vote_of facts key version tx))
    where
      by_vote : (vote : Option (Ballot × Mark)) → IsUnfloored (ask_step_after me volatile s tx key version vote)
      by_vote (Some vote) = refl
      by_vote None = refl

  plain-given : (give : Give) → IsUnfloored (sync_give_step_by volatile (on_sync_give facts give))
  plain-given give =
      cond_both (is_news facts give.key give.version give.adds) (Some (Fact.Adopted give.key give.version give.item give.adds)) None (λ (o : Option Fact). IsUnfloored (sync_give_step_by volatile o)) (λ e. refl) (λ e. refl)

  plain-message : (s : ℕ) (message : Message) → OnStep IsUnfloored (message_step (here cluster me facts) volatile s message)
  plain-message s (Message.Propose choice) = plain-proposed s choice (on_propose cluster facts choice)
  plain-message s (Message.Voted key version ballot tx mark) =
      plain-voted (record { from = s; key = key; version = version; ballot = ballot; tx = tx; mark = mark })
  plain-message s (Message.Escalate key version tx cause) = plain-escalate s key tx cause
  plain-message s (Message.Lead choice) = plain-lead s choice (outcome_kept facts choice.tx)
  plain-message s (Message.Prepare key version through ballot) = plain-prepared s key version ballot (on_prepare facts key version through ballot)
  plain-message s (Message.Promise key version through ballot reported votes) = plain-led _
  plain-message s (Message.Accept key version ballot options) = plain-accepted s key version ballot options (on_accept facts key version ballot options)
  plain-message s (Message.Refused key version ballot promised) = refl
  plain-message s (Message.Outcome tx outcome) = plain-outcome tx outcome
  plain-message s (Message.Ask tx key version) = plain-asked s tx key version (outcome_kept facts tx)
  plain-message s (Message.SyncAsk key) = refl
  plain-message s (Message.SyncGive key version item adds) =
      plain-given (record { key = key; version = version; item = item; adds = adds })
  plain-message s (Message.Mark centre epoch seq) = refl
  plain-message s (Message.Finished tx) = refl
  plain-message s (Message.ClientRead serial key) = refl
  plain-message s (Message.ClientBegin serial parts) = refl
  plain-message s (Message.ClientAnswer serial answer) = refl

  plain-room : (step : NodeStep) (o : Option Fact) → IsUnfloored step → OnStep IsUnfloored (with_room cluster facts step o)
  plain-room step None h = h
  plain-room step (Some fact) h =
      cond_both (is_without_room cluster facts fact) (Err (StepFault.NoRoom (cells_needed fact) (cells_spare cluster facts))) _ (OnStep IsUnfloored) (λ a. tt)
      (λ a. cond_both (is_crowding facts fact) (Err StepFault.Crowded) (Ok step) (OnStep IsUnfloored) (λ b. tt) (λ b. h))

  plain-checked : (r : Result NodeStep StepFault) → OnStep IsUnfloored r → OnStep IsUnfloored (checked_for_room cluster facts r)
  plain-checked (Err fault) h = tt
  plain-checked (Ok step) h = plain-room step step.fact h

  plain-begun : (parts : List Part) (fault : Option (Key × BeginFault)) → IsUnfloored (begin_step_by (here cluster me facts) volatile parts (begin_with me (epoch_of facts) volatile.manager parts fault))
  plain-begun parts (Some fault) = refl
  plain-begun parts None = refl

  plain-step : (input : Input) → OnStep IsUnfloored (step_of (here cluster me facts) volatile input)
  plain-step (Input.Message envelope) =
      cond_both (is_own_message cluster me envelope) (checked_for_room cluster facts (message_step (here cluster me facts) volatile envelope.from envelope.message)) (Err StepFault.Foreign) (OnStep IsUnfloored)
      (λ e. plain-checked (message_step (here cluster me facts) volatile envelope.from envelope.message) (plain-message envelope.from envelope.message)) (λ e. tt)
  plain-step Input.Tick = refl
  plain-step Input.Sweep = refl
  plain-step (Input.Read key) = refl
  plain-step (Input.Begin parts) = plain-begun parts (begin_fault facts volatile.manager parts)

with_new_plain : (facts : List Fact) (o : Option Fact) → has_floor facts ≡ false → is_new_floor o ≡ false → has_floor (with_new facts o) ≡ false
with_new_plain facts None h new = h
with_new_plain facts (Some fact) h new = no_floor_more fact facts new h

-- a step sets no floor
pub unfloored-stays : (cluster : Cluster) (me : ℕ) (facts : List Fact) (volatile : Volatile) (input : Input) (step : NodeStep) → has_floor facts ≡ false
    → step_of (here cluster me facts) volatile input ≡ Ok step → has_floor (with_new facts step.fact) ≡ false
unfloored-stays cluster me facts volatile input step h made =
    with_new_plain facts step.fact h (on_made IsUnfloored _ step (plain-step cluster me facts volatile input) made)

-- facts without a floor are those that lie in the cells where each had room
pub within-plain : (cluster : Cluster) (facts : List Fact) → has_floor facts ≡ false → FitInTurn cluster facts → cells_used facts ≤ cluster.cells
within-plain cluster [] h fit = omega arith
within-plain cluster (fact ∷ facts) h fit =
    let parts = or_parts (is_floor fact) (has_floor facts) h in
    let last = subst (λ n. n + cells_needed fact ≤ cluster.cells) (cells_plain facts parts.1) fit.1 in
    turned (cells_needed fact) (cells_used facts) cluster.cells last
  where
    turned : (n used cells : ℕ) → used + n ≤ cells → n + used ≤ cells
    turned n used cells h = omega (arith, h)
