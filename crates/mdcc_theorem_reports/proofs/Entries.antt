-- No fact is among the entries that a step brings with it.
use Rattle.std.proofs.Common.{Bool, Err, List, None, Ok, Option, Result, Some, [], cond, false, inl, inr, true, ℕ, ◌∷◌}
use Rattle.std.specs.List.{AllByRecursion}
use Rattle.std.specs.Prelude.{fold, ⊤}
use Rattle.std.proofs.lemmas.Bool.{cases_Bool}
use Rattle.mdcc_base.specs.Sizes.{Sizes}
use Rattle.mdcc_base.specs.declared.identifiers.Ballot.{Ballot}
use Rattle.mdcc_base.specs.declared.identifiers.TxId.{TxId}
use Rattle.mdcc_base.specs.declared.key.Key.{Key}
use Rattle.mdcc_option.specs.declared.choices.Choice.{Choice}
use Rattle.mdcc_option.specs.declared.choices.Mark.{Mark}
use Rattle.mdcc_option.specs.declared.choices.Outcome.{Outcome}
use Rattle.mdcc_option.specs.declared.cluster.Cluster.{Cluster}
use Rattle.mdcc_option.specs.declared.faults.BeginFault.{BeginFault}
use Rattle.mdcc_option.specs.declared.items.Part.{Part}
use Rattle.mdcc_struct.specs.declared.options.Options.{Options}
use Rattle.mdcc_def_protocol.specs.Acceptor.{on_accept, on_prepare, on_propose}
use Rattle.mdcc_def_protocol.specs.Facts.{epoch_of, is_finished, is_settled, outcome_kept, vote_of}
use Rattle.mdcc_def_protocol.specs.Leader.{lead}
use Rattle.mdcc_def_protocol.specs.Manager
use Rattle.mdcc_def_protocol.specs.News.{is_crowding}
use Rattle.mdcc_def_protocol.specs.Recover
use Rattle.mdcc_def_protocol.specs.Visible.{on_outcome, on_sync_give}
use Rattle.mdcc_def_protocol.specs.Volatile.{Leading, Managing, Volatile, is_opened, txs_opened, with_manager, with_recovery}
use Rattle.mdcc_def_protocol.specs.declared.acceptor.AcceptAnswer.{AcceptAnswer}
use Rattle.mdcc_def_protocol.specs.declared.acceptor.PrepareAnswer.{PrepareAnswer}
use Rattle.mdcc_def_protocol.specs.declared.acceptor.ProposeAnswer.{ProposeAnswer}
use Rattle.mdcc_option.specs.declared.choices.Claim.{Claim}
use Rattle.mdcc_def_protocol.specs.declared.leader.LeadAnswer.{LeadAnswer}
use Rattle.mdcc_def_protocol.specs.declared.leader.LeadFault.{LeadFault}
use Rattle.mdcc_def_protocol.specs.declared.leader.PromiseAnswer.{PromiseAnswer}
use Rattle.mdcc_def_protocol.specs.declared.manager.ManagerAct.{ManagerAct}
use Rattle.mdcc_def_protocol.specs.declared.recover.RecoverAct.{RecoverAct}
use Rattle.mdcc_def_protocol.specs.declared.votes.Vote.{Vote}
use Rattle.mdcc_def_ledger.specs.Ledger.{Added, Entry, Valued}
use Rattle.mdcc_def_messages.specs.declared.facts.Fact.{Fact}
use Rattle.mdcc_def_messages.specs.declared.messages.Message.{Message}
use Rattle.mdcc_def_rules.specs.AcceptorRules.{accepted_step, ask_step_after, ask_step_by, prepared_step, proposed_step}
use Rattle.mdcc_def_rules.specs.LeaderRules.{lead_step_after, led_by_answer, led_of, promised_by_answer, step_of_led}
use Rattle.mdcc_def_rules.specs.ManagerRules.{begin_step_by, opened_step, undecided_step, voted_step, watched_step}
use Rattle.mdcc_def_rules.specs.Node.{checked_for_room, is_own_message, is_without_room, message_step, step_of, with_room}
use Rattle.mdcc_def_rules.specs.Steps.{NodeStep, StepPart, only_sending, part_and_then}
use Rattle.mdcc_def_rules.specs.SyncRules.{outcome_step_by, sync_give_step_by}
use Rattle.mdcc_def_rules.specs.TickRules.{claim_led, led_or_left, manager_act, manager_ticked, recovery_act, recovery_ticked, tick_parts}
use Rattle.mdcc_def_rules.specs.declared.node.Input.{Input}
use Rattle.mdcc_def_rules.specs.declared.node.StepFault.{StepFault}
use Rattle.mdcc_theorem_reports.proofs.Lists.{each-append}
use Rattle.mdcc_def_rules.specs.Here.{here}

-- an entry that is no centre's fact
abbrev pub IsNoFact : Entry → Type 0
IsNoFact (Added centre fact) = ⊥
IsNoFact _ = ⊤

abbrev pub NoFacts : List Entry → Type 0
NoFacts entries = AllByRecursion IsNoFact entries

abbrev pub BringsNoFacts : Result NodeStep StepFault → Type 0
BringsNoFacts (Ok step) = NoFacts step.entries
BringsNoFacts (Err fault) = ⊤

either : (test : Bool) (step other : NodeStep) → NoFacts step.entries → NoFacts other.entries → NoFacts (cond test step other).entries
either true step other h k = h
either false step other h k = k

-- ---- acceptor and outcomes

proposed : (me : ℕ) (volatile : Volatile) (s : ℕ) (choice : Choice) (answer : ProposeAnswer) → NoFacts (proposed_step me volatile s choice answer).entries
proposed me volatile s choice (ProposeAnswer.Known outcome) = tt
proposed me volatile s choice ProposeAnswer.Finished = tt
proposed me volatile s choice (ProposeAnswer.Again ballot mark) = tt
proposed me volatile s choice (ProposeAnswer.Escalate cause) = tt
proposed me volatile s choice (ProposeAnswer.Vote mark) = tt

prepared : (me : ℕ) (facts : List Fact) (volatile : Volatile) (l : ℕ) (key : Key) (version : ℕ) (ballot : Ballot) (answer : PrepareAnswer) → NoFacts (prepared_step me facts volatile l key version ballot answer).entries
prepared me facts volatile l key version ballot (PrepareAnswer.Refused promise) = tt
prepared me facts volatile l key version ballot (PrepareAnswer.Again high) = tt
prepared me facts volatile l key version ballot (PrepareAnswer.Promise high) = tt

accepted : (me : ℕ) (facts : List Fact) (volatile : Volatile) (l : ℕ) (key : Key) (version : ℕ) (ballot : Ballot) (options : Options) (answer : AcceptAnswer) → NoFacts (accepted_step me facts volatile l key version ballot options answer).entries
accepted me facts volatile l key version ballot options (AcceptAnswer.Refused promise) = tt
accepted me facts volatile l key version ballot options (AcceptAnswer.Behind current) = tt
accepted me facts volatile l key version ballot options AcceptAnswer.Older = tt
accepted me facts volatile l key version ballot options AcceptAnswer.Vote = tt

asked-after : (me : ℕ) (volatile : Volatile) (s : ℕ) (tx : TxId) (key : Key) (version : ℕ) (vote : Option (Ballot × Mark)) → NoFacts (ask_step_after me volatile s tx key version vote).entries
asked-after me volatile s tx key version (Some vote) = tt
asked-after me volatile s tx key version None = tt

asked : (me : ℕ) (facts : List Fact) (volatile : Volatile) (s : ℕ) (tx : TxId) (key : Key) (version : ℕ) (o : Option Outcome) → NoFacts (ask_step_by me facts volatile s tx key version o).entries
asked me facts volatile s tx key version (Some outcome) = tt
asked me facts volatile s tx key version None = either (is_finished facts tx) _ _ tt (asked-after me volatile s tx key version (vote_of facts key version tx))

heard : (volatile : Volatile) (tx : TxId) (o : Option Fact) → NoFacts (outcome_step_by volatile tx o).entries
heard volatile tx None = tt
heard volatile tx (Some fact) = tt

given : (volatile : Volatile) (o : Option Fact) → NoFacts (sync_give_step_by volatile o).entries
given volatile None = tt
given volatile (Some fact) = tt

-- ---- manager

undecided : (cluster : Cluster) (me : ℕ) (facts : List Fact) (volatile : Volatile) (vote : Vote) → NoFacts (undecided_step (here cluster me facts) volatile vote).entries
undecided cluster me facts volatile vote = tt

opened : (cluster : Cluster) (me : ℕ) (facts : List Fact) (volatile : Volatile) (vote : Vote) (o : Option Outcome) → NoFacts (opened_step (here cluster me facts) volatile vote o).entries
opened cluster me facts volatile vote (Some outcome) = tt
opened cluster me facts volatile vote None = undecided cluster me facts volatile vote

watched : (cluster : Cluster) (me : ℕ) (facts : List Fact) (volatile : Volatile) (vote : Vote) (o : Option (TxId × Outcome)) → NoFacts (watched_step (here cluster me facts) volatile vote o).entries
watched cluster me facts volatile vote (Some decided) = tt
watched cluster me facts volatile vote None = tt

voted : (cluster : Cluster) (me : ℕ) (facts : List Fact) (volatile : Volatile) (vote : Vote) → NoFacts (voted_step (here cluster me facts) volatile vote).entries
voted cluster me facts volatile vote =
    either (is_settled facts vote.tx) _ _ tt
    (either (is_opened volatile.manager vote.tx) _ _
    (opened cluster me facts volatile vote (Manager.would_decide cluster.quorums volatile.manager vote))
    (watched cluster me facts volatile vote (Recover.would_decide cluster.quorums facts volatile.recovery vote)))

begun : (cluster : Cluster) (me : ℕ) (facts : List Fact) (volatile : Volatile) (parts : List Part) (r : Result (TxId × Managing) BeginFault) → NoFacts (begin_step_by (here cluster me facts) volatile parts r).entries
begun cluster me facts volatile parts (Err fault) = tt
begun cluster me facts volatile parts (Ok (tx, manager)) = (tt, tt)

-- ---- leader

abbrev LedNoFacts : Result StepPart LeadFault → Type 0
LedNoFacts (Ok led) = NoFacts led.entries
LedNoFacts (Err fault) = ⊤

answered : (quorums : Sizes) (me : ℕ) (volatile : Volatile) (claim : Claim) (r : Result (LeadAnswer × Leading) LeadFault) → LedNoFacts (led_by_answer quorums me volatile claim r)
answered quorums me volatile claim (Err fault) = tt
answered quorums me volatile claim (Ok (LeadAnswer.Behind, after)) = tt
answered quorums me volatile claim (Ok (LeadAnswer.Prepare version through ballot, after)) = tt
answered quorums me volatile claim (Ok (LeadAnswer.Left, after)) = tt
answered quorums me volatile claim (Ok (LeadAnswer.Accept version ballot options, after)) = pick _
  where
    pick : (marked : Bool) → NoFacts (cond marked [] (Valued me claim.key version ballot options ∷ []))
    pick true = tt
    pick false = (tt, tt)

led-here : (cluster : Cluster) (me : ℕ) (facts : List Fact) (volatile : Volatile) (claim : Claim) → LedNoFacts (led_of (here cluster me facts) volatile claim)
led-here cluster me facts volatile claim = answered cluster.quorums me volatile claim (lead cluster me (epoch_of facts) facts volatile.leader claim)

promised : (quorums : Sizes) (me : ℕ) (volatile : Volatile) (key : Key) (r : Result (PromiseAnswer × Leading) LeadFault) → LedNoFacts (promised_by_answer quorums me volatile key r)
promised quorums me volatile key (Err fault) = tt
promised quorums me volatile key (Ok (PromiseAnswer.Ignored, after)) = tt
promised quorums me volatile key (Ok (PromiseAnswer.Waiting count, after)) = tt
promised quorums me volatile key (Ok (PromiseAnswer.Counted, after)) = tt
promised quorums me volatile key (Ok (PromiseAnswer.Accept version ballot options, after)) = (tt, tt)

step-led : (r : Result StepPart LeadFault) → LedNoFacts r → BringsNoFacts (step_of_led r)
step-led (Ok led) h = h
step-led (Err fault) h = tt

claimed : (cluster : Cluster) (me : ℕ) (facts : List Fact) (volatile : Volatile) (s : ℕ) (choice : Choice) (o : Option Outcome) → BringsNoFacts (lead_step_after (here cluster me facts) volatile s choice o)
claimed cluster me facts volatile s choice (Some outcome) = tt
claimed cluster me facts volatile s choice None = either_led (is_finished facts choice.tx) _ _ tt (step-led (led_of (here cluster me facts) volatile _) (led-here cluster me facts volatile _))
  where
    either_led : (test : Bool) (step other : Result NodeStep StepFault) → BringsNoFacts step → BringsNoFacts other → BringsNoFacts (cond test step other)
    either_led true step other g h = g
    either_led false step other g h = h

-- ---- messages

message : (cluster : Cluster) (me : ℕ) (facts : List Fact) (volatile : Volatile) (s : ℕ) (m : Message) → BringsNoFacts (message_step (here cluster me facts) volatile s m)
message cluster me facts volatile s (Message.Propose choice) = proposed me volatile s choice (on_propose cluster facts choice)
message cluster me facts volatile s (Message.Voted key version ballot tx mark) = voted cluster me facts volatile _
message cluster me facts volatile s (Message.Escalate key version tx cause) = tt
message cluster me facts volatile s (Message.Lead choice) = claimed cluster me facts volatile s choice (outcome_kept facts choice.tx)
message cluster me facts volatile s (Message.Prepare key version through ballot) = prepared me facts volatile s key version ballot (on_prepare facts key version through ballot)
message cluster me facts volatile s (Message.Promise key version through ballot reported votes) = step-led _ (promised cluster.quorums me volatile key _)
message cluster me facts volatile s (Message.Accept key version ballot options) = accepted me facts volatile s key version ballot options (on_accept facts key version ballot options)
message cluster me facts volatile s (Message.Refused key version ballot promised) = tt
message cluster me facts volatile s (Message.Outcome tx outcome) = heard volatile tx (on_outcome facts tx outcome)
message cluster me facts volatile s (Message.Ask tx key version) = asked me facts volatile s tx key version (outcome_kept facts tx)
message cluster me facts volatile s (Message.Mark centre epoch seq) = tt
message cluster me facts volatile s (Message.Finished tx) = tt
message cluster me facts volatile s (Message.SyncAsk key) = tt
message cluster me facts volatile s (Message.SyncGive key version item adds) = given volatile (on_sync_give facts (record { key = key; version = version; item = item; adds = adds }))
message cluster me facts volatile s (Message.ClientRead number key) = tt
message cluster me facts volatile s (Message.ClientBegin number parts) = tt
message cluster me facts volatile s (Message.ClientAnswer number answer) = tt

roomy : (cluster : Cluster) (facts : List Fact) (step : NodeStep) (o : Option Fact) → NoFacts step.entries → BringsNoFacts (with_room cluster facts step o)
roomy cluster facts step None h = h
roomy cluster facts step (Some fact) h =
    elim (cases_Bool (is_without_room cluster facts fact)) [
      | inl e ↦ rw e tt
      | inr e ↦ rw e (elim (cases_Bool (is_crowding facts fact)) [ inl f ↦ rw f tt | inr f ↦ rw f h ])
    ]

checked-message : (cluster : Cluster) (facts : List Fact) (r : Result NodeStep StepFault) → BringsNoFacts r → BringsNoFacts (checked_for_room cluster facts r)
checked-message cluster facts (Ok step) h = roomy cluster facts step step.fact h
checked-message cluster facts (Err fault) h = tt

-- ---- ticks

folded : {X : Type 0} (act : Volatile → X → StepPart) → ((v : Volatile) (x : X) → NoFacts (act v x).entries) → (xs : List X) (before : StepPart) → NoFacts before.entries → NoFacts (fold (part_and_then act) before xs).entries
folded act each [] before h = h
folded act each (x ∷ xs) before h = folded act each xs (part_and_then act before x) (each-append IsNoFact (act before.after x).entries before.entries (each before.after x) h)

module _ (cluster : Cluster) (me : ℕ) (facts : List Fact) where
  claim : (volatile : Volatile) (c : Claim) → NoFacts (claim_led (here cluster me facts) volatile c).entries
  claim volatile c = by_led (led_of (here cluster me facts) volatile c) (led-here cluster me facts volatile c)
    where
      by_led : (r : Result StepPart LeadFault) → LedNoFacts r → NoFacts (led_or_left volatile r).entries
      by_led (Ok led) h = h
      by_led (Err fault) h = tt

  manager : (volatile : Volatile) (act : ManagerAct) → NoFacts (manager_act (here cluster me facts) volatile act).entries
  manager volatile (ManagerAct.Propose choice) = tt
  manager volatile (ManagerAct.LeadHere choice) = claim volatile _
  manager volatile (ManagerAct.Lead leader choice) = tt
  manager volatile (ManagerAct.Give centre key) = tt
  manager volatile (ManagerAct.Decide tx outcome) = tt

  recovered : (volatile : Volatile) (act : RecoverAct) → NoFacts (recovery_act (here cluster me facts) volatile act).entries
  recovered volatile (RecoverAct.Ask tx key version) = tt
  recovered volatile (RecoverAct.LeadHere c) = claim volatile c

  first : (volatile : Volatile) → NoFacts (manager_ticked (here cluster me facts) volatile).entries
  first volatile =
      let next = Manager.tick cluster.quorums volatile.manager in
      folded (manager_act (here cluster me facts)) manager next.0 (only_sending (with_manager volatile next.1) []) tt

  second : (part : StepPart) → NoFacts part.entries → NoFacts (recovery_ticked (here cluster me facts) part).entries
  second part h =
      let next = Recover.tick cluster.quorums facts part.after.recovery (txs_opened part.after.manager) in
      folded (recovery_act (here cluster me facts)) recovered next.0 (record part { after = with_recovery part.after next.1 }) h

  tick : (volatile : Volatile) → NoFacts (tick_parts (here cluster me facts) volatile).entries
  tick volatile = second (manager_ticked (here cluster me facts) volatile) (first volatile)

  -- ---- steps

  -- a step's own entries have no fact
  pub step-entries : (volatile : Volatile) (input : Input) → BringsNoFacts (step_of (here cluster me facts) volatile input)
  step-entries volatile (Input.Message envelope) =
      elim (cases_Bool (is_own_message cluster me envelope)) [
        | inl e ↦ rw e (checked-message cluster facts (message_step (here cluster me facts) volatile envelope.from envelope.message) (message cluster me facts volatile envelope.from envelope.message))
        | inr e ↦ rw e tt
      ]
  step-entries volatile Input.Tick = tick volatile
  step-entries volatile Input.Sweep = tt
  step-entries volatile (Input.Read key) = tt
  step-entries volatile (Input.Begin parts) = begun cluster me facts volatile parts (Manager.begin me (epoch_of facts) facts volatile.manager parts)
