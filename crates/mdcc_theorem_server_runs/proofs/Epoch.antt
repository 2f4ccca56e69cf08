-- No step of a node begins an epoch.
use Rattle.std.proofs.Common.{◌≡◌, ℕ, Bool, true, false, cond, List, [], ◌∷◌, Option, Some, None, Result, Ok, Err, refl, ◌∙◌}
use Rattle.std.specs.Prelude.{⊤}
use Rattle.mdcc_base.specs.declared.identifiers.Ballot.{Ballot}
use Rattle.mdcc_base.specs.declared.identifiers.TxId.{TxId}
use Rattle.mdcc_base.specs.declared.key.Key.{Key}
use Rattle.mdcc_def_messages.specs.declared.facts.Fact.{Fact}
use Rattle.mdcc_def_messages.specs.declared.messages.Message.{Message}
use Rattle.mdcc_option.specs.declared.choices.Choice.{Choice}
use Rattle.mdcc_option.specs.declared.choices.Mark.{Mark}
use Rattle.mdcc_option.specs.declared.choices.Outcome.{Outcome}
use Rattle.mdcc_option.specs.declared.cluster.Cluster.{Cluster}
use Rattle.mdcc_option.specs.declared.items.Part.{Part}
use Rattle.mdcc_def_protocol.specs.Acceptor.{on_accept, on_prepare, on_propose}
use Rattle.mdcc_def_protocol.specs.Facts.{epoch_of, is_finished, is_settled, outcome_kept, vote_of}
use Rattle.mdcc_def_protocol.specs.Leader.{claim_of_choice, on_promise}
use Rattle.mdcc_def_protocol.specs.Manager
use Rattle.mdcc_def_protocol.specs.News.{is_crowding, is_news}
use Rattle.mdcc_def_protocol.specs.Recover
use Rattle.mdcc_def_protocol.specs.Volatile.{Managing, Volatile, is_opened}
use Rattle.mdcc_def_protocol.specs.declared.acceptor.AcceptAnswer.{AcceptAnswer}
use Rattle.mdcc_def_protocol.specs.declared.acceptor.PrepareAnswer.{PrepareAnswer}
use Rattle.mdcc_def_protocol.specs.declared.acceptor.ProposeAnswer.{ProposeAnswer}
use Rattle.mdcc_def_protocol.specs.declared.leader.LeadFault.{LeadFault}
use Rattle.mdcc_def_protocol.specs.declared.leader.Promise.{Promise}
use Rattle.mdcc_option.specs.declared.faults.BeginFault.{BeginFault}
use Rattle.mdcc_def_protocol.specs.declared.manager.ManagerAct.{ManagerAct}
use Rattle.mdcc_def_protocol.specs.declared.votes.Vote.{Vote}
use Rattle.mdcc_def_protocol.specs.declared.visible.Give.{Give}
use Rattle.mdcc_def_rules.specs.AcceptorRules.{accepted_step, ask_step_after, ask_step_by, prepared_step, proposed_step}
use Rattle.mdcc_def_rules.specs.Here.{Here, here}
use Rattle.mdcc_def_rules.specs.LeaderRules.{lead_step_after, led_of, promised_by_answer, step_of_led}
use Rattle.mdcc_def_rules.specs.ManagerRules.{acted_step, begin_step_by, opened_step, voted_step, watched_step}
use Rattle.mdcc_def_rules.specs.Messages.{to_one}
use Rattle.mdcc_def_rules.specs.Node.{checked_for_room, is_own_message, is_without_room, message_step, step_of, with_room}
use Rattle.mdcc_def_rules.specs.Steps.{NodeStep, StepPart, nothing_done, sending, with_new}
use Rattle.mdcc_def_rules.specs.SyncRules.{outcome_step, outcome_step_by, sync_give_step, sync_give_step_by}
use Rattle.mdcc_def_rules.specs.declared.node.Input.{Input}
use Rattle.mdcc_def_rules.specs.declared.node.StepFault.{StepFault}
use Rattle.mdcc_theorem_server_runs.specs.Told.{node_after}
use Rattle.mdcc_def_server_runs.specs.Runs.{NodeState, after_step, run_of_inputs, step_on}

-- the epoch is the same with this fact, where there is one
abbrev Keeps : Option Fact → Type 0
Keeps fact = (facts : List Fact) → epoch_of (with_new facts fact) ≡ epoch_of facts

abbrev StepKeeps : Result NodeStep StepFault → Type 0
StepKeeps (Ok step) = Keeps step.fact
StepKeeps (Err fault) = ⊤

-- ---- acceptor

proposed_keeps : (me : ℕ) (volatile : Volatile) (s : ℕ) (choice : Choice) (answer : ProposeAnswer) → Keeps (proposed_step me volatile s choice answer).fact
proposed_keeps me volatile s choice (ProposeAnswer.Known outcome) facts = refl
proposed_keeps me volatile s choice ProposeAnswer.Finished facts = refl
proposed_keeps me volatile s choice (ProposeAnswer.Again ballot mark) facts = refl
proposed_keeps me volatile s choice (ProposeAnswer.Escalate cause) facts = refl
proposed_keeps me volatile s choice (ProposeAnswer.Vote mark) facts = refl

prepared_keeps : (me : ℕ) (had : List Fact) (volatile : Volatile) (l : ℕ) (key : Key) (version : ℕ) (ballot : Ballot) (answer : PrepareAnswer)
    → Keeps (prepared_step me had volatile l key version ballot answer).fact
prepared_keeps me had volatile l key version ballot (PrepareAnswer.Refused promise) facts = refl
prepared_keeps me had volatile l key version ballot (PrepareAnswer.Again high) facts = refl
prepared_keeps me had volatile l key version ballot (PrepareAnswer.Promise high) facts = refl

accepted_keeps : (me : ℕ) (had : List Fact) (volatile : Volatile) (l : ℕ) (key : Key) (version : ℕ) (ballot : Ballot) (options : List (TxId × Mark)) (answer : AcceptAnswer)
    → Keeps (accepted_step me had volatile l key version ballot options answer).fact
accepted_keeps me had volatile l key version ballot options (AcceptAnswer.Refused promise) facts = refl
accepted_keeps me had volatile l key version ballot options (AcceptAnswer.Behind current) facts = refl
accepted_keeps me had volatile l key version ballot options AcceptAnswer.Older facts = refl
accepted_keeps me had volatile l key version ballot options AcceptAnswer.Vote facts = refl

asked_keeps : (me : ℕ) (had : List Fact) (volatile : Volatile) (s : ℕ) (tx : TxId) (key : Key) (version : ℕ) (kept : Option Outcome)
    → Keeps (ask_step_by me had volatile s tx key version kept).fact
asked_keeps me had volatile s tx key version (Some outcome) = λ facts. refl
asked_keeps me had volatile s tx key version None = by_both (is_finished had tx) (vote_of had key version tx)
  where
    by_both : (finished : Bool) (vote : Option (Ballot × Mark)) → Keeps (cond finished (sending volatile (to_one me s (Message.Finished tx))) (ask_step_after me volatile s tx key version vote)).fact
    by_both true vote = λ facts. refl
    by_both false (Some vote) = λ facts. refl
    by_both false None = λ facts. refl

-- ---- leader

led_keeps : (made : Result StepPart LeadFault) → StepKeeps (step_of_led made)
led_keeps (Ok part) = λ facts. refl
led_keeps (Err fault) = tt

lead_keeps : (had : Here) (volatile : Volatile) (s : ℕ) (choice : Choice) (heard : Option Outcome) → StepKeeps (lead_step_after had volatile s choice heard)
lead_keeps had volatile s choice (Some outcome) = λ facts. refl
lead_keeps had volatile s choice None = by_finished (is_finished had.facts choice.tx)
  where
    by_finished : (finished : Bool) → StepKeeps (cond finished (Ok (sending volatile (to_one had.me s (Message.Finished choice.tx)))) (step_of_led (led_of had volatile (claim_of_choice choice))))
    by_finished true = λ facts. refl
    by_finished false = led_keeps (led_of had volatile (claim_of_choice choice))

-- ---- manager

begun_keeps : (had : Here) (volatile : Volatile) (parts : List Part) (begun : Result (TxId × Managing) BeginFault) → Keeps (begin_step_by had volatile parts begun).fact
begun_keeps had volatile parts (Err fault) facts = refl
begun_keeps had volatile parts (Ok (tx, manager)) facts = refl

acted_keeps : (me : ℕ) (had : List Fact) (volatile : Volatile) (acted : Option ManagerAct × Managing) → Keeps (acted_step me had volatile acted).fact
acted_keeps me had volatile (act, manager) facts = refl

opened_keeps : (had : Here) (volatile : Volatile) (vote : Vote) (outcome : Option Outcome) → Keeps (opened_step had volatile vote outcome).fact
opened_keeps had volatile vote (Some outcome) facts = refl
opened_keeps had volatile vote None facts = acted_keeps had.me had.facts volatile (Manager.on_voted had.cluster.quorums volatile.manager vote) facts

watched_keeps : (had : Here) (volatile : Volatile) (vote : Vote) (decided : Option (TxId × Outcome)) → Keeps (watched_step had volatile vote decided).fact
watched_keeps had volatile vote (Some decided) facts = refl
watched_keeps had volatile vote None facts = refl

voted_keeps : (had : Here) (volatile : Volatile) (vote : Vote) → Keeps (voted_step had volatile vote).fact
voted_keeps had volatile vote =
    by_both (is_settled had.facts vote.tx) (is_opened volatile.manager vote.tx)
  where
    by_both : (heard opened : Bool) → Keeps (cond heard (nothing_done volatile)
        (cond opened (opened_step had volatile vote (Manager.would_decide had.cluster.quorums volatile.manager vote))
        (watched_step had volatile vote (Recover.would_decide had.cluster.quorums had.facts volatile.recovery vote)))).fact
    by_both true opened = λ facts. refl
    by_both false true = opened_keeps had volatile vote (Manager.would_decide had.cluster.quorums volatile.manager vote)
    by_both false false = watched_keeps had volatile vote (Recover.would_decide had.cluster.quorums had.facts volatile.recovery vote)

-- ---- what is heard and passed on

outcome_keeps : (had : List Fact) (volatile : Volatile) (tx : TxId) (outcome : Outcome) → Keeps (outcome_step had volatile tx outcome).fact
outcome_keeps had volatile tx outcome = by_heard (is_settled had tx)
  where
    by_heard : (heard : Bool) → Keeps (outcome_step_by volatile tx (cond heard None (Some (Fact.Heard tx outcome)))).fact
    by_heard true facts = refl
    by_heard false facts = refl

give_keeps : (had : List Fact) (volatile : Volatile) (give : Give) → Keeps (sync_give_step had volatile give).fact
give_keeps had volatile give = by_news (is_news had give.key give.version give.adds)
  where
    by_news : (news : Bool) → Keeps (sync_give_step_by volatile (cond news (Some (Fact.Adopted give.key give.version give.item give.adds)) None)).fact
    by_news true facts = refl
    by_news false facts = refl

-- ---- steps

message_keeps : (had : Here) (volatile : Volatile) (s : ℕ) (message : Message) → StepKeeps (message_step had volatile s message)
message_keeps had volatile s (Message.Propose choice) = proposed_keeps had.me volatile s choice (on_propose had.cluster had.facts choice)
message_keeps had volatile s (Message.Voted key version ballot tx mark) =
    voted_keeps had volatile (record { from = s; key = key; version = version; ballot = ballot; tx = tx; mark = mark })
message_keeps had volatile s (Message.Escalate key version tx cause) =
    acted_keeps had.me had.facts volatile (Manager.on_escalate had.cluster.quorums volatile.manager s tx key cause)
message_keeps had volatile s (Message.Lead choice) = lead_keeps had volatile s choice (outcome_kept had.facts choice.tx)
message_keeps had volatile s (Message.Prepare key version through ballot) =
    prepared_keeps had.me had.facts volatile s key version ballot (on_prepare had.facts key version through ballot)
message_keeps had volatile s (Message.Promise key version through ballot reported votes) =
    let promise : Promise = record { key = key; version = version; through = through; ballot = ballot; reported = reported; votes = votes } in
    led_keeps (promised_by_answer had.cluster.quorums had.me volatile key (on_promise had.cluster had.facts volatile.leader s promise))
message_keeps had volatile s (Message.Accept key version ballot options) =
    accepted_keeps had.me had.facts volatile s key version ballot options (on_accept had.facts key version ballot options)
message_keeps had volatile s (Message.Refused key version ballot promised) = λ facts. refl
message_keeps had volatile s (Message.Outcome tx outcome) = outcome_keeps had.facts volatile tx outcome
message_keeps had volatile s (Message.Ask tx key version) =
    asked_keeps had.me had.facts volatile s tx key version (outcome_kept had.facts tx)
message_keeps had volatile s (Message.SyncAsk key) = λ facts. refl
message_keeps had volatile s (Message.SyncGive key version item adds) =
    give_keeps had.facts volatile (record { key = key; version = version; item = item; adds = adds })
message_keeps had volatile s (Message.ClientRead serial key) = λ facts. refl
message_keeps had volatile s (Message.ClientBegin serial parts) = λ facts. refl
message_keeps had volatile s (Message.ClientAnswer serial answer) = λ facts. refl
message_keeps had volatile s (Message.Mark centre epoch seq) = λ facts. refl
message_keeps had volatile s (Message.Finished tx) = λ facts. refl

room_keeps : (cluster : Cluster) (had : List Fact) (step : NodeStep) (fact : Option Fact) → Keeps step.fact → StepKeeps (with_room cluster had step fact)
room_keeps cluster had step None keeps = keeps
room_keeps cluster had step (Some fact) keeps = by_both (is_without_room cluster had fact) (is_crowding had fact) (StepFault.NoRoom _ _)
  where
    by_both : (full crowds : Bool) (fault : StepFault) → StepKeeps (cond full (Err fault) (cond crowds (Err StepFault.Crowded) (Ok step)))
    by_both true crowds fault = tt
    by_both false true fault = tt
    by_both false false fault = keeps

checked_keeps : (cluster : Cluster) (had : List Fact) (made : Result NodeStep StepFault) → StepKeeps made → StepKeeps (checked_for_room cluster had made)
checked_keeps cluster had (Err fault) keeps = tt
checked_keeps cluster had (Ok step) keeps = room_keeps cluster had step step.fact keeps

pub step_keeps : (had : Here) (volatile : Volatile) (input : Input) → StepKeeps (step_of had volatile input)
step_keeps had volatile (Input.Message envelope) = by_own (is_own_message had.cluster had.me envelope)
  where
    by_own : (own : Bool) → StepKeeps (cond own (checked_for_room had.cluster had.facts (message_step had volatile envelope.from envelope.message)) (Err StepFault.Foreign))
    by_own true =
        checked_keeps had.cluster had.facts (message_step had volatile envelope.from envelope.message) (message_keeps had volatile envelope.from envelope.message)
    by_own false = tt
step_keeps had volatile Input.Tick = λ facts. refl
step_keeps had volatile Input.Sweep = λ facts. refl
step_keeps had volatile (Input.Read key) = λ facts. refl
step_keeps had volatile (Input.Begin parts) = begun_keeps had volatile parts (Manager.begin had.me (epoch_of had.facts) had.facts volatile.manager parts)

-- ---- runs

after_keeps : (node : NodeState) (made : Result NodeStep StepFault) → StepKeeps made → epoch_of (after_step node made).facts ≡ epoch_of node.facts
after_keeps node (Ok step) keeps = keeps node.facts
after_keeps node (Err fault) keeps = refl

-- in all of its run a node has one epoch
pub run_keeps : (cluster : Cluster) (me : ℕ) (node : NodeState) (inputs : List Input)
    → epoch_of (node_after node (run_of_inputs cluster me node inputs)).facts ≡ epoch_of node.facts
run_keeps cluster me node [] = refl
run_keeps cluster me node (input ∷ inputs) =
    let made = step_on cluster me node input in
    run_keeps cluster me (after_step node made) inputs ∙ after_keeps node made (step_keeps (here cluster me node.facts) node.volatile input)
