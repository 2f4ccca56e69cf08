-- No message is answered to the node's client.
use Rattle.std.proofs.Common.{◌≡◌, ℕ, ◌&&◌, List, refl, Option, Some, None, Result, Ok, Err, not}
use Rattle.std.proofs.lemmas.Bool.{cond_both}
use Rattle.mdcc_base.specs.declared.identifiers.Ballot.{Ballot}
use Rattle.mdcc_base.specs.declared.identifiers.TxId.{TxId}
use Rattle.mdcc_base.specs.declared.key.Key.{Key}
use Rattle.mdcc_option.specs.declared.choices.Cause.{Cause}
use Rattle.mdcc_option.specs.declared.choices.Choice.{Choice}
use Rattle.mdcc_option.specs.declared.choices.Mark.{Mark}
use Rattle.mdcc_option.specs.declared.choices.Outcome.{Outcome}
use Rattle.mdcc_option.specs.declared.cluster.Cluster.{Cluster}
use Rattle.mdcc_struct.specs.declared.options.Options.{Options}
use Rattle.mdcc_def_protocol.specs.Acceptor.{on_accept, on_prepare, on_propose}
use Rattle.mdcc_def_rules.specs.AcceptorRules.{accepted_step, ask_step_by, prepared_step, proposed_step, ask_step_after}
use Rattle.mdcc_def_protocol.specs.Facts.{vote_of, is_finished, is_settled, outcome_kept}
use Rattle.mdcc_def_protocol.specs.Leader.{claim_of_choice}
use Rattle.mdcc_def_rules.specs.LeaderRules.{lead_step_after, led_of, step_of_led}
use Rattle.mdcc_def_protocol.specs.Learner.{is_learned}
use Rattle.mdcc_def_protocol.specs.Manager
use Rattle.mdcc_def_protocol.specs.Manager.{act_on_cause, acted}
use Rattle.mdcc_def_rules.specs.ManagerRules.{acted_step, escalate_step, opened_step, undecided_step, voted_step, watched_step}
use Rattle.mdcc_def_rules.specs.Node.{message_step}
use Rattle.mdcc_def_protocol.specs.Recover
use Rattle.mdcc_def_rules.specs.Steps.{NodeStep, StepPart, nothing_done, sending}
use Rattle.mdcc_def_rules.specs.SyncRules.{outcome_step_by, sync_give_step_by}
use Rattle.mdcc_def_protocol.specs.Visible.{on_outcome, on_sync_give}
use Rattle.mdcc_def_protocol.specs.Volatile.{Managing, Volatile, is_opened}
use Rattle.mdcc_def_protocol.specs.declared.acceptor.AcceptAnswer.{AcceptAnswer}
use Rattle.mdcc_def_protocol.specs.declared.acceptor.PrepareAnswer.{PrepareAnswer}
use Rattle.mdcc_def_protocol.specs.declared.acceptor.ProposeAnswer.{ProposeAnswer}
use Rattle.mdcc_def_messages.specs.declared.facts.Fact.{Fact}
use Rattle.mdcc_def_protocol.specs.declared.leader.LeadFault.{LeadFault}
use Rattle.mdcc_def_protocol.specs.declared.manager.ManagerAct.{ManagerAct}
use Rattle.mdcc_def_messages.specs.declared.messages.Message.{Message}
use Rattle.mdcc_def_protocol.specs.declared.votes.Vote.{Vote}
use Rattle.mdcc_theorem_node_steps.proofs.Allowing.{OnStep}
use Rattle.mdcc_def_rules.specs.Here.{here}
use Rattle.mdcc_def_rules.specs.Messages.{to_one}

abbrev pub IsQuiet : NodeStep → Type 0
IsQuiet step = step.answer ≡ None

module _ (cluster : Cluster) (me : ℕ) (facts : List Fact) (volatile : Volatile) where
  quiet-proposed : (s : ℕ) (choice : Choice) (answer : ProposeAnswer) → IsQuiet (proposed_step me volatile s choice answer)
  quiet-proposed s choice (ProposeAnswer.Known outcome) = refl
  quiet-proposed s choice ProposeAnswer.Finished = refl
  quiet-proposed s choice (ProposeAnswer.Again ballot mark) = refl
  quiet-proposed s choice (ProposeAnswer.Vote mark) = refl
  quiet-proposed s choice (ProposeAnswer.Escalate cause) = refl

  quiet-undecided : (vote : Vote) → IsQuiet (undecided_step (here cluster me facts) volatile vote)
  quiet-undecided vote = refl

  quiet-opened : (vote : Vote) (o : Option Outcome) → IsQuiet (opened_step (here cluster me facts) volatile vote o)
  quiet-opened vote (Some outcome) = refl
  quiet-opened vote None = quiet-undecided vote

  quiet-watched : (vote : Vote) (o : Option (TxId × Outcome)) → IsQuiet (watched_step (here cluster me facts) volatile vote o)
  quiet-watched vote (Some decided) = refl
  quiet-watched vote None = refl

  quiet-voted : (vote : Vote) → IsQuiet (voted_step (here cluster me facts) volatile vote)
  quiet-voted vote =
      cond_both (is_settled facts vote.tx) (nothing_done volatile) _ IsQuiet (λ e. refl) (λ e.
      cond_both (is_opened volatile.manager vote.tx)
      (opened_step (here cluster me facts) volatile vote (Manager.would_decide cluster.quorums volatile.manager vote))
      (watched_step (here cluster me facts) volatile vote (Recover.would_decide cluster.quorums facts volatile.recovery vote))
      IsQuiet
      (λ f. quiet-opened vote (Manager.would_decide cluster.quorums volatile.manager vote))
      (λ f. quiet-watched vote (Recover.would_decide cluster.quorums facts volatile.recovery vote)))

  quiet-escalate : (s : ℕ) (key : Key) (tx : TxId) (cause : Cause) → IsQuiet (escalate_step (here cluster me facts) volatile s key tx cause)
  quiet-escalate s key tx cause =
      cond_both (is_opened volatile.manager tx && not (is_learned cluster.quorums volatile.manager.votes tx key))
      (acted volatile.manager (act_on_cause cluster.quorums volatile.manager s tx key cause)) (None, volatile.manager)
      (λ (r : Option ManagerAct × Managing). IsQuiet (acted_step me facts volatile r)) (λ e. refl) (λ e. refl)

  quiet-outcome : (tx : TxId) (o : Option Fact) → IsQuiet (outcome_step_by volatile tx o)
  quiet-outcome tx None = refl
  quiet-outcome tx (Some fact) = refl

  quiet-led : (r : Result StepPart LeadFault) → OnStep IsQuiet (step_of_led r)
  quiet-led (Ok led) = refl
  quiet-led (Err fault) = tt

  quiet-lead : (s : ℕ) (choice : Choice) (o : Option Outcome) → OnStep IsQuiet (lead_step_after (here cluster me facts) volatile s choice o)
  quiet-lead s choice (Some outcome) = refl
  quiet-lead s choice None =
      cond_both (is_finished facts choice.tx) (Ok (sending volatile (to_one me s (Message.Finished choice.tx)))) (step_of_led (led_of (here cluster me facts) volatile (claim_of_choice choice))) (OnStep IsQuiet)
      (λ e. refl) (λ e. quiet-led (led_of (here cluster me facts) volatile (claim_of_choice choice)))

  quiet-prepared : (l : ℕ) (key : Key) (version : ℕ) (ballot : Ballot) (answer : PrepareAnswer) → IsQuiet (prepared_step me facts volatile l key version ballot answer)
  quiet-prepared l key version ballot (PrepareAnswer.Refused promise) = refl
  quiet-prepared l key version ballot (PrepareAnswer.Again high) = refl
  quiet-prepared l key version ballot (PrepareAnswer.Promise high) = refl

  quiet-accepted : (l : ℕ) (key : Key) (version : ℕ) (ballot : Ballot) (options : Options) (answer : AcceptAnswer) → IsQuiet (accepted_step me facts volatile l key version ballot options answer)
  quiet-accepted l key version ballot options (AcceptAnswer.Refused promise) = refl
  quiet-accepted l key version ballot options (AcceptAnswer.Behind current) = refl
  quiet-accepted l key version ballot options AcceptAnswer.Older = refl
  quiet-accepted l key version ballot options AcceptAnswer.Vote = refl

  quiet-asked : (s : ℕ) (tx : TxId) (key : Key) (version : ℕ) (o : Option Outcome) → IsQuiet (ask_step_by me facts volatile s tx key version o)
  quiet-asked s tx key version (Some outcome) = refl
  quiet-asked s tx key version None =
      cond_both (is_finished facts tx) (sending volatile (to_one me s (Message.Finished tx))) (ask_step_after me volatile s tx key version (vote_of facts key version tx)) IsQuiet (λ e. refl) (λ e. by_vote (vote_of facts key version tx))
    where
      by_vote : (vote : Option (Ballot × Mark)) → IsQuiet (ask_step_after me volatile s tx key version vote)
      by_vote (Some vote) = refl
      by_vote None = refl

  quiet-given : (o : Option Fact) → IsQuiet (sync_give_step_by volatile o)
  quiet-given None = refl
  quiet-given (Some fact) = refl

  pub quiet-message : (s : ℕ) (message : Message) → OnStep IsQuiet (message_step (here cluster me facts) volatile s message)
  quiet-message s (Message.Propose choice) = quiet-proposed s choice (on_propose cluster facts choice)
  quiet-message s (Message.Voted key version ballot tx mark) =
      quiet-voted (record { from = s; key = key; version = version; ballot = ballot; tx = tx; mark = mark })
  quiet-message s (Message.Escalate key version tx cause) = quiet-escalate s key tx cause
  quiet-message s (Message.Lead choice) = quiet-lead s choice (outcome_kept facts choice.tx)
  quiet-message s (Message.Prepare key version through ballot) = quiet-prepared s key version ballot (on_prepare facts key version through ballot)
  quiet-message s (Message.Promise key version through ballot reported votes) = quiet-led _
  quiet-message s (Message.Accept key version ballot options) = quiet-accepted s key version ballot options (on_accept facts key version ballot options)
  quiet-message s (Message.Refused key version ballot promised) = refl
  quiet-message s (Message.Outcome tx outcome) = quiet-outcome tx (on_outcome facts tx outcome)
  quiet-message s (Message.Ask tx key version) = quiet-asked s tx key version (outcome_kept facts tx)
  quiet-message s (Message.SyncAsk key) = refl
  quiet-message s (Message.SyncGive key version item adds) =
      quiet-given (on_sync_give facts (record { key = key; version = version; item = item; adds = adds }))
  quiet-message s (Message.Mark centre epoch seq) = refl
  quiet-message s (Message.Finished tx) = refl
  quiet-message s (Message.ClientRead serial key) = refl
  quiet-message s (Message.ClientBegin serial parts) = refl
  quiet-message s (Message.ClientAnswer serial answer) = refl
