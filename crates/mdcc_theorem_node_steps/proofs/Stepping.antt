-- Each step of a booted node adds an allowed fact, or none.
use Rattle.std.proofs.Common.{◌≡◌, ℕ, ◌==◌, ◌&&◌, ◌+◌, ◌<◌, true, false, List, ◌∷◌, refl, subst, Option, Some, None, Result, Ok, Err, nat_lt, arith}
use Rattle.std.proofs.lemmas.Bool.{and_parts, cond_both, eqb-true, lt-ltb}
use Rattle.mdcc_base.specs.Counts.{number_of}
use Rattle.mdcc_base.specs.declared.identifiers.Ballot.{Ballot}
use Rattle.mdcc_base.specs.declared.identifiers.TxId.{TxId}
use Rattle.mdcc_base.specs.declared.key.Key.{Key}
use Rattle.mdcc_option.specs.declared.choices.Choice.{Choice}
use Rattle.mdcc_option.specs.declared.choices.Mark.{Mark}
use Rattle.mdcc_option.specs.declared.choices.Outcome.{Outcome}
use Rattle.mdcc_option.specs.declared.cluster.Cluster.{Cluster}
use Rattle.mdcc_option.specs.declared.faults.BeginFault.{BeginFault}
use Rattle.mdcc_option.specs.declared.items.Part.{Part}
use Rattle.mdcc_def_rules.specs.AcceptorRules.{ask_step_by, ask_step_after}
use Rattle.mdcc_def_ledger.specs.BootTest.{is_allowed_fact, are_allowed_facts}
use Rattle.mdcc_def_ledger.specs.AllowedFacts.{is_booted}
use Rattle.mdcc_def_protocol.specs.Belongs.{adds_belong, ballot_belongs, fact_belongs, item_belongs, mark_belongs, message_belongs, options_belong, outcome_belongs, tx_belongs}
use Rattle.mdcc_def_protocol.specs.Facts.{epoch_of, vote_of, is_finished, outcome_kept}
use Rattle.mdcc_def_protocol.specs.Leader.{claim_of_choice}
use Rattle.mdcc_def_rules.specs.LeaderRules.{lead_step_after, led_of, step_of_led}
use Rattle.mdcc_def_protocol.specs.Manager.{begin_with, begin_fault}
use Rattle.mdcc_def_rules.specs.ManagerRules.{begin_step_by}
use Rattle.mdcc_def_protocol.specs.News.{is_crowding}
use Rattle.mdcc_def_rules.specs.Node.{checked_for_room, is_own_message, message_step, step_of}
use Rattle.mdcc_def_rules.specs.Steps.{NodeStep, StepPart, sending}
use Rattle.mdcc_def_protocol.specs.Volatile.{Volatile}
use Rattle.mdcc_def_messages.specs.WellFormed.{IsWellFormedMessage}
use Rattle.mdcc_def_messages.specs.declared.facts.Fact.{Fact}
use Rattle.mdcc_def_protocol.specs.declared.leader.LeadFault.{LeadFault}
use Rattle.mdcc_def_messages.specs.declared.messages.Message.{Message}
use Rattle.mdcc_def_rules.specs.declared.node.Input.{Input}
use Rattle.mdcc_def_rules.specs.declared.node.StepFault.{StepFault}
use Rattle.mdcc_theorem_node_steps.specs.AddedFacts.{AreVotesOf, IsVoteOf}
use Rattle.mdcc_theorem_node_steps.specs.Inputs.{IsWellFormedInput}
use Rattle.mdcc_theorem_node_steps.proofs.Adding.{accept-allowed, classic-not_fast, give-allowed, outcome-allowed, prepare-allowed}
use Rattle.mdcc_theorem_node_steps.proofs.Allowing.{IsAllowedIf, OnStep, on_checked}
use Rattle.mdcc_theorem_node_steps.proofs.Counted.{HoldsOfInput, HoldsOfVote, votes-step}
use Rattle.mdcc_theorem_node_steps.proofs.Proposing.{propose-allowed}
use Rattle.mdcc_theorem_node_steps.proofs.Voting.{voted-allowed}
use Rattle.mdcc_def_rules.specs.Here.{here}
use Rattle.mdcc_def_rules.specs.Messages.{to_one}

module _ (cluster : Cluster) (me : ℕ) (facts : List Fact) (volatile : Volatile) (turn : are_allowed_facts cluster facts ≡ true) (booted : nat_lt 0 (epoch_of facts) ≡ true) (votes : AreVotesOf cluster volatile) where
  abbrev pub IsFair : NodeStep → Type 0
  IsFair step = IsAllowedIf cluster facts step.fact

  fair-led : (r : Result StepPart LeadFault) → OnStep IsFair (step_of_led r)
  fair-led (Ok led) = tt
  fair-led (Err fault) = tt

  fair-lead : (s : ℕ) (choice : Choice) (o : Option Outcome) → OnStep IsFair (lead_step_after (here cluster me facts) volatile s choice o)
  fair-lead s choice (Some outcome) = tt
  fair-lead s choice None =
      cond_both (is_finished facts choice.tx) (Ok (sending volatile (to_one me s (Message.Finished choice.tx)))) (step_of_led (led_of (here cluster me facts) volatile (claim_of_choice choice))) (OnStep IsFair)
      (λ e. tt) (λ e. fair-led (led_of (here cluster me facts) volatile (claim_of_choice choice)))

  fair-asked : (s : ℕ) (tx : TxId) (key : Key) (version : ℕ) (o : Option Outcome) → IsFair (ask_step_by me facts volatile s tx key version o)
  fair-asked s tx key version (Some outcome) = tt
  fair-asked s tx key version None =
      cond_both (is_finished facts tx) (sending volatile (to_one me s (Message.Finished tx))) (ask_step_after me volatile s tx key version (vote_of facts key version tx)) IsFair (λ e. tt) (λ e. by_vote (vote_of facts key version tx))
    where
      by_vote : (vote : Option (Ballot × Mark)) → IsFair (ask_step_after me volatile s tx key version vote)
      by_vote (Some vote) = tt
      by_vote None = tt

  fair-begin : (parts : List Part) (fault : Option (Key × BeginFault))
      → IsFair (begin_step_by (here cluster me facts) volatile parts (begin_with me (epoch_of facts) volatile.manager parts fault))
  fair-begin parts (Some fault) = tt
  fair-begin parts None = tt

  fair-message : (s : ℕ) (message : Message) → message_belongs cluster message ≡ true → IsWellFormedMessage message
      → OnStep IsFair (message_step (here cluster me facts) volatile s message)
  fair-message s (Message.Propose choice) h w = propose-allowed cluster me facts volatile s choice booted h
  fair-message s (Message.Voted key version ballot tx mark) h w =
      let parts = and_parts (ballot_belongs cluster ballot && tx_belongs cluster tx) (mark_belongs cluster mark) h in
      voted-allowed cluster me facts volatile (record { from = s; key = key; version = version; ballot = ballot; tx = tx; mark = mark }) booted votes
      (and_parts (ballot_belongs cluster ballot) (tx_belongs cluster tx) parts.0).1 parts.1
  fair-message s (Message.Escalate key version tx cause) h w = tt
  fair-message s (Message.Lead choice) h w = fair-lead s choice (outcome_kept facts choice.tx)
  fair-message s (Message.Prepare key version through ballot) h w =
      prepare-allowed cluster me facts volatile s key version through ballot booted h w.classic w.not_below
  fair-message s (Message.Promise key version through ballot reported votes) h w = fair-led _
  fair-message s (Message.Accept key version ballot options) h w =
      let parts = and_parts (ballot_belongs cluster ballot) (options_belong cluster options) h in
      accept-allowed cluster me facts volatile s key version ballot options booted (classic-not_fast ballot w.classic) parts.0 parts.1 w.options_itself.ascending
  fair-message s (Message.Refused key version ballot promised) h w = tt
  fair-message s (Message.Outcome tx outcome) h w =
      let parts = and_parts (tx_belongs cluster tx) (outcome_belongs cluster outcome) h in
      outcome-allowed cluster facts volatile tx outcome booted parts.0 parts.1
  fair-message s (Message.Ask tx key version) h w = fair-asked s tx key version (outcome_kept facts tx)
  fair-message s (Message.SyncAsk key) h w = tt
  fair-message s (Message.SyncGive key version item adds) h w =
      let parts = and_parts (item_belongs cluster item) (adds_belong cluster adds) h in
      give-allowed cluster facts volatile (record { key = key; version = version; item = item; adds = adds }) booted parts.0 parts.1
  fair-message s (Message.Mark centre epoch seq) h w = tt
  fair-message s (Message.Finished tx) h w = tt
  fair-message s (Message.ClientRead serial key) h w = tt
  fair-message s (Message.ClientBegin serial parts) h w = tt
  fair-message s (Message.ClientAnswer serial answer) h w = tt

  -- the fact of a step is allowed
  abbrev pub IsAllowedAfter : NodeStep → Type 0
  IsAllowedAfter step = (fact : Fact) → step.fact ≡ Some fact → is_allowed_fact cluster facts fact ≡ true

  allowed-room : (o : Option Fact) → IsAllowedIf cluster facts o → ((fact : Fact) → o ≡ Some fact → is_crowding facts fact ≡ false)
      → (fact : Fact) → o ≡ Some fact → is_allowed_fact cluster facts fact ≡ true
  allowed-room None h room fact e = absurd (cc)
  allowed-room (Some new) h room fact e = let same : new ≡ fact = cc in rw (← same) (h (room new refl))

  pub step-allowed : (input : Input) → IsWellFormedInput input → OnStep IsAllowedAfter (step_of (here cluster me facts) volatile input)
  step-allowed (Input.Message envelope) w =
      cond_both (is_own_message cluster me envelope) (checked_for_room cluster facts (message_step (here cluster me facts) volatile envelope.from envelope.message)) (Err StepFault.Foreign) (OnStep IsAllowedAfter)
      (λ e. on_checked IsFair IsAllowedAfter cluster facts (message_step (here cluster me facts) volatile envelope.from envelope.message) (λ step h room. allowed-room step.fact h room)
      (fair-message envelope.from envelope.message (and_parts _ _ e).1 w.message))
      (λ e. tt)
  step-allowed Input.Tick w = λ fact e. absurd (cc)
  step-allowed Input.Sweep w = λ fact e. absurd (cc)
  step-allowed (Input.Read key) w = λ fact e. absurd (cc)
  step-allowed (Input.Begin parts) w = allowed-room _ (fair-begin parts (begin_fault facts volatile.manager parts)) (begun-room parts (begin_fault facts volatile.manager parts))
    where
      begun-room : (parts : List Part) (fault : Option (Key × BeginFault)) (fact : Fact)
          → (begin_step_by (here cluster me facts) volatile parts (begin_with me (epoch_of facts) volatile.manager parts fault)).fact ≡ Some fact → is_crowding facts fact ≡ false
      begun-room parts (Some fault) fact e = absurd (cc)
      begun-room parts None fact e = absurd (cc)

-- what holds of a step that is made
pub on_made : (P : NodeStep → Type 0) (r : Result NodeStep StepFault) (step : NodeStep) → OnStep P r → r ≡ Ok step → P step
on_made P r step h e = subst (OnStep P) e h

vote-of : (cluster : Cluster) (s : ℕ) (message : Message) → message_belongs cluster message ≡ true → HoldsOfVote (IsVoteOf cluster) s message
vote-of cluster s (Message.Voted key version ballot tx mark) h = (and_parts (ballot_belongs cluster ballot && tx_belongs cluster tx) (mark_belongs cluster mark) h).1
vote-of cluster s (Message.Propose choice) h = tt
vote-of cluster s (Message.Escalate key version tx cause) h = tt
vote-of cluster s (Message.Lead choice) h = tt
vote-of cluster s (Message.Prepare key version through ballot) h = tt
vote-of cluster s (Message.Promise key version through ballot reported votes) h = tt
vote-of cluster s (Message.Accept key version ballot options) h = tt
vote-of cluster s (Message.Refused key version ballot promised) h = tt
vote-of cluster s (Message.Outcome tx outcome) h = tt
vote-of cluster s (Message.Ask tx key version) h = tt
vote-of cluster s (Message.SyncAsk key) h = tt
vote-of cluster s (Message.SyncGive key version item adds) h = tt
vote-of cluster s (Message.Mark centre epoch seq) h = tt
vote-of cluster s (Message.Finished tx) h = tt
vote-of cluster s (Message.ClientRead serial key) h = tt
vote-of cluster s (Message.ClientBegin serial parts) h = tt
vote-of cluster s (Message.ClientAnswer serial answer) h = tt

vote-told : (cluster : Cluster) (me : ℕ) (facts : List Fact) (input : Input) → HoldsOfInput (IsVoteOf cluster) cluster me facts input
vote-told cluster me facts (Input.Message envelope) = vote-of cluster envelope.from envelope.message
vote-told cluster me facts Input.Tick = tt
vote-told cluster me facts Input.Sweep = tt
vote-told cluster me facts (Input.Read key) = tt
vote-told cluster me facts (Input.Begin parts) = tt

-- the counted votes stay of the cluster
pub votes-stay : (cluster : Cluster) (me : ℕ) (facts : List Fact) (volatile : Volatile) (input : Input) (step : NodeStep) → AreVotesOf cluster volatile
    → step_of (here cluster me facts) volatile input ≡ Ok step → AreVotesOf cluster step.after
votes-stay cluster me facts volatile input step votes e =
    let h = on_made _ _ step (votes-step (IsVoteOf cluster) cluster me facts volatile (votes.manager, votes.recovery) input (vote-told cluster me facts input)) e in
    record { manager = h.0; recovery = h.1 }

-- a fact that is allowed leaves a booted node booted
pub booted-more : (facts : List Fact) (fact : Fact) → nat_lt 0 (epoch_of facts) ≡ true → ((epoch : ℕ) → fact ≡ Fact.Booted epoch → 0 < epoch)
    → nat_lt 0 (epoch_of (fact ∷ facts)) ≡ true
booted-more facts (Fact.Booted epoch) h some = lt-ltb 0 epoch (some epoch refl)
booted-more facts (Fact.Promised key low high ballot) h some = h
booted-more facts (Fact.Voted key version ballot options offered) h some = h
booted-more facts (Fact.Heard tx outcome) h some = h
booted-more facts (Fact.Floor origin era upto) h some = h
booted-more facts (Fact.Adopted key version item adds) h some = h

pub made-allowed : (cluster : Cluster) (me : ℕ) (facts : List Fact) (volatile : Volatile) (input : Input) (step : NodeStep) (fact : Fact)
    → are_allowed_facts cluster facts ≡ true → nat_lt 0 (epoch_of facts) ≡ true → AreVotesOf cluster volatile → IsWellFormedInput input
    → step_of (here cluster me facts) volatile input ≡ Ok step → step.fact ≡ Some fact → is_allowed_fact cluster facts fact ≡ true
made-allowed cluster me facts volatile input step fact turn booted votes w made is =
    on_made (IsAllowedAfter cluster me facts volatile turn booted votes) _ step (step-allowed cluster me facts volatile turn booted votes input w) made fact is

-- an epoch that is allowed is not 0
pub some_epoch : (cluster : Cluster) (facts : List Fact) (fact : Fact) → is_allowed_fact cluster facts fact ≡ true → (epoch : ℕ) → fact ≡ Fact.Booted epoch → 0 < epoch
some_epoch cluster facts fact h epoch e =
    let allowed : is_allowed_fact cluster facts (Fact.Booted epoch) ≡ true = rw e at h in
    let count = number_of is_booted facts in
    let same : epoch ≡ count + 1 = eqb-true epoch (count + 1) (and_parts (fact_belongs cluster (Fact.Booted epoch) && true) (epoch == count + 1) allowed).1 in
    omega arith
