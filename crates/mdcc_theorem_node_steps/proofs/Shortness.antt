-- A step adds a fact of at most 8,964 bytes, or one that is no longer than the structure that it was sent.
use Rattle.std.proofs.Common.{◌≡◌, ℕ, ◌+◌, ◌*◌, ◌≤◌, ◌⊎◌, inl, inr, refl, Bool, true, false, List, [], ◌∷◌, length, Option, Some, None, Result, Ok, Err, arith, ◌||◌}
use Rattle.std.specs.List.{AllByRecursion}
use Rattle.std.proofs.lemmas.Bool.{cond_both}
use Rattle.mdcc_base.specs.Counts.{sum_over}
use Rattle.mdcc_base.specs.declared.identifiers.Ballot.{Ballot}
use Rattle.mdcc_base.specs.declared.identifiers.TxId.{TxId}
use Rattle.mdcc_base.specs.declared.key.Key.{Key}
use Rattle.mdcc_option.specs.declared.choices.Choice.{Choice}
use Rattle.mdcc_option.specs.declared.choices.Mark.{Mark}
use Rattle.mdcc_option.specs.declared.choices.Outcome.{Outcome}
use Rattle.mdcc_option.specs.declared.cluster.Cluster.{Cluster}
use Rattle.mdcc_option.specs.declared.faults.BeginFault.{BeginFault}
use Rattle.mdcc_option.specs.declared.items.Delta.{Delta}
use Rattle.mdcc_option.specs.declared.items.Part.{Part}
use Rattle.mdcc_struct.specs.declared.options.Options.{Options}
use Rattle.mdcc_def_protocol.specs.Acceptor.{on_accept, on_prepare, on_propose}
use Rattle.mdcc_def_protocol.specs.Belongs.{is_centre}
use Rattle.mdcc_def_rules.specs.AcceptorRules.{accepted_step, ask_step_by, prepared_step, proposed_step, ask_step_after}
use Rattle.mdcc_def_protocol.specs.Facts.{epoch_of, vote_of, votes_of, is_finished, is_settled, outcome_kept}
use Rattle.mdcc_def_rules.specs.LeaderRules.{lead_step_after, led_of, step_of_led}
use Rattle.mdcc_def_protocol.specs.Leader.{claim_of_choice}
use Rattle.mdcc_struct.specs.Maps.{value_of}
use Rattle.std.specs.Prelude.{filter, is_some, not}
use Rattle.mdcc_def_protocol.specs.declared.acceptor.AcceptAnswer.{AcceptAnswer}
use Rattle.mdcc_def_protocol.specs.declared.acceptor.PrepareAnswer.{PrepareAnswer}
use Rattle.mdcc_def_protocol.specs.declared.leader.LeadFault.{LeadFault}
use Rattle.mdcc_def_messages.specs.declared.messages.Envelope.{Envelope}
use Rattle.mdcc_def_messages.specs.Lengths.{choice_length, delta_length, entry_length, fact_length, message_length, offered_length}
use Rattle.mdcc_def_protocol.specs.Manager
use Rattle.mdcc_def_protocol.specs.Manager.{begin_with, begin_fault}
use Rattle.mdcc_def_rules.specs.ManagerRules.{begin_step_by, opened_step, undecided_step, voted_step, watched_step}
use Rattle.mdcc_def_protocol.specs.News.{is_news}
use Rattle.mdcc_def_rules.specs.Node.{checked_for_room, is_own_message, message_step, step_of}
use Rattle.mdcc_def_protocol.specs.Recover
use Rattle.mdcc_def_rules.specs.Steps.{NodeStep, StepPart, nothing_done, sending}
use Rattle.mdcc_def_rules.specs.SyncRules.{outcome_step, outcome_step_by, sync_give_step, sync_give_step_by}
use Rattle.mdcc_def_protocol.specs.Volatile.{Volatile, is_opened}
use Rattle.mdcc_def_messages.specs.WellFormed.{IsWellFormedFact, IsWellFormedMessage, IsWellFormedOffered}
use Rattle.mdcc_def_messages.specs.WellFormedParts.{IsWellFormedDelta, IsWellFormedEntry, IsWellFormedOf}
use Rattle.mdcc_def_protocol.specs.declared.acceptor.ProposeAnswer.{ProposeAnswer}
use Rattle.mdcc_def_messages.specs.declared.facts.Fact.{Fact}
use Rattle.mdcc_def_messages.specs.declared.messages.Message.{Message}
use Rattle.mdcc_def_rules.specs.declared.node.Input.{Input}
use Rattle.mdcc_def_rules.specs.declared.node.StepFault.{StepFault}
use Rattle.mdcc_def_protocol.specs.declared.visible.Give.{Give}
use Rattle.mdcc_def_protocol.specs.declared.votes.Vote.{Vote}
use Rattle.mdcc_theorem_encoding.proofs.Longest.{longest_choice}
use Rattle.mdcc_theorem_node_steps.specs.NodeInvariant.{HasRoom, IsNode, accept_length_in, accept_length}
use Rattle.mdcc_theorem_node_steps.proofs.Sending.{HasRoomIn, IsGoodSent}
use Rattle.mdcc_theorem_node_steps.specs.Inputs.{IsWellFormedInput}
use Rattle.mdcc_theorem_node_steps.proofs.Allowing.{OnStep, on_checked}
use Rattle.mdcc_theorem_node_steps.proofs.Dispatched.{brought-formed, fact-formed, sends-good}
use Rattle.mdcc_theorem_node_steps.proofs.Each.{each-weaker}
use Rattle.mdcc_theorem_node_steps.proofs.Structuring.{crowded-few}
use Rattle.mdcc_def_protocol.specs.Marks.{accepts_in, rejects_in}
use Rattle.mdcc_theorem_node_steps.proofs.Held.{HoldsIn, holds-at}
use Rattle.mdcc_theorem_node_steps.proofs.Stepping.{on_made}
use Rattle.mdcc_def_rules.specs.Here.{here}
use Rattle.mdcc_def_rules.specs.Messages.{to_one}

-- ---- the longest fact

pub longest-entry : (key : Key) (version : ℕ) (tx : TxId) (mark : Mark) → IsWellFormedEntry key version tx mark → entry_length mark ≤ 1120
longest-entry key version tx Mark.Reject w = omega arith
longest-entry key version tx (Mark.Accept choice) w = omega (arith, longest_choice choice w.choice_itself)

longest-entries : (key : Key) (version : ℕ) (options : Options) → AllByRecursion (λ e. IsWellFormedEntry key version e.0 e.1) options
    → sum_over (λ e. entry_length e.1) options ≤ 1120 * length options
longest-entries key version [] w = omega arith
longest-entries key version (e ∷ es) w = omega (arith, longest-entry key version e.0 e.1 w.0, longest-entries key version es w.1)

longest-offered : (key : Key) (version : ℕ) (offered : Option Choice) → IsWellFormedOffered key version offered → offered_length offered ≤ 1120
longest-offered key version None w = omega arith
longest-offered key version (Some choice) w = omega (arith, longest_choice choice w.choice_itself)

pub longest-choices : (tx : TxId) (choices : List Choice) → AllByRecursion (IsWellFormedOf tx) choices → sum_over choice_length choices ≤ 1119 * length choices
longest-choices tx [] w = omega arith
longest-choices tx (choice ∷ choices) w = omega (arith, longest_choice choice w.0.choice_itself, longest-choices tx choices w.1)

pub longest-deltas : (adds : List Delta) → AllByRecursion IsWellFormedDelta adds → sum_over delta_length adds ≤ 46 * length adds
longest-deltas [] w = omega arith
longest-deltas (delta ∷ adds) w = omega (arith, w.0.amounts.count.1, longest-deltas adds w.1)

-- a vote is on one choice alone
abbrev HasOneMark : Fact → Type 0
HasOneMark (Fact.Voted key version ballot options offered) = length options ≤ 1
HasOneMark _ = Unit {0}

longest-fact : (fact : Fact) → IsWellFormedFact fact → HasOneMark fact → fact_length fact ≤ 8964
longest-fact (Fact.Booted epoch) w one = omega arith
longest-fact (Fact.Floor origin era upto) w one = omega arith
longest-fact (Fact.Promised key low high ballot) w one = omega (arith, w.instance.key_itself.fits)
longest-fact (Fact.Voted key version ballot options offered) w one =
    omega (arith, w.instance.key_itself.fits, longest-entries key version options w.options_itself.each, longest-offered key version offered w.offered_itself, one)
longest-fact (Fact.Heard tx Outcome.Abort) w one = omega arith
longest-fact (Fact.Heard tx (Outcome.Commit choices)) w one =
    omega (arith, longest-choices tx choices w.outcome_itself.each, w.outcome_itself.count.1)
longest-fact (Fact.Adopted key version item adds) w one =
    omega (arith, w.instance.key_itself.fits, w.base.body_fits, w.base.count.1, longest-deltas adds w.each, w.few)

-- ---- the votes of a step

abbrev is_accept_message : Message → Bool
is_accept_message (Message.Accept key version ballot options) = true
is_accept_message _ = false

abbrev IsSingle : NodeStep → Type 0
IsSingle step = HoldsIn HasOneMark step.fact

-- a fact with one mark, or one of at most so many bytes
abbrev IsBrief : ℕ → Fact → Type 0
IsBrief n fact = HasOneMark fact ⊎ (fact_length fact ≤ n)

abbrev IsBriefStep : ℕ → NodeStep → Type 0
IsBriefStep n step = HoldsIn (IsBrief n) step.fact

brief : (n : ℕ) (o : Option Fact) → HoldsIn HasOneMark o → HoldsIn (IsBrief n) o
brief n None h = tt
brief n (Some fact) h = inl h

-- marks that are left out make a list no longer
kept-short : (test : TxId × Mark → Bool) (options : Options) → sum_over (λ e. entry_length e.1) (filter test options) ≤ sum_over (λ e. entry_length e.1) options
kept-short test [] = omega arith
kept-short test (e ∷ es) =
    let ih = kept-short test es in
    cond_both (test e) (e ∷ filter test es) (filter test es) (λ (m : Options). sum_over (λ e. entry_length e.1) m ≤ entry_length e.1 + sum_over (λ e. entry_length e.1) es) (λ f. omega arith) (λ f. omega arith)

module _ (cluster : Cluster) (me : ℕ) (facts : List Fact) (volatile : Volatile) where
  single-led : (r : Result StepPart LeadFault) → OnStep IsSingle (step_of_led r)
  single-led (Ok part) = tt
  single-led (Err fault) = tt

  single-lead : (s : ℕ) (choice : Choice) (o : Option Outcome) → OnStep IsSingle (lead_step_after (here cluster me facts) volatile s choice o)
  single-lead s choice (Some outcome) = tt
  single-lead s choice None =
      cond_both (is_finished facts choice.tx) (Ok (sending volatile (to_one me s (Message.Finished choice.tx)))) (step_of_led (led_of (here cluster me facts) volatile (claim_of_choice choice))) (OnStep IsSingle)
      (λ e. tt) (λ e. single-led (led_of (here cluster me facts) volatile (claim_of_choice choice)))

  single-prepared : (s : ℕ) (key : Key) (version : ℕ) (ballot : Ballot) (answer : PrepareAnswer) → IsSingle (prepared_step me facts volatile s key version ballot answer)
  single-prepared s key version ballot (PrepareAnswer.Refused promise) = tt
  single-prepared s key version ballot (PrepareAnswer.Again high) = tt
  single-prepared s key version ballot (PrepareAnswer.Promise high) = tt

  brief-accepted : (s : ℕ) (from to : ℕ) (key : Key) (version : ℕ) (ballot : Ballot) (options : Options) (answer : AcceptAnswer)
      → IsBriefStep (message_length (record { from = from; to = to; message = Message.Accept key version ballot options })) (accepted_step me facts volatile s key version ballot options answer)
  brief-accepted s from to key version ballot options (AcceptAnswer.Refused promise) = tt
  brief-accepted s from to key version ballot options (AcceptAnswer.Behind current) = tt
  brief-accepted s from to key version ballot options AcceptAnswer.Older = tt
  brief-accepted s from to key version ballot options AcceptAnswer.Vote =
      let kept = kept-short (λ e. not (is_some (value_of (votes_of facts key version ballot) e.0) || is_finished facts e.0)) options in
      inr (omega arith)

  on-brief : (n : ℕ) (r : Result NodeStep StepFault) → OnStep IsSingle r → OnStep (IsBriefStep n) r
  on-brief n (Ok step) h = brief n step.fact h
  on-brief n (Err fault) h = tt

  single-proposed : (s : ℕ) (choice : Choice) (answer : ProposeAnswer) → IsSingle (proposed_step me volatile s choice answer)
  single-proposed s choice (ProposeAnswer.Known outcome) = tt
  single-proposed s choice ProposeAnswer.Finished = tt
  single-proposed s choice (ProposeAnswer.Again ballot mark) = tt
  single-proposed s choice (ProposeAnswer.Vote mark) = omega arith
  single-proposed s choice (ProposeAnswer.Escalate cause) = tt

  single-undecided : (vote : Vote) → IsSingle (undecided_step (here cluster me facts) volatile vote)
  single-undecided vote = tt

  single-opened : (vote : Vote) (o : Option Outcome) → IsSingle (opened_step (here cluster me facts) volatile vote o)
  single-opened vote (Some outcome) = tt
  single-opened vote None = single-undecided vote

  single-watched : (vote : Vote) (o : Option (TxId × Outcome)) → IsSingle (watched_step (here cluster me facts) volatile vote o)
  single-watched vote (Some decided) = tt
  single-watched vote None = tt

  single-voted : (vote : Vote) → IsSingle (voted_step (here cluster me facts) volatile vote)
  single-voted vote =
      cond_both (is_settled facts vote.tx) (nothing_done volatile) _ IsSingle (λ e. tt) (λ e.
      cond_both (is_opened volatile.manager vote.tx)
      (opened_step (here cluster me facts) volatile vote (Manager.would_decide cluster.quorums volatile.manager vote))
      (watched_step (here cluster me facts) volatile vote (Recover.would_decide cluster.quorums facts volatile.recovery vote))
      IsSingle
      (λ f. single-opened vote (Manager.would_decide cluster.quorums volatile.manager vote))
      (λ f. single-watched vote (Recover.would_decide cluster.quorums facts volatile.recovery vote)))

  single-outcome : (tx : TxId) (outcome : Outcome) → IsSingle (outcome_step facts volatile tx outcome)
  single-outcome tx outcome =
      cond_both (is_settled facts tx) None (Some (Fact.Heard tx outcome)) (λ (o : Option Fact). IsSingle (outcome_step_by volatile tx o)) (λ e. tt) (λ e. tt)

  single-asked : (s : ℕ) (tx : TxId) (key : Key) (version : ℕ) (o : Option Outcome) → IsSingle (ask_step_by me facts volatile s tx key version o)
  single-asked s tx key version (Some outcome) = tt
  single-asked s tx key version None =
      cond_both (is_finished facts tx) (sending volatile (to_one me s (Message.Finished tx))) (ask_step_after me volatile s tx key version (vote_of facts key version tx)) IsSingle (λ e. tt) (λ e. by_vote (vote_of facts key version tx))
    where
      by_vote : (vote : Option (Ballot × Mark)) → IsSingle (ask_step_after me volatile s tx key version vote)
      by_vote (Some vote) = tt
      by_vote None = tt

  single-give : (give : Give) → IsSingle (sync_give_step facts volatile give)
  single-give give =
      cond_both (is_news facts give.key give.version give.adds) (Some (Fact.Adopted give.key give.version give.item give.adds)) None (λ (o : Option Fact). IsSingle (sync_give_step_by volatile o))
      (λ e. tt) (λ e. tt)

  single-begin : (parts : List Part) (fault : Option (Key × BeginFault)) → IsSingle (begin_step_by (here cluster me facts) volatile parts (begin_with me (epoch_of facts) volatile.manager parts fault))
  single-begin parts (Some fault) = tt
  single-begin parts None = tt

  single-message : (s : ℕ) (message : Message) → (is_accept_message message ≡ false) → OnStep IsSingle (message_step (here cluster me facts) volatile s message)
  single-message s (Message.Propose choice) e = single-proposed s choice (on_propose cluster facts choice)
  single-message s (Message.Voted key version ballot tx mark) e =
      single-voted (record { from = s; key = key; version = version; ballot = ballot; tx = tx; mark = mark })
  single-message s (Message.Escalate key version tx cause) e = tt
  single-message s (Message.Lead choice) e = single-lead s choice (outcome_kept facts choice.tx)
  single-message s (Message.Prepare key version through ballot) e = single-prepared s key version ballot (on_prepare facts key version through ballot)
  single-message s (Message.Promise key version through ballot reported votes) e = single-led _
  single-message s (Message.Accept key version ballot options) e = absurd (cc)
  single-message s (Message.Refused key version ballot promised) e = tt
  single-message s (Message.Outcome tx outcome) e = single-outcome tx outcome
  single-message s (Message.Ask tx key version) e = single-asked s tx key version (outcome_kept facts tx)
  single-message s (Message.SyncAsk key) e = tt
  single-message s (Message.SyncGive key version item adds) e = single-give (record { key = key; version = version; item = item; adds = adds })
  single-message s (Message.Mark centre epoch seq) e = tt
  single-message s (Message.Finished tx) e = tt
  single-message s (Message.ClientRead serial key) e = tt
  single-message s (Message.ClientBegin serial parts) e = tt
  single-message s (Message.ClientAnswer serial answer) e = tt

  pub brief-message : (s : ℕ) (envelope : Envelope) → OnStep (IsBriefStep (accept_length envelope.message)) (message_step (here cluster me facts) volatile s envelope.message)
  brief-message s envelope = by_message envelope.message refl
    where
      other : (message : Message) → is_accept_message message ≡ false → OnStep (IsBriefStep (accept_length envelope.message)) (message_step (here cluster me facts) volatile s message)
      other message e = on-brief (accept_length envelope.message) (message_step (here cluster me facts) volatile s message) (single-message s message e)

      by_message : (message : Message) → envelope.message ≡ message → OnStep (IsBriefStep (accept_length envelope.message)) (message_step (here cluster me facts) volatile s message)
      by_message (Message.Accept key version ballot options) e =
          rw e (brief-accepted s envelope.from envelope.to key version ballot options (on_accept facts key version ballot options))
      by_message (Message.Propose choice) e = other (Message.Propose choice) refl
      by_message (Message.Voted key version ballot tx mark) e = other (Message.Voted key version ballot tx mark) refl
      by_message (Message.Escalate key version tx cause) e = other (Message.Escalate key version tx cause) refl
      by_message (Message.Lead choice) e = other (Message.Lead choice) refl
      by_message (Message.Prepare key version through ballot) e = other (Message.Prepare key version through ballot) refl
      by_message (Message.Promise key version through ballot reported votes) e = other (Message.Promise key version through ballot reported votes) refl
      by_message (Message.Refused key version ballot promised) e = other (Message.Refused key version ballot promised) refl
      by_message (Message.Outcome tx outcome) e = other (Message.Outcome tx outcome) refl
      by_message (Message.Ask tx key version) e = other (Message.Ask tx key version) refl
      by_message (Message.SyncAsk key) e = other (Message.SyncAsk key) refl
      by_message (Message.SyncGive key version item adds) e = other (Message.SyncGive key version item adds) refl
      by_message (Message.Mark centre epoch seq) e = other (Message.Mark centre epoch seq) refl
      by_message (Message.Finished tx) e = other (Message.Finished tx) refl
      by_message (Message.ClientRead serial key) e = other (Message.ClientRead serial key) refl
      by_message (Message.ClientBegin serial parts) e = other (Message.ClientBegin serial parts) refl
      by_message (Message.ClientAnswer serial answer) e = other (Message.ClientAnswer serial answer) refl

  brief-step : (input : Input) → OnStep (IsBriefStep (accept_length_in input)) (step_of (here cluster me facts) volatile input)
  brief-step (Input.Message envelope) =
      cond_both (is_own_message cluster me envelope) (checked_for_room cluster facts (message_step (here cluster me facts) volatile envelope.from envelope.message)) (Err StepFault.Foreign) (OnStep (IsBriefStep (accept_length envelope.message)))
      (λ e. on_checked (IsBriefStep (accept_length envelope.message)) (IsBriefStep (accept_length envelope.message)) cluster facts (message_step (here cluster me facts) volatile envelope.from envelope.message) (λ step h room. h)
      (brief-message envelope.from envelope))
      (λ e. tt)
  brief-step Input.Tick = tt
  brief-step Input.Sweep = tt
  brief-step (Input.Read key) = tt
  brief-step (Input.Begin parts) = brief 0 (begin_step_by (here cluster me facts) volatile parts (begin_with me (epoch_of facts) volatile.manager parts (begin_fault facts volatile.manager parts))).fact (single-begin parts (begin_fault facts volatile.manager parts))

-- ---- the fact that a step adds

in-frame : (n : ℕ) → n ≤ 8964 → n ≤ 2097152
in-frame n h = omega arith

within : (n m : ℕ) → n ≤ m → m ≤ 2097152 → n ≤ 2097152
within n m h k = omega arith

pub fact-short : (cluster : Cluster) (me : ℕ) (facts : List Fact) (volatile : Volatile) (input : Input) (step : NodeStep) (fact : Fact)
    → accept_length_in input ≤ 2097152
    → IsNode cluster me facts volatile → IsWellFormedInput input
    → step_of (here cluster me facts) volatile input ≡ Ok step → step.fact ≡ Some fact
    → fact_length fact ≤ 2097152
fact-short cluster me facts volatile input step fact few node w made is =
    let formed = fact-formed cluster me facts volatile input step node w made fact is in
    let short = holds-at (IsBrief (accept_length_in input)) step.fact fact (on_made (IsBriefStep (accept_length_in input)) _ step (brief-step cluster me facts volatile input) made) is in
    elim short [
      | inl one ↦ in-frame (fact_length fact) (longest-fact fact formed one)
      | inr same ↦ within (fact_length fact) (accept_length_in input) same few
    ]

pub brought-fits : (cluster : Cluster) (me : ℕ) (facts : List Fact) (volatile : Volatile) (s : ℕ) (message : Message) (step : NodeStep) (fact : Fact)
    → accept_length message ≤ 2097152
    → IsNode cluster me facts volatile → is_centre cluster s ≡ true → IsWellFormedMessage message
    → message_step (here cluster me facts) volatile s message ≡ Ok step → step.fact ≡ Some fact
    → IsWellFormedFact fact × (fact_length fact ≤ 2097152)
brought-fits cluster me facts volatile s message step fact few node from w made is =
    let formed = brought-formed cluster me facts volatile s message step fact node from w made is in
    let envelope : Envelope = record { from = s; to = s; message = message } in
    let short = holds-at (IsBrief (accept_length message)) step.fact fact (on_made (IsBriefStep (accept_length message)) _ step (brief-message cluster me facts volatile s envelope) made) is in (
      formed,
      elim short [
        | inl one ↦ in-frame (fact_length fact) (longest-fact fact formed one)
        | inr same ↦ within (fact_length fact) (accept_length message) same few
      ],
    )

-- ---- the structures that a step sends

pub entries-long : (key : Key) (version : ℕ) (options : Options) → AllByRecursion (λ e. IsWellFormedEntry key version e.0 e.1) options
    → sum_over (λ e. entry_length e.1) options ≤ 1120 * length (accepts_in options) + 10 * length (rejects_in options)
entries-long key version [] w = omega arith
entries-long key version ((tx, Mark.Reject) ∷ es) w = omega (arith, entries-long key version es w.1)
entries-long key version ((tx, Mark.Accept choice) ∷ es) w = omega (arith, longest_choice choice w.0.choice_itself, entries-long key version es w.1)

-- at most 1,024 accepted and 32,768 rejected marks
sent-short : (e : Envelope) → IsGoodSent e → accept_length e.message ≤ 1474618
sent-short e h = by_message e.message h.0.message h.1
  where
    by_message : (message : Message) → IsWellFormedMessage message → HasRoomIn message → accept_length message ≤ 1474618
    by_message (Message.Accept key version ballot options) w r =
        let few = crowded-few options r in
        omega (arith, w.instance.key_itself.fits, entries-long key version options w.options_itself.each, few.0, few.1)
    by_message (Message.Propose choice) w r = omega arith
    by_message (Message.Voted key version ballot tx mark) w r = omega arith
    by_message (Message.Escalate key version tx cause) w r = omega arith
    by_message (Message.Lead choice) w r = omega arith
    by_message (Message.Prepare key version through ballot) w r = omega arith
    by_message (Message.Promise key version through ballot reported votes) w r = omega arith
    by_message (Message.Refused key version ballot promised) w r = omega arith
    by_message (Message.Outcome tx outcome) w r = omega arith
    by_message (Message.Ask tx key version) w r = omega arith
    by_message (Message.SyncAsk key) w r = omega arith
    by_message (Message.SyncGive key version item adds) w r = omega arith
    by_message (Message.Mark centre epoch seq) w r = omega arith
    by_message (Message.Finished tx) w r = omega arith
    by_message (Message.ClientRead serial key) w r = omega arith
    by_message (Message.ClientBegin serial parts) w r = omega arith
    by_message (Message.ClientAnswer serial answer) w r = omega arith

pub sends-short : (cluster : Cluster) (me : ℕ) (facts : List Fact) (volatile : Volatile) (input : Input) (step : NodeStep)
    → HasRoom facts → IsNode cluster me facts volatile → IsWellFormedInput input
    → step_of (here cluster me facts) volatile input ≡ Ok step → AllByRecursion (λ e. accept_length e.message ≤ 1474618) step.sends
sends-short cluster me facts volatile input step room node w made =
    each-weaker IsGoodSent (λ e. accept_length e.message ≤ 1474618) step.sends sent-short (sends-good cluster me facts volatile input step node w made room)
