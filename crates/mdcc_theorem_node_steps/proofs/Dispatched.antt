-- Each step of a node is well-formed.
use Rattle.std.proofs.Common.{◌≡◌, ℕ, ◌==◌, ◌&&◌, ◌<◌, ◌^◌, true, List, refl, Option, Some, None, Result, Ok, Err, not}
use Rattle.std.specs.Int.{IsInRange}
use Rattle.std.specs.List.{AllByRecursion}
use Rattle.std.proofs.lemmas.Bool.{and_from, and_parts, cond_both}
use Rattle.mdcc_base.specs.AreQuorums.{AreQuorums}
use Rattle.mdcc_base.specs.TxId.{tx_eq}
use Rattle.mdcc_base.specs.declared.identifiers.Ballot.{Ballot}
use Rattle.mdcc_base.specs.declared.identifiers.TxId.{TxId}
use Rattle.mdcc_base.specs.declared.key.Key.{Key}
use Rattle.mdcc_option.specs.declared.choices.Choice.{Choice}
use Rattle.mdcc_option.specs.declared.choices.Mark.{Mark}
use Rattle.mdcc_option.specs.declared.choices.Outcome.{Outcome}
use Rattle.mdcc_option.specs.declared.cluster.Cluster.{Cluster}
use Rattle.mdcc_option.specs.declared.items.Part.{Part}
use Rattle.mdcc_def_protocol.specs.Acceptor.{on_propose}
use Rattle.mdcc_def_rules.specs.AcceptorRules.{ask_step, ask_step_by, proposed_step, ask_step_after}
use Rattle.mdcc_def_ledger.specs.BootTest.{are_allowed_facts, is_allowed_fact}
use Rattle.mdcc_def_protocol.specs.Belongs.{is_centre, message_belongs}
use Rattle.mdcc_def_protocol.specs.Facts.{vote_of, is_finished, is_settled, outcome_kept}
use Rattle.mdcc_base.specs.Counts.{sum_over}
use Rattle.mdcc_def_messages.specs.Lengths.{fact_length}
use Rattle.mdcc_def_protocol.specs.Manager.{begin_fault}
use Rattle.mdcc_def_rules.specs.ManagerRules.{begin_step}
use Rattle.mdcc_def_protocol.specs.News.{is_news}
use Rattle.mdcc_def_rules.specs.Node.{checked_for_room, is_own_message, message_step, step_of}
use Rattle.mdcc_def_rules.specs.Steps.{NodeStep, nothing_done, with_new, sending}
use Rattle.mdcc_def_rules.specs.SyncRules.{outcome_step, outcome_step_by, sync_give_step, sync_give_step_by}
use Rattle.mdcc_def_rules.specs.TickRules.{tick_step}
use Rattle.mdcc_def_protocol.specs.Volatile.{Volatile}
use Rattle.mdcc_def_messages.specs.WellFormed.{IsWellFormedEnvelope, IsWellFormedFact, IsWellFormedMessage}
use Rattle.mdcc_def_messages.specs.WellFormedParts.{IsWellFormedChoice, IsWellFormedGiven, IsWellFormedHeard, IsWellFormedInstance, IsWellFormedTx}
use Rattle.mdcc_def_protocol.specs.declared.acceptor.ProposeAnswer.{ProposeAnswer}
use Rattle.mdcc_def_messages.specs.declared.facts.Fact.{Fact}
use Rattle.mdcc_def_protocol.specs.declared.leader.Promise.{Promise}
use Rattle.mdcc_def_messages.specs.declared.messages.Envelope.{Envelope}
use Rattle.mdcc_def_messages.specs.declared.messages.Message.{Message}
use Rattle.mdcc_def_rules.specs.declared.node.Input.{Input}
use Rattle.mdcc_def_rules.specs.declared.node.StepFault.{StepFault}
use Rattle.mdcc_def_protocol.specs.declared.visible.Give.{Give}
use Rattle.mdcc_theorem_node_steps.specs.NodeInvariant.{IsNode}
use Rattle.mdcc_theorem_node_steps.specs.Inputs.{AreWellFormedParts, IsWellFormedInput}
use Rattle.mdcc_theorem_node_steps.specs.WellFormedVolatile.{AreNodeFacts, IsWellFormedLead, IsWellFormedOpen, IsWellFormedVolatile, IsWellFormedVoteKept}
use Rattle.mdcc_theorem_node_steps.proofs.Allowing.{OnStep, on_checked}
use Rattle.mdcc_theorem_node_steps.proofs.Counted.{HoldsOfInput, HoldsOfVote, votes-step}
use Rattle.mdcc_theorem_node_steps.proofs.Each.{each-kept, each-weaker}
use Rattle.mdcc_theorem_node_steps.proofs.Formed.{IsFormed, IsFormedKept, begin-formed, escalate-formed, nothing-formed, voted-formed}
use Rattle.mdcc_theorem_node_steps.proofs.Held.{HoldsIn, holds-at}
use Rattle.mdcc_theorem_node_steps.proofs.Led.{lead-step-formed, led-here, promise-step-formed, refused-step-formed}
use Rattle.mdcc_theorem_node_steps.proofs.Promising.{accept-formed, prepare-formed, prepare-kept}
use Rattle.mdcc_theorem_node_steps.proofs.Proposed.{IsFormedAnswer, formed-answer, proposed-fact, proposed-sent}
use Rattle.mdcc_theorem_node_steps.proofs.Sending.{HasRoomIn, IsGoodSent, centre-range, sent-give, sent-one}
use Rattle.mdcc_theorem_node_steps.proofs.Stepping.{booted-more, made-allowed, on_made, some_epoch, votes-stay}
use Rattle.mdcc_theorem_node_steps.proofs.Ticked.{formed-tick}
use Rattle.mdcc_theorem_node_steps.proofs.Told.{IsWellFormedVoteAt, vote-told, kept-told}
use Rattle.mdcc_def_rules.specs.Here.{here}
use Rattle.mdcc_def_rules.specs.Messages.{to_one}

-- a choice and the answer to its proposal
abbrev IsFormedMessageOf : Choice → ProposeAnswer → Type 0
IsFormedMessageOf choice answer = IsWellFormedChoice choice × IsFormedAnswer choice answer

proposed-kept : (P : Volatile → Type 0) (me : ℕ) (volatile : Volatile) (s : ℕ) (choice : Choice) (answer : ProposeAnswer) → P volatile → P (proposed_step me volatile s choice answer).after
proposed-kept P me volatile s choice (ProposeAnswer.Known outcome) h = h
proposed-kept P me volatile s choice ProposeAnswer.Finished h = h
proposed-kept P me volatile s choice (ProposeAnswer.Again ballot mark) h = h
proposed-kept P me volatile s choice (ProposeAnswer.Escalate cause) h = h
proposed-kept P me volatile s choice (ProposeAnswer.Vote mark) h = h

kept-part : (r : Result NodeStep StepFault) → OnStep IsFormed r → OnStep IsFormedKept r
kept-part (Ok step) h = (h.0, h.2, h.3)
kept-part (Err fault) h = tt

module _ (cluster : Cluster) (me : ℕ) (facts : List Fact) (volatile : Volatile) (sizes : AreQuorums cluster.quorums) (of_me : IsInRange 1 9 me)
    (known : AreNodeFacts cluster facts) (kept : IsWellFormedVolatile volatile) where
  nothing : IsFormed (nothing_done volatile)
  nothing = nothing-formed cluster me facts volatile sizes of_me known kept

  -- a report has fewer than 2^32 marks, since the facts lie in the cells that a node may have
  abbrev HasRoom : Type 0
  HasRoom = sum_over fact_length facts < 2 ^ 32

  abbrev HasRoomFor : Message → Type 0
  HasRoomFor (Message.Prepare key version through ballot) = HasRoom
  HasRoomFor _ = Unit {0}

  formed-proposed : (s : ℕ) (choice : Choice) (answer : ProposeAnswer) → IsInRange 1 9 s → IsFormedMessageOf choice answer → IsFormed (proposed_step me volatile s choice answer)
  formed-proposed s choice answer h w = (
    proposed-fact me volatile s choice answer w.0 w.1,
    proposed-sent me volatile s choice answer of_me h w.0 w.1,
    proposed-kept (λ v. AllByRecursion IsWellFormedOpen v.manager.opened) me volatile s choice answer kept.opened,
    proposed-kept (λ v. AllByRecursion IsWellFormedLead v.leader.leads) me volatile s choice answer kept.leads,
  )

  formed-outcome : (tx : TxId) (outcome : Outcome) → IsWellFormedHeard tx outcome → IsFormed (outcome_step facts volatile tx outcome)
  formed-outcome tx outcome w =
      cond_both (is_settled facts tx) None (Some (Fact.Heard tx outcome)) (λ (o : Option Fact). IsFormed (outcome_step_by volatile tx o)) (λ e. nothing)
      (λ e. (w, tt, each-kept IsWellFormedOpen (λ t. not (tx_eq t.tx tx)) volatile.manager.opened kept.opened, kept.leads))

  formed-give : (give : Give) → IsWellFormedGiven give.key give.version give.item give.adds → IsFormed (sync_give_step facts volatile give)
  formed-give give w =
      cond_both (is_news facts give.key give.version give.adds) (Some (Fact.Adopted give.key give.version give.item give.adds)) None (λ (o : Option Fact). IsFormed (sync_give_step_by volatile o))
      (λ e. (w, tt, kept.opened, kept.leads)) (λ e. nothing)

  formed-ask : (s : ℕ) (tx : TxId) (key : Key) (version : ℕ) → IsInRange 1 9 s → IsWellFormedTx tx → IsWellFormedInstance key version → IsFormed (ask_step me facts volatile s tx key version)
  formed-ask s tx key version h t w =
      by_answer (outcome_kept facts tx) (kept-told facts tx known.well_formed)
    where
      by_vote : (vote : Option (Ballot × Mark)) → HoldsIn (IsWellFormedVoteAt key version tx) vote → IsFormed (ask_step_after me volatile s tx key version vote)
      by_vote (Some vote) b =
          (tt, sent-one me s (Message.Voted key version vote.0 tx vote.1) tt of_me h (record { instance = w; ballot_itself = b.0; entry = b.1 }), kept.opened, kept.leads)
      by_vote None b = nothing

      by_answer : (o : Option Outcome) → HoldsIn (IsWellFormedHeard tx) o → IsFormed (ask_step_by me facts volatile s tx key version o)
      by_answer (Some outcome) a = (tt, sent-one me s (Message.Outcome tx outcome) tt of_me h a, kept.opened, kept.leads)
      by_answer None a =
          cond_both (is_finished facts tx) (sending volatile (to_one me s (Message.Finished tx))) (ask_step_after me volatile s tx key version (vote_of facts key version tx)) IsFormed
          (λ e. (tt, sent-one me s (Message.Finished tx) tt of_me h t, kept.opened, kept.leads))
          (λ e. by_vote (vote_of facts key version tx) (vote-told facts key version tx known.well_formed))

  formed-message : (s : ℕ) (message : Message) → IsInRange 1 9 s → IsWellFormedMessage message → HasRoomFor message → OnStep IsFormed (message_step (here cluster me facts) volatile s message)
  formed-message s (Message.Propose choice) h w room =
      formed-proposed s choice (on_propose cluster facts choice) h (w, formed-answer cluster facts choice w known.well_formed)
  formed-message s (Message.Voted key version ballot tx mark) h w room =
      voted-formed cluster me facts volatile sizes of_me known kept (record { from = s; key = key; version = version; ballot = ballot; tx = tx; mark = mark }) w
  formed-message s (Message.Escalate key version tx cause) h w room =
      escalate-formed cluster me facts volatile sizes of_me known kept s key tx cause h w.instance.key_itself w.cause_itself
  formed-message s (Message.Lead choice) h w room = lead-step-formed cluster me facts sizes of_me known volatile kept s choice h w
  formed-message s (Message.Prepare key version through ballot) h w room =
      prepare-formed cluster me facts volatile of_me known room kept s key version through ballot h w.instance (w.not_below, w.through_fits) w.classic
  formed-message s (Message.Promise key version through ballot reported votes) h w room =
      let promise : Promise = record { key = key; version = version; through = through; ballot = ballot; reported = reported; votes = votes } in
      promise-step-formed cluster me facts sizes of_me known volatile kept s promise w
  formed-message s (Message.Accept key version ballot options) h w room =
      accept-formed cluster me facts volatile of_me known kept s key version ballot options h w.instance w.classic w.options_itself
  formed-message s (Message.Refused key version ballot promised) h w room =
      refused-step-formed cluster me facts sizes of_me known volatile kept key ballot promised
  formed-message s (Message.Outcome tx outcome) h w room = formed-outcome tx outcome w
  formed-message s (Message.Ask tx key version) h w room = formed-ask s tx key version h w.0 w.1
  formed-message s (Message.SyncAsk key) h w room = (tt, sent-give cluster me facts s key known of_me h w, kept.opened, kept.leads)
  formed-message s (Message.SyncGive key version item adds) h w room = formed-give (record { key = key; version = version; item = item; adds = adds }) w
  formed-message s (Message.Mark centre epoch seq) h w room = nothing
  formed-message s (Message.Finished tx) h w room =
      (tt, tt, each-kept IsWellFormedOpen (λ t. not (tx_eq t.tx tx)) volatile.manager.opened kept.opened, kept.leads)
  formed-message s (Message.ClientRead serial key) h w room = nothing
  formed-message s (Message.ClientBegin serial parts) h w room = nothing
  formed-message s (Message.ClientAnswer serial answer) h w room = nothing

  room-for : HasRoom → (message : Message) → HasRoomFor message
  room-for room (Message.Propose choice) = tt
  room-for room (Message.Voted key version ballot tx mark) = tt
  room-for room (Message.Escalate key version tx cause) = tt
  room-for room (Message.Lead choice) = tt
  room-for room (Message.Prepare key version through ballot) = room
  room-for room (Message.Promise key version through ballot reported votes) = tt
  room-for room (Message.Accept key version ballot options) = tt
  room-for room (Message.Refused key version ballot promised) = tt
  room-for room (Message.Outcome tx outcome) = tt
  room-for room (Message.Ask tx key version) = tt
  room-for room (Message.SyncAsk key) = tt
  room-for room (Message.SyncGive key version item adds) = tt
  room-for room (Message.Mark centre epoch seq) = tt
  room-for room (Message.Finished tx) = tt
  room-for room (Message.ClientRead serial key) = tt
  room-for room (Message.ClientBegin serial parts) = tt
  room-for room (Message.ClientAnswer serial answer) = tt

  -- what is added and kept needs no room
  pub kept-message : (s : ℕ) (message : Message) → IsInRange 1 9 s → IsWellFormedMessage message → OnStep IsFormedKept (message_step (here cluster me facts) volatile s message)
  kept-message s (Message.Propose choice) h w = kept-part (message_step (here cluster me facts) volatile s (Message.Propose choice)) (formed-message s (Message.Propose choice) h w tt)
  kept-message s (Message.Voted key version ballot tx mark) h w = kept-part (message_step (here cluster me facts) volatile s (Message.Voted key version ballot tx mark)) (formed-message s (Message.Voted key version ballot tx mark) h w tt)
  kept-message s (Message.Escalate key version tx cause) h w = kept-part (message_step (here cluster me facts) volatile s (Message.Escalate key version tx cause)) (formed-message s (Message.Escalate key version tx cause) h w tt)
  kept-message s (Message.Lead choice) h w = kept-part (message_step (here cluster me facts) volatile s (Message.Lead choice)) (formed-message s (Message.Lead choice) h w tt)
  kept-message s (Message.Prepare key version through ballot) h w =
      prepare-kept cluster me facts volatile of_me known kept s key version through ballot w.instance (w.not_below, w.through_fits) w.classic
  kept-message s (Message.Promise key version through ballot reported votes) h w = kept-part (message_step (here cluster me facts) volatile s (Message.Promise key version through ballot reported votes)) (formed-message s (Message.Promise key version through ballot reported votes) h w tt)
  kept-message s (Message.Accept key version ballot options) h w = kept-part (message_step (here cluster me facts) volatile s (Message.Accept key version ballot options)) (formed-message s (Message.Accept key version ballot options) h w tt)
  kept-message s (Message.Refused key version ballot promised) h w = kept-part (message_step (here cluster me facts) volatile s (Message.Refused key version ballot promised)) (formed-message s (Message.Refused key version ballot promised) h w tt)
  kept-message s (Message.Outcome tx outcome) h w = kept-part (message_step (here cluster me facts) volatile s (Message.Outcome tx outcome)) (formed-message s (Message.Outcome tx outcome) h w tt)
  kept-message s (Message.Ask tx key version) h w = kept-part (message_step (here cluster me facts) volatile s (Message.Ask tx key version)) (formed-message s (Message.Ask tx key version) h w tt)
  kept-message s (Message.SyncAsk key) h w = kept-part (message_step (here cluster me facts) volatile s (Message.SyncAsk key)) (formed-message s (Message.SyncAsk key) h w tt)
  kept-message s (Message.SyncGive key version item adds) h w = kept-part (message_step (here cluster me facts) volatile s (Message.SyncGive key version item adds)) (formed-message s (Message.SyncGive key version item adds) h w tt)
  kept-message s (Message.Mark centre epoch seq) h w = kept-part (message_step (here cluster me facts) volatile s (Message.Mark centre epoch seq)) (formed-message s (Message.Mark centre epoch seq) h w tt)
  kept-message s (Message.Finished tx) h w = kept-part (message_step (here cluster me facts) volatile s (Message.Finished tx)) (formed-message s (Message.Finished tx) h w tt)
  kept-message s (Message.ClientRead serial key) h w = kept-part (message_step (here cluster me facts) volatile s (Message.ClientRead serial key)) (formed-message s (Message.ClientRead serial key) h w tt)
  kept-message s (Message.ClientBegin serial parts) h w = kept-part (message_step (here cluster me facts) volatile s (Message.ClientBegin serial parts)) (formed-message s (Message.ClientBegin serial parts) h w tt)
  kept-message s (Message.ClientAnswer serial answer) h w = kept-part (message_step (here cluster me facts) volatile s (Message.ClientAnswer serial answer)) (formed-message s (Message.ClientAnswer serial answer) h w tt)

  formed-tick-step : IsFormed (tick_step (here cluster me facts) volatile)
  formed-tick-step =
      let t = formed-tick cluster me facts sizes of_me known.well_formed (led-here cluster me facts sizes of_me known) volatile kept in (tt, t.1, t.0.opened, t.0.leads)

  formed-begin : (parts : List Part) → AreWellFormedParts parts → IsFormed (begin_step (here cluster me facts) volatile parts)
  formed-begin parts w = begin-formed cluster me facts volatile sizes of_me known kept parts (begin_fault facts volatile.manager parts) refl w

  -- an own message comes from a centre
  own-from : (envelope : Envelope) → is_own_message cluster me envelope ≡ true → IsInRange 1 9 envelope.from
  own-from envelope e =
      let own = and_parts (envelope.to == me && is_centre cluster envelope.from) (message_belongs cluster envelope.message) e in
      centre-range cluster envelope.from sizes (and_parts (envelope.to == me) (is_centre cluster envelope.from) own.0).1

  pub formed-step : (input : Input) → IsWellFormedInput input → HasRoom → OnStep IsFormed (step_of (here cluster me facts) volatile input)
  formed-step (Input.Message envelope) w room =
      cond_both (is_own_message cluster me envelope) (checked_for_room cluster facts (message_step (here cluster me facts) volatile envelope.from envelope.message)) (Err StepFault.Foreign) (OnStep IsFormed)
      (λ e. on_checked IsFormed IsFormed cluster facts (message_step (here cluster me facts) volatile envelope.from envelope.message) (λ step h room. h)
      (formed-message envelope.from envelope.message (own-from envelope e) w.message (room-for room envelope.message)))
      (λ e. tt)
  formed-step Input.Tick w room = formed-tick-step
  formed-step Input.Sweep w room = nothing
  formed-step (Input.Read key) w room = (tt, tt, kept.opened, kept.leads)
  formed-step (Input.Begin parts) w room = formed-begin parts w

  pub kept-step : (input : Input) → IsWellFormedInput input → OnStep IsFormedKept (step_of (here cluster me facts) volatile input)
  kept-step (Input.Message envelope) w =
      cond_both (is_own_message cluster me envelope) (checked_for_room cluster facts (message_step (here cluster me facts) volatile envelope.from envelope.message)) (Err StepFault.Foreign) (OnStep IsFormedKept)
      (λ e. on_checked IsFormedKept IsFormedKept cluster facts (message_step (here cluster me facts) volatile envelope.from envelope.message) (λ step h room. h)
      (kept-message envelope.from envelope.message (own-from envelope e) w.message))
      (λ e. tt)
  kept-step Input.Tick w = kept-part (Ok (tick_step (here cluster me facts) volatile)) formed-tick-step
  kept-step Input.Sweep w = kept-part (Ok (nothing_done volatile)) nothing
  kept-step (Input.Read key) w = (tt, kept.opened, kept.leads)
  kept-step (Input.Begin parts) w = kept-part (Ok (begin_step (here cluster me facts) volatile parts)) (formed-begin parts w)

-- ---- a node stays one

vote-formed : (cluster : Cluster) (s : ℕ) (message : Message) → IsWellFormedMessage message → HoldsOfVote IsWellFormedVoteKept s message
vote-formed cluster s (Message.Voted key version ballot tx mark) w = w
vote-formed cluster s (Message.Propose choice) w = tt
vote-formed cluster s (Message.Escalate key version tx cause) w = tt
vote-formed cluster s (Message.Lead choice) w = tt
vote-formed cluster s (Message.Prepare key version through ballot) w = tt
vote-formed cluster s (Message.Promise key version through ballot reported votes) w = tt
vote-formed cluster s (Message.Accept key version ballot options) w = tt
vote-formed cluster s (Message.Refused key version ballot promised) w = tt
vote-formed cluster s (Message.Outcome tx outcome) w = tt
vote-formed cluster s (Message.Ask tx key version) w = tt
vote-formed cluster s (Message.SyncAsk key) w = tt
vote-formed cluster s (Message.SyncGive key version item adds) w = tt
vote-formed cluster s (Message.Mark centre epoch seq) w = tt
vote-formed cluster s (Message.Finished tx) w = tt
vote-formed cluster s (Message.ClientRead serial key) w = tt
vote-formed cluster s (Message.ClientBegin serial parts) w = tt
vote-formed cluster s (Message.ClientAnswer serial answer) w = tt

input-formed : (cluster : Cluster) (me : ℕ) (facts : List Fact) (input : Input) → IsWellFormedInput input → HoldsOfInput IsWellFormedVoteKept cluster me facts input
input-formed cluster me facts (Input.Message envelope) w = λ belongs. vote-formed cluster envelope.from envelope.message w.message
input-formed cluster me facts Input.Tick w = tt
input-formed cluster me facts Input.Sweep w = tt
input-formed cluster me facts (Input.Read key) w = tt
input-formed cluster me facts (Input.Begin parts) w = tt

module _ (cluster : Cluster) (me : ℕ) (facts : List Fact) (volatile : Volatile) (input : Input) (step : NodeStep)
    (node : IsNode cluster me facts volatile) (w : IsWellFormedInput input) (made : step_of (here cluster me facts) volatile input ≡ Ok step) where
  of_me : IsInRange 1 9 me
  of_me = centre-range cluster me node.cluster_itself.quorums node.centre

  kept : IsFormedKept step
  kept = on_made IsFormedKept _ step (kept-step cluster me facts volatile node.cluster_itself.quorums of_me node.facts_themselves node.volatile_itself input w) made

  pub fact-formed : (fact : Fact) → step.fact ≡ Some fact → IsWellFormedFact fact
  fact-formed fact is = holds-at IsWellFormedFact step.fact fact kept.0 is

  pub sends-good : sum_over fact_length facts < 2 ^ 32 → AllByRecursion IsGoodSent step.sends
  sends-good room =
      (on_made IsFormed _ step (formed-step cluster me facts volatile node.cluster_itself.quorums of_me node.facts_themselves node.volatile_itself input w room) made).1

  pub sends-formed : sum_over fact_length facts < 2 ^ 32 → AllByRecursion IsWellFormedEnvelope step.sends
  sends-formed room = each-weaker IsGoodSent IsWellFormedEnvelope step.sends (λ e h. h.0) (sends-good room)

  pub sends-roomy : sum_over fact_length facts < 2 ^ 32 → AllByRecursion (λ e. HasRoomIn e.message) step.sends
  sends-roomy room = each-weaker IsGoodSent (λ e. HasRoomIn e.message) step.sends (λ e h. h.1) (sends-good room)

  facts-stay : (o : Option Fact) → step.fact ≡ o → AreNodeFacts cluster (with_new facts o)
  facts-stay None e = node.facts_themselves
  facts-stay (Some fact) e =
      let known = node.facts_themselves in
      let allowed : is_allowed_fact cluster facts fact ≡ true = made-allowed cluster me facts volatile input step fact known.allowed known.booted node.votes w made e in
      record {
        booted = booted-more facts fact known.booted (some_epoch cluster facts fact allowed);
        allowed = and_from (are_allowed_facts cluster facts) (is_allowed_fact cluster facts fact) known.allowed allowed;
        well_formed = (fact-formed fact e, known.well_formed);
      }

  pub node-stays : IsNode cluster me (with_new facts step.fact) step.after
  node-stays =
      let before = node.volatile_itself in
      let counted = on_made _ _ step (votes-step IsWellFormedVoteKept cluster me facts volatile (before.votes, before.watched) input (input-formed cluster me facts input w)) made in
      record {
        cluster_itself = node.cluster_itself;
        centre = node.centre;
        facts_themselves = facts-stay step.fact refl;
        votes = votes-stay cluster me facts volatile input step node.votes made;
        volatile_itself = record { opened = kept.1; votes = counted.0; watched = counted.1; leads = kept.2 };
      }

-- what a message brings is well-formed, also where the store has no room for it
pub brought-formed : (cluster : Cluster) (me : ℕ) (facts : List Fact) (volatile : Volatile) (s : ℕ) (message : Message) (step : NodeStep) (fact : Fact)
    → IsNode cluster me facts volatile → is_centre cluster s ≡ true → IsWellFormedMessage message
    → message_step (here cluster me facts) volatile s message ≡ Ok step → step.fact ≡ Some fact → IsWellFormedFact fact
brought-formed cluster me facts volatile s message step fact node from w made is =
    let sizes = node.cluster_itself.quorums in
    let kept = kept-message cluster me facts volatile sizes (centre-range cluster me sizes node.centre) node.facts_themselves node.volatile_itself s message (centre-range cluster s sizes from) w in
    holds-at IsWellFormedFact step.fact fact (on_made IsFormedKept _ step kept made).0 is
