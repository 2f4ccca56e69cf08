-- The leader's steps are well-formed.
use Rattle.std.proofs.Common.{ℕ, ◌-◌, ◌^◌, List, Option, Some, None, Result, Ok, Err}
use Rattle.std.specs.Int.{IsInRange}
use Rattle.std.specs.List.{AllByRecursion}
use Rattle.std.proofs.lemmas.Bool.{ltb-true, cond_both}
use Rattle.mdcc_base.specs.AreQuorums.{AreQuorums}
use Rattle.mdcc_base.specs.declared.identifiers.Ballot.{Ballot}
use Rattle.mdcc_base.specs.declared.key.Key.{Key}
use Rattle.mdcc_option.specs.declared.choices.Choice.{Choice}
use Rattle.mdcc_option.specs.declared.choices.Claim.{Claim}
use Rattle.mdcc_option.specs.declared.choices.Outcome.{Outcome}
use Rattle.mdcc_option.specs.declared.cluster.Cluster.{Cluster}
use Rattle.mdcc_def_protocol.specs.Facts.{epoch_of, is_finished, outcome_kept}
use Rattle.mdcc_def_protocol.specs.Leader.{claim_of_choice, lead, on_promise}
use Rattle.mdcc_def_rules.specs.LeaderRules.{lead_sent, lead_step, lead_step_after, led_by_answer, led_of, promise_sent, promise_step, promised_by_answer, refused_step, step_of_led}
use Rattle.mdcc_def_rules.specs.TickRules.{claim_led, led_or_left}
use Rattle.mdcc_def_rules.specs.Steps.{StepPart, sending}
use Rattle.mdcc_def_protocol.specs.Volatile.{Leading, Volatile, with_leader}
use Rattle.mdcc_def_messages.specs.WellFormedParts.{IsWellFormedChoice, IsWellFormedHeard}
use Rattle.mdcc_def_messages.specs.declared.facts.Fact.{Fact}
use Rattle.mdcc_def_protocol.specs.declared.leader.LeadAnswer.{LeadAnswer}
use Rattle.mdcc_def_protocol.specs.declared.leader.LeadFault.{LeadFault}
use Rattle.mdcc_def_protocol.specs.declared.leader.Promise.{Promise}
use Rattle.mdcc_def_protocol.specs.declared.leader.PromiseAnswer.{PromiseAnswer}
use Rattle.mdcc_def_messages.specs.declared.messages.Message.{Message}
use Rattle.mdcc_theorem_node_steps.specs.WellFormedVolatile.{AreNodeFacts, IsWellFormedVolatile}
use Rattle.mdcc_theorem_node_steps.proofs.Allowing.{OnStep}
use Rattle.mdcc_theorem_node_steps.proofs.Claims.{IsFormedClaim, formed-choice}
use Rattle.mdcc_theorem_node_steps.proofs.Formed.{IsFormed}
use Rattle.mdcc_theorem_node_steps.proofs.Held.{HoldsIn}
use Rattle.mdcc_theorem_node_steps.proofs.Leading.{AreLeads, IsFormedLeadAnswer, IsFormedLed, IsFormedPromise, IsFormedPromiseAnswer, IsFormedTaken, OnOkOf, led-formed, promised-formed, refused-leads}
use Rattle.mdcc_theorem_node_steps.proofs.Opened.{epoch-fits}
use Rattle.mdcc_theorem_node_steps.proofs.Sending.{IsGoodSent, sent-all, sent-one, sent-others}
use Rattle.mdcc_theorem_node_steps.proofs.Ticked.{IsFormedTicked}
use Rattle.mdcc_theorem_node_steps.proofs.Told.{kept-told}
use Rattle.mdcc_def_rules.specs.Here.{here}
use Rattle.mdcc_def_rules.specs.Messages.{to_one}

module _ (cluster : Cluster) (me : ℕ) (facts : List Fact) (sizes : AreQuorums cluster.quorums) (of_me : IsInRange 1 9 me) (known : AreNodeFacts cluster facts) where
  sent-lead : (claim : Claim) (answer : LeadAnswer) → IsFormedClaim claim → IsFormedLeadAnswer claim.key answer → AllByRecursion IsGoodSent (lead_sent cluster.quorums me claim answer)
  sent-lead claim LeadAnswer.Behind w h = sent-others cluster.quorums me (Message.SyncAsk claim.key) tt sizes of_me w.0.key_itself
  sent-lead claim (LeadAnswer.Accept version ballot options) w h =
      sent-all cluster.quorums me (Message.Accept claim.key version ballot options) h.3 sizes of_me (record { instance = h.0; classic = h.1; options_itself = h.2 })
  sent-lead claim (LeadAnswer.Prepare version through ballot) w h = sent-all cluster.quorums me (Message.Prepare claim.key version through ballot) tt sizes of_me h
  sent-lead claim LeadAnswer.Left w h = tt

  leads-kept : (volatile : Volatile) (leader : Leading) → IsWellFormedVolatile volatile → AreLeads leader → IsWellFormedVolatile (with_leader volatile leader)
  leads-kept volatile leader kept leads = record { opened = kept.opened; votes = kept.votes; watched = kept.watched; leads = leads }

  led-part : (volatile : Volatile) (claim : Claim) (r : Result (LeadAnswer × Leading) LeadFault) → IsWellFormedVolatile volatile → IsFormedClaim claim → OnOkOf (IsFormedLed claim.key) r
      → OnOkOf IsFormedTicked (led_by_answer cluster.quorums me volatile claim r)
  led-part volatile claim (Err fault) kept w h = tt
  led-part volatile claim (Ok (answer, leader)) kept w h = (leads-kept volatile leader kept h.1, sent-lead claim answer w h.0)

  of_epoch : IsInRange 1 (2 ^ 32 - 1) (epoch_of facts)
  of_epoch = epoch-fits facts known.well_formed (ltb-true 0 (epoch_of facts) known.booted)

  claim-part : (volatile : Volatile) (claim : Claim) → IsWellFormedVolatile volatile → IsFormedClaim claim → OnOkOf IsFormedTicked (led_of (here cluster me facts) volatile claim)
  claim-part volatile claim kept w =
      led-part volatile claim (lead cluster me (epoch_of facts) facts volatile.leader claim) kept w
      (led-formed cluster me (epoch_of facts) facts volatile.leader claim of_me of_epoch kept.leads w)

  -- ---- claims at a tick

  left-formed : (volatile : Volatile) (r : Result StepPart LeadFault) → IsWellFormedVolatile volatile → OnOkOf IsFormedTicked r → IsFormedTicked (led_or_left volatile r)
  left-formed volatile (Err fault) kept h = (kept, tt)
  left-formed volatile (Ok part) kept h = h

  pub led-here : (volatile : Volatile) (claim : Claim) → IsWellFormedVolatile volatile → IsFormedClaim claim → IsFormedTicked (claim_led (here cluster me facts) volatile claim)
  led-here volatile claim kept w = left-formed volatile (led_of (here cluster me facts) volatile claim) kept (claim-part volatile claim kept w)

  -- ---- messages

  module _ (volatile : Volatile) (kept : IsWellFormedVolatile volatile) where
    part-step : (r : Result StepPart LeadFault) → OnOkOf IsFormedTicked r → OnStep IsFormed (step_of_led r)
    part-step (Err fault) h = tt
    part-step (Ok part) h = (tt, h.1, h.0.opened, h.0.leads)

    lead-by : (s : ℕ) (choice : Choice) (o : Option Outcome) → IsInRange 1 9 s → IsWellFormedChoice choice → HoldsIn (IsWellFormedHeard choice.tx) o
        → OnStep IsFormed (lead_step_after (here cluster me facts) volatile s choice o)
    lead-by s choice (Some outcome) of_s w h = (tt, sent-one me s (Message.Outcome choice.tx outcome) tt of_me of_s h, kept.opened, kept.leads)
    lead-by s choice None of_s w h =
        cond_both (is_finished facts choice.tx) (Ok (sending volatile (to_one me s (Message.Finished choice.tx)))) (step_of_led (led_of (here cluster me facts) volatile (claim_of_choice choice))) (OnStep IsFormed)
        (λ e. (tt, sent-one me s (Message.Finished choice.tx) tt of_me of_s w.tx, kept.opened, kept.leads))
        (λ e. part-step (led_of (here cluster me facts) volatile (claim_of_choice choice)) (claim-part volatile (claim_of_choice choice) kept (formed-choice choice w)))

    pub lead-step-formed : (s : ℕ) (choice : Choice) → IsInRange 1 9 s → IsWellFormedChoice choice → OnStep IsFormed (lead_step (here cluster me facts) volatile s choice)
    lead-step-formed s choice of_s w = lead-by s choice (outcome_kept facts choice.tx) of_s w (kept-told facts choice.tx known.well_formed)

    sent-promised : (key : Key) (answer : PromiseAnswer) → IsFormedPromiseAnswer key answer → AllByRecursion IsGoodSent (promise_sent cluster.quorums me key answer)
    sent-promised key (PromiseAnswer.Accept version ballot options) h =
        sent-all cluster.quorums me (Message.Accept key version ballot options) h.3 sizes of_me (record { instance = h.0; classic = h.1; options_itself = h.2 })
    sent-promised key PromiseAnswer.Ignored h = tt
    sent-promised key (PromiseAnswer.Waiting n) h = tt
    sent-promised key PromiseAnswer.Counted h = tt

    promised-part : (key : Key) (r : Result (PromiseAnswer × Leading) LeadFault) → OnOkOf (IsFormedTaken key) r → OnOkOf IsFormedTicked (promised_by_answer cluster.quorums me volatile key r)
    promised-part key (Err fault) h = tt
    promised-part key (Ok (answer, leader)) h = (leads-kept volatile leader kept h.1, sent-promised key answer h.0)

    pub promise-step-formed : (from : ℕ) (promise : Promise) → IsFormedPromise promise → OnStep IsFormed (promise_step (here cluster me facts) volatile from promise)
    promise-step-formed from promise w =
        part-step (promised_by_answer cluster.quorums me volatile promise.key (on_promise cluster facts volatile.leader from promise))
        (promised-part promise.key (on_promise cluster facts volatile.leader from promise) (promised-formed cluster facts volatile.leader from promise kept.leads w))

    pub refused-step-formed : (key : Key) (ballot promised : Ballot) → IsFormed (refused_step volatile key ballot promised)
    refused-step-formed key ballot promised = (tt, tt, kept.opened, refused-leads volatile.leader key ballot promised kept.leads)
