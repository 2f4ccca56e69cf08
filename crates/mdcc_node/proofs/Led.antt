-- What a leader's answer gives and leaves at its node.
use Rattle.std.proofs.Common.{◌≡◌, ℕ, List, ◌++◌, Ok, Err, Result, refl, ap, append-nil}
use Rattle.std.specs.Prelude.{IsErrAnd}
use Rattle.mdcc_base.specs.Sizes.{Sizes}
use Rattle.mdcc_base.specs.Unless.{GivesUnless}
use Rattle.mdcc_base.specs.declared.key.Key.{Key}
use Rattle.mdcc_leader.specs.Answers.{answer_alone, is_lead_memory as lead_memory, left}
use Rattle.mdcc_def_messages.specs.declared.messages.Envelope.{Envelope}
use Rattle.mdcc_node.specs.StepPlans.{left_out, sends_after, unless_refused, volatile_kept}
use Rattle.mdcc_node.specs.StepAnswers.{UnlessMemory, is_step_memory}
use Rattle.mdcc_option.specs.declared.choices.Claim.{Claim}
use Rattle.mdcc_def_protocol.specs.Volatile.{Leading, Volatile, with_leader}
use Rattle.mdcc_def_protocol.specs.declared.leader.LeadAnswer.{LeadAnswer}
use Rattle.mdcc_def_protocol.specs.declared.leader.LeadFault.{LeadFault}
use Rattle.mdcc_def_protocol.specs.declared.leader.PromiseAnswer.{PromiseAnswer}
use Rattle.mdcc_def_rules.specs.LeaderRules.{lead_sent, led_by_answer, promise_sent, promised_by_answer, lead_step_fault, step_of_led}
use Rattle.mdcc_def_rules.specs.TickRules.{led_or_left}
use Rattle.mdcc_def_rules.specs.declared.node.StepFault.{StepFault}

pub residual : {T : Type 0} (r : Result T StepFault) (fault : StepFault) → IsErrAnd r (λ e. e ≡ fault) → r ≡ Err fault
residual (Ok x) fault h = absurd h
residual (Err e) fault h = ap (λ (f : StepFault). Err f) h

module _ (quorums : Sizes) (me : ℕ) (volatile : Volatile) where
  module _ (claim : Claim) where
    -- a claim that is answered
    pub led-sends : (led : Result (LeadAnswer × Leading) LeadFault) (answer : LeadAnswer) (sends : List Envelope) → Ok answer ≡ answer_alone led
        → sends_after sends (step_of_led (led_by_answer quorums me volatile claim led)) ≡ Ok (sends ++ lead_sent quorums me claim answer)
    led-sends (Ok (found, leader)) answer sends e =
        let is : answer ≡ found = cc in
        rw is refl
    led-sends (Err fault) answer sends e = absurd (cc)

    pub led-keeps : (led : Result (LeadAnswer × Leading) LeadFault)
        → volatile_kept volatile (step_of_led (led_by_answer quorums me volatile claim led)) ≡ with_leader volatile (left volatile.leader led)
    led-keeps (Ok (answer, leader)) = refl
    led-keeps (Err fault) = refl

    -- one that is refused
    pub led-refused : (led : Result (LeadAnswer × Leading) LeadFault) (fault : LeadFault) (sends : List Envelope)
        → GivesUnless {T = LeadAnswer} lead_memory (Err fault) (answer_alone led)
        → GivesUnless {T = List Envelope} is_step_memory (Err (lead_step_fault fault)) (sends_after sends (step_of_led (led_by_answer quorums me volatile claim led)))
    led-refused led LeadFault.Memory sends e = tt
    led-refused (Ok next) LeadFault.Exhausted sends e = absurd (cc)
    led-refused (Ok next) LeadFault.Crowded sends e = absurd (cc)
    led-refused (Err other) LeadFault.Exhausted sends e =
        let is : other ≡ LeadFault.Exhausted = cc in
        rw is refl
    led-refused (Err other) LeadFault.Crowded sends e =
        let is : other ≡ LeadFault.Crowded = cc in
        rw is refl

    pub refused-left : (led : Result (LeadAnswer × Leading) LeadFault) (fault : LeadFault) (P : Volatile → Type 0)
        → GivesUnless {T = LeadAnswer} lead_memory (Err fault) (answer_alone led) → P volatile
        → UnlessMemory {T = List Envelope} (Err (lead_step_fault fault)) (P (volatile_kept volatile (step_of_led (led_by_answer quorums me volatile claim led))))
    refused-left led LeadFault.Memory P e h = tt
    refused-left (Ok next) LeadFault.Exhausted P e h = absurd (cc)
    refused-left (Ok next) LeadFault.Crowded P e h = absurd (cc)
    refused-left (Err other) LeadFault.Exhausted P e h = h
    refused-left (Err other) LeadFault.Crowded P e h = h

    -- at a tick
    pub tick-sends : (led : Result (LeadAnswer × Leading) LeadFault) (answer : LeadAnswer) → Ok answer ≡ answer_alone led
        → (led_or_left volatile (led_by_answer quorums me volatile claim led)).sends ≡ lead_sent quorums me claim answer
    tick-sends (Ok (found, leader)) answer e =
        let is : answer ≡ found = cc in
        rw is refl
    tick-sends (Err fault) answer e = absurd (cc)

    pub tick-keeps : (led : Result (LeadAnswer × Leading) LeadFault)
        → (led_or_left volatile (led_by_answer quorums me volatile claim led)).after ≡ with_leader volatile (left volatile.leader led)
    tick-keeps (Ok (answer, leader)) = refl
    tick-keeps (Err fault) = refl

    -- a claim that is refused for anything but want of memory is left out
    pub tick-refused : (led : Result (LeadAnswer × Leading) LeadFault) (fault : LeadFault) (sends : List Envelope)
        → GivesUnless {T = LeadAnswer} lead_memory (Err fault) (answer_alone led)
        → GivesUnless is_step_memory (unless_refused (left_out fault) sends) (Ok (sends ++ (led_or_left volatile (led_by_answer quorums me volatile claim led)).sends))
    tick-refused led LeadFault.Memory sends e = tt
    tick-refused (Ok next) LeadFault.Exhausted sends e = absurd (cc)
    tick-refused (Ok next) LeadFault.Crowded sends e = absurd (cc)
    tick-refused (Err other) LeadFault.Exhausted sends e = rw (append-nil sends) refl
    tick-refused (Err other) LeadFault.Crowded sends e = rw (append-nil sends) refl

    pub tick-left : (led : Result (LeadAnswer × Leading) LeadFault) (fault : LeadFault) (sends : List Envelope) (P : Volatile → Type 0)
        → GivesUnless {T = LeadAnswer} lead_memory (Err fault) (answer_alone led) → P volatile
        → UnlessMemory (unless_refused (left_out fault) sends) (P (led_or_left volatile (led_by_answer quorums me volatile claim led)).after)
    tick-left led LeadFault.Memory sends P e h = tt
    tick-left (Ok next) LeadFault.Exhausted sends P e h = absurd (cc)
    tick-left (Ok next) LeadFault.Crowded sends P e h = absurd (cc)
    tick-left (Err other) LeadFault.Exhausted sends P e h = h
    tick-left (Err other) LeadFault.Crowded sends P e h = h

  module _ (key : Key) where
    pub promised-sends : (led : Result (PromiseAnswer × Leading) LeadFault) (answer : PromiseAnswer) (sends : List Envelope) → Ok answer ≡ answer_alone led
        → sends_after sends (step_of_led (promised_by_answer quorums me volatile key led)) ≡ Ok (sends ++ promise_sent quorums me key answer)
    promised-sends (Ok (found, leader)) answer sends e =
        let is : answer ≡ found = cc in
        rw is refl
    promised-sends (Err fault) answer sends e = absurd (cc)

    pub promised-keeps : (led : Result (PromiseAnswer × Leading) LeadFault)
        → volatile_kept volatile (step_of_led (promised_by_answer quorums me volatile key led)) ≡ with_leader volatile (left volatile.leader led)
    promised-keeps (Ok (answer, leader)) = refl
    promised-keeps (Err fault) = refl

    pub promised-refused : (led : Result (PromiseAnswer × Leading) LeadFault) (fault : LeadFault) (sends : List Envelope)
        → GivesUnless {T = PromiseAnswer} lead_memory (Err fault) (answer_alone led)
        → GivesUnless {T = List Envelope} is_step_memory (Err (lead_step_fault fault)) (sends_after sends (step_of_led (promised_by_answer quorums me volatile key led)))
    promised-refused led LeadFault.Memory sends e = tt
    promised-refused (Ok next) LeadFault.Exhausted sends e = absurd (cc)
    promised-refused (Ok next) LeadFault.Crowded sends e = absurd (cc)
    promised-refused (Err other) LeadFault.Exhausted sends e =
        let is : other ≡ LeadFault.Exhausted = cc in
        rw is refl
    promised-refused (Err other) LeadFault.Crowded sends e =
        let is : other ≡ LeadFault.Crowded = cc in
        rw is refl

    pub promise-left : (led : Result (PromiseAnswer × Leading) LeadFault) (fault : LeadFault) (P : Volatile → Type 0)
        → GivesUnless {T = PromiseAnswer} lead_memory (Err fault) (answer_alone led) → P volatile
        → UnlessMemory {T = List Envelope} (Err (lead_step_fault fault)) (P (volatile_kept volatile (step_of_led (promised_by_answer quorums me volatile key led))))
    promise-left led LeadFault.Memory P e h = tt
    promise-left (Ok next) LeadFault.Exhausted P e h = absurd (cc)
    promise-left (Ok next) LeadFault.Crowded P e h = absurd (cc)
    promise-left (Err other) LeadFault.Exhausted P e h = h
    promise-left (Err other) LeadFault.Crowded P e h = h
