-- The node's rules around its leader: what each answer sends, and which structures are entries of the ledger.
use Rattle.std.specs.Prelude.{Err, List, None, Ok, Option, Result, Some, [], if◌then◌else◌, ℕ, ◌∷◌}
use Rattle.mdcc_base.specs.Sizes.{Sizes}
use Rattle.mdcc_base.specs.declared.identifiers.Ballot.{Ballot}
use Rattle.mdcc_base.specs.declared.key.Key.{Key}
use Rattle.mdcc_option.specs.declared.choices.Choice.{Choice}
use Rattle.mdcc_option.specs.declared.choices.Claim.{Claim}
use Rattle.mdcc_option.specs.declared.choices.Outcome.{Outcome}
use Rattle.mdcc_def_protocol.specs.Facts.{epoch_of, is_finished, outcome_kept}
use Rattle.mdcc_def_protocol.specs.Leader.{claim_of_choice, is_marked, lead, on_promise, on_refused}
use Rattle.mdcc_def_ledger.specs.Ledger.{Entry, Valued}
use Rattle.mdcc_def_rules.specs.Messages.{to_all, to_one, to_others}
use Rattle.mdcc_def_rules.specs.Steps.{NodeStep, StepPart, nothing_done, sending, step_of_part}
use Rattle.mdcc_def_protocol.specs.Volatile.{Leading, Volatile, with_leader}
use Rattle.mdcc_def_protocol.specs.declared.leader.LeadAnswer.{LeadAnswer}
use Rattle.mdcc_def_protocol.specs.declared.leader.LeadFault.{LeadFault}
use Rattle.mdcc_def_protocol.specs.declared.leader.Promise.{Promise}
use Rattle.mdcc_def_protocol.specs.declared.leader.PromiseAnswer.{PromiseAnswer}
use Rattle.mdcc_def_messages.specs.declared.messages.Envelope.{Envelope}
use Rattle.mdcc_def_messages.specs.declared.messages.Message.{Message}
use Rattle.mdcc_def_rules.specs.declared.node.StepFault.{StepFault}
use Rattle.mdcc_def_rules.specs.Here.{Here}

abbrev pub lead_step_fault : LeadFault → StepFault
lead_step_fault LeadFault.Exhausted = StepFault.Exhausted
lead_step_fault LeadFault.Crowded = StepFault.Crowded
lead_step_fault LeadFault.Memory = StepFault.Memory

-- a step that is the leader's part, unless the leader refuses it
abbrev pub step_of_led : Result StepPart LeadFault → Result NodeStep StepFault
step_of_led (Ok part) = Ok (step_of_part part)
step_of_led (Err fault) = Err (lead_step_fault fault)

-- ---- claims

-- what the answer to a claim sends
abbrev pub lead_sent : Sizes → ℕ → Claim → LeadAnswer → List Envelope
lead_sent quorums me claim LeadAnswer.Behind = to_others quorums me (Message.SyncAsk claim.key)
lead_sent quorums me claim (LeadAnswer.Accept version ballot options) = to_all quorums me (Message.Accept claim.key version ballot options)
lead_sent quorums me claim (LeadAnswer.Prepare version through ballot) = to_all quorums me (Message.Prepare claim.key version through ballot)
lead_sent quorums me claim LeadAnswer.Left = []

-- a structure that is sent is an entry, unless it was sent before and has the claim's transaction from then
abbrev pub lead_entries : ℕ → Leading → Claim → LeadAnswer → List Entry
lead_entries me leader claim (LeadAnswer.Accept version ballot options) =
    if is_marked leader claim then [] else Valued me claim.key version ballot options ∷ []
lead_entries me leader claim answer = []

abbrev pub led_by_answer : Sizes → ℕ → Volatile → Claim → Result (LeadAnswer × Leading) LeadFault → Result StepPart LeadFault
led_by_answer quorums me volatile claim (Err fault) = Err fault
led_by_answer quorums me volatile claim (Ok (answer, leader)) =
    Ok (record { after = with_leader volatile leader; entries = lead_entries me volatile.leader claim answer; sends = lead_sent quorums me claim answer })

-- a claim is led here
abbrev pub led_of : Here → Volatile → Claim → Result StepPart LeadFault
led_of here volatile claim = led_by_answer here.cluster.quorums here.me volatile claim (lead here.cluster here.me (epoch_of here.facts) here.facts volatile.leader claim)

-- by what is kept of the transaction's outcome, and then by whether it is finished
abbrev pub lead_step_after : Here → Volatile → ℕ → Choice → Option Outcome → Result NodeStep StepFault
lead_step_after here volatile s choice (Some outcome) = Ok (sending volatile (to_one here.me s (Message.Outcome choice.tx outcome)))
lead_step_after here volatile s choice None =
    if is_finished here.facts choice.tx then Ok (sending volatile (to_one here.me s (Message.Finished choice.tx)))
    else step_of_led (led_of here volatile (claim_of_choice choice))

-- a manager at s asks for a mark
abbrev pub lead_step : Here → Volatile → ℕ → Choice → Result NodeStep StepFault
lead_step here volatile s choice = lead_step_after here volatile s choice (outcome_kept here.facts choice.tx)

-- ---- promises

-- what the answer to a promise sends
abbrev pub promise_sent : Sizes → ℕ → Key → PromiseAnswer → List Envelope
promise_sent quorums me key (PromiseAnswer.Accept version ballot options) = to_all quorums me (Message.Accept key version ballot options)
promise_sent quorums me key answer = []

-- the structure that it makes is an entry
abbrev pub promise_entries : ℕ → Key → PromiseAnswer → List Entry
promise_entries me key (PromiseAnswer.Accept version ballot options) = Valued me key version ballot options ∷ []
promise_entries me key answer = []

abbrev pub promised_by_answer : Sizes → ℕ → Volatile → Key → Result (PromiseAnswer × Leading) LeadFault → Result StepPart LeadFault
promised_by_answer quorums me volatile key (Err fault) = Err fault
promised_by_answer quorums me volatile key (Ok (answer, leader)) =
    Ok (record { after = with_leader volatile leader; entries = promise_entries me key answer; sends = promise_sent quorums me key answer })

-- a promise came
abbrev pub promise_step : Here → Volatile → ℕ → Promise → Result NodeStep StepFault
promise_step here volatile from promise =
    step_of_led (promised_by_answer here.cluster.quorums here.me volatile promise.key (on_promise here.cluster here.facts volatile.leader from promise))

-- a refusal came
abbrev pub refused_step : Volatile → Key → Ballot → Ballot → NodeStep
refused_step volatile key ballot promised = nothing_done (with_leader volatile (on_refused volatile.leader key ballot promised))
