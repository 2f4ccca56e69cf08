-- The step of one node, by its rules. It depends on the cluster, the centre, its facts, what it keeps, and the input alone.
use Rattle.std.specs.Prelude.{Bool, Err, List, None, Ok, Option, Result, Some, if◌then◌else◌, nat_lt, ℕ, ◌&&◌, ◌-◌, ◌==◌}
use Rattle.mdcc_option.specs.declared.cluster.Cluster.{Cluster}
use Rattle.mdcc_def_rules.specs.AcceptorRules.{accept_step, ask_step, prepare_step, propose_step}
use Rattle.mdcc_def_protocol.specs.Belongs.{is_centre, message_belongs}
use Rattle.mdcc_def_rules.specs.LeaderRules.{lead_step, promise_step, refused_step}
use Rattle.mdcc_def_rules.specs.FloorRules.{finished_step, mark_step, sweep_step}
use Rattle.mdcc_def_messages.specs.Lengths.{cells_needed}
use Rattle.mdcc_def_protocol.specs.Cells.{cells_held}
use Rattle.mdcc_def_rules.specs.ManagerRules.{begin_step, escalate_step, voted_step}
use Rattle.mdcc_def_protocol.specs.News.{is_crowding}
use Rattle.mdcc_def_rules.specs.Steps.{NodeStep, answering, nothing_done}
use Rattle.mdcc_def_rules.specs.SyncRules.{outcome_step, sync_ask_step, sync_give_step}
use Rattle.mdcc_def_rules.specs.TickRules.{tick_step}
use Rattle.mdcc_def_protocol.specs.Visible
use Rattle.mdcc_def_protocol.specs.Volatile.{Volatile}
use Rattle.mdcc_def_messages.specs.declared.facts.Fact.{Fact}
use Rattle.mdcc_def_messages.specs.declared.messages.Envelope.{Envelope}
use Rattle.mdcc_def_messages.specs.declared.messages.Message.{Message}
use Rattle.mdcc_def_rules.specs.declared.node.Answer.{Answer}
use Rattle.mdcc_def_rules.specs.declared.node.Input.{Input}
use Rattle.mdcc_def_rules.specs.declared.node.StepFault.{StepFault}
use Rattle.mdcc_def_rules.specs.Here.{Here}

-- a message from s
abbrev pub message_step : Here → Volatile → ℕ → Message → Result NodeStep StepFault
message_step here volatile s (Message.Propose choice) = Ok (propose_step here volatile s choice)
message_step here volatile s (Message.Voted key version ballot tx mark) =
    Ok (voted_step here volatile (record { from = s; key = key; version = version; ballot = ballot; tx = tx; mark = mark }))
message_step here volatile s (Message.Escalate key version tx cause) = Ok (escalate_step here volatile s key tx cause)
message_step here volatile s (Message.Lead choice) = lead_step here volatile s choice
message_step here volatile s (Message.Prepare key version through ballot) = Ok (prepare_step here.me here.facts volatile s key version through ballot)
message_step here volatile s (Message.Promise key version through ballot reported votes) =
    promise_step here volatile s (record { key = key; version = version; through = through; ballot = ballot; reported = reported; votes = votes })
message_step here volatile s (Message.Accept key version ballot options) = Ok (accept_step here.me here.facts volatile s key version ballot options)
message_step here volatile s (Message.Refused key version ballot promised) = Ok (refused_step volatile key ballot promised)
message_step here volatile s (Message.Outcome tx outcome) = Ok (outcome_step here.facts volatile tx outcome)
message_step here volatile s (Message.Ask tx key version) = Ok (ask_step here.me here.facts volatile s tx key version)
message_step here volatile s (Message.SyncAsk key) = Ok (sync_ask_step here.me here.facts volatile s key)
message_step here volatile s (Message.SyncGive key version item adds) =
    Ok (sync_give_step here.facts volatile (record { key = key; version = version; item = item; adds = adds }))
message_step here volatile s (Message.Mark centre epoch seq) = Ok (mark_step here volatile s centre epoch seq)
message_step here volatile s (Message.Finished tx) = Ok (finished_step volatile tx)
message_step here volatile s _ = Ok (nothing_done volatile)

-- ---- room

-- the cells of a node that no fact holds
abbrev pub cells_spare : Cluster → List Fact → ℕ
cells_spare cluster facts = cluster.cells - cells_held facts

-- whether a fact needs more cells than are spare
abbrev pub is_without_room : Cluster → List Fact → Fact → Bool
is_without_room cluster facts fact = nat_lt (cells_spare cluster facts) (cells_needed fact)

-- a new fact needs room, and crowds no version
abbrev pub with_room : Cluster → List Fact → NodeStep → Option Fact → Result NodeStep StepFault
with_room cluster facts step None = Ok step
with_room cluster facts step (Some fact) =
    if is_without_room cluster facts fact then Err (StepFault.NoRoom (cells_needed fact) (cells_spare cluster facts))
    else (if is_crowding facts fact then Err StepFault.Crowded else Ok step)

abbrev pub checked_for_room : Cluster → List Fact → Result NodeStep StepFault → Result NodeStep StepFault
checked_for_room cluster facts (Err fault) = Err fault
checked_for_room cluster facts (Ok step) = with_room cluster facts step step.fact

-- ---- the step

-- whether a message is for this node, and of its cluster
abbrev pub is_own_message : Cluster → ℕ → Envelope → Bool
is_own_message cluster me envelope =
    envelope.to == me && is_centre cluster envelope.from && message_belongs cluster envelope.message

-- what an input does at a node
abbrev pub step_of : Here → Volatile → Input → Result NodeStep StepFault
step_of here volatile (Input.Message envelope) =
    if is_own_message here.cluster here.me envelope
    then checked_for_room here.cluster here.facts (message_step here volatile envelope.from envelope.message)
    else Err StepFault.Foreign
step_of here volatile Input.Tick = Ok (tick_step here volatile)
step_of here volatile Input.Sweep = Ok (sweep_step here volatile)
step_of here volatile (Input.Read key) = Ok (answering volatile (Answer.Read (Visible.read here.facts key)))
step_of here volatile (Input.Begin parts) = Ok (begin_step here volatile parts)
