-- The node's rule at a tick: first the manager's open transactions, then the dangling ones.
use Rattle.std.specs.Prelude.{Err, List, Ok, Result, [], fold, ℕ}
use Rattle.mdcc_option.specs.declared.choices.Claim.{Claim}
use Rattle.mdcc_def_protocol.specs.Leader.{claim_of_choice}
use Rattle.mdcc_def_rules.specs.LeaderRules.{led_of}
use Rattle.mdcc_def_protocol.specs.Manager
use Rattle.mdcc_def_rules.specs.Messages.{to_all}
use Rattle.mdcc_def_protocol.specs.Recover
use Rattle.mdcc_def_rules.specs.Steps.{NodeStep, StepPart, only_sending, part_and_then, step_of_part}
use Rattle.mdcc_def_protocol.specs.Volatile.{Managing, Recovering, Volatile, txs_opened, with_manager, with_recovery}
use Rattle.mdcc_def_protocol.specs.declared.leader.LeadFault.{LeadFault}
use Rattle.mdcc_def_protocol.specs.declared.manager.ManagerAct.{ManagerAct}
use Rattle.mdcc_def_messages.specs.declared.messages.Message.{Message}
use Rattle.mdcc_def_protocol.specs.declared.recover.RecoverAct.{RecoverAct}
use Rattle.mdcc_def_rules.specs.Here.{Here}

-- at a tick a claim that the leader refuses is left out
abbrev pub led_or_left : Volatile → Result StepPart LeadFault → StepPart
led_or_left volatile (Ok part) = part
led_or_left volatile (Err fault) = only_sending volatile []

-- a claim is led here
abbrev pub claim_led : Here → Volatile → Claim → StepPart
claim_led here volatile claim = led_or_left volatile (led_of here volatile claim)

-- ---- open transactions

-- an act of the manager at a tick
abbrev pub manager_act : Here → Volatile → ManagerAct → StepPart
manager_act here volatile (ManagerAct.Propose choice) = only_sending volatile (to_all here.cluster.quorums here.me (Message.Propose choice))
manager_act here volatile (ManagerAct.LeadHere choice) = claim_led here volatile (claim_of_choice choice)
manager_act here volatile act = only_sending volatile []

abbrev pub manager_ticked_by : Here → Volatile → List ManagerAct × Managing → StepPart
manager_ticked_by here volatile (acts, manager) =
    fold (part_and_then (manager_act here)) (only_sending (with_manager volatile manager) []) acts

-- the first half
abbrev pub manager_ticked : Here → Volatile → StepPart
manager_ticked here volatile =
    manager_ticked_by here volatile (Manager.tick here.cluster.quorums volatile.manager)

-- ---- dangling transactions

-- an act of the recovery
abbrev pub recovery_act : Here → Volatile → RecoverAct → StepPart
recovery_act here volatile (RecoverAct.Ask tx key version) = only_sending volatile (to_all here.cluster.quorums here.me (Message.Ask tx key version))
recovery_act here volatile (RecoverAct.LeadHere claim) = claim_led here volatile claim

abbrev pub recovery_ticked_by : Here → StepPart → List RecoverAct × Recovering → StepPart
recovery_ticked_by here first (acts, recovery) =
    fold (part_and_then (recovery_act here)) (record first { after = with_recovery first.after recovery }) acts

-- the second half
abbrev pub recovery_ticked : Here → StepPart → StepPart
recovery_ticked here first =
    recovery_ticked_by here first
    (Recover.tick here.cluster.quorums here.facts first.after.recovery (txs_opened first.after.manager))

-- ---- both

abbrev pub tick_parts : Here → Volatile → StepPart
tick_parts here volatile = recovery_ticked here (manager_ticked here volatile)

-- time has passed
abbrev pub tick_step : Here → Volatile → NodeStep
tick_step here volatile = step_of_part (tick_parts here volatile)
