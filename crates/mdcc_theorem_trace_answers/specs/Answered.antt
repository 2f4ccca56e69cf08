-- Why a node may refuse a message in a trace.
use Rattle.std.specs.Prelude.{Err, Ok, Result, ⊤}
use Rattle.mdcc_def_rules.specs.Steps.{NodeStep}
use Rattle.mdcc_def_messages.specs.Mailbox.{Sent}
use Rattle.mdcc_def_simulation.specs.State.{World, is_up_at}
use Rattle.mdcc_def_simulation.specs.AppliedSteps.{step_at}
use Rattle.mdcc_def_rules.specs.declared.node.Input.{Input}
use Rattle.mdcc_def_rules.specs.declared.node.StepFault.{StepFault}
use Rattle.std.specs.Prelude.{true, ◌≡◌}
use Rattle.mdcc_theorem_trace_states.specs.Words.{Each}

-- the fact of the step needs more cells than are spare
abbrev pub IsRefusedForRoom : StepFault → Type 0
IsRefusedForRoom (StepFault.NoRoom needed spare) = ⊤
IsRefusedForRoom _ = ⊥

-- a step is taken, or refused for want of room
abbrev pub IsStepAnswered : Result NodeStep StepFault → Type 0
IsStepAnswered (Ok step) = ⊤
IsStepAnswered (Err fault) = IsRefusedForRoom fault

-- so it is with each message that was sent, where the centre that it goes to is up
abbrev pub AreAnswered : World → Type 0
AreAnswered w = Each (λ (s : Sent). is_up_at w s.envelope.to ≡ true → IsStepAnswered (step_at w s.envelope.to (Input.Message s.envelope))) w.sent
