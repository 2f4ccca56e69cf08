-- What a centre made of an input, before it is let out.
use Rattle.std.specs.Prelude.{◌≡◌, Result, ℕ}
use Rattle.mdcc_def_simulation.specs.State.{World}
use Rattle.mdcc_def_simulation.specs.AppliedSteps.{input_happened, step_at}
use Rattle.mdcc_def_simulation.specs.Limits.{input_applied}
use Rattle.mdcc_def_messages.specs.declared.messages.Envelope.{Envelope}
use Rattle.mdcc_def_rules.specs.declared.node.Input.{Input}
use Rattle.mdcc_def_rules.specs.declared.node.Step.{Step}
use Rattle.mdcc_def_rules.specs.declared.node.StepFault.{StepFault}
use Rattle.mdcc_world.specs.Nodes.{NodesRepresent}
use Rattle.mdcc_world.specs.Represents.{IsBeforeStep}
use Rattle.mdcc_world.specs.declared.world.World.{World as TheWorld}
use Rattle.mdcc_theorem_worlds.specs.DeliveryProgress.{after_numbered_message, message_counted}

-- its node has taken the input, and all else is as before
pub record HasRun (world : TheWorld) (w : World) (a : ℕ) (input : Input) (made : Result Step StepFault) : Type 0 where
  pub before : IsBeforeStep world w a input made
  pub nodes : NodesRepresent world.nodes.items (input_happened w a (step_at w a input)).world

-- it is so of some world and input
abbrev pub HasRunSome : TheWorld → ℕ → Result Step StepFault → Type 0
HasRunSome world a made = (w : World) × (input : Input) × HasRun world w a input made

-- the same of the message of a number, at the centre to which it goes
pub record HasRunMessage (world : TheWorld) (w : World) (number a : ℕ) (made : Result Step StepFault) : Type 0 where
  pub envelope : Envelope
  pub itself : HasRun world (message_counted w number) a (Input.Message envelope) made
  pub comes : after_numbered_message w number ≡ input_applied (message_counted w number) a (Input.Message envelope)
