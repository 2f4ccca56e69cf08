-- Which nodes stand for the centres of a world.
use Rattle.std.specs.Prelude.{◌≡◌, ◌+◌, ◌-◌, ◌≤◌, Bool, Err, List, None, Ok, Option, Result, Some, false, get_or, length, slice_get, true, ℕ}
use Rattle.mdcc_base.specs.declared.outside.Image.{Image}
use Rattle.mdcc_node_log.specs.Nodes.{CentreStore, IsNodeOf}
use Rattle.mdcc_world_logs.specs.Tails.{tail_at}
use Rattle.mdcc_world_logs.specs.declared.logs.Logs.{Logs}
use Rattle.mdcc_node.specs.StepAnswers.{is_step_memory}
use Rattle.mdcc_node.specs.declared.node.Node.{Node}
use Rattle.mdcc_def_protocol.specs.Belongs.{is_centre}
use Rattle.mdcc_def_ledger.specs.Ledger.{facts_of}
use Rattle.mdcc_def_simulation.specs.State.{World, centre_at, is_up_at}
use Rattle.mdcc_def_rules.specs.declared.node.StepFault.{StepFault}
use Rattle.mdcc_theorem_worlds.specs.WorldInvariant.{IsWorld}

-- a node for each centre; that of a centre that is up stands over a store of what the centre added, which has the cells of the
-- cluster that these facts leave, and that of another counts for nothing
pub record NodesRepresent (nodes : List (Node CentreStore)) (w : World) : Type 0 where
  pub as_many : length nodes ≡ w.cluster.quorums.centres
  pub each : (place : ℕ) (node : Node CentreStore) → slice_get nodes place ≡ Some node → (centre_at w (place + 1)).is_up ≡ true
      → IsNodeOf node w.cluster (place + 1) (facts_of w.ledger (place + 1)) (centre_at w (place + 1)).volatile

-- they stand for some world in which a centre is up
pub record RunsAt (nodes : List (Node CentreStore)) (a : ℕ) : Type 0 where
  pub world : World
  pub itself : IsWorld world
  pub standing : NodesRepresent nodes world
  pub up : is_up_at world a ≡ true

-- which centres are up
abbrev pub UpsRepresent : List Bool → World → Type 0
UpsRepresent ups w = (a : ℕ) → 1 ≤ a → a ≤ 9 → get_or ups (a - 1) false ≡ is_up_at w a

-- where a stop is armed: inside which device call of an append or of the checkpoint behind it, and with which image
abbrev pub StopsRepresent : List (Option (ℕ × Image)) → World → Type 0
StopsRepresent stops w = (a : ℕ) → is_centre w.cluster a ≡ true → get_or stops (a - 1) None ≡ (centre_at w a).stop

-- how many frames the tail of the log of each centre has, whether it is up or down
abbrev pub TailsRepresent : Logs → World → Type 0
TailsRepresent logs w = (a : ℕ) → is_centre w.cluster a ≡ true → tail_at logs a ≡ (centre_at w a).tail

-- whether there was no memory for an input
abbrev pub is_memory_run : {T : Type 0} → Result T StepFault → Bool
is_memory_run (Ok made) = false
is_memory_run (Err fault) = is_step_memory fault
