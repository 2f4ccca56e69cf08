-- Which world of the definitions a world stands for.
use Rattle.std.specs.Bool.{OnFalse}
use Rattle.std.specs.Prelude.{◌≡◌, ◌≤◌, ◌++◌, Err, List, Ok, Result, Some, [], length, map, true, ℕ}
use Rattle.mdcc_world_logs.specs.Represents.{LogsRepresent}
use Rattle.mdcc_node.specs.StepAnswers.{step_result}
use Rattle.mdcc_world_decisions.specs.Represents.{RepresentsLedger}
use Rattle.mdcc_def_protocol.specs.Belongs.{is_centre}
use Rattle.mdcc_def_ledger.specs.Ledger.{Entry, facts_of}
use Rattle.mdcc_def_rules.specs.Steps.{NodeStep}
use Rattle.mdcc_def_simulation.specs.State.{Happened, World, is_up_at}
use Rattle.mdcc_def_simulation.specs.AppliedSteps.{step_at}
use Rattle.mdcc_def_language.specs.declared.lines.Line.{Line}
use Rattle.mdcc_def_rules.specs.declared.node.Input.{Input}
use Rattle.mdcc_def_rules.specs.declared.node.Step.{Step}
use Rattle.mdcc_def_rules.specs.declared.node.StepFault.{StepFault}
use Rattle.mdcc_def_language.specs.declared.world.EventFault.{EventFault}
use Rattle.mdcc_theorem_node_steps.specs.NodeInvariant.{accept_length_in}
use Rattle.mdcc_theorem_node_steps.specs.Inputs.{IsWellFormedInput}
use Rattle.mdcc_world.specs.Nodes.{NodesRepresent, StopsRepresent, TailsRepresent, UpsRepresent}
use Rattle.mdcc_world.specs.declared.world.World.{World as TheWorld}
use Rattle.mdcc_theorem_worlds.specs.WorldInvariant.{IsWorld}
use Rattle.mdcc_def_simulation.specs.Limits.{is_out_of_memory}

-- its cluster, its messages and their bytes, the reads that were made, the number of events, which centres are up, and where a stop is
-- armed
pub record RecordsRepresent (world : TheWorld) (w : World) : Type 0 where
  pub itself : IsWorld w
  pub cluster : world.cluster ≡ w.cluster
  pub network : world.network ≡ w.sent
  pub bytes : world.bytes ≡ w.bytes
  pub reads : world.reads ≡ map Some w.reads
  pub few_reads : length w.reads ≤ w.events
  pub events : world.events ≡ w.events
  pub ups : UpsRepresent world.up w
  pub stops : StopsRepresent world.stops w

-- with these go the votes that were counted, the nodes, and the logs: on the disks of each centre stand its facts of the ledger, and
-- the tail of its log has as many frames
pub record IsLike (world : TheWorld) (w : World) : Type 0 where
  pub records : RecordsRepresent world w
  pub decisions : RepresentsLedger world.decisions w.cluster.quorums w.ledger
  pub nodes : NodesRepresent world.nodes.items w
  pub logs : LogsRepresent world.logs w.cluster.quorums.centres (is_up_at w) (facts_of w.ledger)
  pub tails : TailsRepresent world.logs w

-- and there were no more events than there may be
pub record RepresentsWorld (world : TheWorld) (w : World) : Type 0 where
  pub like : IsLike world w
  pub few : w.events ≤ 100000

-- the entries of the ledger that a step tells beside its fact
abbrev pub entries_of_step : Result NodeStep StepFault → List Entry
entries_of_step (Ok step) = step.entries
entries_of_step (Err fault) = []

-- before what a centre that is up made of an input is taken: all but its node is as before, and its entries were told
pub record IsBeforeStep (world : TheWorld) (w : World) (a : ℕ) (input : Input) (made : Result Step StepFault) : Type 0 where
  pub records : RecordsRepresent world w
  pub centre : is_centre w.cluster a ≡ true
  pub up : is_up_at w a ≡ true
  pub well_formed : IsWellFormedInput input
  pub short : accept_length_in input ≤ 2097152
  pub decisions : RepresentsLedger world.decisions w.cluster.quorums (entries_of_step (step_at w a input) ++ w.ledger)
  pub logs : LogsRepresent world.logs w.cluster.quorums.centres (is_up_at w) (facts_of w.ledger)
  pub tails : TailsRepresent world.logs w
  pub step_itself : made ≡ step_result (step_at w a input)

-- and after it
pub record IsAfterStep (world : TheWorld) (before after : List Line) (h : Happened) : Type 0 where
  pub records : RecordsRepresent world h.world
  pub decisions : RepresentsLedger world.decisions h.world.cluster.quorums h.world.ledger
  pub logs : LogsRepresent world.logs h.world.cluster.quorums.centres (is_up_at h.world) (facts_of h.world.ledger)
  pub tails : TailsRepresent world.logs h.world
  pub lines : after ≡ before ++ h.lines

-- the world stands for what happened, and its lines stand behind the others
pub record HasHappened (world : TheWorld) (before after : List Line) (h : Happened) : Type 0 where
  pub like : IsLike world h.world
  pub lines : after ≡ before ++ h.lines

-- the world is like some world
abbrev pub IsLikeSome : TheWorld → Type 0
IsLikeSome world = (w : World) × IsLike world w

-- what is to happen has come about as this says, or is refused as it is to be; there may always be no memory
abbrev pub ComesAs : {T : Type 0} → (Happened → Type 0) → Result T EventFault → Result Happened EventFault → Type 0
ComesAs P (Ok x) (Ok h) = P h
ComesAs P (Ok x) (Err fault) = ⊥
ComesAs P (Err fault) expected = OnFalse (is_out_of_memory fault) (expected ≡ Err fault)

abbrev pub Happens : {T : Type 0} → TheWorld → List Line → List Line → Result T EventFault → Result Happened EventFault → Type 0
Happens world before after result expected = ComesAs (HasHappened world before after) result expected

-- what a centre made is taken, its node apart
abbrev pub StepApplies : {T : Type 0} → TheWorld → List Line → List Line → Result T EventFault → Result Happened EventFault → Type 0
StepApplies world before after result expected = ComesAs (IsAfterStep world before after) result expected
