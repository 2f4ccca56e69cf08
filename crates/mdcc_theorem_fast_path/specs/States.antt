-- The states of a trace.
use Rattle.std.specs.Prelude.{List}
use Rattle.mdcc_option.specs.declared.cluster.Cluster.{Cluster}
use Rattle.mdcc_def_language.specs.declared.events.Event.{Event}
use Rattle.mdcc_def_simulation.specs.Runs.{run_of}
use Rattle.mdcc_def_simulation.specs.State.{World, first_world}

-- the world of a cluster after the events of a schedule, or after those before the first that is refused
abbrev pub state_after : Cluster → List Event → World
state_after cluster events = (run_of (first_world cluster) events).world
