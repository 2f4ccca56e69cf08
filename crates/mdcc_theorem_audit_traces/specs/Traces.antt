-- What an audit says at the moments of a trace.
use Rattle.std.specs.List.{AllByRecursion}
use Rattle.std.specs.Prelude.{List, Ok, ◌++◌, ◌≡◌}
use Rattle.mdcc_option.specs.declared.cluster.Cluster.{Cluster}
use Rattle.mdcc_def_language.specs.declared.events.Event.{Event}
use Rattle.mdcc_def_protocol.specs.IsCluster.{IsCluster}
use Rattle.mdcc_def_ledger.specs.Ledger.{Entry}
use Rattle.mdcc_def_simulation.specs.Runs.{run_of}
use Rattle.mdcc_def_simulation.specs.State.{first_world}
use Rattle.mdcc_disks.specs.Memory.{AllMemory}
use Rattle.mdcc_theorem_worlds.specs.Words.{IsGivenEvent}
use Rattle.mdcc_audit.specs.Logs.{audit_of}
use Rattle.mdcc_theorem_audit_traces.specs.Disks.{AreAudited, HaveLogs}
use Rattle.mdcc_theorem_audit.specs.Ledgers.{logs_of, outcomes_in}

-- the ledger of the trace of these events
abbrev pub ledger_after : Cluster → List Event → List Entry
ledger_after cluster events = (run_of (first_world cluster) events).world.ledger

-- a moment of a trace is told by the entries until then, and those that came later
abbrev pub IsMoment : Cluster → List Event → List Entry → Type 0
IsMoment cluster events earlier = (later : List Entry) × (ledger_after cluster events ≡ later ++ earlier)

-- at every moment the audit of all logs gives the outcomes of that moment
abbrev pub TracesAreAudited : Type 0
TracesAreAudited =
    (cluster : Cluster) → IsCluster cluster → (events : List Event) (ledger : List Entry) → IsMoment cluster events ledger →
    audit_of cluster.quorums (logs_of cluster ledger) ≡ Ok (outcomes_in cluster ledger)

-- after each list of events, with keys and bodies, the logs that are read from disks are audited so
abbrev pub TraceDisksAreAudited : Type 0
TraceDisksAreAudited =
    (cluster : Cluster) → IsCluster cluster → (events : List Event) → AllByRecursion IsGivenEvent events →
    (disks : AllMemory) → HaveLogs disks (run_of (first_world cluster) events).world →
    AreAudited cluster (ledger_after cluster events) disks
