-- After each list of events the disks have the logs of an allowed ledger.
use Rattle.std.proofs.Common.{◌≡◌, arith, Err, List, Ok, Result, [], ◌∷◌, refl, sym, subst}
use Rattle.std.specs.List.{AllByRecursion}
use Rattle.mdcc_option.specs.declared.cluster.Cluster.{Cluster}
use Rattle.mdcc_def_language.specs.declared.events.Event.{Event}
use Rattle.mdcc_def_language.specs.declared.world.EventFault.{EventFault}
use Rattle.mdcc_def_protocol.specs.IsCluster.{IsCluster}
use Rattle.mdcc_theorem_agreement.specs.Laws.{IsLedger}
use Rattle.mdcc_def_simulation.specs.Events.{after_event}
use Rattle.mdcc_def_simulation.specs.Runs.{run_from, run_of}
use Rattle.mdcc_def_simulation.specs.State.{Happened, World, after_lines, first_world}
use Rattle.mdcc_disks.specs.Memory.{AllMemory}
use Rattle.mdcc_theorem_trace.proofs.Laws as trace
use Rattle.mdcc_theorem_trace_limits.proofs.Short as limits
use Rattle.mdcc_theorem_worlds.proofs.Begins.{first-stands}
use Rattle.mdcc_theorem_worlds.proofs.Staying.{event-between}
use Rattle.mdcc_theorem_worlds.specs.Events.{IsBetweenEvents}
use Rattle.mdcc_theorem_worlds.specs.Words.{IsGivenEvent}
use Rattle.mdcc_theorem_audit_traces.proofs.Read.{disks-audited}
use Rattle.mdcc_theorem_audit_traces.specs.Disks.{AreAudited, HaveLogs}
use Rattle.mdcc_theorem_agreement.proofs.VersionsLow.{few-begun}

next-between : (event : Event) (events : List Event) (h : Happened) → ((next : Happened) → after_event h.world event ≡ Ok next → IsBetweenEvents (run_from events (after_lines h.lines next)).world)
    → IsBetweenEvents h.world → IsBetweenEvents (run_from (event ∷ events) h).world
next-between event events h go between = by_answer (after_event h.world event) refl
  where
    by_answer : (r : Result Happened EventFault) → after_event h.world event ≡ r → IsBetweenEvents (run_from (event ∷ events) h).world
    by_answer (Err fault) e = rw (e, run_from) between
    by_answer (Ok next) e = rw (e, run_from) (go next e)

run-between : (events : List Event) (h : Happened) → AllByRecursion IsGivenEvent events → IsBetweenEvents h.world → IsBetweenEvents (run_from events h).world
run-between [] h given between = between
run-between (event ∷ events) h given between =
    next-between event events h
    (λ next e. run-between events (after_lines h.lines next) given.1 (let stays = event-between h.world event next between given.0 e in record { itself = stays.itself; few = stays.few })) between

module _ (cluster : Cluster) (is : IsCluster cluster) (events : List Event) where
  abbrev after : World
  after = (run_of (first_world cluster) events).world

  of-cluster : after.cluster ≡ cluster
  of-cluster = (trace.holds cluster is events).same

  ledger-after : IsLedger cluster after.ledger
  ledger-after = record { of_cluster = is; allowed = trace.allowed cluster is events; few = few-begun after.ledger (limits.ledger-short cluster is events) }

  pub trace-audited : AllByRecursion IsGivenEvent events → (disks : AllMemory) → HaveLogs disks after → AreAudited cluster after.ledger disks
  trace-audited given disks show =
      let between = run-between events (record { world = first_world cluster; lines = [] }) given (record { itself = first-stands cluster is; few = omega arith }) in
      subst (λ (c : Cluster). AreAudited c after.ledger disks) of-cluster
      (disks-audited after disks between.itself show (subst (λ (c : Cluster). IsLedger c after.ledger) (sym of-cluster) ledger-after))
