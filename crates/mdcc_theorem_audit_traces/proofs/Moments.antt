-- The ledger of each moment of a trace is an allowed one.
use Rattle.std.proofs.Common.{◌≤◌, ◌^◌, ◌-◌, List, [], ◌∷◌, ◌++◌, arith, length, subst}
use Rattle.mdcc_option.specs.declared.cluster.Cluster.{Cluster}
use Rattle.mdcc_def_language.specs.declared.events.Event.{Event}
use Rattle.mdcc_def_protocol.specs.IsCluster.{IsCluster}
use Rattle.mdcc_def_ledger.specs.AllowedLedgers.{IsAllowed}
use Rattle.mdcc_def_ledger.specs.Ledger.{Entry}
use Rattle.mdcc_theorem_agreement.specs.Laws.{IsLedger}
use Rattle.mdcc_theorem_trace.proofs.Laws as trace
use Rattle.mdcc_theorem_trace_limits.proofs.Short as limits
use Rattle.mdcc_theorem_audit_traces.specs.Traces.{IsMoment}
use Rattle.mdcc_theorem_agreement.proofs.VersionsLow.{few-begun}

allowed-before : (cluster : Cluster) (later earlier : List Entry) → IsAllowed cluster (later ++ earlier) → IsAllowed cluster earlier
allowed-before cluster [] earlier ok = ok
allowed-before cluster (e ∷ later) earlier ok = allowed-before cluster later earlier ok.0

no-longer : (later earlier : List Entry) → length earlier ≤ length (later ++ earlier)
no-longer [] earlier = omega arith
no-longer (e ∷ later) earlier = omega (arith, no-longer later earlier)

pub moment-ledger : (cluster : Cluster) → IsCluster cluster → (events : List Event) (ledger : List Entry) → IsMoment cluster events ledger → IsLedger cluster ledger
moment-ledger cluster is events ledger (later, parts) =
    let whole : length (later ++ ledger) ≤ 2 ^ 64 - 1 = subst (λ (es : List Entry). length es ≤ 2 ^ 64 - 1) parts (limits.ledger-short cluster is events) in
    let less : length ledger ≤ length (later ++ ledger) = no-longer later ledger in
    record {
      of_cluster = is;
      allowed = allowed-before cluster later ledger (subst (IsAllowed cluster) parts (trace.allowed cluster is events));
      few = few-begun ledger (omega (arith, whole, less));
    }
