-- The laws of all traces, from the law that allowed ledgers have one mark.
use Rattle.std.proofs.Common.{List, subst}
use Rattle.mdcc_option.specs.declared.cluster.Cluster.{Cluster}
use Rattle.mdcc_def_ledger.specs.AllowedLedgers.{IsAllowed}
use Rattle.mdcc_def_protocol.specs.IsCluster.{IsCluster}
use Rattle.mdcc_def_messages.specs.Mailbox.{Sent}
use Rattle.mdcc_def_simulation.specs.State.{first_world}
use Rattle.mdcc_def_simulation.specs.Runs.{run_of}
use Rattle.mdcc_def_language.specs.declared.events.Event.{Event}
use Rattle.mdcc_theorem_trace_states.specs.Words.{Each}
use Rattle.mdcc_theorem_trace_states.specs.Invariant.{Holds}
use Rattle.mdcc_theorem_trace_states.specs.Sound.{IsSound}
use Rattle.mdcc_theorem_trace_states.specs.MessageMeaning.{IsBackedMessage, TrueWhenSent}
use Rattle.mdcc_theorem_trace_states.specs.Steps.{AreGood}
use Rattle.mdcc_theorem_trace_states.proofs.Schedules.{trace-holds}
use Rattle.mdcc_theorem_trace.proofs.Full.{OneMarkLaw, full-good}
use Rattle.mdcc_theorem_trace.proofs.Single.{one-mark}
use Rattle.mdcc_theorem_trace_states.proofs.Lists.{Each-like}
use Rattle.mdcc_theorem_trace.proofs.Lasting.{backed-message}

pub law : OneMarkLaw
law cluster es sizes legal sound = one-mark cluster es sizes legal

-- every step of a node is good
pub all-good : AreGood IsSound
all-good = full-good law

pub holds : (cluster : Cluster) → IsCluster cluster → (events : List Event) → Holds IsSound cluster (run_of (first_world cluster) events).world
holds cluster is events = trace-holds IsSound cluster (all-good) is.quorums events

pub allowed : (cluster : Cluster) → IsCluster cluster → (events : List Event) → IsAllowed cluster (run_of (first_world cluster) events).world.ledger
allowed cluster is events =
    let h = holds cluster is events in subst (λ z. IsAllowed z (run_of (first_world cluster) events).world.ledger) h.same h.legal

pub all_sent : (cluster : Cluster) → IsCluster cluster → (events : List Event) →
    Each (λ (s : Sent). IsBackedMessage cluster (run_of (first_world cluster) events).world.ledger s.envelope) (run_of (first_world cluster) events).world.sent
all_sent cluster is events =
    let h = holds cluster is events in
    Each-like (λ (s : Sent). TrueWhenSent cluster (run_of (first_world cluster) events).world.ledger s.envelope) (λ (s : Sent). IsBackedMessage cluster (run_of (first_world cluster) events).world.ledger s.envelope)
    (run_of (first_world cluster) events).world.sent
    (λ s g. backed-message cluster is.quorums (run_of (first_world cluster) events).world.ledger (allowed cluster is events) s.envelope g)
    (subst (λ z. Each (λ (s : Sent). TrueWhenSent z (run_of (first_world cluster) events).world.ledger s.envelope) (run_of (first_world cluster) events).world.sent) h.same h.sent)
