-- The answers to all messages of a trace.
use Rattle.std.proofs.Common.{List, refl, subst, sym, true, ◌≡◌}
use Rattle.mdcc_option.specs.declared.cluster.Cluster.{Cluster}
use Rattle.mdcc_def_protocol.specs.IsCluster.{IsCluster}
use Rattle.mdcc_def_messages.specs.Mailbox.{Sent}
use Rattle.mdcc_def_simulation.specs.State.{World, centre_at, first_world, is_up_at}
use Rattle.mdcc_def_simulation.specs.Runs.{run_of}
use Rattle.mdcc_def_simulation.specs.AppliedSteps.{step_at}
use Rattle.mdcc_def_language.specs.declared.events.Event.{Event}
use Rattle.mdcc_def_messages.specs.declared.messages.Envelope.{Envelope}
use Rattle.mdcc_def_rules.specs.declared.node.Input.{Input}
use Rattle.mdcc_theorem_trace_states.specs.Sound.{IsSound}
use Rattle.mdcc_theorem_trace_states.specs.MessageMeaning.{IsBackedMessage}
use Rattle.mdcc_theorem_trace_states.proofs.Events.{is-up}
use Rattle.mdcc_theorem_trace_states.proofs.Lists.{Each-like}
use Rattle.mdcc_theorem_trace.proofs.Laws.{all_sent, holds}
use Rattle.mdcc_theorem_trace_limits.proofs.Rounds.{rounds-low}
use Rattle.mdcc_theorem_trace_limits.proofs.Short.{ledger-shorter}
use Rattle.mdcc_theorem_trace_answers.specs.Answered.{AreAnswered, IsStepAnswered}
use Rattle.mdcc_theorem_trace_answers.proofs.Answers.{envelope-answered}

pub all-answered : (cluster : Cluster) → IsCluster cluster → (events : List Event) → AreAnswered (run_of (first_world cluster) events).world
all-answered cluster is events =
    Each-like (λ (s : Sent). IsBackedMessage cluster w.ledger s.envelope) (λ (s : Sent). is_up_at w s.envelope.to ≡ true → IsStepAnswered (step_at w s.envelope.to (Input.Message s.envelope))) w.sent
    (λ s h up. one s.envelope (subst (λ z. IsBackedMessage z w.ledger s.envelope) (sym same) h) up) (all_sent cluster is events)
  where
    w : World
    w = (run_of (first_world cluster) events).world

    same : w.cluster ≡ cluster
    same = (holds cluster is events).same

    one : (env : Envelope) → IsBackedMessage w.cluster w.ledger env → is_up_at w env.to ≡ true → IsStepAnswered (step_at w env.to (Input.Message env))
    one env h up =
        let u = is-up IsSound cluster w env.to (holds cluster is events) up in
        envelope-answered w.cluster w.ledger env.to (centre_at w env.to).volatile u (subst IsCluster (sym same) is) (ledger-shorter cluster is events)
        (λ key version. rounds-low cluster is events env.to u.centre key version) env refl h
