-- No message of a trace is too long.
use Rattle.std.specs.List.{AllByRecursion}
use Rattle.std.specs.Prelude.{List, ◌≤◌}
use Rattle.mdcc_option.specs.declared.cluster.Cluster.{Cluster}
use Rattle.mdcc_def_messages.specs.Lengths.{message_length}
use Rattle.mdcc_def_messages.specs.Mailbox.{Sent}
use Rattle.mdcc_def_messages.specs.WellFormed.{IsWellFormedMessage}
use Rattle.mdcc_def_protocol.specs.IsCluster.{IsCluster}
use Rattle.mdcc_def_language.specs.declared.events.Event.{Event}
use Rattle.mdcc_def_simulation.specs.State.{first_world}
use Rattle.mdcc_def_simulation.specs.Runs.{run_of}
use Rattle.mdcc_theorem_trace_states.specs.Words.{Each}
use Rattle.mdcc_theorem_worlds.specs.Words.{IsGivenEvent}

-- a message whose parts are well-formed has at most 1,473,505 bytes: it reports at most 1,023 accepted and 32,767 rejected marks
abbrev pub WellFormedAreShort : Type 0
WellFormedAreShort =
    (cluster : Cluster) → IsCluster cluster → (events : List Event)
    → Each (λ (s : Sent). IsWellFormedMessage s.envelope.message → message_length s.envelope ≤ 1473505) (run_of (first_world cluster) events).world.sent

-- so each message has, where the keys and bodies of the events are such
abbrev pub MessagesAreShort : Type 0
MessagesAreShort =
    (cluster : Cluster) → IsCluster cluster → (events : List Event) → AllByRecursion IsGivenEvent events
    → Each (λ (s : Sent). message_length s.envelope ≤ 1473505) (run_of (first_world cluster) events).world.sent
