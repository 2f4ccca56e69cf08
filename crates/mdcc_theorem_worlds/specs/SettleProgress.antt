-- How far a settle has come.
use Rattle.std.specs.Prelude.{◌≡◌, ◌<◌, ◌≤◌, Err, List, None, Ok, Result, Some, [], ℕ, ◌+◌, ◌++◌, ◌-◌, ◌∷◌}
use Rattle.mdcc_def_simulation.specs.State.{Happened, World, after_lines, counted_event, next_message}
use Rattle.mdcc_def_simulation.specs.Events.{after_event}
use Rattle.mdcc_def_simulation.specs.Deliveries.{first_waiting, settled_of}
use Rattle.mdcc_def_simulation.specs.Limits.{most_events}
use Rattle.mdcc_def_language.specs.declared.events.Event.{Event}
use Rattle.mdcc_def_language.specs.declared.lines.Line.{Line}
use Rattle.mdcc_def_messages.specs.declared.messages.Envelope.{Envelope}
use Rattle.mdcc_def_language.specs.declared.world.EventFault.{EventFault}
use Rattle.mdcc_def_language.specs.declared.world.LimitName.{LimitName}
use Rattle.mdcc_theorem_worlds.specs.DeliveryProgress.{after_numbered_message}

-- the line is counted and told
abbrev pub settle_reported : World → List ℕ → Happened
settle_reported w listed = record { world = counted_event w; lines = Line.Settle listed ∷ [] }

-- what comes of a settle that has come so far, with so many deliveries
abbrev pub settle_from : List ℕ → Happened → ℕ → Result (Happened × ℕ) EventFault
settle_from listed h deliveries = settled_of (most_events - h.world.events) listed h deliveries

-- it is told behind the others how many messages were delivered
abbrev pub settle_ended : Happened → ℕ → Happened
settle_ended h deliveries = record { world = h.world; lines = h.lines ++ Line.Settled deliveries (next_message h.world) ∷ [] }

-- so much of a settle line has happened, with so many deliveries
pub record IsSettling (w : World) (listed : List ℕ) (reached : Happened) (deliveries : ℕ) : Type 0 where
  pub answer : settle_from listed (settle_reported w listed) 0 ≡ settle_from listed reached deliveries
  pub count : reached.world.events ≡ w.events + 1 + deliveries

-- a settle begins so
abbrev pub SettlesBegin : Type 0
SettlesBegin = (w : World) (listed : List ℕ) → IsSettling w listed (settle_reported w listed) 0

-- while a message waits, the first that does is delivered
abbrev pub SettlesGoOn : Type 0
SettlesGoOn =
    (w : World) (listed : List ℕ) (reached after : Happened) (deliveries : ℕ) (next : ℕ × Envelope) → IsSettling w listed reached deliveries
    → first_waiting reached.world listed 1 reached.world.sent ≡ Some next → reached.world.events < most_events
    → after_numbered_message reached.world next.0 ≡ Ok after
    → IsSettling w listed (after_lines reached.lines after) (deliveries + 1)

-- a delivery that is refused refuses the line
abbrev pub SettlesBreak : Type 0
SettlesBreak =
    (w : World) (listed : List ℕ) (reached : Happened) (deliveries : ℕ) (next : ℕ × Envelope) (fault : EventFault) → IsSettling w listed reached deliveries
    → first_waiting reached.world listed 1 reached.world.sent ≡ Some next → reached.world.events < most_events → w.events < most_events
    → after_numbered_message reached.world next.0 ≡ Err fault
    → after_event w (Event.Settle listed) ≡ Err fault

-- where none waits, that is told
abbrev pub SettlesEnd : Type 0
SettlesEnd =
    (w : World) (listed : List ℕ) (reached : Happened) (deliveries : ℕ) → IsSettling w listed reached deliveries
    → first_waiting reached.world listed 1 reached.world.sent ≡ None → w.events < most_events
    → after_event w (Event.Settle listed) ≡ Ok (settle_ended reached deliveries)

-- where one waits after as many events as there may be, the line is refused
abbrev pub SettlesStop : Type 0
SettlesStop =
    (w : World) (listed : List ℕ) (reached : Happened) (deliveries : ℕ) (next : ℕ × Envelope) → IsSettling w listed reached deliveries
    → first_waiting reached.world listed 1 reached.world.sent ≡ Some next → most_events ≤ reached.world.events
    → after_event w (Event.Settle listed) ≡ Err (EventFault.Limit LimitName.Events most_events)

-- and so it is where there were as many before it
abbrev pub SettlesFail : Type 0
SettlesFail =
    (w : World) (listed : List ℕ) → most_events ≤ w.events
    → after_event w (Event.Settle listed) ≡ Err (EventFault.Limit LimitName.Events most_events)
