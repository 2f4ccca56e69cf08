-- Messages that are delivered: by their numbers, or until none waits.
use Rattle.std.specs.List.{list_any}
use Rattle.std.specs.Prelude.{Bool, Err, List, None, Ok, Option, Result, Some, [], false, if◌then◌else◌, length, suc, true, zero, ℕ, ◌&&◌, ◌++◌, ◌+◌, ◌-◌, ◌==◌, ◌||◌, ◌∷◌}
use Rattle.mdcc_def_language.specs.declared.lines.Line.{Line}
use Rattle.mdcc_def_messages.specs.declared.messages.Envelope.{Envelope}
use Rattle.mdcc_def_rules.specs.declared.node.Input.{Input}
use Rattle.mdcc_def_language.specs.declared.world.EventFault.{EventFault}
use Rattle.mdcc_def_language.specs.declared.world.LimitName.{LimitName}
use Rattle.mdcc_def_messages.specs.Mailbox.{Sent, with_delivered, numbered}
use Rattle.mdcc_def_simulation.specs.State.{World, is_up_at, next_message, Happened, after_lines}
use Rattle.mdcc_def_simulation.specs.Limits.{most_events, within_events, if_up, input_applied, with_lines}

-- the message of a number is delivered, which is an event; it counts as delivered whatever its step does
abbrev pub after_message : World → ℕ → Envelope → Result Happened EventFault
after_message w number envelope =
    input_applied (record w { sent = with_delivered w.sent (number - 1); events = w.events + 1 }) envelope.to (Input.Message envelope)

abbrev pub deliver_line : ℕ → World → List Line
deliver_line number w = Line.Deliver number (next_message w) ∷ []

-- one number of a deliver line
abbrev pub after_delivery_by : World → ℕ → Option Sent → Result Happened EventFault
after_delivery_by w number None = Err (EventFault.NoMessage number)
after_delivery_by w number (Some sent) =
    if_up w sent.envelope.to (within_events w (with_lines (deliver_line number) (after_message w number sent.envelope)))

abbrev pub after_delivery : World → ℕ → Result Happened EventFault
after_delivery w number = after_delivery_by w number (numbered w.sent number)

-- the numbers of a deliver line, in turn; the first that is refused refuses the line
abbrev pub after_deliveries : List ℕ → Happened → Result Happened EventFault
after_deliveries [] h = Ok h
after_deliveries (number ∷ numbers) h =
    elim (after_delivery h.world number) [
      | Err fault ↦ Err fault
      | Ok next ↦ after_deliveries numbers (after_lines h.lines next)
    ]

-- whether a message waits for a centre that is up and, where centres are listed, among them
abbrev pub is_waiting_for : World → List ℕ → Sent → Bool
is_waiting_for w listed sent =
    if sent.is_delivered then false
    else is_up_at w sent.envelope.to && (length listed == 0 || list_any (λ a. a == sent.envelope.to) listed)

-- the least number of such a message
abbrev pub first_waiting : World → List ℕ → ℕ → List Sent → Option (ℕ × Envelope)
first_waiting w listed number [] = None
first_waiting w listed number (sent ∷ rest) =
    elim (is_waiting_for w listed sent) [
      | true ↦ Some (number, sent.envelope)
      | false ↦ first_waiting w listed (number + 1) rest
    ]

-- deliver again and again, until none waits; as many events are left as the first number says
abbrev pub settled_of : ℕ → List ℕ → Happened → ℕ → Result (Happened × ℕ) EventFault
settled_of zero listed h deliveries =
    elim (first_waiting h.world listed 1 h.world.sent) [
      | None ↦ Ok (h, deliveries)
      | Some next ↦ Err (EventFault.Limit LimitName.Events most_events)
    ]
settled_of (suc left) listed h deliveries =
    elim (first_waiting h.world listed 1 h.world.sent) [
      | None ↦ Ok (h, deliveries)
      | Some next ↦ elim (after_message h.world next.0 next.1) [
        | Err fault ↦ Err fault
        | Ok after ↦ settled_of left listed (after_lines h.lines after) (deliveries + 1)
      ]
    ]

abbrev pub settled_line : Result (Happened × ℕ) EventFault → Result Happened EventFault
settled_line (Err fault) = Err fault
settled_line (Ok (h, deliveries)) =
    Ok (record { world = h.world; lines = h.lines ++ Line.Settled deliveries (next_message h.world) ∷ [] })

-- a settle line
abbrev pub after_settle : World → List ℕ → Result Happened EventFault
after_settle w listed =
    settled_line (settled_of (most_events - w.events) listed (record { world = w; lines = Line.Settle listed ∷ [] }) 0)
