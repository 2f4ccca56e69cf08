-- Settle lines, delivery by delivery.
use Rattle.std.proofs.Common.{◌≡◌, ℕ, zero, suc, ◌+◌, ◌-◌, ◌≤◌, ◌<◌, ◌&&◌, Bool, true, false, List, refl, sym, ap, ◌∙◌, inl, inr, Option, Some, None, Result, Ok, Err, if◌then◌else◌, arith}
use Rattle.std.proofs.lemmas.Bool.{cases_Bool, lt-leb}
use Rattle.mdcc_def_simulation.specs.State.{Happened, World, after_lines, counted_event}
use Rattle.mdcc_def_simulation.specs.Deliveries.{after_message, first_waiting, settled_line, settled_of}
use Rattle.mdcc_def_simulation.specs.Events.{after_event}
use Rattle.mdcc_def_simulation.specs.Limits.{is_limit, is_past_events, most_events, within_events}
use Rattle.mdcc_def_language.specs.declared.events.Event.{Event}
use Rattle.mdcc_def_messages.specs.declared.messages.Envelope.{Envelope}
use Rattle.mdcc_def_language.specs.declared.world.EventFault.{EventFault}
use Rattle.mdcc_def_language.specs.declared.world.LimitName.{LimitName}
use Rattle.mdcc_theorem_worlds.proofs.Counts.{delivery-events, limit-open, past-events}
use Rattle.mdcc_theorem_worlds.proofs.Events.{delivered-is, open-is}
use Rattle.mdcc_theorem_worlds.proofs.Numbers.{waiting-numbered}
use Rattle.mdcc_theorem_worlds.specs.DeliveryProgress.{after_numbered_message}
use Rattle.mdcc_theorem_worlds.specs.EventEffects.{if_open}
use Rattle.mdcc_theorem_worlds.specs.SettleProgress.{IsSettling, settle_reported, settle_ended}

abbrev passed : EventFault
passed = EventFault.Limit LimitName.Events most_events

-- ---- one delivery

pub settled-none : (left : ℕ) (listed : List ℕ) (h : Happened) (deliveries : ℕ) → first_waiting h.world listed 1 h.world.sent ≡ None
    → settled_of left listed h deliveries ≡ Ok (h, deliveries)
settled-none zero listed h deliveries e = rw (e, settled_of) refl
settled-none (suc left) listed h deliveries e = rw (e, settled_of) refl

pub settled-limit : (listed : List ℕ) (h : Happened) (deliveries : ℕ) (next : ℕ × Envelope) → first_waiting h.world listed 1 h.world.sent ≡ Some next
    → settled_of 0 listed h deliveries ≡ Err passed
settled-limit listed h deliveries next e = rw (e, settled_of) refl

settled-by : (left : ℕ) (listed : List ℕ) (h after : Happened) (deliveries : ℕ) (next : ℕ × Envelope) → first_waiting h.world listed 1 h.world.sent ≡ Some next
    → after_message h.world next.0 next.1 ≡ Ok after
    → settled_of (suc left) listed h deliveries ≡ settled_of left listed (after_lines h.lines after) (deliveries + 1)
settled-by left listed h after deliveries next e f = rw (e, f, settled_of) refl

-- what comes of the message that waits first is what comes of its number
waiting-is : (w : World) (listed : List ℕ) (next : ℕ × Envelope) → first_waiting w listed 1 w.sent ≡ Some next → after_message w next.0 next.1 ≡ after_numbered_message w next.0
waiting-is w listed next e =
    let is = waiting-numbered w listed w.sent next e in
    ap (λ (envelope : Envelope). after_message w next.0 envelope) (sym is.envelope) ∙ delivered-is w next.0 is.sent is.there

pub settled-next : (left : ℕ) (listed : List ℕ) (h after : Happened) (deliveries : ℕ) (next : ℕ × Envelope) → first_waiting h.world listed 1 h.world.sent ≡ Some next
    → after_numbered_message h.world next.0 ≡ Ok after
    → settled_of (suc left) listed h deliveries ≡ settled_of left listed (after_lines h.lines after) (deliveries + 1)
settled-next left listed h after deliveries next e f = settled-by left listed h after deliveries next e (waiting-is h.world listed next e ∙ f)

pub settled-refused : (left : ℕ) (listed : List ℕ) (h : Happened) (deliveries : ℕ) (next : ℕ × Envelope) (fault : EventFault) → first_waiting h.world listed 1 h.world.sent ≡ Some next
    → after_numbered_message h.world next.0 ≡ Err fault
    → settled_of (suc left) listed h deliveries ≡ Err fault
settled-refused left listed h deliveries next fault e f = let is = waiting-is h.world listed next e ∙ f in rw (e, is, settled_of) refl

-- the delivery of the message that waits first is an event
pub waiting-events : (w : World) (listed : List ℕ) (next : ℕ × Envelope) (after : Happened) → first_waiting w listed 1 w.sent ≡ Some next → after_numbered_message w next.0 ≡ Ok after
    → after.world.events ≡ w.events + 1
waiting-events w listed next after e f =
    let is = waiting-numbered w listed w.sent next e in
    delivery-events w next.0 is.sent after is.there f

-- ---- the line

pub settling-begins : (w : World) (listed : List ℕ) → IsSettling w listed (settle_reported w listed) 0
settling-begins w listed = record { answer = refl; count = omega arith }

pub settling-goes_on : (w : World) (listed : List ℕ) (reached after : Happened) (deliveries : ℕ) (next : ℕ × Envelope) → IsSettling w listed reached deliveries
    → first_waiting reached.world listed 1 reached.world.sent ≡ Some next → reached.world.events < most_events
    → after_numbered_message reached.world next.0 ≡ Ok after
    → IsSettling w listed (after_lines reached.lines after) (deliveries + 1)
settling-goes_on w listed reached after deliveries next so_far waits few is =
    let counted = waiting-events reached.world listed next after waits is in
    let left = most_events - after.world.events in
    let more : most_events - reached.world.events ≡ suc left = omega (counted, few, arith) in
    let count = so_far.count in
    record {
      answer = so_far.answer
          ∙ ap (λ (n : ℕ). settled_of n listed reached deliveries) more
          ∙ settled-next left listed reached after deliveries next waits is;
      count = omega (counted, count, arith);
    }

-- ---- its ends

-- what comes of the line
abbrev line_of : World → Result (Happened × ℕ) EventFault → Result Happened EventFault
line_of w r = within_events w (settled_line r)

past-limit : (w : World) → line_of w (Err passed) ≡ Err passed
past-limit w = elim (cases_Bool (is_past_events w)) [ inl e ↦ rw e refl | inr e ↦ rw e refl ]

-- a fault of the line, within the limit of events
within-limit : (w : World) (fault : EventFault) → w.events < most_events → line_of w (Err fault) ≡ Err fault
within-limit w fault few = by_limit (is_limit fault) (is_past_events w) (lt-leb most_events w.events few) (Err passed) (Err fault)
  where
    by_limit : (b c : Bool) → c ≡ false → (x y : Result Happened EventFault) → (if b && c then x else y) ≡ y
    by_limit true c e x y = rw e refl
    by_limit false c e x y = refl

-- a delivery is refused
pub settling-breaks : (w : World) (listed : List ℕ) (reached : Happened) (deliveries : ℕ) (next : ℕ × Envelope) (fault : EventFault) → IsSettling w listed reached deliveries
    → first_waiting reached.world listed 1 reached.world.sent ≡ Some next → reached.world.events < most_events → w.events < most_events
    → after_numbered_message reached.world next.0 ≡ Err fault
    → after_event w (Event.Settle listed) ≡ Err fault
settling-breaks w listed reached deliveries next fault so_far waits few first is =
    let left = most_events - (reached.world.events + 1) in
    let more : most_events - reached.world.events ≡ suc left = omega (few, arith) in
    ap (line_of w) (so_far.answer
    ∙ ap (λ (n : ℕ). settled_of n listed reached deliveries) more
    ∙ settled-refused left listed reached deliveries next fault waits is)
    ∙ within-limit w fault first

-- none waits
pub settling-ends : (w : World) (listed : List ℕ) (reached : Happened) (deliveries : ℕ) → IsSettling w listed reached deliveries
    → first_waiting reached.world listed 1 reached.world.sent ≡ None → w.events < most_events
    → after_event w (Event.Settle listed) ≡ Ok (settle_ended reached deliveries)
settling-ends w listed reached deliveries so_far none few =
    ap (line_of w) (so_far.answer ∙ settled-none (most_events - reached.world.events) listed reached deliveries none)
    ∙ open-is w (Ok (settle_ended reached deliveries)) tt
    ∙ ap (λ (r : Result (Unit {0}) EventFault). if_open r (Ok (settle_ended reached deliveries))) (limit-open w few)

-- one waits, and there were as many events as there may be
pub settling-stops : (w : World) (listed : List ℕ) (reached : Happened) (deliveries : ℕ) (next : ℕ × Envelope) → IsSettling w listed reached deliveries
    → first_waiting reached.world listed 1 reached.world.sent ≡ Some next → most_events ≤ reached.world.events
    → after_event w (Event.Settle listed) ≡ Err (EventFault.Limit LimitName.Events most_events)
settling-stops w listed reached deliveries next so_far waits full =
    let none : most_events - reached.world.events ≡ 0 = omega (full, arith) in
    ap (line_of w) (so_far.answer
    ∙ ap (λ (n : ℕ). settled_of n listed reached deliveries) none
    ∙ settled-limit listed reached deliveries next waits)
    ∙ past-limit w

-- there were as many before the line
pub settle-closed : (w : World) (listed : List ℕ) → most_events ≤ w.events
    → after_event w (Event.Settle listed) ≡ Err (EventFault.Limit LimitName.Events most_events)
settle-closed w listed full = by_waiting (first_waiting (counted_event w) listed 1 w.sent) refl
  where
    past : is_past_events w ≡ true
    past = past-events w full

    by_waiting : (o : Option (ℕ × Envelope)) → first_waiting (counted_event w) listed 1 w.sent ≡ o → after_event w (Event.Settle listed) ≡ Err passed
    by_waiting None e =
        ap (line_of w) (settled-none (most_events - (w.events + 1)) listed (settle_reported w listed) 0 e)
        ∙ rw past refl
    by_waiting (Some next) e = settling-stops w listed (settle_reported w listed) 0 next (settling-begins w listed) e (omega (full, arith))
