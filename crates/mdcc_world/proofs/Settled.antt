-- A settle line, delivery by delivery.
use Rattle.std.proofs.Common.{◌≡◌, ℕ, suc, ◌+◌, ◌≤◌, ◌<◌, ◌==◌, true, List, [], ◌∷◌, ◌++◌, refl, sym, ap, ◌∙◌, subst, inl, inr, Option, Some, None, Result, Ok, Err, arith, length, nat_lt, append_assoc, nat_le, ◌-◌}
use Rattle.std.specs.Bool.{OnFalse, OnTrue}
use Rattle.std.specs.List.{list_any}
use Rattle.std.specs.Option.{option_map}
use Rattle.std.specs.Prelude.{IfSome, slice_get, not}
use Rattle.std.proofs.lemmas.Bool.{and_parts, cases_Bool, leb-true, ltb-true}
use Rattle.mdcc_world_mail.specs.Waiting.{before_first, first_to, waits_among}
use Rattle.mdcc_def_messages.specs.Mailbox.{Sent, numbered}
use Rattle.mdcc_def_simulation.specs.State.{Happened, World, after_lines, is_up_at, next_message}
use Rattle.mdcc_def_simulation.specs.Events.{after_event}
use Rattle.mdcc_def_simulation.specs.Deliveries.{after_message, first_waiting}
use Rattle.mdcc_def_simulation.specs.Left.{left_of, settled_before}
use Rattle.mdcc_def_simulation.specs.Limits.{is_limit, most_events, is_out_of_memory}
use Rattle.mdcc_def_language.specs.declared.events.Event.{Event}
use Rattle.mdcc_def_language.specs.declared.lines.Line.{Line}
use Rattle.mdcc_def_messages.specs.declared.messages.Envelope.{Envelope}
use Rattle.mdcc_def_language.specs.declared.world.EventFault.{EventFault}
use Rattle.mdcc_def_language.specs.declared.world.LimitName.{LimitName}
use Rattle.mdcc_world.proofs.CutShort.{BeginsWith, before-last, before-next, settle-cut, settle-whole}
use Rattle.mdcc_world.proofs.Happened.{fault-then, happened-then, has-come}
use Rattle.mdcc_world.proofs.Limited.{limit-with}
use Rattle.mdcc_world.proofs.Next.{message_of, next-is, with_number}
use Rattle.mdcc_world.specs.CutShort.{IsCutShort, lines_by}
use Rattle.mdcc_world.specs.Limited.{lines_reported}
use Rattle.mdcc_world.specs.SettleEnd.{AreAsked, EndsAfter, HasSettled, IsNext, is_listed_centre}
use Rattle.mdcc_world.specs.Represents.{HasHappened, Happens, IsLike}
use Rattle.mdcc_world.specs.declared.world.World.{World as TheWorld}
use Rattle.mdcc_theorem_worlds.proofs.Events.{delivered-is}
use Rattle.mdcc_theorem_worlds.proofs.Numbers.{waiting-numbered}
use Rattle.mdcc_theorem_worlds.proofs.Settles.{settle-closed, settling-begins, settling-breaks, settling-ends, settling-goes_on, settling-stops, waiting-events}
use Rattle.mdcc_theorem_worlds.specs.DeliveryProgress.{at_message, after_numbered_message, message_by}
use Rattle.mdcc_theorem_worlds.specs.EventEffects.{at_limit}
use Rattle.mdcc_theorem_worlds.specs.SettleProgress.{settle_reported}

-- ---- the message that waits first

-- the number of a message that waits first
pub record WaitsFirst (w : World) (listed : List ℕ) (number : ℕ) : Type 0 where
  pub next : ℕ × Envelope
  pub waits : first_waiting w listed 1 w.sent ≡ Some next
  pub numbers : next.0 ≡ number

-- the first that passes does
passes : (centres : List ℕ) (sent : List Sent) → before_first (waits_among centres) sent < length sent
    → (s : Sent) × ((slice_get sent (before_first (waits_among centres) sent) ≡ Some s) × (waits_among centres s ≡ true))
passes centres [] within = absurd (omega (within, arith))
passes centres (s ∷ ss) within = elim (cases_Bool (waits_among centres s)) [
  | inl e ↦ rw e (s, (refl, e))
  | inr e ↦
      let within : before_first (waits_among centres) ss + 1 < suc (length ss) = rw e at within in
      let rest = passes centres ss (omega (within, arith)) in
      rw e (rest.0, (next (before_first (waits_among centres) ss) s ss ∙ rest.1.0, rest.1.1))
]
  where
    next : (n : ℕ) (s : Sent) (ss : List Sent) → slice_get (s ∷ ss) (n + 1) ≡ slice_get ss n
    next n s ss = let more : n + 1 ≡ suc n = omega arith in ap (λ (k : ℕ). slice_get (s ∷ ss) k) more

-- the message of that number: it is there, and goes to one of the centres
pub record IsFirst (centres : List ℕ) (sent : List Sent) (number : ℕ) : Type 0 where
  pub message : Sent
  pub there : numbered sent number ≡ Some message
  pub among : list_any (λ centre. centre == message.envelope.to) centres ≡ true

pub first-there : (centres : List ℕ) (sent : List Sent) (number : ℕ) → Some number ≡ first_to centres sent → IsFirst centres sent number
first-there centres sent number at = elim (cases_Bool (nat_lt (before_first (waits_among centres) sent) (length sent))) [
  | inl e ↦
      let place = before_first (waits_among centres) sent in
      let is : Some number ≡ Some (place + 1) = rw e at at in
      let same : number ≡ place + 1 = cc in
      let next : number ≡ suc place = omega (same, arith) in
      let first = passes centres sent (ltb-true place (length sent) e) in
      record {
        message = first.0;
        there = ap (λ (n : ℕ). numbered sent n) next ∙ first.1.0;
        among = (and_parts (not first.0.is_delivered) (list_any (λ centre. centre == first.0.envelope.to) centres) first.1.1).1;
      }
  | inr e ↦ let is : Some number ≡ None = rw e at at in absurd (cc)
]

-- the number of the message that a settle delivers next
pub next-of : (w : World) (listed centres : List ℕ) (number : Option ℕ) → AreAsked w listed centres → number ≡ first_to centres w.sent → IsNext w listed number
next-of w listed centres None are first =
    ap (λ (o : Option (ℕ × Envelope)). option_map (λ (n : ℕ × Envelope). n.0) o) (next-is w listed centres w.sent are ∙ ap (λ (o : Option ℕ). message_of w.sent o) (sym first))
next-of w listed centres (Some number) are first =
    let there = first-there centres w.sent number first in
    ap (λ (o : Option (ℕ × Envelope)). option_map (λ (n : ℕ × Envelope). n.0) o)
    (next-is w listed centres w.sent are ∙ ap (λ (o : Option ℕ). message_of w.sent o) (sym first) ∙ ap (λ (o : Option Sent). option_map (with_number number) o) there.there)

some-waits : (w : World) (listed : List ℕ) (number : ℕ) → IsNext w listed (Some number) → WaitsFirst w listed number
some-waits w listed number next = by_first (first_waiting w listed 1 w.sent) refl next
  where
    by_first : (o : Option (ℕ × Envelope)) → first_waiting w listed 1 w.sent ≡ o → option_map (λ (n : ℕ × Envelope). n.0) o ≡ Some number → WaitsFirst w listed number
    by_first None e k = absurd (cc)
    by_first (Some next) e k = let same : next.0 ≡ number = cc in record { next = next; waits = e; numbers = same }

none-waits : (w : World) (listed : List ℕ) → IsNext w listed None → first_waiting w listed 1 w.sent ≡ None
none-waits w listed next = by_first (first_waiting w listed 1 w.sent) next
  where
    by_first : (o : Option (ℕ × Envelope)) → option_map (λ (n : ℕ × Envelope). n.0) o ≡ None → o ≡ None
    by_first None k = refl
    by_first (Some next) k = absurd (cc)

-- nothing keeps it back, where there may be one more event
open-limit : (w : World) → w.events < most_events → at_limit w ≡ Ok tt
open-limit w few = elim (cases_Bool (nat_le most_events w.events)) [
  | inl e ↦ let full = leb-true most_events w.events e in absurd (omega (few, full, arith))
  | inr e ↦ rw e refl
]

pub clear-next : (w : World) (listed centres : List ℕ) (number : Option ℕ) → AreAsked w listed centres → number ≡ first_to centres w.sent → w.events < 100000
    → IfSome number (λ n. at_message w n ≡ Ok tt)
clear-next w listed centres None are first few = tt
clear-next w listed centres (Some number) are first few =
    let there = first-there centres w.sent number first in
    let to = there.message.envelope.to in
    let up = and_parts (is_up_at w to) (is_listed_centre listed to) (sym (are to) ∙ there.among) in
    let clear : message_by w number (Some there.message) ≡ Ok tt = rw up.0 (open-limit w few) in
    ap (λ (o : Option Sent). message_by w number o) there.there ∙ clear

-- ---- the deliveries before one that is refused

-- what comes of the message that waits first is what comes of its number
waiting-is : (w : World) (listed : List ℕ) (next : ℕ × Envelope) → first_waiting w listed 1 w.sent ≡ Some next → after_message w next.0 next.1 ≡ after_numbered_message w next.0
waiting-is w listed next e =
    let is = waiting-numbered w listed w.sent next e in
    ap (λ (envelope : Envelope). after_message w next.0 envelope) (sym is.envelope) ∙ delivered-is w next.0 is.sent is.there

before-by : (left : ℕ) (listed : List ℕ) (h after : Happened) (next : ℕ × Envelope) → first_waiting h.world listed 1 h.world.sent ≡ Some next
    → after_message h.world next.0 next.1 ≡ Ok after → settled_before (suc left) listed h ≡ settled_before left listed (after_lines h.lines after)
before-by left listed h after next e f = rw (e, f, settled_before) refl

before-refused : (left : ℕ) (listed : List ℕ) (h : Happened) (next : ℕ × Envelope) (fault : EventFault) → first_waiting h.world listed 1 h.world.sent ≡ Some next
    → after_message h.world next.0 next.1 ≡ Err fault → settled_before (suc left) listed h ≡ h
before-refused left listed h next fault e f = rw (e, f, settled_before) refl

-- ---- the settle

module _ (world : TheWorld) (before lines : List Line) (w : World) (listed : List ℕ) (deliveries : ℕ) (has : HasSettled world before lines w listed deliveries) where
  pub settle-goes_on : (new : TheWorld) (after : List Line) (number : ℕ) → IsNext has.reached.world listed (Some number) → world.events < 100000
      → Happens {T = Unit {0}} new lines after (Ok tt) (after_numbered_message has.reached.world number)
      → HasSettled new before after w listed (deliveries + 1)
  settle-goes_on new after number next few happens =
      let waits = some-waits has.reached.world listed number next in
      let come = has-come {T = Unit {0}} tt new lines after (after_numbered_message has.reached.world number) happens in
      let events = has.happened.like.records.events in
      let is : after_numbered_message has.reached.world waits.next.0 ≡ Ok come.h = ap (λ (n : ℕ). after_numbered_message has.reached.world n) waits.numbers ∙ come.is in
      record {
        reached = after_lines has.reached.lines come.h;
        happened = happened-then world new before lines after has.reached come.h has.happened come.happened;
        first =
            let more : deliveries + 1 ≡ suc deliveries = omega arith in
            ap (λ (n : ℕ). settled_before n listed (settle_reported w listed)) more
            ∙ before-last deliveries listed (settle_reported w listed)
            ∙ ap (λ (h : Happened). settled_before 1 listed h) has.first
            ∙ before-next listed has.reached come.h waits.next waits.waits (waiting-is has.reached.world listed waits.next waits.waits ∙ is);
        so_far = settling-goes_on w listed has.reached come.h deliveries waits.next has.so_far waits.waits (omega (events, few, arith)) is;
        earlier =
            let counted = waiting-events has.reached.world listed waits.next come.h waits.waits is in
            let more : most_events - has.reached.world.events ≡ suc (most_events - come.h.world.events) = omega (counted, events, few, arith) in
            has.earlier
            ∙ ap (λ (n : ℕ). settled_before n listed has.reached) more
            ∙ before-by (most_events - come.h.world.events) listed has.reached come.h waits.next waits.waits (waiting-is has.reached.world listed waits.next waits.waits ∙ is);
      }

  pub settle-breaks : (number : ℕ) (fault : EventFault) → IsNext has.reached.world listed (Some number) → world.events < 100000 → w.events < 100000
      → OnFalse (is_out_of_memory fault) (after_numbered_message has.reached.world number ≡ Err fault)
      → OnFalse (is_out_of_memory fault) (after_event w (Event.Settle listed) ≡ Err fault)
  settle-breaks number fault next few begun refused =
      let waits = some-waits has.reached.world listed number next in
      let events = has.happened.like.records.events in
      fault-then (is_out_of_memory fault) (λ (e : after_numbered_message has.reached.world number ≡ Err fault).
      settling-breaks w listed has.reached deliveries waits.next fault has.so_far waits.waits (omega (events, few, arith)) begun
      (ap (λ (n : ℕ). after_numbered_message has.reached.world n) waits.numbers ∙ e)) refused

  -- the lines where the next delivery would pass a limit
  pub settle-limited : (after : List Line) (number : ℕ) (fault : EventFault) → IsNext has.reached.world listed (Some number) → world.events < 100000
      → OnFalse (is_out_of_memory fault) (after_numbered_message has.reached.world number ≡ Err fault) → after ≡ lines
      → OnTrue (is_limit fault) (after ≡ before ++ (left_of w (Event.Settle listed)).lines)
  settle-limited after number fault next few refused same =
      let waits = some-waits has.reached.world listed number next in
      let events = has.happened.like.records.events in
      let left = most_events - (has.reached.world.events + 1) in
      let more : most_events - has.reached.world.events ≡ suc left = omega (events, few, arith) in
      limit-with fault (λ (e : after_numbered_message has.reached.world number ≡ Err fault).
      let is : after_numbered_message has.reached.world waits.next.0 ≡ Err fault = ap (λ (n : ℕ). after_numbered_message has.reached.world n) waits.numbers ∙ e in
      let reached = has.earlier
      ∙ ap (λ (n : ℕ). settled_before n listed has.reached) more
      ∙ before-refused left listed has.reached waits.next fault waits.waits (waiting-is has.reached.world listed waits.next waits.waits ∙ is) in
      same ∙ has.happened.lines ∙ ap (λ (h : Happened). before ++ h.lines) (sym reached))
      refused

  -- and where there was no memory for it
  pub settle-short : (new : TheWorld) (after : List Line) → w.events < 100000 → new.events ≤ world.events + 1 → after ≡ lines
      → IsCutShort new before after w (Event.Settle listed)
  settle-short new after few more same =
      let events = has.happened.like.records.events in
      let count = has.so_far.count in
      settle-cut new before after w listed has.reached deliveries has.first (settle-whole w listed has.reached deliveries has.so_far few has.earlier)
      (omega (events, count, more, arith)) (same ∙ has.happened.lines)

  -- and where there were as many events as there may be
  pub settle-full : 100000 ≤ world.events → lines ≡ before ++ (left_of w (Event.Settle listed)).lines
  settle-full full =
      let events = has.happened.like.records.events in
      let none : most_events - has.reached.world.events ≡ 0 = omega (events, full, arith) in
      has.happened.lines ∙ ap (λ (h : Happened). before ++ h.lines) (sym (has.earlier ∙ ap (λ (n : ℕ). settled_before n listed has.reached) none))

  pub settle-ends : (new : TheWorld) → new ≡ world → IsNext has.reached.world listed None → w.events < 100000 → EndsAfter new before lines w listed deliveries
  settle-ends new same next few = record {
    reached = has.reached;
    happened = record { like = subst (λ (x : TheWorld). IsLike x has.reached.world) (sym same) has.happened.like; lines = has.happened.lines };
    so_far = has.so_far;
    first = has.first;
    answer = settling-ends w listed has.reached deliveries has.so_far (none-waits has.reached.world listed next) few;
  }

  pub settle-stops : (number : ℕ) → IsNext has.reached.world listed (Some number) → 100000 ≤ world.events
      → after_event w (Event.Settle listed) ≡ Err (EventFault.Limit LimitName.Events most_events)
  settle-stops number next full =
      let waits = some-waits has.reached.world listed number next in
      let events = has.happened.like.records.events in
      settling-stops w listed has.reached deliveries waits.next has.so_far waits.waits (omega (events, full, arith))

-- a settle begins with no delivery
pub settle-begins : (world : TheWorld) (before lines : List Line) (w : World) (listed : List ℕ) → HasHappened world before lines (settle_reported w listed)
    → HasSettled world before lines w listed 0
settle-begins world before lines w listed happened = record {
  reached = settle_reported w listed;
  happened = happened;
  so_far = settling-begins w listed;
  first = refl;
  earlier = refl;
}

-- the line of the end
pub settle-reported : (world : TheWorld) (before lines after : List Line) (w : World) (listed : List ℕ) (deliveries next : ℕ) → EndsAfter world before lines w listed deliveries
    → next ≡ length world.network + 1 → after ≡ lines ++ Line.Settled deliveries next ∷ []
    → Happens {T = Unit {0}} world before after (Ok tt) (after_event w (Event.Settle listed))
settle-reported world before lines after w listed deliveries next ends number reported =
    let same : next ≡ next_message ends.reached.world = number ∙ ap (λ (sent : List Sent). length sent + 1) ends.happened.like.records.network in
    rw ends.answer (record {
      like = ends.happened.like;
      lines = reported ∙ ap (λ (n : ℕ). lines ++ Line.Settled deliveries n ∷ []) same
          ∙ ap (λ (ls : List Line). ls ++ Line.Settled deliveries (next_message ends.reached.world) ∷ []) ends.happened.lines
          ∙ append_assoc before ends.reached.lines (Line.Settled deliveries (next_message ends.reached.world) ∷ []);
    })

-- where there were as many events as there may be before the line
pub settle-at_limit : (w : World) (listed : List ℕ) (fault : EventFault) → Err fault ≡ at_limit w → after_event w (Event.Settle listed) ≡ Err fault
settle-at_limit w listed fault closed = elim (cases_Bool (nat_le most_events w.events)) [
  | inl e ↦
      let is : Err fault ≡ Err (EventFault.Limit LimitName.Events most_events) = rw e at closed in
      let same : EventFault.Limit LimitName.Events most_events ≡ fault = cc in
      settle-closed w listed (leb-true most_events w.events e) ∙ ap (λ (f : EventFault). Err f) same
  | inr e ↦ let is : Err fault ≡ Ok tt = rw e at closed in absurd (cc)
]

pub ends-after : (world : TheWorld) (before lines : List Line) (w : World) (listed : List ℕ) (deliveries all : ℕ) → deliveries ≡ all
    → EndsAfter world before lines w listed deliveries → EndsAfter world before lines w listed all
ends-after world before lines w listed deliveries all same ends = subst (λ (n : ℕ). EndsAfter world before lines w listed n) same ends

-- no memory for the line of the end
pub ends-short : (world : TheWorld) (before lines after : List Line) (w : World) (listed : List ℕ) (deliveries : ℕ) → EndsAfter world before lines w listed deliveries
    → after ≡ lines → IsCutShort world before after w (Event.Settle listed)
ends-short world before lines after w listed deliveries ends same =
    let events = ends.happened.like.records.events in
    let count = ends.so_far.count in
    settle-cut world before after w listed ends.reached deliveries ends.first
    (subst (λ (r : Result Happened EventFault). BeginsWith ends.reached.lines (lines_by r (lines_reported w (Event.Settle listed)))) (sym ends.answer)
    (record { rest = Line.Settled deliveries (next_message ends.reached.world) ∷ []; is = refl }))
    (omega (events, count, arith)) (same ∙ ends.happened.lines)
