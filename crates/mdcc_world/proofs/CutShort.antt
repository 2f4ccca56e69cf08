-- Deliveries only add lines, so the lines of some are a prefix of those of all.
use Rattle.std.proofs.Common.{◌≡◌, ℕ, zero, suc, ◌+◌, ◌-◌, ◌≤◌, ◌<◌, ◌&&◌, ◌++◌, ◌∷◌, [], Bool, true, false, List, Option, Some, None, Result, Ok, Err, if◌then◌else◌, append-nil, append_assoc, arith, length, refl, sym, ap, ◌∙◌, subst}
use Rattle.std.specs.Bool.{OnTrue}
use Rattle.std.specs.Prelude.{OnErr, take}
use Rattle.std.proofs.lemmas.Bool.{lt-leb}
use Rattle.std.proofs.lemmas.List.{take_at}
use Rattle.mdcc_def_language.specs.declared.events.Event.{Event}
use Rattle.mdcc_def_language.specs.declared.lines.Line.{Line}
use Rattle.mdcc_def_language.specs.declared.world.EventFault.{EventFault}
use Rattle.mdcc_def_language.specs.declared.world.LimitName.{LimitName}
use Rattle.mdcc_def_messages.specs.declared.messages.Envelope.{Envelope}
use Rattle.mdcc_def_simulation.specs.Deliveries.{after_message, after_deliveries, after_delivery, first_waiting, settled_line, settled_of}
use Rattle.mdcc_def_simulation.specs.Events.{after_event}
use Rattle.mdcc_def_simulation.specs.Left.{deliveries_before, left_of, settled_before}
use Rattle.mdcc_def_simulation.specs.Limits.{is_limit, is_past_events, most_events, within_events, is_out_of_memory}
use Rattle.mdcc_def_simulation.specs.State.{Happened, World, after_lines, counted_event}
use Rattle.mdcc_world.specs.CutShort.{IsCutShort, event_lines_of, first_lines, lines_by}
use Rattle.mdcc_world.specs.Faults.{OnEventMemory}
use Rattle.mdcc_world.specs.Limited.{lines_reported, unless_full}
use Rattle.mdcc_world.specs.declared.world.World.{World as TheWorld}
use Rattle.mdcc_theorem_worlds.proofs.Counts.{limit-open}
use Rattle.mdcc_theorem_worlds.proofs.Delivers.{next-of, refused-of}
use Rattle.mdcc_theorem_worlds.proofs.Events.{open-is}
use Rattle.mdcc_theorem_worlds.specs.DeliveryProgress.{unmoved}
use Rattle.mdcc_theorem_worlds.specs.EventEffects.{if_open}
use Rattle.mdcc_theorem_worlds.specs.SettleProgress.{IsSettling, settle_reported, settle_ended, settle_from}

-- lines begin with these
pub record BeginsWith (part whole : List Line) : Type 0 where
  pub rest : List Line
  pub is : whole ≡ part ++ rest

begins-itself : (lines : List Line) → BeginsWith lines lines
begins-itself lines = record { rest = []; is = sym (append-nil lines) }

begins-then : (a b c : List Line) → BeginsWith a b → BeginsWith b c → BeginsWith a c
begins-then a b c first second = record {
  rest = first.rest ++ second.rest;
  is = second.is ∙ ap (λ (lines : List Line). lines ++ second.rest) first.is ∙ append_assoc a first.rest second.rest;
}

begins-more : (a b more : List Line) → BeginsWith a b → BeginsWith a (b ++ more)
begins-more a b more begins = begins-then a b (b ++ more) begins (record { rest = more; is = refl })

-- a fault is no answer, and answers are the same by what they hold
no-ok : {T : Type 0} (fault : EventFault) (x : T) {P : Type 0} → Err fault ≡ Ok x → P
no-ok fault x e = absurd (cc)

abbrev done : {T : Type 0} → T → Result T EventFault
done x = Ok x

ok-same : {T : Type 0} (x y : T) → done x ≡ done y → x ≡ y
ok-same x y e = cc

-- ---- deliveries by their numbers

of-more : (number : ℕ) (numbers : List ℕ) (h after : Happened) → after_deliveries (number ∷ numbers) h ≡ Ok after
    → ((next : Happened) → after_deliveries numbers (after_lines h.lines next) ≡ Ok after → BeginsWith (h.lines ++ next.lines) after.lines)
    → (r : Result Happened EventFault) → after_delivery h.world number ≡ r → BeginsWith h.lines after.lines
of-more number numbers h after e rest (Err fault) f = no-ok fault after (sym (refused-of number numbers h fault f) ∙ e)
of-more number numbers h after e rest (Ok next) f =
    begins-then h.lines (h.lines ++ next.lines) after.lines (record { rest = next.lines; is = refl })
    (rest next (sym (next-of number numbers h next f) ∙ e))

pub of-adds : (numbers : List ℕ) (h after : Happened) → after_deliveries numbers h ≡ Ok after → BeginsWith h.lines after.lines
of-adds [] h after e = let same : h ≡ after = cc in subst (λ (x : Happened). BeginsWith h.lines x.lines) same (begins-itself h.lines)
of-adds (number ∷ numbers) h after e =
    of-more number numbers h after e (λ next. of-adds numbers (after_lines h.lines next) after) (after_delivery h.world number) refl

before-more : (number : ℕ) (numbers : List ℕ) (h : Happened)
    → ((next : Happened) → BeginsWith (h.lines ++ next.lines) (deliveries_before numbers (after_lines h.lines next)).lines)
    → (r : Result Happened EventFault) → after_delivery h.world number ≡ r → BeginsWith h.lines (deliveries_before (number ∷ numbers) h).lines
before-more number numbers h rest (Err fault) f = rw (f, deliveries_before) (begins-itself h.lines)
before-more number numbers h rest (Ok next) f =
    rw (f, deliveries_before)
    (begins-then h.lines (h.lines ++ next.lines) (deliveries_before numbers (after_lines h.lines next)).lines (record { rest = next.lines; is = refl }) (rest next))

pub before-adds : (numbers : List ℕ) (h : Happened) → BeginsWith h.lines (deliveries_before numbers h).lines
before-adds [] h = begins-itself h.lines
before-adds (number ∷ numbers) h = before-more number numbers h (λ next. before-adds numbers (after_lines h.lines next)) (after_delivery h.world number) refl

-- numbers that are all delivered, and then more
of-append-by : (number : ℕ) (numbers more : List ℕ) (h after : Happened) → after_deliveries (number ∷ numbers) h ≡ Ok after
    → ((next : Happened) → after_deliveries numbers (after_lines h.lines next) ≡ Ok after → after_deliveries (numbers ++ more) (after_lines h.lines next) ≡ after_deliveries more after)
    → (r : Result Happened EventFault) → after_delivery h.world number ≡ r → after_deliveries (number ∷ (numbers ++ more)) h ≡ after_deliveries more after
of-append-by number numbers more h after e rest (Err fault) f = no-ok fault after (sym (refused-of number numbers h fault f) ∙ e)
of-append-by number numbers more h after e rest (Ok next) f = next-of number (numbers ++ more) h next f ∙ rest next (sym (next-of number numbers h next f) ∙ e)

of-append : (numbers more : List ℕ) (h after : Happened) → after_deliveries numbers h ≡ Ok after → after_deliveries (numbers ++ more) h ≡ after_deliveries more after
of-append [] more h after e = let same : h ≡ after = cc in ap (λ (x : Happened). after_deliveries more x) same
of-append (number ∷ numbers) more h after e =
    of-append-by number numbers more h after e (λ next. of-append numbers more (after_lines h.lines next) after) (after_delivery h.world number) refl

pub of-last : (numbers : List ℕ) (number : ℕ) (h after next : Happened) → after_deliveries numbers h ≡ Ok after → after_delivery after.world number ≡ Ok next
    → after_deliveries (numbers ++ number ∷ []) h ≡ Ok (after_lines after.lines next)
of-last numbers number h after next e f = of-append numbers (number ∷ []) h after e ∙ next-of number [] after next f

all-before-by : (number : ℕ) (numbers : List ℕ) (h after : Happened) → after_deliveries (number ∷ numbers) h ≡ Ok after
    → ((next : Happened) → after_deliveries numbers (after_lines h.lines next) ≡ Ok after → deliveries_before numbers (after_lines h.lines next) ≡ after)
    → (r : Result Happened EventFault) → after_delivery h.world number ≡ r → deliveries_before (number ∷ numbers) h ≡ after
all-before-by number numbers h after e rest (Err fault) f = no-ok fault after (sym (refused-of number numbers h fault f) ∙ e)
all-before-by number numbers h after e rest (Ok next) f = rw (f, deliveries_before) (rest next (sym (next-of number numbers h next f) ∙ e))

all-before : (numbers : List ℕ) (h after : Happened) → after_deliveries numbers h ≡ Ok after → deliveries_before numbers h ≡ after
all-before [] h after e = cc
all-before (number ∷ numbers) h after e =
    all-before-by number numbers h after e (λ next. all-before numbers (after_lines h.lines next) after) (after_delivery h.world number) refl

-- all lines of a deliver line of which so much has happened
deliver-whole : (w : World) (whole left : List ℕ) (reached : Happened) → after_deliveries whole (unmoved w) ≡ after_deliveries left reached
    → deliveries_before whole (unmoved w) ≡ deliveries_before left reached
    → (r : Result Happened EventFault) → after_deliveries left reached ≡ r → BeginsWith reached.lines (event_lines_of w (Event.Deliver whole))
deliver-whole w whole left reached answer rest (Ok after) e =
    subst (λ (x : Result Happened EventFault). BeginsWith reached.lines (lines_by x (deliveries_before whole (unmoved w)).lines)) (sym (answer ∙ e)) (of-adds left reached after e)
deliver-whole w whole left reached answer rest (Err fault) e =
    subst (λ (x : Result Happened EventFault). BeginsWith reached.lines (lines_by x (deliveries_before whole (unmoved w)).lines)) (sym (answer ∙ e))
    (subst (λ (x : Happened). BeginsWith reached.lines x.lines) (sym rest) (before-adds left reached))

-- no memory at the next number
pub deliver-cut : (world : TheWorld) (before after : List Line) (w : World) (whole made left : List ℕ) (reached : Happened) → whole ≡ made ++ left
    → after_deliveries made (unmoved w) ≡ Ok reached → after_deliveries whole (unmoved w) ≡ after_deliveries left reached
    → deliveries_before whole (unmoved w) ≡ deliveries_before left reached
    → world.events ≤ w.events + length made + 1 → after ≡ before ++ reached.lines
    → IsCutShort world before after w (Event.Deliver whole)
deliver-cut world before after w whole made left reached split first answer rest counted put =
    let front : take (length made) whole ≡ made = ap (λ (xs : List ℕ). take (length made) xs) split ∙ take_at made left (length made) refl in
    let is : deliveries_before (take (length made) whole) (unmoved w) ≡ reached = ap (λ (xs : List ℕ). deliveries_before xs (unmoved w)) front ∙ all-before made (unmoved w) reached first in
    let begins = deliver-whole w whole left reached answer rest (after_deliveries left reached) refl in
    record {
      count = length made;
      counted = counted;
      lines = put ∙ ap (λ (h : Happened). before ++ h.lines) (sym is);
      rest = begins.rest;
      whole = begins.is ∙ ap (λ (h : Happened). h.lines ++ begins.rest) (sym is);
    }

-- ---- deliveries of a settle

settled-more : (left : ℕ) (listed : List ℕ) (h after : Happened) (deliveries count : ℕ) (next : ℕ × Envelope) → first_waiting h.world listed 1 h.world.sent ≡ Some next
    → settled_of (suc left) listed h deliveries ≡ Ok (after, count)
    → ((x : Happened) → settled_of left listed (after_lines h.lines x) (deliveries + 1) ≡ Ok (after, count) → BeginsWith (h.lines ++ x.lines) after.lines)
    → (r : Result Happened EventFault) → after_message h.world next.0 next.1 ≡ r → BeginsWith h.lines after.lines
settled-more left listed h after deliveries count next waits e rest (Err fault) f =
    no-ok fault (after, count) (rw (waits, f, settled_of) at e)
settled-more left listed h after deliveries count next waits e rest (Ok x) f =
    begins-then h.lines (h.lines ++ x.lines) after.lines (record { rest = x.lines; is = refl }) (rest x (rw (waits, f, settled_of) at e))

settled-adds-by : (left : ℕ) (listed : List ℕ) (h after : Happened) (deliveries count : ℕ) → settled_of (suc left) listed h deliveries ≡ Ok (after, count)
    → ((x : Happened) → settled_of left listed (after_lines h.lines x) (deliveries + 1) ≡ Ok (after, count) → BeginsWith (h.lines ++ x.lines) after.lines)
    → (o : Option (ℕ × Envelope)) → first_waiting h.world listed 1 h.world.sent ≡ o → BeginsWith h.lines after.lines
settled-adds-by left listed h after deliveries count e rest None waits =
    let is : Ok (h, deliveries) ≡ Ok (after, count) = rw (waits, settled_of) at e in
    let same : h ≡ after = ap (λ (p : Happened × ℕ). p.0) (ok-same (h, deliveries) (after, count) is) in
    subst (λ (x : Happened). BeginsWith h.lines x.lines) same (begins-itself h.lines)
settled-adds-by left listed h after deliveries count e rest (Some next) waits =
    settled-more left listed h after deliveries count next waits e rest (after_message h.world next.0 next.1) refl

settled-none-by : (listed : List ℕ) (h after : Happened) (deliveries count : ℕ) → settled_of zero listed h deliveries ≡ Ok (after, count)
    → (o : Option (ℕ × Envelope)) → first_waiting h.world listed 1 h.world.sent ≡ o → BeginsWith h.lines after.lines
settled-none-by listed h after deliveries count e None waits =
    let is : Ok (h, deliveries) ≡ Ok (after, count) = rw (waits, settled_of) at e in
    let same : h ≡ after = ap (λ (p : Happened × ℕ). p.0) (ok-same (h, deliveries) (after, count) is) in
    subst (λ (x : Happened). BeginsWith h.lines x.lines) same (begins-itself h.lines)
settled-none-by listed h after deliveries count e (Some next) waits =
    no-ok (EventFault.Limit LimitName.Events most_events) (after, count) (rw (waits, settled_of) at e)

pub settled-adds : (left : ℕ) (listed : List ℕ) (h after : Happened) (deliveries count : ℕ) → settled_of left listed h deliveries ≡ Ok (after, count)
    → BeginsWith h.lines after.lines
settled-adds zero listed h after deliveries count e = settled-none-by listed h after deliveries count e (first_waiting h.world listed 1 h.world.sent) refl
settled-adds (suc left) listed h after deliveries count e =
    settled-adds-by left listed h after deliveries count e (λ x. settled-adds left listed (after_lines h.lines x) after (deliveries + 1) count)
    (first_waiting h.world listed 1 h.world.sent) refl

waiting-more : (left : ℕ) (listed : List ℕ) (h : Happened) (next : ℕ × Envelope) → first_waiting h.world listed 1 h.world.sent ≡ Some next
    → ((x : Happened) → BeginsWith (h.lines ++ x.lines) (settled_before left listed (after_lines h.lines x)).lines)
    → (r : Result Happened EventFault) → after_message h.world next.0 next.1 ≡ r → BeginsWith h.lines (settled_before (suc left) listed h).lines
waiting-more left listed h next waits rest (Err fault) f = rw (waits, f, settled_before) (begins-itself h.lines)
waiting-more left listed h next waits rest (Ok x) f =
    rw (waits, f, settled_before)
    (begins-then h.lines (h.lines ++ x.lines) (settled_before left listed (after_lines h.lines x)).lines (record { rest = x.lines; is = refl }) (rest x))

waiting-by : (left : ℕ) (listed : List ℕ) (h : Happened)
    → ((x : Happened) → BeginsWith (h.lines ++ x.lines) (settled_before left listed (after_lines h.lines x)).lines)
    → (o : Option (ℕ × Envelope)) → first_waiting h.world listed 1 h.world.sent ≡ o → BeginsWith h.lines (settled_before (suc left) listed h).lines
waiting-by left listed h rest None waits = rw (waits, settled_before) (begins-itself h.lines)
waiting-by left listed h rest (Some next) waits = waiting-more left listed h next waits rest (after_message h.world next.0 next.1) refl

pub waiting-adds : (left : ℕ) (listed : List ℕ) (h : Happened) → BeginsWith h.lines (settled_before left listed h).lines
waiting-adds zero listed h = begins-itself h.lines
waiting-adds (suc left) listed h = waiting-by left listed h (λ x. waiting-adds left listed (after_lines h.lines x)) (first_waiting h.world listed 1 h.world.sent) refl

-- one delivery more
last-more : (count : ℕ) (listed : List ℕ) (h : Happened) (next : ℕ × Envelope) → first_waiting h.world listed 1 h.world.sent ≡ Some next
    → ((x : Happened) → settled_before (suc count) listed x ≡ settled_before 1 listed (settled_before count listed x))
    → (r : Result Happened EventFault) → after_message h.world next.0 next.1 ≡ r
    → settled_before (suc (suc count)) listed h ≡ settled_before 1 listed (settled_before (suc count) listed h)
last-more count listed h next waits rest (Err fault) f =
    let here : settled_before (suc count) listed h ≡ h = rw (waits, f, settled_before) refl in
    let twice : settled_before (suc (suc count)) listed h ≡ h = rw (waits, f, settled_before) refl in
    let once : settled_before 1 listed h ≡ h = rw (waits, f, settled_before) refl in
    twice ∙ sym once ∙ ap (λ (x : Happened). settled_before 1 listed x) (sym here)
last-more count listed h next waits rest (Ok x) f =
    let here : settled_before (suc count) listed h ≡ settled_before count listed (after_lines h.lines x) = rw (waits, f, settled_before) refl in
    let twice : settled_before (suc (suc count)) listed h ≡ settled_before (suc count) listed (after_lines h.lines x) = rw (waits, f, settled_before) refl in
    twice ∙ rest (after_lines h.lines x) ∙ ap (λ (y : Happened). settled_before 1 listed y) (sym here)

last-by : (count : ℕ) (listed : List ℕ) (h : Happened)
    → ((x : Happened) → settled_before (suc count) listed x ≡ settled_before 1 listed (settled_before count listed x))
    → (o : Option (ℕ × Envelope)) → first_waiting h.world listed 1 h.world.sent ≡ o
    → settled_before (suc (suc count)) listed h ≡ settled_before 1 listed (settled_before (suc count) listed h)
last-by count listed h rest None waits =
    let here : settled_before (suc count) listed h ≡ h = rw (waits, settled_before) refl in
    let twice : settled_before (suc (suc count)) listed h ≡ h = rw (waits, settled_before) refl in
    let once : settled_before 1 listed h ≡ h = rw (waits, settled_before) refl in
    twice ∙ sym once ∙ ap (λ (x : Happened). settled_before 1 listed x) (sym here)
last-by count listed h rest (Some next) waits = last-more count listed h next waits rest (after_message h.world next.0 next.1) refl

pub before-last : (count : ℕ) (listed : List ℕ) (h : Happened) → settled_before (suc count) listed h ≡ settled_before 1 listed (settled_before count listed h)
before-last zero listed h = refl
before-last (suc count) listed h = last-by count listed h (λ x. before-last count listed x) (first_waiting h.world listed 1 h.world.sent) refl

pub before-next : (listed : List ℕ) (h after : Happened) (next : ℕ × Envelope) → first_waiting h.world listed 1 h.world.sent ≡ Some next
    → after_message h.world next.0 next.1 ≡ Ok after → settled_before 1 listed h ≡ after_lines h.lines after
before-next listed h after next waits f = rw (waits, f, settled_before) refl

-- ---- all lines of a settle line

-- a fault of the line, within the limit of events
within-limit : (w : World) (fault : EventFault) → w.events < most_events → within_events w (settled_line (Err fault)) ≡ Err fault
within-limit w fault few = by_limit (is_limit fault) (is_past_events w) (lt-leb most_events w.events few) (Err (EventFault.Limit LimitName.Events most_events)) (Err fault)
  where
    by_limit : (b c : Bool) → c ≡ false → (x y : Result Happened EventFault) → (if b && c then x else y) ≡ y
    by_limit true c e x y = rw e refl
    by_limit false c e x y = refl

settle-whole-by : (w : World) (listed : List ℕ) (reached : Happened) (deliveries : ℕ) → IsSettling w listed reached deliveries → w.events < most_events
    → settled_before (most_events - (counted_event w).events) listed (settle_reported w listed) ≡ settled_before (most_events - reached.world.events) listed reached
    → (r : Result (Happened × ℕ) EventFault) → settle_from listed reached deliveries ≡ r → BeginsWith reached.lines (event_lines_of w (Event.Settle listed))
settle-whole-by w listed reached deliveries so_far few earlier (Ok (after, count)) e =
    let line : after_event w (Event.Settle listed) ≡ Ok (settle_ended after count) =
    ap (λ (r : Result (Happened × ℕ) EventFault). within_events w (settled_line r)) (so_far.answer ∙ e)
    ∙ open-is w (Ok (settle_ended after count)) tt
    ∙ ap (λ (r : Result (Unit {0}) EventFault). if_open r (Ok (settle_ended after count))) (limit-open w few) in
    subst (λ (x : Result Happened EventFault). BeginsWith reached.lines (lines_by x (lines_reported w (Event.Settle listed)))) (sym line)
    (begins-more reached.lines after.lines _ (settled-adds (most_events - reached.world.events) listed reached after deliveries count e))
settle-whole-by w listed reached deliveries so_far few earlier (Err fault) e =
    let line : after_event w (Event.Settle listed) ≡ Err fault =
    ap (λ (r : Result (Happened × ℕ) EventFault). within_events w (settled_line r)) (so_far.answer ∙ e) ∙ within-limit w fault few in
    let reported : lines_reported w (Event.Settle listed) ≡ (settled_before (most_events - reached.world.events) listed reached).lines =
    ap (λ (r : Result (Unit {0}) EventFault). unless_full r (left_of w (Event.Settle listed)).lines) (limit-open w few) ∙ ap (λ (h : Happened). h.lines) earlier in
    subst (λ (x : Result Happened EventFault). BeginsWith reached.lines (lines_by x (lines_reported w (Event.Settle listed)))) (sym line)
    (subst (λ (lines : List Line). BeginsWith reached.lines lines) (sym reported) (waiting-adds (most_events - reached.world.events) listed reached))

pub settle-whole : (w : World) (listed : List ℕ) (reached : Happened) (deliveries : ℕ) → IsSettling w listed reached deliveries → w.events < most_events
    → settled_before (most_events - (counted_event w).events) listed (settle_reported w listed) ≡ settled_before (most_events - reached.world.events) listed reached
    → BeginsWith reached.lines (event_lines_of w (Event.Settle listed))
settle-whole w listed reached deliveries so_far few earlier = settle-whole-by w listed reached deliveries so_far few earlier (settle_from listed reached deliveries) refl

-- no memory after so many deliveries
pub settle-cut : (world : TheWorld) (before after : List Line) (w : World) (listed : List ℕ) (reached : Happened) (deliveries : ℕ)
    → settled_before deliveries listed (settle_reported w listed) ≡ reached → BeginsWith reached.lines (event_lines_of w (Event.Settle listed))
    → world.events ≤ w.events + deliveries + 2 → after ≡ before ++ reached.lines
    → IsCutShort world before after w (Event.Settle listed)
settle-cut world before after w listed reached deliveries first begins counted put = record {
  count = suc deliveries;
  counted = omega (counted, arith);
  lines = put ∙ ap (λ (h : Happened). before ++ h.lines) (sym first);
  rest = begins.rest;
  whole = begins.is ∙ ap (λ (h : Happened). h.lines ++ begins.rest) (sym first);
}

-- ---- events without deliveries, and a settle line before its own

pub cut-none : (world : TheWorld) (before after : List Line) (w : World) (event : Event) → ((count : ℕ) → first_lines count w event ≡ []) → after ≡ before
    → IsCutShort world before after w event
cut-none world before after w event none same = record {
  count = world.events;
  counted = omega arith;
  lines = same ∙ sym (append-nil before) ∙ ap (λ (lines : List Line). before ++ lines) (sym (none world.events));
  rest = event_lines_of w event;
  whole = ap (λ (lines : List Line). lines ++ event_lines_of w event) (sym (none world.events));
}

pub cut-first : (world : TheWorld) (before after : List Line) (w : World) (listed : List ℕ) → world.events ≤ w.events + 1 → after ≡ before
    → IsCutShort world before after w (Event.Settle listed)
cut-first world before after w listed counted same = record {
  count = 0;
  counted = omega (counted, arith);
  lines = same ∙ sym (append-nil before);
  rest = event_lines_of w (Event.Settle listed);
  whole = refl;
}

-- ---- where there was no memory

always : (b : Bool) {P : Type 0} → P → OnTrue b P
always true p = p
always false p = tt

pub memory-always : (fault : EventFault) {P : Type 0} → P → OnTrue (is_out_of_memory fault) P
memory-always fault p = always (is_out_of_memory fault) p

pub memory-any : {T : Type 0} (r : Result T EventFault) {P : Type 0} → P → OnEventMemory r P
memory-any (Ok x) p = tt
memory-any (Err fault) p = memory-always fault p

pub memory-untold : {T : Type 0} (r : Result T EventFault) {P Q : Type 0} → (P → Q) → OnErr r P → OnEventMemory r Q
memory-untold (Ok x) f p = tt
memory-untold (Err fault) f p = memory-always fault (f p)
