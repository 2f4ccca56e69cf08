-- A world stays one after each event.
use Rattle.std.proofs.Common.{◌≡◌, ℕ, zero, suc, ◌+◌, ◌-◌, ◌≤◌, ◌<◌, ◌⊎◌, ◌&&◌, Bool, true, false, List, [], ◌∷◌, refl, sym, ap, ◌∙◌, subst, inl, inr, Option, Some, None, Result, Ok, Err, if◌then◌else◌, nat_le, nat_lt, map, arith}
use Rattle.std.specs.List.{AllByRecursion}
use Rattle.std.specs.Option.{option_or}
use Rattle.std.specs.Prelude.{is_some}
use Rattle.std.proofs.lemmas.Bool.{and_parts, cases_Bool, leb-false, leb-true, ltb-false}
use Rattle.mdcc_base.specs.Key.{IsKey}
use Rattle.mdcc_base.specs.declared.key.Key.{Key}
use Rattle.mdcc_base.specs.declared.outside.Image.{Image}
use Rattle.mdcc_option.specs.Transaction.{transaction_of}
use Rattle.mdcc_option.specs.declared.faults.DraftFault.{DraftFault}
use Rattle.mdcc_option.specs.declared.items.Part.{Part}
use Rattle.mdcc_def_protocol.specs.Belongs.{is_centre}
use Rattle.mdcc_def_ledger.specs.Ledger.{facts_of}
use Rattle.mdcc_def_messages.specs.Lengths.{cells_needed, log_length}
use Rattle.mdcc_def_rules.specs.Steps.{NodeStep, with_new}
use Rattle.mdcc_def_rules.specs.declared.node.StepFault.{StepFault}
use Rattle.mdcc_def_language.specs.Resolve.{resolve}
use Rattle.mdcc_def_simulation.specs.State.{Happened, World, after_lines, centre_at, counted_event, is_up_at}
use Rattle.mdcc_def_messages.specs.Mailbox.{Sent, numbered}
use Rattle.mdcc_def_simulation.specs.Clients.{answer_of_step, begin_lines, read_happened, refused_without_item}
use Rattle.mdcc_def_simulation.specs.Centres.{crash_happened, restart_happened, stop_happened, tick_line, sweep_line}
use Rattle.mdcc_def_simulation.specs.Deliveries.{deliver_line, after_deliveries, after_delivery, first_waiting, settled_line, settled_of}
use Rattle.mdcc_def_simulation.specs.Events.{after_event}
use Rattle.mdcc_def_simulation.specs.AppliedSteps.{input_happened, step_at}
use Rattle.mdcc_def_simulation.specs.Checkpoints.{striking_at}
use Rattle.mdcc_def_simulation.specs.Limits.{passed_bytes_limit, passed_cells_limit, input_applied, is_limit, is_past_events, limit_if, passed_log_limit, most_events, most_log, step_limit, step_limit_by, unless_limit, with_lines, within_events}
use Rattle.mdcc_def_language.specs.declared.events.Event.{Event}
use Rattle.mdcc_def_language.specs.declared.events.UpdateWord.{UpdateWord}
use Rattle.mdcc_def_messages.specs.declared.facts.Fact.{Fact}
use Rattle.mdcc_def_language.specs.declared.lines.Line.{Line}
use Rattle.mdcc_def_messages.specs.declared.messages.Envelope.{Envelope}
use Rattle.mdcc_def_rules.specs.declared.node.Input.{Input}
use Rattle.mdcc_def_language.specs.declared.schedule.ResolveFault.{ResolveFault}
use Rattle.mdcc_def_language.specs.declared.world.EventFault.{EventFault}
use Rattle.mdcc_def_language.specs.declared.world.LimitName.{LimitName}
use Rattle.mdcc_theorem_node_steps.specs.Inputs.{IsWellFormedInput}
use Rattle.mdcc_theorem_worlds.proofs.Counts.{delivery-events, limited-events, open-few, unless-happened}
use Rattle.mdcc_theorem_worlds.proofs.Delivers.{next-of, refused-of}
use Rattle.mdcc_theorem_worlds.proofs.Drafting.{parts-formed}
use Rattle.mdcc_theorem_worlds.proofs.Events.{begin-is, crash-is, delivery-is, open-is, read-is, restart-is, stop-is, tick-is, sweep-is}
use Rattle.mdcc_theorem_worlds.proofs.Numbers.{each-numbered}
use Rattle.mdcc_theorem_worlds.proofs.Settles.{settle-closed, settled-limit, settled-next, settled-none, settled-refused, waiting-events}
use Rattle.mdcc_theorem_worlds.proofs.Stays.{KeepsLog, counted-stays, crash-stays, delivered-stays, input-stays, read-stays, restart-stays, stop-stays}
use Rattle.mdcc_theorem_worlds.specs.BeginEffects.{after_begin_resolved, after_begin_parts, after_begin_draft}
use Rattle.mdcc_theorem_worlds.specs.DeliveryProgress.{at_message, after_numbered_message, after_sent_message, delivery_reported, message_by, message_counted, unmoved}
use Rattle.mdcc_theorem_worlds.specs.Events.{IsBetweenEvents}
use Rattle.mdcc_theorem_worlds.specs.EventEffects.{at_centre, at_limit, at_restart, if_open, restart_epoch, restarted, tick_reported, sweep_reported}
use Rattle.mdcc_theorem_worlds.specs.SettleProgress.{settle_reported, settle_ended}
use Rattle.mdcc_theorem_worlds.specs.WorldInvariant.{IsSentWithin, IsWorld}
use Rattle.mdcc_theorem_worlds.specs.Words.{IsGivenEvent, IsGivenWord}
use Rattle.mdcc_def_protocol.specs.Cells.{cells_held}

-- ---- limits

unless-open : (o : Option EventFault) (h after : Happened) → unless_limit o h ≡ Ok after → o ≡ None
unless-open None h after e = refl
unless-open (Some fault) h after e = absurd (cc)

either-open : (o p : Option EventFault) → option_or o p ≡ None → o ≡ None
either-open None p e = refl
either-open (Some fault) p e = absurd (cc)

limit-open : (b : Bool) (name : LimitName) (number : ℕ) → limit_if b name number ≡ None → b ≡ false
limit-open true name number e = absurd (cc)
limit-open false name number e = refl

-- a log that its limit does not refuse is within it
log-open : (w : World) (a : ℕ) (fact : Fact) → passed_log_limit w a fact ≡ None → log_length (fact ∷ facts_of w.ledger a) ≤ most_log
log-open w a fact e =
    let clear = limit-open (nat_lt most_log (log_length (fact ∷ facts_of w.ledger a))) LimitName.Log most_log e in
    ltb-false most_log (log_length (fact ∷ facts_of w.ledger a)) clear

-- nor does a boot that the cells do not refuse pass them
cells-open : (w : World) (a : ℕ) (fact : Fact) → passed_cells_limit w a fact ≡ None → cells_held (facts_of w.ledger a) + cells_needed fact ≤ w.cluster.cells
cells-open w a fact e =
    let facts = facts_of w.ledger a in
    let clear = limit-open (nat_lt w.cluster.cells (cells_held facts + cells_needed fact)) LimitName.Cells (cells_held facts + cells_needed fact) e in
    ltb-false w.cluster.cells (cells_held facts + cells_needed fact) clear

log-kept : (w : World) (a : ℕ) (r : Result NodeStep StepFault) → IsWorld w → is_centre w.cluster a ≡ true
    → step_limit w a r ≡ None → KeepsLog w a r
log-kept w a r stands centre e step is = by_fact step.fact (subst (λ (x : Result NodeStep StepFault). step_limit w a x ≡ None) is e)
  where
    by_fact : (o : Option Fact) → step_limit_by w a step o ≡ None → log_length (with_new (facts_of w.ledger a) o) ≤ most_log
    by_fact None k = stands.logs a centre
    by_fact (Some fact) k = log-open w a fact (either-open (passed_log_limit w a fact) (if is_some (striking_at w a) then None else passed_bytes_limit w step.sends) k)

-- an input that no limit refuses
pub limited-stays : (w : World) (a : ℕ) (input : Input) (h : Happened) → IsWorld w → is_centre w.cluster a ≡ true → IsWellFormedInput input
    → input_applied w a input ≡ Ok h → IsWorld h.world
limited-stays w a input h stands centre formed e =
    let result = step_at w a input in
    let clear = unless-open (step_limit w a result) (input_happened w a result) h e in
    let same = unless-happened (step_limit w a result) (input_happened w a result) h e in
    subst (λ (x : Happened). IsWorld x.world) same (input-stays w a input (log-kept w a result stands centre clear) stands centre formed)

-- and such a restart
pub restarted-stays : (w : World) (a : ℕ) (h : Happened) → IsWorld w → is_centre w.cluster a ≡ true → w.events < most_events
    → restarted w a ≡ Ok h → IsWorld h.world
restarted-stays w a h stands centre few e =
    let boot = Fact.Booted (restart_epoch w a) in
    let after = restart_happened (counted_event w) a (restart_epoch w a) in
    let limit = option_or (passed_cells_limit w a boot) (passed_log_limit w a boot) in
    let same = unless-happened limit after h e in
    let none = unless-open limit after h e in
    let clear = other-open (passed_cells_limit w a boot) (passed_log_limit w a boot) none in
    let roomy = either-open (passed_cells_limit w a boot) (passed_log_limit w a boot) none in
    subst (λ (x : Happened). IsWorld x.world) same (restart-stays w a stands centre few (log-open w a boot clear) (cells-open w a boot roomy))
  where
    other-open : (o p : Option EventFault) → option_or o p ≡ None → p ≡ None
    other-open None p e = e
    other-open (Some fault) p e = absurd (cc)

-- ---- a delivery

pub delivery-stays : (w : World) (number : ℕ) (h : Happened) → IsWorld w → after_numbered_message w number ≡ Ok h → IsWorld h.world
delivery-stays w number h stands e = by_sent (numbered w.sent number) refl e
  where
    by_sent : (o : Option Sent) → numbered w.sent number ≡ o → after_sent_message w number o ≡ Ok h → IsWorld h.world
    by_sent None f k = absurd (cc)
    by_sent (Some sent) f k =
        let is = each-numbered (IsSentWithin w.cluster) w.sent number sent stands.sent f in
        limited-stays (message_counted w number) sent.envelope.to (Input.Message sent.envelope) h
        (delivered-stays w (number - 1) (w.events + 1) (omega arith) stands) is.within is.envelope_itself k

-- ---- what is not refused

opened : (r : Result (Unit {0}) EventFault) (result : Result Happened EventFault) (after : Happened) → if_open r result ≡ Ok after → (r ≡ Ok tt) × (result ≡ Ok after)
opened (Ok x) result after e = (refl, e)
opened (Err fault) result after e = absurd (cc)

-- behind its lines
told : (lines : World → List Line) (r : Result Happened EventFault) (after : Happened) → with_lines lines r ≡ Ok after → (h : Happened) × (r ≡ Ok h) × (h.world ≡ after.world)
told lines (Ok h) after e =
    let same : after_lines (lines h.world) h ≡ after = cc in
    (h, refl, ap (λ (x : Happened). x.world) same)
told lines (Err fault) after e = absurd (cc)

up-centre : (w : World) (a : ℕ) → is_up_at w a ≡ true → is_centre w.cluster a ≡ true
up-centre w a up = (and_parts (is_centre w.cluster a) (centre_at w a).is_up up).0

open-centre : (w : World) (a : ℕ) → at_centre w a ≡ Ok tt → (is_centre w.cluster a ≡ true) × (w.events < most_events)
open-centre w a clear = by_up (is_up_at w a) refl clear
  where
    by_up : (b : Bool) → is_up_at w a ≡ b → (if b then at_limit w else Err (EventFault.Down a)) ≡ Ok tt → (is_centre w.cluster a ≡ true) × (w.events < most_events)
    by_up true e k = (up-centre w a e, open-few w k)
    by_up false e k = absurd (cc)

open-restart : (w : World) (a : ℕ) → at_restart w a ≡ Ok tt → (is_centre w.cluster a ≡ true) × (w.events < most_events)
open-restart w a clear = by_up (is_up_at w a) (is_centre w.cluster a) refl clear
  where
    by_up : (b c : Bool) → is_centre w.cluster a ≡ c → (if b then Err (EventFault.Up a) else (if c then at_limit w else Err (EventFault.Down a))) ≡ Ok tt
        → (is_centre w.cluster a ≡ true) × (w.events < most_events)
    by_up true c e k = absurd (cc)
    by_up false true e k = (e, open-few w k)
    by_up false false e k = absurd (cc)

open-message : (w : World) (number : ℕ) → at_message w number ≡ Ok tt → (sent : Sent) × (numbered w.sent number ≡ Some sent) × (w.events < most_events)
open-message w number clear = by_sent (numbered w.sent number) refl clear
  where
    by_up : (b : Bool) (a : ℕ) → (if b then at_limit w else Err (EventFault.Down a)) ≡ Ok tt → w.events < most_events
    by_up true a k = open-few w k
    by_up false a k = absurd (cc)

    by_sent : (o : Option Sent) → numbered w.sent number ≡ o → message_by w number o ≡ Ok tt → (sent : Sent) × (numbered w.sent number ≡ Some sent) × (w.events < most_events)
    by_sent None e k = absurd (cc)
    by_sent (Some sent) e k = (sent, e, by_up (is_up_at w sent.envelope.to) sent.envelope.to k)

-- ---- an event at a centre

-- one event more, and what an input did
input-between : (w : World) (a : ℕ) (input : Input) (h : Happened) → IsBetweenEvents w → is_centre w.cluster a ≡ true → w.events < most_events → IsWellFormedInput input
    → input_applied (counted_event w) a input ≡ Ok h → IsBetweenEvents h.world
input-between w a input h between centre few formed e = record {
  itself = limited-stays (counted_event w) a input h (counted-stays w between.itself) centre formed e;
  few =
      let same = limited-events (counted_event w) a (step_at (counted_event w) a input) h e in
      omega (same, few, arith);
}

-- the same behind its lines
lines-between : (w : World) (a : ℕ) (input : Input) (lines : World → List Line) (h : Happened) → IsBetweenEvents w → is_centre w.cluster a ≡ true → w.events < most_events → IsWellFormedInput input
    → with_lines lines (input_applied (counted_event w) a input) ≡ Ok h → IsBetweenEvents h.world
lines-between w a input lines h between centre few formed e =
    let there = told lines (input_applied (counted_event w) a input) h e in
    subst IsBetweenEvents there.2 (input-between w a input there.0 between centre few formed there.1)

counted-between : (w : World) → IsBetweenEvents w → w.events < most_events → IsBetweenEvents (counted_event w)
counted-between w between few = record { itself = counted-stays w between.itself; few = omega (few, arith) }

-- what happens is this
abbrev happens : Happened → Result Happened EventFault
happens h = Ok h

happened-between : (h after : Happened) → happens h ≡ Ok after → IsBetweenEvents h.world → IsBetweenEvents after.world
happened-between h after e between = let same : h ≡ after = cc in subst (λ (x : Happened). IsBetweenEvents x.world) same between

read-between : (w : World) (a : ℕ) (key : Key) (h : Happened) → IsBetweenEvents w → IsKey key → after_event w (Event.Read a key) ≡ Ok h → IsBetweenEvents h.world
read-between w a key h between is e =
    let both = opened (at_centre w a) (Ok (read_happened (counted_event w) a key)) h (sym (read-is w a key) ∙ e) in
    let there = open-centre w a both.0 in
    let few = there.1 in
    happened-between (read_happened (counted_event w) a key) h both.1
    (record { itself = read-stays (counted_event w) a key (counted-stays w between.itself) there.0 is; few = omega (few, arith) })

tick-between : (w : World) (a : ℕ) (h : Happened) → IsBetweenEvents w → after_event w (Event.Tick a) ≡ Ok h → IsBetweenEvents h.world
tick-between w a h between e =
    let both = opened (at_centre w a) (tick_reported w a) h (sym (tick-is w a) ∙ e) in
    let there = open-centre w a both.0 in
    lines-between w a Input.Tick (tick_line a) h between there.0 there.1 tt both.1

sweep-between : (w : World) (a : ℕ) (h : Happened) → IsBetweenEvents w → after_event w (Event.Sweep a) ≡ Ok h → IsBetweenEvents h.world
sweep-between w a h between e =
    let both = opened (at_centre w a) (sweep_reported w a) h (sym (sweep-is w a) ∙ e) in
    let there = open-centre w a both.0 in
    lines-between w a Input.Sweep (sweep_line a) h between there.0 there.1 tt both.1

crash-between : (w : World) (a : ℕ) (h : Happened) → IsBetweenEvents w → after_event w (Event.Crash a) ≡ Ok h → IsBetweenEvents h.world
crash-between w a h between e =
    let both = opened (at_centre w a) (Ok (crash_happened (counted_event w) a)) h (sym (crash-is w a) ∙ e) in
    let there = open-centre w a both.0 in
    let few = there.1 in
    happened-between (crash_happened (counted_event w) a) h both.1
    (record { itself = crash-stays (counted_event w) a (counted-stays w between.itself) there.0; few = omega (few, arith) })

stop-between : (w : World) (a call : ℕ) (image : Image) (h : Happened) → IsBetweenEvents w → after_event w (Event.Stop a call image) ≡ Ok h → IsBetweenEvents h.world
stop-between w a call image h between e =
    let both = opened (at_centre w a) (Ok (stop_happened (counted_event w) a call image)) h (sym (stop-is w a call image) ∙ e) in
    let there = open-centre w a both.0 in
    let few = there.1 in
    happened-between (stop_happened (counted_event w) a call image) h both.1
    (record { itself = stop-stays (counted_event w) a call image (counted-stays w between.itself) there.0; few = omega (few, arith) })

restart-between : (w : World) (a : ℕ) (h : Happened) → IsBetweenEvents w → after_event w (Event.Restart a) ≡ Ok h → IsBetweenEvents h.world
restart-between w a h between e =
    let both = opened (at_restart w a) (restarted w a) h (sym (restart-is w a) ∙ e) in
    let there = open-restart w a both.0 in
    let few = there.1 in
    let boot = Fact.Booted (restart_epoch w a) in
    let after = restart_happened (counted_event w) a (restart_epoch w a) in
    let same = unless-happened (option_or (passed_cells_limit w a boot) (passed_log_limit w a boot)) after h both.1 in
    let itself : IsWorld after.world =
    subst (λ (x : Happened). IsWorld x.world) (sym same) (restarted-stays w a h between.itself there.0 few both.1) in
    subst (λ (x : Happened). IsBetweenEvents x.world) same
    (record { itself = itself; few = omega (few, arith) })

begin-between : (w : World) (a : ℕ) (words : List UpdateWord) (h : Happened) → IsBetweenEvents w → AllByRecursion IsGivenWord words → after_event w (Event.Begin a words) ≡ Ok h → IsBetweenEvents h.world
begin-between w a words h between given e = by_up (is_up_at w a) refl (sym (begin-is w a words) ∙ e)
  where
    drafted : (resolved : List Part) → resolve words (map Some w.reads) ≡ Ok resolved → is_centre w.cluster a ≡ true
        → (r : Result (List Part) DraftFault) → transaction_of w.cluster.schema resolved ≡ r → after_begin_draft w a r ≡ Ok h → IsBetweenEvents h.world
    drafted resolved found centre (Err fault) made k = absurd (cc)
    drafted resolved found centre (Ok parts) made k =
        let both = opened (at_limit w) (after_begin_parts w a parts) h k in
        let formed = parts-formed w.cluster.schema w.reads words resolved parts between.itself.cluster_itself.schema between.itself.reads given found made in
        lines-between w a (Input.Begin parts) (begin_lines (answer_of_step (step_at (counted_event w) a (Input.Begin parts)))) h between centre (open-few w both.0) formed both.1

    resolved-by : (r : Result (List Part) ResolveFault) → resolve words (map Some w.reads) ≡ r → is_centre w.cluster a ≡ true → after_begin_resolved w a r ≡ Ok h → IsBetweenEvents h.world
    resolved-by (Err (ResolveFault.NoRead number)) found centre k = absurd (cc)
    resolved-by (Err (ResolveFault.NoItem key)) found centre k =
        let both = opened (at_limit w) (Ok (refused_without_item (counted_event w) key)) h k in
        happened-between (refused_without_item (counted_event w) key) h both.1 (counted-between w between (open-few w both.0))
    resolved-by (Err ResolveFault.Memory) found centre k = absurd (cc)
    resolved-by (Ok resolved) found centre k = drafted resolved found centre (transaction_of w.cluster.schema resolved) refl k

    by_up : (b : Bool) → is_up_at w a ≡ b → (if b then after_begin_resolved w a (resolve words (map Some w.reads)) else Err (EventFault.Down a)) ≡ Ok h → IsBetweenEvents h.world
    by_up true up k = resolved-by (resolve words (map Some w.reads)) refl (up-centre w a up) k
    by_up false up k = absurd (cc)

-- ---- deliveries

told-between : (w : World) (number : ℕ) (h : Happened) → IsBetweenEvents w → after_delivery w number ≡ Ok h → IsBetweenEvents h.world
told-between w number h between e =
    let both = opened (at_message w number) (delivery_reported w number) h (sym (delivery-is w number) ∙ e) in
    let sent = open-message w number both.0 in
    let there = told (deliver_line number) (after_numbered_message w number) h both.1 in
    let counted = delivery-events w number sent.0 there.0 sent.1 there.1 in
    let few = sent.2 in
    subst IsBetweenEvents there.2 (record { itself = delivery-stays w number there.0 between.itself there.1; few = omega (counted, few, arith) })

delivery-between : (number : ℕ) (numbers : List ℕ) (h after : Happened) → IsBetweenEvents h.world → after_deliveries (number ∷ numbers) h ≡ Ok after
    → ((next : Happened) → IsBetweenEvents next.world → after_deliveries numbers next ≡ Ok after → IsBetweenEvents after.world)
    → IsBetweenEvents after.world
delivery-between number numbers h after between e go = by_answer (after_delivery h.world number) refl
  where
    by_answer : (r : Result Happened EventFault) → after_delivery h.world number ≡ r → IsBetweenEvents after.world
    by_answer (Err fault) f =
        let bad : Err fault ≡ Ok after = sym (refused-of number numbers h fault f) ∙ e in
        absurd (cc)
    by_answer (Ok next) f =
        let stays = told-between h.world number next between f in
        go (after_lines h.lines next) (record { itself = stays.itself; few = stays.few }) (sym (next-of number numbers h next f) ∙ e)

deliveries-between : (numbers : List ℕ) (h after : Happened) → IsBetweenEvents h.world → after_deliveries numbers h ≡ Ok after → IsBetweenEvents after.world
deliveries-between [] h after between e = happened-between h after e between
deliveries-between (number ∷ numbers) h after between e =
    delivery-between number numbers h after between e (λ next stands k. deliveries-between numbers next after stands k)

-- ---- settles

settled-done : (left : ℕ) (listed : List ℕ) (h : Happened) (deliveries : ℕ) (after : Happened × ℕ) → IsWorld h.world → left + h.world.events ≤ most_events
    → settled_of left listed h deliveries ≡ Ok after → first_waiting h.world listed 1 h.world.sent ≡ None → IsBetweenEvents after.0.world
settled-done left listed h deliveries after stands few e none =
    let reached : Ok (h, deliveries) ≡ Ok after = sym (settled-none left listed h deliveries none) ∙ e in
    let same : (h, deliveries) ≡ after = cc in
    subst (λ (x : Happened × ℕ). IsBetweenEvents x.0.world) same (record { itself = stands; few = omega (few, arith) })

settled-stop : (listed : List ℕ) (h : Happened) (deliveries : ℕ) (after : Happened × ℕ) (next : ℕ × Envelope) → first_waiting h.world listed 1 h.world.sent ≡ Some next
    → settled_of 0 listed h deliveries ≡ Ok after → IsBetweenEvents after.0.world
settled-stop listed h deliveries after next f e =
    let bad : Err (EventFault.Limit LimitName.Events most_events) ≡ Ok after = sym (settled-limit listed h deliveries next f) ∙ e in
    absurd (cc)

settled-between : (left : ℕ) (listed : List ℕ) (h : Happened) (deliveries : ℕ) (after : Happened × ℕ) → IsWorld h.world → left + h.world.events ≤ most_events
    → settled_of left listed h deliveries ≡ Ok after → IsBetweenEvents after.0.world
settled-between zero listed h deliveries after stands few e = by_waiting (first_waiting h.world listed 1 h.world.sent) refl
  where
    by_waiting : (o : Option (ℕ × Envelope)) → first_waiting h.world listed 1 h.world.sent ≡ o → IsBetweenEvents after.0.world
    by_waiting None f = settled-done zero listed h deliveries after stands few e f
    by_waiting (Some next) f = settled-stop listed h deliveries after next f e
settled-between (suc left) listed h deliveries after stands few e =
    by_waiting (λ h deliveries stands few e. settled-between left listed h deliveries after stands few e) (first_waiting h.world listed 1 h.world.sent) refl
  where
    by_waiting : ((h : Happened) (deliveries : ℕ) → IsWorld h.world → left + h.world.events ≤ most_events → settled_of left listed h deliveries ≡ Ok after → IsBetweenEvents after.0.world)
        → (o : Option (ℕ × Envelope)) → first_waiting h.world listed 1 h.world.sent ≡ o → IsBetweenEvents after.0.world
    by_waiting go None f = settled-done (suc left) listed h deliveries after stands few e f
    by_waiting go (Some next) f = by_delivery (after_numbered_message h.world next.0) refl
      where
        by_delivery : (r : Result Happened EventFault) → after_numbered_message h.world next.0 ≡ r → IsBetweenEvents after.0.world
        by_delivery (Err fault) g =
            let bad : Err fault ≡ Ok after = sym (settled-refused left listed h deliveries next fault f g) ∙ e in
            absurd (cc)
        by_delivery (Ok reached) g =
            let counted = waiting-events h.world listed next reached f g in
            go (after_lines h.lines reached) (deliveries + 1) (delivery-stays h.world next.0 reached stands g) (omega (counted, few, arith))
            (sym (settled-next left listed h reached deliveries next f g) ∙ e)

settle-between : (w : World) (listed : List ℕ) (h : Happened) → IsBetweenEvents w → after_event w (Event.Settle listed) ≡ Ok h → IsBetweenEvents h.world
settle-between w listed h between e = by_limit (cases_Bool (nat_le most_events w.events))
  where
    by_result : (r : Result (Happened × ℕ) EventFault) → settled_of (most_events - (w.events + 1)) listed (settle_reported w listed) 0 ≡ r
        → w.events < most_events → within_events w (settled_line r) ≡ Ok h → IsBetweenEvents h.world
    by_result (Err fault) f few k = absurd (refused fault k)
      where
        refused : (fault : EventFault) → within_events w (Err fault) ≡ Ok h → ⊥
        refused fault k = elim (cases_Bool (is_limit fault && is_past_events w)) [
          | inl g ↦ let bad : Err (EventFault.Limit LimitName.Events most_events) ≡ Ok h = rw g at k in cc
          | inr g ↦ let bad : Err fault ≡ Ok h = rw g at k in cc
        ]
    by_result (Ok after) f few k =
        let both = opened (at_limit w) (Ok (settle_ended after.0 after.1)) h (sym (open-is w (Ok (settle_ended after.0 after.1)) tt) ∙ k) in
        let ends = settled-between (most_events - (w.events + 1)) listed (settle_reported w listed) 0 after (counted-stays w between.itself) (omega (few, arith)) f in
        happened-between (settle_ended after.0 after.1) h both.1 (record { itself = ends.itself; few = ends.few })

    by_limit : (nat_le most_events w.events ≡ true) ⊎ (nat_le most_events w.events ≡ false) → IsBetweenEvents h.world
    by_limit (inl full) =
        let bad : Err (EventFault.Limit LimitName.Events most_events) ≡ Ok h = sym (settle-closed w listed (leb-true most_events w.events full)) ∙ e in absurd (cc)
    by_limit (inr few) = by_result (settled_of (most_events - (w.events + 1)) listed (settle_reported w listed) 0) refl (leb-false most_events w.events few) e

-- ---- every event

pub event-between : (w : World) (event : Event) (h : Happened) → IsBetweenEvents w → IsGivenEvent event → after_event w event ≡ Ok h → IsBetweenEvents h.world
event-between w (Event.Read a key) h between given e = read-between w a key h between given e
event-between w (Event.Begin a words) h between given e = begin-between w a words h between given e
event-between w (Event.Deliver numbers) h between given e = deliveries-between numbers (unmoved w) h between e
event-between w (Event.Settle listed) h between given e = settle-between w listed h between e
event-between w (Event.Tick a) h between given e = tick-between w a h between e
event-between w (Event.Sweep a) h between given e = sweep-between w a h between e
event-between w (Event.Crash a) h between given e = crash-between w a h between e
event-between w (Event.Restart a) h between given e = restart-between w a h between e
event-between w (Event.Stop a call image) h between given e = stop-between w a call image h between e
