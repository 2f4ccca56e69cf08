-- What events do.
use Rattle.std.proofs.Common.{◌≡◌, ℕ, Bool, true, false, List, refl, sym, ap, ◌∙◌, inl, inr, Option, Some, None, Result, Ok, Err, if◌then◌else◌, map}
use Rattle.std.specs.Option.{option_or}
use Rattle.std.specs.Prelude.{is_some}
use Rattle.std.proofs.lemmas.Bool.{cases_Bool, cond_both}
use Rattle.mdcc_base.specs.declared.key.Key.{Key}
use Rattle.mdcc_base.specs.declared.outside.Image.{Image}
use Rattle.mdcc_option.specs.Transaction.{transaction_of}
use Rattle.mdcc_option.specs.declared.faults.DraftFault.{DraftFault}
use Rattle.mdcc_option.specs.declared.items.Part.{Part}
use Rattle.mdcc_def_protocol.specs.Belongs.{is_centre}
use Rattle.mdcc_def_language.specs.Resolve.{resolve}
use Rattle.mdcc_def_rules.specs.Steps.{NodeStep}
use Rattle.mdcc_def_simulation.specs.State.{Happened, World, counted_event, is_up_at}
use Rattle.mdcc_def_messages.specs.Mailbox.{Sent, numbered}
use Rattle.mdcc_def_simulation.specs.Clients.{answer_of_step, begin_lines, after_begin, begun_by, refused_without_item, parts_begun, read_happened}
use Rattle.mdcc_def_simulation.specs.Limits.{passed_bytes_limit, passed_cells_limit, input_limited, input_applied, is_limit, is_past_events, limit_if, passed_log_limit, step_limit, step_limit_by, unless_limit, with_lines, within_events}
use Rattle.mdcc_def_simulation.specs.Centres.{crash_happened, restart_happened, after_restart, stop_happened, tick_line, sweep_line}
use Rattle.mdcc_def_simulation.specs.Deliveries.{deliver_line, after_message, after_delivery}
use Rattle.mdcc_def_simulation.specs.Events.{after_event}
use Rattle.mdcc_def_simulation.specs.AppliedSteps.{step_at, step_happened_by, step_stopped}
use Rattle.mdcc_def_simulation.specs.Checkpoints.{striking_at}
use Rattle.mdcc_def_simulation.specs.Deliveries as deliveries
use Rattle.mdcc_def_simulation.specs.Limits as limits
use Rattle.mdcc_def_simulation.specs.AppliedSteps as stepping
use Rattle.mdcc_def_language.specs.declared.events.Event.{Event}
use Rattle.mdcc_def_language.specs.declared.events.UpdateWord.{UpdateWord}
use Rattle.mdcc_def_messages.specs.declared.facts.Fact.{Fact}
use Rattle.mdcc_def_language.specs.declared.lines.Line.{Line}
use Rattle.mdcc_def_rules.specs.declared.node.Input.{Input}
use Rattle.mdcc_def_rules.specs.declared.node.StepFault.{StepFault}
use Rattle.mdcc_def_language.specs.declared.schedule.ResolveFault.{ResolveFault}
use Rattle.mdcc_def_language.specs.declared.world.EventFault.{EventFault}
use Rattle.mdcc_def_language.specs.declared.world.LimitName.{LimitName}
use Rattle.mdcc_theorem_worlds.proofs.Stays.{by-none, by-some}
use Rattle.mdcc_theorem_worlds.specs.BeginEffects.{after_begin_resolved, after_begin_words, after_begin_parts, after_begin_draft}
use Rattle.mdcc_theorem_worlds.specs.DeliveryProgress.{at_message, after_numbered_message, after_sent_message, delivery_reported, message_by, message_counted}
use Rattle.mdcc_theorem_worlds.specs.EventEffects.{at_centre, at_limit, at_restart, if_open, restart_epoch, restarted, tick_reported, sweep_reported}
use Rattle.mdcc_theorem_worlds.specs.StepEffects.{limit_passed, step_reported, after_whole_step, reported_by}

-- ---- limits

-- a fault that is a limit
abbrev pub IsLimit : Option EventFault → Type 0
IsLimit None = Unit {0}
IsLimit (Some fault) = is_limit fault ≡ true

-- nothing but a limit stands against it
abbrev pub OnlyLimits : Result Happened EventFault → Type 0
OnlyLimits (Ok h) = Unit {0}
OnlyLimits (Err fault) = is_limit fault ≡ true

limit-if : (is_passed : Bool) (name : LimitName) (number : ℕ) → IsLimit (limit_if is_passed name number)
limit-if true name number = refl
limit-if false name number = tt

limit-or : (o p : Option EventFault) → IsLimit o → IsLimit p → IsLimit (option_or o p)
limit-or None p h k = k
limit-or (Some fault) p h k = h

unless-limited : (o : Option EventFault) (h : Happened) → IsLimit o → OnlyLimits (unless_limit o h)
unless-limited None h k = tt
unless-limited (Some fault) h k = k

lines-limited : (lines : World → List Line) (r : Result Happened EventFault) → OnlyLimits r → OnlyLimits (with_lines lines r)
lines-limited lines (Ok h) k = tt
lines-limited lines (Err fault) k = k

log-limited : (w : World) (a : ℕ) (fact : Fact) → IsLimit (passed_log_limit w a fact)
log-limited w a fact = limit-if _ LimitName.Log _

step-limited : (w : World) (a : ℕ) (r : Result NodeStep StepFault) → IsLimit (step_limit w a r)
step-limited w a (Err fault) = tt
step-limited w a (Ok step) = by_fact step.fact
  where
    by_fact : (o : Option Fact) → IsLimit (step_limit_by w a step o)
    by_fact None = limit-if _ LimitName.Bytes _
    by_fact (Some fact) =
        limit-or (passed_log_limit w a fact) (if is_some (striking_at w a) then None else passed_bytes_limit w step.sends) (log-limited w a fact)
        (cond_both (is_some (striking_at w a)) None (passed_bytes_limit w step.sends) IsLimit (λ e. tt) (λ e. limit-if _ LimitName.Bytes _))

-- an input is refused by a limit only
pub input-limits : (w : World) (a : ℕ) (r : Result NodeStep StepFault) → OnlyLimits (input_limited w a r)
input-limits w a r = unless-limited (step_limit w a r) (stepping.input_happened w a r) (step-limited w a r)

-- what only limits stand against does so within the limit of events
pub open-is : (w : World) (r : Result Happened EventFault) → OnlyLimits r → within_events w r ≡ if_open (at_limit w) r
open-is w (Ok h) only = elim (cases_Bool (is_past_events w)) [ inl e ↦ rw e refl | inr e ↦ rw e refl ]
open-is w (Err fault) only = elim (cases_Bool (is_past_events w)) [ inl e ↦ rw (only, e) refl | inr e ↦ rw (only, e) refl ]

-- ---- inputs

-- an input comes to its step, where no limit is passed
pub input-is : (w : World) (a : ℕ) (result : Result NodeStep StepFault) → input_limited w a result ≡ step_reported w a result
input-is w a (Err fault) = refl
input-is w a (Ok step) = by_fact step.fact refl (striking_at w a) refl
  where
    or-none : (o : Option EventFault) → option_or o None ≡ o
    or-none None = refl
    or-none (Some fault) = refl

    by_fact : (o : Option Fact) → step.fact ≡ o → (stop : Option (ℕ × Image)) → striking_at w a ≡ stop
        → unless_limit (step_limit_by w a step o) (step_happened_by w a step o) ≡ reported_by w a step o stop
    by_fact None e stop k = rw (by-none w a step e) (ap (λ (o : Option Fact). unless_limit (limit_passed w a o step.sends) (after_whole_step w a step)) (sym e))
    by_fact (Some fact) e None k =
        ap (λ (o : Option (ℕ × Image)). unless_limit (option_or (passed_log_limit w a fact) (if is_some o then None else passed_bytes_limit w step.sends)) (step_happened_by w a step (Some fact))) k
        ∙ ap (λ (h : Happened). unless_limit (option_or (passed_log_limit w a fact) (passed_bytes_limit w step.sends)) h) (by-some w a step fact e k)
        ∙ ap (λ (o : Option Fact). unless_limit (limit_passed w a o step.sends) (after_whole_step w a step)) (sym e)
    by_fact (Some fact) e (Some stop) k = rw k (ap (λ (o : Option EventFault). unless_limit o (step_stopped w a fact stop)) (or-none (passed_log_limit w a fact)))

-- ---- events at a centre

-- what is refused or happens at a centre
pub at-centre-is : (w : World) (a : ℕ) (r : Result Happened EventFault) → OnlyLimits r → within_events w (limits.if_up w a r) ≡ if_open (at_centre w a) r
at-centre-is w a r only = by_up (is_up_at w a)
  where
    by_up : (b : Bool) → within_events w (if b then r else Err (EventFault.Down a)) ≡ if_open (if b then at_limit w else Err (EventFault.Down a)) r
    by_up true = open-is w r only
    by_up false = refl

pub read-is : (w : World) (a : ℕ) (key : Key) → after_event w (Event.Read a key) ≡ if_open (at_centre w a) (Ok (read_happened (counted_event w) a key))
read-is w a key = at-centre-is w a (Ok (read_happened (counted_event w) a key)) tt

pub tick-is : (w : World) (a : ℕ) → after_event w (Event.Tick a) ≡ if_open (at_centre w a) (tick_reported w a)
tick-is w a =
    at-centre-is w a (tick_reported w a)
    (lines-limited (tick_line a) (input_applied (counted_event w) a Input.Tick) (input-limits (counted_event w) a (step_at (counted_event w) a Input.Tick)))

pub sweep-is : (w : World) (a : ℕ) → after_event w (Event.Sweep a) ≡ if_open (at_centre w a) (sweep_reported w a)
sweep-is w a =
    at-centre-is w a (sweep_reported w a)
    (lines-limited (sweep_line a) (input_applied (counted_event w) a Input.Sweep) (input-limits (counted_event w) a (step_at (counted_event w) a Input.Sweep)))

pub crash-is : (w : World) (a : ℕ) → after_event w (Event.Crash a) ≡ if_open (at_centre w a) (Ok (crash_happened (counted_event w) a))
crash-is w a = at-centre-is w a (Ok (crash_happened (counted_event w) a)) tt

pub stop-is : (w : World) (a call : ℕ) (image : Image)
    → after_event w (Event.Stop a call image) ≡ if_open (at_centre w a) (Ok (stop_happened (counted_event w) a call image))
stop-is w a call image = at-centre-is w a (Ok (stop_happened (counted_event w) a call image)) tt

-- ---- restarts

pub restart-is : (w : World) (a : ℕ) → after_event w (Event.Restart a) ≡ if_open (at_restart w a) (restarted w a)
restart-is w a = by_up (is_up_at w a) (is_centre w.cluster a)
  where
    boot : Fact
    boot = Fact.Booted (restart_epoch w a)

    only : OnlyLimits (restarted w a)
    only =
        unless-limited (option_or (passed_cells_limit w a boot) (passed_log_limit w a boot)) (restart_happened (counted_event w) a (restart_epoch w a))
        (limit-or (passed_cells_limit w a boot) (passed_log_limit w a boot) (limit-if _ LimitName.Cells _) (log-limited w a boot))

    by_up : (b c : Bool) → within_events w (if b then Err (EventFault.Up a) else (if c then after_restart (counted_event w) a else Err (EventFault.Down a)))
        ≡ if_open (if b then Err (EventFault.Up a) else (if c then at_limit w else Err (EventFault.Down a))) (restarted w a)
    by_up true c = refl
    by_up false true = open-is w (restarted w a) only
    by_up false false = refl

-- ---- deliveries

-- the message of a number is delivered
pub delivered-is : (w : World) (number : ℕ) (sent : Sent) → numbered w.sent number ≡ Some sent → after_message w number sent.envelope ≡ after_numbered_message w number
delivered-is w number sent at = ap (after_sent_message w number) (sym at)

pub delivery-is : (w : World) (number : ℕ) → after_delivery w number ≡ if_open (at_message w number) (delivery_reported w number)
delivery-is w number = by_sent (numbered w.sent number) refl
  where
    by_up : (b : Bool) (a : ℕ) (r : Result Happened EventFault) → OnlyLimits r
        → (if b then within_events w r else Err (EventFault.Down a)) ≡ if_open (if b then at_limit w else Err (EventFault.Down a)) r
    by_up true a r only = open-is w r only
    by_up false a r only = refl

    by_sent : (o : Option Sent) → numbered w.sent number ≡ o → deliveries.after_delivery_by w number o ≡ if_open (message_by w number o) (delivery_reported w number)
    by_sent None e = refl
    by_sent (Some sent) e =
        let after = message_counted w number in
        let result = after_message w number sent.envelope in
        let only : OnlyLimits result = input-limits after sent.envelope.to (step_at after sent.envelope.to (Input.Message sent.envelope)) in
        by_up (is_up_at w sent.envelope.to) sent.envelope.to (with_lines (deliver_line number) result) (lines-limited (deliver_line number) result only)
        ∙ ap (λ (r : Result Happened EventFault). if_open (message_by w number (Some sent)) (with_lines (deliver_line number) r)) (delivered-is w number sent e)

-- ---- begins

drafted-is : (w : World) (a : ℕ) (r : Result (List Part) DraftFault) → within_events w (begun_by (counted_event w) a r) ≡ after_begin_draft w a r
drafted-is w a (Err fault) = refl
drafted-is w a (Ok parts) =
    let result = step_at (counted_event w) a (Input.Begin parts) in
    open-is w (after_begin_parts w a parts) (lines-limited (begin_lines (answer_of_step result)) (input_limited (counted_event w) a result) (input-limits (counted_event w) a result))

resolved-is : (w : World) (a : ℕ) (r : Result (List Part) ResolveFault) → within_events w (parts_begun (counted_event w) a r) ≡ after_begin_resolved w a r
resolved-is w a (Err (ResolveFault.NoRead number)) = refl
resolved-is w a (Err (ResolveFault.NoItem key)) = open-is w (Ok (refused_without_item (counted_event w) key)) tt
resolved-is w a (Err ResolveFault.Memory) = refl
resolved-is w a (Ok parts) = drafted-is w a (transaction_of w.cluster.schema parts)

pub begin-is : (w : World) (a : ℕ) (words : List UpdateWord) → after_event w (Event.Begin a words) ≡ after_begin_words w a words
begin-is w a words = by_up (is_up_at w a)
  where
    by_up : (b : Bool) → within_events w (if b then after_begin (counted_event w) a words else Err (EventFault.Down a))
        ≡ (if b then after_begin_resolved w a (resolve words (map Some w.reads)) else Err (EventFault.Down a))
    by_up true = resolved-is w a (resolve words (map Some w.reads))
    by_up false = refl
