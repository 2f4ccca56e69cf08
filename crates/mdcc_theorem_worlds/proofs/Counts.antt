-- How many events there were.
use Rattle.std.proofs.Common.{◌≡◌, ℕ, ◌+◌, ◌≤◌, ◌<◌, Bool, true, refl, sym, ap, ◌∙◌, inl, inr, Option, Some, None, Result, Ok, Err, nat_le, arith}
use Rattle.std.proofs.lemmas.Bool.{cases_Bool, le-leb, leb-false, leb-true}
use Rattle.mdcc_base.specs.declared.outside.Image.{Image}
use Rattle.mdcc_def_rules.specs.Steps.{NodeStep}
use Rattle.mdcc_def_simulation.specs.State.{Happened, World}
use Rattle.mdcc_def_messages.specs.Mailbox.{Sent, numbered}
use Rattle.mdcc_def_simulation.specs.AppliedSteps.{fact_happened, input_happened, step_at, step_happened_by}
use Rattle.mdcc_def_simulation.specs.Checkpoints.{is_frame_kept, striking_at}
use Rattle.mdcc_def_simulation.specs.Limits.{input_limited, is_past_events, limit_if, most_events, step_limit, unless_limit}
use Rattle.mdcc_def_messages.specs.declared.facts.Fact.{Fact}
use Rattle.mdcc_def_rules.specs.declared.node.Input.{Input}
use Rattle.mdcc_def_rules.specs.declared.node.StepFault.{StepFault}
use Rattle.mdcc_def_language.specs.declared.world.EventFault.{EventFault}
use Rattle.mdcc_def_language.specs.declared.world.LimitName.{LimitName}
use Rattle.mdcc_theorem_worlds.specs.DeliveryProgress.{after_numbered_message, after_sent_message, message_counted}
use Rattle.mdcc_theorem_worlds.specs.EventEffects.{at_limit}

-- ---- the limit

abbrev by_limit : Bool → Result (Unit {0}) EventFault
by_limit b = unless_limit (limit_if b LimitName.Events most_events) tt

pub limit-open : (w : World) → w.events < most_events → at_limit w ≡ Ok tt
limit-open w few = elim (cases_Bool (is_past_events w)) [
  | inl e ↦ absurd (omega (few, leb-true most_events w.events e, arith))
  | inr e ↦ ap by_limit e
]

-- there were as many events as there may be
pub past-events : (w : World) → most_events ≤ w.events → is_past_events w ≡ true
past-events w full = le-leb most_events w.events full

pub limit-closed : (w : World) → most_events ≤ w.events → at_limit w ≡ Err (EventFault.Limit LimitName.Events most_events)
limit-closed w full = ap by_limit (past-events w full)

pub open-few : (w : World) → at_limit w ≡ Ok tt → w.events < most_events
open-few w clear = elim (cases_Bool (nat_le most_events w.events)) [
  | inl e ↦ let bad = sym (limit-closed w (leb-true most_events w.events e)) ∙ clear in absurd (cc)
  | inr e ↦ leb-false most_events w.events e
]

-- ---- an input is not counted

pub happened-events : (w : World) (a : ℕ) (r : Result NodeStep StepFault) → (input_happened w a r).world.events ≡ w.events
happened-events w a (Err StepFault.Foreign) = refl
happened-events w a (Err (StepFault.NoRoom needed spare)) = refl
happened-events w a (Err StepFault.Crowded) = refl
happened-events w a (Err StepFault.Exhausted) = refl
happened-events w a (Err StepFault.Memory) = refl
happened-events w a (Ok step) = by_fact step.fact
  where
    by_stop : (fact : Fact) (o : Option (ℕ × Image)) → (fact_happened w a step fact o).world.events ≡ w.events
    by_stop fact None = refl
    by_stop fact (Some stop) = elim (cases_Bool (is_frame_kept stop.0 stop.1)) [ inl e ↦ rw e refl | inr e ↦ rw e refl ]

    by_fact : (o : Option Fact) → (step_happened_by w a step o).world.events ≡ w.events
    by_fact None = refl
    by_fact (Some fact) = by_stop fact (striking_at w a)

-- what happens where no limit is passed
pub unless-happened : (o : Option EventFault) (h after : Happened) → unless_limit o h ≡ Ok after → h ≡ after
unless-happened None h after e = cc
unless-happened (Some fault) h after e = absurd (cc)

pub limited-events : (w : World) (a : ℕ) (r : Result NodeStep StepFault) (h : Happened) → input_limited w a r ≡ Ok h → h.world.events ≡ w.events
limited-events w a r h e =
    let same = unless-happened (step_limit w a r) (input_happened w a r) h e in
    rw (← same) (happened-events w a r)

-- ---- and a delivery is one event

pub delivery-events : (w : World) (number : ℕ) (sent : Sent) (h : Happened) → numbered w.sent number ≡ Some sent → after_numbered_message w number ≡ Ok h → h.world.events ≡ w.events + 1
delivery-events w number sent h at e = by_sent (numbered w.sent number) e
  where
    by_sent : (o : Option Sent) → after_sent_message w number o ≡ Ok h → h.world.events ≡ w.events + 1
    by_sent None k = absurd (cc)
    by_sent (Some other) k =
        limited-events (message_counted w number) other.envelope.to (step_at (message_counted w number) other.envelope.to (Input.Message other.envelope)) h k
