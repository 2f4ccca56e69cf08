-- What holds of a world of a trace after so many ticks and other steps, where each step keeps it.
use Rattle.std.proofs.Common.{Bool, Err, List, None, Ok, Option, Result, Some, [], ap, arith, false, inl, inr, refl, subst, suc, sym, true, zero, ℕ, ◌&&◌, ◌+◌, ◌-◌, ◌<◌, ◌∷◌, ◌≡◌, ◌≤◌}
use Rattle.std.specs.Option.{option_or}
use Rattle.std.specs.Prelude.{map, nat_le, ⊤}
use Rattle.std.proofs.lemmas.Bool.{cases_Bool, leb-false}
use Rattle.mdcc_base.specs.AreQuorums.{AreQuorums}
use Rattle.mdcc_base.specs.declared.outside.Image.{Image}
use Rattle.mdcc_option.specs.Transaction.{transaction_of}
use Rattle.mdcc_option.specs.declared.cluster.Cluster.{Cluster}
use Rattle.mdcc_option.specs.declared.faults.DraftFault.{DraftFault}
use Rattle.mdcc_option.specs.declared.items.Known.{Known}
use Rattle.mdcc_option.specs.declared.items.Part.{Part}
use Rattle.mdcc_def_protocol.specs.Belongs.{is_centre}
use Rattle.mdcc_def_protocol.specs.Facts.{epoch_of}
use Rattle.mdcc_def_ledger.specs.Ledger.{facts_of}
use Rattle.mdcc_def_language.specs.Resolve.{resolve}
use Rattle.mdcc_def_rules.specs.Steps.{NodeStep}
use Rattle.mdcc_def_simulation.specs.State.{Happened, World, after_lines, centre_at, counted_event, down, first_world, is_up_at, with_centre}
use Rattle.mdcc_def_messages.specs.Mailbox.{Sent, numbered, with_delivered}
use Rattle.mdcc_def_simulation.specs.Clients.{answer_of_step, begin_lines, after_begin, begun_by, parts_begun}
use Rattle.mdcc_def_simulation.specs.Limits.{passed_cells_limit, if_up, input_applied, is_limit, is_past_events, passed_log_limit, most_events, step_limit, unless_limit, with_lines, within_events}
use Rattle.mdcc_def_simulation.specs.Deliveries.{deliver_line, after_message, after_deliveries, after_delivery_by, after_delivery, first_waiting, settled_line, settled_of}
use Rattle.mdcc_def_simulation.specs.Events.{after_event, happened_of}
use Rattle.mdcc_def_simulation.specs.AppliedSteps.{fact_happened, input_happened, step_at, step_happened_by, step_stopped}
use Rattle.mdcc_def_simulation.specs.Checkpoints.{is_frame_kept, striking_at}
use Rattle.mdcc_def_simulation.specs.Centres.{after_restart, after_sweep, after_tick, restart_happened, sweep_line, tick_line}
use Rattle.mdcc_def_simulation.specs.Runs.{run_from, run_of}
use Rattle.mdcc_def_language.specs.declared.events.Event.{Event}
use Rattle.mdcc_def_messages.specs.declared.facts.Fact.{Fact}
use Rattle.mdcc_def_language.specs.declared.lines.Line.{Line}
use Rattle.mdcc_def_messages.specs.declared.messages.Envelope.{Envelope}
use Rattle.mdcc_def_rules.specs.declared.node.Input.{Input}
use Rattle.mdcc_def_rules.specs.declared.node.StepFault.{StepFault}
use Rattle.mdcc_def_language.specs.declared.schedule.ResolveFault.{ResolveFault}
use Rattle.mdcc_def_language.specs.declared.world.EventFault.{EventFault}
use Rattle.mdcc_theorem_trace_states.specs.Invariant.{Holds}
use Rattle.mdcc_theorem_trace_states.specs.Sound.{IsSound}
use Rattle.mdcc_theorem_trace_states.specs.MessageMeaning.{TrueWhenSent}
use Rattle.mdcc_theorem_trace_states.specs.Steps.{AreGood, IsFair}
use Rattle.mdcc_theorem_trace_states.specs.Words.{Each, In}
use Rattle.mdcc_theorem_trace_states.proofs.Lists.{Each-at, Each-from}
use Rattle.mdcc_theorem_trace_states.proofs.Boots.{first-holds}
use Rattle.mdcc_theorem_trace_states.proofs.Events.{OkHolds, counted-holds, delivered-holds, delivery-by-holds, event-holds, is-up, numbered-each, waiting}
use Rattle.mdcc_theorem_trace_states.proofs.Schedules.{event-good}
use Rattle.mdcc_theorem_trace_states.proofs.Sorting.{made-transaction}

-- ---- what single steps keep

-- ticks and other steps are counted apart
abbrev pub ticks_in : Input → ℕ
ticks_in Input.Tick = 1
ticks_in _ = 0

abbrev pub others_in : Input → ℕ
others_in Input.Tick = 0
others_in _ = 1

abbrev pub envelopes : List Sent → List Envelope
envelopes sent = map (λ (s : Sent). s.envelope) sent

-- a message is one of those that were sent
abbrev pub IsSentInput : World → Input → Type 0
IsSentInput w (Input.Message envelope) = In envelope (envelopes w.sent)
IsSentInput w _ = ⊤

-- a claim on worlds, by the number of ticks and of other steps, which each single thing keeps
pub record IsWalk (cluster : Cluster) (P : ℕ → ℕ → World → Type 0) : Type 0 where
  pub first : P 0 0 (first_world cluster)
  pub delivered_at : (t d : ℕ) (w : World) (n m : ℕ) → P t d w → P t d (record w { sent = with_delivered w.sent n; events = m })
  pub events : (t d : ℕ) (w : World) (m : ℕ) → P t d w → P t d (record w { events = m })
  pub reads : (t d : ℕ) (w : World) (reads : List Known) → P t d w → P t d (record w { reads = reads })
  pub crash : (t d : ℕ) (w : World) (a tail : ℕ) → Holds IsSound cluster w → is_centre w.cluster a ≡ true → P t d w → P t d (with_centre w a (down tail))
  pub stop : (t d : ℕ) (w : World) (a : ℕ) (stop : Option (ℕ × Image)) → Holds IsSound cluster w → is_centre w.cluster a ≡ true → P t d w → P t d (with_centre w a (record (centre_at w a) { stop = stop }))
  pub restart : (t d : ℕ) (w : World) (a n : ℕ) → Holds IsSound cluster w → is_centre w.cluster a ≡ true → P t d w → P t (d + 1) (restart_happened w a n).world
  pub input : (t d : ℕ) (w : World) (a : ℕ) (input : Input) → Holds IsSound cluster w → is_up_at w a ≡ true → IsFair w.cluster w.ledger input → IsSentInput w input → P t d w →
      P (t + ticks_in input) (d + others_in input) (input_happened w a (step_at w a input)).world

-- so many steps were taken, of which so many are still to be counted as events
pub record IsReached (P : ℕ → ℕ → World → Type 0) (slack : ℕ) (w : World) : Type 0 where
  pub ticks : ℕ
  pub others : ℕ
  pub is : P ticks others w
  pub within : ticks + others + slack ≤ w.events
  pub few : w.events ≤ most_events

abbrev pub OkReached : (ℕ → ℕ → World → Type 0) → Result Happened EventFault → Type 0
OkReached P (Ok h) = IsReached P 0 h.world
OkReached P (Err fault) = ⊤

abbrev pub OkSettledTo : (ℕ → ℕ → World → Type 0) → Result (Happened × ℕ) EventFault → Type 0
OkSettledTo P (Ok h) = IsReached P 0 h.0.world
OkSettledTo P (Err fault) = ⊤

-- one event more is within the limit
abbrev pub IsOpen : World → Type 0
IsOpen w = w.events < most_events

-- an input counts no event
pub input-events : (w : World) (a : ℕ) (r : Result NodeStep StepFault) → (input_happened w a r).world.events ≡ w.events
input-events w a (Err (StepFault.NoRoom needed spare)) = refl
input-events w a (Err StepFault.Foreign) = refl
input-events w a (Err StepFault.Crowded) = refl
input-events w a (Err StepFault.Exhausted) = refl
input-events w a (Err StepFault.Memory) = refl
input-events w a (Ok step) = by_fact step.fact
  where
    stopped : (fact : Fact) (stop : ℕ × Image) (kept : Bool) → is_frame_kept stop.0 stop.1 ≡ kept → (step_stopped w a fact stop).world.events ≡ w.events
    stopped fact stop true e = rw e refl
    stopped fact stop false e = rw e refl

    by_stop : (fact : Fact) (o : Option (ℕ × Image)) → (fact_happened w a step fact o).world.events ≡ w.events
    by_stop fact None = refl
    by_stop fact (Some stop) = stopped fact stop (is_frame_kept stop.0 stop.1) refl

    by_fact : (o : Option Fact) → (step_happened_by w a step o).world.events ≡ w.events
    by_fact None = refl
    by_fact (Some fact) = by_stop fact (striking_at w a)

one-step : (input : Input) → ticks_in input + others_in input ≡ 1
one-step (Input.Message envelope) = refl
one-step Input.Tick = refl
one-step Input.Sweep = refl
one-step (Input.Read key) = refl
one-step (Input.Begin parts) = refl

free-below : (most events : ℕ) → nat_le most events ≡ false → events < most
free-below most events h = leb-false most events h

left-few : (most events : ℕ) → events ≤ most → (most - events) + events ≤ most
left-few most events h = omega (arith, h)

same-envelopes : (ss : List Sent) (n : ℕ) → envelopes (with_delivered ss n) ≡ envelopes ss
same-envelopes [] n = refl
same-envelopes (s ∷ ss) zero = refl
same-envelopes (s ∷ ss) (suc n) = ap (λ z. s.envelope ∷ z) (same-envelopes ss n)

listed-in : (ss : List Sent) (s : Sent) → In s ss → In s.envelope (envelopes ss)
listed-in [] s i = absurd i
listed-in (x ∷ xs) s i = elim i [ inl e ↦ inl (ap (λ (z : Sent). z.envelope) e) | inr r ↦ inr (listed-in xs s r) ]

-- a message that was sent, and stands
abbrev pub IsWaiting : World → Envelope → Type 0
IsWaiting w envelope = TrueWhenSent w.cluster w.ledger envelope × In envelope (envelopes w.sent)

module _ (cluster : Cluster) (P : ℕ → ℕ → World → Type 0) (walk : IsWalk cluster P) (good : AreGood IsSound) where
  abbrev Reached : ℕ → World → Type 0
  Reached slack w = IsReached P slack w

  loosen : (w : World) → Reached 1 w → Reached 0 w
  loosen w c = record { ticks = c.ticks; others = c.others; is = c.is; within = omega (arith, c.within); few = c.few }

  counted : (w : World) → Reached 0 w → IsOpen w → Reached 1 (counted_event w)
  counted w c free = record { ticks = c.ticks; others = c.others; is = walk.events c.ticks c.others w (w.events + 1) c.is; within = omega (arith, c.within); few = omega (arith, free) }

  counted-delivery : (w : World) (n : ℕ) → Reached 0 w → IsOpen w → Reached 1 (record w { sent = with_delivered w.sent n; events = w.events + 1 })
  counted-delivery w n c free = record { ticks = c.ticks; others = c.others; is = walk.delivered_at c.ticks c.others w n (w.events + 1) c.is; within = omega (arith, c.within); few = omega (arith, free) }

  input-reached : (w : World) (a : ℕ) (input : Input) → Holds IsSound cluster w → is_up_at w a ≡ true → IsFair w.cluster w.ledger input → IsSentInput w input → Reached 1 w → Reached 0 (input_happened w a (step_at w a input)).world
  input-reached w a input h up fair known c = record {
    ticks = c.ticks + ticks_in input;
    others = c.others + others_in input;
    is = walk.input c.ticks c.others w a input h up fair known c.is;
    within = sum (ticks_in input) (others_in input) (input_happened w a (step_at w a input)).world.events (one-step input) (input-events w a (step_at w a input)) c.within;
    few = subst (λ z. z ≤ most_events) (sym (input-events w a (step_at w a input))) c.few;
  }
    where
      sum : (x y n : ℕ) → x + y ≡ 1 → n ≡ w.events → c.ticks + c.others + 1 ≤ w.events → (c.ticks + x) + (c.others + y) + 0 ≤ n
      sum x y n e f g = omega (arith, e, f, g)

  unless-reached : (o : Option EventFault) (h : Happened) → Reached 0 h.world → OkReached P (unless_limit o h)
  unless-reached None h g = g
  unless-reached (Some fault) h g = tt

  within-reached : (w : World) (r : Result Happened EventFault) → (IsOpen w → OkReached P r) → OkReached P (within_events w r)
  within-reached w (Ok h) g =
      elim (cases_Bool (is_past_events w)) [
        | inl e ↦ rw e tt
        | inr e ↦ rw e (g (free-below most_events w.events e))
      ]
  within-reached w (Err fault) g = elim (cases_Bool (is_limit fault && is_past_events w)) [ inl e ↦ rw e tt | inr e ↦ rw e tt ]

  lines-reached : (lines : World → List Line) (r : Result Happened EventFault) → OkReached P r → OkReached P (with_lines lines r)
  lines-reached lines (Ok h) g = g
  lines-reached lines (Err fault) g = tt

  up-reached : (w : World) (a : ℕ) (r : Result Happened EventFault) → (is_up_at w a ≡ true → OkReached P r) → OkReached P (if_up w a r)
  up-reached w a r h = elim (cases_Bool (is_up_at w a)) [ inl e ↦ rw e (h e) | inr e ↦ rw e tt ]

  -- ---- inputs

  taken : (w : World) (a : ℕ) (input : Input) → Holds IsSound cluster w → is_up_at w a ≡ true → IsFair w.cluster w.ledger input → IsSentInput w input → Reached 1 w → OkReached P (input_applied w a input)
  taken w a input h up fair known c = unless-reached (step_limit w a (step_at w a input)) (input_happened w a (step_at w a input)) (input-reached w a input h up fair known c)

  begun-by : (w : World) (a : ℕ) (qs : List Part) (r : Result (List Part) DraftFault) → Holds IsSound cluster w → is_up_at w a ≡ true → transaction_of w.cluster.schema qs ≡ r → Reached 1 w → OkReached P (begun_by w a r)
  begun-by w a qs (Err fault) h up e c = tt
  begun-by w a qs (Ok parts) h up e c =
      lines-reached (begin_lines (answer_of_step (step_at w a (Input.Begin parts)))) (input_applied w a (Input.Begin parts))
      (taken w a (Input.Begin parts) h up (made-transaction w.cluster.schema qs parts e) tt c)

  parts-reached : (w : World) (a : ℕ) (r : Result (List Part) ResolveFault) → Holds IsSound cluster w → is_up_at w a ≡ true → Reached 1 w → OkReached P (parts_begun w a r)
  parts-reached w a (Err (ResolveFault.NoRead n)) h up c = tt
  parts-reached w a (Err (ResolveFault.NoItem key)) h up c = loosen w c
  parts-reached w a (Err ResolveFault.Memory) h up c = tt
  parts-reached w a (Ok parts) h up c = begun-by w a parts (transaction_of w.cluster.schema parts) h up refl c

  -- ---- deliveries

  delivered-reached : (w : World) (n : ℕ) (env : Envelope) → Holds IsSound cluster w → IsWaiting w env → is_up_at w env.to ≡ true → IsOpen w → Reached 0 w → OkReached P (after_message w n env)
  delivered-reached w n env h waits up free c =
      taken (record w { sent = with_delivered w.sent (n - 1); events = w.events + 1 }) env.to (Input.Message env) (counted-holds IsSound cluster w (n - 1) (w.events + 1) h) up waits.0 (subst (λ z. In env z) (sym (same-envelopes w.sent (n - 1))) waits.1) (counted-delivery w (n - 1) c free)

  delivery-by : (w : World) (n : ℕ) (o : Option Sent) → Holds IsSound cluster w → ((s : Sent) → o ≡ Some s → IsWaiting w s.envelope) → Reached 0 w → OkReached P (after_delivery_by w n o)
  delivery-by w n None h f c = tt
  delivery-by w n (Some s) h f c =
      up-reached w s.envelope.to _ (λ up. within-reached w (with_lines (deliver_line n) (after_message w n s.envelope))
      (λ free. lines-reached (deliver_line n) (after_message w n s.envelope) (delivered-reached w n s.envelope h (f s refl) up free c)))

  all-waiting : (w : World) → Holds IsSound cluster w → Each (λ (s : Sent). IsWaiting w s.envelope) w.sent
  all-waiting w h = Each-from (λ (s : Sent). IsWaiting w s.envelope) w.sent (λ s i. (Each-at (λ (s : Sent). TrueWhenSent w.cluster w.ledger s.envelope) w.sent s h.sent i, listed-in w.sent s i))

  stands-of : (w : World) (n : ℕ) → Holds IsSound cluster w → (s : Sent) → numbered w.sent n ≡ Some s → IsWaiting w s.envelope
  stands-of w n h s e = numbered-each (λ (s : Sent). IsWaiting w s.envelope) w.sent n s (all-waiting w h) e

  deliveries : (numbers : List ℕ) (h : Happened) → Holds IsSound cluster h.world → Reached 0 h.world → OkReached P (after_deliveries numbers h)
  deliveries [] h g c = c
  deliveries (n ∷ ns) h g c =
      by_case (λ next k j. deliveries ns next k j) (after_delivery h.world n) refl
      (delivery-by-holds IsSound cluster good h.world n (numbered h.world.sent n) g (λ s e. (stands-of h.world n g s e).0)) (delivery-by h.world n (numbered h.world.sent n) g (stands-of h.world n g) c)
    where
      by_case : ((next : Happened) → Holds IsSound cluster next.world → Reached 0 next.world → OkReached P (after_deliveries ns next)) → (r : Result Happened EventFault) → after_delivery h.world n ≡ r → OkHolds IsSound cluster r → OkReached P r →
          OkReached P (after_deliveries (n ∷ ns) h)
      by_case rest (Err fault) e k j = rw (e, after_deliveries, OkReached) tt
      by_case rest (Ok next) e k j = rw (e, after_deliveries, OkReached) (rest (after_lines h.lines next) k j)

  -- ---- settle

  settled : (left : ℕ) (listed : List ℕ) (h : Happened) (d : ℕ) → left + h.world.events ≤ most_events → Holds IsSound cluster h.world → Reached 0 h.world → OkSettledTo P (settled_of left listed h d)
  settled zero listed h d few g c = by_case (first_waiting h.world listed 1 h.world.sent) refl
    where
      by_case : (o : Option (ℕ × Envelope)) → first_waiting h.world listed 1 h.world.sent ≡ o → OkSettledTo P (settled_of zero listed h d)
      by_case None e = rw (e, settled_of, OkSettledTo) c
      by_case (Some next) e = rw (e, settled_of, OkSettledTo) tt
  settled (suc left) listed h d few g c = by_case (λ k n i j m. settled left listed k n i j m) (first_waiting h.world listed 1 h.world.sent) refl
    where
      by_result : ((k : Happened) (n : ℕ) → left + k.world.events ≤ most_events → Holds IsSound cluster k.world → Reached 0 k.world → OkSettledTo P (settled_of left listed k n)) → (next : ℕ × Envelope) →
          first_waiting h.world listed 1 h.world.sent ≡ Some next → (r : Result Happened EventFault) → after_message h.world next.0 next.1 ≡ r → OkHolds IsSound cluster r → OkReached P r → ((k : Happened) → r ≡ Ok k → k.world.events ≡ h.world.events + 1) →
          OkSettledTo P (settled_of (suc left) listed h d)
      by_result rest next e (Err fault) f k j m = rw (e, settled_of) (rw (f, OkSettledTo) tt)
      by_result rest next e (Ok after) f k j m = rw (e, settled_of) (rw (f, OkSettledTo) (rest (after_lines h.lines after) (d + 1) (let n = m after refl in omega (arith, few, n)) k j))

      by_case : ((k : Happened) (n : ℕ) → left + k.world.events ≤ most_events → Holds IsSound cluster k.world → Reached 0 k.world → OkSettledTo P (settled_of left listed k n)) → (o : Option (ℕ × Envelope)) →
          first_waiting h.world listed 1 h.world.sent ≡ o → OkSettledTo P (settled_of (suc left) listed h d)
      by_case rest None e = rw (e, settled_of, OkSettledTo) c
      by_case rest (Some next) e =
          let m = waiting h.world (IsWaiting h.world) listed 1 h.world.sent next (all-waiting h.world g) e in
          by_result rest next e (after_message h.world next.0 next.1) refl (delivered-holds IsSound cluster good h.world next.0 next.1 g m.0.0 m.1)
          (delivered-reached h.world next.0 next.1 g m.0 m.1 (omega (arith, few)) c) (λ k s. one-more next.0 next.1 k s)
        where
          one-more : (n : ℕ) (env : Envelope) (k : Happened) → after_message h.world n env ≡ Ok k → k.world.events ≡ h.world.events + 1
          one-more n env k s = by_limit (step_limit w a (step_at w a (Input.Message env))) s
            where
              w : World
              w = record h.world { sent = with_delivered h.world.sent (n - 1); events = h.world.events + 1 }

              a : ℕ
              a = env.to

              by_limit : (o : Option EventFault) → unless_limit o (input_happened w a (step_at w a (Input.Message env))) ≡ Ok k → k.world.events ≡ h.world.events + 1
              by_limit (Some fault) q = absurd (cc)
              by_limit None q =
                  let same : input_happened w a (step_at w a (Input.Message env)) ≡ k = cc in
                  subst (λ (z : Happened). z.world.events ≡ h.world.events + 1) same (input-events w a (step_at w a (Input.Message env)))

  settled-end : (r : Result (Happened × ℕ) EventFault) → OkSettledTo P r → OkReached P (settled_line r)
  settled-end (Err fault) h = tt
  settled-end (Ok (h, n)) g = g

  -- ---- events

  restart-reached : (w : World) (a : ℕ) → Holds IsSound cluster w → is_centre w.cluster a ≡ true → Reached 1 w → OkReached P (after_restart w a)
  restart-reached w a h here c =
      unless-reached
      (option_or (passed_cells_limit w a (Fact.Booted (epoch_of (facts_of w.ledger a) + 1))) (passed_log_limit w a (Fact.Booted (epoch_of (facts_of w.ledger a) + 1))))
      (restart_happened w a (epoch_of (facts_of w.ledger a) + 1))
      (record { ticks = c.ticks; others = c.others + 1; is = walk.restart c.ticks c.others w a (epoch_of (facts_of w.ledger a) + 1) h here c.is; within = omega (arith, c.within); few = c.few })

  same-reached : (w v : World) → Reached 1 w → v.events ≡ w.events → ((t d : ℕ) → P t d w → P t d v) → Reached 0 v
  same-reached w v c e f = record { ticks = c.ticks; others = c.others; is = f c.ticks c.others c.is; within = omega (arith, c.within, e); few = subst (λ z. z ≤ most_events) (sym e) c.few }

  happened-reached : (w : World) (event : Event) → Holds IsSound cluster w → Reached 1 w → OkReached P (happened_of w event)
  happened-reached w (Event.Read a key) h c = up-reached w a _ (λ up. same-reached w _ c refl (λ t d. walk.reads t d w _))
  happened-reached w (Event.Begin a words) h c = up-reached w a (after_begin w a words) (λ up. parts-reached w a (resolve words (map Some w.reads)) h up c)
  happened-reached w (Event.Deliver numbers) h c = deliveries numbers (record { world = w; lines = [] }) h (loosen w c)
  happened-reached w (Event.Settle listed) h c =
      settled-end (settled_of (most_events - w.events) listed (record { world = w; lines = Line.Settle listed ∷ [] }) 0)
      (settled (most_events - w.events) listed (record { world = w; lines = Line.Settle listed ∷ [] }) 0 (left-few most_events w.events c.few) h (loosen w c))
  happened-reached w (Event.Tick a) h c = up-reached w a (after_tick w a) (λ up. lines-reached (tick_line a) (input_applied w a Input.Tick) (taken w a Input.Tick h up tt tt c))
  happened-reached w (Event.Sweep a) h c = up-reached w a (after_sweep w a) (λ up. lines-reached (sweep_line a) (input_applied w a Input.Sweep) (taken w a Input.Sweep h up tt tt c))
  happened-reached w (Event.Crash a) h c = up-reached w a _ (λ up. same-reached w (with_centre w a (down (centre_at w a).tail)) c refl (λ t d. walk.crash t d w a (centre_at w a).tail h (is-up IsSound cluster w a h up).centre))
  happened-reached w (Event.Restart a) h c =
      elim (cases_Bool (is_up_at w a)) [
        | inl e ↦ rw e tt
        | inr e ↦ rw e (elim (cases_Bool (is_centre w.cluster a)) [ inl g ↦ rw g (restart-reached w a h g c) | inr g ↦ rw g tt ])
      ]
  happened-reached w (Event.Stop a call image) h c = up-reached w a _ (λ up. same-reached w _ c refl (λ t d. walk.stop t d w a (Some (call, image)) h (is-up IsSound cluster w a h up).centre))

  event-reached : (w : World) (event : Event) → Holds IsSound cluster w → Reached 0 w → OkReached P (after_event w event)
  event-reached w (Event.Deliver numbers) h c = deliveries numbers (record { world = w; lines = [] }) h c
  event-reached w (Event.Read a key) h c = within-reached w _ (λ free. happened-reached (counted_event w) (Event.Read a key) (event-holds IsSound cluster w h) (counted w c free))
  event-reached w (Event.Begin a words) h c = within-reached w _ (λ free. happened-reached (counted_event w) (Event.Begin a words) (event-holds IsSound cluster w h) (counted w c free))
  event-reached w (Event.Settle listed) h c = within-reached w _ (λ free. happened-reached (counted_event w) (Event.Settle listed) (event-holds IsSound cluster w h) (counted w c free))
  event-reached w (Event.Tick a) h c = within-reached w _ (λ free. happened-reached (counted_event w) (Event.Tick a) (event-holds IsSound cluster w h) (counted w c free))
  event-reached w (Event.Sweep a) h c = within-reached w _ (λ free. happened-reached (counted_event w) (Event.Sweep a) (event-holds IsSound cluster w h) (counted w c free))
  event-reached w (Event.Crash a) h c = within-reached w _ (λ free. happened-reached (counted_event w) (Event.Crash a) (event-holds IsSound cluster w h) (counted w c free))
  event-reached w (Event.Restart a) h c = within-reached w _ (λ free. happened-reached (counted_event w) (Event.Restart a) (event-holds IsSound cluster w h) (counted w c free))
  event-reached w (Event.Stop a call image) h c = within-reached w _ (λ free. happened-reached (counted_event w) (Event.Stop a call image) (event-holds IsSound cluster w h) (counted w c free))

  run-reached : (events : List Event) (h : Happened) → Holds IsSound cluster h.world → Reached 0 h.world → Reached 0 (run_from events h).world
  run-reached [] h g c = c
  run-reached (event ∷ events) h g c = by_case (λ next k j. run-reached events next k j) (after_event h.world event) refl (event-good IsSound cluster good h.world event g) (event-reached h.world event g c)
    where
      by_case : ((next : Happened) → Holds IsSound cluster next.world → Reached 0 next.world → Reached 0 (run_from events next).world) → (r : Result Happened EventFault) → after_event h.world event ≡ r → OkHolds IsSound cluster r → OkReached P r →
          Reached 0 (run_from (event ∷ events) h).world
      by_case rest (Err fault) e k j = rw (e, run_from) c
      by_case rest (Ok next) e k j = rw (e, run_from) (rest (after_lines h.lines next) k j)

  -- at the end of every run
  pub trace-reached : AreQuorums cluster.quorums → (events : List Event) → Reached 0 (run_of (first_world cluster) events).world
  trace-reached sizes events =
      run-reached events (record { world = first_world cluster; lines = [] }) (first-holds IsSound cluster sizes good)
      (record { ticks = 0; others = 0; is = walk.first; within = omega arith; few = omega arith })
