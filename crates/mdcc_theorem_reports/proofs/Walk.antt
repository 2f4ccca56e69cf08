-- What is kept by each single thing that happens in a world is kept by whole events and runs.
use Rattle.std.proofs.Common.{Bool, Err, List, None, Ok, Option, Result, Some, [], arith, cond, false, inl, inr, length, refl, subst, suc, true, zero, ℕ, ◌&&◌, ◌++◌, ◌+◌, ◌-◌, ◌<◌, ◌==◌, ◌||◌, ◌∷◌, ◌≡◌, ◌≤◌}
use Rattle.std.specs.Bool.{⊤}
use Rattle.std.specs.List.{AllByRecursion, list_any}
use Rattle.std.specs.Option.{option_or}
use Rattle.std.specs.Prelude.{IsTrue, map, nat_le, not}
use Rattle.std.proofs.lemmas.Bool.{and_parts, cases_Bool}
use Rattle.mdcc_base.specs.declared.key.Key.{Key}
use Rattle.mdcc_option.specs.Transaction.{transaction_of}
use Rattle.mdcc_option.specs.declared.faults.DraftFault.{DraftFault}
use Rattle.mdcc_option.specs.declared.items.Part.{Part}
use Rattle.mdcc_def_protocol.specs.Facts.{epoch_of}
use Rattle.mdcc_def_ledger.specs.Ledger.{facts_of}
use Rattle.mdcc_def_language.specs.Resolve.{resolve}
use Rattle.mdcc_def_simulation.specs.State.{Happened, SimulatedSite, World, after_lines, centre_at, counted_event, down, is_up_at, next_message, with_centre}
use Rattle.mdcc_def_messages.specs.Mailbox.{Sent, numbered, with_delivered}
use Rattle.mdcc_def_simulation.specs.Clients.{answer_of_step, begin_lines, after_begin, begun_by, parts_begun, read_happened}
use Rattle.mdcc_def_simulation.specs.Limits.{passed_cells_limit, if_up, is_limit, is_past_events, passed_log_limit, most_events, step_limit, unless_limit, with_lines, within_events}
use Rattle.mdcc_def_simulation.specs.Deliveries.{deliver_line, after_message, after_deliveries, after_delivery_by, after_delivery, first_waiting, is_waiting_for, after_settle, settled_line, settled_of}
use Rattle.mdcc_def_simulation.specs.Events.{after_event, happened_of, is_deliver}
use Rattle.mdcc_def_simulation.specs.AppliedSteps.{fact_happened, input_happened, step_at, step_happened_by, step_stopped}
use Rattle.mdcc_def_simulation.specs.Checkpoints.{is_frame_kept, striking_at}
use Rattle.mdcc_def_simulation.specs.Centres.{restart_happened, after_restart, sweep_line, tick_line, after_sweep, after_tick}
use Rattle.mdcc_def_simulation.specs.Runs.{run_from, run_of}
use Rattle.mdcc_def_language.specs.declared.events.Event.{Event}
use Rattle.mdcc_def_messages.specs.declared.facts.Fact.{Fact}
use Rattle.mdcc_def_language.specs.declared.lines.Line.{Line}
use Rattle.mdcc_def_messages.specs.declared.messages.Envelope.{Envelope}
use Rattle.mdcc_def_rules.specs.declared.node.Answer.{Answer}
use Rattle.mdcc_def_rules.specs.declared.node.Input.{Input}
use Rattle.mdcc_def_rules.specs.declared.node.StepFault.{StepFault}
use Rattle.mdcc_def_rules.specs.Steps.{NodeStep}
use Rattle.mdcc_def_protocol.specs.Belongs.{is_centre}
use Rattle.mdcc_base.specs.declared.outside.Image.{Image}
use Rattle.mdcc_def_language.specs.declared.schedule.ResolveFault.{ResolveFault}
use Rattle.mdcc_def_language.specs.declared.world.EventFault.{EventFault}

-- ---- single things

-- one event more is within the limit
abbrev pub IsOpen : World → Type 0
IsOpen w = w.events < most_events

-- an event is counted, and messages may count as delivered
abbrev pub counted_with : World → List Sent → World
counted_with w sent = record w { sent = sent; events = w.events + 1 }

-- a line of which no law speaks
abbrev pub is_silent : Line → Bool
is_silent (Line.Chosen tx is_committed) = false
is_silent (Line.Heard a tx is_committed) = false
is_silent (Line.Read number a known) = false
is_silent line = true

-- what an input does, where an event is counted first
abbrev pub taken_in : World → List Sent → ℕ → Input → Happened
taken_in w sent a input = input_happened (counted_with w sent) a (step_at (counted_with w sent) a input)

-- a relation between a world, a later one and the lines between them, which single things keep
pub record IsKept (R : World → World → List Line → Type 0) : Type 0 where
  pub none : (w : World) → R w w []
  pub join : (v w x : World) (ls ks : List Line) → R v w ls → R w x ks → R v x (ls ++ ks)
  pub silent : (w : World) (line : Line) → IsTrue (is_silent line) → R w w (line ∷ [])
  pub count : (w : World) → IsOpen w → R w (counted_event w) []
  pub input : (w : World) (sent : List Sent) (a : ℕ) (input : Input) → IsOpen w → is_up_at w a ≡ true → R w (taken_in w sent a input).world (taken_in w sent a input).lines
  pub read : (w : World) (a : ℕ) (key : Key) → IsOpen w → R w (read_happened (counted_event w) a key).world (read_happened (counted_event w) a key).lines
  pub boot : (w : World) (a epoch : ℕ) → IsOpen w → R w (restart_happened (counted_event w) a epoch).world []
  pub site : (w : World) (a : ℕ) (site : SimulatedSite) → IsOpen w → R w (with_centre (counted_event w) a site) []

-- what holds of a world and what happened in it, unless nothing did
abbrev pub OkKept : (World → World → List Line → Type 0) → World → Result Happened EventFault → Type 0
OkKept R w (Ok h) = R w h.world h.lines
OkKept R w (Err fault) = ⊤

free-world : (most events : ℕ) → nat_le most events ≡ false → events < most
free-world most events h = grind (arith)

-- an input counts no event
pub input-events : (w : World) (a : ℕ) (r : Result NodeStep StepFault) → (input_happened w a r).world.events ≡ w.events
input-events w a (Err (StepFault.NoRoom needed spare)) = refl
input-events w a (Err StepFault.Foreign) = refl
input-events w a (Err StepFault.Crowded) = refl
input-events w a (Err StepFault.Exhausted) = refl
input-events w a (Err StepFault.Memory) = refl
input-events w a (Ok step) = by_fact step.fact
  where
    stopped : (fact : Fact) (stop : ℕ × Image) (kept : Bool) → is_frame_kept stop.0 stop.1 ≡ kept → (step_stopped w a fact stop).world.events ≡ w.events
    stopped fact stop true e = rw e refl
    stopped fact stop false e = rw e refl

    by_stop : (fact : Fact) (o : Option (ℕ × Image)) → (fact_happened w a step fact o).world.events ≡ w.events
    by_stop fact None = refl
    by_stop fact (Some stop) = stopped fact stop (is_frame_kept stop.0 stop.1) refl

    by_fact : (o : Option Fact) → (step_happened_by w a step o).world.events ≡ w.events
    by_fact None = refl
    by_fact (Some fact) = by_stop fact (striking_at w a)

-- a delivery counts one
delivered-events : (w : World) (number : ℕ) (envelope : Envelope) (after : Happened) → after_message w number envelope ≡ Ok after → after.world.events ≡ w.events + 1
delivered-events w number envelope after e =
    by_limit (step_limit (counted_with w (with_delivered w.sent (number - 1))) envelope.to (step_at (counted_with w (with_delivered w.sent (number - 1))) envelope.to (Input.Message envelope))) e
  where
    by_limit : (o : Option EventFault) → unless_limit o (taken_in w (with_delivered w.sent (number - 1)) envelope.to (Input.Message envelope)) ≡ Ok after → after.world.events ≡ w.events + 1
    by_limit (Some fault) g = absurd (cc)
    by_limit None g =
        let same : taken_in w (with_delivered w.sent (number - 1)) envelope.to (Input.Message envelope) ≡ after = cc in
        subst (λ (z : Happened). z.world.events ≡ w.events + 1) same
        (input-events (counted_with w (with_delivered w.sent (number - 1))) envelope.to (step_at (counted_with w (with_delivered w.sent (number - 1))) envelope.to (Input.Message envelope)))

left-few : (most events : ℕ) → nat_le events most ≡ true → (most - events) + events ≤ most
left-few most events h = grind (arith)

no-left : (most events : ℕ) → nat_le events most ≡ false → most - events ≡ 0
no-left most events h = grind (arith)

module _ (R : World → World → List Line → Type 0) (kept : IsKept R) where
  unless-kept : (w : World) (o : Option EventFault) (h : Happened) → R w h.world h.lines → OkKept R w (unless_limit o h)
  unless-kept w None h g = g
  unless-kept w (Some fault) h g = tt

  within-kept : (w : World) (r : Result Happened EventFault) → (IsOpen w → OkKept R w r) → OkKept R w (within_events w r)
  within-kept w (Ok h) g =
      elim (cases_Bool (is_past_events w)) [
        | inl e ↦ rw e tt
        | inr e ↦ rw e (g (free-world most_events w.events e))
      ]
  within-kept w (Err fault) g = elim (cases_Bool (is_limit fault && is_past_events w)) [ inl e ↦ rw e tt | inr e ↦ rw e tt ]

  up-kept : (w v : World) (a : ℕ) (r : Result Happened EventFault) → (is_up_at w a ≡ true → OkKept R v r) → OkKept R v (if_up w a r)
  up-kept w v a r h = elim (cases_Bool (is_up_at w a)) [ inl e ↦ rw e (h e) | inr e ↦ rw e tt ]

  -- ---- lines

  silents : (w : World) (lines : List Line) → AllByRecursion (λ line. IsTrue (is_silent line)) lines → R w w lines
  silents w [] h = kept.none w
  silents w (line ∷ lines) h = kept.join w w w (line ∷ []) lines (kept.silent w line h.0) (silents w lines h.1)

  lines-kept : (w : World) (lines : World → List Line) (r : Result Happened EventFault) → ((x : World) → AllByRecursion (λ line. IsTrue (is_silent line)) (lines x)) → OkKept R w r → OkKept R w (with_lines lines r)
  lines-kept w lines (Ok h) s g = kept.join w w h.world (lines h.world) h.lines (silents w (lines h.world) (s h.world)) g
  lines-kept w lines (Err fault) s g = tt

  begin-silent : (answer : Option Answer) (w : World) → AllByRecursion (λ line. IsTrue (is_silent line)) (begin_lines answer w)
  begin-silent (Some (Answer.Begun tx)) w = (refl, tt)
  begin-silent (Some (Answer.Refused key fault)) w = (refl, tt)
  begin-silent (Some (Answer.Read reading)) w = tt
  begin-silent None w = tt

  -- ---- inputs

  taken-kept : (w : World) (sent : List Sent) (a : ℕ) (input : Input) → IsOpen w → is_up_at w a ≡ true →
      OkKept R w (unless_limit (step_limit (counted_with w sent) a (step_at (counted_with w sent) a input)) (taken_in w sent a input))
  taken-kept w sent a input free up =
      unless-kept w (step_limit (counted_with w sent) a (step_at (counted_with w sent) a input)) (taken_in w sent a input) (kept.input w sent a input free up)

  begun-by-kept : (w : World) (a : ℕ) (r : Result (List Part) DraftFault) → IsOpen w → is_up_at w a ≡ true → OkKept R w (begun_by (counted_event w) a r)
  begun-by-kept w a (Err fault) free up = tt
  begun-by-kept w a (Ok parts) free up =
      lines-kept w (begin_lines (answer_of_step (step_at (counted_event w) a (Input.Begin parts)))) _ (begin-silent (answer_of_step (step_at (counted_event w) a (Input.Begin parts))))
      (taken-kept w w.sent a (Input.Begin parts) free up)

  told : (w x : World) (line : Line) → IsTrue (is_silent line) → R w x [] → R w x (line ∷ [])
  told w x line s g = kept.join w w x (line ∷ []) [] (kept.silent w line s) g

  parts-kept : (w : World) (a : ℕ) (r : Result (List Part) ResolveFault) → IsOpen w → is_up_at w a ≡ true → OkKept R w (parts_begun (counted_event w) a r)
  parts-kept w a (Err (ResolveFault.NoRead n)) free up = tt
  parts-kept w a (Err (ResolveFault.NoItem key)) free up = told w (counted_event w) _ refl (kept.count w free)
  parts-kept w a (Err ResolveFault.Memory) free up = tt
  parts-kept w a (Ok parts) free up = begun-by-kept w a (transaction_of w.cluster.schema parts) free up

  -- ---- deliveries

  delivered-kept : (w : World) (number : ℕ) (envelope : Envelope) → IsOpen w → is_up_at w envelope.to ≡ true → OkKept R w (after_message w number envelope)
  delivered-kept w number envelope free up = taken-kept w (with_delivered w.sent (number - 1)) envelope.to (Input.Message envelope) free up

  delivery-by-kept : (w : World) (number : ℕ) (o : Option Sent) → OkKept R w (after_delivery_by w number o)
  delivery-by-kept w number None = tt
  delivery-by-kept w number (Some s) =
      up-kept w w s.envelope.to _
      (λ up. within-kept w (with_lines (deliver_line number) (after_message w number s.envelope))
      (λ free. lines-kept w (deliver_line number) (after_message w number s.envelope) (λ x. (refl, tt)) (delivered-kept w number s.envelope free up)))

  -- what was reached before, and this
  abbrev After : World → Happened → Result Happened EventFault → Type 0
  After v h r = R v h.world h.lines → OkKept R v r

  deliveries-kept : (v : World) (numbers : List ℕ) (h : Happened) → R v h.world h.lines → OkKept R v (after_deliveries numbers h)
  deliveries-kept v [] h g = g
  deliveries-kept v (number ∷ numbers) h g = by_case (λ next. deliveries-kept v numbers next) (after_delivery h.world number) refl (delivery-by-kept h.world number (numbered h.world.sent number))
    where
      by_case : ((next : Happened) → R v next.world next.lines → OkKept R v (after_deliveries numbers next)) → (r : Result Happened EventFault) → after_delivery h.world number ≡ r → OkKept R h.world r →
          OkKept R v (after_deliveries (number ∷ numbers) h)
      by_case rest (Err fault) e k = rw (e, after_deliveries, OkKept) tt
      by_case rest (Ok next) e k = rw (e, after_deliveries, OkKept) (rest (after_lines h.lines next) (kept.join v h.world next.world h.lines next.lines g k))

  -- ---- settle

  waiting-up : (w : World) (listed : List ℕ) (n : ℕ) (ss : List Sent) (next : ℕ × Envelope) → first_waiting w listed n ss ≡ Some next → is_up_at w next.1.to ≡ true
  waiting-up w listed n [] next e = absurd (cc)
  waiting-up w listed n (s ∷ ss) next e = by_case (λ k. waiting-up w listed (n + 1) ss next k) (is_waiting_for w listed s) refl
    where
      up : (d : Bool) → cond d false (is_up_at w s.envelope.to && (length listed == 0 || list_any (λ a. a == s.envelope.to) listed)) ≡ true → is_up_at w s.envelope.to ≡ true
      up true k = absurd (cc)
      up false k = (and_parts (is_up_at w s.envelope.to) _ k).0

      by_case : (first_waiting w listed (n + 1) ss ≡ Some next → is_up_at w next.1.to ≡ true) → (b : Bool) → is_waiting_for w listed s ≡ b → is_up_at w next.1.to ≡ true
      by_case rest true k =
          let g : Some (n, s.envelope) ≡ Some next = rw (k, first_waiting) at e in
          let t : s.envelope ≡ next.1 = cc in
          subst (λ (z : Envelope). is_up_at w z.to ≡ true) t (up s.is_delivered k)
      by_case rest false k = let g : first_waiting w listed (n + 1) ss ≡ Some next = rw (k, first_waiting) at e in rest g

  abbrev OkSettled : World → Result (Happened × ℕ) EventFault → Type 0
  OkSettled v (Ok h) = R v h.0.world h.0.lines
  OkSettled v (Err fault) = ⊤

  settled-kept : (v : World) (left : ℕ) (listed : List ℕ) (h : Happened) (d : ℕ) → left + h.world.events ≤ most_events → R v h.world h.lines → OkSettled v (settled_of left listed h d)
  settled-kept v zero listed h d few g = by_case (first_waiting h.world listed 1 h.world.sent) refl
    where
      by_case : (o : Option (ℕ × Envelope)) → first_waiting h.world listed 1 h.world.sent ≡ o → OkSettled v (settled_of zero listed h d)
      by_case None e = rw (e, settled_of, OkSettled) g
      by_case (Some next) e = rw (e, settled_of, OkSettled) tt
  settled-kept v (suc left) listed h d few g = by_case (λ k n. settled-kept v left listed k n) (first_waiting h.world listed 1 h.world.sent) refl
    where
      by_result : ((k : Happened) (n : ℕ) → left + k.world.events ≤ most_events → R v k.world k.lines → OkSettled v (settled_of left listed k n)) → (next : ℕ × Envelope) → first_waiting h.world listed 1 h.world.sent ≡ Some next →
          (r : Result Happened EventFault) → after_message h.world next.0 next.1 ≡ r → OkKept R h.world r → OkSettled v (settled_of (suc left) listed h d)
      by_result rest next e (Err fault) f k = rw (e, settled_of) (rw (f, OkSettled) tt)
      by_result rest next e (Ok after) f k =
          let events : after.world.events ≡ h.world.events + 1 = delivered-events h.world next.0 next.1 after f in
          rw (e, settled_of) (rw (f, OkSettled) (rest (after_lines h.lines after) (d + 1) (omega arith) (kept.join v h.world after.world h.lines after.lines g k)))

      by_case : ((k : Happened) (n : ℕ) → left + k.world.events ≤ most_events → R v k.world k.lines → OkSettled v (settled_of left listed k n)) → (o : Option (ℕ × Envelope)) → first_waiting h.world listed 1 h.world.sent ≡ o →
          OkSettled v (settled_of (suc left) listed h d)
      by_case rest None e = rw (e, settled_of, OkSettled) g
      by_case rest (Some next) e =
          by_result rest next e (after_message h.world next.0 next.1) refl
          (delivered-kept h.world next.0 next.1 (omega arith) (waiting-up h.world listed 1 h.world.sent next e))

  none-left : (v : World) (left : ℕ) (listed : List ℕ) (h : Happened) (d : ℕ) → left ≡ 0 → R v h.world h.lines → OkSettled v (settled_of left listed h d)
  none-left v left listed h d zero_left g = rw zero_left (by_case (first_waiting h.world listed 1 h.world.sent) refl)
    where
      by_case : (o : Option (ℕ × Envelope)) → first_waiting h.world listed 1 h.world.sent ≡ o → OkSettled v (settled_of 0 listed h d)
      by_case None e = rw (e, settled_of, OkSettled) g
      by_case (Some next) e = rw (e, settled_of, OkSettled) tt

  settled-line : (v : World) (r : Result (Happened × ℕ) EventFault) → OkSettled v r → OkKept R v (settled_line r)
  settled-line v (Err fault) h = tt
  settled-line v (Ok (h, n)) g = kept.join v h.world h.world h.lines _ g (silents h.world (Line.Settled n (next_message h.world) ∷ []) (refl, tt))

  settle-kept : (w : World) (listed : List ℕ) → IsOpen w → OkKept R w (after_settle (counted_event w) listed)
  settle-kept w listed free =
      elim (cases_Bool (nat_le (w.events + 1) most_events)) [
        | inl few ↦ settled-line w (settled_of (most_events - (w.events + 1)) listed first 0) (settled-kept w (most_events - (w.events + 1)) listed first 0 (left-few most_events (w.events + 1) few) (told w (counted_event w) (Line.Settle listed) refl (kept.count w free)))
        | inr many ↦ settled-line w (settled_of (most_events - (w.events + 1)) listed first 0) (none-left w (most_events - (w.events + 1)) listed first 0 (no-left most_events (w.events + 1) many) (told w (counted_event w) (Line.Settle listed) refl (kept.count w free)))
      ]
    where
      first : Happened
      first = record { world = counted_event w; lines = Line.Settle listed ∷ [] }

  -- ---- events

  restart-kept : (w : World) (a : ℕ) → IsOpen w → OkKept R w (after_restart (counted_event w) a)
  restart-kept w a free =
      unless-kept w (option_or (passed_cells_limit (counted_event w) a (Fact.Booted (epoch_of (facts_of w.ledger a) + 1))) (passed_log_limit (counted_event w) a (Fact.Booted (epoch_of (facts_of w.ledger a) + 1))))
      (restart_happened (counted_event w) a (epoch_of (facts_of w.ledger a) + 1))
      (told w (restart_happened (counted_event w) a (epoch_of (facts_of w.ledger a) + 1)).world _ refl (kept.boot w a (epoch_of (facts_of w.ledger a) + 1) free))

  happened-kept : (w : World) (event : Event) → IsTrue (not (is_deliver event)) → IsOpen w → OkKept R w (happened_of (counted_event w) event)
  happened-kept w (Event.Read a key) single free = up-kept (counted_event w) w a _ (λ up. kept.read w a key free)
  happened-kept w (Event.Begin a words) single free = up-kept (counted_event w) w a (after_begin (counted_event w) a words) (λ up. parts-kept w a (resolve words (map Some w.reads)) free up)
  happened-kept w (Event.Deliver numbers) single free = absurd (cc)
  happened-kept w (Event.Settle listed) single free = settle-kept w listed free
  happened-kept w (Event.Tick a) single free =
      up-kept (counted_event w) w a (after_tick (counted_event w) a)
      (λ up. lines-kept w (tick_line a) _ (λ x. (refl, tt)) (taken-kept w w.sent a Input.Tick free up))
  happened-kept w (Event.Sweep a) single free =
      up-kept (counted_event w) w a (after_sweep (counted_event w) a)
      (λ up. lines-kept w (sweep_line a) _ (λ x. (refl, tt)) (taken-kept w w.sent a Input.Sweep free up))
  happened-kept w (Event.Crash a) single free = up-kept (counted_event w) w a _ (λ up. told w (with_centre (counted_event w) a (down (centre_at w a).tail)) _ refl (kept.site w a (down (centre_at w a).tail) free))
  happened-kept w (Event.Restart a) single free =
      elim (cases_Bool (is_up_at w a)) [
        | inl e ↦ rw e tt
        | inr e ↦ rw e (elim (cases_Bool (is_centre w.cluster a)) [ inl g ↦ rw g (restart-kept w a free) | inr g ↦ rw g tt ])
      ]
  happened-kept w (Event.Stop a call image) single free =
      up-kept (counted_event w) w a _ (λ up. told w (with_centre (counted_event w) a (record (centre_at w a) { stop = Some (call, image) })) _ refl (kept.site w a (record (centre_at w a) { stop = Some (call, image) }) free))

  pub event-kept : (w : World) (event : Event) → OkKept R w (after_event w event)
  event-kept w (Event.Deliver numbers) = deliveries-kept w numbers (record { world = w; lines = [] }) (kept.none w)
  event-kept w (Event.Read a key) = within-kept w _ (happened-kept w (Event.Read a key) refl)
  event-kept w (Event.Begin a words) = within-kept w _ (happened-kept w (Event.Begin a words) refl)
  event-kept w (Event.Settle listed) = within-kept w _ (happened-kept w (Event.Settle listed) refl)
  event-kept w (Event.Tick a) = within-kept w _ (happened-kept w (Event.Tick a) refl)
  event-kept w (Event.Sweep a) = within-kept w _ (happened-kept w (Event.Sweep a) refl)
  event-kept w (Event.Crash a) = within-kept w _ (happened-kept w (Event.Crash a) refl)
  event-kept w (Event.Restart a) = within-kept w _ (happened-kept w (Event.Restart a) refl)
  event-kept w (Event.Stop a call image) = within-kept w _ (happened-kept w (Event.Stop a call image) refl)

  -- ---- runs

  run-kept : (v : World) (events : List Event) (h : Happened) → R v h.world h.lines → R v (run_from events h).world (run_from events h).lines
  run-kept v [] h g = g
  run-kept v (event ∷ events) h g = by_case (λ next k. run-kept v events next k) (after_event h.world event) refl (event-kept h.world event)
    where
      by_case : ((next : Happened) → R v next.world next.lines → R v (run_from events next).world (run_from events next).lines) → (r : Result Happened EventFault) → after_event h.world event ≡ r → OkKept R h.world r →
          R v (run_from (event ∷ events) h).world (run_from (event ∷ events) h).lines
      by_case rest (Err fault) e k = rw (e, run_from) g
      by_case rest (Ok next) e k = rw (e, run_from) (rest (after_lines h.lines next) (kept.join v h.world next.world h.lines next.lines g k))

  -- a relation that single things keep holds of whole runs
  pub runs-keep : (w : World) (events : List Event) → R w (run_of w events).world (run_of w events).lines
  runs-keep w events = run-kept w events (record { world = w; lines = [] }) (kept.none w)
