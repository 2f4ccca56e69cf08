-- Every event and every schedule keeps the invariant, where each step of a node is good.
use Rattle.std.proofs.Common.{Err, List, Ok, Result, Some, [], inl, inr, refl, true, ℕ, ◌+◌, ◌-◌, ◌∷◌, ◌≡◌}
use Rattle.std.proofs.lemmas.Bool.{cases_Bool}
use Rattle.mdcc_base.specs.AreQuorums.{AreQuorums}
use Rattle.mdcc_option.specs.declared.faults.DraftFault.{DraftFault}
use Rattle.mdcc_option.specs.declared.cluster.Cluster.{Cluster}
use Rattle.mdcc_option.specs.declared.items.Part.{Part}
use Rattle.mdcc_def_ledger.specs.Ledger.{Entry, facts_of}
use Rattle.mdcc_def_protocol.specs.Belongs.{is_centre}
use Rattle.mdcc_def_rules.specs.declared.node.Input.{Input}
use Rattle.mdcc_def_language.specs.declared.events.Event.{Event}
use Rattle.mdcc_def_language.specs.declared.world.EventFault.{EventFault}
use Rattle.mdcc_def_language.specs.declared.lines.Line.{Line}
use Rattle.mdcc_def_simulation.specs.State.{Happened, World, after_lines, centre_at, counted_event, first_world, is_up_at}
use Rattle.mdcc_def_simulation.specs.Clients.{answer_of_step, begin_lines, after_begin, begun_by, parts_begun}
use Rattle.mdcc_def_simulation.specs.Limits.{passed_cells_limit, input_applied, passed_log_limit, most_events, step_limit}
use Rattle.mdcc_def_simulation.specs.Events.{after_event, happened_of, is_deliver}
use Rattle.mdcc_def_simulation.specs.AppliedSteps.{input_happened, step_at}
use Rattle.mdcc_def_simulation.specs.Centres.{restart_happened, after_restart, sweep_line, tick_line, after_sweep, after_tick}
use Rattle.mdcc_def_simulation.specs.Runs.{run_from, run_of}
use Rattle.mdcc_def_simulation.specs.Deliveries.{settled_of}
use Rattle.mdcc_theorem_trace_states.specs.Invariant.{Holds}
use Rattle.mdcc_theorem_trace_states.proofs.Walk.{down-holds, input-holds, moved-holds}
use Rattle.mdcc_theorem_trace_states.proofs.Events.{OkHolds, deliveries-hold, event-holds, is-up, lines-hold, reads-hold, settled-holds, settled-line, unless-holds, up-holds, within-holds}
use Rattle.mdcc_theorem_trace_states.proofs.Boots.{first-holds, restart-holds}
use Rattle.mdcc_def_language.specs.Resolve.{resolve}
use Rattle.mdcc_def_protocol.specs.Facts.{epoch_of}
use Rattle.mdcc_def_language.specs.declared.schedule.ResolveFault.{ResolveFault}
use Rattle.mdcc_option.specs.Transaction.{transaction_of}
use Rattle.mdcc_theorem_trace_states.proofs.Sorting.{made-transaction}
use Rattle.std.specs.Prelude.{map}
use Rattle.mdcc_def_messages.specs.declared.facts.Fact.{Fact}
use Rattle.std.specs.Option.{option_or}
use Rattle.mdcc_theorem_trace_states.specs.Steps.{AreGood, IsFair}

module _ (also : List Entry → Type 0) (cluster : Cluster) (good : AreGood also) where
  -- an input that is fair, within the limits
  limited-holds : (w : World) (a : ℕ) (input : Input) → Holds also cluster w → is_up_at w a ≡ true → IsFair w.cluster w.ledger input → OkHolds also cluster (input_applied w a input)
  limited-holds w a input h up fair =
      let u = is-up also cluster w a h up in
      unless-holds also cluster (step_limit w a (step_at w a input)) (input_happened w a (step_at w a input))
      (input-holds also cluster w a (step_at w a input) h u.centre (good.step w.cluster w.ledger a (centre_at w a).volatile input u fair))

  begun-by-holds : (w : World) (a : ℕ) (qs : List Part) (r : Result (List Part) DraftFault) → Holds also cluster w → is_up_at w a ≡ true → transaction_of w.cluster.schema qs ≡ r → OkHolds also cluster (begun_by w a r)
  begun-by-holds w a qs (Err fault) h up e = tt
  begun-by-holds w a qs (Ok parts) h up e =
      lines-hold also cluster (begin_lines (answer_of_step (step_at w a (Input.Begin parts)))) (input_applied w a (Input.Begin parts))
      (limited-holds w a (Input.Begin parts) h up (made-transaction w.cluster.schema qs parts e))

  parts-hold : (w : World) (a : ℕ) (r : Result (List Part) ResolveFault) → Holds also cluster w → is_up_at w a ≡ true → OkHolds also cluster (parts_begun w a r)
  parts-hold w a (Err (ResolveFault.NoRead n)) h up = tt
  parts-hold w a (Err (ResolveFault.NoItem key)) h up = h
  parts-hold w a (Err ResolveFault.Memory) h up = tt
  parts-hold w a (Ok parts) h up = begun-by-holds w a parts (transaction_of w.cluster.schema parts) h up refl

  restart-of-holds : (w : World) (a : ℕ) → Holds also cluster w → is_centre w.cluster a ≡ true → OkHolds also cluster (after_restart w a)
  restart-of-holds w a h here =
      unless-holds also cluster
      (option_or (passed_cells_limit w a (Fact.Booted (epoch_of (facts_of w.ledger a) + 1))) (passed_log_limit w a (Fact.Booted (epoch_of (facts_of w.ledger a) + 1))))
      (restart_happened w a (epoch_of (facts_of w.ledger a) + 1)) (restart-holds also cluster good w a h here)

  happened-holds : (w : World) (event : Event) → Holds also cluster w → OkHolds also cluster (happened_of w event)
  happened-holds w (Event.Read a key) h = up-holds also cluster w a _ (λ up. reads-hold also cluster w _ h)
  happened-holds w (Event.Begin a words) h = up-holds also cluster w a (after_begin w a words) (λ up. parts-hold w a (resolve words (map Some w.reads)) h up)
  happened-holds w (Event.Deliver numbers) h = deliveries-hold also cluster good numbers (record { world = w; lines = [] }) h
  happened-holds w (Event.Settle listed) h =
      settled-line also cluster (settled_of (most_events - w.events) listed (record { world = w; lines = Line.Settle listed ∷ [] }) 0)
      (settled-holds also cluster good (most_events - w.events) listed (record { world = w; lines = Line.Settle listed ∷ [] }) 0 h)
  happened-holds w (Event.Tick a) h = up-holds also cluster w a (after_tick w a) (λ up. lines-hold also cluster (tick_line a) (input_applied w a Input.Tick) (limited-holds w a Input.Tick h up tt))
  happened-holds w (Event.Sweep a) h = up-holds also cluster w a (after_sweep w a) (λ up. lines-hold also cluster (sweep_line a) (input_applied w a Input.Sweep) (limited-holds w a Input.Sweep h up tt))
  happened-holds w (Event.Crash a) h = up-holds also cluster w a _ (λ up. down-holds also cluster w a (centre_at w a).tail [] h (is-up also cluster w a h up).centre tt h.legal h.placed h.more)
  happened-holds w (Event.Restart a) h =
      elim (cases_Bool (is_up_at w a)) [
        | inl e ↦ rw e tt
        | inr e ↦ rw e (elim (cases_Bool (is_centre w.cluster a)) [ inl g ↦ rw g (restart-of-holds w a h g) | inr g ↦ rw g tt ])
      ]
  happened-holds w (Event.Stop a call image) h =
      up-holds also cluster w a _ (λ up. let here = (is-up also cluster w a h up).centre in
      moved-holds also cluster w a (record { is_up = (centre_at w a).is_up; stop = Some (call, image); tail = (centre_at w a).tail; volatile = (centre_at w a).volatile }) [] w.sent w.bytes h here tt h.legal h.placed h.more h.sent
      (record { booted = (h.centres a here).booted; keeps = (h.centres a here).keeps }))

  pub event-good : (w : World) (event : Event) → Holds also cluster w → OkHolds also cluster (after_event w event)
  event-good w event h =
      elim (cases_Bool (is_deliver event)) [
        | inl e ↦ rw e (happened-holds w event h)
        | inr e ↦ rw e (within-holds also cluster w _ (happened-holds (counted_event w) event (event-holds also cluster w h)))
      ]

  run-holds : (events : List Event) (h : Happened) → Holds also cluster h.world → Holds also cluster (run_from events h).world
  run-holds [] h g = g
  run-holds (event ∷ events) h g = by_case (λ next k. run-holds events next k) (after_event h.world event) refl (event-good h.world event g)
    where
      by_case : ((next : Happened) → Holds also cluster next.world → Holds also cluster (run_from events next).world) → (r : Result Happened EventFault) → after_event h.world event ≡ r → OkHolds also cluster r →
          Holds also cluster (run_from (event ∷ events) h).world
      by_case rest (Err fault) e k = rw (e, run_from) g
      by_case rest (Ok next) e k = rw (e, run_from) (rest (after_lines h.lines next) k)

  -- the invariant holds at the end of every schedule
  pub trace-holds : AreQuorums cluster.quorums → (events : List Event) → Holds also cluster (run_of (first_world cluster) events).world
  trace-holds sizes events = run-holds events (record { world = first_world cluster; lines = [] }) (first-holds also cluster sizes good)
