-- Each state of a trace is that of events of which none is refused, and an event leads from there to another state.
use Rattle.std.proofs.Common.{append_assoc, Err, List, None, Ok, Result, Some, [], ap, refl, ◌++◌, ◌∙◌, ◌∷◌, ◌≡◌}
use Rattle.mdcc_option.specs.declared.cluster.Cluster.{Cluster}
use Rattle.mdcc_def_language.specs.declared.events.Event.{Event}
use Rattle.mdcc_def_language.specs.declared.world.EventFault.{EventFault}
use Rattle.mdcc_def_simulation.specs.Events.{after_event}
use Rattle.mdcc_def_simulation.specs.Runs.{Run, run_from}
use Rattle.mdcc_def_simulation.specs.State.{Happened, World, after_lines, first_world}
use Rattle.mdcc_theorem_fast_path.specs.States.{state_after}

-- the events before the first that is refused
record IsTaken (events : List Event) (h : Happened) : Type 0 where
  before : List Event
  world : (run_from before h).world ≡ (run_from events h).world
  whole : (run_from before h).fault ≡ None

taken : (events : List Event) (h : Happened) → IsTaken events h
taken [] h = record { before = []; world = refl; whole = refl }
taken (event ∷ events) h = by (λ next. taken events (after_lines h.lines next)) (after_event h.world event) refl
  where
    by : ((next : Happened) → IsTaken events (after_lines h.lines next)) → (r : Result Happened EventFault) → after_event h.world event ≡ r → IsTaken (event ∷ events) h
    by rest (Err fault) e = record { before = []; world = rw (e, run_from) refl; whole = refl }
    by rest (Ok next) e = let k = rest next in record { before = event ∷ k.before; world = rw (e, run_from) k.world; whole = rw (e, run_from) k.whole }

-- a run goes on where the first events ended
pub goes-on : (events more : List Event) (h : Happened) → (run_from events h).fault ≡ None
    → run_from (events ++ more) h ≡ run_from more (record { world = (run_from events h).world; lines = (run_from events h).lines })
goes-on [] more h whole = refl
goes-on (event ∷ events) more h whole = by (λ next w. goes-on events more (after_lines h.lines next) w) (after_event h.world event) refl
  where
    by : ((next : Happened) → (run_from events (after_lines h.lines next)).fault ≡ None → run_from (events ++ more) (after_lines h.lines next) ≡ run_from more (record { world = (run_from events (after_lines h.lines next)).world; lines = (run_from events (after_lines h.lines next)).lines }))
        → (r : Result Happened EventFault) → after_event h.world event ≡ r
        → run_from (event ∷ (events ++ more)) h ≡ run_from more (record { world = (run_from (event ∷ events) h).world; lines = (run_from (event ∷ events) h).lines })
    by rest (Err fault) e = absurd (let bad : Some fault ≡ None = rw (e, run_from) at whole in cc)
    by rest (Ok next) e = let w : (run_from events (after_lines h.lines next)).fault ≡ None = rw (e, run_from) at whole in rw (e, run_from) (rest next w)

-- the next state
pub next-state : (cluster : Cluster) (events : List Event) (event : Event) (next : Happened) → after_event (state_after cluster events) event ≡ Ok next
    → (more : List Event) × (state_after cluster more ≡ next.world)
next-state cluster events event next h =
    let start : Happened = record { world = first_world cluster; lines = [] } in
    let k = taken events start in
    let there : after_event (run_from k.before start).world event ≡ Ok next = ap (λ (w : World). after_event w event) k.world ∙ h in
    (k.before ++ event ∷ [], ap (λ (r : Run). r.world) (goes-on k.before (event ∷ []) start k.whole) ∙ rw (there, run_from) refl)

-- two events more
pub two-more : (w : World) (events : List Event) (x y : Event) (first second : Happened) → (run_from events (record { world = w; lines = [] })).fault ≡ None
    → after_event (run_from events (record { world = w; lines = [] })).world x ≡ Ok first → after_event first.world y ≡ Ok second
    → (run_from (events ++ x ∷ y ∷ []) (record { world = w; lines = [] })).lines ≡ (run_from events (record { world = w; lines = [] })).lines ++ (first.lines ++ second.lines)
two-more w events x y first second whole h g =
    let start : Happened = record { world = w; lines = [] } in
    ap (λ (r : Run). r.lines) (goes-on events (x ∷ y ∷ []) start whole)
    ∙ rw (h, run_from) (rw (g, run_from) (append_assoc (run_from events start).lines first.lines second.lines))
