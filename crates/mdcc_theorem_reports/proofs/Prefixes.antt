-- The run of the first events of a run.
use Rattle.std.proofs.Common.{Err, List, None, Ok, Result, Some, [], ap, refl, ◌++◌, ◌∙◌, ◌∷◌, ◌≡◌, sym}
use Rattle.std.proofs.lemmas.List.{append-nil}
use Rattle.mdcc_def_simulation.specs.State.{Happened, World, after_lines}
use Rattle.mdcc_def_simulation.specs.Runs.{Run, run_from, run_of}
use Rattle.mdcc_def_simulation.specs.Events.{after_event}
use Rattle.mdcc_def_language.specs.declared.events.Event.{Event}
use Rattle.mdcc_def_language.specs.declared.lines.Line.{Line}
use Rattle.mdcc_def_language.specs.declared.world.EventFault.{EventFault}
use Rattle.mdcc_theorem_reports.specs.Growth.{told_before}
use Rattle.mdcc_theorem_reports.proofs.Lists.{together}

-- lines that were told before stand before the others
pub run-before : (events : List Event) (w : World) (ls ks : List Line) →
    run_from events (record { world = w; lines = ls ++ ks }) ≡ told_before ls (run_from events (record { world = w; lines = ks }))
run-before [] w ls ks = refl
run-before (event ∷ events) w ls ks = by_case (after_event w event) refl (run-before events)
  where
    by_case : (r : Result Happened EventFault) → after_event w event ≡ r →
        ((w : World) (ls ks : List Line) → run_from events (record { world = w; lines = ls ++ ks }) ≡ told_before ls (run_from events (record { world = w; lines = ks }))) →
        run_from (event ∷ events) (record { world = w; lines = ls ++ ks }) ≡ told_before ls (run_from (event ∷ events) (record { world = w; lines = ks }))
    by_case (Err fault) e rest = rw (e, run_from) refl
    by_case (Ok next) e rest =
        rw (e, run_from)
        (ap (λ zs. run_from events (record { world = next.world; lines = zs })) (together ls ks next.lines) ∙ rest next.world ls (ks ++ next.lines))

-- what a run has reached
abbrev reached : Run → Happened
reached run = record { world = run.world; lines = run.lines }

run-on : (first rest : List Event) (h : Happened) → (run_from first h).fault ≡ None →
    run_from (first ++ rest) h ≡ run_from rest (reached (run_from first h))
run-on [] rest h e = refl
run-on (event ∷ first) rest h e = by_case (after_event h.world event) refl (run-on first rest) e
  where
    by_case : (r : Result Happened EventFault) → after_event h.world event ≡ r →
        ((g : Happened) → (run_from first g).fault ≡ None → run_from (first ++ rest) g ≡ run_from rest (reached (run_from first g))) →
        (run_from (event ∷ first) h).fault ≡ None → run_from ((event ∷ first) ++ rest) h ≡ run_from rest (reached (run_from (event ∷ first) h))
    by_case (Err fault) f next k = (let bad : Some fault ≡ None = rw (f, run_from) at k in absurd (cc))
    by_case (Ok h') f next k = rw (f, run_from) (next (after_lines h.lines h') (rw (f, run_from) at k))

pub runs-go_on : (w : World) (first rest : List Event) → (run_of w first).fault ≡ None →
    run_of w (first ++ rest) ≡ told_before (run_of w first).lines (run_of (run_of w first).world rest)
runs-go_on w first rest e =
    run-on first rest (record { world = w; lines = [] }) e
    ∙ ap (λ ls. run_from rest (record { world = (run_of w first).world; lines = ls })) (sym (append-nil (run_of w first).lines))
    ∙ run-before rest (run_of w first).world (run_of w first).lines []

first-from : (first rest : List Event) (h : Happened) → (run_from (first ++ rest) h).fault ≡ None → (run_from first h).fault ≡ None
first-from [] rest h e = refl
first-from (event ∷ first) rest h e = by_case (after_event h.world event) refl (first-from first rest) e
  where
    by_case : (r : Result Happened EventFault) → after_event h.world event ≡ r →
        ((g : Happened) → (run_from (first ++ rest) g).fault ≡ None → (run_from first g).fault ≡ None) →
        (run_from ((event ∷ first) ++ rest) h).fault ≡ None → (run_from (event ∷ first) h).fault ≡ None
    by_case (Err fault) f next k = (let bad : Some fault ≡ None = rw (f, run_from) at k in absurd (cc))
    by_case (Ok h') f next k = rw (f, run_from) (next (after_lines h.lines h') (rw (f, run_from) at k))

pub first-taken : (w : World) (first rest : List Event) → (run_of w (first ++ rest)).fault ≡ None → (run_of w first).fault ≡ None
first-taken w first rest e = first-from first rest (record { world = w; lines = [] }) e
