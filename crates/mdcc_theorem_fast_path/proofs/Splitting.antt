-- A line of deliveries is the same as two lines, one after the other.
use Rattle.std.proofs.Common.{Err, List, Ok, Result, [], ap, append-nil, append_assoc, refl, sym, ℕ, ◌++◌, ◌∙◌, ◌∷◌, ◌≡◌}
use Rattle.mdcc_def_language.specs.declared.lines.Line.{Line}
use Rattle.mdcc_def_language.specs.declared.world.EventFault.{EventFault}
use Rattle.mdcc_def_simulation.specs.Deliveries.{after_deliveries, after_delivery}
use Rattle.mdcc_def_simulation.specs.State.{Happened, World, after_lines}
use Rattle.mdcc_theorem_fast_path.specs.Splitting.{reported_after}

-- one after the other
abbrev then_deliver : List ℕ → Result Happened EventFault → Result Happened EventFault
then_deliver rest (Err fault) = Err fault
then_deliver rest (Ok h) = after_deliveries rest h

in-turn : (first rest : List ℕ) (h : Happened) → after_deliveries (first ++ rest) h ≡ then_deliver rest (after_deliveries first h)
in-turn [] rest h = refl
in-turn (number ∷ first) rest h = by (λ next. in-turn first rest (after_lines h.lines next)) (after_delivery h.world number) refl
  where
    by : ((next : Happened) → after_deliveries (first ++ rest) (after_lines h.lines next) ≡ then_deliver rest (after_deliveries first (after_lines h.lines next)))
        → (r : Result Happened EventFault) → after_delivery h.world number ≡ r → after_deliveries (number ∷ (first ++ rest)) h ≡ then_deliver rest (after_deliveries (number ∷ first) h)
    by later (Err fault) e = rw (e, after_deliveries) refl
    by later (Ok next) e = rw (e, after_deliveries) (later next)

-- the lines of before stand in front
in-front : (numbers : List ℕ) (w : World) (before lines : List Line) → after_deliveries numbers (record { world = w; lines = before ++ lines }) ≡ reported_after before (after_deliveries numbers (record { world = w; lines = lines }))
in-front [] w before lines = refl
in-front (number ∷ numbers) w before lines = by (λ next. in-front numbers next.world before (lines ++ next.lines)) (after_delivery w number) refl
  where
    by : ((next : Happened) → after_deliveries numbers (record { world = next.world; lines = before ++ (lines ++ next.lines) }) ≡ reported_after before (after_deliveries numbers (record { world = next.world; lines = lines ++ next.lines })))
        → (r : Result Happened EventFault) → after_delivery w number ≡ r
        → after_deliveries (number ∷ numbers) (record { world = w; lines = before ++ lines }) ≡ reported_after before (after_deliveries (number ∷ numbers) (record { world = w; lines = lines }))
    by later (Err fault) e = rw (e, after_deliveries) refl
    by later (Ok next) e =
        rw (e, after_deliveries)
        (ap (λ ls. after_deliveries numbers (record { world = next.world; lines = ls })) (append_assoc before lines next.lines) ∙ later next)

pub split : (w : World) (first rest : List ℕ) (reached : Happened) → after_deliveries first (record { world = w; lines = [] }) ≡ Ok reached
    → after_deliveries (first ++ rest) (record { world = w; lines = [] }) ≡ reported_after reached.lines (after_deliveries rest (record { world = reached.world; lines = [] }))
split w first rest reached h =
    in-turn first rest (record { world = w; lines = [] }) ∙ ap (then_deliver rest) h
    ∙ ap (λ ls. after_deliveries rest (record { world = reached.world; lines = ls })) (sym (append-nil reached.lines)) ∙ in-front rest reached.world reached.lines []
