-- What a computed example has to show.
use Rattle.std.proofs.Common.{◌≡◌, Bool, true, false, List, [], ◌∷◌, refl, Result, Ok, Err, is_ok, not}
use Rattle.std.specs.List.{AllByRecursion, list_all}
use Rattle.std.proofs.lemmas.Bool.{and_parts}
use Rattle.mdcc_def_language.specs.declared.lines.Line.{Line}
use Rattle.mdcc_def_language.specs.declared.world.EventFault.{EventFault}
use Rattle.mdcc_def_simulation.specs.State.{Happened, World}
use Rattle.mdcc_theorem_round_trip.specs.Example.{happened}
use Rattle.mdcc_theorem_round_trip.specs.RoundTrips.{is_dropped}

pub is-happened : (w : World) (r : Result Happened EventFault) → is_ok r ≡ true → r ≡ Ok (happened w r)
is-happened w (Ok h) e = refl
is-happened w (Err fault) e = absurd (cc)

no-drop : (line : Line) → not (is_dropped line) ≡ true → is_dropped line ≡ false
no-drop line h = by (is_dropped line) h
  where
    by : (b : Bool) → not b ≡ true → b ≡ false
    by true e = absurd (cc)
    by false e = refl

pub none-dropped : (lines : List Line) → list_all (λ line. not (is_dropped line)) lines ≡ true → AllByRecursion (λ line. is_dropped line ≡ false) lines
none-dropped [] h = tt
none-dropped (line ∷ lines) h = let parts = and_parts (not (is_dropped line)) (list_all (λ l. not (is_dropped l)) lines) h in (no-drop line parts.0, none-dropped lines parts.1)
