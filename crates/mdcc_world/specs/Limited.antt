-- What stands of the lines of an event that would pass a limit.
use Rattle.std.specs.Bool.{OnTrue}
use Rattle.std.specs.Prelude.{Err, IfErr, List, Ok, Result, []}
use Rattle.mdcc_def_language.specs.declared.events.Event.{Event}
use Rattle.mdcc_def_language.specs.declared.lines.Line.{Line}
use Rattle.mdcc_def_language.specs.declared.world.EventFault.{EventFault}
use Rattle.mdcc_def_simulation.specs.Left.{left_of}
use Rattle.mdcc_def_simulation.specs.Limits.{is_limit}
use Rattle.mdcc_def_simulation.specs.State.{World}
use Rattle.mdcc_theorem_worlds.specs.EventEffects.{at_limit}

-- where an answer is that a limit would be passed
abbrev pub OnLimit : {T : Type 0} → Result T EventFault → Type 0 → Type 0
OnLimit result P = IfErr result (λ fault. OnTrue (is_limit fault) P)

-- lines that are told unless there were as many events as there may be
abbrev pub unless_full : Result (Unit {0}) EventFault → List Line → List Line
unless_full (Ok done) lines = lines
unless_full (Err fault) lines = []

-- the lines that stand: of a settle or deliver line those of the deliveries before the one that would pass the limit
abbrev pub lines_reported : World → Event → List Line
lines_reported w (Event.Settle listed) = unless_full (at_limit w) (left_of w (Event.Settle listed)).lines
lines_reported w event = (left_of w event).lines
