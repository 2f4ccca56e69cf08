-- What a schedule has happen at a centre without a message or a client: a tick or a sweep.
use Rattle.std.specs.Prelude.{Bool, List, [], if◌then◌else◌, ℕ, ◌∷◌}
use Rattle.mdcc_def_language.specs.declared.lines.Line.{Line}
use Rattle.mdcc_def_simulation.specs.State.{World, next_message}

-- its line, before these messages
abbrev pub timed_line : Bool → ℕ → ℕ → Line
timed_line sweeps a next = if sweeps then Line.Sweep a next else Line.Tick a next

abbrev pub timed_lines : Bool → ℕ → World → List Line
timed_lines sweeps a w = timed_line sweeps a (next_message w) ∷ []
