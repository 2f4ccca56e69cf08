-- A replay is a run of events.
use Rattle.std.specs.Prelude.{List, None, Ok, Option, Result, Some, [], length, ℕ, ◌++◌, ◌+◌, ◌∷◌, ◌≡◌, ◌≤◌}
use Rattle.mdcc_option.specs.declared.cluster.Cluster.{Cluster}
use Rattle.mdcc_def_language.specs.Errors.{AtEvent, AtLine, ReplayFault, most_input}
use Rattle.mdcc_def_language.specs.Header.{UnreadLines, all_of, header_lines}
use Rattle.mdcc_def_protocol.specs.IsCluster.{IsCluster}
use Rattle.mdcc_def_simulation.specs.Replay.{replay_of}
use Rattle.mdcc_def_language.specs.Report.{header_text, lines_text}
use Rattle.mdcc_def_language.specs.Schedule.{line_of}
use Rattle.mdcc_def_language.specs.Words.{◌>>=◌}
use Rattle.mdcc_def_simulation.specs.State.{World, first_world}
use Rattle.mdcc_def_simulation.specs.Runs.{end_line, run_of}
use Rattle.mdcc_def_language.specs.declared.events.Event.{Event}
use Rattle.mdcc_def_language.specs.declared.lines.Line.{Line}
use Rattle.mdcc_def_language.specs.declared.schedule.SchedFault.{SchedFault}

-- ---- the events of lines

-- an empty line and a comment have none
abbrev pub event_listed : Option Event → List Event
event_listed None = []
event_listed (Some event) = event ∷ []

-- the events of lines in turn, where no line is refused
abbrev pub events_read : Cluster → List (List ℕ) → Result (List Event) SchedFault
events_read cluster [] = Ok []
events_read cluster (line ∷ lines) = line_of cluster line >>= λ event. events_read cluster lines >>= λ events. Ok (event_listed event ++ events)

-- ---- runs that are printed

-- the last line, where the input was read to its end
abbrev pub end_reported : Option ReplayFault → World → List Line
end_reported None w = end_line w ∷ []
end_reported (Some fault) w = []

-- what is left of the lines from this number on: nothing at the end of the input, else the line that is refused and those behind it
abbrev pub IsRestOfLines : ℕ → Option ReplayFault → List (List ℕ) → Type 0
IsRestOfLines number None rest = rest ≡ []
IsRestOfLines number (Some (AtLine n fault)) rest = (n ≡ number) × (rest ≡ [] → ⊥)
IsRestOfLines number (Some (AtEvent n fault)) rest = (n ≡ number) × (rest ≡ [] → ⊥)
IsRestOfLines number (Some _) rest = ⊥

-- the replay of an input is the run of these events, which are those of the lines behind the header, up to the end or to the first line that is
-- refused. Its text is the header, the lines of the run, and at the end of the input the last line; and its world is that of the run
pub record IsReplayed (input : List ℕ) (header : Cluster × UnreadLines) (events : List Event) : Type 0 where
  pub taken : List (List ℕ)
  pub rest : List (List ℕ)
  pub parts : header.1.lines ≡ taken ++ rest
  pub left : IsRestOfLines (header.1.number + length taken) (replay_of input).fault rest
  pub read : events_read header.0 taken ≡ Ok events
  pub whole : (run_of (first_world header.0) events).fault ≡ None
  pub text : (replay_of input).text
      ≡ header_text header.1.at input
      ++ lines_text ((run_of (first_world header.0) events).lines ++ end_reported (replay_of input).fault (run_of (first_world header.0) events).world)
  pub world : (replay_of input).world ≡ Some (run_of (first_world header.0) events).world

-- the input is not too long, and its header is accepted
pub record IsHeaderAccepted (input : List ℕ) (header : Cluster × UnreadLines) : Type 0 where
  pub within : length input ≤ most_input
  pub header_itself : header_lines (all_of input) ≡ Ok header

-- each such replay is a run
abbrev pub ReplaysAreRuns : Type 0
ReplaysAreRuns =
    (input : List ℕ) (header : Cluster × UnreadLines) → IsHeaderAccepted input header
    → (events : List Event) × IsReplayed input header events

-- a header that is accepted is of a cluster
abbrev pub HeadersAreOfClusters : Type 0
HeadersAreOfClusters =
    (input : List ℕ) (header : Cluster × UnreadLines) → IsHeaderAccepted input header → IsCluster header.0
