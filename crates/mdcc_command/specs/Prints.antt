-- What the program prints.
use Rattle.std.specs.Prelude.{List, MatchBool, Option, [], ℕ, ◌==◌, ◌||◌}
use Rattle.std.specs.Io.KnownBytes.{Appends}
use Rattle.mdcc_def_simulation.specs.Replay.{replay_of}
use Rattle.mdcc_command_replay.specs.Writing.{Front}
use Rattle.mdcc_theorem_headline.specs.Headline.{ReplayTellsTruth}

-- how much of a text is written, by the status: nothing at 2, 3 and 5, a front of it, which may be all, at 6 and 10, and all of it at 0, 4 and 11
abbrev pub IsWrittenByStatus : ℕ → Option (List ℕ) → Option (List ℕ) → List ℕ → Type 0
IsWrittenByStatus status before after text =
    MatchBool (status == 2 || (status == 3 || status == 5)) (Appends before after [])
    (MatchBool (status == 6 || status == 10) (Front before after text) (Appends before after text))

-- what was written is the report of this input, so far as the status says. The report of an input that is too long, or whose header is refused, is
-- empty; of each other one it is the text of a run of events that tells the truth
pub record PrintsTruth (input : List ℕ) (status : ℕ) (before after : Option (List ℕ)) : Type 0 where
  pub written : IsWrittenByStatus status before after (replay_of input).text
  pub tells_truth : ReplayTellsTruth input
