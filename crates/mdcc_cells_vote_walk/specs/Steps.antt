-- What each step keeps of one more fact, and of all facts of a walk.
use Rattle.std.specs.List.{fold}
use Rattle.std.specs.Prelude.{◌≡◌, ◌<◌, List, ◌-◌, ◌^◌, min}
use Rattle.mdcc_def_messages.specs.declared.facts.Fact.{Fact}
use Rattle.mdcc_theorem_fact_folds.specs.Live.{with_count}
use Rattle.mdcc_theorem_fact_folds.specs.Votes.{least_above, older_choice, older_mark, older_vote, with_voted_ballot}
use Rattle.mdcc_cells_vote_walk.specs.declared.ballots.WithBallot.{WithBallot}
use Rattle.mdcc_cells_vote_walk.specs.declared.older.OlderChoice.{OlderChoice}
use Rattle.mdcc_cells_vote_walk.specs.declared.older.OlderMark.{OlderMark}
use Rattle.mdcc_cells_vote_walk.specs.declared.older.OlderVote.{OlderVote}
use Rattle.mdcc_cells_vote_walk.specs.declared.tallies.LeastAbove.{LeastAbove}
use Rattle.mdcc_cells_vote_walk.specs.declared.tallies.WithCount.{WithCount}

-- ---- one more fact

abbrev pub ballot_step : WithBallot → Fact → WithBallot
ballot_step s fact = record s { ballot = with_voted_ballot s.key s.version s.below s.ballot fact }

abbrev pub vote_step : OlderVote → Fact → OlderVote
vote_step s fact = record s { found = older_vote s.key s.version s.tx s.found fact }

abbrev pub older_mark_step : OlderMark → Fact → OlderMark
older_mark_step s fact = record s { found = older_mark s.key s.version s.ballot s.tx s.found fact }

abbrev pub choice_step : OlderChoice → Fact → OlderChoice
choice_step s fact = record s { found = older_choice s.key s.version s.tx s.found fact }

abbrev pub least_step : LeastAbove → Fact → LeastAbove
least_step s fact = record s { found = least_above s.key s.version s.ballot s.last s.found fact }

-- the count stops at 2^64 - 1
abbrev pub count_step : WithCount → Fact → WithCount
count_step s fact = record s { count = min (with_count s.key s.version s.ballot s.options.now s.count fact) (2 ^ 64 - 1) }

-- ---- a walk

abbrev pub BallotIsWalked : Type 0
BallotIsWalked = (s : WithBallot) (facts : List Fact) → (fold ballot_step s facts).ballot ≡ fold (with_voted_ballot s.key s.version s.below) s.ballot facts

abbrev pub VoteIsWalked : Type 0
VoteIsWalked = (s : OlderVote) (facts : List Fact) → (fold vote_step s facts).found ≡ fold (older_vote s.key s.version s.tx) s.found facts

abbrev pub MarkIsWalked : Type 0
MarkIsWalked = (s : OlderMark) (facts : List Fact) → (fold older_mark_step s facts).found ≡ fold (older_mark s.key s.version s.ballot s.tx) s.found facts

abbrev pub ChoiceIsWalked : Type 0
ChoiceIsWalked = (s : OlderChoice) (facts : List Fact) → (fold choice_step s facts).found ≡ fold (older_choice s.key s.version s.tx) s.found facts

abbrev pub LeastIsWalked : Type 0
LeastIsWalked = (s : LeastAbove) (facts : List Fact) → (fold least_step s facts).found ≡ fold (least_above s.key s.version s.ballot s.last) s.found facts

-- so the count is exact where it is below 2^64
abbrev pub CountIsWalked : Type 0
CountIsWalked =
    (s : WithCount) (facts : List Fact) → s.count < 2 ^ 64
    → (fold count_step s facts).count ≡ min (fold (with_count s.key s.version s.ballot s.options.now) s.count facts) (2 ^ 64 - 1)
