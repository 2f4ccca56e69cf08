-- A fold of steps keeps the fold of what is found.
use Rattle.std.proofs.Common.{◌≡◌, ℕ, ◌+◌, ◌-◌, ◌^◌, ◌<◌, List, [], ◌∷◌, refl, ◌∙◌, arith}
use Rattle.std.specs.List.{fold}
use Rattle.std.specs.Prelude.{is_some, min}
use Rattle.mdcc_base.specs.Counts.{number_of}
use Rattle.mdcc_base.specs.declared.identifiers.Ballot.{Ballot}
use Rattle.mdcc_base.specs.declared.key.Key.{Key}
use Rattle.mdcc_struct.specs.Maps.{value_of}
use Rattle.mdcc_struct.specs.Options.{Marks}
use Rattle.mdcc_def_messages.specs.declared.facts.Fact.{Fact}
use Rattle.mdcc_def_protocol.specs.Facts.{marks_voted}
use Rattle.mdcc_theorem_fact_folds.specs.Live.{with_count}
use Rattle.mdcc_cells_vote_walk.specs.Steps.{ballot_step, choice_step, count_step, least_step, older_mark_step, vote_step}
use Rattle.mdcc_cells_vote_walk.specs.Steps.{BallotIsWalked, ChoiceIsWalked, CountIsWalked, LeastIsWalked, MarkIsWalked, VoteIsWalked}

pub ballot-walked : BallotIsWalked
ballot-walked s [] = refl
ballot-walked s (fact ∷ facts) = ballot-walked (ballot_step s fact) facts

pub vote-walked : VoteIsWalked
vote-walked s [] = refl
vote-walked s (fact ∷ facts) = vote-walked (vote_step s fact) facts

pub mark-walked : MarkIsWalked
mark-walked s [] = refl
mark-walked s (fact ∷ facts) = mark-walked (older_mark_step s fact) facts

pub choice-walked : ChoiceIsWalked
choice-walked s [] = refl
choice-walked s (fact ∷ facts) = choice-walked (choice_step s fact) facts

pub least-walked : LeastIsWalked
least-walked s [] = refl
least-walked s (fact ∷ facts) = least-walked (least_step s fact) facts

-- counts that begin with more have more
count-more : (key : Key) (version : ℕ) (ballot : Ballot) (options : Marks) (count : ℕ) (facts : List Fact)
    → fold (with_count key version ballot options) count facts ≡ count + fold (with_count key version ballot options) 0 facts
count-more key version ballot options count [] = omega arith
count-more key version ballot options count (fact ∷ facts) =
    let here = number_of (λ e. is_some (value_of (marks_voted key version ballot fact) e.0)) options in
    omega (arith, count-more key version ballot options (count + here) facts, count-more key version ballot options (0 + here) facts)

pub count-walked : CountIsWalked
count-walked s [] below = omega arith
count-walked s (fact ∷ facts) below =
    let options = s.options.now in
    let here = number_of (λ e. is_some (value_of (marks_voted s.key s.version s.ballot fact) e.0)) options in
    let most = 2 ^ 64 - 1 in
    let capped = min (s.count + here) most in
    let later = fold (with_count s.key s.version s.ballot options) 0 facts in
    let small : capped < 2 ^ 64 = omega arith in
    let rest : (fold count_step (count_step s fact) facts).count ≡ min (fold (with_count s.key s.version s.ballot options) capped facts) most = count-walked (count_step s fact) facts small in
    omega (arith, rest, count-more s.key s.version s.ballot options capped facts, count-more s.key s.version s.ballot options (s.count + here) facts)
