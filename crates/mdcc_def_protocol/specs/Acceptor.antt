-- The acceptor: what it answers to a proposal at the fast ballot, to a leader that asks for promises, and to a leader's structure. (Fast Paxos; MDCC. That an acceptor gives no vote at a passed share, or where an instance is full, is our own rule.)
use Rattle.std.specs.Prelude.{List, None, Option, Some, [], filter, if◌then◌else◌, is_some, nat_le, nat_lt, not, ℕ, ◌||◌, ◌∷◌}
use Rattle.mdcc_base.specs.Ballot.{ballot_lt, is_fast}
use Rattle.mdcc_base.specs.declared.identifiers.Ballot.{Ballot}
use Rattle.mdcc_base.specs.declared.key.Key.{Key}
use Rattle.mdcc_option.specs.declared.choices.Cause.{Cause}
use Rattle.mdcc_option.specs.declared.choices.Choice.{Choice}
use Rattle.mdcc_option.specs.declared.choices.Mark.{Mark}
use Rattle.mdcc_option.specs.declared.choices.Outcome.{Outcome}
use Rattle.mdcc_option.specs.declared.cluster.Cluster.{Cluster}
use Rattle.mdcc_struct.specs.Maps.{value_of}
use Rattle.mdcc_struct.specs.declared.options.Options.{Options}
use Rattle.mdcc_def_protocol.specs.Facts.{base_of, current_of, entries_of, is_finished, live_of, outcome_kept, promise_of, promised_through, vote_of, votes_of}
use Rattle.mdcc_def_protocol.specs.Fit.{fast_fit, load_of}
use Rattle.mdcc_def_protocol.specs.Marks.{seen_in}
use Rattle.mdcc_def_protocol.specs.Structures.{accept_room, reject_room}
use Rattle.mdcc_def_protocol.specs.declared.acceptor.AcceptAnswer.{AcceptAnswer}
use Rattle.mdcc_def_protocol.specs.declared.acceptor.PrepareAnswer.{PrepareAnswer}
use Rattle.mdcc_def_protocol.specs.declared.acceptor.ProposeAnswer.{ProposeAnswer}
use Rattle.mdcc_def_messages.specs.declared.facts.Fact.{Fact}
use Rattle.mdcc_def_protocol.specs.declared.fit.Fit.{Fit}

-- ---- proposals

-- how a choice fits beside the live choices of its instance
abbrev pub fit_of : Cluster → List Fact → Choice → Fit
fit_of cluster facts choice =
    fast_fit cluster (base_of facts choice.key) (load_of (live_of facts choice.key choice.version) (seen_in choice.update)) choice.update

-- a vote, or Full where the instance has no room for one more such mark at the fast ballot
abbrev pub vote_to_accept : List Fact → Choice → ProposeAnswer
vote_to_accept facts choice =
    if nat_lt (entries_of facts choice.key choice.version).0 (accept_room choice.update)
    then ProposeAnswer.Vote (Mark.Accept choice) else ProposeAnswer.Escalate Cause.Full

abbrev pub vote_to_reject : List Fact → Choice → ProposeAnswer
vote_to_reject facts choice =
    if nat_lt (entries_of facts choice.key choice.version).1 reject_room
    then ProposeAnswer.Vote Mark.Reject else ProposeAnswer.Escalate Cause.Full

-- what a fit gives: past the share of one acceptor there is no vote
abbrev pub vote_by_fit : List Fact → Choice → Fit → ProposeAnswer
vote_by_fit facts choice Fit.Fits = vote_to_accept facts choice
vote_by_fit facts choice Fit.Conflict = vote_to_reject facts choice
vote_by_fit facts choice (Fit.Limit quantity) = ProposeAnswer.Escalate (Cause.Limit quantity)
vote_by_fit facts choice (Fit.Breaks quantity) = vote_to_reject facts choice

-- the vote on a choice at or below the version held, in an instance without a classic promise
abbrev pub vote_on : Cluster → List Fact → Choice → ProposeAnswer
vote_on cluster facts choice =
    if nat_lt choice.version (current_of facts choice.key) then vote_to_reject facts choice
    else vote_by_fit facts choice (fit_of cluster facts choice)

-- the answer by the promise of the instance
abbrev pub answer_by_promise : Cluster → List Fact → Choice → Ballot → ProposeAnswer
answer_by_promise cluster facts choice promise =
    if is_fast promise then vote_on cluster facts choice else ProposeAnswer.Escalate (Cause.Classic promise)

-- a proposal whose transaction was neither heard nor voted here
abbrev pub answer_to_new : Cluster → List Fact → Choice → ProposeAnswer
answer_to_new cluster facts choice =
    if nat_lt (current_of facts choice.key) choice.version then ProposeAnswer.Escalate Cause.Behind
    else answer_by_promise cluster facts choice (promise_of facts choice.key choice.version)

-- by what was voted on its transaction in the instance
abbrev pub answer_by_vote : Cluster → List Fact → Choice → Option (Ballot × Mark) → ProposeAnswer
answer_by_vote cluster facts choice (Some vote) = ProposeAnswer.Again vote.0 vote.1
answer_by_vote cluster facts choice None = answer_to_new cluster facts choice

-- by what is kept of the transaction's outcome, and then by whether it is finished
abbrev pub answer_after : Cluster → List Fact → Choice → Option Outcome → ProposeAnswer
answer_after cluster facts choice (Some outcome) = ProposeAnswer.Known outcome
answer_after cluster facts choice None =
    if is_finished facts choice.tx then ProposeAnswer.Finished
    else answer_by_vote cluster facts choice (vote_of facts choice.key choice.version choice.tx)

-- what an acceptor answers to a proposal
abbrev pub on_propose : Cluster → List Fact → Choice → ProposeAnswer
on_propose cluster facts choice =
    answer_after cluster facts choice (outcome_kept facts choice.tx)

-- ---- promises

-- the end of the range: a centre that holds a later version promises the asked one alone
abbrev pub range_end : List Fact → Key → ℕ → ℕ → ℕ
range_end facts key version through = if nat_le (current_of facts key) version then through else version

-- a promise that was made before, or a new one
abbrev pub promise_answer : Option ℕ → ℕ → PrepareAnswer
promise_answer (Some high) new = PrepareAnswer.Again high
promise_answer None new = PrepareAnswer.Promise new

-- what an acceptor answers to a leader that asks for its promise. (Fast Paxos.)
abbrev pub on_prepare : List Fact → Key → ℕ → ℕ → Ballot → PrepareAnswer
on_prepare facts key version through ballot =
    let promise = promise_of facts key version in
    if ballot_lt ballot promise then PrepareAnswer.Refused promise
    else promise_answer (promised_through facts key version ballot) (range_end facts key version through)

-- ---- structures

-- the marks of a structure whose transactions are not finished and have no vote here at its ballot
abbrev pub new_marks : List Fact → Key → ℕ → Ballot → Options → Options
new_marks facts key version ballot options =
    let votes = votes_of facts key version ballot in
    filter (λ e. not (is_some (value_of votes e.0) || is_finished facts e.0)) options

abbrev pub answer_to_marks : Options → AcceptAnswer
answer_to_marks [] = AcceptAnswer.Older
answer_to_marks (e ∷ es) = AcceptAnswer.Vote

-- what an acceptor answers to a leader's structure. (Generalized Paxos.)
abbrev pub on_accept : List Fact → Key → ℕ → Ballot → Options → AcceptAnswer
on_accept facts key version ballot options =
    let promise = promise_of facts key version in
    if ballot_lt ballot promise then AcceptAnswer.Refused promise
    else (if nat_lt (current_of facts key) version then AcceptAnswer.Behind (current_of facts key)
    else answer_to_marks (new_marks facts key version ballot options))
