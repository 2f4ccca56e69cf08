-- The votes of an instance, in one walk of its chain from the newest fact to the oldest.
use Rattle.std.specs.List.{fold, list_any}
use Rattle.std.specs.Option.{option_and_then, option_map, option_or}
use Rattle.std.specs.Prelude.{◌≡◌, Bool, List, None, Option, Some, [], filter, if◌then◌else◌, is_some, suc, true, zero, ℕ}
use Rattle.mdcc_base.specs.Ballot.{ballot_max, fast_ballot, is_fast}
use Rattle.mdcc_base.specs.declared.identifiers.Ballot.{Ballot}
use Rattle.mdcc_base.specs.declared.identifiers.TxId.{TxId}
use Rattle.mdcc_base.specs.declared.key.Key.{Key}
use Rattle.mdcc_option.specs.declared.choices.Choice.{Choice}
use Rattle.mdcc_option.specs.declared.choices.Mark.{Mark}
use Rattle.mdcc_struct.specs.Maps.{union, value_of}
use Rattle.mdcc_struct.specs.declared.options.Options.{Options}
use Rattle.mdcc_def_protocol.specs.Facts.{ballot_voted, choice_voted, first_choice_voted, last_ballot, last_vote, later_vote, mark_voted, marks_voted, votes_of}
use Rattle.mdcc_def_messages.specs.declared.facts.Fact.{Fact}
use Rattle.mdcc_def_protocol.specs.Plain.{plain_mark_after, plain_mark_below}
use Rattle.mdcc_facts.specs.Listed.{are_voted_once}
use Rattle.mdcc_facts.specs.Walks.{each_kept, is_next_tx, least_from}
use Rattle.mdcc_theorem_fact_folds.specs.Chains.{Covers, is_vote_in}

-- of an older vote and a later one the later counts where its ballot is greater
abbrev pub older_vote : Key → ℕ → TxId → Option (Ballot × Mark) → Fact → Option (Ballot × Mark)
older_vote key version tx later fact = later_vote (mark_voted key version tx fact) later

-- the greater of a ballot and the one at which the fact votes below another one
abbrev pub with_voted_ballot : Key → ℕ → Ballot → Ballot → Fact → Ballot
with_voted_ballot key version below ballot fact = ballot_max (ballot_voted key version below fact) ballot

-- the marks of a fact, and beside them those that are later
abbrev pub with_older_marks : Key → ℕ → Ballot → Options → Fact → Options
with_older_marks key version ballot later fact = union (union [] (marks_voted key version ballot fact)) later

-- an older choice counts before a later one
abbrev pub older_choice : Key → ℕ → TxId → Option Choice → Fact → Option Choice
older_choice key version tx later fact = option_or (choice_voted key version tx fact) later

abbrev pub VoteInChain : Type 0
VoteInChain =
    (keep : Fact → Bool) (key : Key) (version : ℕ) (tx : TxId) → Covers keep (is_vote_in key version)
    → (facts : List Fact) → last_vote facts key version tx ≡ last_vote (filter keep facts) key version tx

abbrev pub VoteByWalk : Type 0
VoteByWalk =
    (keep : Fact → Bool) (key : Key) (version : ℕ) (tx : TxId) → Covers keep (is_vote_in key version)
    → (facts : List Fact) → last_vote facts key version tx ≡ fold (older_vote key version tx) None (filter keep facts)

abbrev pub VotedBelowInChain : Type 0
VotedBelowInChain =
    (keep : Fact → Bool) (key : Key) (version : ℕ) (below : Ballot) → Covers keep (is_vote_in key version)
    → (facts : List Fact) → last_ballot facts key version below ≡ last_ballot (filter keep facts) key version below

abbrev pub VotedBelowByWalk : Type 0
VotedBelowByWalk =
    (keep : Fact → Bool) (key : Key) (version : ℕ) (below : Ballot) → Covers keep (is_vote_in key version)
    → (facts : List Fact) → last_ballot facts key version below ≡ fold (with_voted_ballot key version below) fast_ballot (filter keep facts)

abbrev pub VotesInChain : Type 0
VotesInChain =
    (keep : Fact → Bool) (key : Key) (version : ℕ) (ballot : Ballot) → Covers keep (is_vote_in key version)
    → (facts : List Fact) → votes_of facts key version ballot ≡ votes_of (filter keep facts) key version ballot

abbrev pub VotesByWalk : Type 0
VotesByWalk =
    (keep : Fact → Bool) (key : Key) (version : ℕ) (ballot : Ballot) → Covers keep (is_vote_in key version)
    → (facts : List Fact) → votes_of facts key version ballot ≡ fold (with_older_marks key version ballot) [] (filter keep facts)

abbrev pub ChoiceInChain : Type 0
ChoiceInChain =
    (keep : Fact → Bool) (key : Key) (version : ℕ) (tx : TxId) → Covers keep (is_vote_in key version)
    → (facts : List Fact) → first_choice_voted facts key version tx ≡ first_choice_voted (filter keep facts) key version tx

abbrev pub ChoiceByWalk : Type 0
ChoiceByWalk =
    (keep : Fact → Bool) (key : Key) (version : ℕ) (tx : TxId) → Covers keep (is_vote_in key version)
    → (facts : List Fact) → first_choice_voted facts key version tx ≡ fold (older_choice key version tx) None (filter keep facts)

-- ---- one transaction at one ballot

-- an older mark counts before a later one
abbrev pub older_mark : Key → ℕ → Ballot → TxId → Option Mark → Fact → Option Mark
older_mark key version ballot tx later fact = option_or (value_of (marks_voted key version ballot fact) tx) later

-- votes on the transaction in the instance at the ballot
abbrev pub is_mark_of : Key → ℕ → Ballot → TxId → Fact → Bool
is_mark_of key version ballot tx fact = is_some (value_of (marks_voted key version ballot fact) tx)

abbrev pub MarkByWalk : Type 0
MarkByWalk =
    (keep : Fact → Bool) (key : Key) (version : ℕ) (ballot : Ballot) (tx : TxId) → Covers keep (is_vote_in key version)
    → (facts : List Fact) → value_of (votes_of facts key version ballot) tx ≡ fold (older_mark key version ballot tx) None (filter keep facts)

abbrev pub IsVotedByWalk : Type 0
IsVotedByWalk =
    (keep : Fact → Bool) (key : Key) (version : ℕ) (ballot : Ballot) (tx : TxId) → Covers keep (is_vote_in key version)
    → (facts : List Fact) → is_some (value_of (votes_of facts key version ballot) tx) ≡ list_any (is_mark_of key version ballot tx) (filter keep facts)

-- ---- where no mark was voted twice at its ballot

-- the marks so far, and beside them those of the fact
abbrev pub with_marks : Key → ℕ → Ballot → Options → Fact → Options
with_marks key version ballot later fact = union later (marks_voted key version ballot fact)

abbrev pub VotesByJoin : Type 0
VotesByJoin =
    (keep : Fact → Bool) (key : Key) (version : ℕ) (ballot : Ballot) → Covers keep (is_vote_in key version)
    → (facts : List Fact) → are_voted_once facts ≡ true
    → votes_of facts key version ballot ≡ fold (with_marks key version ballot) [] (filter keep facts)

-- ---- one mark after the other

abbrev pub MarkAfterInChain : Type 0
MarkAfterInChain =
    (keep : Fact → Bool) (key : Key) (version : ℕ) (below : Ballot) (last : Option TxId) → Covers keep (is_vote_in key version)
    → (facts : List Fact) → plain_mark_after facts key version below last ≡ plain_mark_after (filter keep facts) key version below last

abbrev pub MarkBelowInChain : Type 0
MarkBelowInChain =
    (keep : Fact → Bool) (key : Key) (version : ℕ) (below : Ballot) (place : ℕ) → Covers keep (is_vote_in key version)
    → (facts : List Fact) → plain_mark_below facts key version below place ≡ plain_mark_below (filter keep facts) key version below place

-- the least transaction above the last one that the fact votes on at a ballot, or that was found before
abbrev pub least_above : Key → ℕ → Ballot → Option TxId → Option TxId → Fact → Option TxId
least_above key version ballot last found fact = least_from (is_next_tx each_kept last) found (marks_voted key version ballot fact)

-- a walk for the ballot, one for the transaction, and one for its mark
abbrev pub mark_walks : Key → ℕ → Ballot → Option TxId → List Fact → Option (Ballot × TxId × Mark)
mark_walks key version below last chain =
    let ballot = fold (with_voted_ballot key version below) fast_ballot chain in
    option_and_then (λ tx. option_map (λ mark. (ballot, tx, mark)) (fold (older_mark key version ballot tx) None chain))
    (fold (least_above key version ballot last) None chain)

-- below the fast ballot there is none
abbrev pub MarkAfterByWalks : Type 0
MarkAfterByWalks =
    (keep : Fact → Bool) (key : Key) (version : ℕ) (below : Ballot) (last : Option TxId) → Covers keep (is_vote_in key version)
    → (facts : List Fact) → plain_mark_after facts key version below last ≡ (if is_fast below then None else mark_walks key version below last (filter keep facts))

-- so many marks further, each time by the next one above the last
abbrev pub marks_further : (Option TxId → Option (Ballot × TxId × Mark)) → Option TxId → ℕ → Option (Ballot × TxId × Mark)
marks_further next last zero = next last
marks_further next last (suc more) = option_and_then (λ mark. marks_further next (Some mark.1) more) (next last)

abbrev pub MarkBelowBySteps : Type 0
MarkBelowBySteps =
    (facts : List Fact) (key : Key) (version : ℕ) (below : Ballot) (place : ℕ)
    → plain_mark_below facts key version below place ≡ marks_further (plain_mark_after facts key version below) None place
