-- The learner: votes as they were received, counted by transaction and key. (Fast Paxos; Generalized Paxos.)
use Rattle.std.specs.List.{list_any, reduce}
use Rattle.std.specs.Prelude.{Bool, List, Option, [], filter, if◌then◌else◌, is_some, length, map, nat_le, nat_lt, not, option_map, ◌&&◌, ◌++◌, ◌+◌, ◌-◌, ◌==◌, ◌||◌, ◌∷◌}
use Rattle.mdcc_base.specs.Ballot.{ballot_eq, ballot_lt, is_fast}
use Rattle.mdcc_base.specs.Counts.{number_of}
use Rattle.mdcc_base.specs.Key.{key_eq}
use Rattle.mdcc_base.specs.Quorums.{quorum_size}
use Rattle.mdcc_base.specs.Sizes.{Sizes}
use Rattle.mdcc_base.specs.TxId.{tx_eq}
use Rattle.mdcc_base.specs.declared.identifiers.TxId.{TxId}
use Rattle.mdcc_base.specs.declared.key.Key.{Key}
use Rattle.mdcc_option.specs.Equality.{mark_eq}
use Rattle.mdcc_option.specs.declared.choices.Mark.{Mark}
use Rattle.mdcc_option.specs.declared.choices.Outcome.{Outcome}
use Rattle.mdcc_def_protocol.specs.Marks.{is_accept, outcome_of_marks}
use Rattle.mdcc_def_protocol.specs.declared.votes.Vote.{Vote}

-- whether a counted vote bars a further one on its transaction and key: it has another version, or the same ballot and centre
abbrev pub is_barred_by : Vote → Vote → Bool
is_barred_by vote other =
    tx_eq other.tx vote.tx
    && key_eq other.key vote.key
    && (not (other.version == vote.version) || (ballot_eq other.ballot vote.ballot && other.from == vote.from))

-- a vote counts where its centre is one of the cluster and no counted vote bars it
abbrev pub is_counted : Sizes → List Vote → Vote → Bool
is_counted quorums votes vote = nat_le vote.from quorums.centres && not (list_any (is_barred_by vote) votes)

-- the counted votes with one more vote taken
abbrev pub with_counted_vote : Sizes → List Vote → Vote → List Vote
with_counted_vote quorums votes vote = if is_counted quorums votes vote then votes ++ vote ∷ [] else votes

abbrev pub votes_on : List Vote → TxId → Key → List Vote
votes_on votes tx key = filter (λ vote. tx_eq vote.tx tx && key_eq vote.key key) votes

-- whether a quorum of the votes at this vote's ballot has its mark
abbrev pub has_quorum : Sizes → List Vote → Vote → Bool
has_quorum quorums votes vote =
    nat_le (quorum_size quorums vote.ballot) (number_of (λ other. ballot_eq other.ballot vote.ballot && mark_eq other.mark vote.mark) votes)

abbrev pub lower_vote : Vote → Vote → Vote
lower_vote a b = if ballot_lt b.ballot a.ballot then b else a

-- the mark that a quorum has, at the least ballot where one has
abbrev pub learned : Sizes → List Vote → TxId → Key → Option Mark
learned quorums votes tx key =
    let on = votes_on votes tx key in
    option_map (λ vote. vote.mark) (reduce lower_vote (filter (has_quorum quorums on) on))

abbrev pub is_learned : Sizes → List Vote → TxId → Key → Bool
is_learned quorums votes tx key = is_some (learned quorums votes tx key)

-- what would be learned once one more vote is taken
abbrev pub learned_with : Sizes → List Vote → Vote → TxId → Key → Option Mark
learned_with quorums votes vote tx key = learned quorums (with_counted_vote quorums votes vote) tx key

-- whether a mark cannot reach a fast quorum any more: its votes and the silent centres are too few
abbrev pub is_out_of_reach : Sizes → List Vote → (Mark → Bool) → Bool
is_out_of_reach quorums votes test =
    nat_lt (number_of (λ vote. test vote.mark) votes + (quorums.centres - length votes)) quorums.fast

-- a collision: nothing is learned, and neither mark can be learned at the fast ballot. (Fast Paxos.)
abbrev pub collided : Sizes → List Vote → TxId → Key → Bool
collided quorums votes tx key =
    let fast_votes = filter (λ vote. is_fast vote.ballot) (votes_on votes tx key) in
    not (is_learned quorums votes tx key)
    && is_out_of_reach quorums fast_votes is_accept
    && is_out_of_reach quorums fast_votes (λ mark. not (is_accept mark))

-- what the votes decide of a transaction with these keys
abbrev pub decision_of : Sizes → List Vote → TxId → List Key → Option Outcome
decision_of quorums votes tx keys = outcome_of_marks (map (learned quorums votes tx) keys)
