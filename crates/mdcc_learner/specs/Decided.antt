-- What the votes on one transaction and key decide.
use Rattle.std.specs.List.{reduce}
use Rattle.std.specs.Prelude.{Bool, List, None, Option, Some, filter, is_some, not, option_map, ◌&&◌}
use Rattle.mdcc_base.specs.Ballot.{ballot_eq, is_fast}
use Rattle.mdcc_base.specs.Sizes.{Sizes}
use Rattle.mdcc_option.specs.Equality.{mark_eq}
use Rattle.mdcc_option.specs.declared.choices.Mark.{Mark}
use Rattle.mdcc_def_protocol.specs.Learner.{has_quorum, is_out_of_reach, lower_vote}
use Rattle.mdcc_def_protocol.specs.Marks.{is_accept}
use Rattle.mdcc_def_protocol.specs.declared.votes.Vote.{Vote}

-- whether two votes are alike: of one ballot, with one mark
abbrev pub is_alike : Vote → Vote → Bool
is_alike vote other = ballot_eq other.ballot vote.ballot && mark_eq other.mark vote.mark

-- the vote of the least ballot at which a quorum has its mark
abbrev pub deciding_vote : Sizes → List Vote → Option Vote
deciding_vote quorums votes = reduce lower_vote (filter (has_quorum quorums votes) votes)

-- the mark that the votes on one transaction and key decide
abbrev pub mark_decided : Sizes → List Vote → Option Mark
mark_decided quorums votes = option_map (λ vote. vote.mark) (deciding_vote quorums votes)

-- the lower of a vote and of one that there may be
abbrev pub lower_with : Option Vote → Vote → Option Vote
lower_with None vote = Some vote
lower_with (Some lowest) vote = Some (lower_vote lowest vote)

-- those of some votes that a quorum of all votes is like
abbrev pub votes_backed : Sizes → List Vote → List Vote → List Vote
votes_backed quorums all votes = filter (has_quorum quorums all) votes

-- the votes at the fast ballot
abbrev pub fast_votes : List Vote → List Vote
fast_votes votes = filter (λ vote. is_fast vote.ballot) votes

-- whether the votes on one transaction and key collide
abbrev pub is_collision : Sizes → List Vote → Bool
is_collision quorums votes =
    not (is_some (mark_decided quorums votes))
    && is_out_of_reach quorums (fast_votes votes) is_accept
    && is_out_of_reach quorums (fast_votes votes) (λ mark. not (is_accept mark))
