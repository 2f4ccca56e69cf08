-- The messages of one round trip: a proposal of each choice to each member of a quorum, and the vote that each gives.
use Rattle.std.specs.Prelude.{List, None, flat_map, map, ℕ, ◌∷◌, []}
use Rattle.mdcc_base.specs.Ballot.{fast_ballot}
use Rattle.mdcc_option.specs.declared.choices.Choice.{Choice}
use Rattle.mdcc_option.specs.declared.choices.Mark.{Mark}
use Rattle.mdcc_def_messages.specs.declared.facts.Fact.{Fact}
use Rattle.mdcc_def_messages.specs.declared.messages.Envelope.{Envelope}
use Rattle.mdcc_def_messages.specs.declared.messages.Message.{Message}
use Rattle.mdcc_def_protocol.specs.declared.votes.Vote.{Vote}

-- each choice with each member
abbrev pub each_with : List Choice → List ℕ → List (Choice × ℕ)
each_with choices members = flat_map (λ choice. map (λ member. (choice, member)) members) choices

-- a centre's proposal of the choice to the member
abbrev pub proposal_of : ℕ → Choice × ℕ → Envelope
proposal_of a (choice, member) = record { from = a; to = member; message = Message.Propose choice }

-- the fact by which a member accepts a choice at the fast ballot
abbrev pub accepting_fact : Choice → Fact
accepting_fact choice = Fact.Voted choice.key choice.version fast_ballot ((choice.tx, Mark.Accept choice) ∷ []) None

-- the vote that the member gives the centre
abbrev pub vote_of_member : ℕ → Choice × ℕ → Envelope
vote_of_member a (choice, member) =
    record { from = member; to = a; message = Message.Voted choice.key choice.version fast_ballot choice.tx (Mark.Accept choice) }

-- the same vote as it is counted
abbrev pub vote_counted : Choice × ℕ → Vote
vote_counted (choice, member) = record {
  from = member;
  key = choice.key;
  version = choice.version;
  ballot = fast_ballot;
  tx = choice.tx;
  mark = Mark.Accept choice;
}
