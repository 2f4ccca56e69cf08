-- The ballots of votes, in the bytes of a fact.
use Rattle.std.specs.Prelude.{List, None, Option, Some, ℕ, if◌then◌else◌}
use Rattle.mdcc_base.specs.Ballot.{ballot_lt, fast_ballot}
use Rattle.mdcc_base.specs.declared.identifiers.Ballot.{Ballot}
use Rattle.mdcc_cells_vote_walk.specs.Heads.{head_in}
use Rattle.mdcc_cells_vote_walk.specs.declared.heads.Head.{Head}

abbrev pub ballot_below : Ballot → Option Head → Ballot
ballot_below below (Some head) = if ballot_lt head.ballot below then head.ballot else fast_ballot
ballot_below below None = fast_ballot

-- the ballot at which a fact votes in an instance, where it is below another one
abbrev pub voted_in : List ℕ → ℕ → Ballot → List ℕ → Ballot
voted_in key version below bytes = ballot_below below (head_in key version bytes)
