-- What a fact says of one transaction, in its bytes.
use Rattle.std.specs.Option.{option_map}
use Rattle.std.specs.Prelude.{Bool, List, None, Option, Some, false, ℕ, if◌then◌else◌}
use Rattle.mdcc_base.specs.Ballot.{ballot_eq, ballot_lt}
use Rattle.mdcc_base.specs.declared.identifiers.Ballot.{Ballot}
use Rattle.mdcc_base.specs.declared.identifiers.TxId.{TxId}
use Rattle.mdcc_option.specs.declared.choices.Choice.{Choice}
use Rattle.mdcc_option.specs.declared.choices.Mark.{Mark}
use Rattle.mdcc_cells_vote_walk.specs.Heads.{head_in}
use Rattle.mdcc_cells_vote_walk.specs.Marks.{choice_of, mark_of}
use Rattle.mdcc_cells_vote_walk.specs.declared.heads.Head.{Head}

-- ---- the mark at one ballot

abbrev pub mark_by : Ballot → TxId → List ℕ → Option Head → Option Mark
mark_by ballot tx bytes None = None
mark_by ballot tx bytes (Some head) = if ballot_eq head.ballot ballot then mark_of tx head bytes else None

-- the mark of a transaction that a fact votes in an instance at a ballot
abbrev pub mark_in : List ℕ → ℕ → Ballot → TxId → List ℕ → Option Mark
mark_in key version ballot tx bytes = mark_by ballot tx bytes (head_in key version bytes)

-- ---- the mark at the greatest ballot

-- below the ballot of a vote that was found
abbrev pub is_below_found : Option (Ballot × Mark) → Ballot → Bool
is_below_found None ballot = false
is_below_found (Some vote) ballot = ballot_lt ballot vote.0

abbrev pub vote_by : TxId → Option (Ballot × Mark) → List ℕ → Option Head → Option (Ballot × Mark)
vote_by tx later bytes None = None
vote_by tx later bytes (Some head) =
    if is_below_found later head.ballot then None else option_map (λ mark. (head.ballot, mark)) (mark_of tx head bytes)

-- the vote on a transaction that a fact gives in an instance, where it counts before a later one
abbrev pub vote_in : List ℕ → ℕ → TxId → Option (Ballot × Mark) → List ℕ → Option (Ballot × Mark)
vote_in key version tx later bytes = vote_by tx later bytes (head_in key version bytes)

-- ---- the choice

abbrev pub choice_by_head : TxId → List ℕ → Option Head → Option Choice
choice_by_head tx bytes None = None
choice_by_head tx bytes (Some head) = choice_of tx head bytes

-- the choice of a transaction that a fact has in an instance
abbrev pub choice_in_bytes : List ℕ → ℕ → TxId → List ℕ → Option Choice
choice_in_bytes key version tx bytes = choice_by_head tx bytes (head_in key version bytes)
