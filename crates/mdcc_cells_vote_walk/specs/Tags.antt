-- The transactions of the marks that a fact votes, and which of them are accepted.
use Rattle.std.specs.Prelude.{Bool, List, None, Option, Some, [], ℕ, drop, if◌then◌else◌}
use Rattle.mdcc_base.specs.Ballot.{ballot_eq}
use Rattle.mdcc_base.specs.declared.identifiers.Ballot.{Ballot}
use Rattle.mdcc_struct.specs.Maps.{TxMap}
use Rattle.mdcc_cells_vote_walk.specs.Heads.{head_in}
use Rattle.mdcc_cells_vote_walk.specs.Marks.{tags_in}
use Rattle.mdcc_cells_vote_walk.specs.declared.heads.Head.{Head}

abbrev pub tags_by : Ballot → List ℕ → Option Head → TxMap Bool
tags_by ballot bytes None = []
tags_by ballot bytes (Some head) = if ballot_eq head.ballot ballot then tags_in head.count (drop head.begin bytes) else []

-- the tags of the marks that a fact votes in an instance at a ballot
abbrev pub tags_at : List ℕ → ℕ → Ballot → List ℕ → TxMap Bool
tags_at key version ballot bytes = tags_by ballot bytes (head_in key version bytes)
