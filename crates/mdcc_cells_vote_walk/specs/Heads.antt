-- The head of a vote or of a promise, in the bytes of a fact.
use Rattle.std.specs.Prelude.{List, None, Option, Some, Result, Ok, Err, ℕ, ◌&&◌, ◌==◌, if◌then◌else◌, nat_le, take}
use Rattle.mdcc_base.specs.Ballot.{fast_ballot}
use Rattle.mdcc_base.specs.Key.{key_eq}
use Rattle.mdcc_base.specs.declared.identifiers.Ballot.{Ballot}
use Rattle.mdcc_def_messages.specs.declared.wire.WireFault.{WireFault}
use Rattle.mdcc_def_messages.specs.Reading.{instance_at}
use Rattle.mdcc_def_messages.specs.ReadingParts.{ballot_at}
use Rattle.mdcc_def_messages.specs.ReadingSteps.{◌>>=◌, u32_at, u64_at, u8_within}
use Rattle.mdcc_cells_vote_walk.specs.declared.heads.Head.{Head}

-- the key, the version and the ballot of a vote with the number of its marks, and where they begin
abbrev pub vote_at : List ℕ → Result ((List ℕ × ℕ × Ballot × ℕ) × ℕ) WireFault
vote_at bytes = do
  tag ← u8_within 0 3 3 bytes 0
  instance ← instance_at bytes tag.1
  ballot ← ballot_at bytes instance.1
  count ← u32_at bytes ballot.1
  Ok ((instance.0.0, instance.0.1, ballot.0, count.0), count.1)

abbrev pub head_of : List ℕ → ℕ → Result ((List ℕ × ℕ × Ballot × ℕ) × ℕ) WireFault → Option Head
head_of key version (Ok vote) =
    if vote.0.1 == version && key_eq vote.0.0 key then Some (record { ballot = vote.0.2; count = vote.0.3; begin = vote.1 }) else None
head_of key version (Err fault) = None

-- the head of a vote in an instance
abbrev pub head_in : List ℕ → ℕ → List ℕ → Option Head
head_in key version bytes = head_of key version (vote_at (take 64 bytes))

abbrev pub any_head : Result ((List ℕ × ℕ × Ballot × ℕ) × ℕ) WireFault → Option Head
any_head (Ok vote) = Some (record { ballot = vote.0.2; count = vote.0.3; begin = vote.1 })
any_head (Err fault) = None

-- the head of a vote in any instance
abbrev pub head_any : List ℕ → Option Head
head_any bytes = any_head (vote_at (take 64 bytes))
