-- The ballots at which each instance was voted, as they are kept.
use Rattle.std.specs.List.{list_any}
use Rattle.std.specs.Prelude.{List, [], if◌then◌else◌, nat_eq, option_and_then, unwrap_or, ℕ, ◌&&◌, ◌++◌, ◌==◌, ◌∷◌}
use Rattle.std.specs.declared.hash.BuildHasherDefault.{BuildHasherDefault}
use Rattle.std.specs.declared.hash.FoldHasher.{FoldHasher}
use Rattle.indexmap.specs.IndexMap.{IndexMap, get}
use Rattle.mdcc_base.specs.Ballot.{ballot_eq}
use Rattle.mdcc_base.specs.Key.{key_eq}
use Rattle.mdcc_base.specs.declared.identifiers.Ballot.{Ballot}
use Rattle.mdcc_base.specs.declared.key.Key.{Key}

abbrev pub BallotsByVersion : Type 0
BallotsByVersion = IndexMap ℕ (List Ballot) (BuildHasherDefault FoldHasher)

abbrev pub BallotsByKey : Type 0
BallotsByKey = IndexMap Key BallotsByVersion (BuildHasherDefault FoldHasher)

-- the ballots of a version
abbrev pub ballots_in : BallotsByVersion → ℕ → List Ballot
ballots_in versions version = unwrap_or (get nat_eq versions version) []

-- the ballots of an instance
abbrev pub ballots_at : BallotsByKey → Key → ℕ → List Ballot
ballots_at keys key version = unwrap_or (option_and_then (λ versions. get nat_eq versions version) (get key_eq keys key)) []

-- one more ballot behind the others, unless it is among them
abbrev pub pushed_new : List Ballot → Ballot → List Ballot
pushed_new ballots ballot = if list_any (ballot_eq ballot) ballots then ballots else ballots ++ ballot ∷ []

-- those of a version with one more, where it is the one that was voted
abbrev pub ballots_with : ℕ → Ballot → ℕ → List Ballot → List Ballot
ballots_with voted ballot version ballots = if voted == version then pushed_new ballots ballot else ballots

-- the same for an instance
abbrev pub voted_with : Key → ℕ → Ballot → Key → ℕ → List Ballot → List Ballot
voted_with voted_key voted ballot key version ballots =
    if voted == version && key_eq voted_key key then pushed_new ballots ballot else ballots
