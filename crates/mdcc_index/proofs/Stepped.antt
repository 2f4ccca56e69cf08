-- What steps over the votes of an instance come to.
use Rattle.std.proofs.Common.{◌≡◌, ◌+◌, ℕ, List, [], ◌∷◌, Option, min, refl, arith, Bor}
use Rattle.std.specs.List.{fold}
use Rattle.std.specs.Prelude.{◌-◌, ◌^◌}
use Rattle.mdcc_base.specs.declared.identifiers.Ballot.{Ballot}
use Rattle.mdcc_base.specs.declared.identifiers.TxId.{TxId}
use Rattle.mdcc_base.specs.declared.key.Key.{Key}
use Rattle.mdcc_option.specs.declared.choices.Choice.{Choice}
use Rattle.mdcc_option.specs.declared.choices.Mark.{Mark}
use Rattle.mdcc_def_messages.specs.declared.facts.Fact.{Fact}
use Rattle.mdcc_struct.specs.declared.options.Options.{Options}
use Rattle.mdcc_theorem_fact_folds.specs.Chains.{Covers, is_of_instance, is_delta_in, is_vote_in}
use Rattle.mdcc_theorem_fact_folds.specs.Live.{with_count}
use Rattle.mdcc_theorem_fact_folds.specs.Votes.{least_above, older_choice, older_mark, older_vote, with_voted_ballot}
use Rattle.mdcc_theorem_fact_folds.proofs.Covered.{covers-deltas, covers-votes}
use Rattle.mdcc_cells_vote_walk.specs.declared.ballots.WithBallot.{WithBallot}
use Rattle.mdcc_cells_vote_walk.specs.declared.older.OlderChoice.{OlderChoice}
use Rattle.mdcc_cells_vote_walk.specs.declared.older.OlderMark.{OlderMark}
use Rattle.mdcc_cells_vote_walk.specs.declared.older.OlderVote.{OlderVote}
use Rattle.mdcc_cells_vote_walk.specs.declared.tallies.LeastAbove.{LeastAbove}
use Rattle.mdcc_cells_vote_walk.specs.declared.tallies.WithCount.{WithCount}

-- the facts of an instance are its votes, and those that bring deltas there
pub votes-covered : (key : Key) (version : ℕ) → Covers (is_of_instance key version) (is_vote_in key version)
votes-covered key version = covers-votes (is_of_instance key version) key version (λ fact is. is)

pub deltas-covered : (key : Key) (version : ℕ) → Covers (is_of_instance key version) (is_delta_in key version)
deltas-covered key version = covers-deltas (is_of_instance key version) key version (λ fact is. is)

module _ (key : Key) (version : ℕ) where
  pub vote-stepped : (tx : TxId) (found : Option (Ballot × Mark)) (facts : List Fact)
      → (fold (λ (s : OlderVote) fact. record s { found = older_vote s.key s.version s.tx s.found fact }) (record { key = key; version = version; tx = tx; found = found }) facts).found
      ≡ fold (older_vote key version tx) found facts
  vote-stepped tx found [] = refl
  vote-stepped tx found (fact ∷ facts) = vote-stepped tx (older_vote key version tx found fact) facts

  pub ballot-stepped : (below ballot : Ballot) (facts : List Fact)
      → (fold (λ (s : WithBallot) fact. record s { ballot = with_voted_ballot s.key s.version s.below s.ballot fact }) (record { key = key; version = version; below = below; ballot = ballot }) facts).ballot
      ≡ fold (with_voted_ballot key version below) ballot facts
  ballot-stepped below ballot [] = refl
  ballot-stepped below ballot (fact ∷ facts) = ballot-stepped below (with_voted_ballot key version below ballot fact) facts

  pub choice-stepped : (tx : TxId) (found : Option Choice) (facts : List Fact)
      → (fold (λ (s : OlderChoice) fact. record s { found = older_choice s.key s.version s.tx s.found fact }) (record { key = key; version = version; tx = tx; found = found }) facts).found
      ≡ fold (older_choice key version tx) found facts
  choice-stepped tx found [] = refl
  choice-stepped tx found (fact ∷ facts) = choice-stepped tx (older_choice key version tx found fact) facts

  pub mark-stepped : (ballot : Ballot) (tx : TxId) (found : Option Mark) (facts : List Fact)
      → (fold (λ (s : OlderMark) fact. record s { found = older_mark s.key s.version s.ballot s.tx s.found fact }) (record { key = key; version = version; ballot = ballot; tx = tx; found = found }) facts).found
      ≡ fold (older_mark key version ballot tx) found facts
  mark-stepped ballot tx found [] = refl
  mark-stepped ballot tx found (fact ∷ facts) = mark-stepped ballot tx (older_mark key version ballot tx found fact) facts

  pub least-stepped : (ballot : Ballot) (last found : Option TxId) (facts : List Fact)
      → (fold (λ (s : LeastAbove) fact. record s { found = least_above s.key s.version s.ballot s.last s.found fact }) (record { key = key; version = version; ballot = ballot; last = last; found = found }) facts).found
      ≡ fold (least_above key version ballot last) found facts
  least-stepped ballot last found [] = refl
  least-stepped ballot last found (fact ∷ facts) = least-stepped ballot last (least_above key version ballot last found fact) facts

-- a count that stops at a limit
module _ (key : Key) (version : ℕ) (ballot : Ballot) (options : Options) where
  count-more : (count : ℕ) (facts : List Fact) → fold (with_count key version ballot options) count facts ≡ count + fold (with_count key version ballot options) 0 facts
  count-more count [] = omega arith
  count-more count (fact ∷ facts) =
      omega (arith, count-more (with_count key version ballot options count fact) facts, count-more (with_count key version ballot options 0 fact) facts)

  pub count-stopped : (limit count : ℕ) (facts : List Fact)
      → fold (λ n fact. min (with_count key version ballot options n fact) limit) (min count limit) facts ≡ min (fold (with_count key version ballot options) count facts) limit
  count-stopped limit count [] = refl
  count-stopped limit count (fact ∷ facts) =
      let stopped = with_count key version ballot options (min count limit) fact in
      omega (
        arith,
        count-stopped limit stopped facts,
        count-more stopped facts,
        count-more (with_count key version ballot options count fact) facts,
      )

  pub count-stepped : (shared : Bor Options) (count : ℕ) (facts : List Fact)
      → (fold (λ (s : WithCount) fact. record s { count = min (with_count s.key s.version s.ballot s.options.now s.count fact) (2 ^ 64 - 1) }) (record { key = key; version = version; ballot = ballot; options = shared; count = count }) facts).count
      ≡ fold (λ n fact. min (with_count key version ballot shared.now n fact) (2 ^ 64 - 1)) count facts
  count-stepped shared count [] = refl
  count-stepped shared count (fact ∷ facts) = count-stepped shared (min (with_count key version ballot shared.now count fact) (2 ^ 64 - 1)) facts
