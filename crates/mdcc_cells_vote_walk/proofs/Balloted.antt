-- The ballots of facts, as they are read in their bytes.
use Rattle.std.proofs.Common.{◌≡◌, ℕ, ◌+◌, Bool, true, false, List, Some, None, length, refl, ap, ◌∙◌}
use Rattle.std.specs.Prelude.{if◌then◌else◌, ◌&&◌, ◌==◌}
use Rattle.mdcc_base.specs.Ballot.{ballot_lt, fast_ballot}
use Rattle.mdcc_base.specs.Key.{key_eq}
use Rattle.mdcc_base.specs.declared.identifiers.Ballot.{Ballot}
use Rattle.mdcc_def_messages.specs.Spelling.{fact_bytes}
use Rattle.mdcc_def_messages.specs.WellFormed.{IsWellFormedFact}
use Rattle.mdcc_def_messages.specs.declared.facts.Fact.{Fact}
use Rattle.mdcc_def_messages.specs.declared.facts.Fact.TheVariants as facts
use Rattle.mdcc_def_protocol.specs.Facts.{ballot_voted}
use Rattle.mdcc_cells_vote_walk.specs.Ballots.{ballot_below, voted_in}
use Rattle.mdcc_cells_vote_walk.proofs.Headed.{head-again, head_from}

voted-of : (key : List ℕ) (version : ℕ) (below : Ballot) (fact : Fact) → ballot_below below (head_from key version fact) ≡ ballot_voted key version below fact
voted-of key version below (facts.Voted k v ballot options offered) = by (v == version) (key_eq k key) (ballot_lt ballot below) refl
  where
    by : (same_version same_key lower : Bool) → ballot_lt ballot below ≡ lower
        → ballot_below below (if same_version && same_key then Some (record { ballot = ballot; count = length options; begin = 23 + length k }) else None)
        ≡ (if same_version && lower && same_key then ballot else fast_ballot)
    by true true lower is = ap (λ test. if test then ballot else fast_ballot) is ∙ whole lower
      where
        whole : (lower : Bool) → (if lower then ballot else fast_ballot) ≡ (if true && lower && true then ballot else fast_ballot)
        whole true = refl
        whole false = refl
    by true false true is = refl
    by true false false is = refl
    by false same_key lower is = refl
voted-of key version below (facts.Promised k low high ballot) = refl
voted-of key version below (facts.Booted epoch) = refl
voted-of key version below (facts.Floor origin era upto) = refl
voted-of key version below (facts.Heard tx outcome) = refl
voted-of key version below (facts.Adopted k v item adds) = refl

pub voted-again : (key : List ℕ) (version : ℕ) (below : Ballot) (fact : Fact) → IsWellFormedFact fact → voted_in key version below (fact_bytes fact) ≡ ballot_voted key version below fact
voted-again key version below fact w = ap (ballot_below below) (head-again key version fact w) ∙ voted-of key version below fact
