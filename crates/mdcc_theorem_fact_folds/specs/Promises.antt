-- The promise of an instance, from the chain of its key's promises and that of its own votes.
use Rattle.std.specs.List.{fold}
use Rattle.std.specs.Option.{option_or}
use Rattle.std.specs.Prelude.{◌≡◌, Bool, List, None, Option, filter, ℕ, ◌∷◌}
use Rattle.mdcc_base.specs.Ballot.{ballot_max, fast_ballot}
use Rattle.mdcc_base.specs.declared.identifiers.Ballot.{Ballot}
use Rattle.mdcc_base.specs.declared.key.Key.{Key}
use Rattle.mdcc_def_protocol.specs.Facts.{ballot_promised, epoch_of, promise_of, promised_through, range_promised}
use Rattle.mdcc_def_messages.specs.declared.facts.Fact.{Fact}
use Rattle.mdcc_theorem_fact_folds.specs.Chains.{Covers, is_promise_of, is_vote_in}

-- the greater of a ballot and the one below which the fact bars votes
abbrev pub with_promised_ballot : Key → ℕ → Ballot → Fact → Ballot
with_promised_ballot key version ballot fact = ballot_max (ballot_promised key version fact) ballot

-- an older range counts before a later one
abbrev pub older_range : Key → ℕ → Ballot → Option ℕ → Fact → Option ℕ
older_range key version ballot later fact = option_or (range_promised key version ballot fact) later

-- first the chain of the key, then that of the instance
abbrev pub PromiseByWalks : Type 0
PromiseByWalks =
    (of_key of_instance : Fact → Bool) (key : Key) (version : ℕ) → Covers of_key (is_promise_of key) → Covers of_instance (is_vote_in key version)
    → (facts : List Fact) → promise_of facts key version
    ≡ fold (with_promised_ballot key version) (fold (with_promised_ballot key version) fast_ballot (filter of_key facts)) (filter of_instance facts)

abbrev pub PromisedInChain : Type 0
PromisedInChain =
    (keep : Fact → Bool) (key : Key) (version : ℕ) (ballot : Ballot) → Covers keep (is_promise_of key)
    → (facts : List Fact) → promised_through facts key version ballot ≡ promised_through (filter keep facts) key version ballot

abbrev pub PromisedByWalk : Type 0
PromisedByWalk =
    (keep : Fact → Bool) (key : Key) (version : ℕ) (ballot : Ballot) → Covers keep (is_promise_of key)
    → (facts : List Fact) → promised_through facts key version ballot ≡ fold (older_range key version ballot) None (filter keep facts)

-- ---- what stands as a number

-- the epoch of the last boot, with one more fact
abbrev pub next_epoch : Fact → ℕ → ℕ
next_epoch (Fact.Booted epoch) last = epoch
next_epoch fact last = last

abbrev pub EpochUpdates : Type 0
EpochUpdates = (facts : List Fact) (fact : Fact) → epoch_of (fact ∷ facts) ≡ next_epoch fact (epoch_of facts)
