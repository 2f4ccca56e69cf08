-- The chain of an instance has its votes and its deltas.
use Rattle.std.proofs.Common.{◌≡◌, ℕ, true}
use Rattle.mdcc_base.specs.declared.key.Key.{Key}
use Rattle.mdcc_option.specs.declared.choices.Outcome.{Outcome}
use Rattle.mdcc_def_messages.specs.declared.facts.Fact.{Fact}
use Rattle.mdcc_theorem_fact_folds.specs.Chains.{InstanceCoversDeltas, InstanceCoversVotes, is_delta_in, is_of_instance, is_vote_in}

is_vote : (key : Key) (version : ℕ) (fact : Fact) → is_vote_in key version fact ≡ true → is_of_instance key version fact ≡ true
is_vote key version (Fact.Booted epoch) h = absurd (cc)
is_vote key version (Fact.Floor origin era upto) h = absurd (cc)
is_vote key version (Fact.Promised k low high b) h = absurd (cc)
is_vote key version (Fact.Voted k v b options offered) h = h
is_vote key version (Fact.Heard t outcome) h = absurd (cc)
is_vote key version (Fact.Adopted k v item adds) h = absurd (cc)

is_delta : (key : Key) (version : ℕ) (fact : Fact) → is_delta_in key version fact ≡ true → is_of_instance key version fact ≡ true
is_delta key version (Fact.Booted epoch) h = absurd (cc)
is_delta key version (Fact.Floor origin era upto) h = absurd (cc)
is_delta key version (Fact.Promised k low high b) h = absurd (cc)
is_delta key version (Fact.Voted k v b options offered) h = absurd (cc)
is_delta key version (Fact.Heard t Outcome.Abort) h = absurd (cc)
is_delta key version (Fact.Heard t (Outcome.Commit choices)) h = h
is_delta key version (Fact.Adopted k v item adds) h = h

pub covers-votes : InstanceCoversVotes
covers-votes keep key version covers fact h = covers fact (is_vote key version fact h)

pub covers-deltas : InstanceCoversDeltas
covers-deltas keep key version covers fact h = covers fact (is_delta key version fact h)
