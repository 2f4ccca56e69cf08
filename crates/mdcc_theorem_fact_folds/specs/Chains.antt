-- Which facts concern an instance, a transaction or a key: tests on one fact, plain to compute. A chain is what a test keeps of all facts, the newest first.
use Rattle.std.specs.List.{list_any}
use Rattle.std.specs.Prelude.{◌≡◌, Bool, false, true, ℕ, ◌&&◌, ◌==◌}
use Rattle.mdcc_base.specs.Key.{key_eq}
use Rattle.mdcc_base.specs.TxId.{tx_eq}
use Rattle.mdcc_base.specs.declared.identifiers.TxId.{TxId}
use Rattle.mdcc_base.specs.declared.key.Key.{Key}
use Rattle.mdcc_option.specs.declared.choices.Choice.{Choice}
use Rattle.mdcc_option.specs.declared.choices.Outcome.{Outcome}
use Rattle.mdcc_def_messages.specs.declared.facts.Fact.{Fact}

-- says how the transaction ended
abbrev pub is_heard_of : TxId → Fact → Bool
is_heard_of tx (Fact.Heard tx' outcome) = tx_eq tx' tx
is_heard_of tx _ = false

-- promises something at a key
abbrev pub is_promise_of : Key → Fact → Bool
is_promise_of key (Fact.Promised key' low high ballot) = key_eq key' key
is_promise_of key _ = false

-- votes in an instance
abbrev pub is_vote_in : Key → ℕ → Fact → Bool
is_vote_in key version (Fact.Voted key' version' ballot options offered) = version' == version && key_eq key' key
is_vote_in key version _ = false

-- a choice of an instance
abbrev pub is_choice_at : Key → ℕ → Choice → Bool
is_choice_at key version choice = choice.version == version && key_eq choice.key key

-- commits a choice of an instance, or adopts its version: what may bring deltas there
abbrev pub is_delta_in : Key → ℕ → Fact → Bool
is_delta_in key version (Fact.Heard tx (Outcome.Commit choices)) = list_any (is_choice_at key version) choices
is_delta_in key version (Fact.Adopted key' version' item adds) = version' == version && key_eq key' key
is_delta_in key version _ = false

-- votes in an instance, commits a choice of it or adopts its version. A commit may be of up to eight instances
abbrev pub is_of_instance : Key → ℕ → Fact → Bool
is_of_instance key version (Fact.Voted key' version' ballot options offered) = version' == version && key_eq key' key
is_of_instance key version (Fact.Heard tx (Outcome.Commit choices)) = list_any (is_choice_at key version) choices
is_of_instance key version (Fact.Adopted key' version' item adds) = version' == version && key_eq key' key
is_of_instance key version _ = false

-- commits a choice of a key, or adopts a version of it: what may change which version is held
abbrev pub is_version_of : Key → Fact → Bool
is_version_of key (Fact.Heard tx (Outcome.Commit choices)) = list_any (λ choice. key_eq choice.key key) choices
is_version_of key (Fact.Adopted key' version item adds) = key_eq key' key
is_version_of key _ = false

-- a chain that keeps at least the facts of a test. It may keep more, as one for all keys of a slot of a table does
abbrev pub Covers : (keep concerns : Fact → Bool) → Type 0
Covers keep concerns = (fact : Fact) → concerns fact ≡ true → keep fact ≡ true

-- the chain of an instance serves its votes and its deltas
abbrev pub InstanceCoversVotes : Type 0
InstanceCoversVotes = (keep : Fact → Bool) (key : Key) (version : ℕ) → Covers keep (is_of_instance key version) → Covers keep (is_vote_in key version)

abbrev pub InstanceCoversDeltas : Type 0
InstanceCoversDeltas = (keep : Fact → Bool) (key : Key) (version : ℕ) → Covers keep (is_of_instance key version) → Covers keep (is_delta_in key version)
