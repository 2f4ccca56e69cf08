-- In which chains a fact is entered, and what a walk over entries finds.
use Rattle.std.specs.List.{list_all}
use Rattle.std.specs.Prelude.{◌≡◌, ◌≤◌, Bool, List, [], filter, length, map, true, ℕ, ◌&&◌, ◌++◌, ◌==◌, ◌∷◌}
use Rattle.mdcc_base.specs.Key.{key_eq}
use Rattle.mdcc_base.specs.TxId.{tx_eq}
use Rattle.mdcc_base.specs.declared.identifiers.TxId.{TxId}
use Rattle.mdcc_base.specs.declared.key.Key.{Key}
use Rattle.mdcc_option.specs.declared.choices.Choice.{Choice}
use Rattle.mdcc_option.specs.declared.choices.Outcome.{Outcome}
use Rattle.mdcc_def_messages.specs.WellFormed.{IsWellFormedFact}
use Rattle.mdcc_def_messages.specs.declared.facts.Fact.{Fact}
use Rattle.mdcc_theorem_fact_folds.specs.Chains.{is_heard_of, is_of_instance, is_promise_of}
use Rattle.mdcc_theorem_fact_folds.specs.Live.{is_ordered}

-- ---- where a fact is entered

abbrev pub instance_of : Choice → Key × ℕ
instance_of choice = (choice.key, choice.version)

-- the instances that a fact is of: a commit is of that of each choice
abbrev pub instances_in : Fact → List (Key × ℕ)
instances_in (Fact.Voted key version ballot options offered) = (key, version) ∷ []
instances_in (Fact.Heard tx (Outcome.Commit choices)) = map instance_of choices
instances_in (Fact.Adopted key version item adds) = (key, version) ∷ []
instances_in _ = []

-- the key of a promise
abbrev pub promised_in : Fact → List Key
promised_in (Fact.Promised key low high ballot) = key ∷ []
promised_in _ = []

-- the transaction of an outcome
abbrev pub heard_in : Fact → List TxId
heard_in (Fact.Heard tx outcome) = tx ∷ []
heard_in _ = []

abbrev pub is_instance : Key → ℕ → Key × ℕ → Bool
is_instance key version i = i.1 == version && key_eq i.0 key

-- ---- entries

-- indices of facts, the newest first, each with every key under which its fact is entered
abbrev pub entered : {K : Type 0} → (Fact → List K) → (ℕ → Fact) → List ℕ → List (K × ℕ)
entered keys fact_at [] = []
entered keys fact_at (index ∷ indices) = map (λ k. (k, index)) (keys (fact_at index)) ++ entered keys fact_at indices

-- the indices that are found by a test on keys
abbrev pub indices_found : {K : Type 0} → (K → Bool) → List (K × ℕ) → List ℕ
indices_found test entries = map (λ e. e.1) (filter (λ e. test e.0) entries)

-- each fact of an instance is found once
abbrev pub InstanceIsFound : Type 0
InstanceIsFound =
    (fact_at : ℕ → Fact) (indices : List ℕ) (key : Key) (version : ℕ) → list_all (λ index. is_ordered (fact_at index)) indices ≡ true
    → indices_found (is_instance key version) (entered instances_in fact_at indices) ≡ filter (λ index. is_of_instance key version (fact_at index)) indices

abbrev pub PromisesAreFound : Type 0
PromisesAreFound =
    (fact_at : ℕ → Fact) (indices : List ℕ) (key : Key)
    → indices_found (λ k. key_eq k key) (entered promised_in fact_at indices) ≡ filter (λ index. is_promise_of key (fact_at index)) indices

abbrev pub OutcomesAreFound : Type 0
OutcomesAreFound =
    (fact_at : ℕ → Fact) (indices : List ℕ) (tx : TxId)
    → indices_found (λ t. tx_eq t tx) (entered heard_in fact_at indices) ≡ filter (λ index. is_heard_of tx (fact_at index)) indices

-- the facts at the indices that a walk finds are the chain
abbrev pub FoundIsChain : Type 0
FoundIsChain =
    (keep : Fact → Bool) (fact_at : ℕ → Fact) (indices : List ℕ)
    → map fact_at (filter (λ index. keep (fact_at index)) indices) ≡ filter keep (map fact_at indices)

abbrev pub AtMostEightInstances : Type 0
AtMostEightInstances = (fact : Fact) → IsWellFormedFact fact → length (instances_in fact) ≤ 8
