-- What a walk of an index finds, where the index has the keys under which facts are entered, and a list beside it their indices.
use Rattle.std.specs.List.{filter_map, list_all}
use Rattle.std.specs.Prelude.{◌≡◌, Bool, List, filter, map, true, ℕ}
use Rattle.mdcc_base.specs.Key.{key_eq}
use Rattle.mdcc_base.specs.TxId.{tx_eq}
use Rattle.mdcc_base.specs.declared.identifiers.TxId.{TxId}
use Rattle.mdcc_base.specs.declared.key.Key.{Key}
use Rattle.mdcc_cells_chains.specs.Keys.{instance_eq}
use Rattle.mdcc_cells_chains.specs.Walks.{entry_at, walk}
use Rattle.mdcc_def_messages.specs.declared.facts.Fact.{Fact}
use Rattle.mdcc_theorem_fact_folds.specs.Chains.{is_heard_of, is_of_instance, is_promise_of}
use Rattle.mdcc_theorem_fact_folds.specs.Entered.{entered, heard_in, instances_in, promised_in}
use Rattle.mdcc_theorem_fact_folds.specs.Live.{is_ordered}

-- the keys of entries, as an index has them, and the numbers beside them
abbrev pub keys_of : {K : Type 0} → List (K × ℕ) → List K
keys_of entries = map (λ e. e.0) entries

abbrev pub entry_numbers : {K : Type 0} → List (K × ℕ) → List ℕ
entry_numbers entries = map (λ e. e.1) entries

-- the numbers at which a walk stops
abbrev pub walked : {K : Type 0} → (K → Bool) → List (K × ℕ) → List ℕ
walked test entries = filter_map (entry_at (entry_numbers entries)) (walk test (keys_of entries))

abbrev pub InstanceIsWalked : Type 0
InstanceIsWalked =
    (fact_at : ℕ → Fact) (indices : List ℕ) (key : Key) (version : ℕ) → list_all (λ index. is_ordered (fact_at index)) indices ≡ true
    → walked (instance_eq (key, version)) (entered instances_in fact_at indices) ≡ filter (λ index. is_of_instance key version (fact_at index)) indices

abbrev pub PromisesAreWalked : Type 0
PromisesAreWalked =
    (fact_at : ℕ → Fact) (indices : List ℕ) (key : Key)
    → walked (key_eq key) (entered promised_in fact_at indices) ≡ filter (λ index. is_promise_of key (fact_at index)) indices

abbrev pub OutcomesAreWalked : Type 0
OutcomesAreWalked =
    (fact_at : ℕ → Fact) (indices : List ℕ) (tx : TxId)
    → walked (tx_eq tx) (entered heard_in fact_at indices) ≡ filter (λ index. is_heard_of tx (fact_at index)) indices
