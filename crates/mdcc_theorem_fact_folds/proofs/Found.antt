-- A walk over entries finds each fact of a chain once.
use Rattle.std.proofs.Common.{◌≡◌, ℕ, Bool, true, false, List, [], ◌∷◌, ◌++◌, length, refl, subst, ap, ◌∙◌, arith, inl, inr}
use Rattle.std.specs.List.{list_all, list_any}
use Rattle.std.specs.Prelude.{filter, if◌then◌else◌, map, ◌==◌}
use Rattle.std.proofs.lemmas.Bool.{and_parts, cases_Bool}
use Rattle.std.proofs.lemmas.List.{map-append}
use Rattle.std.proofs.lemmas.List.Elements.{filter-append}
use Rattle.mdcc_base.specs.Key.{key_eq, key_lt}
use Rattle.mdcc_base.specs.TxId.{tx_eq}
use Rattle.mdcc_base.specs.declared.identifiers.TxId.{TxId}
use Rattle.mdcc_base.specs.declared.key.Key.{Key}
use Rattle.mdcc_option.proofs.Equal.{Decides-key}
use Rattle.mdcc_option.specs.declared.choices.Choice.{Choice}
use Rattle.mdcc_option.specs.declared.choices.Outcome.{Outcome}
use Rattle.mdcc_def_messages.specs.WellFormedParts.{choice_lt, is_ascending_by}
use Rattle.mdcc_def_messages.specs.declared.facts.Fact.{Fact}
use Rattle.mdcc_theorem_fact_folds.specs.Chains.{is_choice_at, is_heard_of, is_of_instance, is_promise_of}
use Rattle.mdcc_theorem_fact_folds.specs.Entered.{AtMostEightInstances, FoundIsChain, InstanceIsFound, OutcomesAreFound, PromisesAreFound, entered, heard_in, indices_found, instance_of, instances_in, is_instance, promised_in}
use Rattle.mdcc_theorem_fact_folds.specs.Live.{is_ordered}
use Rattle.mdcc_theorem_fact_folds.proofs.Sorted.{IsKeyBelow, choices-below, choices-tail, lt-irrefl}

-- the entries of one index
abbrev at_index : {K : Type 0} → ℕ → List K → List (K × ℕ)
at_index index keys = map (λ k. (k, index)) keys

abbrev only_if : Bool → ℕ → List ℕ
only_if test index = if test then index ∷ [] else []

-- where each fact is found as often as it passes, the chain is found
entered-found : {K : Type 0} (test : K → Bool) (keys : Fact → List K) (passes usual : Fact → Bool) (fact_at : ℕ → Fact)
    → ((fact : Fact) (index : ℕ) → usual fact ≡ true → indices_found test (at_index index (keys fact)) ≡ only_if (passes fact) index)
    → (indices : List ℕ) → list_all (λ index. usual (fact_at index)) indices ≡ true
    → indices_found test (entered keys fact_at indices) ≡ filter (λ index. passes (fact_at index)) indices
entered-found test keys passes usual fact_at each [] all = refl
entered-found {K = K} test keys passes usual fact_at each (index ∷ indices) all =
    let parts = and_parts (usual (fact_at index)) (list_all (λ index. usual (fact_at index)) indices) all in
    let here = at_index index (keys (fact_at index)) in
    let rest = entered keys fact_at indices in
    ap (map (λ (e : K × ℕ). e.1)) (filter-append (λ (e : K × ℕ). test e.0) here rest)
    ∙ map-append (λ (e : K × ℕ). e.1) (filter (λ (e : K × ℕ). test e.0) here) (filter (λ (e : K × ℕ). test e.0) rest)
    ∙ ap (λ xs. xs ++ indices_found test rest) (each (fact_at index) index parts.0)
    ∙ ap (λ xs. only_if (passes (fact_at index)) index ++ xs) (entered-found test keys passes usual fact_at each indices parts.1)
    ∙ by (passes (fact_at index)) (filter (λ index. passes (fact_at index)) indices)
  where
    by : (test : Bool) (xs : List ℕ) → only_if test index ++ xs ≡ (if test then index ∷ xs else xs)
    by true xs = refl
    by false xs = refl

one_entry : {K : Type 0} (test : K → Bool) (k : K) (index : ℕ) → indices_found test (at_index index (k ∷ [])) ≡ only_if (test k) index
one_entry test k index =
    elim (cases_Bool (test k)) [
      | inl passes ↦ rw passes refl
      | inr fails ↦ rw fails refl
    ]

-- ---- instances

none_found : (key : Key) (version index : ℕ) (cs : List Choice) → IsKeyBelow key cs → indices_found (is_instance key version) (at_index index (map instance_of cs)) ≡ []
none_found key version index [] h = refl
none_found key version index (c ∷ cs) h =
    elim (cases_Bool (is_choice_at key version c)) [
      | inl here ↦
          let parts = and_parts (c.version == version) (key_eq c.key key) here in
          let same : c.key ≡ key = (Decides-key c.key key).0 parts.1 in
          absurd (lt-irrefl key (subst (λ k. key_lt key k ≡ true) same h.0))
      | inr other ↦ rw other (none_found key version index cs h.1)
    ]

commit_found : (key : Key) (version index : ℕ) (cs : List Choice) → is_ascending_by choice_lt cs ≡ true
    → indices_found (is_instance key version) (at_index index (map instance_of cs)) ≡ only_if (list_any (is_choice_at key version) cs) index
commit_found key version index [] up = refl
commit_found key version index (c ∷ cs) up =
    elim (cases_Bool (is_choice_at key version c)) [
      | inl here ↦
          let parts = and_parts (c.version == version) (key_eq c.key key) here in
          let same : c.key ≡ key = (Decides-key c.key key).0 parts.1 in
          let none = none_found key version index cs (subst (λ k. IsKeyBelow k cs) same (choices-below c cs up)) in
          rw here (ap (λ xs. index ∷ xs) none)
      | inr other ↦ rw other (commit_found key version index cs (choices-tail c cs up))
    ]

instance_found : (key : Key) (version : ℕ) (fact : Fact) (index : ℕ) → is_ordered fact ≡ true
    → indices_found (is_instance key version) (at_index index (instances_in fact)) ≡ only_if (is_of_instance key version fact) index
instance_found key version (Fact.Booted epoch) index h = refl
instance_found key version (Fact.Floor origin era upto) index h = refl
instance_found key version (Fact.Promised k low high b) index h = refl
instance_found key version (Fact.Voted k v b options offered) index h = one_entry (is_instance key version) (k, v) index
instance_found key version (Fact.Heard t Outcome.Abort) index h = refl
instance_found key version (Fact.Heard t (Outcome.Commit choices)) index h = commit_found key version index choices h
instance_found key version (Fact.Adopted k v item adds) index h = one_entry (is_instance key version) (k, v) index

pub instance-found : InstanceIsFound
instance-found fact_at indices key version all =
    entered-found (is_instance key version) instances_in (is_of_instance key version) is_ordered fact_at (instance_found key version) indices all

pub eight-instances : AtMostEightInstances
eight-instances (Fact.Booted epoch) h = omega arith
eight-instances (Fact.Floor origin era upto) h = omega arith
eight-instances (Fact.Promised k low high b) h = omega arith
eight-instances (Fact.Voted k v b options offered) h = omega arith
eight-instances (Fact.Heard t Outcome.Abort) h = omega arith
eight-instances (Fact.Heard t (Outcome.Commit choices)) h = let count = h.outcome_itself.count in let same = length-mapped choices in omega (arith, count.1, same)
  where
    length-mapped : (cs : List Choice) → length (map instance_of cs) ≡ length cs
    length-mapped [] = refl
    length-mapped (c ∷ cs) = let ih = length-mapped cs in omega (arith, ih)
eight-instances (Fact.Adopted k v item adds) h = omega arith

-- ---- promises and outcomes

all_usual : (indices : List ℕ) → list_all (λ (index : ℕ). true) indices ≡ true
all_usual [] = refl
all_usual (index ∷ indices) = all_usual indices

promise_found : (key : Key) (fact : Fact) (index : ℕ) → true ≡ true → indices_found (λ k. key_eq k key) (at_index index (promised_in fact)) ≡ only_if (is_promise_of key fact) index
promise_found key (Fact.Booted epoch) index h = refl
promise_found key (Fact.Floor origin era upto) index h = refl
promise_found key (Fact.Promised k low high b) index h = one_entry (λ k. key_eq k key) k index
promise_found key (Fact.Voted k v b options offered) index h = refl
promise_found key (Fact.Heard t outcome) index h = refl
promise_found key (Fact.Adopted k v item adds) index h = refl

pub promises-found : PromisesAreFound
promises-found fact_at indices key =
    entered-found (λ k. key_eq k key) promised_in (is_promise_of key) (λ fact. true) fact_at (promise_found key) indices (all_usual indices)

outcome_found : (tx : TxId) (fact : Fact) (index : ℕ) → true ≡ true → indices_found (λ t. tx_eq t tx) (at_index index (heard_in fact)) ≡ only_if (is_heard_of tx fact) index
outcome_found tx (Fact.Booted epoch) index h = refl
outcome_found tx (Fact.Floor origin era upto) index h = refl
outcome_found tx (Fact.Promised k low high b) index h = refl
outcome_found tx (Fact.Voted k v b options offered) index h = refl
outcome_found tx (Fact.Heard t outcome) index h = one_entry (λ s. tx_eq s tx) t index
outcome_found tx (Fact.Adopted k v item adds) index h = refl

pub outcomes-found : OutcomesAreFound
outcomes-found fact_at indices tx =
    entered-found (λ t. tx_eq t tx) heard_in (is_heard_of tx) (λ fact. true) fact_at (outcome_found tx) indices (all_usual indices)

-- ---- facts by their indices

pub found-chain : FoundIsChain
found-chain keep fact_at [] = refl
found-chain keep fact_at (index ∷ indices) =
    let ih = found-chain keep fact_at indices in
    elim (cases_Bool (keep (fact_at index))) [
      | inl kept ↦ rw kept (ap (λ xs. fact_at index ∷ xs) ih)
      | inr left ↦ rw left ih
    ]
