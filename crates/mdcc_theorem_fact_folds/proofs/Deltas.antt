-- The deltas of a version come from the chain of its instance.
use Rattle.std.proofs.Common.{◌≡◌, ℕ, Bool, true, false, List, [], ◌∷◌, None, refl, sym, ap, ◌∙◌, inl, inr, length, arith, zero-add, add-zero, ◌+◌}
use Rattle.std.specs.List.{list_any}
use Rattle.std.specs.Option.{option_map, option_or}
use Rattle.std.specs.Prelude.{filter, filter_map, nat_lt, ◌||◌}
use Rattle.std.proofs.lemmas.Bool.{cases_Bool}
use Rattle.mdcc_base.specs.declared.identifiers.TxId.{TxId}
use Rattle.mdcc_base.specs.declared.key.Key.{Key}
use Rattle.mdcc_option.specs.declared.choices.Choice.{Choice}
use Rattle.mdcc_option.specs.declared.choices.Outcome.{Outcome}
use Rattle.mdcc_struct.specs.Maps.{union, value_of, TxMap}
use Rattle.mdcc_struct.proofs.Values.{value_of-union}
use Rattle.mdcc_def_protocol.specs.Facts.{current_of, delta_given, deltas_at, deltas_from, executed_of}
use Rattle.mdcc_def_protocol.specs.News.{keys_in}
use Rattle.mdcc_def_messages.specs.declared.facts.Fact.{Fact}
use Rattle.mdcc_theorem_fact_folds.specs.Chains.{is_choice_at, is_delta_in}
use Rattle.mdcc_theorem_fact_folds.specs.Held.{CrowdingByChains, DeltaByWalk, DeltasByWalk, DeltasCounted, DeltasInChain, ExecutedInChain, NextDeltasCounted, delta_by, deltas_walk, first_deltas, next_executed, next_version_of}
use Rattle.mdcc_theorem_fact_folds.specs.New.{new_entries}
use Rattle.mdcc_base.specs.Counts.{sum_over}
use Rattle.mdcc_theorem_fact_folds.proofs.New.{sum-union}
use Rattle.mdcc_theorem_fact_folds.proofs.Chosen.{or_assoc, or_left, or_right}
use Rattle.mdcc_theorem_fact_folds.proofs.Folded.{gathered, gathered-walk}
use Rattle.mdcc_theorem_fact_folds.proofs.Ignored.{left_out}
use Rattle.mdcc_theorem_fact_folds.proofs.Joined.{joined, joined-chain, joined-walk}

no_given : (key : Key) (version : ℕ) (choices : List Choice) → list_any (is_choice_at key version) choices ≡ false → filter_map (delta_given key version) choices ≡ []
no_given key version [] h = refl
no_given key version (c ∷ cs) h =
    elim (cases_Bool (is_choice_at key version c)) [
      | inl here ↦ absurd (let bad : true ≡ false = rw here at h in cc)
      | inr other ↦
          let rest : list_any (is_choice_at key version) cs ≡ false = rw other at h in
          rw other (no_given key version cs rest)
    ]

pub no_deltas : (key : Key) (version : ℕ) (fact : Fact) → is_delta_in key version fact ≡ false → deltas_from key version fact ≡ []
no_deltas key version (Fact.Booted epoch) h = refl
no_deltas key version (Fact.Floor origin era upto) h = refl
no_deltas key version (Fact.Promised k low high b) h = refl
no_deltas key version (Fact.Voted k u b options offered) h = refl
no_deltas key version (Fact.Heard t Outcome.Abort) h = refl
no_deltas key version (Fact.Heard t (Outcome.Commit choices)) h = no_given key version choices h
no_deltas key version (Fact.Adopted k u item adds) h = rw h refl

pub deltas-joined : (key : Key) (version : ℕ) (facts : List Fact) → deltas_at facts key version ≡ joined (deltas_from key version) facts
deltas-joined key version [] = refl
deltas-joined key version (fact ∷ facts) = ap (λ m. union m (deltas_from key version fact)) (deltas-joined key version facts)

pub deltas-chain : DeltasInChain
deltas-chain keep key version covers facts =
    deltas-joined key version facts
    ∙ joined-chain (deltas_from key version) keep (λ fact left. no_deltas key version fact (left_out keep (is_delta_in key version) covers fact left)) facts
    ∙ sym (deltas-joined key version (filter keep facts))

pub deltas-walk : DeltasByWalk
deltas-walk keep key version covers facts =
    deltas-joined key version facts
    ∙ joined-walk (deltas_from key version) keep (λ fact left. no_deltas key version fact (left_out keep (is_delta_in key version) covers fact left)) facts

pub executed-chain : ExecutedInChain
executed-chain keep key facts covers = deltas-chain keep key (current_of facts key) covers facts

-- ---- one delta

delta-gathered : (key : Key) (version : ℕ) (tx : TxId) (facts : List Fact)
    → value_of (deltas_at facts key version) tx ≡ gathered option_or None (λ fact. value_of (deltas_from key version fact) tx) facts
delta-gathered key version tx [] = refl
delta-gathered key version tx (fact ∷ facts) =
    value_of-union (deltas_at facts key version) (deltas_from key version fact) tx
    ∙ ap (λ o. option_or o (value_of (deltas_from key version fact) tx)) (delta-gathered key version tx facts)

pub delta-walk : DeltaByWalk
delta-walk keep key tx facts covers =
    ap (λ o. option_map (delta_by tx) o)
    (delta-gathered key (current_of facts key) tx facts
    ∙ gathered-walk option_or None (λ fact. value_of (deltas_from key (current_of facts key) fact) tx) or_left or_right or_assoc keep
    (λ fact left. ap (λ m. value_of m tx) (no_deltas key (current_of facts key) fact (left_out keep (is_delta_in key (current_of facts key)) covers fact left))) facts)

-- ---- how many deltas

length-sum : {X : Type 0} (xs : List X) → length xs ≡ sum_over (λ x. 1) xs
length-sum [] = refl
length-sum (x ∷ xs) = let ih = length-sum xs in omega (arith, ih)

length-union : {X : Type 0} (m n : TxMap X) → length (union m n) ≡ length m + length (new_entries m n)
length-union {X = X} m n =
    let all = length-sum (union m n) in
    let one = length-sum m in
    let new = length-sum (new_entries m n) in
    let sums = sum-union (λ (e : TxId × X). 1) m n in
    omega (arith, all, one, new, sums)

pub counted-from : (key : Key) (version count : ℕ) (facts : List Fact) → deltas_walk key version count facts ≡ count + length (deltas_at facts key version)
counted-from key version count [] = sym (add-zero count)
counted-from key version count (fact ∷ older) =
    let ih = counted-from key version (count + length (first_deltas older key version fact)) older in
    let more = length-union (deltas_at older key version) (deltas_from key version fact) in
    omega (arith, ih, more)

pub deltas-counted : DeltasCounted
deltas-counted keep key version covers facts =
    ap (λ m. length m) (deltas-chain keep key version covers facts)
    ∙ sym (counted-from key version 0 (filter keep facts) ∙ zero-add (length (deltas_at (filter keep facts) key version)))

pub next-counted : NextDeltasCounted
next-counted chain key version fact = length-union (deltas_at chain key version) (deltas_from key version fact)

-- ---- crowding

any-alike : {X : Type 0} (p q : X → Bool) (xs : List X) → ((x : X) → p x ≡ q x) → list_any p xs ≡ list_any q xs
any-alike p q [] h = refl
any-alike p q (x ∷ xs) h = ap (λ b. b || list_any p xs) (h x) ∙ ap (λ b. q x || b) (any-alike p q xs h)

pub crowding-chains : CrowdingByChains
crowding-chains keep covers facts fact =
    any-alike (λ key. nat_lt 64 (length (executed_of (fact ∷ facts) key)))
    (λ key. nat_lt 64 (length (next_executed (filter (keep key (next_version_of facts key fact)) facts) key (next_version_of facts key fact) fact)))
    (keys_in fact)
    (λ key. ap (λ m. nat_lt 64 (length (union m (deltas_from key (next_version_of facts key fact) fact))))
    (deltas-chain (keep key (next_version_of facts key fact)) key (next_version_of facts key fact) (covers key (next_version_of facts key fact)) facts))
