-- At most 64 deltas of the version that is held are executed, where facts were allowed in turn.
use Rattle.std.proofs.Common.{◌≡◌, ℕ, ◌==◌, ◌&&◌, ◌||◌, ◌≤◌, Bool, true, false, List, [], ◌∷◌, length, refl, ap, sym, ◌∙◌, inl, inr, subst, None, fold, filter_map, map, max, not, nat_lt, arith}
use Rattle.std.specs.List.{list_any}
use Rattle.std.specs.Prelude.{option_map}
use Rattle.std.proofs.lemmas.Bool.{and_parts, and_right, cases_Bool, cond-false, ltb-false, not-true, or_parts}
use Rattle.mdcc_base.specs.Key.{key_eq}
use Rattle.mdcc_base.specs.declared.key.Key.{Key}
use Rattle.mdcc_option.proofs.Equal.{Decides-key}
use Rattle.mdcc_option.specs.OneCopy.{next_version}
use Rattle.mdcc_option.specs.declared.choices.Choice.{Choice}
use Rattle.mdcc_option.specs.declared.choices.Outcome.{Outcome}
use Rattle.mdcc_option.specs.declared.cluster.Cluster.{Cluster}
use Rattle.mdcc_struct.specs.Maps.{TxMap, union}
use Rattle.mdcc_def_ledger.specs.BootTest.{are_allowed_facts, is_allowed_fact, is_allowed_kind}
use Rattle.mdcc_def_ledger.specs.AllowedFacts.{is_booted}
use Rattle.mdcc_def_protocol.specs.Belongs.{fact_belongs}
use Rattle.mdcc_def_protocol.specs.Facts.{amounts_added, current_of, delta_given, deltas_at, deltas_from, epoch_of, executed_of, is_heard, version_from, version_given, is_finished}
use Rattle.mdcc_def_protocol.specs.Marks.{Amounts, is_write}
use Rattle.mdcc_def_protocol.specs.News.{is_crowding, is_news, keys_in}
use Rattle.mdcc_def_messages.specs.declared.facts.Fact.{Fact}

-- a test that no item passes fails at a key that is among them
touched : (test : Key → Bool) (key : Key) (keys : List Key) → list_any (λ k. key_eq k key) keys ≡ true → list_any test keys ≡ false → test key ≡ false
touched test key [] h none = absurd (cc)
touched test key (k ∷ ks) h none =
    let apart = or_parts (test k) (list_any test ks) none in
    elim (cases_Bool (key_eq k key)) [
      | inl e ↦ subst (λ z. test z ≡ false) ((Decides-key k key).0 e) apart.0
      | inr e ↦ let rest : list_any (λ k. key_eq k key) ks ≡ true = rw e at h in touched test key ks rest apart.1
    ]

-- ---- a fact changes only the keys that it names

versions-same : (key : Key) (choices : List Choice) (version : ℕ) → list_any (λ k. key_eq k key) (map (λ choice. choice.key) choices) ≡ false
    → fold (λ version choice. max version (version_given key choice)) version choices ≡ version
versions-same key [] version h = refl
versions-same key (choice ∷ choices) version h =
    let apart = or_parts (key_eq choice.key key) (list_any (λ k. key_eq k key) (map (λ choice. choice.key) choices)) h in
    let none : version_given key choice ≡ 0 = cond-false (is_write choice.update && key_eq choice.key key) (next_version choice.version) 0 (and_right (is_write choice.update) (key_eq choice.key key) apart.0) in
    rw none (versions-same key choices (max version 0) apart.1 ∙ omega arith)

deltas-same : (key : Key) (version : ℕ) (choices : List Choice) → list_any (λ k. key_eq k key) (map (λ choice. choice.key) choices) ≡ false
    → filter_map (delta_given key version) choices ≡ []
deltas-same key version [] h = refl
deltas-same key version (choice ∷ choices) h =
    let apart = or_parts (key_eq choice.key key) (list_any (λ k. key_eq k key) (map (λ choice. choice.key) choices)) h in
    let none : delta_given key version choice ≡ None =
    cond-false (choice.version == version && key_eq choice.key key) (option_map (λ amounts. (choice.tx, amounts)) (amounts_added choice.update)) None (and_right (choice.version == version) (key_eq choice.key key) apart.0) in
    rw none (deltas-same key version choices apart.1)

no-version : (key : Key) (fact : Fact) → list_any (λ k. key_eq k key) (keys_in fact) ≡ false → version_from key fact ≡ 0
no-version key (Fact.Heard tx (Outcome.Commit choices)) h = versions-same key choices 0 h
no-version key (Fact.Heard tx Outcome.Abort) h = refl
no-version key (Fact.Adopted key' version item adds) h = cond-false (key_eq key' key) version 0 (or_parts (key_eq key' key) false h).0
no-version key (Fact.Booted epoch) h = refl
no-version key (Fact.Floor origin era upto) h = refl
no-version key (Fact.Promised key' low high ballot) h = refl
no-version key (Fact.Voted key' version ballot options offered) h = refl

no-deltas : (key : Key) (version : ℕ) (fact : Fact) → list_any (λ k. key_eq k key) (keys_in fact) ≡ false → deltas_from key version fact ≡ []
no-deltas key version (Fact.Heard tx (Outcome.Commit choices)) h = deltas-same key version choices h
no-deltas key version (Fact.Heard tx Outcome.Abort) h = refl
no-deltas key version (Fact.Adopted key' version' item adds) h =
    cond-false (version' == version && key_eq key' key) (map (λ delta. (delta.tx, delta.amounts)) adds) [] (and_right (version' == version) (key_eq key' key) (or_parts (key_eq key' key) false h).0)
no-deltas key version (Fact.Booted epoch) h = refl
no-deltas key version (Fact.Floor origin era upto) h = refl
no-deltas key version (Fact.Promised key' low high ballot) h = refl
no-deltas key version (Fact.Voted key' version' ballot options offered) h = refl

executed-same : (facts : List Fact) (fact : Fact) (key : Key) → list_any (λ k. key_eq k key) (keys_in fact) ≡ false → executed_of (fact ∷ facts) key ≡ executed_of facts key
executed-same facts fact key h =
    let same : current_of (fact ∷ facts) key ≡ current_of facts key = rw (no-version key fact h) (omega arith) in
    ap (λ v. deltas_at (fact ∷ facts) key v) same ∙ ap (λ (m : TxMap Amounts). union (deltas_at facts key (current_of facts key)) m) (no-deltas key (current_of facts key) fact h)

-- ---- what is allowed crowds nothing

kind-roomy : (cluster : Cluster) (facts : List Fact) (fact : Fact) → is_allowed_kind cluster facts fact ≡ true → is_crowding facts fact ≡ false
kind-roomy cluster facts (Fact.Booted epoch) h = refl
kind-roomy cluster facts (Fact.Floor origin era upto) h = refl
kind-roomy cluster facts (Fact.Promised key low high ballot) h = refl
kind-roomy cluster facts (Fact.Voted key version ballot options offered) h = refl
kind-roomy cluster facts (Fact.Heard tx outcome) h =
    not-true (is_crowding facts (Fact.Heard tx outcome)) (and_parts (not (is_heard facts tx) && not (is_finished facts tx)) (not (is_crowding facts (Fact.Heard tx outcome))) h).1
kind-roomy cluster facts (Fact.Adopted key version item adds) h =
    not-true (is_crowding facts (Fact.Adopted key version item adds)) (and_parts (is_news facts key version adds) (not (is_crowding facts (Fact.Adopted key version item adds))) h).1

pub allowed-roomy : (cluster : Cluster) (facts : List Fact) (fact : Fact) → is_allowed_fact cluster facts fact ≡ true → is_crowding facts fact ≡ false
allowed-roomy cluster facts fact h =
    kind-roomy cluster facts fact (and_parts (fact_belongs cluster fact && (is_booted fact || nat_lt 0 (epoch_of facts))) (is_allowed_kind cluster facts fact) h).1

pub executed-few : (cluster : Cluster) (facts : List Fact) (key : Key) → are_allowed_facts cluster facts ≡ true → length (executed_of facts key) ≤ 64
executed-few cluster [] key h = omega arith
executed-few cluster (fact ∷ facts) key h =
    let both = and_parts (are_allowed_facts cluster facts) (is_allowed_fact cluster facts fact) h in
    elim (cases_Bool (list_any (λ k. key_eq k key) (keys_in fact))) [
      | inl e ↦ ltb-false 64 (length (executed_of (fact ∷ facts) key))
          (touched (λ k. nat_lt 64 (length (executed_of (fact ∷ facts) k))) key (keys_in fact) e (allowed-roomy cluster facts fact both.1))
      | inr e ↦ subst (λ (m : TxMap Amounts). length m ≤ 64) (sym (executed-same facts fact key e)) (executed-few cluster facts key both.0)
    ]
