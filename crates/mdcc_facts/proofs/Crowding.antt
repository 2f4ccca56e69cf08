-- A fact changes the executed deltas of its own keys alone.
use Rattle.std.proofs.Common.{◌≡◌, ℕ, ◌≤◌, Bool, true, false, List, [], ◌∷◌, ◌++◌, length, reverse, refl, sym, ap, ◌∙◌, arith, inl, inr}
use Rattle.std.specs.Prelude.{filter_map, fold, map, max, nat_lt}
use Rattle.std.specs.List.{list_any}
use Rattle.std.proofs.lemmas.Bool.{cases_Bool}
use Rattle.std.proofs.lemmas.Bool.Decides.{nat_tests}
use Rattle.std.proofs.lemmas.List.{reverse-append}
use Rattle.mdcc_base.specs.Key.{key_eq}
use Rattle.mdcc_base.specs.declared.key.Key.{Key}
use Rattle.mdcc_option.proofs.Equal.{Decides-key}
use Rattle.mdcc_option.specs.declared.choices.Choice.{Choice}
use Rattle.mdcc_option.specs.declared.choices.Outcome.{Outcome}
use Rattle.mdcc_def_protocol.specs.Facts.{current_of, delta_given, deltas_from, executed_of, version_from, version_given}
use Rattle.mdcc_def_protocol.specs.News.{is_crowding, keys_in}
use Rattle.mdcc_def_messages.specs.declared.facts.Fact.{Fact}
use Rattle.mdcc_facts.specs.Adding.{MayBeAdded}
use Rattle.mdcc_facts.specs.Listed.{AreListed}

abbrev pub has_key : Key → List Key → Bool
has_key key keys = list_any (λ k. key_eq k key) keys

-- ---- keys of which a fact does not speak

no_version : (choices : List Choice) (key : Key) (version : ℕ) → has_key key (map (λ choice. choice.key) choices) ≡ false
    → fold (λ version choice. max version (version_given key choice)) version choices ≡ version
no_version [] key version h = refl
no_version (c ∷ cs) key version h =
    elim (cases_Bool (key_eq c.key key)) [
      | inl same ↦ absurd (let bad : true ≡ false = rw same at h in cc)
      | inr other ↦
          let rest : has_key key (map (λ choice. choice.key) cs) ≡ false = rw other at h in
          let none : version_given key c ≡ 0 = grind (arith, other) in
          let still : max version 0 ≡ version = omega arith in
          rw (none, still) (no_version cs key version rest)
    ]

no_deltas : (choices : List Choice) (key : Key) (version : ℕ) → has_key key (map (λ choice. choice.key) choices) ≡ false
    → filter_map (delta_given key version) choices ≡ []
no_deltas [] key version h = refl
no_deltas (c ∷ cs) key version h =
    elim (cases_Bool (key_eq c.key key)) [
      | inl same ↦ absurd (let bad : true ≡ false = rw same at h in cc)
      | inr other ↦
          let rest : has_key key (map (λ choice. choice.key) cs) ≡ false = rw other at h in
          let more = no_deltas cs key version rest in
          grind (arith, other, more)
    ]

pub no_version_from : (fact : Fact) (key : Key) → has_key key (keys_in fact) ≡ false → version_from key fact ≡ 0
no_version_from (Fact.Booted epoch) key h = refl
no_version_from (Fact.Floor origin era upto) key h = refl
no_version_from (Fact.Promised k low high ballot) key h = refl
no_version_from (Fact.Voted k version ballot options offered) key h = refl
no_version_from (Fact.Heard tx Outcome.Abort) key h = refl
no_version_from (Fact.Heard tx (Outcome.Commit choices)) key h = no_version choices key 0 h
no_version_from (Fact.Adopted k version item adds) key h =
    elim (cases_Bool (key_eq k key)) [
      | inl same ↦ absurd (let bad : true ≡ false = rw same at h in cc)
      | inr other ↦ rw other refl
    ]

pub no_deltas_from : (fact : Fact) (key : Key) (v : ℕ) → has_key key (keys_in fact) ≡ false → deltas_from key v fact ≡ []
no_deltas_from (Fact.Booted epoch) key v h = refl
no_deltas_from (Fact.Floor origin era upto) key v h = refl
no_deltas_from (Fact.Promised k low high ballot) key v h = refl
no_deltas_from (Fact.Voted k version ballot options offered) key v h = refl
no_deltas_from (Fact.Heard tx Outcome.Abort) key v h = refl
no_deltas_from (Fact.Heard tx (Outcome.Commit choices)) key v h = no_deltas choices key v h
no_deltas_from (Fact.Adopted k version item adds) key v h =
    elim (cases_Bool (key_eq k key)) [
      | inl same ↦ absurd (let bad : true ≡ false = rw same at h in cc)
      | inr other ↦ grind (arith, other)
    ]

-- ---- keys of which it does

named : (test : Key → Bool) (keys : List Key) (key : Key) → list_any test keys ≡ false → has_key key keys ≡ true → test key ≡ false
named test [] key h there = absurd (cc)
named test (k ∷ ks) key h there =
    elim (cases_Bool (test k)) [
      | inl passes ↦ absurd (let bad : true ≡ false = rw passes at h in cc)
      | inr fails ↦ elim (cases_Bool (key_eq k key)) [
        | inl same ↦ ap test (sym ((Decides-key k key).0 same)) ∙ fails
        | inr other ↦ named test ks key (rw fails at h) (rw other at there)
      ]
    ]

within : (n : ℕ) → nat_lt 64 n ≡ false → n ≤ 64
within n h = grind (arith, nat_tests)

-- where no key is crowded, each stays within 64
pub few_added : (facts : List Fact) (fact : Fact) → is_crowding facts fact ≡ false → ((key : Key) → length (executed_of facts key) ≤ 64)
    → (key : Key) → length (executed_of (fact ∷ facts) key) ≤ 64
few_added facts fact free few key =
    elim (cases_Bool (has_key key (keys_in fact))) [
      | inl there ↦ within _ (named (λ k. nat_lt 64 (length (executed_of (fact ∷ facts) k))) (keys_in fact) key free there)
      | inr apart ↦
          let still : max (current_of facts key) 0 ≡ current_of facts key = omega arith in
          rw (no_version_from fact key apart, still, no_deltas_from fact key (current_of facts key) apart) (few key)
    ]

-- ---- the list of facts

pub listed_added : (items facts : List Fact) (fact : Fact) → AreListed items facts → MayBeAdded facts fact → is_crowding (reverse items) fact ≡ false
    → AreListed (items ++ fact ∷ []) (fact ∷ facts)
listed_added items facts fact h new free = record {
  newest_first = sym (reverse-append items (fact ∷ []) ∙ ap (λ xs. fact ∷ xs) (sym h.newest_first));
  few = few_added facts fact (rw h.newest_first free) h.few;
  once = rw (new.voted, h.once) refl;
  no_floor = rw new.no_floor h.no_floor;
}
