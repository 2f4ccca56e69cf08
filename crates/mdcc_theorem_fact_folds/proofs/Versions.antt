-- The fact that gives a key its highest version gives the base of it, and none gives a base above.
use Rattle.std.proofs.Common.{◌≡◌, ℕ, ◌<◌, ◌≤◌, Bool, true, false, List, [], ◌∷◌, Option, Some, None, is_some, refl, sym, ap, ◌∙◌, arith, inl, inr, fold, max}
use Rattle.std.specs.List.{list_any}
use Rattle.std.specs.Option.{option_or}
use Rattle.std.specs.Prelude.{filter, if◌then◌else◌, nat_lt, ◌&&◌, ◌==◌}
use Rattle.std.proofs.lemmas.Bool.{and_parts, cases_Bool, eqb-true}
use Rattle.std.proofs.lemmas.Bool.Decides.{nat_tests}
use Rattle.mdcc_base.specs.Key.{key_eq}
use Rattle.mdcc_base.specs.declared.key.Key.{Key}
use Rattle.mdcc_option.specs.OneCopy.{next_version}
use Rattle.mdcc_option.specs.declared.choices.Choice.{Choice}
use Rattle.mdcc_option.specs.declared.choices.Outcome.{Outcome}
use Rattle.mdcc_option.specs.declared.items.Item.{Item}
use Rattle.mdcc_option.specs.declared.items.Update.{Update}
use Rattle.mdcc_def_protocol.specs.Facts.{base_at, base_from, base_given, base_of, current_of, version_from, version_given}
use Rattle.mdcc_def_messages.specs.declared.facts.Fact.{Fact}
use Rattle.mdcc_theorem_fact_folds.specs.Chains.{is_version_of}
use Rattle.mdcc_theorem_fact_folds.specs.Held.{HeldElsewhere, HeldInChain, HeldUpdates, next_version_and_base, version_and_base}
use Rattle.mdcc_theorem_fact_folds.proofs.Folded.{answered, answered-chain}
use Rattle.mdcc_theorem_fact_folds.proofs.Ignored.{left_out}

abbrev higher : Key → ℕ → Choice → ℕ
higher key version choice = max version (version_given key choice)

abbrev first_base : Key → ℕ → Option Item → Choice → Option Item
first_base key version base choice = option_or base (base_given key version choice)

-- ---- no base above

no_base_given : (key : Key) (v : ℕ) (c : Choice) → version_given key c < v → base_given key v c ≡ None
no_base_given key v c h = by (next_version c.version == v && key_eq c.key key) refl c.update refl
  where
    by : (test : Bool) → (next_version c.version == v && key_eq c.key key) ≡ test → (u : Update) → c.update ≡ u → base_given key v c ≡ None
    by false is u at = rw is refl
    by true is (Update.Add amounts) at = rw (is, at) refl
    by true is (Update.Write item seen) at =
        let parts = and_parts (next_version c.version == v) (key_eq c.key key) is in
        let same : next_version c.version ≡ v = eqb-true (next_version c.version) v parts.0 in
        let given : next_version c.version < v = rw (at, parts.1) at h in
        absurd (omega arith)

fold_le : (key : Key) (a : ℕ) (choices : List Choice) → a ≤ fold (higher key) a choices
fold_le key a [] = omega arith
fold_le key a (c ∷ cs) = let ih = fold_le key (max a (version_given key c)) cs in omega (arith, ih)

no_base_in : (key : Key) (v a : ℕ) (choices : List Choice) → fold (higher key) a choices < v → fold (first_base key v) None choices ≡ None
no_base_in key v a [] h = refl
no_base_in key v a (c ∷ cs) h =
    let up = fold_le key (max a (version_given key c)) cs in
    let none : base_given key v c ≡ None = no_base_given key v c (omega (arith, up, h)) in
    ap (λ base. fold (first_base key v) base cs) none ∙ no_base_in key v (max a (version_given key c)) cs h

no_base_from : (key : Key) (v : ℕ) (fact : Fact) → version_from key fact < v → base_from key v fact ≡ None
no_base_from key v (Fact.Booted epoch) h = refl
no_base_from key v (Fact.Floor origin era upto) h = refl
no_base_from key v (Fact.Promised k low high b) h = refl
no_base_from key v (Fact.Voted k u b options offered) h = refl
no_base_from key v (Fact.Heard t Outcome.Abort) h = refl
no_base_from key v (Fact.Heard t (Outcome.Commit choices)) h = no_base_in key v 0 choices h
no_base_from key v (Fact.Adopted k u item adds) h = by (u == v && key_eq k key) refl
  where
    by : (test : Bool) → (u == v && key_eq k key) ≡ test → base_from key v (Fact.Adopted k u item adds) ≡ None
    by false is = rw is refl
    by true is =
        let parts = and_parts (u == v) (key_eq k key) is in
        let same : u ≡ v = eqb-true u v parts.0 in
        let given : u < v = rw parts.1 at h in
        absurd (omega arith)

base-above : (key : Key) (v : ℕ) (facts : List Fact) → current_of facts key < v → base_at facts key v ≡ None
base-above key v [] h = refl
base-above key v (fact ∷ facts) h =
    rw (base-above key v facts (omega (arith, h)), no_base_from key v fact (omega (arith, h))) refl

-- ---- the base of the highest version

some-or : {X : Type 0} (a b : Option X) → is_some b ≡ true → is_some (option_or a b) ≡ true
some-or None b h = h
some-or (Some a) b h = refl

some-more : {X : Type 0} (a b : Option X) → is_some a ≡ true → is_some (option_or a b) ≡ true
some-more None b h = absurd (cc)
some-more (Some a) b h = refl

base_given-there : (key : Key) (v : ℕ) (c : Choice) → 0 < v → version_given key c ≡ v → is_some (base_given key v c) ≡ true
base_given-there key v c up h = by c.update refl (key_eq c.key key) refl
  where
    eq_self : (n : ℕ) → (n == n) ≡ true
    eq_self n = grind (arith, nat_tests)

    by : (u : Update) → c.update ≡ u → (test : Bool) → key_eq c.key key ≡ test → is_some (base_given key v c) ≡ true
    by (Update.Add amounts) at test is = let none : 0 ≡ v = rw at at h in absurd (omega arith)
    by (Update.Write item seen) at false is = let none : 0 ≡ v = rw (at, is) at h in absurd (omega arith)
    by (Update.Write item seen) at true is =
        let same : next_version c.version ≡ v = rw (at, is) at h in
        rw (same, eq_self v, is, at) refl

base_in-there : (key : Key) (v a : ℕ) (base : Option Item) (choices : List Choice) → 0 < v → (a ≡ v → is_some base ≡ true)
    → fold (higher key) a choices ≡ v → is_some (fold (first_base key v) base choices) ≡ true
base_in-there key v a base [] up there h = there h
base_in-there key v a base (c ∷ cs) up there h =
    base_in-there key v (max a (version_given key c)) (option_or base (base_given key v c)) cs up
    (λ is. elim (cases_Bool (a == v)) [
      | inl same ↦ some-more base (base_given key v c) (there (eqb-true a v same))
      | inr other ↦ some-or base (base_given key v c) (base_given-there key v c up (grind (arith, nat_tests, is, other)))
    ]) h

base_from-there : (key : Key) (v : ℕ) (fact : Fact) → 0 < v → version_from key fact ≡ v → is_some (base_from key v fact) ≡ true
base_from-there key v (Fact.Booted epoch) up h = absurd (omega (arith, h))
base_from-there key v (Fact.Floor origin era upto) up h = absurd (omega (arith, h))
base_from-there key v (Fact.Promised k low high b) up h = absurd (omega (arith, h))
base_from-there key v (Fact.Voted k u b options offered) up h = absurd (omega (arith, h))
base_from-there key v (Fact.Heard t Outcome.Abort) up h = absurd (omega (arith, h))
base_from-there key v (Fact.Heard t (Outcome.Commit choices)) up h = base_in-there key v 0 None choices up (λ is. absurd (omega (arith, is))) h
base_from-there key v (Fact.Adopted k u item adds) up h =
    elim (cases_Bool (key_eq k key)) [
      | inl same ↦ let is : u ≡ v = rw same at h in rw (is, same, eq_self v) refl
      | inr other ↦ let none : 0 ≡ v = rw other at h in absurd (omega arith)
    ]
  where
    eq_self : (n : ℕ) → (n == n) ≡ true
    eq_self n = grind (arith, nat_tests)

base-there : (key : Key) (v : ℕ) (facts : List Fact) → 0 < v → current_of facts key ≡ v → is_some (base_at facts key v) ≡ true
base-there key v [] up h = absurd (omega (arith, h))
base-there key v (fact ∷ facts) up h =
    elim (cases_Bool (current_of facts key == v)) [
      | inl same ↦ some-more (base_at facts key v) (base_from key v fact) (base-there key v facts up (eqb-true (current_of facts key) v same))
      | inr other ↦ some-or (base_at facts key v) (base_from key v fact) (base_from-there key v fact up (grind (arith, nat_tests, h, other)))
    ]

-- ---- one more fact

or-some : {X : Type 0} (a b : Option X) → is_some a ≡ true → option_or a b ≡ a
or-some None b h = absurd (cc)
or-some (Some a) b h = refl

abbrev base_if : ℕ → Option Item → Option Item
base_if version base = if version == 0 then None else base

next_version_is : (c v : ℕ) → nat_lt c v ≡ false → max c v ≡ c
next_version_is c v h = grind (arith, nat_tests)

raised : (c v : ℕ) → nat_lt c v ≡ true → max c v ≡ v
raised c v h = grind (arith, nat_tests)

lt_is : (c v : ℕ) → nat_lt c v ≡ true → c < v
lt_is c v h = grind (arith, nat_tests)

not_zero : (c v : ℕ) → c < v → (v == 0) ≡ false
not_zero c v h = grind (arith, nat_tests)

above_zero : (c : ℕ) → (c == 0) ≡ false → 0 < c
above_zero c h = grind (arith, nat_tests)

module _ (key : Key) (facts : List Fact) (fact : Fact) where
  abbrev c : ℕ
  c = current_of facts key

  abbrev v : ℕ
  v = version_from key fact

  base-raised : nat_lt c v ≡ true → base_if (max c v) (option_or (base_at facts key (max c v)) (base_from key (max c v) fact)) ≡ base_from key v fact
  base-raised up =
      rw (raised c v up, not_zero c v (lt_is c v up), base-above key v facts (lt_is c v up)) refl

  base-same : nat_lt c v ≡ false → base_if (max c v) (option_or (base_at facts key (max c v)) (base_from key (max c v) fact)) ≡ base_of facts key
  base-same low =
      rw (next_version_is c v low)
      (elim (cases_Bool (c == 0)) [
        | inl none ↦ rw none refl
        | inr some ↦ rw some (or-some (base_at facts key c) (base_from key c fact) (base-there key c facts (above_zero c some) refl))
      ])

  held-more : version_and_base (fact ∷ facts) key ≡ next_version_and_base key fact (version_and_base facts key)
  held-more =
      elim (cases_Bool (nat_lt c v)) [
        | inl up ↦ ap (λ b. (max c v, b)) (base-raised up) ∙ ap (λ n. (n, base_from key v fact)) (raised c v up) ∙ rw up refl
        | inr low ↦ ap (λ b. (max c v, b)) (base-same low) ∙ ap (λ n. (n, base_of facts key)) (next_version_is c v low) ∙ rw low refl
      ]

pub held-updates : HeldUpdates
held-updates key facts fact = held-more key facts fact

-- ---- facts of other keys

no_version_given : (key : Key) (a : ℕ) (choices : List Choice) → list_any (λ choice. key_eq choice.key key) choices ≡ false → fold (higher key) a choices ≡ a
no_version_given key a [] h = refl
no_version_given key a (c ∷ cs) h =
    elim (cases_Bool (key_eq c.key key)) [
      | inl same ↦ absurd (let bad : true ≡ false = rw same at h in cc)
      | inr other ↦
          let rest : list_any (λ choice. key_eq choice.key key) cs ≡ false = rw other at h in
          let none : version_given key c ≡ 0 = grind (arith, other) in
          let still : max a 0 ≡ a = omega arith in
          rw (none, still) (no_version_given key a cs rest)
    ]

pub no_version : (key : Key) (fact : Fact) → is_version_of key fact ≡ false → version_from key fact ≡ 0
no_version key (Fact.Booted epoch) h = refl
no_version key (Fact.Floor origin era upto) h = refl
no_version key (Fact.Promised k low high b) h = refl
no_version key (Fact.Voted k u b options offered) h = refl
no_version key (Fact.Heard t Outcome.Abort) h = refl
no_version key (Fact.Heard t (Outcome.Commit choices)) h = no_version_given key 0 choices h
no_version key (Fact.Adopted k u item adds) h = rw h refl

next_held-same : (key : Key) (fact : Fact) (held : ℕ × Option Item) → is_version_of key fact ≡ false → next_version_and_base key fact held ≡ held
next_held-same key fact held h = rw (no_version key fact h, not_lt_zero held.0) refl
  where
    not_lt_zero : (n : ℕ) → nat_lt n 0 ≡ false
    not_lt_zero n = grind (arith, nat_tests)

pub held-elsewhere : HeldElsewhere
held-elsewhere key facts fact h = held-updates key facts fact ∙ next_held-same key fact (version_and_base facts key) h

held-answered : (key : Key) (facts : List Fact) → version_and_base facts key ≡ answered (λ held fact. next_version_and_base key fact held) (0, None) facts
held-answered key [] = refl
held-answered key (fact ∷ facts) = held-updates key facts fact ∙ ap (next_version_and_base key fact) (held-answered key facts)

pub held-chain : HeldInChain
held-chain keep key covers facts =
    held-answered key facts
    ∙ answered-chain (λ held fact. next_version_and_base key fact held) (0, None) keep
    (λ held fact left. next_held-same key fact held (left_out keep (is_version_of key) covers fact left)) facts
    ∙ sym (held-answered key (filter keep facts))
