-- The version held of a key, its base and its deltas are given by facts that are left.
use Rattle.std.proofs.Common.{◌≡◌, ◌==◌, ◌&&◌, ◌<◌, ◌≤◌, ℕ, Bool, true, false, List, [], ◌∷◌, Option, None, refl, sym, ap, ◌∙◌, inl, inr, arith, fold, filter_map, length, max}
use Rattle.std.proofs.Math.Path.{fun_ext}
use Rattle.std.specs.List.{list_any}
use Rattle.std.specs.Option.{option_map, option_or}
use Rattle.std.specs.Prelude.{if◌then◌else◌, nat_le, nat_lt}
use Rattle.std.proofs.lemmas.Bool.{and_parts, cases_Bool, eqb-true}
use Rattle.std.proofs.lemmas.Bool.Decides.{nat_tests}
use Rattle.mdcc_base.specs.Key.{key_eq}
use Rattle.mdcc_base.specs.declared.identifiers.TxId.{TxId}
use Rattle.mdcc_base.specs.declared.key.Key.{Key}
use Rattle.mdcc_option.proofs.Equal.{Decides-key}
use Rattle.mdcc_option.specs.OneCopy.{next_version}
use Rattle.mdcc_option.specs.declared.choices.Choice.{Choice}
use Rattle.mdcc_option.specs.declared.choices.Outcome.{Outcome}
use Rattle.mdcc_option.specs.declared.items.Item.{Item}
use Rattle.mdcc_option.specs.declared.items.Token.{Token}
use Rattle.mdcc_option.specs.declared.items.Update.{Update}
use Rattle.mdcc_struct.specs.Maps.{TxMap, txs_of, union, value_of}
use Rattle.mdcc_def_messages.specs.declared.facts.Fact.{Fact}
use Rattle.mdcc_def_protocol.specs.Facts.{base_at, base_from, base_given, current_of, delta_given, deltas_at, deltas_from, executed_of, is_finished, is_needed, version_from, version_given}
use Rattle.mdcc_def_protocol.specs.Marks.{Amounts}
use Rattle.mdcc_def_protocol.specs.News.{keys_in}
use Rattle.mdcc_theorem_fact_folds.proofs.Chosen.{or_right}
use Rattle.mdcc_theorem_fact_folds.proofs.Deltas.{deltas-joined}
use Rattle.mdcc_theorem_fact_folds.proofs.Folded.{gathered}
use Rattle.mdcc_theorem_fact_folds.proofs.Joined.{joined}
use Rattle.mdcc_theorem_fact_folds.specs.Held.{delta_by}
use Rattle.mdcc_given_back.specs.Rest.{bare, is_bared, is_dropped}
use Rattle.mdcc_given_back.specs.Versions.{BaseStays, CrowdingStays, CurrentStays, DeltaStays, DeltasStay, ExecutedStays, ForgottenStays, TokenStays}
use Rattle.mdcc_given_back.proofs.Alike.{rest-says}
use Rattle.mdcc_given_back.proofs.FirstHeard.{IsFirst, first-heard, unneeded-choices}
use Rattle.mdcc_given_back.proofs.FloorsLeft.{finished-stays}
use Rattle.mdcc_given_back.proofs.Highest.{greatest, greatest-alike, lower-apart, zero-apart}

-- ---- an instance, by the tests of it

key-is : (k key : Key) → key_eq k key ≡ true → k ≡ key
key-is k key h = (Decides-key k key).0 h

-- ---- a choice that is not needed gives no version, base or delta that is held

module _ (all : List Fact) (key : Key) where
  abbrev here : Choice → Bool
  here c = key_eq c.key key

  needed-write : (c : Choice) (item : Item) (seen : List TxId) → c.update ≡ Update.Write item seen → key_eq c.key key ≡ true
      → is_needed all c ≡ (next_version c.version == current_of all key)
  needed-write c item seen at same = rw at (ap (λ k. next_version c.version == current_of all k) (key-is c.key key same))

  needed-add : (c : Choice) (amounts : Amounts) → c.update ≡ Update.Add amounts → key_eq c.key key ≡ true
      → is_needed all c ≡ nat_le (current_of all key) c.version
  needed-add c amounts at same = rw at (ap (λ k. nat_le (current_of all k) c.version) (key-is c.key key same))

  version-apart : (c : Choice) → is_needed all c ≡ false → 0 < current_of all key → (version_given key c == current_of all key) ≡ false
  version-apart c h up = by c.update refl (key_eq c.key key) refl
    where
      by : (u : Update) → c.update ≡ u → (same : Bool) → key_eq c.key key ≡ same → (version_given key c == current_of all key) ≡ false
      by (Update.Add amounts) at same is = rw at (zero-apart (current_of all key) up)
      by (Update.Write item seen) at false is = rw (at, is) (zero-apart (current_of all key) up)
      by (Update.Write item seen) at true is = rw (at, is) (sym (needed-write c item seen at is) ∙ h)

  max-apart : (a n top : ℕ) → (a == top) ≡ false → (n == top) ≡ false → (max a n == top) ≡ false
  max-apart a n top h k = grind (arith, nat_tests, h, k)

  versions-apart : (choices : List Choice) (a : ℕ) → list_any (is_needed all) choices ≡ false → 0 < current_of all key → (a == current_of all key) ≡ false
      → (fold (λ version choice. max version (version_given key choice)) a choices == current_of all key) ≡ false
  versions-apart [] a h up apart = apart
  versions-apart (c ∷ cs) a h up apart = elim (cases_Bool (is_needed all c)) [
    | inl needed ↦ absurd (let bad : true ≡ false = rw needed at h in cc)
    | inr not_needed ↦
        let others : list_any (is_needed all) cs ≡ false = rw not_needed at h in
        versions-apart cs (max a (version_given key c)) others up
        (max-apart a (version_given key c) (current_of all key) apart (version-apart c not_needed up))
  ]

  eq-self : (n : ℕ) → (n == n) ≡ true
  eq-self n = grind (arith, nat_tests)

  no-base : (c : Choice) → is_needed all c ≡ false → base_given key (current_of all key) c ≡ None
  no-base c h = by (next_version c.version == current_of all key && key_eq c.key key) refl c.update refl
    where
      by : (test : Bool) → (next_version c.version == current_of all key && key_eq c.key key) ≡ test → (u : Update) → c.update ≡ u
          → base_given key (current_of all key) c ≡ None
      by false is u at = rw is refl
      by true is (Update.Add amounts) at = rw (is, at) refl
      by true is (Update.Write item seen) at =
          let parts = and_parts (next_version c.version == current_of all key) (key_eq c.key key) is in
          absurd (let bad : true ≡ false = sym parts.0 ∙ sym (needed-write c item seen at parts.1) ∙ h in cc)

  no-bases : (choices : List Choice) → list_any (is_needed all) choices ≡ false
      → fold (λ base choice. option_or base (base_given key (current_of all key) choice)) None choices ≡ None
  no-bases [] h = refl
  no-bases (c ∷ cs) h = elim (cases_Bool (is_needed all c)) [
    | inl needed ↦ absurd (let bad : true ≡ false = rw needed at h in cc)
    | inr not_needed ↦
        let others : list_any (is_needed all) cs ≡ false = rw not_needed at h in
        ap (λ base. fold (λ base choice. option_or base (base_given key (current_of all key) choice)) base cs) (no-base c not_needed) ∙ no-bases cs others
  ]

  not-below : (n v : ℕ) → n ≤ v → nat_le n v ≡ true
  not-below n v h = grind (arith, nat_tests, h)

  pub no-delta : (version : ℕ) (c : Choice) → current_of all key ≤ version → is_needed all c ≡ false → delta_given key version c ≡ None
  no-delta version c up h = by (c.version == version && key_eq c.key key) refl c.update refl
    where
      by : (test : Bool) → (c.version == version && key_eq c.key key) ≡ test → (u : Update) → c.update ≡ u → delta_given key version c ≡ None
      by false is u at = rw is refl
      by true is (Update.Write item seen) at = rw (is, at) refl
      by true is (Update.Add amounts) at =
          let parts = and_parts (c.version == version) (key_eq c.key key) is in
          let over : nat_le (current_of all key) c.version ≡ true =
          ap (nat_le (current_of all key)) (eqb-true c.version version parts.0) ∙ not-below (current_of all key) version up in
          absurd (let bad : true ≡ false = sym over ∙ sym (needed-add c amounts at parts.1) ∙ h in cc)

  no-deltas : (version : ℕ) (choices : List Choice) → current_of all key ≤ version → list_any (is_needed all) choices ≡ false
      → filter_map (delta_given key version) choices ≡ []
  no-deltas version [] up h = refl
  no-deltas version (c ∷ cs) up h = elim (cases_Bool (is_needed all c)) [
    | inl needed ↦ absurd (let bad : true ≡ false = rw needed at h in cc)
    | inr not_needed ↦
        let others : list_any (is_needed all) cs ≡ false = rw not_needed at h in
        rw (no-delta version c up not_needed) (no-deltas version cs up others)
  ]

  -- ---- the version held

  lower : (fact : Fact) → IsFirst all fact → is_dropped all fact ≡ true → 0 < current_of all key → (version_from key fact == current_of all key) ≡ false
  lower (Fact.Booted k) p h up = zero-apart (current_of all key) up
  lower (Fact.Promised k low high b) p h up = zero-apart (current_of all key) up
  lower (Fact.Voted k v b options offered) p h up = zero-apart (current_of all key) up
  lower (Fact.Floor c e n) p h up = zero-apart (current_of all key) up
  lower (Fact.Heard tx Outcome.Abort) p h up = zero-apart (current_of all key) up
  lower (Fact.Heard tx (Outcome.Commit choices)) p h up =
      versions-apart choices 0 (unneeded-choices all tx choices h p) up (zero-apart (current_of all key) up)
  lower (Fact.Adopted k v item adds) p h up = elim (cases_Bool (key_eq k key)) [
    | inr other ↦ rw other (zero-apart (current_of all key) up)
    | inl same ↦
        let low : nat_lt v (current_of all key) ≡ true = ap (λ z. nat_lt v (current_of all z)) (sym (key-is k key same)) ∙ h in
        rw same (lower-apart v (current_of all key) low)
  ]

  same-version : (fact : Fact) → version_from key (bare fact) ≡ version_from key fact
  same-version (Fact.Booted k) = refl
  same-version (Fact.Promised k low high b) = refl
  same-version (Fact.Voted k v b options offered) = refl
  same-version (Fact.Heard tx outcome) = refl
  same-version (Fact.Adopted k v item adds) = refl
  same-version (Fact.Floor c e n) = refl

  -- ---- its base

  base-dropped : (fact : Fact) → IsFirst all fact → is_dropped all fact ≡ true → base_from key (current_of all key) fact ≡ None
  base-dropped (Fact.Booted k) p h = refl
  base-dropped (Fact.Promised k low high b) p h = refl
  base-dropped (Fact.Voted k v b options offered) p h = refl
  base-dropped (Fact.Floor c e n) p h = refl
  base-dropped (Fact.Heard tx Outcome.Abort) p h = refl
  base-dropped (Fact.Heard tx (Outcome.Commit choices)) p h = no-bases choices (unneeded-choices all tx choices h p)
  base-dropped (Fact.Adopted k v item adds) p h = by (v == current_of all key && key_eq k key) refl
    where
      by : (test : Bool) → (v == current_of all key && key_eq k key) ≡ test → base_from key (current_of all key) (Fact.Adopted k v item adds) ≡ None
      by false is = rw is refl
      by true is =
          let parts = and_parts (v == current_of all key) (key_eq k key) is in
          let low : nat_lt v (current_of all key) ≡ true = ap (λ z. nat_lt v (current_of all z)) (sym (key-is k key parts.1)) ∙ h in
          absurd (let bad : true ≡ false = sym parts.0 ∙ lower-apart v (current_of all key) low in cc)

  same-base : (version : ℕ) (fact : Fact) → IsFirst all fact → is_bared all fact ≡ true → base_from key version (bare fact) ≡ base_from key version fact
  same-base version (Fact.Booted k) p h = refl
  same-base version (Fact.Promised k low high b) p h = refl
  same-base version (Fact.Voted k v b options offered) p h = refl
  same-base version (Fact.Heard tx outcome) p h = refl
  same-base version (Fact.Adopted k v item adds) p h = refl
  same-base version (Fact.Floor c e n) p h = refl

  -- ---- deltas

  apart-above : (v version top : ℕ) → nat_lt v top ≡ true → top ≤ version → (v == version) ≡ false
  apart-above v version top h up = grind (arith, nat_tests, h, up)

  pub deltas-dropped : (version : ℕ) → current_of all key ≤ version → (fact : Fact) → IsFirst all fact → is_dropped all fact ≡ true
      → deltas_from key version fact ≡ []
  deltas-dropped version up (Fact.Booted k) p h = refl
  deltas-dropped version up (Fact.Promised k low high b) p h = refl
  deltas-dropped version up (Fact.Voted k v b options offered) p h = refl
  deltas-dropped version up (Fact.Floor c e n) p h = refl
  deltas-dropped version up (Fact.Heard tx Outcome.Abort) p h = refl
  deltas-dropped version up (Fact.Heard tx (Outcome.Commit choices)) p h = no-deltas version choices up (unneeded-choices all tx choices h p)
  deltas-dropped version up (Fact.Adopted k v item adds) p h = by (v == version && key_eq k key) refl
    where
      by : (test : Bool) → (v == version && key_eq k key) ≡ test → deltas_from key version (Fact.Adopted k v item adds) ≡ []
      by false is = rw is refl
      by true is =
          let parts = and_parts (v == version) (key_eq k key) is in
          let low : nat_lt v (current_of all key) ≡ true = ap (λ z. nat_lt v (current_of all z)) (sym (key-is k key parts.1)) ∙ h in
          absurd (let bad : true ≡ false = sym parts.0 ∙ apart-above v version (current_of all key) low up in cc)

  same-deltas : (version : ℕ) (fact : Fact) → IsFirst all fact → is_bared all fact ≡ true → deltas_from key version (bare fact) ≡ deltas_from key version fact
  same-deltas version (Fact.Booted k) p h = refl
  same-deltas version (Fact.Promised k low high b) p h = refl
  same-deltas version (Fact.Voted k v b options offered) p h = refl
  same-deltas version (Fact.Heard tx outcome) p h = refl
  same-deltas version (Fact.Adopted k v item adds) p h = refl
  same-deltas version (Fact.Floor c e n) p h = refl

-- ---- of all facts

versions : (facts : List Fact) (key : Key) → current_of facts key ≡ greatest (version_from key) facts
versions [] key = refl
versions (fact ∷ facts) key = ap (λ n. max n (version_from key fact)) (versions facts key)

pub current-stays : CurrentStays
current-stays rest facts key is once =
    versions rest key
    ∙ greatest-alike (version_from key) facts (current_of facts key) (sym (versions facts key)) (IsFirst facts)
    (lower facts key) (same-version facts key) rest (first-heard facts once) is

pub forgotten-stays : ForgottenStays
forgotten-stays rest facts key version tx is once =
    ap (λ b. b && nat_lt version (current_of rest key)) (finished-stays rest facts tx is)
    ∙ ap (λ n. is_finished facts tx && nat_lt version n) (current-stays rest facts key is once)

bases : (facts : List Fact) (key : Key) (version : ℕ) → base_at facts key version ≡ gathered option_or None (base_from key version) facts
bases [] key version = refl
bases (fact ∷ facts) key version = ap (λ o. option_or o (base_from key version fact)) (bases facts key version)

pub base-stays : BaseStays
base-stays rest facts key is once =
    ap (λ n. if n == 0 then None else base_at rest key n) (current-stays rest facts key is once)
    ∙ ap (λ (o : Option Item). if current_of facts key == 0 then None else o)
    (bases rest key (current_of facts key)
    ∙ rest-says option_or None or_right (base_from key (current_of facts key)) facts (IsFirst facts)
    (base-dropped facts key) (same-base facts key (current_of facts key)) rest facts (first-heard facts once) is
    ∙ sym (bases facts key (current_of facts key)))

pub deltas-stay : DeltasStay
deltas-stay rest facts key version is once up =
    deltas-joined key version rest
    ∙ as_gathered rest
    ∙ rest-says union [] (λ m. refl) (deltas_from key version) facts (IsFirst facts)
    (deltas-dropped facts key version up) (same-deltas facts key version) rest facts (first-heard facts once) is
    ∙ sym (as_gathered facts)
    ∙ sym (deltas-joined key version facts)
  where
    as_gathered : (facts : List Fact) → joined (deltas_from key version) facts ≡ gathered union [] (deltas_from key version) facts
    as_gathered [] = refl
    as_gathered (fact ∷ facts) = ap (λ m. union m (deltas_from key version fact)) (as_gathered facts)

same-here : (n : ℕ) → n ≤ n
same-here n = omega arith

pub executed-stays : ExecutedStays
executed-stays rest facts key is once =
    ap (deltas_at rest key) (current-stays rest facts key is once)
    ∙ deltas-stay rest facts key (current_of facts key) is once (same-here (current_of facts key))

pub delta-stays : DeltaStays
delta-stays rest facts key tx is once = ap (λ m. option_map (delta_by tx) (value_of m tx)) (executed-stays rest facts key is once)

abbrev token_with : ℕ → TxMap Amounts → Token
token_with version m = record { version = version; seen = txs_of m }

pub token-stays : TokenStays
token-stays rest facts key is once =
    ap (λ n. token_with n (deltas_at rest key n)) (current-stays rest facts key is once)
    ∙ ap (token_with (current_of facts key)) (deltas-stay rest facts key (current_of facts key) is once (same-here (current_of facts key)))

raised : (a b : ℕ) → a ≤ max a b
raised a b = omega arith

pub crowding-stays : CrowdingStays
crowding-stays rest facts fact is once = ap (λ (test : Key → Bool). list_any test (keys_in fact)) (fun_ext alike)
  where
    alike : (key : Key) → nat_lt 64 (length (executed_of (fact ∷ rest) key)) ≡ nat_lt 64 (length (executed_of (fact ∷ facts) key))
    alike key =
        ap (λ n. nat_lt 64 (length (union (deltas_at rest key (max n (version_from key fact))) (deltas_from key (max n (version_from key fact)) fact))))
        (current-stays rest facts key is once)
        ∙ ap (λ m. nat_lt 64 (length (union m (deltas_from key (max (current_of facts key) (version_from key fact)) fact))))
        (deltas-stay rest facts key (max (current_of facts key) (version_from key fact)) is once (raised (current_of facts key) (version_from key fact)))
