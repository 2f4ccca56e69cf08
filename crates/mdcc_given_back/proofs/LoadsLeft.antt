-- What is live in an instance at the version held, or at a later one, is live by the facts that are left.
use Rattle.std.proofs.Common.{◌≡◌, ◌==◌, ◌&&◌, ◌||◌, ◌≤◌, ℕ, Bool, true, false, List, [], ◌∷◌, Option, Some, None, is_some, refl, sym, ap, ◌∙◌, inl, inr, filter_map, map}
use Rattle.std.specs.List.{list_all, list_any}
use Rattle.std.specs.Option.{option_or}
use Rattle.std.specs.Prelude.{filter, not}
use Rattle.std.proofs.lemmas.Bool.{and_parts, cases_Bool, eqb-true}
use Rattle.mdcc_base.specs.Ballot.{is_fast}
use Rattle.mdcc_base.specs.Key.{key_eq}
use Rattle.mdcc_base.specs.TxId.{tx_eq}
use Rattle.mdcc_base.specs.declared.identifiers.Ballot.{Ballot}
use Rattle.mdcc_base.specs.declared.identifiers.TxId.{TxId}
use Rattle.mdcc_base.specs.declared.key.Key.{Key}
use Rattle.mdcc_option.proofs.Equal.{Decides-key}
use Rattle.mdcc_option.specs.declared.choices.Choice.{Choice}
use Rattle.mdcc_option.specs.declared.choices.Mark.{Mark}
use Rattle.mdcc_option.specs.declared.items.Update.{Update}
use Rattle.mdcc_struct.specs.Maps.{TxMap, are_ascending, union, value_of}
use Rattle.mdcc_struct.specs.declared.options.Options.{Options}
use Rattle.mdcc_struct.proofs.Inclusion.{same_found}
use Rattle.mdcc_struct.proofs.Order.{tx_eq-same}
use Rattle.mdcc_struct.proofs.Values.{value_of-union}
use Rattle.mdcc_struct.proofs.Walks.{ascending-filter}
use Rattle.mdcc_def_messages.specs.declared.facts.Fact.{Fact}
use Rattle.mdcc_def_protocol.specs.Facts.{current_of, deltas_at, deltas_from, heard_of, is_forgotten, is_idle, is_void, live_and_void, live_from, live_mark, shows_mark}
use Rattle.mdcc_def_protocol.specs.Fit.{capped, load_of}
use Rattle.mdcc_def_protocol.specs.Marks.{Amounts, is_abort}
use Rattle.mdcc_def_protocol.specs.Plain.{plain_is_void, plain_live_and_void, plain_live_from}
use Rattle.mdcc_theorem_fact_folds.proofs.Deltas.{deltas-joined}
use Rattle.mdcc_theorem_fact_folds.proofs.Folded.{gathered}
use Rattle.mdcc_theorem_fact_folds.proofs.Joined.{joined, joined-ascends}
use Rattle.mdcc_theorem_fact_folds.proofs.Unheard.{kept_value, value-kept}
use Rattle.mdcc_given_back.specs.Loads.{LiveAndVoidStay, LiveByRest, LoadByRest, are_deltas_live}
use Rattle.mdcc_given_back.specs.Rest.{IsRest, bare, is_bared, is_dropped, is_vote_past}
use Rattle.mdcc_given_back.proofs.Alike.{rest-says}
use Rattle.mdcc_given_back.proofs.FirstHeard.{IsFirst, first-heard, idle-unshown}
use Rattle.mdcc_given_back.proofs.HeardLeft.{heard-stays}
use Rattle.mdcc_given_back.proofs.MarksLeft.{filter-all, none-forgotten}
use Rattle.mdcc_given_back.proofs.PastVotes.{none-picked}
use Rattle.mdcc_given_back.proofs.VersionsLeft.{deltas-dropped}

abbrev adds : TxMap Amounts → TxMap Update
adds m = map (λ e. (e.0, Update.Add e.1)) m

-- ---- votes of which all is forgotten have no mark there

module _ (all : List Fact) (key : Key) (version : ℕ) (up : current_of all key ≤ version) where
  none-past : (options : Options) → is_vote_past all key version options ≡ true → options ≡ []
  none-past [] past = refl
  none-past (e ∷ es) past =
      let first = (and_parts (is_forgotten all key version e.0) (list_all (λ e. is_forgotten all key version e.0) es) past).0 in
      absurd (let bad : true ≡ false = sym first ∙ ap (λ (gone : TxId → Bool). gone e.0) (none-forgotten all key version up) in cc)

  past-there : (k : Key) (v : ℕ) (options : Options) → (v == version && key_eq k key) ≡ true → is_vote_past all k v options ≡ true → options ≡ []
  past-there k v options same past =
      let parts = and_parts (v == version) (key_eq k key) same in
      none-past options (sym (ap (λ z. is_vote_past all z version options) (key-is parts.1)) ∙ (sym (ap (λ z. is_vote_past all k z options) (eqb-true v version parts.0)) ∙ past))
    where
      key-is : key_eq k key ≡ true → k ≡ key
      key-is h = (Decides-key k key).0 h

  none-live : (k : Key) (v : ℕ) (b : Ballot) (options : Options) (offered : Option Choice) → is_vote_past all k v options ≡ true
      → plain_live_from key version (Fact.Voted k v b options offered) ≡ []
  none-live k v b options offered past = elim (cases_Bool (v == version && key_eq k key)) [
    | inl same ↦ rw same (ap (filter_map live_mark) (past-there k v options same past))
    | inr other ↦ rw other refl
  ]

  -- ---- what all facts and what those that are left make live

  live-dropped : (fact : Fact) → IsFirst all fact → is_dropped all fact ≡ true → plain_live_from key version fact ≡ []
  live-dropped (Fact.Booted k) p h = refl
  live-dropped (Fact.Promised k low high b) p h = refl
  live-dropped (Fact.Voted k v b options offered) p h = none-live k v b options offered (and_parts (is_vote_past all k v options) (is_fast b) h).0
  live-dropped (Fact.Heard tx outcome) p h = ap adds (deltas-dropped all key version up (Fact.Heard tx outcome) p h)
  live-dropped (Fact.Adopted k v item deltas) p h = ap adds (deltas-dropped all key version up (Fact.Adopted k v item deltas) p h)
  live-dropped (Fact.Floor c e n) p h = refl

  live-bared : (fact : Fact) → IsFirst all fact → is_bared all fact ≡ true → plain_live_from key version (bare fact) ≡ plain_live_from key version fact
  live-bared (Fact.Booted k) p h = refl
  live-bared (Fact.Promised k low high b) p h = refl
  live-bared (Fact.Voted k v b options offered) p h =
      none-live k v b [] None refl ∙ sym (none-live k v b options offered (and_parts (is_vote_past all k v options) (not (is_fast b)) h).0)
  live-bared (Fact.Heard tx outcome) p h = refl
  live-bared (Fact.Adopted k v item deltas) p h = refl
  live-bared (Fact.Floor c e n) p h = refl

live-gathered : (facts : List Fact) (key : Key) (version : ℕ) → plain_live_and_void facts key version ≡ gathered union [] (plain_live_from key version) facts
live-gathered [] key version = refl
live-gathered (fact ∷ facts) key version = ap (λ m. union m (plain_live_from key version fact)) (live-gathered facts key version)

pub live_and_void-stay : LiveAndVoidStay
live_and_void-stay rest facts key version is once up =
    live-gathered rest key version
    ∙ rest-says union [] (λ m. refl) (plain_live_from key version) facts (IsFirst facts)
    (live-dropped facts key version up) (live-bared facts key version up) rest facts (first-heard facts once) is
    ∙ sym (live-gathered facts key version)

-- ---- none of them is idle

none-added : (m : TxMap Amounts) (tx : TxId) → value_of m tx ≡ None → value_of (adds m) tx ≡ None
none-added [] tx h = refl
none-added (e ∷ es) tx h = elim (cases_Bool (tx_eq e.0 tx)) [
  | inl same ↦ absurd (let bad : Some e.1 ≡ None = rw same at h in cc)
  | inr other ↦ let others : value_of es tx ≡ None = rw other at h in rw other (none-added es tx others)
]

none-marked : (o : Option Mark) (gone : Bool) → gone ≡ false → (is_some o && not gone) ≡ false → o ≡ None
none-marked None gone shown h = refl
none-marked (Some mark) true shown h = absurd (cc)
none-marked (Some mark) false shown h = absurd (cc)

both-none : {X : Type 0} (a b : Option X) → option_or a b ≡ None → (a ≡ None) × (b ≡ None)
both-none None b h = (refl, h)
both-none (Some a) b h = absurd (cc)

live-joined : (facts : List Fact) (key : Key) (version : ℕ) → plain_live_and_void facts key version ≡ joined (plain_live_from key version) facts
live-joined [] key version = refl
live-joined (fact ∷ facts) key version = ap (λ m. union m (plain_live_from key version fact)) (live-joined facts key version)

module _ (all : List Fact) (key : Key) (version : ℕ) (up : current_of all key ≤ version) (tx : TxId) where
  unmarked : (k : Key) (v : ℕ) (options : Options) → (v == version && key_eq k key) ≡ true → (is_some (value_of options tx) && not (is_forgotten all k v tx)) ≡ false
      → value_of options tx ≡ None
  unmarked k v options same h =
      let parts = and_parts (v == version) (key_eq k key) same in
      none-marked (value_of options tx) (is_forgotten all k v tx)
      (ap (λ z. is_forgotten all z v tx) ((Decides-key k key).0 parts.1) ∙ ap (λ z. is_forgotten all key z tx) (eqb-true v version parts.0)
      ∙ ap (λ (gone : TxId → Bool). gone tx) (none-forgotten all key version up)) h

  not-live : (fact : Fact) → shows_mark all tx fact ≡ false → value_of (deltas_from key version fact) tx ≡ None → value_of (plain_live_from key version fact) tx ≡ None
  not-live (Fact.Voted k v b options offered) h d = elim (cases_Bool (v == version && key_eq k key)) [
    | inl same ↦ rw same (none-picked (λ choice. choice.update) options tx (unmarked k v options same h))
    | inr other ↦ rw other refl
  ]
  not-live (Fact.Booted k) h d = refl
  not-live (Fact.Promised k low high b) h d = refl
  not-live (Fact.Heard t outcome) h d = none-added (deltas_from key version (Fact.Heard t outcome)) tx d
  not-live (Fact.Adopted k v item deltas) h d = none-added (deltas_from key version (Fact.Adopted k v item deltas)) tx d
  not-live (Fact.Floor c e n) h d = refl

  none-of : (facts : List Fact) → list_any (shows_mark all tx) facts ≡ false → value_of (joined (deltas_from key version) facts) tx ≡ None
      → value_of (joined (plain_live_from key version) facts) tx ≡ None
  none-of [] h d = refl
  none-of (fact ∷ facts) h d = elim (cases_Bool (shows_mark all tx fact)) [
    | inl shows ↦ absurd (let bad : true ≡ false = rw shows at h in cc)
    | inr hides ↦
        let others : list_any (shows_mark all tx) facts ≡ false = rw hides at h in
        let parts = both-none (value_of (joined (deltas_from key version) facts) tx) (value_of (deltas_from key version fact) tx)
        (sym (value_of-union (joined (deltas_from key version) facts) (deltas_from key version fact) tx) ∙ d) in
        value_of-union (joined (plain_live_from key version) facts) (plain_live_from key version fact) tx
        ∙ ap (λ o. option_or o (value_of (plain_live_from key version fact) tx)) (none-of facts others parts.0)
        ∙ not-live fact hides parts.1
  ]

busy-value : {X : Type 0} (idle : TxId → Bool) (m : TxMap X) (tx : TxId) → list_all (λ e. not (idle e.0)) m ≡ true → idle tx ≡ true → value_of m tx ≡ None
busy-value idle [] tx h is = refl
busy-value idle (e ∷ es) tx h is =
    let parts = and_parts (not (idle e.0)) (list_all (λ e. not (idle e.0)) es) h in
    elim (cases_Bool (tx_eq e.0 tx)) [
      | inl same ↦ absurd (let bad : false ≡ true = sym (ap not (ap idle (tx_eq-same e.0 tx same) ∙ is)) ∙ parts.0 in cc)
      | inr other ↦ rw other (busy-value idle es tx parts.1 is)
    ]

busy : (facts : List Fact) (key : Key) (version : ℕ) → current_of facts key ≤ version → are_deltas_live facts key version ≡ true
    → (tx : TxId) (update : Update) → value_of (plain_live_and_void facts key version) tx ≡ Some update → is_idle facts tx ≡ false
busy facts key version up live tx update h = elim (cases_Bool (is_idle facts tx)) [
  | inr not_idle ↦ not_idle
  | inl idle ↦
      let none : value_of (plain_live_and_void facts key version) tx ≡ None =
      ap (λ m. value_of m tx) (live-joined facts key version)
      ∙ none-of facts key version up tx facts (idle-unshown facts tx idle)
      (ap (λ m. value_of m tx) (sym (deltas-joined key version facts)) ∙ busy-value (is_idle facts) (deltas_at facts key version) tx live idle) in
      absurd (let bad : None ≡ Some update = sym none ∙ h in cc)
]

-- ---- so the same are void

or-none : (a b : Bool) → b ≡ false → (a || b) ≡ a
or-none true b h = refl
or-none false b h = h

void-alike : (rest facts : List Fact) (tx : TxId) → IsRest rest facts → is_idle facts tx ≡ false → is_void facts tx ≡ plain_is_void rest tx
void-alike rest facts tx is not_idle =
    or-none (is_abort (heard_of facts tx)) (is_idle facts tx) not_idle ∙ ap is_abort (sym (heard-stays rest facts tx is not_idle))

-- entries of a map that two tests keep alike
filters-alike : {X : Type 0} (p q : TxId → Bool) (m : TxMap X) → are_ascending m ≡ true → ((tx : TxId) (x : X) → value_of m tx ≡ Some x → p tx ≡ q tx)
    → filter (λ e. p e.0) m ≡ filter (λ e. q e.0) m
filters-alike {X = X} p q m ascends same =
    same_found (filter (λ e. p e.0) m) (filter (λ e. q e.0) m) (ascending-filter (λ e. p e.0) m ascends) (ascending-filter (λ e. q e.0) m ascends)
    (λ tx. value-kept p m tx ∙ by tx (value_of m tx) refl ∙ sym (value-kept q m tx))
  where
    either-none : (b : Bool) → kept_value {X = X} b None ≡ None
    either-none true = refl
    either-none false = refl

    by : (tx : TxId) (o : Option X) → value_of m tx ≡ o → kept_value (p tx) (value_of m tx) ≡ kept_value (q tx) (value_of m tx)
    by tx None none =
        ap (kept_value (p tx)) none ∙ either-none (p tx) ∙ sym (ap (kept_value (q tx)) none ∙ either-none (q tx))
    by tx (Some x) some = ap (λ b. kept_value b (value_of m tx)) (same tx x some)

live_from-plain : (key : Key) (version : ℕ) (fact : Fact) → live_from (λ tx. false) key version fact ≡ plain_live_from key version fact
live_from-plain key version (Fact.Voted k v b options offered) = rw (filter-all options) refl
live_from-plain key version (Fact.Booted n) = refl
live_from-plain key version (Fact.Promised k l g b) = refl
live_from-plain key version (Fact.Heard tx outcome) = refl
live_from-plain key version (Fact.Adopted k v item deltas) = refl
live_from-plain key version (Fact.Floor c e n) = refl

none-gone : (facts : List Fact) (key : Key) (version : ℕ) → live_and_void (λ tx. false) facts key version ≡ plain_live_and_void facts key version
none-gone [] key version = refl
none-gone (fact ∷ facts) key version =
    ap (λ z. union z (live_from (λ tx. false) key version fact)) (none-gone facts key version)
    ∙ ap (union (plain_live_and_void facts key version)) (live_from-plain key version fact)

live-ascends : (facts : List Fact) (key : Key) (version : ℕ) → are_ascending (plain_live_and_void facts key version) ≡ true
live-ascends facts key version = ap are_ascending (live-joined facts key version) ∙ joined-ascends (plain_live_from key version) facts

pub live-by-rest : LiveByRest
live-by-rest rest facts key version is once live up =
    ap (λ (gone : TxId → Bool). filter (λ e. not (is_void facts e.0)) (live_and_void gone facts key version)) (none-forgotten facts key version up)
    ∙ ap (filter (λ e. not (is_void facts e.0))) (none-gone facts key version)
    ∙ filters-alike (λ tx. not (is_void facts tx)) (λ tx. not (plain_is_void rest tx)) (plain_live_and_void facts key version) (live-ascends facts key version)
    (λ tx update found. ap not (void-alike rest facts tx is (busy facts key version up live tx update found)))
    ∙ ap (filter (λ e. not (plain_is_void rest e.0))) (sym (live_and_void-stay rest facts key version is once up))

pub load-by-rest : LoadByRest
load-by-rest rest facts key version seen is once live up =
    ap (λ (m : TxMap Update). capped (load_of m seen)) (live-by-rest rest facts key version is once live up)
