-- A vote that is dropped, or of which only the ballot is left, has no mark that is not forgotten.
use Rattle.std.proofs.Common.{◌≡◌, ◌==◌, ◌&&◌, ℕ, true, false, List, [], ◌∷◌, Option, Some, None, refl, sym, ap, ◌∙◌, inl, inr, filter_map}
use Rattle.std.specs.List.{list_all}
use Rattle.std.specs.Option.{option_map}
use Rattle.std.specs.Prelude.{not}
use Rattle.std.proofs.lemmas.Bool.{and_parts, cases_Bool, eqb-true}
use Rattle.mdcc_base.specs.Ballot.{is_fast}
use Rattle.mdcc_base.specs.Key.{key_eq}
use Rattle.mdcc_base.specs.TxId.{tx_eq}
use Rattle.mdcc_base.specs.declared.identifiers.Ballot.{Ballot}
use Rattle.mdcc_base.specs.declared.identifiers.TxId.{TxId}
use Rattle.mdcc_base.specs.declared.key.Key.{Key}
use Rattle.mdcc_option.proofs.Equal.{Decides-key}
use Rattle.mdcc_option.specs.declared.choices.Choice.{Choice}
use Rattle.mdcc_option.specs.declared.choices.Mark.{Mark}
use Rattle.mdcc_option.specs.declared.choices.Outcome.{Outcome}
use Rattle.mdcc_option.specs.declared.items.Delta.{Delta}
use Rattle.mdcc_option.specs.declared.items.Item.{Item}
use Rattle.mdcc_struct.specs.Maps.{value_of}
use Rattle.mdcc_struct.specs.declared.options.Options.{Options}
use Rattle.mdcc_struct.proofs.Order.{tx_eq-same}
use Rattle.mdcc_def_messages.specs.declared.facts.Fact.{Fact}
use Rattle.mdcc_def_protocol.specs.Facts.{is_forgotten}
use Rattle.mdcc_def_protocol.specs.Marks.{choice_in}
use Rattle.mdcc_given_back.specs.Rest.{bare, is_bared, is_dropped, is_vote_past}

pub past-value : (all : List Fact) (key : Key) (version : ℕ) (options : Options) (tx : TxId)
    → is_vote_past all key version options ≡ true → is_forgotten all key version tx ≡ false → value_of options tx ≡ None
past-value all key version [] tx past shown = refl
past-value all key version (e ∷ es) tx past shown =
    let parts = and_parts (is_forgotten all key version e.0) (list_all (λ e. is_forgotten all key version e.0) es) past in
    elim (cases_Bool (tx_eq e.0 tx)) [
      | inl same ↦ absurd (let bad : true ≡ false = sym parts.0 ∙ ap (is_forgotten all key version) (tx_eq-same e.0 tx same) ∙ shown in cc)
      | inr other ↦ rw other (past-value all key version es tx parts.1 shown)
    ]

-- in the instance that is asked
pub past-here : (all : List Fact) (k key : Key) (v version : ℕ) (options : Options) (tx : TxId) → (v == version && key_eq k key) ≡ true
    → is_vote_past all k v options ≡ true → is_forgotten all key version tx ≡ false → value_of options tx ≡ None
past-here all k key v version options tx same past shown =
    let parts = and_parts (v == version) (key_eq k key) same in
    let same_version : v ≡ version = eqb-true v version parts.0 in
    let same_key : k ≡ key = (Decides-key k key).0 parts.1 in
    past-value all k v options tx past
    (ap (λ z. is_forgotten all z v tx) same_key ∙ ap (λ z. is_forgotten all key z tx) same_version ∙ shown)

-- ---- a question that votes answer

module _ {S : Type 0} (none : S) (says : Fact → S) (all : List Fact) (P : Fact → Type 0)
    (blank : (key : Key) (version : ℕ) (ballot : Ballot) → P (Fact.Voted key version ballot [] None))
    (past : (key : Key) (version : ℕ) (ballot : Ballot) (options : Options) (offered : Option Choice) → P (Fact.Voted key version ballot options offered)
    → is_vote_past all key version options ≡ true → says (Fact.Voted key version ballot options offered) ≡ none)
    (heard : (tx : TxId) (outcome : Outcome) → says (Fact.Heard tx outcome) ≡ none)
    (adopted : (key : Key) (version : ℕ) (item : Item) (adds : List Delta) → says (Fact.Adopted key version item adds) ≡ none)
    (floor : (centre epoch seq : ℕ) → says (Fact.Floor centre epoch seq) ≡ none) where
  pub dropped-none : (fact : Fact) → P fact → is_dropped all fact ≡ true → says fact ≡ none
  dropped-none (Fact.Booted k) p h = absurd (cc)
  dropped-none (Fact.Promised k low high b) p h = absurd (cc)
  dropped-none (Fact.Voted k v b options offered) p h = past k v b options offered p (and_parts (is_vote_past all k v options) (is_fast b) h).0
  dropped-none (Fact.Heard tx outcome) p h = heard tx outcome
  dropped-none (Fact.Adopted k v item adds) p h = adopted k v item adds
  dropped-none (Fact.Floor c e n) p h = floor c e n

  pub bared-same : (fact : Fact) → P fact → is_bared all fact ≡ true → says (bare fact) ≡ says fact
  bared-same (Fact.Booted k) p h = refl
  bared-same (Fact.Promised k low high b) p h = refl
  bared-same (Fact.Voted k v b options offered) p h =
      past k v b [] None (blank k v b) refl ∙ sym (past k v b options offered p (and_parts (is_vote_past all k v options) (not (is_fast b)) h).0)
  bared-same (Fact.Heard tx outcome) p h = refl
  bared-same (Fact.Adopted k v item adds) p h = refl
  bared-same (Fact.Floor c e n) p h = refl

-- ---- the choices of accepted marks

-- what a function gives of the choice of each accepted mark
abbrev pub picked : {Y : Type 0} → (Choice → Y) → TxId × Mark → Option (TxId × Y)
picked give e = option_map (λ choice. (e.0, give choice)) (choice_in e.1)

pub none-picked : {Y : Type 0} (give : Choice → Y) (m : Options) (tx : TxId) → value_of m tx ≡ None → value_of (filter_map (picked give) m) tx ≡ None
none-picked give [] tx h = refl
none-picked give ((t, Mark.Accept choice) ∷ es) tx h = elim (cases_Bool (tx_eq t tx)) [
  | inl same ↦ absurd (let bad : Some (Mark.Accept choice) ≡ None = rw same at h in cc)
  | inr other ↦ let others : value_of es tx ≡ None = rw other at h in rw other (none-picked give es tx others)
]
none-picked give ((t, Mark.Reject) ∷ es) tx h = elim (cases_Bool (tx_eq t tx)) [
  | inl same ↦ absurd (let bad : Some Mark.Reject ≡ None = rw same at h in cc)
  | inr other ↦ let others : value_of es tx ≡ None = rw other at h in none-picked give es tx others
]
