-- The votes that are left hold the choices of all transactions that are not settled.
use Rattle.std.proofs.Common.{◌≡◌, ◌&&◌, ◌||◌, ◌++◌, ℕ, Bool, true, false, List, [], ◌∷◌, Option, Some, None, refl, sym, ap, ◌∙◌, inl, inr, filter_map}
use Rattle.std.proofs.Math.Path.{fun_ext}
use Rattle.std.specs.List.{list_any}
use Rattle.std.specs.Prelude.{filter, if◌then◌else◌, nat_lt, not, slice_get}
use Rattle.std.proofs.lemmas.Bool.{cases_Bool}
use Rattle.mdcc_base.specs.TxId.{tx_eq}
use Rattle.mdcc_base.specs.declared.identifiers.Ballot.{Ballot}
use Rattle.mdcc_base.specs.declared.identifiers.TxId.{TxId}
use Rattle.mdcc_base.specs.declared.key.Key.{Key}
use Rattle.mdcc_option.specs.declared.choices.Choice.{Choice}
use Rattle.mdcc_struct.specs.Maps.{TxMap, union, value_of}
use Rattle.mdcc_struct.specs.declared.options.Options.{Options}
use Rattle.mdcc_def_messages.specs.declared.facts.Fact.{Fact}
use Rattle.mdcc_def_protocol.specs.Facts.{current_of, is_finished, is_forgotten, is_heard, is_settled, write_set_of_mark, write_sets_from, write_sets_of}
use Rattle.mdcc_def_protocol.specs.Plain.{plain_unresolved_of}
use Rattle.mdcc_given_back.specs.Offers.{offers_unmarked}
use Rattle.mdcc_theorem_fact_folds.proofs.Unheard.{kept_value, value-kept}
use Rattle.mdcc_theorem_fact_folds.proofs.Joined.{joined}
use Rattle.mdcc_given_back.specs.Rest.{IsRest, bare, is_bared, is_dropped, is_vote_past}
use Rattle.mdcc_given_back.specs.Unsettled.{UnresolvedAtStays, UnresolvedByRest, UnresolvedStays, WriteSetByRest}
use Rattle.mdcc_given_back.proofs.Alike.{kept-alike}
use Rattle.mdcc_given_back.proofs.FirstHeard.{not-true}
use Rattle.mdcc_given_back.proofs.FloorsLeft.{finished-stays}
use Rattle.mdcc_given_back.proofs.HeardLeft.{settled-stays}
use Rattle.mdcc_given_back.proofs.MarksLeft.{marked, other-offer}
use Rattle.mdcc_given_back.proofs.PastVotes.{bared-same, dropped-none, none-picked, past-value}

abbrev WriteSet : Type 0
WriteSet = List (Key × ℕ)

sets-joined : (facts : List Fact) → write_sets_of facts ≡ joined write_sets_from facts
sets-joined [] = refl
sets-joined (fact ∷ facts) = ap (λ m. union m (write_sets_from fact)) (sets-joined facts)

none-behind : (m : TxMap WriteSet) (e : TxId × WriteSet) (tx : TxId) → value_of m tx ≡ None → tx_eq e.0 tx ≡ false → value_of (m ++ e ∷ []) tx ≡ None
none-behind [] e tx h other = rw other refl
none-behind (x ∷ xs) e tx h other = elim (cases_Bool (tx_eq x.0 tx)) [
  | inl same ↦ absurd (let bad : Some x.1 ≡ None = rw same at h in cc)
  | inr apart ↦ let none : value_of xs tx ≡ None = rw apart at h in rw apart (none-behind xs e tx none other)
]

no-set : (k : Key) (v : ℕ) (b : Ballot) (options : Options) (offered : Option Choice) (tx : TxId)
    → offers_unmarked (Fact.Voted k v b options offered) ≡ false → value_of options tx ≡ None
    → value_of (write_sets_from (Fact.Voted k v b options offered)) tx ≡ None
no-set k v b options None tx has none = none-picked (λ choice. choice.write_set) options tx none
no-set k v b options (Some choice) tx has none =
    none-behind (filter_map write_set_of_mark options) (choice.tx, choice.write_set) tx
    (none-picked (λ choice. choice.write_set) options tx none) (other-offer options choice tx has none)

or-false : (a b : Bool) → (a || b) ≡ false → b ≡ false
or-false true b h = absurd (cc)
or-false false b h = h

module _ (all : List Fact) where
  abbrev open_tx : TxId → Bool
  open_tx tx = not (is_settled all tx)

  abbrev IsMarked : Fact → Type 0
  IsMarked fact = offers_unmarked fact ≡ false

  shown : (key : Key) (version : ℕ) (tx : TxId) → open_tx tx ≡ true → is_forgotten all key version tx ≡ false
  shown key version tx kept =
      ap (λ b. b && nat_lt version (current_of all key))
      (or-false (is_heard all tx) (is_finished all tx) (not-true (is_settled all tx) kept))

  no-sets : (tx : TxId) → open_tx tx ≡ true → (k : Key) (v : ℕ) (b : Ballot) (options : Options) (offered : Option Choice)
      → IsMarked (Fact.Voted k v b options offered) → is_vote_past all k v options ≡ true → value_of (write_sets_from (Fact.Voted k v b options offered)) tx ≡ None
  no-sets tx kept k v b options offered p past = no-set k v b options offered tx p (past-value all k v options tx past (shown k v tx kept))

  abbrev set_of : TxId → Fact → Option WriteSet
  set_of tx fact = value_of (write_sets_from fact) tx

  sets-dropped : (fact : Fact) → IsMarked fact → is_dropped all fact ≡ true → (tx : TxId) → open_tx tx ≡ true → set_of tx fact ≡ None
  sets-dropped fact p h tx kept =
      dropped-none None (set_of tx) all IsMarked (λ k v b. refl) (no-sets tx kept) (λ t o. refl) (λ k v item adds. refl) (λ c e n. refl) fact p h

  sets-bared : (fact : Fact) → IsMarked fact → is_bared all fact ≡ true → (tx : TxId) → open_tx tx ≡ true → set_of tx (bare fact) ≡ set_of tx fact
  sets-bared fact p h tx kept =
      bared-same None (set_of tx) all IsMarked (λ k v b. refl) (no-sets tx kept) (λ t o. refl) (λ k v item adds. refl) (λ c e n. refl) fact p h

  pub sets-alike : (rest : List Fact) → IsRest rest all → list_any offers_unmarked all ≡ false
      → filter (λ e. open_tx e.0) (write_sets_of rest) ≡ filter (λ e. open_tx e.0) (write_sets_of all)
  sets-alike rest is has =
      ap (filter (λ e. open_tx e.0)) (sets-joined rest)
      ∙ kept-alike write_sets_from open_tx all IsMarked sets-dropped sets-bared rest all (marked all has) is
      ∙ sym (ap (filter (λ e. open_tx e.0)) (sets-joined all))

pub unresolved-stays : UnresolvedStays
unresolved-stays rest facts is has =
    ap (λ (test : TxId → Bool). filter (λ e. not (test e.0)) (write_sets_of rest)) (fun_ext (λ tx. settled-stays rest facts tx is))
    ∙ sets-alike facts rest is has

pub unresolved_at-stays : UnresolvedAtStays
unresolved_at-stays rest facts place is has = ap (λ (m : TxMap WriteSet). slice_get m place) (unresolved-stays rest facts is has)

-- ---- without finished ones

filter-twice : (p q : TxId → Bool) (m : TxMap WriteSet)
    → filter (λ e. not (p e.0 || q e.0)) m ≡ filter (λ e. not (q e.0)) (filter (λ e. not (p e.0)) m)
filter-twice p q [] = refl
filter-twice p q (e ∷ es) =
    let ih = filter-twice p q es in
    elim (cases_Bool (p e.0)) [
      | inl first ↦ rw first ih
      | inr second ↦ elim (cases_Bool (q e.0)) [
        | inl is ↦ rw (second, is) ih
        | inr not_so ↦ rw (second, not_so) (ap (λ m. e ∷ m) ih)
      ]
    ]

pub unresolved-by-rest : UnresolvedByRest
unresolved-by-rest rest facts is has =
    sym (unresolved-stays rest facts is has)
    ∙ filter-twice (is_heard rest) (is_finished rest) (write_sets_of rest)
    ∙ ap (λ (test : TxId → Bool). filter (λ e. not (test e.0)) (plain_unresolved_of rest)) (fun_ext (λ tx. finished-stays rest facts tx is))

unless-finished : {X : Type 0} (b : Bool) (o : Option X) → kept_value (not b) o ≡ (if b then None else o)
unless-finished true o = refl
unless-finished false o = refl

pub write_set-by-rest : WriteSetByRest
write_set-by-rest rest facts tx is has =
    ap (λ (m : TxMap WriteSet). value_of m tx) (unresolved-by-rest rest facts is has)
    ∙ value-kept (λ t. not (is_finished facts t)) (plain_unresolved_of rest) tx
    ∙ unless-finished (is_finished facts tx) (value_of (plain_unresolved_of rest) tx)
