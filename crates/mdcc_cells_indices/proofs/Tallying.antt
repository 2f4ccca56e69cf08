-- What one more fact makes of the tallies.
use Rattle.std.proofs.Common.{◌≡◌, ◌≤◌, ◌+◌, ◌++◌, ◌∷◌, ◌<◌, ℕ, Bool, true, false, List, [], Option, Some, None, is_some, length, min, suc, refl, sym, ap, ◌∙◌, arith, subst, inl, inr}
use Rattle.std.specs.List.{fold}
use Rattle.std.specs.Option.{option_map, option_or}
use Rattle.std.specs.Prelude.{◌-◌, ◌^◌, ◌==◌, ◌&&◌, ◌||◌, filter_map, if◌then◌else◌, nat_lt, not}
use Rattle.std.proofs.lemmas.Bool.{cases_Bool, eqb-true, ltb-false}
use Rattle.std.proofs.lemmas.List.{get_or_append_left, get_or_at}
use Rattle.mdcc_base.specs.Ballot.{ballot_eq, ballot_max, fast_ballot}
use Rattle.mdcc_base.specs.Key.{key_eq}
use Rattle.mdcc_base.specs.TxId.{tx_eq}
use Rattle.mdcc_base.specs.declared.identifiers.Ballot.{Ballot}
use Rattle.mdcc_base.specs.declared.identifiers.TxId.{TxId}
use Rattle.mdcc_base.specs.declared.key.Key.{Key}
use Rattle.mdcc_option.specs.declared.choices.Choice.{Choice}
use Rattle.mdcc_option.specs.declared.choices.Mark.{Mark}
use Rattle.mdcc_option.specs.declared.choices.Outcome.{Outcome}
use Rattle.mdcc_option.specs.declared.items.Delta.{Delta}
use Rattle.mdcc_option.specs.declared.items.Item.{Item}
use Rattle.mdcc_struct.specs.Maps.{TxMap, value_of}
use Rattle.mdcc_struct.specs.Options.{accepts_in, rejects_in}
use Rattle.mdcc_struct.specs.declared.options.Options.{Options}
use Rattle.mdcc_struct.proofs.Order.{tx_eq-same}
use Rattle.mdcc_struct.proofs.Values.{value_of-union}
use Rattle.mdcc_def_messages.specs.declared.facts.Fact.{Fact}
use Rattle.mdcc_def_protocol.specs.Facts.{deltas_at, deltas_from, heard_of, is_heard, later_vote, mark_voted, marks_voted, outcome_in, write_set_of_mark, write_sets_from, write_sets_of}
use Rattle.mdcc_def_protocol.specs.Plain.{plain_entries_at}
use Rattle.mdcc_facts.specs.Adding.{MayBeAdded}
use Rattle.mdcc_facts.specs.Weights.{with_mark}
use Rattle.mdcc_cells_chains.specs.Keys.{instance_eq, instance_eq-one}
use Rattle.mdcc_cells_chains.specs.Walks.{first_in, walk}
use Rattle.mdcc_cells_chains.proofs.Filtered.{walk-found}
use Rattle.mdcc_theorem_fact_folds.proofs.Chosen.{max_right, or_right}
use Rattle.mdcc_theorem_fact_folds.proofs.Once.{entries-update}
use Rattle.mdcc_theorem_fact_folds.proofs.Unheard.{write_set-updates}
use Rattle.mdcc_cells_delta_walk.proofs.Found.{none-heard}
use Rattle.mdcc_cells_indices.specs.Heard.{deltas_given}
use Rattle.mdcc_cells_indices.specs.Tallies.{AreGivenByOutcomes, HoldsTallies, ballot_of_vote, greatest_voted, IsTally, Tallied, counted_at, is_bare, limited, no_tally, tally_indexed, tally_in, with_adopted, with_vote}
use Rattle.mdcc_cells_indices.specs.declared.tallies.Tally.{Tally}
use Rattle.mdcc_cells_indices.proofs.Endings.{given-is}
use Rattle.mdcc_cells_indices.proofs.Entered.{same-instance}

-- ---- the tally of an instance

older-at : (tallies : List Tally) (tally : Tally) (index : Option ℕ) → ((i : ℕ) → index ≡ Some i → i < length tallies) → tally_indexed (tallies ++ tally ∷ []) index ≡ tally_indexed tallies index
older-at tallies tally None within = refl
older-at tallies tally (Some i) within = get_or_append_left tallies (tally ∷ []) no_tally i (within i refl)

pub tally-push : (instance other : Key × ℕ) (keys : List (Key × ℕ)) (tallies : List Tally) (tally : Tally) → length tallies ≡ length keys
    → tally_indexed (tallies ++ tally ∷ []) (first_in (walk (instance_eq other) (instance ∷ keys)))
    ≡ (if instance_eq other instance then tally else tally_indexed tallies (first_in (walk (instance_eq other) keys)))
tally-push instance other keys tallies tally alike = elim (cases_Bool (instance_eq other instance)) [
  | inl same ↦ rw same (get_or_at tallies tally [] no_tally (length keys) alike)
  | inr apart ↦
      rw apart (
      older-at tallies tally (first_in (walk (instance_eq other) keys))
      (λ i is. let found = walk-found (instance_eq other) keys i is in omega (arith, found.within, alike))
      )
]

-- ---- the counts

counts-more : (a r : ℕ) (marks : Options) → a ≤ 2 ^ 32 - 1 → r ≤ 2 ^ 32 - 1
    → fold with_mark (a, r) marks ≡ (limited a (length (accepts_in marks)), limited r (length (rejects_in marks)))
counts-more a r [] few few' =
    let left : a ≡ limited a 0 = omega (arith, few) in
    let right : r ≡ limited r 0 = omega (arith, few') in
    λ i. (left i, right i)
counts-more a r ((tx, Mark.Accept choice) ∷ es) few few' =
    let n = length (accepts_in es) in
    let m = length (rejects_in es) in
    let ih = counts-more (min (a + 1) (2 ^ 32 - 1)) (min (r + 0) (2 ^ 32 - 1)) es (omega arith) (omega arith) in
    let left : limited (min (a + 1) (2 ^ 32 - 1)) n ≡ limited a (suc n) = omega arith in
    let right : limited (min (r + 0) (2 ^ 32 - 1)) m ≡ limited r m = omega (arith, few') in
    ih ∙ (λ i. (left i, right i))
counts-more a r ((tx, Mark.Reject) ∷ es) few few' =
    let n = length (accepts_in es) in
    let m = length (rejects_in es) in
    let ih = counts-more (min (a + 0) (2 ^ 32 - 1)) (min (r + 1) (2 ^ 32 - 1)) es (omega arith) (omega arith) in
    let left : limited (min (a + 0) (2 ^ 32 - 1)) n ≡ limited a n = omega (arith, few) in
    let right : limited (min (r + 1) (2 ^ 32 - 1)) m ≡ limited r (suc m) = omega arith in
    ih ∙ (λ i. (left i, right i))

limited-none : (a : ℕ) → a ≤ 2 ^ 32 - 1 → limited a 0 ≡ a
limited-none a few = omega (arith, few)

-- ---- who has a mark and no choice

or-none : {X : Type 0} (a b : Option X) → option_or a b ≡ None → (a ≡ None) × (b ≡ None)
or-none None b h = (refl, h)
or-none (Some x) b h = absurd (cc)

append-none : {X : Type 0} (xs ys : TxMap X) (tx : TxId) → value_of (xs ++ ys) tx ≡ None → (value_of xs tx ≡ None) × (value_of ys tx ≡ None)
append-none [] ys tx h = (refl, h)
append-none (x ∷ xs) ys tx h = elim (cases_Bool (tx_eq x.0 tx)) [
  | inl same ↦ let bad : Some x.1 ≡ None = rw same at h in absurd (cc)
  | inr other ↦ let rest : value_of (xs ++ ys) tx ≡ None = rw other at h in rw other (append-none xs ys tx rest)
]

accepted-known : (options : Options) (tx : TxId) → nat_lt 0 (length (rejects_in options)) ≡ false → value_of (filter_map write_set_of_mark options) tx ≡ None → value_of options tx ≡ None
accepted-known [] tx none h = refl
accepted-known ((t, Mark.Accept choice) ∷ es) tx none h = elim (cases_Bool (tx_eq t tx)) [
  | inl same ↦ let bad : Some choice.write_set ≡ None = rw same at h in absurd (cc)
  | inr other ↦ let rest : value_of (filter_map write_set_of_mark es) tx ≡ None = rw other at h in rw other (accepted-known es tx none rest)
]
accepted-known ((t, Mark.Reject) ∷ es) tx none h = absurd (omega (arith, ltb-false 0 (length (rejects_in ((t, Mark.Reject) ∷ es))) none))

one-offered : (options : Options) (choice : Choice) (tx : TxId) → (length options == 1) ≡ true → is_some (value_of options choice.tx) ≡ true
    → value_of ((choice.tx, choice.write_set) ∷ []) tx ≡ None → value_of options tx ≡ None
one-offered [] choice tx one has h = absurd (cc)
one-offered (e ∷ []) choice tx one has h = elim (cases_Bool (tx_eq e.0 choice.tx)) [
  | inl same ↦ elim (cases_Bool (tx_eq choice.tx tx)) [
    | inl is ↦ let bad : Some choice.write_set ≡ None = rw is at h in absurd (cc)
    | inr other ↦ let apart : tx_eq e.0 tx ≡ false = ap (λ t. tx_eq t tx) (tx_eq-same e.0 choice.tx same) ∙ other in rw apart refl
  ]
  | inr other ↦ let bad : false ≡ true = rw other at has in absurd (cc)
]
one-offered (e ∷ f ∷ es) choice tx one has h = absurd (let bad = eqb-true (length (e ∷ f ∷ es)) 1 one in omega arith)

and-not : (a b : Bool) → (a && not b) ≡ false → a ≡ true → b ≡ true
and-not true true h k = refl
and-not true false h k = absurd (cc)
and-not false b h k = absurd (cc)

and-both : (a b : Bool) → (a && b) ≡ true → (a ≡ true) × (b ≡ true)
and-both true b h = (refl, h)
and-both false b h = absurd (cc)

or-both : (a b : Bool) → (a || b) ≡ false → (a ≡ false) × (b ≡ false)
or-both false b h = (refl, h)
or-both true b h = absurd (cc)

marks-known : (k : Key) (v : ℕ) (b : Ballot) (options : Options) (offered : Option Choice) (tx : TxId) → is_bare options offered ≡ false
    → value_of (write_sets_from (Fact.Voted k v b options offered)) tx ≡ None → value_of options tx ≡ None
marks-known k v b options None tx known h = accepted-known options tx known h
marks-known k v b options (Some choice) tx known h =
    let parts = append-none (filter_map write_set_of_mark options) ((choice.tx, choice.write_set) ∷ []) tx h in
    elim (cases_Bool (nat_lt 0 (length (rejects_in options)))) [
      | inl some ↦
          let both = and-both (length options == 1) (is_some (value_of options choice.tx)) (and-not (nat_lt 0 (length (rejects_in options))) (length options == 1 && is_some (value_of options choice.tx)) known some) in
          one-offered options choice tx both.0 both.1 parts.1
      | inr none ↦ accepted-known options tx none parts.0
    ]

-- ---- deltas, where nothing was adopted

-- the fact adopts the instance
abbrev pub adopts : Key → ℕ → Fact → Bool
adopts key version (Fact.Adopted k v item adds) = v == version && key_eq k key
adopts key version _ = false

is-none : {X : Type 0} (a : Option X) → is_some a ≡ false → a ≡ None
is-none None h = refl
is-none (Some x) h = absurd (cc)

-- the fact says nothing of the transaction
given-still : (facts : List Fact) (fact : Fact) (key : Key) (version : ℕ) (tx : TxId) → value_of (deltas_at facts key version) tx ≡ value_of (deltas_given key version (heard_of facts tx)) tx
    → value_of (deltas_from key version fact) tx ≡ None → outcome_in tx fact ≡ None
    → value_of (deltas_at (fact ∷ facts) key version) tx ≡ value_of (deltas_given key version (heard_of (fact ∷ facts) tx)) tx
given-still facts fact key version tx before none same =
    value_of-union (deltas_at facts key version) (deltas_from key version fact) tx
    ∙ ap (option_or (value_of (deltas_at facts key version) tx)) none
    ∙ or_right (value_of (deltas_at facts key version) tx)
    ∙ before
    ∙ ap (λ heard. value_of (deltas_given key version heard) tx) (sym (ap (option_or (heard_of facts tx)) same ∙ or_right (heard_of facts tx)))

-- it says how the transaction ended, which was not heard before
given-heard : (facts : List Fact) (t : TxId) (outcome : Outcome) (key : Key) (version : ℕ) (tx : TxId) → value_of (deltas_at facts key version) tx ≡ value_of (deltas_given key version (heard_of facts tx)) tx
    → tx_eq t tx ≡ true → heard_of facts tx ≡ None
    → value_of (deltas_at (Fact.Heard t outcome ∷ facts) key version) tx ≡ value_of (deltas_given key version (heard_of (Fact.Heard t outcome ∷ facts) tx)) tx
given-heard facts t outcome key version tx before same none =
    let fact = Fact.Heard t outcome in
    let nothing : value_of (deltas_at facts key version) tx ≡ None = before ∙ ap (λ heard. value_of (deltas_given key version heard) tx) none in
    let heard : heard_of (Fact.Heard t outcome ∷ facts) tx ≡ Some outcome =
    ap (λ h. option_or h (if tx_eq t tx then Some outcome else None)) none ∙ ap (λ b. if b then Some outcome else None) same in
    value_of-union (deltas_at facts key version) (deltas_from key version (Fact.Heard t outcome)) tx
    ∙ ap (λ d. option_or d (value_of (deltas_from key version (Fact.Heard t outcome)) tx)) nothing
    ∙ given-is key version tx t outcome
    ∙ ap (λ h. value_of (deltas_given key version h) tx) (sym heard)

given-more : (facts : List Fact) (fact : Fact) (key : Key) (version : ℕ) → MayBeAdded facts fact → adopts key version fact ≡ false → AreGivenByOutcomes facts key version → AreGivenByOutcomes (fact ∷ facts) key version
given-more facts (Fact.Booted epoch) key version may other before tx = given-still facts (Fact.Booted epoch) key version tx (before tx) refl refl
given-more facts (Fact.Floor origin era upto) key version may other before tx = given-still facts (Fact.Floor origin era upto) key version tx (before tx) refl refl
given-more facts (Fact.Promised k low high b) key version may other before tx = given-still facts (Fact.Promised k low high b) key version tx (before tx) refl refl
given-more facts (Fact.Voted k v b options offered) key version may other before tx = given-still facts (Fact.Voted k v b options offered) key version tx (before tx) refl refl
given-more facts (Fact.Heard t outcome) key version may other before tx = elim (cases_Bool (tx_eq t tx)) [
  | inl same ↦
      let none : heard_of facts tx ≡ None = is-none (heard_of facts tx) (ap (is_heard facts) (sym (tx_eq-same t tx same)) ∙ may.heard) in
      given-heard facts t outcome key version tx (before tx) same none
  | inr apart ↦ given-still facts (Fact.Heard t outcome) key version tx (before tx) (none-heard key version tx t outcome may.well_formed apart) (rw apart refl)
]
given-more facts (Fact.Adopted k v item adds) key version may other before tx =
    given-still facts (Fact.Adopted k v item adds) key version tx (before tx) (rw other refl) refl

-- ---- one more fact

-- a vote in the instance
module _ (tally : Tally) (facts : List Fact) (key : Key) (version : ℕ) (is : IsTally tally facts key version) where
  few-entries : (tally.accepts ≤ 2 ^ 32 - 1) × (tally.rejects ≤ 2 ^ 32 - 1)
  few-entries = (omega (arith, ap (λ (p : ℕ × ℕ). p.0) is.entries), omega (arith, ap (λ (p : ℕ × ℕ). p.1) is.entries))

  unknown-before : (fact : Fact) (tx : TxId) → value_of (write_sets_of (fact ∷ facts)) tx ≡ None → (value_of (write_sets_of facts) tx ≡ None) × (value_of (write_sets_from fact) tx ≡ None)
  unknown-before fact tx h = or-none (value_of (write_sets_of facts) tx) (value_of (write_sets_from fact) tx) (sym (write_set-updates facts fact tx) ∙ h)

  -- a fact that votes nothing in the instance, and does not adopt it
  pub tally-same : (fact : Fact) → ((ballot : Ballot) → marks_voted key version ballot fact ≡ []) → ((tx : TxId) → mark_voted key version tx fact ≡ None) → adopts key version fact ≡ false
      → ballot_of_vote key version fact ≡ fast_ballot → MayBeAdded facts fact → IsTally tally (fact ∷ facts) key version
  tally-same fact marks votes other fast may = record {
    ballot = is.ballot ∙ sym (ap (ballot_max (greatest_voted facts key version)) fast ∙ max_right (greatest_voted facts key version));
    given = λ free. given-more facts fact key version may other (is.given free);
    entries = is.entries ∙ sym (entries-update facts fact key version may ∙ ap (fold with_mark (plain_entries_at facts key version)) (marks fast_ballot));
    known = λ free tx h. ap (λ v. later_vote v (mark_voted key version tx fact)) (is.known free tx (unknown-before fact tx h).0) ∙ votes tx;
  }

  -- an adoption of the instance
  pub tally-adopted : (k : Key) (v : ℕ) (item : Item) (adds : List Delta) → MayBeAdded facts (Fact.Adopted k v item adds) → IsTally (with_adopted tally) (Fact.Adopted k v item adds ∷ facts) key version
  tally-adopted k v item adds may = record {
    entries = is.entries ∙ sym (entries-update facts (Fact.Adopted k v item adds) key version may);
    ballot = is.ballot ∙ sym (max_right (greatest_voted facts key version));
    given = λ never. absurd (cc);
    known = λ free tx h. ap (λ v. later_vote v None) (is.known free tx (unknown-before (Fact.Adopted k v item adds) tx h).0);
  }

  fast-marks : Ballot → Options → Options
  fast-marks ballot options = if ballot_eq ballot fast_ballot then options else []

  counted-marks : (ballot : Ballot) (options : Options) → fold with_mark (tally.accepts, tally.rejects) (if ballot_eq ballot fast_ballot then options else [])
      ≡ (limited tally.accepts (counted_at ballot (length (accepts_in options))), limited tally.rejects (counted_at ballot (length (rejects_in options))))
  counted-marks ballot options = elim (cases_Bool (ballot_eq ballot fast_ballot)) [
    | inl fast ↦ rw fast (counts-more tally.accepts tally.rejects options few-entries.0 few-entries.1)
    | inr classic ↦
        let left = limited-none tally.accepts few-entries.0 in
        let right = limited-none tally.rejects few-entries.1 in
        rw classic (λ i. (sym left i, sym right i))
  ]

  pub tally-more : (k : Key) (v : ℕ) (ballot : Ballot) (options : Options) (offered : Option Choice) → (v == version) ≡ true → key_eq k key ≡ true
      → MayBeAdded facts (Fact.Voted k v ballot options offered) → IsTally (with_vote tally ballot options offered) (Fact.Voted k v ballot options offered ∷ facts) key version
  tally-more k v ballot options offered same-version same-key may =
      let fact = Fact.Voted k v ballot options offered in
      let marks : marks_voted key version fast_ballot fact ≡ (if ballot_eq ballot fast_ballot then options else []) = by (ballot_eq ballot fast_ballot) refl in
      record {
        entries = sym (counted-marks ballot options)
            ∙ ap (λ counts. fold with_mark counts (if ballot_eq ballot fast_ballot then options else [])) is.entries
            ∙ sym (entries-update facts fact key version may ∙ ap (fold with_mark (plain_entries_at facts key version)) marks);
        ballot = rw (same-version, same-key) (ap (λ b. ballot_max b ballot) is.ballot);
        given = λ free. given-more facts (Fact.Voted k v ballot options offered) key version may refl (is.given free);
        known = λ free tx h.
            let parts = or-both tally.bare (is_bare options offered) free in
            let before = unknown-before fact tx h in
            let none : mark_voted key version tx fact ≡ None = rw (same-version, same-key) (ap (option_map (λ mark. (ballot, mark))) (marks-known k v ballot options offered tx parts.1 before.1)) in
            ap (λ vote. later_vote vote (mark_voted key version tx fact)) (is.known parts.0 tx before.0) ∙ none;
      }
    where
      by : (fast : Bool) → ballot_eq ballot fast_ballot ≡ fast → marks_voted key version fast_ballot (Fact.Voted k v ballot options offered) ≡ (if fast then options else [])
      by true is = rw (same-version, is, same-key) refl
      by false is = rw (same-version, is) refl

-- all tallies, with one more vote
pub tallies-more : (old new : Tallied) (facts : List Fact) (k : Key) (v : ℕ) (ballot : Ballot) (options : Options) (offered : Option Choice)
    → ((other : Key × ℕ) → tally_in new other ≡ (if instance_eq other (k, v) then with_vote (tally_in old (k, v)) ballot options offered else tally_in old other))
    → HoldsTallies old facts → MayBeAdded facts (Fact.Voted k v ballot options offered) → HoldsTallies new (Fact.Voted k v ballot options offered ∷ facts)
tallies-more old new facts k v ballot options offered gives holds may key version =
    let turned : instance_eq (key, version) (k, v) ≡ (v == version && key_eq k key) = same-instance key version (k, v) in
    elim (cases_Bool (instance_eq (key, version) (k, v))) [
      | inl same ↦
          let one : (key, version) ≡ (k, v) = instance_eq-one (key, version) (k, v) same in
          let parts = and-both (v == version) (key_eq k key) (sym turned ∙ same) in
          let now : tally_in new (key, version) ≡ with_vote (tally_in old (key, version)) ballot options offered =
          gives (key, version) ∙ rw same (ap (λ i. with_vote (tally_in old i) ballot options offered) (sym one)) in
          subst (λ tally. IsTally tally (Fact.Voted k v ballot options offered ∷ facts) key version) (sym now)
          (tally-more (tally_in old (key, version)) facts key version (holds key version) k v ballot options offered parts.0 parts.1 may)
      | inr apart ↦
          let elsewhere : (v == version && key_eq k key) ≡ false = sym turned ∙ apart in
          let now : tally_in new (key, version) ≡ tally_in old (key, version) = gives (key, version) ∙ rw apart refl in
          subst (λ tally. IsTally tally (Fact.Voted k v ballot options offered ∷ facts) key version) (sym now)
          (tally-same (tally_in old (key, version)) facts key version (holds key version) (Fact.Voted k v ballot options offered)
          (λ b. no-marks b elsewhere) (λ tx. rw elsewhere refl) refl (rw elsewhere refl) may)
    ]
  where
    no-marks : (b : Ballot) → (v == version && key_eq k key) ≡ false → marks_voted key version b (Fact.Voted k v ballot options offered) ≡ []
    no-marks b h = grind (arith, h)

-- all tallies, with one more adoption
pub tallies-adopted : (old new : Tallied) (facts : List Fact) (k : Key) (v : ℕ) (item : Item) (adds : List Delta)
    → ((other : Key × ℕ) → tally_in new other ≡ (if instance_eq other (k, v) then with_adopted (tally_in old (k, v)) else tally_in old other))
    → HoldsTallies old facts → MayBeAdded facts (Fact.Adopted k v item adds) → HoldsTallies new (Fact.Adopted k v item adds ∷ facts)
tallies-adopted old new facts k v item adds gives holds may key version =
    let turned : instance_eq (key, version) (k, v) ≡ (v == version && key_eq k key) = same-instance key version (k, v) in
    elim (cases_Bool (instance_eq (key, version) (k, v))) [
      | inl same ↦
          let one : (key, version) ≡ (k, v) = instance_eq-one (key, version) (k, v) same in
          let now : tally_in new (key, version) ≡ with_adopted (tally_in old (key, version)) =
          gives (key, version) ∙ rw same (ap (λ i. with_adopted (tally_in old i)) (sym one)) in
          subst (λ tally. IsTally tally (Fact.Adopted k v item adds ∷ facts) key version) (sym now)
          (tally-adopted (tally_in old (key, version)) facts key version (holds key version) k v item adds may)
      | inr apart ↦
          let elsewhere : (v == version && key_eq k key) ≡ false = sym turned ∙ apart in
          let now : tally_in new (key, version) ≡ tally_in old (key, version) = gives (key, version) ∙ rw apart refl in
          subst (λ tally. IsTally tally (Fact.Adopted k v item adds ∷ facts) key version) (sym now)
          (tally-same (tally_in old (key, version)) facts key version (holds key version) (Fact.Adopted k v item adds) (λ b. refl) (λ tx. refl) elsewhere refl may)
    ]

-- a fact that is no vote and no adoption changes none
pub tallies-same : (old : Tallied) (facts : List Fact) (fact : Fact) → ((key : Key) (version : ℕ) (ballot : Ballot) → marks_voted key version ballot fact ≡ [])
    → ((key : Key) (version : ℕ) (tx : TxId) → mark_voted key version tx fact ≡ None) → ((key : Key) (version : ℕ) → adopts key version fact ≡ false)
    → ((key : Key) (version : ℕ) → ballot_of_vote key version fact ≡ fast_ballot)
    → HoldsTallies old facts → MayBeAdded facts fact → HoldsTallies old (fact ∷ facts)
tallies-same old facts fact marks votes others fast holds may key version =
    tally-same (tally_in old (key, version)) facts key version (holds key version) fact (marks key version) (votes key version) (others key version) (fast key version) may

pub tallies-kept : (old : Tallied) (facts : List Fact) (fact : Fact)
    → ((k : Key) (v : ℕ) (ballot : Ballot) (options : Options) (offered : Option Choice) → fact ≡ Fact.Voted k v ballot options offered → ⊥)
    → ((k : Key) (v : ℕ) (item : Item) (adds : List Delta) → fact ≡ Fact.Adopted k v item adds → ⊥) → HoldsTallies old facts → MayBeAdded facts fact → HoldsTallies old (fact ∷ facts)
tallies-kept old facts (Fact.Voted k v ballot options offered) no_vote no_adoption holds may = absurd (no_vote k v ballot options offered refl)
tallies-kept old facts (Fact.Adopted k v item adds) no_vote no_adoption holds may = absurd (no_adoption k v item adds refl)
tallies-kept old facts (Fact.Booted epoch) no_vote no_adoption holds may =
    tallies-same old facts (Fact.Booted epoch) (λ k v b. refl) (λ k v tx. refl) (λ k v. refl) (λ k v. refl) holds may
tallies-kept old facts (Fact.Floor origin era upto) no_vote no_adoption holds may =
    tallies-same old facts (Fact.Floor origin era upto) (λ k v b. refl) (λ k v tx. refl) (λ k v. refl) (λ k v. refl) holds may
tallies-kept old facts (Fact.Promised k low high b) no_vote no_adoption holds may =
    tallies-same old facts (Fact.Promised k low high b) (λ k v b. refl) (λ k v tx. refl) (λ k v. refl) (λ k v. refl) holds may
tallies-kept old facts (Fact.Heard t outcome) no_vote no_adoption holds may =
    tallies-same old facts (Fact.Heard t outcome) (λ k v b. refl) (λ k v tx. refl) (λ k v. refl) (λ k v. refl) holds may

-- before any vote
pub tallies_none : (room : ℕ) → HoldsTallies (record { instances = record { room = room; keys = [] }; tallies = [] }) []
tallies_none room key version = record { entries = refl; ballot = refl; given = λ free tx. refl; known = λ free tx h. refl }
