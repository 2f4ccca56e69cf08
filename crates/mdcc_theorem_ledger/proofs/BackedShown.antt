-- A fact that passes the test of what backs it is backed.
use Rattle.std.proofs.Common.{◌≡◌, ℕ, Bool, true, false, cond, not, ◌==◌, ◌&&◌, ◌||◌, List, [], ◌∷◌, map, is_some, refl, sym, ap, ◌∙◌, inl, inr, ◌⊎◌, Option, Some, None, Decides, MatchBool}
use Rattle.std.specs.List.{list_any}
use Rattle.std.proofs.lemmas.Bool.{and_parts, and_from, cases_Bool, or_cases, or_left, or_right}
use Rattle.std.proofs.lemmas.Bool.Decides.{Decides-eqb, Decides-and, Decides-like}
use Rattle.mdcc_base.specs.Ballot.{ballot_eq, is_fast}
use Rattle.mdcc_base.specs.Key.{key_eq}
use Rattle.mdcc_base.specs.TxId.{tx_eq}
use Rattle.mdcc_base.specs.declared.identifiers.Ballot.{Ballot}
use Rattle.mdcc_base.specs.Quorums.{all_centres}
use Rattle.mdcc_base.specs.declared.identifiers.TxId.{TxId}
use Rattle.mdcc_base.specs.declared.key.Key.{Key}
use Rattle.mdcc_option.specs.declared.choices.Outcome.{Outcome}
use Rattle.mdcc_option.specs.declared.cluster.Cluster.{Cluster}
use Rattle.mdcc_option.specs.declared.items.Delta.{Delta}
use Rattle.mdcc_option.specs.declared.items.Item.{Item}
use Rattle.mdcc_option.proofs.Equal.{Decides-amounts, Decides-choices, Decides-item, Decides-tx}
use Rattle.mdcc_struct.specs.Maps.{TxMap, union, value_of}
use Rattle.mdcc_struct.specs.declared.options.Options.{Options}
use Rattle.mdcc_def_ledger.specs.AllowedLedgers.{IsBacked, IsSent, WasHeld, is_valued_as}
use Rattle.mdcc_theorem_ledger.specs.LedgerTest.{deltas_eq, did_hold, is_base_eq, is_fact_backed, is_outcome_found, is_valued_but, was_held, without_finished}
use Rattle.mdcc_def_protocol.specs.Facts.{base_of, current_of, executed_of, is_finished, votes_of}
use Rattle.mdcc_def_ledger.specs.Ledger.{Added, Entry, Valued, facts_of, outcome_of}
use Rattle.mdcc_def_protocol.specs.Marks.{Amounts, options_eq}
use Rattle.mdcc_def_messages.specs.declared.facts.Fact.{Fact}
use Rattle.mdcc_theorem_ledger.proofs.Found.{found}
use Rattle.mdcc_theorem_ledger.proofs.ValuedShown.{Decides-options}

none_of : {X : Type 0} (o : Option X) → is_some o ≡ false → o ≡ None
none_of None h = refl
none_of (Some x) h = absurd cc

not_false : (b : Bool) → not b ≡ false → b ≡ true
not_false true h = refl
not_false false h = absurd cc

or_false : (a b : Bool) → (a || b) ≡ false → (a ≡ false) × (b ≡ false)
or_false true b h = absurd cc
or_false false b h = (refl, h)

-- ---- what is heard

Decides-outcome : (outcome : Outcome) (found : Option Outcome) → Decides (is_outcome_found outcome found) (found ≡ Some outcome)
Decides-outcome (Outcome.Commit choices) (Some (Outcome.Commit choices')) =
    Decides-like (is_outcome_found (Outcome.Commit choices) (Some (Outcome.Commit choices'))) (λ e. cc) (λ e. cc) (Decides-choices choices choices')
Decides-outcome Outcome.Abort (Some Outcome.Abort) = (λ e. refl, λ e. refl)
Decides-outcome _ _ = (λ e. cc, λ e. cc)

-- ---- what is adopted

Decides-base : (item : Item) (base : Option Item) → Decides (is_base_eq item base) (base ≡ Some item)
Decides-base item (Some item') = Decides-like (is_base_eq item (Some item')) (λ e. cc) (λ e. cc) (Decides-item item item')
Decides-base item None = (λ e. cc, λ e. cc)

Decides-deltas : (executed : TxMap Amounts) (adds : List Delta) → Decides (deltas_eq executed adds) (executed ≡ map (λ delta. (delta.tx, delta.amounts)) adds)
Decides-deltas [] [] = (λ e. refl, λ e. refl)
Decides-deltas [] (b ∷ bs) = (λ e. cc, λ e. cc)
Decides-deltas (a ∷ as') [] = (λ e. cc, λ e. cc)
Decides-deltas (a ∷ as') (b ∷ bs) =
    Decides-like (deltas_eq (a ∷ as') (b ∷ bs)) (λ h i. (h.0.0 i, h.0.1 i) ∷ h.1 i)
    (λ e. let first : a ≡ (b.tx, b.amounts) = cc in ((ap (λ (d : TxId × Amounts). d.0) first, ap (λ (d : TxId × Amounts). d.1) first), cc))
    (Decides-and _ _ (Decides-and _ _ (Decides-tx a.0 b.tx) (Decides-amounts a.1 b.amounts)) (Decides-deltas as' bs))

held_here : (entries : List Entry) (key : Key) (version : ℕ) (item : Item) (adds : List Delta) (b : ℕ)
    → did_hold entries key version item adds b ≡ true → WasHeld entries key version item adds b [] entries
held_here entries key version item adds b h =
    let parts = (Decides-and _ _ (Decides-and _ _
    (Decides-eqb (current_of (facts_of entries b) key) version)
    (Decides-base item (base_of (facts_of entries b) key)))
    (Decides-deltas (executed_of (facts_of entries b) key) adds)).0 h in
    record { parts = refl; current = parts.0.0; base = parts.0.1; executed = parts.1 }

held_shown : (cluster : Cluster) (before : List Entry) (key : Key) (version : ℕ) (item : Item) (adds : List Delta)
    → was_held cluster before key version item adds ≡ true
    → (b : ℕ) × (later : List Entry) × (earlier : List Entry) × WasHeld before key version item adds b later earlier
held_shown cluster [] key version item adds h = absurd cc
held_shown cluster (e ∷ es) key version item adds h =
    elim (or_cases (list_any (did_hold (e ∷ es) key version item adds) (all_centres cluster.quorums)) (was_held cluster es key version item adds) h) [
      | inl here ↦
          let held : (b : ℕ) × (did_hold (e ∷ es) key version item adds b ≡ true) = found (did_hold (e ∷ es) key version item adds) (all_centres cluster.quorums) here in
          (held.0, [], e ∷ es, held_here (e ∷ es) key version item adds held.0 held.1)
      | inr there ↦
          let held = held_shown cluster es key version item adds there in (
            held.0,
            e ∷ held.1,
            held.2,
            record {
              parts = ap (λ (rest : List Entry). e ∷ rest) held.3.parts;
              current = held.3.current;
              base = held.3.base;
              executed = held.3.executed;
            },
          )
    ]

-- ---- a vote at a classic ballot

-- where a mark is left out of a structure, its transaction is finished and not among the votes
left_out : (facts : List Fact) (options structure : Options) (tx : TxId)
    → (value_of (without_finished facts options structure) tx ≡ value_of structure tx)
    ⊎ ((value_of options tx ≡ None) × (is_finished facts tx ≡ true))
left_out facts options [] tx = inl refl
left_out facts options (e ∷ es) tx =
    elim (cases_Bool (tx_eq e.0 tx)) [
      | inl same ↦ elim (cases_Bool (is_some (value_of options e.0) || not (is_finished facts e.0))) [
        | inl kept ↦ inl (rw (kept, same) refl)
        | inr gone ↦
            let at_tx : e.0 ≡ tx = (Decides-tx e.0 tx).0 same in
            let parts : (is_some (value_of options e.0) ≡ false) × (not (is_finished facts e.0) ≡ false) = or_false _ _ gone in
            inr (ap (value_of options) (sym at_tx) ∙ none_of _ parts.0, ap (is_finished facts) (sym at_tx) ∙ not_false _ parts.1)
      ]
      | inr other ↦ elim (cases_Bool (is_some (value_of options e.0) || not (is_finished facts e.0))) [
        | inl kept ↦ elim (left_out facts options es tx) [ inl rest ↦ inl (rw (kept, other) rest) | inr gone ↦ inr gone ]
        | inr gone ↦ elim (left_out facts options es tx) [ inl rest ↦ inl (rw (gone, other) rest) | inr out ↦ inr out ]
      ]
    ]

sent_here : (facts : List Fact) (key : Key) (version : ℕ) (ballot : Ballot) (options : Options) (entry : Entry)
    → is_valued_but facts key version ballot options entry ≡ true
    → (structure : Options) × (is_valued_as key version ballot structure entry ≡ true)
    × ((tx : TxId) → (value_of options tx ≡ value_of structure tx) ⊎ ((value_of options tx ≡ None) × (is_finished facts tx ≡ true)))
sent_here facts key version ballot options (Added a fact) h = absurd cc
sent_here facts key version ballot options (Entry.Begun a tx choices) h = absurd cc
sent_here facts key version ballot options (Valued a key' version' ballot' structure) h =
    let last : ((version' == version && ballot_eq ballot' ballot && key_eq key' key) ≡ true) × (options_eq (without_finished facts options structure) options ≡ true) = and_parts _ _ h in
    let same : without_finished facts options structure ≡ options = (Decides-options (without_finished facts options structure) options).0 last.1 in (
      structure,
      and_from _ (options_eq structure structure) last.0 ((Decides-options structure structure).1 refl),
      (λ tx. elim (left_out facts options structure tx) [ inl e ↦ inl (ap (λ (os : Options). value_of os tx) (sym same) ∙ e) | inr gone ↦ inr gone ]),
    )

sent_shown : (before : List Entry) (facts : List Fact) (key : Key) (version : ℕ) (ballot : Ballot) (options : Options)
    → list_any (is_valued_but facts key version ballot options) before ≡ true → IsSent before facts key version ballot options
sent_shown [] facts key version ballot options h = absurd cc
sent_shown (e ∷ es) facts key version ballot options h =
    elim (or_cases (is_valued_but facts key version ballot options e) (list_any (is_valued_but facts key version ballot options) es) h) [
      | inl here ↦
          let sent = sent_here facts key version ballot options e here in
          record { structure = sent.0; was = or_left (is_valued_as key version ballot sent.0 e) _ sent.1; same = sent.2 }
      | inr there ↦
          let sent = sent_shown es facts key version ballot options there in
          record { structure = sent.structure; was = or_right (is_valued_as key version ballot sent.structure e) _ sent.was; same = sent.same }
    ]

-- ---- facts

by_either : {P Q : Type 0} (b x y : Bool) → (x ≡ true → P) → (y ≡ true → Q) → cond b x y ≡ true → MatchBool b P Q
by_either true x y f g h = f h
by_either false x y f g h = g h

pub backed_shown : (cluster : Cluster) (before : List Entry) (a : ℕ) (fact : Fact) → is_fact_backed cluster before a fact ≡ true → IsBacked cluster before a fact
backed_shown cluster before a (Fact.Booted epoch) h = tt
backed_shown cluster before a (Fact.Promised key low high ballot) h = tt
backed_shown cluster before a (Fact.Voted key version ballot options offered) h =
    by_either (is_fast ballot) _ _ (λ e. e)
    (λ e. sent_shown before (facts_of before a) key version ballot (union (votes_of (facts_of before a) key version ballot) options) e) h
backed_shown cluster before a (Fact.Heard tx outcome) h = (Decides-outcome outcome (outcome_of cluster.quorums before tx)).0 h
backed_shown cluster before a (Fact.Adopted key version item adds) h = held_shown cluster before key version item adds h
backed_shown cluster before a (Fact.Floor centre epoch seq) h = h
