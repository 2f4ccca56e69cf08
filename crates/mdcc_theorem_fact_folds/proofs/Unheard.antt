-- The transactions that are not resolved, with one more fact.
use Rattle.mdcc_base.specs.declared.key.Key.{Key}
use Rattle.std.proofs.Common.{◌≡◌, Bool, true, false, List, [], ◌∷◌, Option, Some, None, is_some, refl, sym, ap, ◌∙◌, inl, inr, fold, ℕ}
use Rattle.std.specs.List.{list_all}
use Rattle.std.specs.Option.{option_or}
use Rattle.std.specs.Prelude.{filter, if◌then◌else◌, not}
use Rattle.std.proofs.lemmas.Bool.{and_parts, cases_Bool}
use Rattle.mdcc_base.specs.TxId.{tx_eq}
use Rattle.mdcc_base.specs.declared.identifiers.TxId.{TxId}
use Rattle.mdcc_option.specs.declared.choices.Outcome.{Outcome}
use Rattle.mdcc_struct.specs.Maps.{TxMap, are_ascending, value_of}
use Rattle.mdcc_struct.proofs.Inclusion.{same_found}
use Rattle.mdcc_struct.proofs.Order.{tx_eq-same, tx_eq-sym}
use Rattle.mdcc_struct.proofs.Values.{entry_value, value_of-union, value_of-with_entry}
use Rattle.mdcc_struct.proofs.Walks.{ascending-filter, ascending-union, ascending-with_entry}
use Rattle.mdcc_def_protocol.specs.Facts.{heard_of, is_heard, outcome_in, write_sets_from, write_sets_of}
use Rattle.mdcc_def_protocol.specs.Plain.{plain_unresolved_of}
use Rattle.mdcc_def_messages.specs.declared.facts.Fact.{Fact}
use Rattle.mdcc_theorem_fact_folds.specs.Unresolved.{OutcomeOfUnknown, UnresolvedAscends, UnresolvedUpdates, VoteOfKnown, WriteSetByWalk, WriteSetUpdates, WriteSetUnheard, is_choice_of, with_unheard, without_entry_of}
use Rattle.mdcc_theorem_fact_folds.proofs.Chosen.{or_assoc, or_left, or_right}
use Rattle.mdcc_theorem_fact_folds.proofs.Folded.{gathered, gathered-walk}
use Rattle.mdcc_theorem_fact_folds.proofs.Ignored.{left_out}

-- ---- what is found

abbrev pub kept_value : {X : Type 0} → Bool → Option X → Option X
kept_value keep o = if keep then o else None

pub value-kept : {X : Type 0} (keep : TxId → Bool) (m : TxMap X) (tx : TxId) → value_of (filter (λ e. keep e.0) m) tx ≡ kept_value (keep tx) (value_of m tx)
value-kept keep [] tx = by (keep tx)
  where
    by : {X : Type 0} (b : Bool) → None ≡ kept_value {X = X} b None
    by true = refl
    by false = refl
value-kept keep (e ∷ es) tx =
    let ih = value-kept keep es tx in
    elim (cases_Bool (tx_eq e.0 tx)) [
      | inl same ↦
          let is : e.0 ≡ tx = tx_eq-same e.0 tx same in
          elim (cases_Bool (keep tx)) [
            | inl kept ↦ let here : keep e.0 ≡ true = ap keep is ∙ kept in rw (here, same, kept) refl
            | inr left ↦ let here : keep e.0 ≡ false = ap keep is ∙ left in rw (here, same, left) (ih ∙ rw left refl)
          ]
      | inr other ↦ elim (cases_Bool (keep e.0)) [
        | inl kept ↦ rw (kept, other) ih
        | inr left ↦ rw (left, other) ih
      ]
    ]

pub write_sets-ascend : (facts : List Fact) → are_ascending (write_sets_of facts) ≡ true
write_sets-ascend [] = refl
write_sets-ascend (fact ∷ facts) = ascending-union (write_sets_of facts) (write_sets_from fact) (write_sets-ascend facts)

pub unresolved-ascends : UnresolvedAscends
unresolved-ascends facts = ascending-filter (λ e. not (is_heard facts e.0)) (write_sets_of facts) (write_sets-ascend facts)

unresolved-value : (facts : List Fact) (tx : TxId) → value_of (plain_unresolved_of facts) tx ≡ kept_value (not (is_heard facts tx)) (value_of (write_sets_of facts) tx)
unresolved-value facts tx = value-kept (λ t. not (is_heard facts t)) (write_sets_of facts) tx

pub write_set-unheard : WriteSetUnheard
write_set-unheard facts tx = unresolved-value facts tx ∙ by (is_heard facts tx) (value_of (write_sets_of facts) tx)
  where
    by : {X : Type 0} (b : Bool) (o : Option X) → kept_value (not b) o ≡ (if b then None else o)
    by true o = refl
    by false o = refl

-- ---- a vote

abbrev unless : {X : Type 0} → Bool → Option X → Option X
unless heard o = if heard then None else o

heard_none : {X : Type 0} (heard : Bool) → None ≡ unless {X = X} heard None
heard_none true = refl
heard_none false = refl

module _ {X : Type 0} (facts : List Fact) where
  abbrev unheard_value : TxId → Option X → Option X
  unheard_value tx o = unless (is_heard facts tx) o

  with_unheard-value : (m : TxMap X) (e : TxId × X) (tx : TxId) → value_of (with_unheard facts m e) tx ≡ option_or (value_of m tx) (unheard_value tx (entry_value e tx))
  with_unheard-value m e tx =
      elim (cases_Bool (tx_eq e.0 tx)) [
        | inl same ↦
            let is : e.0 ≡ tx = tx_eq-same e.0 tx same in
            elim (cases_Bool (is_heard facts tx)) [
              | inl heard ↦ let here : is_heard facts e.0 ≡ true = ap (is_heard facts) is ∙ heard in rw (here, heard) (sym (or_right (value_of m tx)))
              | inr unheard ↦ let here : is_heard facts e.0 ≡ false = ap (is_heard facts) is ∙ unheard in rw (here, unheard) (value_of-with_entry m e tx)
            ]
        | inr other ↦
            let none : option_or (value_of m tx) (unheard_value tx (entry_value e tx)) ≡ value_of m tx =
            rw other (ap (λ o. option_or (value_of m tx) o) (sym (heard_none (is_heard facts tx))) ∙ or_right (value_of m tx)) in
            elim (cases_Bool (is_heard facts e.0)) [
              | inl heard ↦ rw heard (sym none)
              | inr unheard ↦ rw unheard (value_of-with_entry m e tx ∙ rw other (or_right (value_of m tx)) ∙ sym none)
            ]
      ]

  unheard-or : (tx : TxId) (e : TxId × X) (es : TxMap X)
      → option_or (unheard_value tx (entry_value e tx)) (unheard_value tx (value_of es tx)) ≡ unheard_value tx (value_of (e ∷ es) tx)
  unheard-or tx e es =
      elim (cases_Bool (is_heard facts tx)) [
        | inl heard ↦ rw heard refl
        | inr unheard ↦ elim (cases_Bool (tx_eq e.0 tx)) [
          | inl same ↦ rw (unheard, same) refl
          | inr other ↦ rw (unheard, other) refl
        ]
      ]

  pub folded-value : (m es : TxMap X) (tx : TxId) → value_of (fold (with_unheard facts) m es) tx ≡ option_or (value_of m tx) (unheard_value tx (value_of es tx))
  folded-value m [] tx = sym (ap (λ o. option_or (value_of m tx) o) (sym (heard_none (is_heard facts tx))) ∙ or_right (value_of m tx))
  folded-value m (e ∷ es) tx =
      folded-value (with_unheard facts m e) es tx
      ∙ ap (λ o. option_or o (unheard_value tx (value_of es tx))) (with_unheard-value m e tx)
      ∙ or_assoc (value_of m tx) (unheard_value tx (entry_value e tx)) (unheard_value tx (value_of es tx))
      ∙ ap (λ o. option_or (value_of m tx) o) (unheard-or tx e es)

  pub folded-ascends : (m es : TxMap X) → are_ascending m ≡ true → are_ascending (fold (with_unheard facts) m es) ≡ true
  folded-ascends m [] up = up
  folded-ascends m (e ∷ es) up =
      folded-ascends (with_unheard facts m e) es
      (elim (cases_Bool (is_heard facts e.0)) [
        | inl heard ↦ rw heard up
        | inr unheard ↦ rw unheard (ascending-with_entry m e up)
      ])

-- an outcome of none more was heard
vote-values : {X : Type 0} (before : Option Outcome) (a b : Option X)
    → kept_value (not (is_some (option_or before None))) (option_or a b) ≡ option_or (kept_value (not (is_some before)) a) (if is_some before then None else b)
vote-values None a b = refl
vote-values (Some outcome) a b = refl

module _ (facts : List Fact) (fact : Fact) (silent : (tx : TxId) → outcome_in tx fact ≡ None) where
  vote-more : plain_unresolved_of (fact ∷ facts) ≡ fold (with_unheard facts) (plain_unresolved_of facts) (write_sets_from fact)
  vote-more =
      same_found (plain_unresolved_of (fact ∷ facts)) (fold (with_unheard facts) (plain_unresolved_of facts) (write_sets_from fact))
      (unresolved-ascends (fact ∷ facts)) (folded-ascends facts (plain_unresolved_of facts) (write_sets_from fact) (unresolved-ascends facts))
      (λ tx.
      unresolved-value (fact ∷ facts) tx
      ∙ ap (λ o. kept_value (not (is_some (option_or (heard_of facts tx) o))) (value_of (write_sets_of (fact ∷ facts)) tx)) (silent tx)
      ∙ ap (λ o. kept_value (not (is_some (option_or (heard_of facts tx) None))) o) (value_of-union (write_sets_of facts) (write_sets_from fact) tx)
      ∙ vote-values (heard_of facts tx) (value_of (write_sets_of facts) tx) (value_of (write_sets_from fact) tx)
      ∙ ap (λ o. option_or o (if is_heard facts tx then None else value_of (write_sets_from fact) tx)) (sym (unresolved-value facts tx))
      ∙ sym (folded-value facts (plain_unresolved_of facts) (write_sets_from fact) tx))

-- ---- an outcome

heard-values : {X : Type 0} (before : Option Outcome) (outcome : Outcome) (same : Bool) (a : Option X)
    → kept_value (not (is_some (option_or before (if same then Some outcome else None)))) a ≡ kept_value (not same) (kept_value (not (is_some before)) a)
heard-values None outcome true a = refl
heard-values None outcome false a = refl
heard-values (Some before) outcome true a = refl
heard-values (Some before) outcome false a = refl

heard-more : (facts : List Fact) (t : TxId) (outcome : Outcome) → plain_unresolved_of (Fact.Heard t outcome ∷ facts) ≡ without_entry_of t (plain_unresolved_of facts)
heard-more facts t outcome =
    same_found (plain_unresolved_of (Fact.Heard t outcome ∷ facts)) (without_entry_of t (plain_unresolved_of facts))
    (unresolved-ascends (Fact.Heard t outcome ∷ facts)) (ascending-filter (λ e. not (tx_eq e.0 t)) (plain_unresolved_of facts) (unresolved-ascends facts))
    (λ tx.
    unresolved-value (Fact.Heard t outcome ∷ facts) tx
    ∙ heard-values (heard_of facts tx) outcome (tx_eq t tx) (value_of (write_sets_of facts) tx)
    ∙ ap (λ b. kept_value (not b) (kept_value (not (is_heard facts tx)) (value_of (write_sets_of facts) tx))) (tx_eq-sym t tx)
    ∙ ap (λ o. kept_value (not (tx_eq tx t)) o) (sym (unresolved-value facts tx))
    ∙ sym (value-kept (λ s. not (tx_eq s t)) (plain_unresolved_of facts) tx))

pub unresolved-updates : UnresolvedUpdates
unresolved-updates facts (Fact.Booted epoch) = vote-more facts (Fact.Booted epoch) (λ tx. refl)
unresolved-updates facts (Fact.Floor origin era upto) = vote-more facts (Fact.Floor origin era upto) (λ tx. refl)
unresolved-updates facts (Fact.Promised k low high b) = vote-more facts (Fact.Promised k low high b) (λ tx. refl)
unresolved-updates facts (Fact.Voted k v b options offered) = vote-more facts (Fact.Voted k v b options offered) (λ tx. refl)
unresolved-updates facts (Fact.Heard t outcome) = heard-more facts t outcome
unresolved-updates facts (Fact.Adopted k v item adds) = vote-more facts (Fact.Adopted k v item adds) (λ tx. refl)

-- ---- write sets

pub write_set-updates : WriteSetUpdates
write_set-updates facts fact tx = value_of-union (write_sets_of facts) (write_sets_from fact) tx

write_set-gathered : (tx : TxId) (facts : List Fact) → value_of (write_sets_of facts) tx ≡ gathered option_or None (λ fact. value_of (write_sets_from fact) tx) facts
write_set-gathered tx [] = refl
write_set-gathered tx (fact ∷ facts) =
    write_set-updates facts fact tx ∙ ap (λ o. option_or o (value_of (write_sets_from fact) tx)) (write_set-gathered tx facts)

none-found : {X : Type 0} (o : Option X) → is_some o ≡ false → o ≡ None
none-found None h = refl
none-found (Some x) h = absurd (cc)

pub write_set-walk : WriteSetByWalk
write_set-walk keep tx covers facts =
    write_set-gathered tx facts
    ∙ gathered-walk option_or None (λ fact. value_of (write_sets_from fact) tx) or_left or_right or_assoc keep
    (λ fact left. none-found (value_of (write_sets_from fact) tx) (left_out keep (is_choice_of tx) covers fact left)) facts

-- ---- facts that change nothing

known-entry : (facts : List Fact) (e : TxId × List (Key × ℕ)) → is_some (value_of (write_sets_of facts) e.0) ≡ true
    → with_unheard facts (plain_unresolved_of facts) e ≡ plain_unresolved_of facts
known-entry facts e known =
    elim (cases_Bool (is_heard facts e.0)) [
      | inl heard ↦ rw heard refl
      | inr unheard ↦
          let there : is_some (value_of (plain_unresolved_of facts) e.0) ≡ true =
          ap (λ o. is_some o) (unresolved-value facts e.0) ∙ rw unheard known in
          rw (unheard, there) refl
    ]

known-entries : (facts : List Fact) (es : TxMap (List (Key × ℕ))) → list_all (λ e. is_some (value_of (write_sets_of facts) e.0)) es ≡ true
    → fold (with_unheard facts) (plain_unresolved_of facts) es ≡ plain_unresolved_of facts
known-entries facts [] known = refl
known-entries facts (e ∷ es) known =
    let parts = and_parts (is_some (value_of (write_sets_of facts) e.0)) (list_all (λ e. is_some (value_of (write_sets_of facts) e.0)) es) known in
    ap (λ m. fold (with_unheard facts) m es) (known-entry facts e parts.0) ∙ known-entries facts es parts.1

pub vote-known : VoteOfKnown
vote-known facts fact known = known-entries facts (write_sets_from fact) known

-- without an entry that is not there
without-none : {X : Type 0} (m : TxMap X) (tx : TxId) → is_some (value_of m tx) ≡ false → without_entry_of tx m ≡ m
without-none [] tx none = refl
without-none (e ∷ es) tx none =
    elim (cases_Bool (tx_eq e.0 tx)) [
      | inl same ↦ absurd (let bad : true ≡ false = rw same at none in cc)
      | inr other ↦ rw other (ap (λ xs. e ∷ xs) (without-none es tx (rw other at none)))
    ]

kept-none : {X : Type 0} (keep : Bool) (o : Option X) → is_some o ≡ false → is_some (kept_value keep o) ≡ false
kept-none true o h = h
kept-none false o h = refl

pub outcome-unknown : OutcomeOfUnknown
outcome-unknown facts tx none =
    without-none (plain_unresolved_of facts) tx
    (ap (λ o. is_some o) (unresolved-value facts tx) ∙ kept-none (not (is_heard facts tx)) (value_of (write_sets_of facts) tx) none)
