-- Where each transaction was heard at most once, what each fact tells of one is what was heard of it, and a fact that is dropped tells of no choice that is needed.
use Rattle.std.proofs.Common.{◌≡◌, ◌&&◌, Bool, true, false, List, [], ◌∷◌, Option, Some, None, is_some, refl, sym, ap, ◌∙◌}
use Rattle.std.specs.List.{AllByRecursion, list_any}
use Rattle.std.specs.Prelude.{not}
use Rattle.std.proofs.lemmas.Bool.{and_parts}
use Rattle.mdcc_base.specs.declared.identifiers.TxId.{TxId}
use Rattle.mdcc_option.specs.declared.choices.Choice.{Choice}
use Rattle.mdcc_option.specs.declared.choices.Outcome.{Outcome}
use Rattle.mdcc_struct.proofs.Order.{tx_eq-refl}
use Rattle.mdcc_def_messages.specs.declared.facts.Fact.{Fact}
use Rattle.mdcc_def_protocol.specs.Facts.{heard_of, is_finished, is_idle, is_needed, is_past, shows_mark}
use Rattle.mdcc_facts.specs.Adding.{is_heard_before}
use Rattle.mdcc_theorem_fact_folds.specs.Outcomes.{are_heard_once}
use Rattle.mdcc_given_back.proofs.Alike.{each-more}

-- an outcome that a fact tells is the one that was heard
abbrev pub IsFirst : List Fact → Fact → Type 0
IsFirst all (Fact.Heard tx outcome) = heard_of all tx ≡ Some outcome
IsFirst all fact = Unit {0}

pub not-true : (b : Bool) → not b ≡ true → b ≡ false
not-true true h = absurd (cc)
not-true false h = refl

pub none-there : {X : Type 0} (o : Option X) → is_some o ≡ false → o ≡ None
none-there None h = refl
none-there (Some x) h = absurd (cc)

still-first : (facts : List Fact) (new fact : Fact) → IsFirst facts fact → IsFirst (new ∷ facts) fact
still-first facts new (Fact.Heard tx outcome) h = rw h refl
still-first facts new (Fact.Booted k) h = tt
still-first facts new (Fact.Promised k low high b) h = tt
still-first facts new (Fact.Voted k v b options offered) h = tt
still-first facts new (Fact.Adopted k v item adds) h = tt
still-first facts new (Fact.Floor c e n) h = tt

new-first : (facts : List Fact) (fact : Fact) → is_heard_before facts fact ≡ false → IsFirst (fact ∷ facts) fact
new-first facts (Fact.Heard tx outcome) h = rw (none-there (heard_of facts tx) h, tx_eq-refl tx) refl
new-first facts (Fact.Booted k) h = tt
new-first facts (Fact.Promised k low high b) h = tt
new-first facts (Fact.Voted k v b options offered) h = tt
new-first facts (Fact.Adopted k v item adds) h = tt
new-first facts (Fact.Floor c e n) h = tt

pub first-heard : (facts : List Fact) → are_heard_once facts ≡ true → AllByRecursion (IsFirst facts) facts
first-heard [] once = tt
first-heard (fact ∷ facts) once =
    let parts = and_parts (not (is_heard_before facts fact)) (are_heard_once facts) once in (
      new-first facts fact (not-true (is_heard_before facts fact) parts.0),
      each-more (IsFirst facts) (IsFirst (fact ∷ facts)) (still-first facts fact) facts (first-heard facts parts.1),
    )

-- ---- an idle transaction

module _ (all : List Fact) (tx : TxId) (idle : is_idle all tx ≡ true) where
  pub idle-past : is_past all (heard_of all tx) ≡ true
  idle-past =
      (and_parts (is_finished all tx) (is_past all (heard_of all tx))
      (and_parts (is_finished all tx && is_past all (heard_of all tx)) (not (list_any (shows_mark all tx) all)) idle).0).1

  pub idle-unshown : list_any (shows_mark all tx) all ≡ false
  idle-unshown =
      not-true (list_any (shows_mark all tx) all)
      (and_parts (is_finished all tx && is_past all (heard_of all tx)) (not (list_any (shows_mark all tx) all)) idle).1

pub unneeded-choices : (all : List Fact) (tx : TxId) (choices : List Choice) → is_idle all tx ≡ true → heard_of all tx ≡ Some (Outcome.Commit choices)
    → list_any (is_needed all) choices ≡ false
unneeded-choices all tx choices idle heard =
    not-true (list_any (is_needed all) choices) (sym (ap (is_past all) heard) ∙ idle-past all tx idle)
