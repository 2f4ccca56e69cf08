-- What is left of a fact.
use Rattle.std.proofs.Common.{◌≡◌, ◌∷◌, ◌∙◌, ℕ, Bool, true, false, List, Option, Some, None, [], not, is_some, refl, sym, ap, inl, inr}
use Rattle.std.specs.List.{list_any}
use Rattle.std.specs.Option.{option_or}
use Rattle.std.specs.Prelude.{if◌then◌else◌, length, ◌&&◌, ◌==◌, ◌||◌}
use Rattle.std.proofs.lemmas.Bool.{cases_Bool}
use Rattle.mdcc_base.specs.declared.identifiers.TxId.{TxId}
use Rattle.mdcc_option.specs.declared.choices.Outcome.{Outcome}
use Rattle.mdcc_def_messages.specs.declared.facts.Fact.{Fact}
use Rattle.mdcc_def_protocol.specs.Facts.{has_floor, heard_of, is_floor, is_heard, is_idle, outcome_in}
use Rattle.mdcc_cells_tables.specs.Numbers.{fact_numbered}
use Rattle.mdcc_given_back.specs.Counted.{without_floors}
use Rattle.mdcc_given_back.proofs.EndingsLeft.{idle-of-heard}
use Rattle.mdcc_facts_kept.specs.Kept.{IsKept, KeptRest}
use Rattle.mdcc_facts_kept.specs.declared.forgotten.Left.{Left}
use Rattle.mdcc_struct.proofs.Order.{tx_eq-refl}
use Rattle.mdcc_facts_kept.proofs.FloorsSet.{older-heard}
use Rattle.mdcc_facts_kept.proofs.WithoutFloors.{heard-same}

pub left-vote : (past fast : Bool)
    → (if past then (if fast then Left.Dropped else Left.Bared) else Left.Whole) ≡ (if past && fast then Left.Dropped else (if past && not fast then Left.Bared else Left.Whole))
left-vote true true = refl
left-vote true false = refl
left-vote false fast = refl

-- ---- an outcome that is among the facts was heard

some-either : {X : Type 0} (a b : Option X) → is_some b ≡ true → is_some (option_or a b) ≡ true
some-either None b h = h
some-either (Some x) b h = refl

heard-here : (facts : List Fact) (tx : TxId) (outcome : Outcome) → is_heard (Fact.Heard tx outcome ∷ facts) tx ≡ true
heard-here facts tx outcome = some-either (heard_of facts tx) (outcome_in tx (Fact.Heard tx outcome)) (rw (tx_eq-refl tx) refl)

heard-there : (facts : List Fact) (number : ℕ) (tx : TxId) (outcome : Outcome) → fact_numbered facts number ≡ Some (Fact.Heard tx outcome) → is_heard facts tx ≡ true
heard-there [] number tx outcome seen = absurd (cc)
heard-there (fact ∷ facts) number tx outcome seen = elim (cases_Bool (number == length facts)) [
  | inl here ↦
      let one : Some fact ≡ Some (Fact.Heard tx outcome) = rw here at seen in
      let is : fact ≡ Fact.Heard tx outcome = cc in
      ap (λ (f : Fact). is_heard (f ∷ facts) tx) is ∙ heard-here facts tx outcome
  | inr there ↦ older-heard fact facts tx (heard-there facts number tx outcome (rw there at seen))
]

-- of an outcome that is left it is asked of all facts whether it is idle
pub idle-there : (store : KeptRest) (facts : List Fact) (kept : IsKept store facts) (number : ℕ) (tx : TxId) (outcome : Outcome)
    → fact_numbered (without_floors kept.rest) number ≡ Some (Fact.Heard tx outcome) → is_idle kept.rest tx ≡ is_idle facts tx
idle-there store facts kept number tx outcome seen =
    idle-of-heard kept.rest facts tx kept.is_rest kept.added.heard
    (ap (λ (o : Option Outcome). is_some o) (sym (heard-same kept.rest tx)) ∙ heard-there (without_floors kept.rest) number tx outcome seen)

-- ---- no floor is among them

any-there : (test : Fact → Bool) (facts : List Fact) (number : ℕ) (fact : Fact) → fact_numbered facts number ≡ Some fact → test fact ≡ true → list_any test facts ≡ true
any-there test [] number fact seen is = absurd (cc)
any-there test (f ∷ facts) number fact seen is = elim (cases_Bool (number == length facts)) [
  | inl here ↦
      let one : Some f ≡ Some fact = rw here at seen in
      let same : f ≡ fact = cc in
      ap (λ b. b || list_any test facts) (ap test same ∙ is)
  | inr there ↦ ap (λ b. test f || b) (any-there test facts number fact (rw there at seen) is) ∙ or-true (test f)
]
  where
    or-true : (a : Bool) → (a || true) ≡ true
    or-true true = refl
    or-true false = refl

pub no-floor-there : (facts : List Fact) (number centre epoch seq : ℕ) → has_floor facts ≡ false → fact_numbered facts number ≡ Some (Fact.Floor centre epoch seq) → true ≡ false
no-floor-there facts number centre epoch seq none seen = sym (any-there is_floor facts number (Fact.Floor centre epoch seq) seen refl) ∙ none
