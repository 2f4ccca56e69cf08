-- What is read of the fact of a number.
use Rattle.std.proofs.Common.{◌≡◌, ◌<◌, ◌+◌, ℕ, zero, suc, Bool, true, false, List, [], ◌∷◌, Option, Some, None, get_or, length, map, option_map, refl, sym, ap, ◌∙◌, arith, inl, inr}
use Rattle.std.specs.List.{filter, list_all, list_any}
use Rattle.std.specs.Prelude.{Err, IfOk, Ok, Result, ◌==◌, ◌||◌}
use Rattle.std.proofs.lemmas.Bool.{and_parts, cases_Bool}
use Rattle.std.proofs.lemmas.Bool.Decides.{nat_tests}
use Rattle.mdcc_base.specs.declared.identifiers.TxId.{TxId}
use Rattle.mdcc_base.specs.declared.key.Key.{Key}
use Rattle.mdcc_option.specs.declared.choices.Choice.{Choice}
use Rattle.mdcc_option.specs.declared.choices.Outcome.{Outcome}
use Rattle.mdcc_def_messages.specs.declared.facts.Fact.{Fact}
use Rattle.mdcc_def_protocol.specs.Facts.{heard_of}
use Rattle.mdcc_def_protocol.specs.Plain.{plain_ended_of, plain_is_void}
use Rattle.mdcc_def_protocol.specs.Marks.{is_abort, is_commit}
use Rattle.mdcc_cells_facts.specs.Holding.{HoldsEncodings}
use Rattle.mdcc_theorem_fact_folds.specs.Live.{is_ordered}
use Rattle.mdcc_cells_indices.specs.Heard.{AreHeard, HeardTxs, ended_told, is_commit_spelled, number_found}
use Rattle.mdcc_cells_indices.proofs.Endings.{answer-commit, answer-none}
use Rattle.mdcc_index.specs.Stores.{Represents, Store, is_abort_ended, is_void_told}
use Rattle.mdcc_cells_chains.specs.Walks.{entry_at}
use Rattle.mdcc_cells_indices.proofs.Entered.{fact_at}

pub entry-there : (facts : List Fact) (number : ℕ) → number < length facts → entry_at facts number ≡ Some (fact_at facts number)
entry-there [] number within = absurd (omega arith)
entry-there (fact ∷ facts) number within = elim (cases_Bool (number == length facts)) [
  | inl here ↦ rw here refl
  | inr there ↦ rw there (entry-there facts number (below fact facts number within there))
]
  where
    below : (f : Fact) (fs : List Fact) (n : ℕ) → n < length (f ∷ fs) → (n == length fs) ≡ false → n < length fs
    below f fs n within there = let few : n < length fs + 1 = omega arith in grind (arith, nat_tests)

pub found-there : {E : Type 0} (r : Result Fact E) (facts : List Fact) (number : ℕ) → number < length facts → IfOk r (λ found. found ≡ fact_at facts number) → IfOk r (λ found. entry_at facts number ≡ Some found)
found-there (Ok found) facts number within is = entry-there facts number within ∙ ap Some (sym is)
found-there (Err e) facts number within is = tt

-- one of the choices passes
pub any-at : (test : Key → Bool) (choices : List Choice) (i : ℕ) (choice : Choice) → i < length choices → choice ≡ get_or choices i choice → test choice.key ≡ true
    → list_any test (map (λ c. c.key) choices) ≡ true
any-at test [] i choice within at passes = absurd (omega arith)
any-at test (c ∷ choices) zero choice within at passes = rw (ap (λ (d : Choice). test d.key) (sym at) ∙ passes) refl
any-at test (c ∷ choices) (suc i) choice within at passes = later (test c.key) (any-at test choices i choice (omega arith) at passes)
  where
    later : (first : Bool) → list_any test (map (λ d. d.key) choices) ≡ true → (first || list_any test (map (λ d. d.key) choices)) ≡ true
    later true rest = refl
    later false rest = rest

-- ---- whether a transaction is void

ended-known : (encodings : List (List ℕ)) (index : HeardTxs) (facts : List Fact) (tx : TxId) → HoldsEncodings encodings facts → AreHeard index facts → ended_told encodings index tx ≡ plain_ended_of facts tx
ended-known encodings index facts tx holds heard = by (number_found index tx) refl
  where
    by : (found : Option ℕ) → number_found index tx ≡ found → option_map (λ number. is_commit_spelled (get_or encodings number [])) found ≡ plain_ended_of facts tx
    by None is = sym (ap (option_map is_commit) (answer-none index facts tx heard is))
    by (Some number) is = answer-commit encodings index facts tx number (is_commit_spelled (get_or encodings number [])) holds heard is refl

abort-known : (outcome : Option Outcome) → is_abort_ended (option_map is_commit outcome) ≡ is_abort outcome
abort-known None = refl
abort-known (Some Outcome.Abort) = refl
abort-known (Some (Outcome.Commit choices)) = refl

pub void-told : (store : Store) (facts : List Fact) → Represents store facts → is_void_told store ≡ plain_is_void facts
void-told store facts kept =
    let each = λ (tx : TxId). ap is_abort_ended (ended-known store.cells.encodings store.outcomes facts tx kept.cells kept.outcomes) ∙ abort-known (heard_of facts tx) in
    λ i tx. each tx i

-- ---- chains in order

pub ordered-filtered : (keep : Fact → Bool) (facts : List Fact) → list_all is_ordered facts ≡ true → list_all is_ordered (filter keep facts) ≡ true
ordered-filtered keep [] all = refl
ordered-filtered keep (fact ∷ facts) all =
    let parts = and_parts (is_ordered fact) (list_all is_ordered facts) all in
    let rest = ordered-filtered keep facts parts.1 in
    elim (cases_Bool (keep fact)) [
      | inl kept ↦ rw (kept, parts.0) rest
      | inr left ↦ rw left rest
    ]
