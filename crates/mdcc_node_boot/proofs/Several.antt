-- Votes of several marks at a classic ballot.
use Rattle.std.proofs.Common.{◌≡◌, ℕ, ◌≤◌, Bool, true, false, not, ◌&&◌, ◌==◌, nat_le, nat_lt, List, [], ◌∷◌, length, Option, is_some, refl, ◌∙◌, arith, inl, inr}
use Rattle.std.specs.List.{filter, list_all}
use Rattle.std.proofs.lemmas.Bool.{cases_Bool}
use Rattle.std.proofs.lemmas.Bool.Decides.{nat_tests}
use Rattle.mdcc_node_boot.specs.Admission.{are_new}
use Rattle.mdcc_base.specs.Ballot.{ballot_lt}
use Rattle.mdcc_base.specs.declared.identifiers.Ballot.{Ballot}
use Rattle.mdcc_base.specs.declared.key.Key.{Key}
use Rattle.mdcc_facts.specs.Past.{is_past_mark}
use Rattle.mdcc_option.specs.declared.choices.Choice.{Choice}
use Rattle.mdcc_struct.specs.Maps.{are_ascending}
use Rattle.mdcc_struct.specs.declared.options.Options.{Options}
use Rattle.mdcc_struct.proofs.Ordered.{ascending-below, ascending-tail, value_of-below}
use Rattle.mdcc_def_ledger.specs.AllowedFacts.{are_apart}
use Rattle.mdcc_def_ledger.specs.BootTest.{is_allowed_classic_vote}
use Rattle.mdcc_def_protocol.specs.Facts.{current_of, promise_of}
use Rattle.mdcc_def_messages.specs.declared.facts.Fact.{Fact}

-- ascending transactions are apart
pub ascending-apart : (options : Options) → are_ascending options ≡ true → are_apart options ≡ true
ascending-apart [] h = refl
ascending-apart (e ∷ es) h = rw (value_of-below e.0 es (ascending-below e es h), ascending-apart es (ascending-tail e es h)) refl

-- ---- a filter that keeps as many keeps all

kept-few : {X : Type 0} (test : X → Bool) (xs : List X) → length (filter test xs) ≤ length xs
kept-few test [] = omega arith
kept-few test (x ∷ xs) =
    elim (cases_Bool (test x)) [
      | inl e ↦ rw e (omega (arith, kept-few test xs))
      | inr e ↦ rw e (omega (arith, kept-few test xs))
    ]

one_more : {X : Type 0} (x : X) (ys xs : List X) → (length (x ∷ ys) == length (x ∷ xs)) ≡ (length ys == length xs)
one_more x ys xs = grind (arith, nat_tests)

one_less : {X : Type 0} (x : X) (ys xs : List X) → length ys ≤ length xs → (length ys == length (x ∷ xs)) ≡ false
one_less x ys xs h = grind (arith, nat_tests)

pub kept_all : {X : Type 0} (test : X → Bool) (xs : List X) → (length (filter test xs) == length xs) ≡ list_all test xs
kept_all test [] = refl
kept_all test (x ∷ xs) =
    elim (cases_Bool (test x)) [
      | inl e ↦ rw e (one_more x (filter test xs) xs ∙ kept_all test xs)
      | inr e ↦ rw e (one_less x (filter test xs) xs (kept-few test xs))
    ]

-- ---- the vote

in_order : (held some new bare : Bool) → (held && some && new && bare) ≡ (true && held && some && true && new && bare)
in_order true true new bare = refl
in_order true false new bare = refl
in_order false some new bare = refl

module _ (facts : List Fact) (key : Key) (version : ℕ) (ballot : Ballot) (options : Options) (offered : Option Choice) where
  pub classic_vote : ballot_lt ballot (promise_of facts key version) ≡ false → are_ascending options ≡ true
      → (nat_le version (current_of facts key) && nat_lt 0 (length options) && are_new facts key version ballot options && not (is_some offered))
      ≡ is_allowed_classic_vote facts key version ballot options offered
  classic_vote below ascending =
      rw (below, ascending-apart options ascending, kept_all (λ e. not (is_past_mark facts key version ballot e.0)) options)
      (in_order (nat_le version (current_of facts key)) (nat_lt 0 (length options)) (are_new facts key version ballot options) (not (is_some offered)))

  pub no_vote : ballot_lt ballot (promise_of facts key version) ≡ true → false ≡ is_allowed_classic_vote facts key version ballot options offered
  no_vote above = rw above refl
