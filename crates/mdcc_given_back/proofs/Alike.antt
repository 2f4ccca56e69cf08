-- What all facts say together the facts that are left say, where a fact that is dropped says nothing.
use Rattle.std.proofs.Common.{◌≡◌, Bool, true, false, List, [], ◌∷◌, None, refl, sym, ap, ◌∙◌, inl, inr}
use Rattle.std.specs.Option.{option_or}
use Rattle.std.specs.List.{AllByRecursion, list_any}
use Rattle.std.specs.Prelude.{filter, ◌||◌}
use Rattle.mdcc_base.specs.declared.identifiers.TxId.{TxId}
use Rattle.mdcc_struct.specs.Maps.{TxMap, value_of}
use Rattle.mdcc_struct.proofs.Inclusion.{same_found}
use Rattle.mdcc_struct.proofs.Values.{value_of-union}
use Rattle.mdcc_struct.proofs.Walks.{ascending-filter}
use Rattle.mdcc_def_messages.specs.declared.facts.Fact.{Fact}
use Rattle.mdcc_theorem_fact_folds.proofs.Chosen.{or_right}
use Rattle.mdcc_theorem_fact_folds.proofs.Folded.{gathered}
use Rattle.mdcc_theorem_fact_folds.proofs.Joined.{joined, joined-ascends}
use Rattle.mdcc_theorem_fact_folds.proofs.Unheard.{kept_value, value-kept}
use Rattle.mdcc_given_back.specs.Rest.{AreRest, IsLeft, bare, is_bared, is_dropped}

-- ---- a property that each fact has

pub each : (P : Fact → Type 0) → ((fact : Fact) → P fact) → (facts : List Fact) → AllByRecursion P facts
each P has [] = tt
each P has (fact ∷ facts) = (has fact, each P has facts)

pub each-more : (P Q : Fact → Type 0) → ((fact : Fact) → P fact → Q fact) → (facts : List Fact) → AllByRecursion P facts → AllByRecursion Q facts
each-more P Q more [] ps = tt
each-more P Q more (fact ∷ facts) ps = (more fact ps.0, each-more P Q more facts ps.1)

abbrev pub AnyFact : Fact → Type 0
AnyFact fact = Unit {0}

module _ {S : Type 0} (join : S → S → S) (none : S) (right : (s : S) → join s none ≡ s) (says : Fact → S) (all : List Fact) (P : Fact → Type 0)
    (dropped : (fact : Fact) → P fact → is_dropped all fact ≡ true → says fact ≡ none)
    (bared : (fact : Fact) → P fact → is_bared all fact ≡ true → says (bare fact) ≡ says fact) where
  left-says : (fact left : Fact) → P fact → IsLeft all fact left → says left ≡ says fact
  left-says fact left p (inl same) = ap says same
  left-says fact left p (inr is) = ap says is.1 ∙ bared fact p is.0

  nothing-more : (fact : Fact) (s : S) → P fact → is_dropped all fact ≡ true → s ≡ join s (says fact)
  nothing-more fact s p is = sym (ap (join s) (dropped fact p is) ∙ right s)

  pub rest-says : (rest facts : List Fact) → AllByRecursion P facts → AreRest all rest facts → gathered join none says rest ≡ gathered join none says facts
  rest-says [] [] ps is = refl
  rest-says (left ∷ rest) [] ps is = absurd is
  rest-says [] (fact ∷ facts) ps is = rest-says [] facts ps.1 is.1 ∙ nothing-more fact (gathered join none says facts) ps.0 is.0
  rest-says (left ∷ rest) (fact ∷ facts) ps (inl is) =
      rest-says (left ∷ rest) facts ps.1 is.1 ∙ nothing-more fact (gathered join none says facts) ps.0 is.0
  rest-says (left ∷ rest) (fact ∷ facts) ps (inr is) =
      ap (λ s. join s (says left)) (rest-says rest facts ps.1 is.1) ∙ ap (join (gathered join none says facts)) (left-says fact left ps.0 is.0)

-- ---- whether a fact passes

abbrev pub later_or : Bool → Bool → Bool
later_or before now = now || before

or_false : (b : Bool) → later_or b false ≡ b
or_false b = refl

any-gathered : (test : Fact → Bool) (facts : List Fact) → list_any test facts ≡ gathered later_or false test facts
any-gathered test [] = refl
any-gathered test (fact ∷ facts) = ap (λ b. test fact || b) (any-gathered test facts)

module _ (test : Fact → Bool) (all : List Fact) (P : Fact → Type 0)
    (dropped : (fact : Fact) → P fact → is_dropped all fact ≡ true → test fact ≡ false)
    (bared : (fact : Fact) → P fact → is_bared all fact ≡ true → test (bare fact) ≡ test fact) where
  pub any-alike : (rest facts : List Fact) → AllByRecursion P facts → AreRest all rest facts → list_any test rest ≡ list_any test facts
  any-alike rest facts ps is =
      any-gathered test rest ∙ rest-says later_or false or_false test all P dropped bared rest facts ps is ∙ sym (any-gathered test facts)

-- ---- maps

value-gathered : {X : Type 0} (brings : Fact → TxMap X) (tx : TxId) (facts : List Fact)
    → value_of (joined brings facts) tx ≡ gathered option_or None (λ fact. value_of (brings fact) tx) facts
value-gathered brings tx [] = refl
value-gathered brings tx (fact ∷ facts) =
    value_of-union (joined brings facts) (brings fact) tx ∙ ap (λ o. option_or o (value_of (brings fact) tx)) (value-gathered brings tx facts)

module _ {X : Type 0} (brings : Fact → TxMap X) (keep : TxId → Bool) (all : List Fact) (P : Fact → Type 0)
    (dropped : (fact : Fact) → P fact → is_dropped all fact ≡ true → (tx : TxId) → keep tx ≡ true → value_of (brings fact) tx ≡ None)
    (bared : (fact : Fact) → P fact → is_bared all fact ≡ true → (tx : TxId) → keep tx ≡ true → value_of (brings (bare fact)) tx ≡ value_of (brings fact) tx) where
  -- what a transaction that is kept has
  pub value-alike : (rest facts : List Fact) → AllByRecursion P facts → AreRest all rest facts → (tx : TxId) → keep tx ≡ true
      → value_of (joined brings rest) tx ≡ value_of (joined brings facts) tx
  value-alike rest facts ps is tx kept =
      value-gathered brings tx rest
      ∙ rest-says option_or None or_right (λ fact. value_of (brings fact) tx) all P
      (λ fact p d. dropped fact p d tx kept) (λ fact p d. bared fact p d tx kept) rest facts ps is
      ∙ sym (value-gathered brings tx facts)

  -- the entries that are kept
  pub kept-alike : (rest facts : List Fact) → AllByRecursion P facts → AreRest all rest facts
      → filter (λ e. keep e.0) (joined brings rest) ≡ filter (λ e. keep e.0) (joined brings facts)
  kept-alike rest facts ps is =
      same_found (filter (λ e. keep e.0) (joined brings rest)) (filter (λ e. keep e.0) (joined brings facts))
      (ascending-filter (λ e. keep e.0) (joined brings rest) (joined-ascends brings rest))
      (ascending-filter (λ e. keep e.0) (joined brings facts) (joined-ascends brings facts))
      (λ tx. value-kept keep (joined brings rest) tx ∙ by tx (keep tx) refl ∙ sym (value-kept keep (joined brings facts) tx))
    where
      by : (tx : TxId) (kept : Bool) → keep tx ≡ kept → kept_value (keep tx) (value_of (joined brings rest) tx) ≡ kept_value (keep tx) (value_of (joined brings facts) tx)
      by tx true k = ap (kept_value (keep tx)) (value-alike rest facts ps is tx k)
      by tx false k = rw k refl
