-- What all facts do not tell those that are left do not.
use Rattle.std.proofs.Common.{◌≡◌, ◌==◌, ◌&&◌, ℕ, Bool, true, false, List, [], ◌∷◌, Option, Some, None, is_some, refl, sym, ap, ◌∙◌, inl, inr}
use Rattle.std.specs.List.{list_any}
use Rattle.std.specs.Option.{option_or}
use Rattle.std.specs.Prelude.{if◌then◌else◌}
use Rattle.mdcc_base.specs.Ballot.{ballot_eq}
use Rattle.mdcc_base.specs.Key.{key_eq}
use Rattle.std.proofs.lemmas.Bool.{cases_Bool}
use Rattle.mdcc_base.specs.declared.identifiers.Ballot.{Ballot}
use Rattle.mdcc_base.specs.declared.identifiers.TxId.{TxId}
use Rattle.mdcc_base.specs.declared.key.Key.{Key}
use Rattle.mdcc_option.specs.declared.choices.Mark.{Mark}
use Rattle.mdcc_struct.specs.Maps.{value_of}
use Rattle.mdcc_struct.specs.declared.options.Options.{Options}
use Rattle.mdcc_struct.proofs.Values.{value_of-union}
use Rattle.mdcc_def_messages.specs.declared.facts.Fact.{Fact}
use Rattle.mdcc_def_protocol.specs.Facts.{heard_of, marks_voted, outcome_in, votes_of}
use Rattle.mdcc_theorem_fact_folds.proofs.Folded.{gathered}
use Rattle.mdcc_given_back.specs.Endings.{UnheardByRest, UnvotedByRest}
use Rattle.mdcc_given_back.specs.Rest.{AreRest, IsLeft, IsRest, bare}
use Rattle.mdcc_given_back.proofs.FirstHeard.{none-there}
use Rattle.mdcc_given_back.proofs.HeardLeft.{outcomes}

both-none : {X : Type 0} (a b : Option X) → option_or a b ≡ None → (a ≡ None) × (b ≡ None)
both-none None b h = (refl, h)
both-none (Some a) b h = absurd (cc)

none-both : {X : Type 0} (a b : Option X) → a ≡ None → b ≡ None → option_or a b ≡ None
none-both None b h k = k
none-both (Some a) b h k = absurd (cc)

module _ {X : Type 0} (says : Fact → Option X) (all : List Fact) (bared : (fact : Fact) → says fact ≡ None → says (bare fact) ≡ None) where
  none-left : (fact left : Fact) → IsLeft all fact left → says fact ≡ None → says left ≡ None
  none-left fact left (inl same) none = ap says same ∙ none
  none-left fact left (inr is) none = ap says is.1 ∙ bared fact none

  pub untold : (rest facts : List Fact) → AreRest all rest facts → gathered option_or None says facts ≡ None → gathered option_or None says rest ≡ None
  untold [] facts is none = refl
  untold (left ∷ rest) [] is none = absurd is
  untold (left ∷ rest) (fact ∷ facts) (inl is) none =
      untold (left ∷ rest) facts is.1 (both-none (gathered option_or None says facts) (says fact) none).0
  untold (left ∷ rest) (fact ∷ facts) (inr is) none =
      let parts = both-none (gathered option_or None says facts) (says fact) none in
      none-both (gathered option_or None says rest) (says left) (untold rest facts is.1 parts.0) (none-left fact left is.0 parts.1)

-- ---- outcomes

bare-outcome : (tx : TxId) (fact : Fact) → outcome_in tx fact ≡ None → outcome_in tx (bare fact) ≡ None
bare-outcome tx (Fact.Booted k) none = refl
bare-outcome tx (Fact.Promised k low high b) none = refl
bare-outcome tx (Fact.Voted k v b options offered) none = refl
bare-outcome tx (Fact.Heard t outcome) none = none
bare-outcome tx (Fact.Adopted k v item adds) none = refl
bare-outcome tx (Fact.Floor c e n) none = refl

pub unheard-by-rest : UnheardByRest
unheard-by-rest rest facts (Fact.Heard tx outcome) is h =
    ap (λ o. is_some o)
    (outcomes rest tx
    ∙ untold (outcome_in tx) facts (bare-outcome tx) rest facts is (sym (outcomes facts tx) ∙ none-there (heard_of facts tx) h))
unheard-by-rest rest facts (Fact.Booted k) is h = refl
unheard-by-rest rest facts (Fact.Promised k low high b) is h = refl
unheard-by-rest rest facts (Fact.Voted k v b options offered) is h = refl
unheard-by-rest rest facts (Fact.Adopted k v item adds) is h = refl
unheard-by-rest rest facts (Fact.Floor c e n) is h = refl

-- ---- votes

module _ (key : Key) (version : ℕ) (ballot : Ballot) (tx : TxId) where
  abbrev has : Fact → Option Mark
  has fact = value_of (marks_voted key version ballot fact) tx

  has-gathered : (facts : List Fact) → value_of (votes_of facts key version ballot) tx ≡ gathered option_or None has facts
  has-gathered [] = refl
  has-gathered (fact ∷ facts) =
      value_of-union (votes_of facts key version ballot) (marks_voted key version ballot fact) tx ∙ ap (λ o. option_or o (has fact)) (has-gathered facts)

  none-if : (test : Bool) → value_of {X = Mark} (if test then [] else []) tx ≡ None
  none-if true = refl
  none-if false = refl

  bare-has : (fact : Fact) → has fact ≡ None → has (bare fact) ≡ None
  bare-has (Fact.Voted k v b options offered) none = none-if (v == version && ballot_eq b ballot && key_eq k key)
  bare-has (Fact.Booted k) none = refl
  bare-has (Fact.Promised k low high b) none = refl
  bare-has (Fact.Heard t outcome) none = refl
  bare-has (Fact.Adopted k v item adds) none = refl
  bare-has (Fact.Floor c e n) none = refl

  unvoted : (rest facts : List Fact) → IsRest rest facts → is_some (value_of (votes_of facts key version ballot) tx) ≡ false
      → is_some (value_of (votes_of rest key version ballot) tx) ≡ false
  unvoted rest facts is h =
      ap (λ o. is_some o)
      (has-gathered rest ∙ untold has facts bare-has rest facts is (sym (has-gathered facts) ∙ none-there (value_of (votes_of facts key version ballot) tx) h))

none-voted : (key : Key) (version : ℕ) (ballot : Ballot) (rest facts : List Fact) (options : Options) → IsRest rest facts
    → list_any (λ e. is_some (value_of (votes_of facts key version ballot) e.0)) options ≡ false
    → list_any (λ e. is_some (value_of (votes_of rest key version ballot) e.0)) options ≡ false
none-voted key version ballot rest facts [] is h = refl
none-voted key version ballot rest facts (e ∷ es) is h =
    elim (cases_Bool (is_some (value_of (votes_of facts key version ballot) e.0))) [
      | inl was ↦ absurd (let bad : true ≡ false = rw was at h in cc)
      | inr was_not ↦
          let others : list_any (λ e. is_some (value_of (votes_of facts key version ballot) e.0)) es ≡ false = rw was_not at h in
          rw (unvoted key version ballot e.0 rest facts is was_not) (none-voted key version ballot rest facts es is others)
    ]

pub unvoted-by-rest : UnvotedByRest
unvoted-by-rest rest facts (Fact.Voted k v b options offered) is h = none-voted k v b rest facts options is h
unvoted-by-rest rest facts (Fact.Booted k) is h = refl
unvoted-by-rest rest facts (Fact.Promised k low high b) is h = refl
unvoted-by-rest rest facts (Fact.Heard tx outcome) is h = refl
unvoted-by-rest rest facts (Fact.Adopted k v item adds) is h = refl
unvoted-by-rest rest facts (Fact.Floor c e n) is h = refl
