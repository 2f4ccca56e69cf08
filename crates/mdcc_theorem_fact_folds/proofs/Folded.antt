-- What is gathered from facts, the oldest first, is a fold over a chain of them, the newest first.
use Rattle.std.proofs.Common.{◌≡◌, Bool, false, List, [], ◌∷◌, refl, sym, ap, ◌∙◌, inl, inr, fold}
use Rattle.std.specs.Prelude.{filter}
use Rattle.std.proofs.lemmas.Bool.{cases_Bool}
use Rattle.mdcc_def_messages.specs.declared.facts.Fact.{Fact}

-- what each fact says, put together by an operation
abbrev pub gathered : {S : Type 0} → (S → S → S) → S → (Fact → S) → List Fact → S
gathered join none says [] = none
gathered join none says (fact ∷ facts) = join (gathered join none says facts) (says fact)

-- the same, where the newest comes first
abbrev pub with_older : {S : Type 0} → (S → S → S) → (Fact → S) → S → Fact → S
with_older join says later fact = join (says fact) later

-- a step of any kind
abbrev pub answered : {S : Type 0} → (S → Fact → S) → S → List Fact → S
answered step none [] = none
answered step none (fact ∷ facts) = step (answered step none facts) fact

-- facts that change nothing may be left out
pub answered-chain : {S : Type 0} (step : S → Fact → S) (none : S) (keep : Fact → Bool) → ((s : S) (fact : Fact) → keep fact ≡ false → step s fact ≡ s)
    → (facts : List Fact) → answered step none facts ≡ answered step none (filter keep facts)
answered-chain step none keep ignores [] = refl
answered-chain step none keep ignores (fact ∷ facts) =
    let ih = answered-chain step none keep ignores facts in
    elim (cases_Bool (keep fact)) [
      | inl kept ↦ rw kept (ap (λ s. step s fact) ih)
      | inr left ↦ rw left (ignores (answered step none facts) fact left ∙ ih)
    ]

module _ {S : Type 0} (join : S → S → S) (none : S) (says : Fact → S)
    (left : (s : S) → join none s ≡ s) (right : (s : S) → join s none ≡ s)
    (assoc : (a b c : S) → join (join a b) c ≡ join a (join b c)) where
  pub folded-from : (later : S) (facts : List Fact) → fold (with_older join says) later facts ≡ join (gathered join none says facts) later
  folded-from later [] = sym (left later)
  folded-from later (fact ∷ facts) = folded-from (join (says fact) later) facts ∙ sym (assoc (gathered join none says facts) (says fact) later)

  pub folded : (facts : List Fact) → gathered join none says facts ≡ fold (with_older join says) none facts
  folded facts = sym (folded-from none facts ∙ right (gathered join none says facts))

  pub gathered-chain : (keep : Fact → Bool) → ((fact : Fact) → keep fact ≡ false → says fact ≡ none)
      → (facts : List Fact) → gathered join none says facts ≡ gathered join none says (filter keep facts)
  gathered-chain keep ignores [] = refl
  gathered-chain keep ignores (fact ∷ facts) =
      let ih = gathered-chain keep ignores facts in
      elim (cases_Bool (keep fact)) [
        | inl kept ↦ rw kept (ap (λ s. join s (says fact)) ih)
        | inr left_out ↦ rw left_out (ap (λ s. join (gathered join none says facts) s) (ignores fact left_out) ∙ right (gathered join none says facts) ∙ ih)
      ]

  pub gathered-walk : (keep : Fact → Bool) → ((fact : Fact) → keep fact ≡ false → says fact ≡ none)
      → (facts : List Fact) → gathered join none says facts ≡ fold (with_older join says) none (filter keep facts)
  gathered-walk keep ignores facts = gathered-chain keep ignores facts ∙ folded (filter keep facts)
