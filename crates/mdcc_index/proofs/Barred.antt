-- The promise of an instance is the greater of what was promised of its key and of what was voted in it.
use Rattle.std.proofs.Common.{◌≡◌, ℕ, true, false, List, [], ◌∷◌, refl, sym, ap, ◌∙◌, inl, inr}
use Rattle.std.specs.List.{filter, fold}
use Rattle.std.proofs.lemmas.Bool.{cases_Bool}
use Rattle.mdcc_base.specs.Ballot.{ballot_max, fast_ballot}
use Rattle.mdcc_base.specs.declared.identifiers.Ballot.{Ballot}
use Rattle.mdcc_base.specs.declared.key.Key.{Key}
use Rattle.mdcc_def_messages.specs.declared.facts.Fact.{Fact}
use Rattle.mdcc_def_protocol.specs.Facts.{ballot_promised, promise_of}
use Rattle.mdcc_theorem_fact_folds.specs.Chains.{is_promise_of, is_vote_in}
use Rattle.mdcc_theorem_fact_folds.specs.Promises.{with_promised_ballot}
use Rattle.mdcc_theorem_fact_folds.proofs.Chosen.{max_assoc, max_left, max_right}
use Rattle.mdcc_theorem_fact_folds.proofs.Walked.{promise-walks}
use Rattle.mdcc_cells_indices.specs.Tallies.{ballot_of_vote, greatest_voted}

ballot-of : (key : Key) (version : ℕ) (fact : Fact) → is_vote_in key version fact ≡ true → ballot_promised key version fact ≡ ballot_of_vote key version fact
ballot-of key version (Fact.Voted k v ballot options offered) h = refl
ballot-of key version (Fact.Booted epoch) h = absurd (cc)
ballot-of key version (Fact.Floor origin era upto) h = absurd (cc)
ballot-of key version (Fact.Promised k low high ballot) h = absurd (cc)
ballot-of key version (Fact.Heard tx outcome) h = absurd (cc)
ballot-of key version (Fact.Adopted k v item adds) h = absurd (cc)

no-ballot : (key : Key) (version : ℕ) (fact : Fact) → is_vote_in key version fact ≡ false → ballot_of_vote key version fact ≡ fast_ballot
no-ballot key version (Fact.Voted k v ballot options offered) h = rw h refl
no-ballot key version (Fact.Booted epoch) h = refl
no-ballot key version (Fact.Floor origin era upto) h = refl
no-ballot key version (Fact.Promised k low high ballot) h = refl
no-ballot key version (Fact.Heard tx outcome) h = refl
no-ballot key version (Fact.Adopted k v item adds) h = refl

voted-from : (key : Key) (version : ℕ) (promised : Ballot) (facts : List Fact)
    → fold (with_promised_ballot key version) promised (filter (is_vote_in key version) facts) ≡ ballot_max (greatest_voted facts key version) promised
voted-from key version promised [] = sym (max_left promised)
voted-from key version promised (fact ∷ facts) = elim (cases_Bool (is_vote_in key version fact)) [
  | inl vote ↦
      rw vote (
      voted-from key version (ballot_max (ballot_promised key version fact) promised) facts
      ∙ sym (max_assoc (greatest_voted facts key version) (ballot_promised key version fact) promised)
      ∙ ap (λ ballot. ballot_max (ballot_max (greatest_voted facts key version) ballot) promised) (ballot-of key version fact vote)
      )
  | inr other ↦
      rw other (
      voted-from key version promised facts
      ∙ ap (λ ballot. ballot_max ballot promised) (sym (ap (ballot_max (greatest_voted facts key version)) (no-ballot key version fact other) ∙ max_right (greatest_voted facts key version)))
      )
]

pub promise-tallied : (facts : List Fact) (key : Key) (version : ℕ)
    → promise_of facts key version ≡ ballot_max (greatest_voted facts key version) (fold (with_promised_ballot key version) fast_ballot (filter (is_promise_of key) facts))
promise-tallied facts key version =
    promise-walks (is_promise_of key) (is_vote_in key version) key version (λ fact is. is) (λ fact is. is) facts
    ∙ voted-from key version (fold (with_promised_ballot key version) fast_ballot (filter (is_promise_of key) facts)) facts
