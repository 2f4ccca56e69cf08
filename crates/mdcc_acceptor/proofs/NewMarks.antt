-- Whether marks of a structure are new, by how many of its transactions were voted or are finished.
use Rattle.std.proofs.Common.{◌≡◌, ℕ, ◌+◌, ◌≤◌, Bool, List, [], ◌∷◌, filter, length, not, refl, arith, inl, inr}
use Rattle.std.proofs.lemmas.Bool.{cases_Bool}
use Rattle.mdcc_base.specs.Counts.{number_of}
use Rattle.mdcc_base.specs.declared.identifiers.Ballot.{Ballot}
use Rattle.mdcc_base.specs.declared.key.Key.{Key}
use Rattle.mdcc_struct.specs.declared.options.Options.{Options}
use Rattle.mdcc_def_protocol.specs.Acceptor.{answer_to_marks, new_marks}
use Rattle.mdcc_facts.specs.Past.{count_past, is_past_mark}
use Rattle.mdcc_def_protocol.specs.declared.acceptor.AcceptAnswer.{AcceptAnswer}
use Rattle.mdcc_def_messages.specs.declared.facts.Fact.{Fact}

few : {X : Type 0} (p : X → Bool) (xs : List X) → number_of p xs ≤ length xs
few p [] = omega arith
few p (x ∷ xs) =
    elim (cases_Bool (p x)) [
      | inl passes ↦ rw passes (omega (arith, few p xs))
      | inr fails ↦ rw fails (omega (arith, few p xs))
    ]

all_pass : {X : Type 0} (p : X → Bool) (xs : List X) → number_of p xs ≡ length xs → filter (λ x. not (p x)) xs ≡ []
all_pass p [] h = refl
all_pass p (x ∷ xs) h =
    elim (cases_Bool (p x)) [
      | inl passes ↦
          let here : 1 + number_of p xs ≡ length (x ∷ xs) = rw passes at h in
          let rest : number_of p xs ≡ length xs = omega arith in
          rw passes (all_pass p xs rest)
      | inr fails ↦
          let here : 0 + number_of p xs ≡ length (x ∷ xs) = rw fails at h in
          absurd (omega (arith, few p xs))
    ]

module _ (facts : List Fact) (key : Key) (version : ℕ) (ballot : Ballot) where
  -- where each was voted or is finished, none is new
  pub none_new : (options : Options) → count_past facts key version ballot options ≡ length options
      → answer_to_marks (new_marks facts key version ballot options) ≡ AcceptAnswer.Older
  none_new options h = rw (all_pass (λ e. is_past_mark facts key version ballot e.0) options h) refl

  -- else one is
  pub one_new : (options : Options) → (count_past facts key version ballot options ≡ length options → ⊥)
      → answer_to_marks (new_marks facts key version ballot options) ≡ AcceptAnswer.Vote
  one_new [] h = absurd (h refl)
  one_new (e ∷ es) h =
      elim (cases_Bool (is_past_mark facts key version ballot e.0)) [
        | inl past ↦
            let rest : count_past facts key version ballot es ≡ length es → ⊥ = λ k. h (rw past (omega (arith, k))) in
            rw past (one_new es rest)
        | inr new ↦ rw new refl
      ]
