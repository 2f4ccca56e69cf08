-- A structure of which no mark was voted, or is of a finished transaction.
use Rattle.std.proofs.Common.{◌≡◌, ℕ, ◌+◌, Bool, true, false, List, [], ◌∷◌, is_some, refl, sym, ◌∙◌, ◌||◌, arith, inl, inr}
use Rattle.std.specs.List.{list_any}
use Rattle.std.specs.Prelude.{◌==◌}
use Rattle.std.proofs.lemmas.Bool.{cases_Bool, or_parts}
use Rattle.std.proofs.lemmas.Bool.Decides.{nat_tests}
use Rattle.mdcc_base.specs.Counts.{number_of}
use Rattle.mdcc_base.specs.declared.identifiers.Ballot.{Ballot}
use Rattle.mdcc_base.specs.declared.key.Key.{Key}
use Rattle.mdcc_facts.specs.Past.{count_past, is_past_mark}
use Rattle.mdcc_def_protocol.specs.Facts.{is_finished, votes_of}
use Rattle.mdcc_def_messages.specs.declared.facts.Fact.{Fact}
use Rattle.mdcc_struct.specs.Maps.{value_of}
use Rattle.mdcc_struct.specs.declared.options.Options.{Options}

none_pass : {X : Type 0} (p : X → Bool) (xs : List X) → number_of p xs ≡ 0 → list_any p xs ≡ false
none_pass p [] h = refl
none_pass p (x ∷ xs) h =
    elim (cases_Bool (p x)) [
      | inl passes ↦ absurd (let more : 1 + number_of p xs ≡ 0 = rw passes at h in omega (arith, more))
      | inr fails ↦ rw fails (none_pass p xs (let rest : 0 + number_of p xs ≡ 0 = rw fails at h in omega (arith, rest)))
    ]

-- where one or the other is never so, neither is
neither : {X : Type 0} (p q : X → Bool) (xs : List X) → list_any (λ x. p x || q x) xs ≡ false → (list_any p xs ≡ false) × (list_any q xs ≡ false)
neither p q [] h = (refl, refl)
neither p q (x ∷ xs) h =
    let parts = or_parts (p x || q x) (list_any (λ x. p x || q x) xs) h in
    let first = or_parts (p x) (q x) parts.0 in
    let rest = neither p q xs parts.1 in
    (rw first.0 rest.0, rw first.1 rest.1)

pub none_past : (facts : List Fact) (key : Key) (version : ℕ) (ballot : Ballot) (options : Options) (count : ℕ)
    → count ≡ count_past facts key version ballot options → (count == 0) ≡ true
    → (list_any (λ e. is_some (value_of (votes_of facts key version ballot) e.0)) options ≡ false) × (list_any (λ e. is_finished facts e.0) options ≡ false)
none_past facts key version ballot options count is h =
    let zero : count ≡ 0 = grind (arith, nat_tests) in
    neither (λ e. is_some (value_of (votes_of facts key version ballot) e.0)) (λ e. is_finished facts e.0) options
    (none_pass (λ e. is_past_mark facts key version ballot e.0) options (sym is ∙ zero))
