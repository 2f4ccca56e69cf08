-- What is learned of a transaction, by which of the marks accept.
use Rattle.std.proofs.Common.{◌≡◌, List, [], ◌∷◌, Option, Some, None, refl, inl, inr, map, ◌||◌, true, false}
use Rattle.std.specs.List.{list_all, list_any}
use Rattle.std.specs.Prelude.{is_some, option_map}
use Rattle.std.proofs.lemmas.Bool.{cases_Bool}
use Rattle.mdcc_manager.specs.Sides.{are_deciding, is_reject_side}
use Rattle.mdcc_option.specs.declared.choices.Mark.{Mark}
use Rattle.mdcc_option.specs.declared.choices.Outcome.{Outcome}
use Rattle.mdcc_def_protocol.specs.Marks.{is_accept, is_reject_found, outcome_of_marks}

pub some-side : (mark : Option Mark) → is_some (option_map is_accept mark) ≡ is_some mark
some-side None = refl
some-side (Some mark) = refl

pub reject-side : (mark : Option Mark) → is_reject_side (option_map is_accept mark) ≡ is_reject_found mark
reject-side None = refl
reject-side (Some (Mark.Accept choice)) = refl
reject-side (Some Mark.Reject) = refl

pub any-sides : {X : Type 0} (f : X → Option Mark) (xs : List X)
    → list_any is_reject_side (map (λ x. option_map is_accept (f x)) xs) ≡ list_any is_reject_found (map f xs)
any-sides f [] = refl
any-sides f (x ∷ xs) = let here = reject-side (f x) in let ih = any-sides f xs in rw (here, ih) refl

pub all-sides : {X : Type 0} (f : X → Option Mark) (xs : List X)
    → list_all is_some (map (λ x. option_map is_accept (f x)) xs) ≡ list_all is_some (map f xs)
all-sides f [] = refl
all-sides f (x ∷ xs) = let here = some-side (f x) in let ih = all-sides f xs in rw (here, ih) refl

pub deciding-marks : (marks : List (Option Mark)) → (list_any is_reject_found marks || list_all is_some marks) ≡ is_some (outcome_of_marks marks)
deciding-marks marks = elim (cases_Bool (list_any is_reject_found marks)) [
  | inl e ↦ rw e refl
  | inr e ↦ rw e (elim (cases_Bool (list_all is_some marks)) [
    | inl a ↦ rw a refl
    | inr a ↦ rw a refl
  ])
]

-- sides decide just where the marks give an outcome
pub sides-decide : {X : Type 0} (f : X → Option Mark) (xs : List X)
    → are_deciding (map (λ x. option_map is_accept (f x)) xs) ≡ is_some (outcome_of_marks (map f xs))
sides-decide f xs = let any = any-sides f xs in let all = all-sides f xs in rw (any, all) (deciding-marks (map f xs))
