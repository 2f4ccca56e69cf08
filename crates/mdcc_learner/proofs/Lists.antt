-- Counts and folds over lists.
use Rattle.std.proofs.Common.{◌≡◌, ℕ, zero, suc, ◌+◌, ◌<◌, Bool, ◌&&◌, List, [], ◌∷◌, ◌++◌, Option, Some, None, refl, sym, ap, ◌∙◌, arith, fold, length, drop, get_or, inl, inr, ◌≤◌, false, nat_le}
use Rattle.std.specs.List.{filter, filter_map, list_any, reduce}
use Rattle.std.proofs.lemmas.Bool.{cases_Bool}
use Rattle.std.proofs.lemmas.Bool.Decides.{nat_tests}
use Rattle.std.proofs.lemmas.List.Elements.{filter-append}
use Rattle.std.proofs.lemmas.List.Sums.{fold-append}
use Rattle.mdcc_base.specs.Counts.{number_of}
use Rattle.mdcc_base.specs.Sizes.{Sizes}
use Rattle.mdcc_learner.specs.Decided.{lower_with, votes_backed}
use Rattle.mdcc_def_protocol.specs.Learner.{lower_vote}
use Rattle.mdcc_def_protocol.specs.declared.votes.Vote.{Vote}

pub number_of-append : {X : Type 0} (test : X → Bool) (xs ys : List X) → number_of test (xs ++ ys) ≡ number_of test xs + number_of test ys
number_of-append test [] ys = grind arith
number_of-append test (x ∷ xs) ys = let ih = number_of-append test xs ys in omega arith

pub number_of-most : {X : Type 0} (test : X → Bool) (xs : List X) → number_of test xs ≤ length xs
number_of-most test [] = omega arith
number_of-most test (x ∷ xs) =
    let ih = number_of-most test xs in
    elim (cases_Bool (test x)) [
      | inl e ↦ rw e (omega (arith, ih))
      | inr e ↦ rw e (omega (arith, ih))
    ]

pub too-few : (least n : ℕ) → n < least → false ≡ nat_le least n
too-few least n few = grind (arith, nat_tests, few)

-- a fold that keeps what it has
fold-kept : {X : Type 0} (x : X) (xs : List X) → fold (λ a b. a) x xs ≡ x
fold-kept x [] = refl
fold-kept x (y ∷ xs) = fold-kept x xs

-- the first value of what is left of a list, where the first element has one
pub first-here : {X Y : Type 0} (f : X → Option Y) (xs : List X) (i : ℕ) (x : X) (y : Y) → i < length xs → x ≡ get_or xs i x → f x ≡ Some y
    → reduce (λ a b. a) (filter_map f (drop i xs)) ≡ Some y
first-here f [] i x y within at h = absurd (omega (arith, within))
first-here f (z ∷ zs) zero x y within at h =
    let same : x ≡ z = at in
    let there : f z ≡ Some y = ap f (sym same) ∙ h in
    rw there (ap Some (fold-kept y (filter_map f zs)))
first-here f (z ∷ zs) (suc i) x y within at h = first-here f zs i x y (omega (arith, within)) at h

-- a test that only what a filter keeps may pass
pub list_any-filter : {X : Type 0} (kept more : X → Bool) (xs : List X) → list_any (λ x. kept x && more x) (filter kept xs) ≡ list_any (λ x. kept x && more x) xs
list_any-filter kept more [] = refl
list_any-filter kept more (x ∷ xs) = let ih = list_any-filter kept more xs in grind (arith, ih)

lowest_from : (vote : Vote) (votes : List Vote) → fold lower_with (Some vote) votes ≡ Some (fold lower_vote vote votes)
lowest_from vote [] = refl
lowest_from vote (v ∷ vs) = lowest_from (lower_vote vote v) vs

pub lowest : (votes : List Vote) → fold lower_with None votes ≡ reduce lower_vote votes
lowest [] = refl
lowest (v ∷ vs) = lowest_from v vs

-- the lowest of the votes of two lists that all votes back
pub lowest_backed : (quorums : Sizes) (all votes more : List Vote)
    → reduce lower_vote (votes_backed quorums all (votes ++ more)) ≡ fold lower_with (fold lower_with None (votes_backed quorums all votes)) (votes_backed quorums all more)
lowest_backed quorums all votes more =
    rw (filter-append, ← lowest) (fold-append lower_with None (votes_backed quorums all votes) (votes_backed quorums all more))
