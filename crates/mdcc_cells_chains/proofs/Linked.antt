-- Links that lead to lower indices.
use Rattle.std.proofs.Common.{◌≡◌, inl, inr, ℕ, ◌<◌, ◌≤◌, ◌++◌, ◌∷◌, [], List, Option, Some, None, length, get_or, set, replicate, sym, ◌∙◌, ap, subst, arith, refl, suc, zero}
use Rattle.std.proofs.lemmas.Bool.{cases_eq, cases_order}
use Rattle.std.proofs.lemmas.List.{get_or-set_same, get_or-set_other, get_or_append_left, get_or_at, get_or_past, get_or_default, length_push}
use Rattle.mdcc_cells_chains.specs.Links.{AreLinks, IsUnder}

pub under-more : (bound more : ℕ) (at : Option ℕ) → bound ≤ more → IsUnder bound at → IsUnder more at
under-more bound more None h under = tt
under-more bound more (Some index) h under = omega (arith, h, under)

-- what is read at an index
pub under-read : (bound : ℕ) (entries : List (Option ℕ)) (i : ℕ) (at : Option ℕ) → i < length entries → at ≡ get_or entries i at → IsUnder bound (get_or entries i None) → IsUnder bound at
under-read bound entries i at within is under = subst (IsUnder bound) (sym (is ∙ get_or_default entries i at None within)) under

abbrev no_index : Option ℕ
no_index = None

none-get : (n i : ℕ) → get_or (replicate n no_index) i None ≡ None
none-get zero i = refl
none-get (suc n) zero = refl
none-get (suc n) (suc i) = none-get n i

pub under-none : (bound n i : ℕ) → IsUnder bound (get_or (replicate n None) i None)
under-none bound n i = subst (IsUnder bound) (sym (none-get n i)) tt

pub links-push : (heads links : List (Option ℕ)) (room capacity more chain : ℕ) (head : Option ℕ) → AreLinks heads links room capacity → chain < length heads → length links < room
    → head ≡ get_or heads chain None → capacity ≤ more → AreLinks (set heads chain (Some (length links))) (links ++ head ∷ []) room more
links-push heads links room capacity more chain head are within free head-is reserved = record {
  within = omega (arith, length_push links head, free);
  small = are.small;
  reserved = omega (arith, are.reserved, reserved);
  heads_used = λ c. elim (cases_eq c chain) [
    | inl same ↦
        let here : get_or (set heads chain (Some (length links))) c None ≡ Some (length links) = ap (λ k. get_or (set heads chain (Some (length links))) k None) same ∙ get_or-set_same heads chain (Some (length links)) None within in
        subst (IsUnder (length (links ++ head ∷ []))) (sym here) (omega (arith, length_push links head))
    | inr other ↦
        subst (IsUnder (length (links ++ head ∷ []))) (sym (get_or-set_other heads chain c (Some (length links)) None other))
        (under-more (length links) (length (links ++ head ∷ [])) (get_or heads c None) (omega (arith, length_push links head)) (are.heads_used c))
  ];
  lower = λ index. elim (cases_order index (length links)) [
    | inl same ↦
        let here : get_or (links ++ head ∷ []) index None ≡ head = ap (λ k. get_or (links ++ head ∷ []) k None) same ∙ get_or_at links head [] None (length links) refl in
        let used : IsUnder (length links) head = subst (IsUnder (length links)) (sym head-is) (are.heads_used chain) in
        subst (IsUnder index) (sym here) (under-more (length links) index head (omega (arith, same)) used)
    | inr (inl below) ↦ subst (IsUnder index) (sym (get_or_append_left links (head ∷ []) None index below)) (are.lower index)
    | inr (inr above) ↦
        let past : get_or (links ++ head ∷ []) index None ≡ None = get_or_past (links ++ head ∷ []) index None (omega (arith, length_push links head, above)) in
        subst (IsUnder index) (sym past) tt
  ];
}
