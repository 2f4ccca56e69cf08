-- Keys with their numbers beside them.
use Rattle.std.proofs.Common.{◌≡◌, ◌≢◌, ◌<◌, ◌≤◌, ℕ, false, List, [], ◌∷◌, ◌++◌, Some, get_or, length, map, refl, ap, ◌∙◌, arith, inl, inr}
use Rattle.std.specs.Prelude.{◌==◌}
use Rattle.std.proofs.lemmas.Bool.{cases_Bool, eqb-true}
use Rattle.std.proofs.lemmas.List.{get_or_append_left, get_or_at}
use Rattle.mdcc_base.specs.declared.key.Key.{Key}
use Rattle.mdcc_cells_chains.specs.Walks.{entry_at}
use Rattle.mdcc_cells_indices.specs.Entries.{AreBelow, beside}

pub beside-keys : {K : Type 0} (keys : List K) (numbers : List ℕ) → map (λ e. e.0) (beside keys numbers) ≡ keys
beside-keys [] numbers = refl
beside-keys (key ∷ keys) numbers = ap (λ ks. key ∷ ks) (beside-keys keys numbers)

pub length-beside : {K : Type 0} (keys : List K) (numbers : List ℕ) → length (beside keys numbers) ≡ length keys
length-beside [] numbers = refl
length-beside (key ∷ keys) numbers = omega (arith, length-beside keys numbers)

beside-more : {K : Type 0} (keys : List K) (numbers : List ℕ) (number : ℕ) → length keys ≤ length numbers → beside keys (numbers ++ number ∷ []) ≡ beside keys numbers
beside-more [] numbers number few = refl
beside-more (key ∷ keys) numbers number few =
    let at : get_or (numbers ++ number ∷ []) (length keys) 0 ≡ get_or numbers (length keys) 0 = get_or_append_left numbers (number ∷ []) 0 (length keys) (omega arith) in
    let rest = beside-more keys numbers number (omega arith) in
    λ i. (key, at i) ∷ rest i

pub beside-push : {K : Type 0} (key : K) (keys : List K) (numbers : List ℕ) (number : ℕ) → length numbers ≡ length keys
    → beside (key ∷ keys) (numbers ++ number ∷ []) ≡ (key, number) ∷ beside keys numbers
beside-push key keys numbers number alike =
    let at : get_or (numbers ++ number ∷ []) (length keys) 0 ≡ number = get_or_at numbers number [] 0 (length keys) alike in
    let rest = beside-more keys numbers number (omega arith) in
    λ i. (key, at i) ∷ rest i

pub beside-at : {K : Type 0} (keys : List K) (numbers : List ℕ) (i : ℕ) (e : K × ℕ) → entry_at (beside keys numbers) i ≡ Some e → get_or numbers i 0 ≡ e.1
beside-at [] numbers i e at = absurd (cc)
beside-at {K = K} (key ∷ keys) numbers i e at = elim (cases_Bool (i == length (beside keys numbers))) [
  | inl here ↦
      let same : i ≡ length (beside keys numbers) = eqb-true i (length (beside keys numbers)) here in
      let one : Some (key, get_or numbers (length keys) 0) ≡ Some e = rw here at at in
      let is : (key, get_or numbers (length keys) 0) ≡ e = cc in
      ap (λ n. get_or numbers n 0) (same ∙ length-beside keys numbers) ∙ ap (λ (x : K × ℕ). x.1) is
  | inr there ↦ beside-at keys numbers i e (rw there at at)
]

pub below-at : (bound : ℕ) (entries : List ((Key × ℕ) × ℕ)) (i : ℕ) (e : (Key × ℕ) × ℕ) → AreBelow bound entries → entry_at entries i ≡ Some e → e.1 < bound
below-at bound [] i e below at = absurd (cc)
below-at bound (entry ∷ entries) i e below at = elim (cases_Bool (i == length entries)) [
  | inl here ↦
      let one : Some entry ≡ Some e = rw here at at in
      let is : entry ≡ e = cc in
      omega (arith, below.0, ap (λ x. x.1) is)
  | inr there ↦ below-at bound entries i e below.1 (rw there at at)
]

pub number-below : (bound : ℕ) (keys : List (Key × ℕ)) (numbers : List ℕ) (i : ℕ) → AreBelow bound (beside keys numbers) → i < length keys → get_or numbers i 0 < bound
number-below bound [] numbers i below within = absurd (omega arith)
number-below bound (key ∷ keys) numbers i below within = elim (cases_Bool (i == length keys)) [
  | inl here ↦ let same : i ≡ length keys = eqb-true i (length keys) here in omega (arith, below.0, ap (λ n. get_or numbers n 0) same)
  | inr there ↦ number-below bound keys numbers i below.1 (let apart : i ≢ length keys = λ same. absurd (not-here keys i there same) in omega arith)
]
  where
    not-here : (ks : List (Key × ℕ)) (i : ℕ) → (i == length ks) ≡ false → i ≡ length ks → ⊥
    not-here ks i there same = grind (arith, there, same)

pub below-more : (bound larger : ℕ) (entries : List ((Key × ℕ) × ℕ)) → bound ≤ larger → AreBelow bound entries → AreBelow larger entries
below-more bound larger [] more below = tt
below-more bound larger (entry ∷ entries) more below = (omega (arith, below.0), below-more bound larger entries more below.1)

pub below-append : (bound : ℕ) (more entries : List ((Key × ℕ) × ℕ)) → AreBelow bound more → AreBelow bound entries → AreBelow bound (more ++ entries)
below-append bound [] entries first rest = rest
below-append bound (entry ∷ more) entries first rest = (first.0, below-append bound more entries first.1 rest)

pub below-one : (bound number : ℕ) (instances : List (Key × ℕ)) → number < bound → AreBelow bound (map (λ instance. (instance, number)) instances)
below-one bound number [] below = tt
below-one bound number (instance ∷ instances) below = (below, below-one bound number instances below)
