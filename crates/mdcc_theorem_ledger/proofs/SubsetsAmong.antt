-- The subsets of a list of different centres are sets of centres out of it.
use Rattle.std.proofs.Common.{◌≡◌, ℕ, zero, suc, ◌+◌, ◌<◌, Bool, true, false, ◌||◌, not, ◌==◌, List, [], ◌∷◌, ◌++◌, map, refl, ap, ◌∙◌, arith, inl, inr, filter}
use Rattle.std.specs.List.{AllByRecursion, list_all, list_any, range_with_len}
use Rattle.std.proofs.lemmas.Bool.{cases_Bool, and_parts, and_from, or_from, or_left, or_right, eq-eqb, ne_eqb, not-true, not_from_false, both_ways}
use Rattle.mdcc_def_ledger.specs.AllowedStructures.{IsAmongCentres, are_distinct_centres}
use Rattle.mdcc_theorem_ledger.specs.LedgerTest.{subsets}

abbrev is_among : List ℕ → ℕ → Bool
is_among xs a = list_any (λ b. a == b) xs

-- ---- filtered ranges have no centre twice

not_in_later : (test : ℕ → Bool) (c k n : ℕ) → c < k → is_among (filter test (range_with_len k n)) c ≡ false
not_in_later test c k zero h = refl
not_in_later test c k (suc n) h =
    let later : is_among (filter test (range_with_len (k + 1) n)) c ≡ false = not_in_later test c (k + 1) n (omega arith) in
    elim (cases_Bool (test k)) [
      | inl e ↦ rw e (or_from (c == k) (is_among (filter test (range_with_len (k + 1) n)) c) (ne_eqb c k (λ same. omega arith)) later)
      | inr e ↦ rw e later
    ]

pub distinct-filtered : (test : ℕ → Bool) (k n : ℕ) → are_distinct_centres (filter test (range_with_len k n)) ≡ true
distinct-filtered test k zero = refl
distinct-filtered test k (suc n) =
    let rest : are_distinct_centres (filter test (range_with_len (k + 1) n)) ≡ true = distinct-filtered test (k + 1) n in
    let apart : is_among (filter test (range_with_len (k + 1) n)) k ≡ false = not_in_later test k (k + 1) n (omega arith) in
    elim (cases_Bool (test k)) [
      | inl e ↦ rw e (and_from (not (is_among (filter test (range_with_len (k + 1) n)) k)) _ (not_from_false _ apart) rest)
      | inr e ↦ rw e rest
    ]

-- ---- subsets

among-more : (a : ℕ) (xs centres : List ℕ) → list_all (is_among xs) centres ≡ true → list_all (is_among (a ∷ xs)) centres ≡ true
among-more a xs [] h = refl
among-more a xs (c ∷ cs) h =
    let parts : (is_among xs c ≡ true) × (list_all (is_among xs) cs ≡ true) = and_parts _ _ h in
    and_from (c == a || is_among xs c) (list_all (is_among (a ∷ xs)) cs) (or_right (c == a) (is_among xs c) parts.0) (among-more a xs cs parts.1)

-- what is not in a list is not in a part of it
among-not : (a : ℕ) (xs centres : List ℕ) → is_among xs a ≡ false → list_all (is_among xs) centres ≡ true → is_among centres a ≡ false
among-not a xs [] none h = refl
among-not a xs (c ∷ cs) none h =
    let parts : (is_among xs c ≡ true) × (list_all (is_among xs) cs ≡ true) = and_parts _ _ h in
    let other : (a == c) ≡ false = ne_eqb a c (λ same. both_ways (is_among xs a) none (ap (is_among xs) same ∙ parts.0)) in
    or_from (a == c) (is_among cs a) other (among-not a xs cs none parts.1)

among-left_out : (a : ℕ) (xs centres : List ℕ) → IsAmongCentres centres xs → IsAmongCentres centres (a ∷ xs)
among-left_out a xs centres h = (among-more a xs centres h.0, h.1)

among-put_in : (a : ℕ) (xs centres : List ℕ) → is_among xs a ≡ false → IsAmongCentres centres xs → IsAmongCentres (a ∷ centres) (a ∷ xs)
among-put_in a xs centres none h = (
  and_from (a == a || is_among xs a) (list_all (is_among (a ∷ xs)) centres) (or_left (a == a) (is_among xs a) (eq-eqb a a refl)) (among-more a xs centres h.0),
  and_from (not (is_among centres a)) (are_distinct_centres centres) (not_from_false _ (among-not a xs centres none h.0)) h.1,
)

each-of : {X : Type 0} (P Q : X → Type 0) → ((x : X) → P x → Q x) → (xs : List X) → AllByRecursion P xs → AllByRecursion Q xs
each-of P Q so [] h = tt
each-of P Q so (x ∷ xs) h = (so x h.0, each-of P Q so xs h.1)

each-mapped : {X : Type 0} (P Q : X → Type 0) (f : X → X) → ((x : X) → P x → Q (f x)) → (xs ys : List X)
    → AllByRecursion P xs → AllByRecursion Q ys → AllByRecursion Q (map f xs ++ ys)
each-mapped P Q f so [] ys h k = k
each-mapped P Q f so (x ∷ xs) ys h k = (so x h.0, each-mapped P Q f so xs ys h.1 k)

pub subsets-among : (xs : List ℕ) → are_distinct_centres xs ≡ true → AllByRecursion (λ centres. IsAmongCentres centres xs) (subsets xs)
subsets-among [] h = ((refl, refl), tt)
subsets-among (a ∷ xs) h =
    let parts : (not (is_among xs a) ≡ true) × (are_distinct_centres xs ≡ true) = and_parts _ _ h in
    let rest : AllByRecursion (λ centres. IsAmongCentres centres xs) (subsets xs) = subsets-among xs parts.1 in
    each-mapped (λ centres. IsAmongCentres centres xs) (λ centres. IsAmongCentres centres (a ∷ xs)) (λ centres. a ∷ centres)
    (λ centres among. among-put_in a xs centres (not-true _ parts.0) among) (subsets xs) (subsets xs) rest
    (each-of (λ centres. IsAmongCentres centres xs) (λ centres. IsAmongCentres centres (a ∷ xs)) (among-left_out a xs) (subsets xs) rest)
