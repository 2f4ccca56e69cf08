-- Lists: what holds of each item, and how many pass a test.
use Rattle.std.proofs.Common.{◌≡◌, ℕ, ◌+◌, Bool, true, false, cond, List, [], ◌∷◌, ◌++◌, refl, sym, ap, ◌∙◌, inl, inr, arith, filter, map, length, sum_by, IsPermutation, fold}
use Rattle.std.specs.List.{AllByRecursion}
use Rattle.std.proofs.lemmas.Bool.{cases_Bool}
use Rattle.std.proofs.lemmas.List.Elements.{All-from_recursion, recursion_from_All}
use Rattle.std.proofs.lemmas.List.Sorted.{All-permutation, sum_by-IsPermutation}
use Rattle.mdcc_base.specs.Counts.{number_of}

pub each-append : {X : Type 0} (P : X → Type 0) (xs ys : List X) → AllByRecursion P xs → AllByRecursion P ys → AllByRecursion P (xs ++ ys)
each-append P [] ys h k = k
each-append P (x ∷ xs) ys h k = (h.0, each-append P xs ys h.1 k)

pub each-front : {X : Type 0} (P : X → Type 0) (xs ys : List X) → AllByRecursion P (xs ++ ys) → AllByRecursion P xs
each-front P [] ys h = tt
each-front P (x ∷ xs) ys h = (h.0, each-front P xs ys h.1)

pub each-back : {X : Type 0} (P : X → Type 0) (xs ys : List X) → AllByRecursion P (xs ++ ys) → AllByRecursion P ys
each-back P [] ys h = h
each-back P (x ∷ xs) ys h = each-back P xs ys h.1

pub each-weaker : {X : Type 0} (P Q : X → Type 0) (xs : List X) → ((x : X) → P x → Q x) → AllByRecursion P xs → AllByRecursion Q xs
each-weaker P Q [] f h = tt
each-weaker P Q (x ∷ xs) f h = (f x h.0, each-weaker P Q xs f h.1)

pub each-both : {X : Type 0} (P Q : X → Type 0) (xs : List X) → AllByRecursion P xs → AllByRecursion Q xs → AllByRecursion (λ x. P x × Q x) xs
each-both P Q [] h k = tt
each-both P Q (x ∷ xs) h k = ((h.0, k.0), each-both P Q xs h.1 k.1)

pub each-any : {X : Type 0} (P : X → Type 0) (xs : List X) → ((x : X) → P x) → AllByRecursion P xs
each-any P [] f = tt
each-any P (x ∷ xs) f = (f x, each-any P xs f)

pub each-map : {X Y : Type 0} (P : Y → Type 0) (f : X → Y) (xs : List X) → AllByRecursion (λ x. P (f x)) xs → AllByRecursion P (map f xs)
each-map P f [] h = tt
each-map P f (x ∷ xs) h = (h.0, each-map P f xs h.1)

pub each-kept : {X : Type 0} (P : X → Type 0) (test : X → Bool) (xs : List X) → AllByRecursion P xs → AllByRecursion P (filter test xs)
each-kept P test [] h = tt
each-kept P test (x ∷ xs) h =
    elim (cases_Bool (test x)) [
      | inl e ↦ rw e (h.0, each-kept P test xs h.1)
      | inr e ↦ rw e (each-kept P test xs h.1)
    ]

-- what holds where a test passes holds of what a filter keeps
pub each-passing : {X : Type 0} (P : X → Type 0) (test : X → Bool) (xs : List X) → AllByRecursion (λ x. test x ≡ true → P x) xs → AllByRecursion P (filter test xs)
each-passing P test [] h = tt
each-passing P test (x ∷ xs) h =
    elim (cases_Bool (test x)) [
      | inl e ↦ rw e (h.0 e, each-passing P test xs h.1)
      | inr e ↦ rw e (each-passing P test xs h.1)
    ]

pub each-permuted : {X : Type 0} (P : X → Type 0) (xs ys : List X) → IsPermutation xs ys → AllByRecursion P xs → AllByRecursion P ys
each-permuted P xs ys moved h = recursion_from_All P ys (All-permutation P xs ys moved (All-from_recursion P xs h))

-- ---- how many pass a test

abbrev pub ones : {X : Type 0} → (X → Bool) → X → ℕ
ones test x = cond (test x) 1 0

folded-more : {X : Type 0} (f : X → ℕ) (xs : List X) (n : ℕ) → fold (λ a x. a + f x) n xs ≡ n + sum_by f xs
folded-more f [] n = omega arith
folded-more f (x ∷ xs) n = folded-more f xs (n + f x) ∙ (let ih = folded-more f xs (0 + f x) in omega (arith, ih))

number-summed : {X : Type 0} (test : X → Bool) (xs : List X) → number_of test xs ≡ sum_by (ones test) xs
number-summed test [] = refl
number-summed test (x ∷ xs) = let ih = number-summed test xs in let more = folded-more (ones test) xs (0 + ones test x) in omega (arith, ih, more)

pub number-permuted : {X : Type 0} (test : X → Bool) (xs ys : List X) → IsPermutation xs ys → number_of test ys ≡ number_of test xs
number-permuted test xs ys moved = number-summed test ys ∙ sum_by-IsPermutation (ones test) xs ys moved ∙ sym (number-summed test xs)

pub number-append : {X : Type 0} (test : X → Bool) (xs ys : List X) → number_of test (xs ++ ys) ≡ number_of test xs + number_of test ys
number-append test [] ys = omega arith
number-append test (x ∷ xs) ys = let ih = number-append test xs ys in omega (arith, ih)

pub number-map : {X Y : Type 0} (test : Y → Bool) (f : X → Y) (xs : List X) → number_of test (map f xs) ≡ number_of (λ x. test (f x)) xs
number-map test f [] = refl
number-map test f (x ∷ xs) = let ih = number-map test f xs in omega (arith, ih)

pub number-alike : {X : Type 0} (p q : X → Bool) (xs : List X) → AllByRecursion (λ x. p x ≡ q x) xs → number_of p xs ≡ number_of q xs
number-alike p q [] h = refl
number-alike p q (x ∷ xs) h = let ih = number-alike p q xs h.1 in rw h.0 (omega (arith, ih))

pub number-all : {X : Type 0} (test : X → Bool) (xs : List X) → AllByRecursion (λ x. test x ≡ true) xs → number_of test xs ≡ length xs
number-all test [] h = refl
number-all test (x ∷ xs) h = let ih = number-all test xs h.1 in rw h.0 (omega (arith, ih))

pub number-none : {X : Type 0} (test : X → Bool) (xs : List X) → AllByRecursion (λ x. test x ≡ false) xs → number_of test xs ≡ 0
number-none test [] h = refl
number-none test (x ∷ xs) h = let ih = number-none test xs h.1 in rw h.0 (omega (arith, ih))

pub none-numbered : {X : Type 0} (test : X → Bool) (xs : List X) → number_of test xs ≡ 0 → AllByRecursion (λ x. test x ≡ false) xs
none-numbered test [] h = tt
none-numbered test (x ∷ xs) h =
    elim (cases_Bool (test x)) [
      | inl e ↦ let g : 1 + number_of test xs ≡ 0 = rw e at h in absurd (omega (arith, g))
      | inr e ↦ let g : 0 + number_of test xs ≡ 0 = rw e at h in (e, none-numbered test xs (omega (arith, g)))
    ]

pub number-filter : {X : Type 0} (test : X → Bool) (xs : List X) → length (filter test xs) ≡ number_of test xs
number-filter test [] = refl
number-filter test (x ∷ xs) =
    let ih = number-filter test xs in
    elim (cases_Bool (test x)) [ inl e ↦ rw e (omega (arith, ih)) | inr e ↦ rw e (omega (arith, ih)) ]

pub filter-all : {X : Type 0} (test : X → Bool) (xs : List X) → AllByRecursion (λ x. test x ≡ true) xs → filter test xs ≡ xs
filter-all test [] h = refl
filter-all test (x ∷ xs) h = rw h.0 (ap (λ ys. x ∷ ys) (filter-all test xs h.1))

pub filter-none : {X : Type 0} (test : X → Bool) (xs : List X) → AllByRecursion (λ x. test x ≡ false) xs → filter test xs ≡ []
filter-none test [] h = refl
filter-none test (x ∷ xs) h = rw h.0 (filter-none test xs h.1)

pub filter-alike : {X : Type 0} (p q : X → Bool) (xs : List X) → ((x : X) → p x ≡ q x) → filter p xs ≡ filter q xs
filter-alike p q [] h = refl
filter-alike p q (x ∷ xs) h = rw (h x) (elim (cases_Bool (q x)) [ inl e ↦ rw e (ap (λ ys. x ∷ ys) (filter-alike p q xs h)) | inr e ↦ rw e (filter-alike p q xs h) ])
