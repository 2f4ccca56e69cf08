-- What holds of each item of a list.
use Rattle.std.proofs.Common.{◌≡◌, Bool, true, List, [], ◌∷◌, ◌++◌, refl, inl, inr, Some, filter, find, map, fold}
use Rattle.std.specs.List.{AllByRecursion, list_all, reduce}
use Rattle.std.proofs.lemmas.Bool.{and_parts, cases_Bool}

pub each-append : {X : Type 0} (P : X → Type 0) (xs ys : List X) → AllByRecursion P xs → AllByRecursion P ys → AllByRecursion P (xs ++ ys)
each-append P [] ys h k = k
each-append P (x ∷ xs) ys h k = (h.0, each-append P xs ys h.1 k)

pub each-weaker : {X : Type 0} (P Q : X → Type 0) (xs : List X) → ((x : X) → P x → Q x) → AllByRecursion P xs → AllByRecursion Q xs
each-weaker P Q [] f h = tt
each-weaker P Q (x ∷ xs) f h = (f x h.0, each-weaker P Q xs f h.1)

-- what a filter keeps also passes its test
pub each-filter : {X : Type 0} (P : X → Type 0) (test : X → Bool) (xs : List X) → AllByRecursion P xs
    → AllByRecursion (λ x. P x × (test x ≡ true)) (filter test xs)
each-filter P test [] h = tt
each-filter P test (x ∷ xs) h =
    elim (cases_Bool (test x)) [
      | inl e ↦ rw e ((h.0, e), each-filter P test xs h.1)
      | inr e ↦ rw e (each-filter P test xs h.1)
    ]

pub each-kept : {X : Type 0} (P : X → Type 0) (test : X → Bool) (xs : List X) → AllByRecursion P xs → AllByRecursion P (filter test xs)
each-kept P test xs h = each-weaker (λ x. P x × (test x ≡ true)) P (filter test xs) (λ x k. k.0) (each-filter P test xs h)

pub each-map : {X Y : Type 0} (P : Y → Type 0) (f : X → Y) (xs : List X) → AllByRecursion (λ x. P (f x)) xs → AllByRecursion P (map f xs)
each-map P f [] h = tt
each-map P f (x ∷ xs) h = (h.0, each-map P f xs h.1)

-- what is found holds what each does, and passes the test
pub each-found : {X : Type 0} (P : X → Type 0) (test : X → Bool) (xs : List X) (x : X) → AllByRecursion P xs → find test xs ≡ Some x → P x × (test x ≡ true)
each-found P test [] x h e = absurd (cc)
each-found P test (y ∷ ys) x h e =
    elim (cases_Bool (test y)) [
      | inl p ↦ let found : Some y ≡ Some x = rw p at e in let same : y ≡ x = cc in rw (← same) (h.0, p)
      | inr p ↦ let found : find test ys ≡ Some x = rw p at e in each-found P test ys x h.1 found
    ]

pub folded : {X : Type 0} (P : X → Type 0) (f : X → X → X) (x : X) (xs : List X) → ((a b : X) → P a → P b → P (f a b)) → P x → AllByRecursion P xs → P (fold f x xs)
folded P f x [] keep h k = h
folded P f x (y ∷ ys) keep h k = folded P f (f x y) ys keep (keep x y h k.0) k.1

pub each-reduced : {X : Type 0} (P : X → Type 0) (f : X → X → X) (xs : List X) (x : X) → ((a b : X) → P a → P b → P (f a b)) → AllByRecursion P xs
    → reduce f xs ≡ Some x → P x
each-reduced P f [] x keep h e = absurd (cc)
each-reduced P f (y ∷ ys) x keep h e =
    let same : fold f y ys ≡ x = cc in rw (← same) (folded P f y ys keep h.0 h.1)

-- ---- tests of all items

pub all-each : {X : Type 0} (test : X → Bool) (xs : List X) → list_all test xs ≡ true → AllByRecursion (λ x. test x ≡ true) xs
all-each test [] h = tt
all-each test (x ∷ xs) h = let parts = and_parts (test x) (list_all test xs) h in (parts.0, all-each test xs parts.1)

pub each-all : {X : Type 0} (test : X → Bool) (xs : List X) → AllByRecursion (λ x. test x ≡ true) xs → list_all test xs ≡ true
each-all test [] h = refl
each-all test (x ∷ xs) h = rw (h.0, each-all test xs h.1) refl

pub all-filter : {X : Type 0} (test kept : X → Bool) (xs : List X) → list_all test xs ≡ true → list_all test (filter kept xs) ≡ true
all-filter test kept xs h = each-all test (filter kept xs) (each-kept (λ x. test x ≡ true) kept xs (all-each test xs h))
