-- Lemmas on the words on lists.
use Rattle.std.proofs.Common.{Bool, List, None, Option, Some, [], ap, arith, cond, false, inl, inr, refl, subst, sym, true, ℕ, ◌++◌, ◌+◌, ◌-◌, ◌<◌, ◌∙◌, ◌∷◌, ◌≡◌, ◌≤◌, ◌⊎◌}
use Rattle.std.specs.Prelude.{filter, filter_map, find, map}
use Rattle.std.proofs.lemmas.Bool.{cases_Bool, true≢false}
use Rattle.mdcc_theorem_trace_states.specs.Words.{Each, In, IsTail, count_where}

pub IsTail-same : {A : Type 0} (es : List A) → IsTail es es
IsTail-same [] = refl
IsTail-same (e ∷ es) = inl refl

pub IsTail-more : {A : Type 0} (new old es : List A) → IsTail old es → IsTail old (new ++ es)
IsTail-more [] old es h = h
IsTail-more (e ∷ new) old es h = inr (IsTail-more new old es h)

pub Each-at : {A : Type 0} (P : A → Type 0) (xs : List A) (x : A) → Each P xs → In x xs → P x
Each-at P [] x h i = absurd i
Each-at P (y ∷ ys) x h i = elim i [ inl e ↦ subst P (sym e) h.0 | inr r ↦ Each-at P ys x h.1 r ]

pub Each-from : {A : Type 0} (P : A → Type 0) (xs : List A) → ((x : A) → In x xs → P x) → Each P xs
Each-from P [] f = tt
Each-from P (y ∷ ys) f = (f y (inl refl), Each-from P ys (λ x i. f x (inr i)))

pub Each-like : {A : Type 0} (P Q : A → Type 0) (xs : List A) → ((x : A) → P x → Q x) → Each P xs → Each Q xs
Each-like P Q [] f h = tt
Each-like P Q (y ∷ ys) f h = (f y h.0, Each-like P Q ys f h.1)

pub Each-append : {A : Type 0} (P : A → Type 0) (xs ys : List A) → Each P xs → Each P ys → Each P (xs ++ ys)
Each-append P [] ys h g = g
Each-append P (x ∷ xs) ys h g = (h.0, Each-append P xs ys h.1 g)

pub Each-filter : {A : Type 0} (P : A → Type 0) (p : A → Bool) (xs : List A) → Each P xs → Each P (filter p xs)
Each-filter P p [] h = tt
Each-filter P p (x ∷ xs) h = elim (cases_Bool (p x)) [ inl e ↦ rw e (h.0, Each-filter P p xs h.1) | inr e ↦ rw e (Each-filter P p xs h.1) ]

pub Each-map : {A B : Type 0} (P : B → Type 0) (f : A → B) (xs : List A) → Each (λ x. P (f x)) xs → Each P (map f xs)
Each-map P f [] h = tt
Each-map P f (x ∷ xs) h = (h.0, Each-map P f xs h.1)

pub In-filter : {A : Type 0} (p : A → Bool) (xs : List A) (x : A) → In x (filter p xs) → In x xs × (p x ≡ true)
In-filter p [] x i = absurd i
In-filter p (y ∷ ys) x i =
    elim (cases_Bool (p y)) [
      | inl e ↦ let j : In x (y ∷ filter p ys) = rw e at i in
          elim j [ inl s ↦ (inl s, subst (λ z. p z ≡ true) (sym s) e) | inr r ↦ let g = In-filter p ys x r in (inr g.0, g.1) ]
      | inr e ↦ let j : In x (filter p ys) = rw e at i in let g = In-filter p ys x j in (inr g.0, g.1)
    ]

pub find_some : {A : Type 0} (p : A → Bool) (xs : List A) (x : A) → find p xs ≡ Some x → In x xs × (p x ≡ true)
find_some p [] x h = absurd (cc)
find_some p (y ∷ ys) x h =
    elim (cases_Bool (p y)) [
      | inl e ↦ let g : Some y ≡ Some x = rw e at h in let s : x ≡ y = cc in (inl s, subst (λ z. p z ≡ true) (sym s) e)
      | inr e ↦ let g : find p ys ≡ Some x = rw e at h in let r = find_some p ys x g in (inr r.0, r.1)
    ]

pub find_there : {A : Type 0} (p : A → Bool) (xs : List A) (x : A) → In x xs → p x ≡ true → (y : A) × (find p xs ≡ Some y)
find_there p [] x i h = absurd i
find_there p (y ∷ ys) x i h =
    elim (cases_Bool (p y)) [
      | inl e ↦ rw e (y, refl)
      | inr e ↦ rw e (elim i [ inl s ↦ let g : p y ≡ true = subst (λ z. p z ≡ true) s h in absurd (true≢false (sym g ∙ e)) | inr r ↦ find_there p ys x r h ])
    ]

pub count_filter_map : {A B : Type 0} (p : B → Bool) (q : A → Bool) (f : A → Option B) (xs : List A) → ((x : A) (y : B) → f x ≡ Some y → q x ≡ p y) → ((x : A) → f x ≡ None → q x ≡ false) →
    count_where p (filter_map f xs) ≡ count_where q xs
count_filter_map p q f [] g h = refl
count_filter_map {A = A} {B = B} p q f (x ∷ xs) g h = by_case (count_filter_map p q f xs g h) (f x) refl
  where
    by_case : count_where p (filter_map f xs) ≡ count_where q xs → (o : Option B) → f x ≡ o → count_where p (filter_map f (x ∷ xs)) ≡ count_where q (x ∷ xs)
    by_case rest None e = rw e (rw (h x e) (rw rest (omega arith)))
    by_case rest (Some y) e = rw e (rw (g x y e) (ap (λ n. cond (p y) 1 0 + n) rest))

pub count_more : {A : Type 0} (p q : A → Bool) (xs : List A) → ((x : A) → p x ≡ true → q x ≡ true) → count_where p xs ≤ count_where q xs
count_more p q [] h = omega arith
count_more p q (x ∷ xs) h =
    elim (cases_Bool (p x)) [
      | inl e ↦ rw e (rw (h x e) (omega (arith, count_more p q xs h)))
      | inr e ↦ rw e (omega (arith, count_more p q xs h))
    ]

-- where some element is counted
pub count_some : {A : Type 0} (p : A → Bool) (xs : List A) → 0 < count_where p xs → (x : A) × (In x xs) × (p x ≡ true)
count_some p [] h = absurd (omega arith)
count_some p (x ∷ xs) h =
    elim (cases_Bool (p x)) [
      | inl e ↦ (x, inl refl, e)
      | inr e ↦ let g : 0 < 0 + count_where p xs = rw e at h in let r = count_some p xs (omega arith) in (r.0, inr r.1, r.2)
    ]

-- no element is counted by both: together they count at most the length of a list that has both
pub count_apart : {A : Type 0} (p q : A → Bool) (xs : List A) (n : ℕ) → count_where (λ x. true) xs ≤ n → ((x : A) → p x ≡ true → q x ≡ true → ⊥) → count_where p xs + count_where q xs ≤ n
count_apart p q [] n h f = omega arith
count_apart p q (x ∷ xs) n h f =
    elim (cases_Bool (p x)) [
      | inl e ↦ elim (cases_Bool (q x)) [
        | inl g ↦ absurd (f x e g)
        | inr g ↦ rw e (rw g (omega (arith, count_apart p q xs (n - 1) (omega arith) f)))
      ]
      | inr e ↦ elim (cases_Bool (q x)) [
        | inl g ↦ rw e (rw g (omega (arith, count_apart p q xs (n - 1) (omega arith) f)))
        | inr g ↦ rw e (rw g (omega (arith, count_apart p q xs (n - 1) (omega arith) f)))
      ]
    ]

pub In-append : {A : Type 0} (x : A) (xs ys : List A) → In x (xs ++ ys) → In x xs ⊎ In x ys
In-append x [] ys i = inr i
In-append x (z ∷ xs) ys i = elim i [ inl e ↦ inl (inl e) | inr r ↦ elim (In-append x xs ys r) [ inl a ↦ inl (inr a) | inr b ↦ inr b ] ]

pub In-filter_map : {A B : Type 0} (f : A → Option B) (xs : List A) (y : B) → In y (filter_map f xs) → (x : A) × (In x xs) × (f x ≡ Some y)
In-filter_map f [] y i = absurd i
In-filter_map {A = A} {B = B} f (x ∷ xs) y i = by_case (λ j. In-filter_map f xs y j) (f x) refl
  where
    by_case : (In y (filter_map f xs) → (z : A) × (In z xs) × (f z ≡ Some y)) → (o : Option B) → f x ≡ o → (z : A) × (In z (x ∷ xs)) × (f z ≡ Some y)
    by_case rest None e = let j : In y (filter_map f xs) = rw e at i in let r = rest j in (r.0, inr r.1, r.2)
    by_case rest (Some z) e =
        let j : In y (z ∷ filter_map f xs) = rw e at i in
        elim j [ inl s ↦ (x, inl refl, rw s e) | inr t ↦ let r = rest t in (r.0, inr r.1, r.2) ]
