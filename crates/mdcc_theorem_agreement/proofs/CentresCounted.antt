-- A list of different centres, and the same centres as a test.
use Rattle.std.proofs.Common.{◌≡◌, ℕ, zero, suc, ◌+◌, ◌<◌, ◌≤◌, ◌==◌, Bool, true, false, cond, ◌&&◌, ◌||◌, List, [], ◌∷◌, length, refl, sym, ap, ◌∙◌, arith, inl, inr}
use Rattle.std.proofs.lemmas.Bool.{cases_Bool, and_parts, or_cases, eqb-true, eq-eqb, ne_eqb, cases_eq}
use Rattle.std.specs.List.{list_any, range_with_len}
use Rattle.std.specs.Prelude.{not}
use Rattle.mdcc_def_ledger.specs.AllowedStructures.{are_distinct_centres}
use Rattle.mdcc_theorem_agreement.proofs.Setups.{count, centres_to}
use Rattle.mdcc_theorem_agreement.proofs.ReducedOptions.{In}

-- the centres of a list, as a test
abbrev pub is_one_of : List ℕ → ℕ → Bool
is_one_of centres a = list_any (λ b. a == b) centres

pub one_of-In : (a : ℕ) (xs : List ℕ) → is_one_of xs a ≡ true → In a xs
one_of-In a [] h = absurd (cc)
one_of-In a (x ∷ xs) h = elim (or_cases (a == x) (is_one_of xs a) h) [ inl e ↦ inl (sym (eqb-true a x e)) | inr e ↦ inr (one_of-In a xs e) ]

pub In-one_of : (a : ℕ) (xs : List ℕ) → In a xs → is_one_of xs a ≡ true
In-one_of a [] h = absurd h
In-one_of a (x ∷ xs) h =
    elim h [
      | inl here ↦ rw (eq-eqb a x (sym here)) refl
      | inr there ↦ elim (cases_Bool (a == x)) [ inl e ↦ rw e refl | inr e ↦ rw e (In-one_of a xs there) ]
    ]

-- a centre stands once among all
count_none : (c k n : ℕ) → c < k → count (λ a. a == c) (range_with_len k n) ≡ 0
count_none c k zero h = refl
count_none c k (suc n) h =
    let here : (k == c) ≡ false = ne_eqb k c (λ e. omega arith) in
    rw here (omega (arith, count_none c (k + 1) n (omega arith)))

count_once : (c k n : ℕ) → k ≤ c → c < k + n → count (λ a. a == c) (range_with_len k n) ≡ 1
count_once c k zero low high = absurd (omega arith)
count_once c k (suc n) low high =
    elim (cases_eq k c) [
      | inl e ↦
          let here : (k == c) ≡ true = eq-eqb k c e in
          rw here (omega (arith, count_none c (k + 1) n (omega arith)))
      | inr e ↦
          let here : (k == c) ≡ false = ne_eqb k c e in
          rw here (omega (arith, count_once c (k + 1) n (omega arith) (omega arith)))
    ]

In-range : (c k n : ℕ) → In c (range_with_len k n) → (k ≤ c) × (c < k + n)
In-range c k zero h = absurd h
In-range c k (suc n) h =
    elim h [
      | inl here ↦ (omega arith, omega arith)
      | inr there ↦ let more : (k + 1 ≤ c) × (c < (k + 1) + n) = In-range c (k + 1) n there in (omega arith, omega arith)
    ]

count-centre : (c n : ℕ) → In c (centres_to n) → count (λ a. a == c) (centres_to n) ≡ 1
count-centre c n h = let r : (1 ≤ c) × (c < 1 + n) = In-range c 1 n h in count_once c 1 n r.0 r.1

-- one centre more
count_more : (c : ℕ) (q g : ℕ → Bool) (xs : List ℕ) → q c ≡ false →
    count (λ a. ((a == c) || q a) && g a) xs ≡ cond (g c) (count (λ a. a == c) xs) 0 + count (λ a. q a && g a) xs
count_more c q g [] h = elim (cases_Bool (g c)) [ inl e ↦ rw e refl | inr e ↦ rw e refl ]
count_more c q g (x ∷ xs) h =
    let rest : count (λ a. ((a == c) || q a) && g a) xs ≡ cond (g c) (count (λ a. a == c) xs) 0 + count (λ a. q a && g a) xs = count_more c q g xs h in
    elim (cases_Bool (x == c)) [
      | inl e ↦
          let same : x ≡ c = eqb-true x c e in
          let none : q x ≡ false = ap q same ∙ h in
          let one : g x ≡ g c = ap g same in
          elim (cases_Bool (g c)) [
            | inl f ↦ (let now : g x ≡ true = one ∙ f in
                let left : count (λ a. a == c) xs ≡ cond (g c) (count (λ a. a == c) xs) 0 = rw f refl in
                rw (e, none, now, f) (omega arith))
            | inr f ↦ (let now : g x ≡ false = one ∙ f in
                let left : 0 ≡ cond (g c) (count (λ a. a == c) xs) 0 = rw f refl in
                rw (e, none, now, f) (omega arith))
          ]
      | inr e ↦ elim (cases_Bool (g c)) [
        | inl f ↦ (let left : count (λ a. a == c) xs ≡ cond (g c) (count (λ a. a == c) xs) 0 = rw f refl in rw (e, f) (omega arith))
        | inr f ↦ (let left : 0 ≡ cond (g c) (count (λ a. a == c) xs) 0 = rw f refl in rw (e, f) (omega arith))
      ]
    ]

none_again : (b : Bool) → not b ≡ true → b ≡ false
none_again true h = absurd (cc)
none_again false h = refl

-- so the count over the list is the count over all, of those that pass the test
pub count-members : (n : ℕ) (g : ℕ → Bool) (centres : List ℕ) → are_distinct_centres centres ≡ true → ((a : ℕ) → In a centres → In a (centres_to n)) →
    count (λ a. is_one_of centres a && g a) (centres_to n) ≡ count g centres
count-members n g [] distinct within = none (centres_to n)
  where
    none : (xs : List ℕ) → count (λ a. false && g a) xs ≡ 0
    none [] = refl
    none (x ∷ xs) = omega (arith, none xs)
count-members n g (c ∷ cs) distinct within =
    let parts : (not (is_one_of cs c) ≡ true) × (are_distinct_centres cs ≡ true) = and_parts _ _ distinct in
    let rest : count (λ a. is_one_of cs a && g a) (centres_to n) ≡ count g cs = count-members n g cs parts.1 (λ a h. within a (inr h)) in
    let more : count (λ a. ((a == c) || is_one_of cs a) && g a) (centres_to n) ≡ cond (g c) (count (λ a. a == c) (centres_to n)) 0 + count (λ a. is_one_of cs a && g a) (centres_to n) =
    count_more c (is_one_of cs) g (centres_to n) (none_again (is_one_of cs c) parts.0) in
    let once : count (λ a. a == c) (centres_to n) ≡ 1 = count-centre c n (within c (inl refl)) in
    more ∙ ap (λ k. cond (g c) k 0 + count (λ a. is_one_of cs a && g a) (centres_to n)) once ∙ ap (λ k. cond (g c) 1 0 + k) rest

pub count-all : (centres : List ℕ) → count (λ a. true) centres ≡ length centres
count-all [] = refl
count-all (c ∷ cs) = omega (arith, count-all cs)

pub count-test : {A : Type 0} (p q : A → Bool) (xs : List A) → ((x : A) → p x ≡ q x) → count p xs ≡ count q xs
count-test p q [] h = refl
count-test p q (x ∷ xs) h = rw (h x, count-test p q xs h) refl

pub length-members : (n : ℕ) (centres : List ℕ) → are_distinct_centres centres ≡ true → ((a : ℕ) → In a centres → In a (centres_to n)) →
    count (is_one_of centres) (centres_to n) ≡ length centres
length-members n centres distinct within =
    count-test (is_one_of centres) (λ a. is_one_of centres a && true) (centres_to n)
    (λ a. elim (cases_Bool (is_one_of centres a)) [ inl e ↦ rw e refl | inr e ↦ rw e refl ])
    ∙ count-members n (λ a. true) centres distinct within ∙ count-all centres
