-- Pairs of choices and members: each once, and as many for each choice as there are members.
use Rattle.std.proofs.Common.{◌≡◌, ℕ, ◌*◌, ◌≤◌, ◌==◌, ◌&&◌, Bool, true, false, cond, List, [], ◌∷◌, refl, sym, ◌∙◌, subst, inl, inr, arith, map, length, IsPermutation}
use Rattle.std.specs.List.{AllByRecursion}
use Rattle.std.proofs.lemmas.Bool.{cases_Bool, eqb-true, true≢false}
use Rattle.mdcc_base.specs.Counts.{number_of}
use Rattle.mdcc_base.specs.Key.{key_eq}
use Rattle.mdcc_base.specs.declared.key.Key.{Key}
use Rattle.mdcc_option.proofs.Equal.{Decides-key}
use Rattle.mdcc_option.specs.declared.choices.Choice.{Choice}
use Rattle.mdcc_theorem_round_trip.specs.Deciding.{AreAllDifferent, have_one_key}
use Rattle.mdcc_theorem_round_trip.specs.Messages.{each_with}
use Rattle.mdcc_theorem_round_trip.proofs.Lists.{each-append, each-map, each-weaker, number-append, number-map, number-none, number-permuted}

-- of items that are apart at most one passes a test that only same ones pass together
pub apart-once : {X : Type 0} (same : X → X → Bool) (test : X → Bool) (xs : List X) → ((x y : X) → test x ≡ true → test y ≡ true → same x y ≡ true)
    → AreAllDifferent same xs → number_of test xs ≤ 1
apart-once same test [] f h = omega arith
apart-once {X = X} same test (x ∷ xs) f h =
    elim (cases_Bool (test x)) [
      | inl e ↦
          let none = number-none test xs (each-weaker (λ y. same x y ≡ false) (λ y. test y ≡ false) xs (λ y g. others y g e) h.0) in
          rw e (omega (arith, none))
      | inr e ↦ let ih = apart-once same test xs f h.1 in rw e (omega (arith, ih))
    ]
  where
    others : (y : X) → same x y ≡ false → test x ≡ true → test y ≡ false
    others y g e = elim (cases_Bool (test y)) [ inl k ↦ absurd (true≢false (sym (f x y e k) ∙ g)) | inr k ↦ k ]

pub key-true : (a b : Key) → key_eq a b ≡ true → a ≡ b
key-true a b h = (Decides-key a b).0 h

pub key-same : (a : Key) → key_eq a a ≡ true
key-same a = (Decides-key a a).1 refl

-- ---- pairs

-- the pair has this key
abbrev pub of_key : Key → Choice × ℕ → Bool
of_key key pair = key_eq pair.0.key key

-- and this member
abbrev pub of_both : Key → ℕ → Choice × ℕ → Bool
of_both key member pair = key_eq pair.0.key key && pair.1 == member

abbrev pub choice_of_key : Key → Choice → Bool
choice_of_key key choice = key_eq choice.key key

within : (b : Bool) (test : ℕ → Bool) (ms : List ℕ) → number_of (λ m. b && test m) ms ≤ cond b (number_of test ms) 0
within true test ms = omega arith
within false test [] = omega arith
within false test (m ∷ ms) = let ih = within false test ms in omega (arith, ih)

module _ (members : List ℕ) where
  with-choice : (key : Key) (choice : Choice) → number_of (of_key key) (map (λ member. (choice, member)) members) ≡ cond (key_eq choice.key key) (length members) 0
  with-choice key choice = number-map (of_key key) (λ member. (choice, member)) members ∙ each members
    where
      each : (ms : List ℕ) → number_of (λ (member : ℕ). key_eq choice.key key) ms ≡ cond (key_eq choice.key key) (length ms) 0
      each [] = elim (cases_Bool (key_eq choice.key key)) [ inl e ↦ rw e refl | inr e ↦ rw e refl ]
      each (m ∷ ms) = let ih = each ms in elim (cases_Bool (key_eq choice.key key)) [ inl e ↦ let g : number_of (λ (member : ℕ). key_eq choice.key key) ms ≡ length ms = ih ∙ rw e refl in rw e (omega (arith, g)) | inr e ↦ let g : number_of (λ (member : ℕ). key_eq choice.key key) ms ≡ 0 = ih ∙ rw e refl in rw e (omega (arith, g)) ]

  -- as many pairs have a key as there are members, for each choice of the key
  pub pairs-of_key : (key : Key) (choices : List Choice) → number_of (of_key key) (each_with choices members) ≡ number_of (choice_of_key key) choices * length members
  pairs-of_key key [] = omega arith
  pairs-of_key key (choice ∷ choices) =
      let more = number-append (of_key key) (map (λ member. (choice, member)) members) (each_with choices members) in
      let first = with-choice key choice in
      let ih = pairs-of_key key choices in
      elim (cases_Bool (key_eq choice.key key)) [
        | inl e ↦ let g : number_of (of_key key) (map (λ member. (choice, member)) members) ≡ length members = first ∙ rw e refl in more ∙ rw (g, ih, e) (omega arith)
        | inr e ↦ let g : number_of (of_key key) (map (λ member. (choice, member)) members) ≡ 0 = first ∙ rw e refl in more ∙ rw (g, ih, e) (omega arith)
      ]

  with-both : (key : Key) (member : ℕ) (choice : Choice) → number_of (of_both key member) (map (λ m. (choice, m)) members) ≤ cond (key_eq choice.key key) (number_of (λ m. m == member) members) 0
  with-both key member choice =
      subst (λ n. n ≤ cond (key_eq choice.key key) (number_of (λ m. m == member) members) 0) (sym (number-map (of_both key member) (λ m. (choice, m)) members))
      (within (key_eq choice.key key) (λ m. m == member) members)

  -- where members are apart, no key has a member more often than choices have the key
  pub pairs-of_both : (key : Key) (member : ℕ) (choices : List Choice) → number_of (λ m. m == member) members ≤ 1 → number_of (of_both key member) (each_with choices members) ≤ number_of (choice_of_key key) choices
  pairs-of_both key member [] once = omega arith
  pairs-of_both key member (choice ∷ choices) once =
      let more = number-append (of_both key member) (map (λ m. (choice, m)) members) (each_with choices members) in
      let first = with-both key member choice in
      let ih = pairs-of_both key member choices once in
      elim (cases_Bool (key_eq choice.key key)) [
        | inl e ↦ let g : number_of (of_both key member) (map (λ m. (choice, m)) members) ≤ number_of (λ m. m == member) members = rw e at first in rw e (omega (arith, more, g, ih, once))
        | inr e ↦ let g : number_of (of_both key member) (map (λ m. (choice, m)) members) ≤ 0 = rw e at first in rw e (omega (arith, more, g, ih))
      ]

-- what holds of each choice with each member holds of each pair
pub each-pair : (P : Choice × ℕ → Type 0) (choices : List Choice) (members : List ℕ)
    → AllByRecursion (λ (choice : Choice). AllByRecursion (λ (member : ℕ). P (choice, member)) members) choices → AllByRecursion P (each_with choices members)
each-pair P [] members h = tt
each-pair P (choice ∷ choices) members h =
    each-append P (map (λ member. (choice, member)) members) (each_with choices members) (each-map P (λ member. (choice, member)) members h.0) (each-pair P choices members h.1)

-- ---- choices and members that are apart, and pairs in any order

one_key : (key : Key) (a b : Choice) → choice_of_key key a ≡ true → choice_of_key key b ≡ true → have_one_key a b ≡ true
one_key key a b h g = subst (λ k. key_eq a.key k ≡ true) (sym (key-true b.key key g)) h

pub one_member : (member : ℕ) (m n : ℕ) → (m == member) ≡ true → (n == member) ≡ true → (m == n) ≡ true
one_member member m n h g = subst (λ k. (m == k) ≡ true) (sym (eqb-true n member g)) h

module _ (choices : List Choice) (members : List ℕ) (order : List (Choice × ℕ)) (moved : IsPermutation (each_with choices members) order) where
  -- each pair comes once
  pub ordered-once : AreAllDifferent have_one_key choices → AreAllDifferent (λ (m n : ℕ). m == n) members → (key : Key) (member : ℕ) → number_of (of_both key member) order ≤ 1
  ordered-once apart distinct key member =
      let by_key = apart-once have_one_key (choice_of_key key) choices (one_key key) apart in
      let by_member = apart-once (λ (m n : ℕ). m == n) (λ m. m == member) members (one_member member) distinct in
      let all = pairs-of_both members key member choices by_member in
      let same = number-permuted (of_both key member) (each_with choices members) order moved in
      omega (arith, same, all, by_key)

  -- each key of a choice comes as often as there are members
  pub ordered-each : (key : Key) → number_of (choice_of_key key) choices ≡ 1 → number_of (of_key key) order ≡ length members
  ordered-each key once =
      number-permuted (of_key key) (each_with choices members) order moved ∙ pairs-of_key members key choices ∙ rw once (omega arith)
