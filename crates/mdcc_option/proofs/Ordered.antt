-- Parts that are put in one by one stand in key order.
use Rattle.std.proofs.Common.{◌≡◌, ℕ, Bool, true, false, List, [], ◌∷◌, ◌++◌, append-nil, refl, ◌∙◌, arith, inl, inr}
use Rattle.std.specs.Prelude.{fold}
use Rattle.std.specs.List.{list_any}
use Rattle.std.specs.List.Sorted.{IsPermutation}
use Rattle.std.proofs.lemmas.List.Sorted.{IsPermutation-refl, IsPermutation-trans, IsPermutation-middle, IsPermutation-cons, IsPermutation-append_left}
use Rattle.std.proofs.lemmas.Bool.{cases_Bool, and_parts}
use Rattle.std.specs.Cmp.Lexicographic.{nat_list_eq_equiv}
use Rattle.mdcc_base.specs.Key.{key_eq, key_lt}
use Rattle.mdcc_option.specs.declared.items.Part.{Part}
use Rattle.mdcc_option.specs.Parts.{with_part, sorted_parts, is_key_repeated, are_parts_ascending}

-- of two keys that are not one, one stands before the other
pub key_lt-total : (a b : List ℕ) → key_lt a b ≡ false → key_eq b a ≡ false → key_lt b a ≡ true
key_lt-total [] [] h e = cc
key_lt-total [] (b ∷ bs) h e = cc
key_lt-total (a ∷ as') [] h e = refl
key_lt-total (a ∷ as') (b ∷ bs) h e =
    elim (cases_Bool (key_lt bs as')) [
      | inl f ↦ grind (arith, h, e, f)
      | inr f ↦ grind (arith, h, e, f, key_lt-total as' bs)
    ]

key_eq-sym : (a b : List ℕ) → key_eq a b ≡ false → key_eq b a ≡ false
key_eq-sym a b h = nat_list_eq_equiv.symm b a ∙ h

abbrev has_key : List Part → List ℕ → Bool
has_key parts key = list_any (λ q. key_eq q.key key) parts

has_key-with_part : (acc : List Part) (p : Part) (k : List ℕ) → has_key acc k ≡ false → key_eq p.key k ≡ false → has_key (with_part acc p) k ≡ false
has_key-with_part [] p k h e = rw e refl
has_key-with_part (q ∷ qs) p k h e =
    elim (cases_Bool (key_lt p.key q.key)) [
      | inl f ↦ rw (f, e) h
      | inr f ↦ elim (cases_Bool (key_eq q.key k)) [
        | inl g ↦ absurd (let bad : true ≡ false = rw g at h in cc)
        | inr g ↦ rw (f, g) (has_key-with_part qs p k (rw g at h) e)
      ]
    ]

-- a part of a new key keeps the order
ascending-with_part : (acc : List Part) (p : Part) → are_parts_ascending acc ≡ true → has_key acc p.key ≡ false → are_parts_ascending (with_part acc p) ≡ true
ascending-with_part [] p h e = refl
ascending-with_part (q ∷ []) p h e =
    elim (cases_Bool (key_lt p.key q.key)) [
      | inl f ↦ rw (f, f) refl
      | inr f ↦ elim (cases_Bool (key_eq q.key p.key)) [
        | inl g ↦ absurd (let bad : true ≡ false = rw g at e in cc)
        | inr g ↦ rw (f, key_lt-total p.key q.key f g) refl
      ]
    ]
ascending-with_part (q ∷ r ∷ rs) p h e =
    elim (cases_Bool (key_lt p.key q.key)) [
      | inl f ↦ rw (f, f) h
      | inr f ↦ elim (cases_Bool (key_eq q.key p.key)) [
        | inl g ↦ absurd (let bad : true ≡ false = rw g at e in cc)
        | inr g ↦
            let below : key_lt q.key p.key ≡ true = key_lt-total p.key q.key f g in
            let parts : (key_lt q.key r.key ≡ true) × (are_parts_ascending (r ∷ rs) ≡ true) = and_parts (key_lt q.key r.key) (are_parts_ascending (r ∷ rs)) h in
            let rest : has_key (r ∷ rs) p.key ≡ false = rw g at e in
            let more : are_parts_ascending (with_part (r ∷ rs) p) ≡ true = ascending-with_part (r ∷ rs) p parts.1 rest in
            rw f (elim (cases_Bool (key_lt p.key r.key)) [
              | inl k ↦ rw (k, below) (rw k at more)
              | inr k ↦ rw (k, parts.0) (rw k at more)
            ])
      ]
    ]

-- each of the parts has a key that those in order have not
abbrev AreNew : List Part → List Part → Type 0
AreNew acc [] = Unit {0}
AreNew acc (p ∷ ps) = (has_key acc p.key ≡ false) × AreNew acc ps

still_new : (acc : List Part) (p : Part) (ps : List Part) → AreNew acc ps → has_key ps p.key ≡ false → AreNew (with_part acc p) ps
still_new acc p [] h e = tt
still_new acc p (q ∷ qs) h e =
    elim (cases_Bool (key_eq q.key p.key)) [
      | inl g ↦ absurd (let bad : true ≡ false = rw g at e in cc)
      | inr g ↦ (has_key-with_part acc p q.key h.0 (key_eq-sym q.key p.key g), still_new acc p qs h.1 (rw g at e))
    ]

ascending-fold : (acc ps : List Part) → are_parts_ascending acc ≡ true → AreNew acc ps → is_key_repeated ps ≡ false → are_parts_ascending (fold with_part acc ps) ≡ true
ascending-fold acc [] h new e = h
ascending-fold acc (p ∷ ps) h new e =
    elim (cases_Bool (has_key ps p.key)) [
      | inl g ↦ absurd (let bad : true ≡ false = rw g at e in cc)
      | inr g ↦ ascending-fold (with_part acc p) ps (ascending-with_part acc p h new.0) (still_new acc p ps new.1 g) (rw g at e)
    ]

all_new : (ps : List Part) → AreNew [] ps
all_new [] = tt
all_new (p ∷ ps) = (refl, all_new ps)

-- parts of distinct keys are sorted so that each key stands before the next
pub ascending-sorted_parts : (ps : List Part) → is_key_repeated ps ≡ false → are_parts_ascending (sorted_parts ps) ≡ true
ascending-sorted_parts ps e = ascending-fold [] ps refl (all_new ps) e

-- ---- the same parts

IsPermutation-with_part : (acc : List Part) (p : Part) → IsPermutation (p ∷ acc) (with_part acc p)
IsPermutation-with_part [] p = IsPermutation-refl (p ∷ [])
IsPermutation-with_part (q ∷ qs) p =
    elim (cases_Bool (key_lt p.key q.key)) [
      | inl e ↦ rw e (IsPermutation-refl (p ∷ q ∷ qs))
      | inr e ↦
          rw e (IsPermutation-trans (p ∷ q ∷ qs) (q ∷ p ∷ qs) (q ∷ with_part qs p)
          (IsPermutation-middle (p ∷ []) q qs) (IsPermutation-cons q (p ∷ qs) (with_part qs p) (IsPermutation-with_part qs p)))
    ]

IsPermutation-fold : (acc ps : List Part) → IsPermutation (acc ++ ps) (fold with_part acc ps)
IsPermutation-fold acc [] = rw append-nil (IsPermutation-refl acc)
IsPermutation-fold acc (p ∷ ps) =
    IsPermutation-trans (acc ++ p ∷ ps) (p ∷ acc ++ ps) (fold with_part (with_part acc p) ps)
    (IsPermutation-middle acc p ps)
    (IsPermutation-trans (p ∷ acc ++ ps) (with_part acc p ++ ps) (fold with_part (with_part acc p) ps)
    (IsPermutation-append_left ps (p ∷ acc) (with_part acc p) (IsPermutation-with_part acc p))
    (IsPermutation-fold (with_part acc p) ps))

-- sorting keeps all parts
pub IsPermutation-sorted_parts : (ps : List Part) → IsPermutation ps (sorted_parts ps)
IsPermutation-sorted_parts ps = IsPermutation-fold [] ps
