-- Parts in key order make a transaction as they stand, where none of them has a fault.
use Rattle.std.proofs.Common.{List, [], ap, append-nil, append_assoc, arith, false, fold, inl, inr, refl, sym, true, ℕ, ℤ, ◌++◌, ◌==◌, ◌∙◌, ◌∷◌, ◌≡◌, ◌≤◌}
use Rattle.std.proofs.lemmas.Bool.{and_parts, cases_Bool, eqb-true, le-ltb, or_from}
use Rattle.std.proofs.lemmas.Bool.Decides.{nat_tests}
use Rattle.std.specs.List.{list_any}
use Rattle.std.specs.Prelude.{length, nat_lt}
use Rattle.mdcc_base.specs.Key.{key_eq, key_lt}
use Rattle.mdcc_option.specs.Parts.{AreParts, are_parts_ascending, is_key_repeated, sorted_parts, with_part}
use Rattle.mdcc_option.specs.Transaction.{checked_by, parts_fault, transaction_of}
use Rattle.mdcc_option.specs.declared.items.Part.{Part}

-- ---- the order of keys

key_lt-trans : (a b c : List ℕ) → key_lt a b ≡ true → key_lt b c ≡ true → key_lt a c ≡ true
key_lt-trans [] [] c h k = absurd cc
key_lt-trans [] (b ∷ bs) [] h k = absurd cc
key_lt-trans [] (b ∷ bs) (c ∷ cs) h k = refl
key_lt-trans (a ∷ as') [] c h k = absurd cc
key_lt-trans (a ∷ as') (b ∷ bs) [] h k = absurd cc
key_lt-trans (a ∷ as') (b ∷ bs) (c ∷ cs) h k = grind (arith, nat_tests, h, k, key_lt-trans as' bs cs)

key_lt-not_back : (a b : List ℕ) → key_lt a b ≡ true → key_lt b a ≡ false
key_lt-not_back [] [] h = absurd cc
key_lt-not_back [] (b ∷ bs) h = refl
key_lt-not_back (a ∷ as') [] h = absurd cc
key_lt-not_back (a ∷ as') (b ∷ bs) h = grind (arith, nat_tests, h, key_lt-not_back as' bs)

key_lt-apart : (a b : List ℕ) → key_lt a b ≡ true → key_eq b a ≡ false
key_lt-apart [] [] h = absurd cc
key_lt-apart [] (b ∷ bs) h = refl
key_lt-apart (a ∷ as') [] h = absurd cc
key_lt-apart (a ∷ as') (b ∷ bs) h = grind (arith, nat_tests, h, key_lt-apart as' bs)

-- ---- parts in order

ascending-rest : (p : Part) (ps : List Part) → are_parts_ascending (p ∷ ps) ≡ true → are_parts_ascending ps ≡ true
ascending-rest p [] h = refl
ascending-rest p (q ∷ ps) h = (and_parts (key_lt p.key q.key) (are_parts_ascending (q ∷ ps)) h).1

-- a part stands before all after it, so none of them has a key before its own, or its own
ascending-before : (q : Part) (acc : List Part) (p : Part) (ps : List Part) → are_parts_ascending (q ∷ acc ++ p ∷ ps) ≡ true → key_lt q.key p.key ≡ true
ascending-before q [] p ps h = (and_parts (key_lt q.key p.key) (are_parts_ascending (p ∷ ps)) h).0
ascending-before q (r ∷ acc) p ps h =
    let parts = and_parts (key_lt q.key r.key) (are_parts_ascending (r ∷ acc ++ p ∷ ps)) h in
    key_lt-trans q.key r.key p.key parts.0 (ascending-before r acc p ps parts.1)

ascending-without : (p q : Part) (ps : List Part) → are_parts_ascending (p ∷ q ∷ ps) ≡ true → are_parts_ascending (p ∷ ps) ≡ true
ascending-without p q [] h = refl
ascending-without p q (r ∷ rs) h =
    let first = and_parts (key_lt p.key q.key) (are_parts_ascending (q ∷ r ∷ rs)) h in
    let second = and_parts (key_lt q.key r.key) (are_parts_ascending (r ∷ rs)) first.1 in
    let below : key_lt p.key r.key ≡ true = key_lt-trans p.key q.key r.key first.0 second.0 in
    rw below second.1

none-alike : (p : Part) (ps : List Part) → are_parts_ascending (p ∷ ps) ≡ true → list_any (λ (q : Part). key_eq q.key p.key) ps ≡ false
none-alike p [] h = refl
none-alike p (q ∷ qs) h =
    or_from (key_eq q.key p.key) (list_any (λ (r : Part). key_eq r.key p.key) qs)
    (key_lt-apart p.key q.key (and_parts (key_lt p.key q.key) (are_parts_ascending (q ∷ qs)) h).0)
    (none-alike p qs (ascending-without p q qs h))

ascending-distinct : (ps : List Part) → are_parts_ascending ps ≡ true → is_key_repeated ps ≡ false
ascending-distinct [] h = refl
ascending-distinct (p ∷ ps) h =
    or_from (list_any (λ (q : Part). key_eq q.key p.key) ps) (is_key_repeated ps) (none-alike p ps h) (ascending-distinct ps (ascending-rest p ps h))

-- ---- they are sorted

with_part-after : (acc : List Part) (p : Part) (ps : List Part) → are_parts_ascending (acc ++ p ∷ ps) ≡ true → with_part acc p ≡ acc ++ p ∷ []
with_part-after [] p ps h = refl
with_part-after (q ∷ acc) p ps h =
    rw (key_lt-not_back q.key p.key (ascending-before q acc p ps h))
    (ap (λ (rs : List Part). q ∷ rs) (with_part-after acc p ps (ascending-rest q (acc ++ p ∷ ps) h)))

sorted_onto : (acc ps : List Part) → are_parts_ascending (acc ++ ps) ≡ true → fold with_part acc ps ≡ acc ++ ps
sorted_onto acc [] h = sym (append-nil acc)
sorted_onto acc (p ∷ ps) h =
    let after : with_part acc p ≡ acc ++ p ∷ [] = with_part-after acc p ps h in
    let regrouped : (acc ++ p ∷ []) ++ ps ≡ acc ++ p ∷ ps = append_assoc acc (p ∷ []) ps in
    rw after (sorted_onto (acc ++ p ∷ []) ps (rw regrouped h) ∙ regrouped)

sorted-ascending : (parts : List Part) → are_parts_ascending parts ≡ true → sorted_parts parts ≡ parts
sorted-ascending parts h = sorted_onto [] parts h

-- ---- the transaction

some-parts : (parts : List Part) → 1 ≤ length parts → (length parts == 0) ≡ false
some-parts parts some = elim (cases_Bool (length parts == 0)) [
  | inl e ↦ absurd (omega (arith, some, eqb-true (length parts) 0 e))
  | inr e ↦ e
]

pub in_order : (schema : List (ℤ × ℤ)) (parts : List Part) → AreParts parts → transaction_of schema parts ≡ checked_by (parts_fault schema parts) parts
in_order schema parts are =
    let some : (length parts == 0) ≡ false = some-parts parts are.some in
    let few : nat_lt 8 (length parts) ≡ false = le-ltb 8 (length parts) are.few in
    let distinct : is_key_repeated parts ≡ false = ascending-distinct parts are.ascending in
    let same : sorted_parts parts ≡ parts = sorted-ascending parts are.ascending in
    rw (some, few, distinct, same) refl
