-- Parts in key order stay as they are when they are sorted.
use Rattle.std.proofs.Common.{◌≡◌, ℕ, true, false, List, [], ◌∷◌, ◌++◌, append-nil, append_assoc, refl, sym, ap, ◌∙◌, arith, fold}
use Rattle.std.proofs.lemmas.Bool.{and_parts}
use Rattle.std.proofs.lemmas.Bool.Decides.{nat_tests}
use Rattle.mdcc_base.specs.Key.{key_lt}
use Rattle.mdcc_option.specs.declared.items.Part.{Part}
use Rattle.mdcc_option.specs.Parts.{with_part, sorted_parts, are_parts_ascending}

key_lt-trans : (a b c : List ℕ) → key_lt a b ≡ true → key_lt b c ≡ true → key_lt a c ≡ true
key_lt-trans [] [] c h k = absurd cc
key_lt-trans [] (b ∷ bs) [] h k = absurd cc
key_lt-trans [] (b ∷ bs) (c ∷ cs) h k = refl
key_lt-trans (a ∷ as') [] c h k = absurd cc
key_lt-trans (a ∷ as') (b ∷ bs) [] h k = absurd cc
key_lt-trans (a ∷ as') (b ∷ bs) (c ∷ cs) h k = grind (arith, nat_tests, h, k, key_lt-trans as' bs cs)

key_lt-not_back : (a b : List ℕ) → key_lt a b ≡ true → key_lt b a ≡ false
key_lt-not_back [] [] h = absurd cc
key_lt-not_back [] (b ∷ bs) h = refl
key_lt-not_back (a ∷ as') [] h = absurd cc
key_lt-not_back (a ∷ as') (b ∷ bs) h = grind (arith, nat_tests, h, key_lt-not_back as' bs)

-- the first of some in order stands before each later one
ascending-before : (q : Part) (acc : List Part) (p : Part) (ps : List Part) → are_parts_ascending (q ∷ acc ++ p ∷ ps) ≡ true → key_lt q.key p.key ≡ true
ascending-before q [] p ps h = (and_parts (key_lt q.key p.key) (are_parts_ascending (p ∷ ps)) h).0
ascending-before q (r ∷ acc) p ps h =
    let parts = and_parts (key_lt q.key r.key) (are_parts_ascending (r ∷ acc ++ p ∷ ps)) h in
    key_lt-trans q.key r.key p.key parts.0 (ascending-before r acc p ps parts.1)

ascending-rest : (p : Part) (ps : List Part) → are_parts_ascending (p ∷ ps) ≡ true → are_parts_ascending ps ≡ true
ascending-rest p [] h = refl
ascending-rest p (q ∷ ps) h = (and_parts (key_lt p.key q.key) (are_parts_ascending (q ∷ ps)) h).1

-- so a later one is put behind them
with_part-behind : (acc : List Part) (p : Part) (ps : List Part) → are_parts_ascending (acc ++ p ∷ ps) ≡ true → with_part acc p ≡ acc ++ p ∷ []
with_part-behind [] p ps h = refl
with_part-behind (q ∷ acc) p ps h =
    rw (key_lt-not_back q.key p.key (ascending-before q acc p ps h))
    (ap (λ (rs : List Part). q ∷ rs) (with_part-behind acc p ps (ascending-rest q (acc ++ p ∷ ps) h)))

sorted_onto : (acc ps : List Part) → are_parts_ascending (acc ++ ps) ≡ true → fold with_part acc ps ≡ acc ++ ps
sorted_onto acc [] h = sym (append-nil acc)
sorted_onto acc (p ∷ ps) h =
    let behind : with_part acc p ≡ acc ++ p ∷ [] = with_part-behind acc p ps h in
    let regrouped : (acc ++ p ∷ []) ++ ps ≡ acc ++ p ∷ ps = append_assoc acc (p ∷ []) ps in
    rw behind (sorted_onto (acc ++ p ∷ []) ps (rw regrouped h) ∙ regrouped)

pub sorted_parts-ascending : (parts : List Part) → are_parts_ascending parts ≡ true → sorted_parts parts ≡ parts
sorted_parts-ascending parts h = sorted_onto [] parts h
