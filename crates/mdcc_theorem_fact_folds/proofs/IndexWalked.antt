-- A walk of an index stops at the facts of a chain.
use Rattle.std.proofs.Common.{◌≡◌, ℕ, Bool, true, false, List, [], ◌∷◌, Option, Some, None, length, refl, ap, ◌∙◌, arith, inl, inr}
use Rattle.std.specs.List.{cons_option, filter_map}
use Rattle.std.specs.Option.{option_map}
use Rattle.std.specs.Cmp.Lexicographic.{nat_list_eq_equiv}
use Rattle.std.specs.Prelude.{map, ◌&&◌, ◌==◌}
use Rattle.std.proofs.lemmas.Bool.{cases_Bool}
use Rattle.std.proofs.lemmas.Bool.Decides.{nat_tests}
use Rattle.std.proofs.lemmas.List.{length-map}
use Rattle.mdcc_base.specs.Key.{key_eq}
use Rattle.mdcc_base.specs.TxId.{tx_eq}
use Rattle.mdcc_base.specs.declared.key.Key.{Key}
use Rattle.mdcc_cells_chains.proofs.Filtered.{walk-map, walk-whole}
use Rattle.mdcc_cells_chains.specs.Keys.{instance_eq}
use Rattle.mdcc_cells_chains.specs.Walks.{entry_at, walk}
use Rattle.mdcc_struct.proofs.Order.{tx_eq-sym}
use Rattle.mdcc_theorem_fact_folds.specs.Entered.{entered, heard_in, indices_found, instances_in, is_instance, promised_in}
use Rattle.mdcc_theorem_fact_folds.specs.IndexWalks.{InstanceIsWalked, OutcomesAreWalked, PromisesAreWalked, keys_of, walked}
use Rattle.mdcc_theorem_fact_folds.proofs.Found.{instance-found, outcomes-found, promises-found}

entry-map : {X Y : Type 0} (f : X → Y) (xs : List X) (i : ℕ) → entry_at (map f xs) i ≡ option_map f (entry_at xs i)
entry-map f [] i = refl
entry-map f (x ∷ xs) i =
    let ih = entry-map f xs i in
    elim (cases_Bool (i == length xs)) [
      | inl here ↦ rw (length-map xs f, here) refl
      | inr before ↦ rw (length-map xs f, before) ih
    ]

cons-map : {X Y : Type 0} (f : X → Y) (o : Option X) (xs : List X) → cons_option (option_map f o) (map f xs) ≡ map f (cons_option o xs)
cons-map f None xs = refl
cons-map f (Some x) xs = refl

entries-map : {X Y : Type 0} (f : X → Y) (xs : List X) (is : List ℕ) → filter_map (entry_at (map f xs)) is ≡ map f (filter_map (entry_at xs) is)
entries-map f xs [] = refl
entries-map f xs (i ∷ is) =
    ap (λ o. cons_option o (filter_map (entry_at (map f xs)) is)) (entry-map f xs i)
    ∙ ap (cons_option (option_map f (entry_at xs i))) (entries-map f xs is)
    ∙ cons-map f (entry_at xs i) (filter_map (entry_at xs) is)

walked-found : {K : Type 0} (test : K → Bool) (entries : List (K × ℕ)) → walked test entries ≡ indices_found test entries
walked-found {K = K} test entries =
    entries-map (λ (e : K × ℕ). e.1) entries (walk test (keys_of entries))
    ∙ ap (λ is. map (λ (e : K × ℕ). e.1) (filter_map (entry_at entries) is)) (walk-map (λ (e : K × ℕ). e.0) test entries)
    ∙ ap (map (λ (e : K × ℕ). e.1)) (walk-whole (λ (e : K × ℕ). test e.0) entries)

found-alike : {K : Type 0} (p q : K → Bool) (entries : List (K × ℕ)) → ((k : K) → p k ≡ q k) → indices_found p entries ≡ indices_found q entries
found-alike p q [] h = refl
found-alike p q (e ∷ es) h =
    elim (cases_Bool (q e.0)) [
      | inl passes ↦ rw (h e.0, passes) (ap (λ ys. e.1 ∷ ys) (found-alike p q es h))
      | inr fails ↦ rw (h e.0, fails) (found-alike p q es h)
    ]

key-sym : (a b : Key) → key_eq a b ≡ key_eq b a
key-sym a b = nat_list_eq_equiv.symm a b

and-swap : (a b : Bool) → (a && b) ≡ (b && a)
and-swap true true = refl
and-swap true false = refl
and-swap false true = refl
and-swap false false = refl

number-sym : (a b : ℕ) → (a == b) ≡ (b == a)
number-sym a b = grind (arith, nat_tests)

same-instance : (key : Key) (version : ℕ) (i : Key × ℕ) → instance_eq (key, version) i ≡ is_instance key version i
same-instance key version i =
    ap (λ b. b && version == i.1) (key-sym key i.0)
    ∙ ap (λ b. key_eq i.0 key && b) (number-sym version i.1)
    ∙ and-swap (key_eq i.0 key) (i.1 == version)

pub instance-walked : InstanceIsWalked
instance-walked fact_at indices key version all =
    let entries = entered instances_in fact_at indices in
    walked-found (instance_eq (key, version)) entries
    ∙ found-alike (instance_eq (key, version)) (is_instance key version) entries (same-instance key version)
    ∙ instance-found fact_at indices key version all

pub promises-walked : PromisesAreWalked
promises-walked fact_at indices key =
    let entries = entered promised_in fact_at indices in
    walked-found (key_eq key) entries
    ∙ found-alike (key_eq key) (λ k. key_eq k key) entries (key-sym key)
    ∙ promises-found fact_at indices key

pub outcomes-walked : OutcomesAreWalked
outcomes-walked fact_at indices tx =
    let entries = entered heard_in fact_at indices in
    walked-found (tx_eq tx) entries
    ∙ found-alike (tx_eq tx) (λ t. tx_eq t tx) entries (tx_eq-sym tx)
    ∙ outcomes-found fact_at indices tx
