-- Keys are found by their chains.
use Rattle.std.proofs.Common.{◌≡◌, ◌==◌, inl, inr, ℕ, ◌<◌, ◌≤◌, ◌++◌, ◌∷◌, [], List, Option, Some, None, Bool, true, false, length, get_or, set, reverse, sym, ◌∙◌, ap, subst, arith, refl}
use Rattle.std.proofs.lemmas.Bool.{cases_Bool, cases_eq, cases_order, eq-eqb, eqb-true}
use Rattle.std.proofs.lemmas.Nat.{mod_below}
use Rattle.std.proofs.lemmas.List.{reverse-append, reverse-reverse, length-reverse, length_push, length-set, get_or_push, get_or_append_left, get_or-set_same, get_or-set_other}
use Rattle.mdcc_cells_chains.specs.Keyed.{AreHeads, AreLinked, IsIndexed, IsOnWay, chain_of, shares_chain}
use Rattle.mdcc_cells_chains.specs.Links.{Links}
use Rattle.mdcc_cells_chains.specs.Walks.{walk, first_in, first_below, entry_at, has_at, older}
use Rattle.mdcc_cells_chains.proofs.Filtered.{older-all, older-skip, entry-skip, entry-within, below-length}
use Rattle.mdcc_cells_chains.proofs.OnWay.{Implies, way-at, way-from_head, way-from_index}

-- ---- entries as they lie in memory

pub reverse-push : {X : Type 0} (xs : List X) (x : X) → reverse (xs ++ x ∷ []) ≡ x ∷ reverse xs
reverse-push xs x = reverse-append xs (x ∷ [])

entry-get : {X : Type 0} (xs : List X) (i : ℕ) (d : X) → i < length xs → entry_at xs i ≡ Some (get_or (reverse xs) i d)
entry-get [] i d within = absurd (omega arith)
entry-get {X = X} (x ∷ xs) i d within =
    let back : reverse (x ∷ xs) ≡ reverse xs ++ x ∷ [] = reverse-append (x ∷ []) xs in
    elim (cases_order i (length xs)) [
      | inl here ↦
          let got : get_or (reverse xs ++ x ∷ []) i d ≡ x = get_or_push (reverse xs) x d i (length-reverse xs ∙ sym here) in
          rw (back, got, eq-eqb i (length xs) here) refl
      | inr (inl below) ↦
          let got : get_or (reverse xs ++ x ∷ []) i d ≡ get_or (reverse xs) i d = get_or_append_left (reverse xs) (x ∷ []) d i (omega (arith, length-reverse xs, below)) in
          rw (back, got) (entry-skip x xs i below ∙ entry-get xs i d below)
      | inr (inr above) ↦ absurd (omega arith)
    ]

pub entry-read : {X : Type 0} (items : List X) (i : ℕ) (x : X) → i < length items → x ≡ get_or items i x → entry_at (reverse items) i ≡ Some x
entry-read items i x within is =
    entry-get (reverse items) i x (omega (arith, length-reverse items, within))
    ∙ ap (λ xs. Some (get_or xs i x)) (reverse-reverse items) ∙ ap (λ y. Some y) (sym is)

pub has-entry : {X : Type 0} (passes : X → Bool) (xs : List X) (i : ℕ) (x : X) → entry_at xs i ≡ Some x → has_at passes xs i ≡ passes x
has-entry passes [] i x at = absurd (cc)
has-entry {X = X} passes (y ∷ ys) i x at = elim (cases_Bool (i == length ys)) [
  | inl here ↦ let e : Some y ≡ Some x = rw here at at in let same : y ≡ x = cc in rw (here, same) refl
  | inr there ↦ rw there (has-entry passes ys i x (rw there at at))
]

pub has-past : {X : Type 0} (passes : X → Bool) (xs : List X) (i : ℕ) → length xs ≤ i → has_at passes xs i ≡ false
has-past passes [] i past = refl
has-past passes (y ∷ ys) i past = elim (cases_Bool (i == length ys)) [
  | inl here ↦ let same : i ≡ length ys = eqb-true i (length ys) here in absurd (omega arith)
  | inr there ↦ rw there (has-past passes ys i (omega arith))
]

pub has-found : {X : Type 0} (passes : X → Bool) (xs : List X) (i : ℕ) → has_at passes xs i ≡ true → (x : X) × (entry_at xs i ≡ Some x) × (passes x ≡ true)
has-found passes [] i has = absurd (cc)
has-found {X = X} passes (y ∷ ys) i has = elim (cases_Bool (i == length ys)) [
  | inl here ↦ (y, rw here refl, rw here at has)
  | inr there ↦
      let found : (x : X) × (entry_at ys i ≡ Some x) × (passes x ≡ true) = has-found passes ys i (rw there at has) in
      (found.0, rw there found.1, found.2)
]

-- ---- chains

pub link-at : {K : Type 0} (chain : K → ℕ) (links : List (Option ℕ)) (keys : List K) (i : ℕ) (k : K) → AreLinked chain links keys → entry_at keys i ≡ Some k
    → get_or links i None ≡ first_in (walk (λ x. chain x == chain k) (older i keys))
link-at chain links [] i k held at = absurd (cc)
link-at {K = K} chain links (y ∷ ys) i k held at = elim (cases_Bool (i == length ys)) [
  | inl here ↦
      let same : i ≡ length ys = eqb-true i (length ys) here in
      let e : Some y ≡ Some k = rw here at at in
      let is : y ≡ k = cc in
      let rest : older i (y ∷ ys) ≡ ys = older-skip i y ys (omega arith) ∙ older-all i ys (omega arith) in
      rw (rest, ← is, same) held.0
  | inr there ↦
      let further : entry_at ys i ≡ Some k = rw there at at in
      let rest : older i (y ∷ ys) ≡ older i ys = older-skip i y ys (omega (arith, entry-within ys i k further)) in
      rw rest (link-at chain links ys i k held.1 further)
]

-- keys that are told apart by a test are in one chain where they are one
pub chain-implied : {K : Type 0} (hash : K → ℕ) (count : ℕ) (same : K → K → Bool) (key : K) → ((a b : K) → same a b ≡ true → a ≡ b) → Implies (same key) (shares_chain hash count key)
chain-implied hash count same key one x is = eq-eqb (chain_of hash count x) (chain_of hash count key) (ap (chain_of hash count) (sym (one key x is)))

-- the link from where a walk through a chain has come to
pub way-link : {K : Type 0} (hash : K → ℕ) (count : ℕ) (key : K) (wanted : K → Bool) (limit : ℕ) (links : List (Option ℕ)) (keys : List K) (i : ℕ) → AreLinked (chain_of hash count) links keys
    → IsOnWay (shares_chain hash count key) wanted limit keys (Some i) → get_or links i None ≡ first_in (walk (shares_chain hash count key) (older i keys))
way-link {K = K} hash count key wanted limit links keys i held way =
    let entry : (x : K) × (entry_at keys i ≡ Some x) × (shares_chain hash count key x ≡ true) = way-at (shares_chain hash count key) wanted limit keys i way in
    let same : chain_of hash count entry.0 ≡ chain_of hash count key = eqb-true (chain_of hash count entry.0) (chain_of hash count key) entry.2 in
    link-at (chain_of hash count) links keys i entry.0 held entry.1 ∙ ap (λ n. first_in (walk (λ x. chain_of hash count x == n) (older i keys))) same

-- ---- one more key

held-more : {K : Type 0} (chain : K → ℕ) (links more : List (Option ℕ)) (keys : List K) → length keys ≤ length links → AreLinked chain links keys → AreLinked chain (links ++ more) keys
held-more chain links more [] long held = tt
held-more chain links more (k ∷ ks) long held =
    (get_or_append_left links more None (length ks) (omega arith) ∙ held.0, held-more chain links more ks (omega arith) held.1)

held-push : {K : Type 0} (chain : K → ℕ) (heads links : List (Option ℕ)) (keys : List K) (key : K) → length links ≡ length keys → chain key < length heads → AreHeads chain heads keys → AreLinked chain links keys
    → AreLinked chain (links ++ get_or heads (chain key) None ∷ []) (key ∷ keys)
held-push chain heads links keys key long within are held =
    (get_or_push links (get_or heads (chain key) None) None (length keys) long ∙ are (chain key) within, held-more chain links (get_or heads (chain key) None ∷ []) keys (omega (arith, long)) held)

heads-push : {K : Type 0} (chain : K → ℕ) (heads : List (Option ℕ)) (keys : List K) (key : K) → chain key < length heads → AreHeads chain heads keys
    → (i : ℕ) → i < length heads → get_or (set heads (chain key) (Some (length keys))) i None ≡ first_in (walk (λ x. chain x == i) (key ∷ keys))
heads-push chain heads keys key within are i inside = elim (cases_eq i (chain key)) [
  | inl same ↦
      let here : get_or (set heads (chain key) (Some (length keys))) i None ≡ Some (length keys) = ap (λ k. get_or (set heads (chain key) (Some (length keys))) k None) same ∙ get_or-set_same heads (chain key) (Some (length keys)) None within in
      here ∙ rw (eq-eqb (chain key) i (sym same)) refl
  | inr other ↦
      get_or-set_other heads (chain key) i (Some (length keys)) None other
      ∙ are i inside ∙ rw (apart (chain key) i other) refl
]
  where
    apart : (a i : ℕ) → (i ≡ a → ⊥) → (a == i) ≡ false
    apart a i other = elim (cases_Bool (a == i)) [
      | inl is ↦ absurd (other (sym (eqb-true a i is)))
      | inr not ↦ not
    ]

pub indexed-push : {K : Type 0} (hash : K → ℕ) (heads links : List (Option ℕ)) (room : ℕ) (keys : List K) (key : K) → IsIndexed hash (record { heads = heads; links = links; room = room }) keys → chain_of hash (length heads) key < length heads
    → length links < room
    → IsIndexed hash (record { heads = set heads (chain_of hash (length heads) key) (Some (length links)); links = links ++ get_or heads (chain_of hash (length heads) key) None ∷ []; room = room }) (keys ++ key ∷ [])
indexed-push hash heads links room keys key is within free =
    let chain = chain_of hash (length heads) in
    let back : reverse (keys ++ key ∷ []) ≡ key ∷ reverse keys = reverse-push keys key in
    let count : length (set heads (chain_of hash (length heads) key) (Some (length links))) ≡ length heads = length-set heads (chain_of hash (length heads) key) (Some (length links)) in
    let long : length links ≡ length (reverse keys) = is.long ∙ sym (length-reverse keys) in
    record {
      some = omega (arith, count, is.some);
      long = omega (arith, is.long, length_push keys key, length_push links (get_or heads (chain_of hash (length heads) key) None));
      within = omega (arith, free, is.long, length_push keys key);
      heads = λ i inside. rw (count, back, long) (heads-push (chain_of hash (length heads)) heads (reverse keys) key within is.heads i (omega (arith, inside, count)));
      links = rw (count, back) (held-push (chain_of hash (length heads)) heads links (reverse keys) key long within is.heads is.links);
    }

pub indexed-pushed : {K : Type 0} (hash : K → ℕ) (old new : Links) (keys : List K) (key : K) (chain : ℕ) → IsIndexed hash old keys → chain ≡ chain_of hash (length old.heads) key → chain < length old.heads → length old.links < old.room
    → new.heads ≡ set old.heads chain (Some (length old.links)) → new.links ≡ old.links ++ get_or old.heads chain None ∷ [] → new.room ≡ old.room → IsIndexed hash new (keys ++ key ∷ [])
indexed-pushed hash old new keys key chain is chain-is within free heads links room =
    let pushed = indexed-push hash old.heads old.links old.room keys key is (omega (arith, chain-is, within)) free in
    let same : record { heads = set old.heads (chain_of hash (length old.heads) key) (Some (length old.links)); links = old.links ++ get_or old.heads (chain_of hash (length old.heads) key) None ∷ []; room = old.room } ≡ new =
    λ i. record {
      heads = (ap (λ c. set old.heads c (Some (length old.links))) (sym chain-is) ∙ sym heads) i;
      links = (ap (λ c. old.links ++ get_or old.heads c None ∷ []) (sym chain-is) ∙ sym links) i;
      room = (sym room) i;
    } in
    subst (λ table. IsIndexed hash table (keys ++ key ∷ [])) same pushed

pub chain-within : {K : Type 0} (hash : K → ℕ) (count : ℕ) (key : K) → 0 < count → chain_of hash count key < count
chain-within hash count key some = mod_below (hash key) count some

-- ---- where a walk begins

-- at the head of the key's chain
pub head-on_way : {K : Type 0} (hash : K → ℕ) (table : Links) (keys : List K) (key : K) (wanted : K → Bool) (limit : ℕ) (at : Option ℕ) → IsIndexed hash table keys → chain_of hash (length table.heads) key < length table.heads
    → at ≡ get_or table.heads (chain_of hash (length table.heads) key) None → IsOnWay (shares_chain hash (length table.heads) key) wanted limit (reverse keys) at
head-on_way hash table keys key wanted limit at is within at-is =
    way-from_head (shares_chain hash (length table.heads) key) wanted limit (reverse keys) at (at-is ∙ is.heads (chain_of hash (length table.heads) key) within)

-- before an index of the key
pub index-on_way : {K : Type 0} (hash : K → ℕ) (same : K → K → Bool) (table : Links) (keys : List K) (key : K) (index : ℕ) (at : Option ℕ) → IsIndexed hash table keys → ((a b : K) → same a b ≡ true → a ≡ b)
    → has_at (same key) (reverse keys) index ≡ true → at ≡ get_or table.links index None → IsOnWay (shares_chain hash (length table.heads) key) (same key) index (reverse keys) at
index-on_way {K = K} hash same table keys key index at is one has at-is =
    let found : (x : K) × (entry_at (reverse keys) index ≡ Some x) × (same key x ≡ true) = has-found (same key) (reverse keys) index has in
    let chain : chain_of hash (length table.heads) found.0 ≡ chain_of hash (length table.heads) key = ap (chain_of hash (length table.heads)) (sym (one key found.0 found.2)) in
    way-from_index (shares_chain hash (length table.heads) key) (same key) index (reverse keys) at
    (at-is ∙ link-at (chain_of hash (length table.heads)) table.links (reverse keys) index found.0 is.links found.1
    ∙ ap (λ n. first_in (walk (λ x. chain_of hash (length table.heads) x == n) (older index (reverse keys)))) chain)

pub has-within : {K : Type 0} (passes : K → Bool) (keys : List K) (index : ℕ) → has_at passes (reverse keys) index ≡ true → index < length keys
has-within {K = K} passes keys index has =
    let found : (x : K) × (entry_at (reverse keys) index ≡ Some x) × (passes x ≡ true) = has-found passes (reverse keys) index has in
    omega (arith, entry-within (reverse keys) index found.0 found.1, length-reverse keys)

-- what is found below the number of keys is the first of all
pub found-first : {K : Type 0} (wanted : K → Bool) (read items keys : List K) (len : ℕ) (found : Option ℕ) → found ≡ first_below len (walk wanted (reverse read)) → read ≡ items → reverse items ≡ keys → len ≡ length keys
    → found ≡ first_in (walk wanted keys)
found-first wanted read items keys len found is same seen long =
    let all : reverse read ≡ keys = ap reverse same ∙ seen in
    is ∙ ap (λ ks. first_below len (walk wanted ks)) all ∙ ap (λ n. first_below n (walk wanted keys)) long ∙ below-length wanted keys
