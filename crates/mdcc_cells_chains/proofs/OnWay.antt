-- A walk through a chain comes by each index of each of its keys.
use Rattle.std.proofs.Common.{◌≡◌, ◌==◌, inl, inr, ℕ, ◌<◌, ◌≤◌, ◌∷◌, [], List, Option, Some, None, Bool, true, false, length, sym, ◌∙◌, ap, arith, refl}
use Rattle.std.specs.Prelude.{if◌then◌else◌}
use Rattle.std.proofs.lemmas.Bool.{cases_Bool, lt-ltb, le-ltb, eq-eqb}
use Rattle.mdcc_cells_chains.specs.Keyed.{IsOnWay}
use Rattle.mdcc_cells_chains.specs.Walks.{IsFound, walk, first_in, first_below, entry_at, older}
use Rattle.mdcc_cells_chains.proofs.Filtered.{walk-found, walk-next, older-all, older-skip, older-older, length-older, length-older-le, entry-skip, entry-older}

-- all that pass the one test pass the other
abbrev pub Implies : {X : Type 0} → (X → Bool) → (X → Bool) → Type 0
Implies {X = X} wanted passes = (x : X) → wanted x ≡ true → passes x ≡ true

not-wanted : {X : Type 0} (passes wanted : X → Bool) (x : X) → Implies wanted passes → passes x ≡ false → wanted x ≡ false
not-wanted passes wanted x implies failing = elim (cases_Bool (wanted x)) [
  | inl is ↦ let also : passes x ≡ true = implies x is in absurd (cc)
  | inr not ↦ not
]

pub walk-passed : {X : Type 0} (passes wanted : X → Bool) (xs : List X) (i : ℕ) (x : X) → Implies wanted passes → first_in (walk passes xs) ≡ Some i → entry_at xs i ≡ Some x
    → walk wanted xs ≡ (if wanted x then i ∷ walk wanted (older i xs) else walk wanted (older i xs))
walk-passed passes wanted [] i x implies first at = absurd (cc)
walk-passed {X = X} passes wanted (y ∷ ys) i x implies first at = elim (cases_Bool (passes y)) [
  | inl passing ↦
      let here : length ys ≡ i = let e : Some (length ys) ≡ Some i = rw passing at first in cc in
      let same : y ≡ x = let e : Some y ≡ Some x = sym (rw (eq-here ys i here) refl) ∙ at in cc in
      let rest : older i (y ∷ ys) ≡ ys = older-skip i y ys (omega arith) ∙ older-all i ys (omega arith) in
      rw (rest, ← same, ← here) refl
  | inr failing ↦
      let found : IsFound passes ys i = walk-found passes ys i (rw failing at first) in
      let rest : older i (y ∷ ys) ≡ older i ys = older-skip i y ys (omega (arith, found.within)) in
      rw (rest, not-wanted passes wanted y implies failing) (walk-passed passes wanted ys i x implies (rw failing at first) (sym (entry-skip y ys i found.within) ∙ at))
]
  where
    eq-here : {X : Type 0} (ys : List X) (i : ℕ) → length ys ≡ i → (i == length ys) ≡ true
    eq-here ys i here = eq-eqb i (length ys) (sym here)

pub walk-unpassed : {X : Type 0} (passes wanted : X → Bool) (xs : List X) → Implies wanted passes → first_in (walk passes xs) ≡ None → walk wanted xs ≡ []
walk-unpassed passes wanted [] implies none = refl
walk-unpassed {X = X} passes wanted (y ∷ ys) implies none = elim (cases_Bool (passes y)) [
  | inl passing ↦ let e : Some (length ys) ≡ None = rw passing at none in absurd (cc)
  | inr failing ↦ rw (not-wanted passes wanted y implies failing) (walk-unpassed passes wanted ys implies (rw failing at none))
]

-- ---- on the way

-- where a walk has come to
pub way-within : {K : Type 0} (in_chain wanted : K → Bool) (limit : ℕ) (keys : List K) (i : ℕ) → IsOnWay in_chain wanted limit keys (Some i) → i < length keys
way-within in_chain wanted limit keys i way =
    let found : IsFound in_chain (older way.left keys) i = walk-found in_chain (older way.left keys) i (sym way.begins) in
    omega (arith, found.within, length-older-le way.left keys)

way-entry : {K : Type 0} (in_chain wanted : K → Bool) (limit : ℕ) (keys : List K) (i : ℕ) (x : K) → (way : IsOnWay in_chain wanted limit keys (Some i)) → entry_at keys i ≡ Some x
    → entry_at (older way.left keys) i ≡ Some x
way-entry in_chain wanted limit keys i x way at =
    let found : IsFound in_chain (older way.left keys) i = walk-found in_chain (older way.left keys) i (sym way.begins) in
    entry-older way.left keys i (omega (arith, found.within, length-older way.left keys)) ∙ at

-- what is left from an index on
way-left : {K : Type 0} (in_chain wanted : K → Bool) (limit : ℕ) (keys : List K) (i : ℕ) (x : K) → Implies wanted in_chain → (way : IsOnWay in_chain wanted limit keys (Some i)) → entry_at keys i ≡ Some x
    → walk wanted (older way.left keys) ≡ (if wanted x then i ∷ walk wanted (older i keys) else walk wanted (older i keys))
way-left in_chain wanted limit keys i x implies way at =
    let found : IsFound in_chain (older way.left keys) i = walk-found in_chain (older way.left keys) i (sym way.begins) in
    let rest : older i (older way.left keys) ≡ older i keys = older-older i way.left keys (omega (arith, found.within, length-older way.left keys)) in
    rw (walk-passed in_chain wanted (older way.left keys) i x implies (sym way.begins) (way-entry in_chain wanted limit keys i x way at), rest) refl

pub way-here : {K : Type 0} (in_chain wanted : K → Bool) (limit : ℕ) (keys : List K) (i : ℕ) (x : K) → Implies wanted in_chain → IsOnWay in_chain wanted limit keys (Some i) → entry_at keys i ≡ Some x
    → i < limit → wanted x ≡ true → Some i ≡ first_below limit (walk wanted keys)
way-here in_chain wanted limit keys i x implies way at below is =
    let left : walk wanted (older way.left keys) ≡ i ∷ walk wanted (older i keys) = way-left in_chain wanted limit keys i x implies way at ∙ rw is refl in
    let here : first_below limit (i ∷ walk wanted (older i keys)) ≡ Some i = rw (lt-ltb i limit below) refl in
    sym (sym way.rest ∙ ap (first_below limit) left ∙ here)

way-next : {K : Type 0} (in_chain wanted : K → Bool) (limit : ℕ) (keys : List K) (i : ℕ) (next : Option ℕ) → (way : IsOnWay in_chain wanted limit keys (Some i))
    → first_below limit (walk wanted (older way.left keys)) ≡ first_below limit (walk wanted (older i keys))
    → next ≡ first_in (walk in_chain (older i keys)) → IsOnWay in_chain wanted limit keys next
way-next in_chain wanted limit keys i next way same begins = record { left = i; begins = begins; rest = sym same ∙ way.rest }

pub way-other : {K : Type 0} (in_chain wanted : K → Bool) (limit : ℕ) (keys : List K) (i : ℕ) (x : K) (next : Option ℕ) → Implies wanted in_chain → IsOnWay in_chain wanted limit keys (Some i) → entry_at keys i ≡ Some x
    → wanted x ≡ false → next ≡ first_in (walk in_chain (older i keys)) → IsOnWay in_chain wanted limit keys next
way-other in_chain wanted limit keys i x next implies way at not begins =
    way-next in_chain wanted limit keys i next way (ap (first_below limit) (way-left in_chain wanted limit keys i x implies way at ∙ rw not refl)) begins

-- the entry that a walk has come to
pub way-at : {K : Type 0} (in_chain wanted : K → Bool) (limit : ℕ) (keys : List K) (i : ℕ) → IsOnWay in_chain wanted limit keys (Some i) → (x : K) × (entry_at keys i ≡ Some x) × (in_chain x ≡ true)
way-at in_chain wanted limit keys i way =
    let found : IsFound in_chain (older way.left keys) i = walk-found in_chain (older way.left keys) i (sym way.begins) in
    (found.entry, sym (entry-older way.left keys i (omega (arith, found.within, length-older way.left keys))) ∙ found.at, found.passing)

pub way-past : {K : Type 0} (in_chain wanted : K → Bool) (limit : ℕ) (keys : List K) (i : ℕ) (next : Option ℕ) → Implies wanted in_chain → IsOnWay in_chain wanted limit keys (Some i)
    → limit ≤ i → next ≡ first_in (walk in_chain (older i keys)) → IsOnWay in_chain wanted limit keys next
way-past {K = K} in_chain wanted limit keys i next implies way past begins =
    let entry : (x : K) × (entry_at keys i ≡ Some x) × (in_chain x ≡ true) = way-at in_chain wanted limit keys i way in
    let left = way-left in_chain wanted limit keys i entry.0 implies way entry.1 in
    way-next in_chain wanted limit keys i next way
    (ap (first_below limit) left ∙ elim (cases_Bool (wanted entry.0)) [
      | inl is ↦ rw (is, le-ltb i limit past) refl
      | inr not ↦ rw not refl
    ]) begins

pub way-end : {K : Type 0} (in_chain wanted : K → Bool) (limit : ℕ) (keys : List K) → Implies wanted in_chain → IsOnWay in_chain wanted limit keys None → None ≡ first_below limit (walk wanted keys)
way-end in_chain wanted limit keys implies way =
    sym (sym way.rest ∙ ap (first_below limit) (walk-unpassed in_chain wanted (older way.left keys) implies (sym way.begins)))

-- from the head of a chain, and from an index in it
pub way-from_head : {K : Type 0} (in_chain wanted : K → Bool) (limit : ℕ) (keys : List K) (at : Option ℕ) → at ≡ first_in (walk in_chain keys) → IsOnWay in_chain wanted limit keys at
way-from_head in_chain wanted limit keys at is =
    let all : older (length keys) keys ≡ keys = older-all (length keys) keys (omega arith) in
    record { left = length keys; begins = rw all is; rest = rw all refl }

pub way-from_index : {K : Type 0} (in_chain wanted : K → Bool) (index : ℕ) (keys : List K) (at : Option ℕ) → at ≡ first_in (walk in_chain (older index keys)) → IsOnWay in_chain wanted index keys at
way-from_index in_chain wanted index keys at is = record {
  left = index;
  begins = is;
  rest = sym (walk-next wanted index (older index keys)) ∙ ap (λ ks. first_in (walk wanted ks)) (older-older index index keys (omega arith)) ∙ walk-next wanted index keys;
}
