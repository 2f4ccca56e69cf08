-- A walk goes through the filtered entries, step by step.
use Rattle.std.proofs.Common.{◌≡◌, ◌==◌, inl, inr, ℕ, ◌+◌, ◌<◌, ◌≤◌, ◌∷◌, [], List, Option, Some, None, Bool, length, sym, ◌∙◌, ap, arith, refl}
use Rattle.std.specs.Option.{option_or}
use Rattle.std.specs.Prelude.{nat_lt, map, IfSome}
use Rattle.std.specs.List.{filter, filter_map, cons_option}
use Rattle.std.proofs.lemmas.Bool.{cases_Bool, lt-ltb, le-ltb, ltb-true, ltb-false, eq-eqb, eqb-true}
use Rattle.std.proofs.lemmas.List.{length-map}
use Rattle.mdcc_cells_chains.specs.Walks.{IsFound, walk, first_in, last_in, first_below, entry_at, older}

-- a walk by a part of each entry
pub walk-map : {X Y : Type 0} (f : X → Y) (passes : Y → Bool) (xs : List X) → walk passes (map f xs) ≡ walk (λ x. passes (f x)) xs
walk-map f passes [] = refl
walk-map f passes (x ∷ xs) = elim (cases_Bool (passes (f x))) [
  | inl passing ↦ rw (passing, walk-map f passes xs, length-map xs f) refl
  | inr failing ↦ rw (failing, walk-map f passes xs) refl
]

-- ---- the oldest entries

pub older-all : {X : Type 0} (n : ℕ) (xs : List X) → length xs ≤ n → older n xs ≡ xs
older-all n [] all = refl
older-all n (x ∷ xs) all = rw (lt-ltb (length xs) n (omega arith)) refl

pub older-skip : {X : Type 0} (n : ℕ) (x : X) (xs : List X) → n ≤ length xs → older n (x ∷ xs) ≡ older n xs
older-skip n x xs few = rw (le-ltb (length xs) n few) refl

pub older-older : {X : Type 0} (m n : ℕ) (xs : List X) → m ≤ n → older m (older n xs) ≡ older m xs
older-older m n [] few = refl
older-older m n (x ∷ xs) few = elim (cases_Bool (nat_lt (length xs) n)) [
  | inl within ↦ rw within refl
  | inr past ↦ rw (past, le-ltb (length xs) m (omega (arith, ltb-false (length xs) n past))) (older-older m n xs few)
]

pub length-older : {X : Type 0} (n : ℕ) (xs : List X) → length (older n xs) ≤ n
length-older n [] = omega arith
length-older n (x ∷ xs) = elim (cases_Bool (nat_lt (length xs) n)) [
  | inl within ↦ rw within (omega (arith, ltb-true (length xs) n within))
  | inr past ↦ rw past (length-older n xs)
]

pub length-older-le : {X : Type 0} (n : ℕ) (xs : List X) → length (older n xs) ≤ length xs
length-older-le n [] = omega arith
length-older-le n (x ∷ xs) = elim (cases_Bool (nat_lt (length xs) n)) [
  | inl within ↦ rw within (omega arith)
  | inr past ↦ rw past (omega (arith, length-older-le n xs))
]

-- no index but those within
pub entry-within : {X : Type 0} (xs : List X) (i : ℕ) (x : X) → entry_at xs i ≡ Some x → i < length xs
entry-within [] i x at = absurd (cc)
entry-within (y ∷ ys) i x at = elim (cases_Bool (i == length ys)) [
  | inl here ↦ let same : i ≡ length ys = eqb-true i (length ys) here in omega arith
  | inr there ↦ let rest : i < length ys = entry-within ys i x (rw there at at) in omega arith
]

pub entry-skip : {X : Type 0} (x : X) (xs : List X) (i : ℕ) → i < length xs → entry_at (x ∷ xs) i ≡ entry_at xs i
entry-skip x xs i within = elim (cases_Bool (i == length xs)) [
  | inl here ↦ let same : i ≡ length xs = eqb-true i (length xs) here in absurd (omega arith)
  | inr there ↦ rw there refl
]

pub entry-older : {X : Type 0} (n : ℕ) (xs : List X) (i : ℕ) → i < n → entry_at (older n xs) i ≡ entry_at xs i
entry-older n [] i below = refl
entry-older n (x ∷ xs) i below = elim (cases_Bool (nat_lt (length xs) n)) [
  | inl within ↦ rw within refl
  | inr past ↦ rw past (entry-older n xs i below ∙ sym (entry-skip x xs i (omega (arith, ltb-false (length xs) n past))))
]

-- ---- walks

-- before an index a walk goes on through the older entries
pub walk-next : {X : Type 0} (passes : X → Bool) (i : ℕ) (xs : List X) → first_in (walk passes (older i xs)) ≡ first_below i (walk passes xs)
walk-next passes i [] = refl
walk-next passes i (x ∷ xs) = elim (cases_Bool (nat_lt (length xs) i)) [
  | inl within ↦ elim (cases_Bool (passes x)) [
    | inl passing ↦ rw (within, passing, within) refl
    | inr failing ↦ rw (within, failing) (ap (λ ys. first_in (walk passes ys)) (sym (older-all i xs (omega (arith, ltb-true (length xs) i within)))) ∙ walk-next passes i xs)
  ]
  | inr past ↦ elim (cases_Bool (passes x)) [
    | inl passing ↦ rw (past, passing, past) (walk-next passes i xs)
    | inr failing ↦ rw (past, failing) (walk-next passes i xs)
  ]
]

pub walk-found : {X : Type 0} (passes : X → Bool) (xs : List X) (i : ℕ) → first_in (walk passes xs) ≡ Some i → IsFound passes xs i
walk-found passes [] i first = absurd (cc)
walk-found {X = X} passes (x ∷ xs) i first = elim (cases_Bool (passes x)) [
  | inl passing ↦
      let same : length xs ≡ i = let e : Some (length xs) ≡ Some i = rw passing at first in cc in
      let rest : older i (x ∷ xs) ≡ xs = older-skip i x xs (omega arith) ∙ older-all i xs (omega arith) in
      record {
        entry = x;
        within = omega arith;
        at = rw (eq-eqb i (length xs) (sym same)) refl;
        passing = passing;
        filtered = rw (passing, rest) refl;
        walked = rw (passing, rest, same) refl;
      }
  | inr failing ↦
      let found : IsFound passes xs i = walk-found passes xs i (rw failing at first) in
      let rest : older i (x ∷ xs) ≡ older i xs = older-skip i x xs (omega (arith, found.within)) in
      record {
        entry = found.entry;
        within = omega (arith, found.within);
        at = entry-skip x xs i found.within ∙ found.at;
        passing = found.passing;
        filtered = rw (failing, rest) found.filtered;
        walked = rw (failing, rest) found.walked;
      }
]

-- a walk that ends has no entry left
pub walk-none : {X : Type 0} (passes : X → Bool) (xs : List X) → first_in (walk passes xs) ≡ None → filter passes xs ≡ []
walk-none passes [] none = refl
walk-none {X = X} passes (x ∷ xs) none = elim (cases_Bool (passes x)) [
  | inl passing ↦ let e : Some (length xs) ≡ None = rw passing at none in absurd (cc)
  | inr failing ↦ rw failing (walk-none passes xs (rw failing at none))
]

pub walk-end : {X : Type 0} (passes : X → Bool) (xs : List X) → first_in (walk passes xs) ≡ None → walk passes xs ≡ []
walk-end passes [] none = refl
walk-end {X = X} passes (x ∷ xs) none = elim (cases_Bool (passes x)) [
  | inl passing ↦ let e : Some (length xs) ≡ None = rw passing at none in absurd (cc)
  | inr failing ↦ rw failing (walk-end passes xs (rw failing at none))
]

-- how many indices a walk may still come to
abbrev pub rank : Option ℕ → ℕ
rank None = 0
rank (Some i) = i + 1

pub rank-under : (i : ℕ) (at : Option ℕ) → IfSome at (λ next. next < i) → rank at < i + 1
rank-under i None under = omega arith
rank-under i (Some next) under = omega (arith, under)

pub below-under : (limit : ℕ) (is : List ℕ) → IfSome (first_below limit is) (λ i. i < limit)
below-under limit [] = tt
below-under limit (i ∷ is) = elim (cases_Bool (nat_lt i limit)) [
  | inl below ↦ rw below (ltb-true i limit below)
  | inr past ↦ rw past (below-under limit is)
]

-- ---- the whole walk

abbrev pub AreUnder : ℕ → List ℕ → Type 0
AreUnder bound [] = Unit {0}
AreUnder bound (i ∷ is) = (i < bound) × AreUnder bound is

under-more : (bound more : ℕ) (is : List ℕ) → bound ≤ more → AreUnder bound is → AreUnder more is
under-more bound more [] h under = tt
under-more bound more (i ∷ is) h under = (omega (arith, under.0, h), under-more bound more is h under.1)

pub walk-under : {X : Type 0} (passes : X → Bool) (xs : List X) → AreUnder (length xs) (walk passes xs)
walk-under passes [] = tt
walk-under passes (x ∷ xs) = elim (cases_Bool (passes x)) [
  | inl passing ↦ rw passing (omega arith, under-more (length xs) (length (x ∷ xs)) (walk passes xs) (omega arith) (walk-under passes xs))
  | inr failing ↦ rw failing (under-more (length xs) (length (x ∷ xs)) (walk passes xs) (omega arith) (walk-under passes xs))
]

entries-skip : {X : Type 0} (x : X) (xs : List X) (is : List ℕ) → AreUnder (length xs) is → filter_map (entry_at (x ∷ xs)) is ≡ filter_map (entry_at xs) is
entries-skip x xs [] under = refl
entries-skip x xs (i ∷ is) under =
    ap (λ o. cons_option o (filter_map (entry_at (x ∷ xs)) is)) (entry-skip x xs i under.0) ∙ ap (cons_option (entry_at xs i)) (entries-skip x xs is under.1)

first-under : (bound : ℕ) (is : List ℕ) → AreUnder bound is → IfSome (first_in is) (λ i. i < bound)
first-under bound [] under = tt
first-under bound (i ∷ is) under = under.0

pub walk-within : {X : Type 0} (passes : X → Bool) (xs : List X) → IfSome (first_in (walk passes xs)) (λ i. i < length xs)
walk-within passes xs = first-under (length xs) (walk passes xs) (walk-under passes xs)

pub below-length : {X : Type 0} (passes : X → Bool) (xs : List X) → first_below (length xs) (walk passes xs) ≡ first_in (walk passes xs)
below-length passes xs = sym (walk-next passes (length xs) xs) ∙ ap (λ ys. first_in (walk passes ys)) (older-all (length xs) xs (omega arith))

-- the last of a walk, by one step
pub last-step : (i : ℕ) (is : List ℕ) (found : Option ℕ) → option_or (last_in (i ∷ is)) found ≡ option_or (last_in is) (Some i)
last-step i [] found = refl
last-step i (j ∷ js) found = refl

-- a walk has come so far that the last index is still before it, or the one found
abbrev pub IsLeading : {X : Type 0} → (X → Bool) → List X → Option ℕ → Option ℕ → Type 0
IsLeading passes xs at found = (left : ℕ) × (at ≡ first_in (walk passes (older left xs))) × (option_or (last_in (walk passes (older left xs))) found ≡ last_in (walk passes xs))

or-none : (at : Option ℕ) → option_or at None ≡ at
or-none None = refl
or-none (Some i) = refl

pub leading-begins : {X : Type 0} (passes : X → Bool) (xs : List X) (at : Option ℕ) → at ≡ first_in (walk passes xs) → IsLeading passes xs at None
leading-begins passes xs at is =
    let all : older (length xs) xs ≡ xs = older-all (length xs) xs (omega arith) in
    (length xs, rw all is, rw all (or-none (last_in (walk passes xs))))

pub leading-goes : {X : Type 0} (passes : X → Bool) (xs : List X) (i : ℕ) (found next : Option ℕ) → IsLeading passes xs (Some i) found → next ≡ first_below i (walk passes xs) → IsLeading passes xs next (Some i)
leading-goes passes xs i found next leading is =
    let here : IsFound passes (older leading.0 xs) i = walk-found passes (older leading.0 xs) i (sym leading.1) in
    let rest : older i (older leading.0 xs) ≡ older i xs = older-older i leading.0 xs (omega (arith, here.within, length-older leading.0 xs)) in
    let walked : walk passes (older leading.0 xs) ≡ i ∷ walk passes (older i xs) = here.walked ∙ ap (λ ys. i ∷ walk passes ys) rest in
    (i, is ∙ sym (walk-next passes i xs), sym (last-step i (walk passes (older i xs)) found) ∙ ap (λ is. option_or (last_in is) found) (sym walked) ∙ leading.2)

pub leading-ends : {X : Type 0} (passes : X → Bool) (xs : List X) (found : Option ℕ) → IsLeading passes xs None found → found ≡ last_in (walk passes xs)
leading-ends passes xs found leading =
    sym (ap (λ is. option_or (last_in is) found) (walk-end passes (older leading.0 xs) (sym leading.1))) ∙ leading.2

-- the entries of a walk are the filtered ones
pub walk-whole : {X : Type 0} (passes : X → Bool) (xs : List X) → filter_map (entry_at xs) (walk passes xs) ≡ filter passes xs
walk-whole passes [] = refl
walk-whole passes (x ∷ xs) =
    let skipped = entries-skip x xs (walk passes xs) (walk-under passes xs) in
    elim (cases_Bool (passes x)) [
      | inl passing ↦ rw (passing, eq-eqb (length xs) (length xs) refl) (ap (λ ys. x ∷ ys) (skipped ∙ walk-whole passes xs))
      | inr failing ↦ rw failing (skipped ∙ walk-whole passes xs)
    ]
