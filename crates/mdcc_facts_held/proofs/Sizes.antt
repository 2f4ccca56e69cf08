-- Maps grow: how many entries they have after a union.
use Rattle.std.proofs.Common.{◌≡◌, ℕ, ℤ, ◌+◌, ◌<◌, ◌≤◌, Bool, true, false, List, [], ◌∷◌, ◌++◌, length, refl, sym, ap, ◌∙◌, arith, inl, inr, take, drop, reverse, get_or, Option, Some, None}
use Rattle.std.specs.Prelude.{filter_map, insert, is_some, map, nat_le, nat_lt, not, slice_get}
use Rattle.std.proofs.lemmas.Bool.{cases_Bool, le-leb, false≢true}
use Rattle.std.proofs.lemmas.Bool.Decides.{nat_tests}
use Rattle.std.proofs.lemmas.Grind.{common_steps}
use Rattle.std.proofs.lemmas.List.{take-append-drop, reverse-append}
use Rattle.std.proofs.lemmas.Option.{slice_get-get_or}
use Rattle.mdcc_base.specs.declared.identifiers.TxId.{TxId}
use Rattle.mdcc_base.specs.declared.key.Key.{Key}
use Rattle.mdcc_base.specs.TxId.{tx_lt}
use Rattle.mdcc_option.specs.declared.choices.Choice.{Choice}
use Rattle.mdcc_option.specs.declared.items.Delta.{Delta}
use Rattle.mdcc_struct.proofs.Walks.{drop-get}
use Rattle.mdcc_struct.specs.Maps.{TxMap, value_of, inserted, with_entry, union}
use Rattle.mdcc_struct.specs.Places.{place_of}
use Rattle.mdcc_struct.proofs.Ordered.{inserted-place}
use Rattle.mdcc_facts_held.specs.Few.{if_few, is_few}
use Rattle.mdcc_def_protocol.specs.Facts.{deltas_at, deltas_from}
use Rattle.mdcc_def_messages.specs.declared.facts.Fact.{Fact}

pub length-inserted : {X : Type 0} (m : TxMap X) (e : TxId × X) → length (inserted m e) ≡ length m + 1
length-inserted [] e = refl
length-inserted (x ∷ xs) e =
    let rest = length-inserted xs e in
    elim (cases_Bool (tx_lt x.0 e.0)) [
      | inl less ↦ rw less (omega arith)
      | inr over ↦ rw over (omega arith)
    ]

pub length-with_entry : {X : Type 0} (m : TxMap X) (e : TxId × X) → length m ≤ length (with_entry m e)
length-with_entry m e =
    elim (cases_Bool (is_some (value_of m e.0))) [
      | inl there ↦ rw there (omega arith)
      | inr none ↦ rw none (omega (arith, length-inserted m e))
    ]

pub length-union : {X : Type 0} (m n : TxMap X) → length m ≤ length (union m n)
length-union m [] = omega arith
length-union m (e ∷ es) = omega (arith, length-with_entry m e, length-union (with_entry m e) es)

-- more facts bring no fewer deltas
pub length-deltas_at : (more facts : List Fact) (key : Key) (version : ℕ)
    → length (deltas_at facts key version) ≤ length (deltas_at (more ++ facts) key version)
length-deltas_at [] facts key version = omega arith
length-deltas_at (fact ∷ more) facts key version =
    omega (arith, length-deltas_at more facts key version, length-union (deltas_at (more ++ facts) key version) (deltas_from key version fact))

-- ---- one more entry

module _ {X : Type 0} (m : TxMap X) (e : TxId × X) (none : is_some (value_of m e.0) ≡ false) where
  -- it goes to its place
  pub with_entry-put : insert m (place_of m e.0) e ≡ with_entry m e
  with_entry-put = rw none (sym (inserted-place m e))

  pub with_entry-full : length m ≡ 64 → is_few (with_entry m e) ≡ false
  with_entry-full full = rw (none, length-inserted m e, full) refl

  pub with_entry-room : length m < 64 → is_few (with_entry m e) ≡ true
  with_entry-room room = rw (none, length-inserted m e) (le-leb (length m + 1) 64 (omega arith))

pub below_64 : (n : ℕ) (full : Bool) → full ≡ false → (n ≡ 64 → full ≡ true) → n ≤ 64 → n < 64
below_64 n full not_full is h =
    let apart : n ≡ 64 → ⊥ = λ e. false≢true (sym not_full ∙ is e) in
    omega arith

-- ---- what is too long stays so

pub over_64 : (n : ℕ) → nat_le n 64 ≡ false → 64 < n
over_64 n h = grind (arith, nat_tests)

pub not_over : (n : ℕ) → 64 < n → nat_le n 64 ≡ false
not_over n h = grind (arith, nat_tests)

pub is_few_lt : (n : ℕ) → nat_lt 64 n ≡ not (nat_le n 64)
is_few_lt n = grind (arith, nat_tests)

pub few_stays : (m n : ℕ) → m ≤ n → nat_le m 64 ≡ false → nat_le n 64 ≡ false
few_stays m n h over = not_over n (omega (arith, over_64 m over))

pub union_full : {X : Type 0} (m n : TxMap X) → is_few m ≡ false → is_few (union m n) ≡ false
union_full m n over = few_stays (length m) (length (union m n)) (length-union m n) over

pub deltas_at_full : (facts : List Fact) (i : ℕ) (key : Key) (version : ℕ)
    → is_few (deltas_at (reverse (take i facts)) key version) ≡ false → is_few (deltas_at (reverse facts) key version) ≡ false
deltas_at_full facts i key version over =
    let parts : reverse facts ≡ reverse (drop i facts) ++ reverse (take i facts) =
    ap reverse (sym (take-append-drop i facts)) ∙ reverse-append (take i facts) (drop i facts) in
    rw parts (few_stays _ _ (length-deltas_at (reverse (drop i facts)) (reverse (take i facts)) key version) over)

-- ---- steps of the walks that put deltas

abbrev pub pair_of : Delta → TxId × List (ℕ × ℤ)
pair_of delta = (delta.tx, delta.amounts)

pub full_at_adds : (m whole : TxMap (List (ℕ × ℤ))) (xs : List Delta) (i : ℕ) (x : Delta) → i < length xs → x ≡ get_or xs i x
    → union m (map pair_of (drop i xs)) ≡ whole → false ≡ is_few (with_entry m (pair_of x)) → false ≡ is_few whole
full_at_adds m whole xs i x within is made over =
    let at : slice_get xs i ≡ Some x = slice_get-get_or xs i x within ∙ ap Some (sym is) in
    let next : union (with_entry m (pair_of x)) (map pair_of (drop (i + 1) xs)) ≡ whole = rw (drop-get xs i x at) at made in
    sym (ap is_few (sym next) ∙ union_full (with_entry m (pair_of x)) (map pair_of (drop (i + 1) xs)) (sym over))

pub full_at_choices : (f : Choice → Option (TxId × List (ℕ × ℤ))) (m whole : TxMap (List (ℕ × ℤ))) (xs : List Choice) (i : ℕ) (x : Choice) (y : TxId × List (ℕ × ℤ))
    → i < length xs → x ≡ get_or xs i x → Some y ≡ f x → union m (filter_map f (drop i xs)) ≡ whole
    → false ≡ is_few (with_entry m y) → false ≡ is_few whole
full_at_choices f m whole xs i x y within is some made over =
    let at : slice_get xs i ≡ Some x = slice_get-get_or xs i x within ∙ ap Some (sym is) in
    let next : union (with_entry m y) (filter_map f (drop (i + 1) xs)) ≡ whole = rw (drop-get xs i x at, ← some) at made in
    sym (ap is_few (sym next) ∙ union_full (with_entry m y) (filter_map f (drop (i + 1) xs)) (sym over))

pub deltas_at_next : (facts : List Fact) (i : ℕ) (fact : Fact) (key : Key) (version : ℕ) → i < length facts → fact ≡ get_or facts i fact
    → deltas_at (reverse (take (i + 1) facts)) key version ≡ union (deltas_at (reverse (take i facts)) key version) (deltas_from key version fact)
deltas_at_next facts i fact key version within is =
    let more : take (i + 1) facts ≡ take i facts ++ fact ∷ [] = grind (arith, common_steps) in
    rw (more, reverse-append (take i facts) (fact ∷ [])) refl

pub if_few_none : {X : Type 0} (xs : List X) → is_few xs ≡ false → None ≡ if_few xs
if_few_none xs over = rw over refl

pub if_few_some : {X : Type 0} (xs : List X) → is_few xs ≡ true → Some xs ≡ if_few xs
if_few_some xs few = rw few refl

pub few_some : {X : Type 0} (xs ys : List X) → Some ys ≡ if_few xs → (is_few ys ≡ true) × (ys ≡ xs)
few_some {X = X} xs ys h =
    elim (cases_Bool (is_few xs)) [
      | inl few ↦ let some : Some ys ≡ Some xs = rw few at h in let same : ys ≡ xs = cc in (rw same few, same)
      | inr over ↦ let bad : Some ys ≡ None = rw over at h in absurd (cc)
    ]

pub few_none : {X : Type 0} (xs : List X) → None ≡ if_few xs → is_few xs ≡ false
few_none {X = X} xs h =
    elim (cases_Bool (is_few xs)) [
      | inl few ↦ let bad : None ≡ Some xs = rw few at h in absurd (cc)
      | inr over ↦ over
    ]

pub over_union : {X : Type 0} (m n : TxMap X) → is_few m ≡ false → true ≡ nat_lt 64 (length (union m n))
over_union m n over = sym (is_few_lt (length (union m n)) ∙ ap not (union_full m n over))

pub not_few : {X : Type 0} (xs : List X) → None ≡ if_few xs → length xs ≤ 64 → ⊥
not_few xs none few = omega (arith, over_64 (length xs) (few_none xs none))
