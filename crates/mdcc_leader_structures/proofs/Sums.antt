-- Sums over maps do not depend on where an entry stands.
use Rattle.std.proofs.Common.{◌≡◌, ℕ, ◌+◌, Bool, true, false, List, [], ◌∷◌, ◌++◌, Option, Some, None, refl, sym, ap, ◌∙◌, arith, inl, inr}
use Rattle.std.specs.Option.{option_or}
use Rattle.std.specs.Prelude.{ℤ, if◌then◌else◌, is_some, not}
use Rattle.std.specs.List.{filter}
use Rattle.std.proofs.lemmas.Bool.{cases_Bool}
use Rattle.mdcc_base.specs.Counts.{number_of, sum_over}
use Rattle.mdcc_base.specs.TxId.{tx_eq, tx_lt}
use Rattle.mdcc_base.specs.declared.identifiers.TxId.{TxId}
use Rattle.mdcc_option.specs.OneCopy.{amount_at}
use Rattle.mdcc_option.specs.declared.items.Update.{Update}
use Rattle.mdcc_struct.specs.Maps.{TxMap, are_ascending, inserted, union, value_of, with_entry}
use Rattle.mdcc_struct.proofs.Order.{tx_lt-apart}
use Rattle.mdcc_struct.proofs.Ordered.{IsBelow, ascending-below, ascending-tail}
use Rattle.mdcc_struct.proofs.Values.{value_of-with_entry}
use Rattle.mdcc_def_protocol.specs.Fit.{amounts_in, decrease, has_tx, increase, load_of}
use Rattle.mdcc_def_protocol.specs.Marks.{is_write}

-- ---- sums

pub sum_over-same : {X : Type 0} (g h : X → ℕ) → ((x : X) → g x ≡ h x) → (xs : List X) → sum_over g xs ≡ sum_over h xs
sum_over-same g h same [] = refl
sum_over-same g h same (x ∷ xs) = rw (same x, sum_over-same g h same xs) refl

pub sum_over-append : {X : Type 0} (g : X → ℕ) (xs ys : List X) → sum_over g (xs ++ ys) ≡ sum_over g xs + sum_over g ys
sum_over-append g [] ys = omega arith
sum_over-append g (x ∷ xs) ys = let rest = sum_over-append g xs ys in omega arith

-- a number where a test holds
abbrev pub size_if : {X : Type 0} → (X → Bool) → (X → ℕ) → X → ℕ
size_if p g x = if p x then g x else 0

pub sum_over-filter : {X : Type 0} (p : X → Bool) (g : X → ℕ) (xs : List X) → sum_over g (filter p xs) ≡ sum_over (size_if p g) xs
sum_over-filter p g [] = refl
sum_over-filter p g (x ∷ xs) =
    let rest = sum_over-filter p g xs in
    elim (cases_Bool (p x)) [
      | inl keeps ↦ rw (keeps, rest) refl
      | inr leaves ↦ rw leaves (omega arith)
    ]

pub sum_over-inserted : {X : Type 0} (g : TxId × X → ℕ) (m : TxMap X) (e : TxId × X) → sum_over g (inserted m e) ≡ g e + sum_over g m
sum_over-inserted g [] e = refl
sum_over-inserted g (x ∷ xs) e =
    let rest = sum_over-inserted g xs e in
    elim (cases_Bool (tx_lt x.0 e.0)) [
      | inl less ↦ rw less (omega arith)
      | inr over ↦ rw over refl
    ]

-- ---- unions

-- whether a map has no entry of the transaction
abbrev pub is_new : {X : Type 0} → TxMap X → TxId × X → Bool
is_new m e = not (is_some (value_of m e.0))

-- an entry of an earlier transaction makes no difference
pub filter-later : {X : Type 0} (a : TxMap X) (y : TxId × X) (ys : TxMap X) → IsBelow y.0 ys → filter (is_new (with_entry a y)) ys ≡ filter (is_new a) ys
filter-later a y [] h = refl
filter-later {X = X} a y (x ∷ xs) h =
    let apart : tx_eq y.0 x.0 ≡ false = tx_lt-apart y.0 x.0 h.0 in
    let same : value_of (with_entry a y) x.0 ≡ value_of a x.0 = value_of-with_entry a y x.0 ∙ rw apart (or_none (value_of a x.0)) in
    let rest = filter-later a y xs h.1 in
    rw same (elim (cases_Bool (is_new a x)) [
      | inl keeps ↦ rw (keeps, rest) refl
      | inr leaves ↦ rw (leaves, rest) refl
    ])
  where
    or_none : {X : Type 0} (o : Option X) → option_or o None ≡ o
    or_none None = refl
    or_none (Some x) = refl

pub sum_over-union : {X : Type 0} (g : TxId × X → ℕ) (a b : TxMap X) → are_ascending b ≡ true
    → sum_over g (union a b) ≡ sum_over g a + sum_over g (filter (is_new a) b)
sum_over-union g a [] up = omega arith
sum_over-union g a (y ∷ ys) up =
    let rest = sum_over-union g (with_entry a y) ys (ascending-tail y ys up) in
    let later = ap (sum_over g) (filter-later a y ys (ascending-below y ys up)) in
    elim (cases_Bool (is_some (value_of a y.0))) [
      | inl there ↦
          let same : sum_over g (with_entry a y) ≡ sum_over g a = rw there refl in
          rw there (rw there at (rest ∙ ap (λ n. sum_over g (with_entry a y) + n) later))
      | inr none ↦
          let more : sum_over g (with_entry a y) ≡ g y + sum_over g a = rw none (sum_over-inserted g a y) in
          let all : sum_over g (union (with_entry a y) ys) ≡ sum_over g (with_entry a y) + sum_over g (filter (is_new a) ys) = rest ∙ ap (λ n. sum_over g (with_entry a y) + n) later in
          all ∙ rw (more, none) (omega arith)
    ]

-- ---- loads

pub number_of-sum : {X : Type 0} (p : X → Bool) (xs : List X) → number_of p xs ≡ sum_over (λ x. if p x then 1 else 0) xs
number_of-sum p [] = refl
number_of-sum p (x ∷ xs) = rw (number_of-sum p xs) refl

-- lists over which all sums are the same weigh the same
abbrev pub HaveSameSums : TxMap Update → TxMap Update → Type 0
HaveSameSums m n = (g : TxId × Update → ℕ) → sum_over g m ≡ sum_over g n

pub same_load : (m n : TxMap Update) (seen : List TxId) → HaveSameSums m n → load_of m seen ≡ load_of n seen
same_load m n seen h =
    rw (
      counts (λ e. is_write e.1),
      counts (λ e. not (has_tx seen e.0)),
      counts (λ e. not (is_write e.1)),
      sums decrease 1,
      sums decrease 2,
      sums decrease 3,
      sums decrease 4,
      sums increase 1,
      sums increase 2,
      sums increase 3,
      sums increase 4,
    ) refl
  where
    counts : (p : TxId × Update → Bool) → number_of p m ≡ number_of p n
    counts p = number_of-sum p m ∙ h (λ e. if p e then 1 else 0) ∙ sym (number_of-sum p n)

    sums : (size : ℤ → ℕ) (attribute : ℕ) → sum_over (λ e. size (amount_at attribute (amounts_in e.1))) m ≡ sum_over (λ e. size (amount_at attribute (amounts_in e.1))) n
    sums size attribute = h (λ e. size (amount_at attribute (amounts_in e.1)))
