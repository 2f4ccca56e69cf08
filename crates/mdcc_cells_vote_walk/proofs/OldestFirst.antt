-- The first mark of a transaction in the order of transactions, and of their marks the last gathered first, is its oldest one.
use Rattle.std.proofs.Common.{Equal, Ordering, ◌≡◌, ℕ, zero, suc, ◌+◌, ◌<◌, ◌≤◌, Bool, true, false, [], ◌∷◌, ◌++◌, Option, Some, None, get_or, length, refl, sym, ap, subst, ◌∙◌, arith, inl, inr, ◌⊎◌}
use Rattle.std.specs.List.{Contains}
use Rattle.std.specs.List.Sorted.{IsPermutation, IsSortedBy}
use Rattle.std.specs.Cmp.{IsStrictWeakOrder, IsTotalOrder}
use Rattle.std.specs.Option.{option_or}
use Rattle.std.specs.Ordering.{is_lt, nat_cmp, ordering_then}
use Rattle.std.specs.Prelude.{if◌then◌else◌, nat_lt, reverse, ◌==◌}
use Rattle.std.proofs.lemmas.Bool.{cases_Bool, eqb-true, eqb-false, ltb-false}
use Rattle.std.proofs.lemmas.Cmp.{nat_cmp_total, on_total, then_total, tied_itself}
use Rattle.std.proofs.lemmas.List.Sorted.{Contains-permutation, IsPermutation-sym, ranks_by, sorted_far}
use mathlib.Core.List.{reverse-cons}
use Rattle.mdcc_base.specs.TxId.{tx_eq}
use Rattle.mdcc_base.specs.declared.identifiers.TxId.{TxId}
use Rattle.mdcc_option.specs.declared.choices.Mark.{Mark}
use Rattle.mdcc_struct.specs.Maps.{TxMap, are_ascending, union, value_of}
use Rattle.mdcc_struct.specs.Options.{Marks}
use Rattle.mdcc_struct.proofs.Inclusion.{same_found}
use Rattle.mdcc_struct.proofs.Order.{tx_eq-same}
use Rattle.mdcc_struct.proofs.Values.{value_of-union}
use Rattle.mdcc_struct.proofs.Walks.{ascending-union}
use Rattle.mdcc_cells_vote_walk.specs.Gathered.{mark_ranked, oldest_marks, picked, ranked}

-- ---- entries of an order

-- one of its entries
abbrev Has : TxMap ℕ → TxId × ℕ → Type 0
Has [] e = ⊥
Has (x ∷ xs) e = (x ≡ e) ⊎ Has xs e

has-contained : (order : TxMap ℕ) (e : TxId × ℕ) → Has order e → Contains order e
has-contained [] e h = absurd h
has-contained (x ∷ xs) e (inl is) = (zero, omega arith, is)
has-contained (x ∷ xs) e (inr later) = let c = has-contained xs e later in (suc c.0, omega (arith, c.1), c.2)

has-at : (order : TxMap ℕ) (e : TxId × ℕ) (k : ℕ) → k < length order → get_or order k e ≡ e → Has order e
has-at [] e k below is = absurd (omega arith)
has-at (x ∷ xs) e zero below is = inl is
has-at (x ∷ xs) e (suc k) below is = inr (has-at xs e k (omega arith) is)

contained-has : (order : TxMap ℕ) (e : TxId × ℕ) → Contains order e → Has order e
contained-has order e c = has-at order e c.0 c.1 c.2

-- no entry of a transaction
abbrev HasNone : TxId → TxMap ℕ → Type 0
HasNone tx order = (e : TxId × ℕ) → Has order e → tx_eq e.0 tx ≡ false

-- the entry of a transaction with the least rank
record IsLeast (tx : TxId) (order : TxMap ℕ) (e : TxId × ℕ) : Type 0 where
  there : Has order e
  of_tx : tx_eq e.0 tx ≡ true
  least : (f : TxId × ℕ) → Has order f → tx_eq f.0 tx ≡ true → e.1 ≤ f.1

-- what is found of a transaction goes with the entry of the least rank
record Finds (gathered : Marks) (tx : TxId) (order : TxMap ℕ) (found : Option Mark) : Type 0 where
  entry : TxId × ℕ
  mark : Mark
  is_least : IsLeast tx order entry
  found_is : found ≡ Some mark
  ranked_is : mark_ranked gathered entry.1 ≡ Some mark

abbrev FindsLeast : Marks → TxId → TxMap ℕ → Option Mark → Type 0
FindsLeast gathered tx order found = (HasNone tx order × (found ≡ None)) ⊎ Finds gathered tx order found

same-least : (gathered : Marks) (tx : TxId) (a b : TxMap ℕ) (found other : Option Mark) → IsPermutation a b
    → FindsLeast gathered tx a found → FindsLeast gathered tx b other → found ≡ other
same-least gathered tx a b found other moved (inl none) (inl none') = none.1 ∙ sym none'.1
same-least gathered tx a b found other moved (inl none) (inr some) =
    let there : Has a some.entry = contained-has a some.entry (Contains-permutation b a some.entry (IsPermutation-sym a b moved) (has-contained b some.entry some.is_least.there)) in
    absurd (let bad : true ≡ false = sym some.is_least.of_tx ∙ none.0 some.entry there in cc)
same-least gathered tx a b found other moved (inr some) (inl none) =
    let there : Has b some.entry = contained-has b some.entry (Contains-permutation a b some.entry moved (has-contained a some.entry some.is_least.there)) in
    absurd (let bad : true ≡ false = sym some.is_least.of_tx ∙ none.0 some.entry there in cc)
same-least gathered tx a b found other moved (inr s) (inr t) =
    let in_b : Has b s.entry = contained-has b s.entry (Contains-permutation a b s.entry moved (has-contained a s.entry s.is_least.there)) in
    let in_a : Has a t.entry = contained-has a t.entry (Contains-permutation b a t.entry (IsPermutation-sym a b moved) (has-contained b t.entry t.is_least.there)) in
    let same : s.entry.1 ≡ t.entry.1 = omega (arith, s.is_least.least t.entry in_a t.is_least.of_tx, t.is_least.least s.entry in_b s.is_least.of_tx) in
    s.found_is ∙ sym s.ranked_is ∙ ap (mark_ranked gathered) same ∙ t.ranked_is ∙ sym t.found_is

-- ---- the order in which marks were gathered

ranks-below : {X : Type 0} (m : TxMap X) (e : TxId × ℕ) → Has (ranked m) e → e.1 < length m
ranks-below [] e h = absurd h
ranks-below (x ∷ xs) e (inl is) = omega (arith, ap (λ (f : TxId × ℕ). f.1) is)
ranks-below (x ∷ xs) e (inr later) = omega (arith, ranks-below xs e later)

not-rank : (rank n : ℕ) → rank < n → (rank == n) ≡ false
not-rank rank n below = elim (cases_Bool (rank == n)) [ inl same ↦ absurd (omega (arith, eqb-true rank n same)) | inr other ↦ other ]

same-rank : (n : ℕ) → (n == n) ≡ true
same-rank n = elim (cases_Bool (n == n)) [ inl same ↦ same | inr other ↦ absurd (omega (arith, eqb-false n n other)) ]

ranked-later : (x : TxId × Mark) (xs : Marks) (rank : ℕ) → rank < length xs → mark_ranked (x ∷ xs) rank ≡ mark_ranked xs rank
ranked-later x xs rank below = rw (not-rank rank (length xs) below) refl

ranked-first : (x : TxId × Mark) (xs : Marks) → mark_ranked (x ∷ xs) (length xs) ≡ Some x.1
ranked-first x xs = rw (same-rank (length xs)) refl

each-ranked : (m : Marks) (e : TxId × ℕ) → Has (ranked m) e → (mark : Mark) × (mark_ranked m e.1 ≡ Some mark)
each-ranked [] e h = absurd h
each-ranked (x ∷ xs) e (inl is) = (x.1, ap (λ (f : TxId × ℕ). mark_ranked (x ∷ xs) f.1) (sym is) ∙ ranked-first x xs)
each-ranked (x ∷ xs) e (inr later) = let mark = each-ranked xs e later in (mark.0, ranked-later x xs e.1 (ranks-below xs e later) ∙ mark.1)

pub value-append : {X : Type 0} (xs ys : TxMap X) (tx : TxId) → value_of (xs ++ ys) tx ≡ option_or (value_of xs tx) (value_of ys tx)
value-append [] ys tx = refl
value-append (x ∷ xs) ys tx = by (tx_eq x.0 tx) (value-append xs ys tx)
  where
    by : (same : Bool) → value_of (xs ++ ys) tx ≡ option_or (value_of xs tx) (value_of ys tx)
        → (if same then Some x.1 else value_of (xs ++ ys) tx) ≡ option_or (if same then Some x.1 else value_of xs tx) (value_of ys tx)
    by true others = refl
    by false others = others

pub value-last : {X : Type 0} (x : TxId × X) (xs : TxMap X) (tx : TxId) → value_of (reverse (x ∷ xs)) tx ≡ option_or (value_of (reverse xs) tx) (if tx_eq x.0 tx then Some x.1 else None)
value-last x xs tx = ap (λ m. value_of m tx) (reverse-cons x xs) ∙ value-append (reverse xs) (x ∷ []) tx

-- what was gathered last is the oldest, and has the least rank
finds-reversed : (gathered : Marks) (tx : TxId) → FindsLeast gathered tx (ranked gathered) (value_of (reverse gathered) tx)
finds-reversed [] tx = inl (λ e h. absurd h, refl)
finds-reversed (x ∷ xs) tx = by (finds-reversed xs tx) (cases_Bool (tx_eq x.0 tx))
  where
    last : (v : Option Mark) → value_of (reverse xs) tx ≡ v → value_of (reverse (x ∷ xs)) tx ≡ option_or v (if tx_eq x.0 tx then Some x.1 else None)
    last v is = value-last x xs tx ∙ ap (λ w. option_or w (if tx_eq x.0 tx then Some x.1 else None)) is

    by : FindsLeast xs tx (ranked xs) (value_of (reverse xs) tx) → (tx_eq x.0 tx ≡ true) ⊎ (tx_eq x.0 tx ≡ false)
        → FindsLeast (x ∷ xs) tx (ranked (x ∷ xs)) (value_of (reverse (x ∷ xs)) tx)
    by (inr some) either = inr (record {
      entry = some.entry;
      mark = some.mark;
      is_least = record {
        there = inr some.is_least.there;
        of_tx = some.is_least.of_tx;
        least = λ f h of. elim h [
          | inl is ↦ omega (arith, ap (λ (e : TxId × ℕ). e.1) is, ranks-below xs some.entry some.is_least.there)
          | inr later ↦ some.is_least.least f later of
        ];
      };
      found_is = last (Some some.mark) some.found_is;
      ranked_is = ranked-later x xs some.entry.1 (ranks-below xs some.entry some.is_least.there) ∙ some.ranked_is;
    })
    by (inl none) (inl same) = inr (record {
      entry = (x.0, length xs);
      mark = x.1;
      is_least = record {
        there = inl refl;
        of_tx = same;
        least = λ f h of. elim h [
          | inl is ↦ omega (arith, ap (λ (e : TxId × ℕ). e.1) is)
          | inr later ↦ absurd (let bad : true ≡ false = sym of ∙ none.0 f later in cc)
        ];
      };
      found_is = last None none.1 ∙ rw same refl;
      ranked_is = ranked-first x xs;
    })
    by (inl none) (inr other) = inl (
      λ f h. elim h [
        | inl is ↦ ap (λ (e : TxId × ℕ). tx_eq e.0 tx) (sym is) ∙ other
        | inr later ↦ none.0 f later
      ],
      last None none.1 ∙ rw other refl,
    )

-- ---- entries in order

abbrev tx_cmp : TxId → TxId → Ordering
tx_cmp s t = ordering_then (nat_cmp s.centre t.centre) (ordering_then (nat_cmp s.epoch t.epoch) (nat_cmp s.seq t.seq))

abbrev rank_cmp : TxId × ℕ → TxId × ℕ → Ordering
rank_cmp e f = ordering_then (tx_cmp e.0 f.0) (nat_cmp e.1 f.1)

abbrev pub rank_lt : TxId × ℕ → TxId × ℕ → Bool
rank_lt e f = is_lt (rank_cmp e f)

tx_total : IsTotalOrder tx_cmp
tx_total =
    then_total (on_total (λ (t : TxId). t.centre) nat_cmp_total) (then_total (on_total (λ (t : TxId). t.epoch) nat_cmp_total) (on_total (λ (t : TxId). t.seq) nat_cmp_total))

rank_total : IsTotalOrder rank_cmp
rank_total = then_total (on_total (λ (e : TxId × ℕ). e.0) tx_total) (on_total (λ (e : TxId × ℕ). e.1) nat_cmp_total)

ranks-in-order : IsStrictWeakOrder rank_lt
ranks-in-order = ranks_by rank_total (λ (e : TxId × ℕ). e)

not-below : (m n : ℕ) → is_lt (nat_cmp m n) ≡ false → n ≤ m
not-below m n h =
    elim (cases_Bool (nat_lt m n)) [
      | inl below ↦ absurd (let bad : true ≡ false = rw below at h in cc)
      | inr other ↦ ltb-false m n other
    ]

rank-rises : (e f : TxId × ℕ) → f.0 ≡ e.0 → rank_lt f e ≡ false → e.1 ≤ f.1
rank-rises e f same h =
    let tie : tx_cmp f.0 e.0 ≡ Equal = ap (λ t. tx_cmp f.0 t) (sym same) ∙ tied_itself tx_total f.0 in
    not-below f.1 e.1 (ap (λ o. is_lt (ordering_then o (nat_cmp f.1 e.1))) (sym tie) ∙ h)

none-before : (e : TxId × ℕ) (es : TxMap ℕ) → IsSortedBy rank_lt (e ∷ es) → (f : TxId × ℕ) → Has es f → rank_lt f e ≡ false
none-before e es up f h =
    let c = has-contained es f h in
    ap (λ g. rank_lt g e) (sym c.2) ∙ sorted_far rank_lt ranks-in-order (e ∷ es) up 0 (suc c.0) f (omega arith) (omega (arith, c.1))

sorted-tail : (e : TxId × ℕ) (es : TxMap ℕ) → IsSortedBy rank_lt (e ∷ es) → IsSortedBy rank_lt es
sorted-tail e es up k d low high =
    let next : suc k + 1 ≡ suc (k + 1) = omega arith in
    subst (λ n. rank_lt (get_or (e ∷ es) n d) (get_or es k d) ≡ false) next (up (suc k) d (omega arith) (omega arith))

finds-sorted : (gathered : Marks) (tx : TxId) (order : TxMap ℕ) → IsSortedBy rank_lt order
    → ((e : TxId × ℕ) → Has order e → (mark : Mark) × (mark_ranked gathered e.1 ≡ Some mark)) → FindsLeast gathered tx order (picked gathered tx order)
finds-sorted gathered tx [] up marked = inl (λ e h. absurd h, refl)
finds-sorted gathered tx (e ∷ es) up marked =
    by (finds-sorted gathered tx es (sorted-tail e es up) (λ f h. marked f (inr h))) (cases_Bool (tx_eq e.0 tx))
  where
    by : FindsLeast gathered tx es (picked gathered tx es) → (tx_eq e.0 tx ≡ true) ⊎ (tx_eq e.0 tx ≡ false) → FindsLeast gathered tx (e ∷ es) (picked gathered tx (e ∷ es))
    by later (inl same) =
        let mark = marked e (inl refl) in
        inr (record {
          entry = e;
          mark = mark.0;
          is_least = record {
            there = inl refl;
            of_tx = same;
            least = λ f h of. elim h [
              | inl is ↦ omega (arith, ap (λ (g : TxId × ℕ). g.1) is)
              | inr behind ↦ rank-rises e f (tx_eq-same f.0 tx of ∙ sym (tx_eq-same e.0 tx same)) (none-before e es up f behind)
            ];
          };
          found_is = rw (same, mark.1) refl;
          ranked_is = mark.1;
        })
    by (inl none) (inr other) = inl (
      λ f h. elim h [
        | inl is ↦ ap (λ (g : TxId × ℕ). tx_eq g.0 tx) (sym is) ∙ other
        | inr behind ↦ none.0 f behind
      ],
      rw other none.1,
    )
    by (inr some) (inr other) = inr (record {
      entry = some.entry;
      mark = some.mark;
      is_least = record {
        there = inr some.is_least.there;
        of_tx = some.is_least.of_tx;
        least = λ f h of. elim h [
          | inl is ↦ absurd (let bad : true ≡ false = sym of ∙ ap (λ (g : TxId × ℕ). tx_eq g.0 tx) (sym is) ∙ other in cc)
          | inr behind ↦ some.is_least.least f behind of
        ];
      };
      found_is = rw other some.found_is;
      ranked_is = some.ranked_is;
    })

-- ---- what is picked

picked-oldest : (gathered : Marks) (tx : TxId) (order : TxMap ℕ) → IsPermutation (ranked gathered) order → IsSortedBy rank_lt order
    → picked gathered tx order ≡ value_of (reverse gathered) tx
picked-oldest gathered tx order moved up =
    let back : IsPermutation order (ranked gathered) = IsPermutation-sym (ranked gathered) order moved in
    same-least gathered tx order (ranked gathered) (picked gathered tx order) (value_of (reverse gathered) tx) back
    (finds-sorted gathered tx order up (λ e h. each-ranked gathered e (contained-has (ranked gathered) e (Contains-permutation order (ranked gathered) e back (has-contained order e h)))))
    (finds-reversed gathered tx)

pub joined-oldest : (gathered votes : Marks) (order : TxMap ℕ) → IsPermutation (ranked gathered) order → IsSortedBy rank_lt order → are_ascending votes ≡ true
    → ((tx : TxId) → value_of votes tx ≡ picked gathered tx order) → votes ≡ oldest_marks gathered
joined-oldest gathered votes order moved up ascending values =
    same_found votes (union [] (reverse gathered)) ascending (ascending-union [] (reverse gathered) refl)
    (λ tx. values tx ∙ picked-oldest gathered tx order moved up ∙ sym (value_of-union [] (reverse gathered) tx))
