-- What holds of each item, of each pair, and how many centres members are.
use Rattle.std.proofs.Common.{Bool, List, [], ap, arith, false, inl, inr, length, map, not, refl, subst, suc, sym, true, zero, ℕ, ◌+◌, ◌<◌, ◌==◌, ◌∙◌, ◌∷◌, ◌≡◌, ◌≤◌}
use Rattle.std.specs.List.{AllByRecursion, range_with_len}
use Rattle.std.specs.Prelude.{filter}
use Rattle.std.proofs.lemmas.Bool.{cases_Bool, eq-eqb, eqb-true, true≢false}
use Rattle.mdcc_base.specs.Counts.{number_of}
use Rattle.mdcc_option.specs.declared.choices.Choice.{Choice}
use Rattle.mdcc_theorem_trace_states.specs.Words.{Each, In}
use Rattle.mdcc_theorem_round_trip.specs.Deciding.{AreAllDifferent}
use Rattle.mdcc_theorem_round_trip.specs.Messages.{each_with}
use Rattle.mdcc_theorem_round_trip.proofs.Apart.{apart-once}
use Rattle.mdcc_theorem_round_trip.proofs.Lists.{each-back, each-front, each-kept, each-passing, each-weaker, number-none}

pub at : {X : Type 0} (P : X → Type 0) (xs : List X) (x : X) → AllByRecursion P xs → In x xs → P x
at P [] x h i = absurd i
at P (y ∷ ys) x h i = elim i [ inl e ↦ subst P (sym e) h.0 | inr r ↦ at P ys x h.1 r ]

pub from : {X : Type 0} (P : X → Type 0) (xs : List X) → ((x : X) → In x xs → P x) → AllByRecursion P xs
from P [] h = tt
from P (x ∷ xs) h = (h x (inl refl), from P xs (λ y i. h y (inr i)))

pub recursive : {X : Type 0} (P : X → Type 0) (xs : List X) → Each P xs → AllByRecursion P xs
recursive P [] h = tt
recursive P (x ∷ xs) h = (h.0, recursive P xs h.1)

unmapped : {X Y : Type 0} (P : Y → Type 0) (f : X → Y) (xs : List X) → AllByRecursion P (map f xs) → AllByRecursion (λ x. P (f x)) xs
unmapped P f [] h = tt
unmapped P f (x ∷ xs) h = (h.0, unmapped P f xs h.1)

-- what holds of each pair holds of each choice with each member
pub of-pairs : (P : Choice × ℕ → Type 0) (choices : List Choice) (members : List ℕ) → AllByRecursion P (each_with choices members)
    → AllByRecursion (λ (choice : Choice). AllByRecursion (λ (member : ℕ). P (choice, member)) members) choices
of-pairs P [] members h = tt
of-pairs P (choice ∷ choices) members h = (
  unmapped P (λ member. (choice, member)) members (each-front P (map (λ member. (choice, member)) members) (each_with choices members) h),
  of-pairs P choices members (each-back P (map (λ member. (choice, member)) members) (each_with choices members) h),
)

-- ---- as many centres as members

-- members without one
others : ℕ → List ℕ → List ℕ
others k ms = filter (λ (m : ℕ). not (m == k)) ms

others-apart : (k : ℕ) (ms : List ℕ) → AreAllDifferent (λ (m n : ℕ). m == n) ms → AreAllDifferent (λ (m n : ℕ). m == n) (filter (λ (m : ℕ). not (m == k)) ms)
others-apart k [] h = tt
others-apart k (m ∷ ms) h =
    elim (cases_Bool (m == k)) [
      | inl e ↦ rw e (others-apart k ms h.1)
      | inr e ↦ rw e (each-kept (λ n. (m == n) ≡ false) (λ (n : ℕ). not (n == k)) ms h.0, others-apart k ms h.1)
    ]

split-off : (k : ℕ) (ms : List ℕ) → length ms ≡ number_of (λ (m : ℕ). m == k) ms + length (filter (λ (m : ℕ). not (m == k)) ms)
split-off k [] = refl
split-off k (m ∷ ms) = let ih = split-off k ms in elim (cases_Bool (m == k)) [ inl e ↦ rw e (omega (arith, ih)) | inr e ↦ rw e (omega (arith, ih)) ]

same-both : (k m n : ℕ) → (m == k) ≡ true → (n == k) ≡ true → (m == n) ≡ true
same-both k m n h g = subst (λ z. (m == z) ≡ true) (sym (eqb-true n k g)) h

-- members that are apart, are in a range and pass a test are no more than the numbers of the range that pass it
pub members-counted : (test : ℕ → Bool) (ms : List ℕ) (low count : ℕ) → AreAllDifferent (λ (m n : ℕ). m == n) ms
    → AllByRecursion (λ m. (low ≤ m) × (m < low + count) × (test m ≡ true)) ms → length ms ≤ number_of test (range_with_len low count)
members-counted test [] low zero apart h = omega arith
members-counted test (m ∷ ms) low zero apart h = absurd (let a = h.0.0 in let b = h.0.1 in omega (arith, a, b))
members-counted test ms low (suc count) apart h = by (test low) refl
    (members-counted test (filter (λ (m : ℕ). not (m == low)) ms) (low + 1) count (others-apart low ms apart)
    (each-passing (λ m. (low + 1 ≤ m) × (m < (low + 1) + count) × (test m ≡ true)) (λ (m : ℕ). not (m == low)) ms
    (each-weaker (λ m. (low ≤ m) × (m < low + suc count) × (test m ≡ true)) (λ m. not (m == low) ≡ true → (low + 1 ≤ m) × (m < (low + 1) + count) × (test m ≡ true)) ms
    (λ m k e. (above m k.0 e, below m k.1, k.2)) h)))
  where
    above : (m : ℕ) → low ≤ m → not (m == low) ≡ true → low + 1 ≤ m
    above m k e = differ (λ s. true≢false (sym e ∙ rw s (equal low)))
      where
        equal : (n : ℕ) → not (n == n) ≡ false
        equal n = let e = eq-eqb n n refl in rw e refl

        differ : (m ≡ low → ⊥) → low + 1 ≤ m
        differ f = omega (arith, k, f)

    below : (m : ℕ) → m < low + suc count → m < (low + 1) + count
    below m k = omega (arith, k)

    once : number_of (λ (m : ℕ). m == low) ms ≤ 1
    once = apart-once (λ (m n : ℕ). m == n) (λ (m : ℕ). m == low) ms (same-both low) apart

    none : test low ≡ false → number_of (λ (m : ℕ). m == low) ms ≡ 0
    none e =
        number-none (λ (m : ℕ). m == low) ms
        (each-weaker (λ m. (low ≤ m) × (m < low + suc count) × (test m ≡ true)) (λ m. (m == low) ≡ false) ms
        (λ m k. elim (cases_Bool (m == low)) [ inl s ↦ absurd (true≢false (sym k.2 ∙ ap test (eqb-true m low s) ∙ e)) | inr f ↦ f ]) h)

    by : (b : Bool) → test low ≡ b → length (filter (λ (m : ℕ). not (m == low)) ms) ≤ number_of test (range_with_len (low + 1) count) → length ms ≤ number_of test (range_with_len low (suc count))
    by true e ih = let all = split-off low ms in rw e (omega (arith, all, once, ih))
    by false e ih = let all = split-off low ms in let n = none e in rw e (omega (arith, all, n, ih))
