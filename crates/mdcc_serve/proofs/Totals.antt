-- Counts that are added one after another, and serials that fit.
use Rattle.std.proofs.Common.{◌≡◌, ℕ, zero, suc, ◌+◌, ◌≤◌, ◌<◌, List, [], ◌∷◌, refl, sym, ◌∙◌, ap, subst, arith, get_or, length, take}
use Rattle.std.specs.List.{AllByRecursion}
use Rattle.mdcc_base.specs.Counts.{sum_over}
use Rattle.mdcc_serve_outbox.specs.Shows.{count_limited}
use Rattle.mdcc_serve.specs.Totals.{counts_of, with_counts}
use Rattle.mdcc_serve.specs.declared.served.Served.{Served}
use Rattle.mdcc_serve_site.specs.declared.site.Site.{Site as TheSite}

-- ---- the first items of a list

pub take_all : {A : Type 0} (xs : List A) (n : ℕ) → length xs ≤ n → take n xs ≡ xs
take_all [] zero long = refl
take_all [] (suc n) long = refl
take_all (x ∷ xs) zero long = absurd (omega (long, arith))
take_all (x ∷ xs) (suc n) long = ap (λ ys. x ∷ ys) (take_all xs n (omega (long, arith)))

pub each_more : {A : Type 0} (P : A → Type 0) (xs : List A) (i : ℕ) (x : A) → i < length xs → x ≡ get_or xs i x → AllByRecursion P (take i xs) → P x → AllByRecursion P (take (suc i) xs)
each_more P [] i x within is so here = absurd (omega (within, arith))
each_more P (y ∷ ys) zero x within is so here = (subst P is here, tt)
each_more P (y ∷ ys) (suc i) x within is so here = (so.0, each_more P ys i x (omega (within, arith)) is so.1 here)

-- ---- counts

sum_more : {A : Type 0} (f : A → ℕ) (xs : List A) (i : ℕ) (x : A) → i < length xs → x ≡ get_or xs i x → sum_over f (take (suc i) xs) ≡ sum_over f (take i xs) + f x
sum_more f [] i x within is = absurd (omega (within, arith))
sum_more f (y ∷ ys) zero x within is = let e = ap f is in omega (e, arith)
sum_more f (y ∷ ys) (suc i) x within is = let e = sum_more f ys i x (omega (within, arith)) is in omega (e, arith)

-- a count that stands still at its end
still_at_end : (a b : ℕ) → count_limited (count_limited a + b) ≡ count_limited (a + b)
still_at_end a b = omega arith

count_more : {A : Type 0} (f : A → ℕ) (xs : List A) (i : ℕ) (x : A) → i < length xs → x ≡ get_or xs i x → count_limited (count_limited (sum_over f (take i xs)) + f x) ≡ count_limited (sum_over f (take (suc i) xs))
count_more f xs i x within is = still_at_end (sum_over f (take i xs)) (f x) ∙ ap count_limited (sym (sum_more f xs i x within is))

pub counts_more : (turns : ℕ) (held : List TheSite) (i : ℕ) (h : TheSite) → i < length held → h ≡ get_or held i h → with_counts (counts_of turns (take i held)) h ≡ counts_of turns (take (suc i) held)
counts_more turns held i h within is =
    counts (count_limited (count_limited (sum_over (λ s. s.steps) (take i held)) + h.steps)) (count_limited (sum_over (λ s. s.steps) (take (suc i) held)))
    (count_limited (count_limited (sum_over (λ s. s.dropped) (take i held)) + h.dropped)) (count_limited (sum_over (λ s. s.dropped) (take (suc i) held)))
    (count_limited (count_limited (sum_over (λ s. s.sender.lost) (take i held)) + h.sender.lost)) (count_limited (sum_over (λ s. s.sender.lost) (take (suc i) held)))
    (count_more (λ (s : TheSite). s.steps) held i h within is) (count_more (λ (s : TheSite). s.dropped) held i h within is) (count_more (λ (s : TheSite). s.sender.lost) held i h within is)
  where
    counts : (a b c d e f : ℕ) → a ≡ b → c ≡ d → e ≡ f
        → (let one : Served = record { turns = turns; steps = a; dropped = c; lost = e } in one) ≡ record { turns = turns; steps = b; dropped = d; lost = f }
    counts a b c d e f one two three =
        ap (λ (n : ℕ). let s : Served = record { turns = turns; steps = n; dropped = c; lost = e } in s) one
        ∙ (ap (λ (n : ℕ). let s : Served = record { turns = turns; steps = b; dropped = n; lost = e } in s) two
        ∙ ap (λ (n : ℕ). let s : Served = record { turns = turns; steps = b; dropped = d; lost = n } in s) three)
