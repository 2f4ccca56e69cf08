-- That no more promises count than there are centres.
use Rattle.std.proofs.Common.{length-append, ◌≡◌, ℕ, zero, suc, ◌+◌, ◌<◌, ◌≤◌, ◌||◌, ◌&&◌, not, ◌==◌, Bool, true, false, cond, List, [], ◌∷◌, ◌++◌, length, refl, sym, ap, ◌∙◌, subst, inl, inr, arith}
use Rattle.std.proofs.lemmas.Bool.{cases_Bool}
use Rattle.std.proofs.lemmas.Bool.Decides.{nat_tests}
use Rattle.std.proofs.lemmas.List.FromFn.{length-range_with_len}
use Rattle.std.proofs.lemmas.List.Folds.{list_any-append}
use Rattle.std.specs.List.{list_any, range_with_len}
use Rattle.mdcc_base.specs.Counts.{number_of}
use Rattle.mdcc_base.specs.Quorums.{all_centres}
use Rattle.mdcc_base.specs.Sizes.{Sizes}
use Rattle.mdcc_leader.specs.Leads.{AreOfCentres}
use Rattle.mdcc_base.specs.Ballot.{ballot_eq}
use Rattle.mdcc_def_protocol.specs.Leader.{is_at_odds, is_promise_counted, with_promise}
use Rattle.mdcc_def_protocol.specs.Volatile.{CountedPromise, Lead}
use Rattle.mdcc_def_protocol.specs.declared.leader.Promise.{Promise}

number-most : (test : ℕ → Bool) (xs : List ℕ) → number_of test xs ≤ length xs
number-most test [] = omega arith
number-most test (x ∷ xs) = let ih = number-most test xs in grind (arith, ih)

number-fewer : (test more : ℕ → Bool) → ((x : ℕ) → test x ≡ true → more x ≡ true) → (xs : List ℕ) → number_of test xs ≤ number_of more xs
number-fewer test more h [] = omega arith
number-fewer test more h (x ∷ xs) = let ih = number-fewer test more h xs in grind (arith, ih, h)

-- one of these numbers more passes
number-more : (test more : ℕ → Bool) (from : ℕ) → ((x : ℕ) → test x ≡ true → more x ≡ true) → test from ≡ false → more from ≡ true
    → (a n : ℕ) → a ≤ from → from < a + n → number_of test (range_with_len a n) + 1 ≤ number_of more (range_with_len a n)
number-more test more from h fails passes a zero low high = absurd (omega arith)
number-more test more from h fails passes a (suc n) low high =
    elim (cases_Bool (a == from)) [
      | inl here ↦
          let is : a ≡ from = grind (arith, nat_tests) in
          let rest = number-fewer test more h (range_with_len (a + 1) n) in
          let bare : test a ≡ false = rw is fails in
          let full : more a ≡ true = rw is passes in
          rw (bare, full) (omega (arith, rest))
      | inr later ↦
          let apart : a < from = grind (arith, nat_tests) in
          let rest = number-more test more from h fails passes (a + 1) n (omega arith) (omega arith) in
          grind (arith, rest, h)
    ]

abbrev has_promised : List CountedPromise → ℕ → Bool
has_promised promises centre = list_any (λ promise. promise.from == centre) promises

-- a further centre is counted
pub AreOfCentres-more : (quorums : Sizes) (promises : List CountedPromise) (promise : CountedPromise) → 1 ≤ promise.from → promise.from ≤ quorums.centres
    → list_any (λ other. other.from == promise.from) promises ≡ false → AreOfCentres quorums promises → AreOfCentres quorums (promises ++ promise ∷ [])
AreOfCentres-more quorums promises promise low high new of =
    let more = number-more (has_promised promises) (has_promised (promises ++ promise ∷ [])) promise.from
    (λ x h. rw (list_any-append (λ (p : CountedPromise). p.from == x) promises (promise ∷ [])) (grind (arith, h)))
    new (rw (list_any-append (λ (p : CountedPromise). p.from == promise.from) promises (promise ∷ [])) (grind (arith, nat_tests)))
    1 quorums.centres low (omega arith) in
    let longer : length (promises ++ promise ∷ []) ≡ length promises + 1 = length-append promises (promise ∷ []) in
    omega (arith, more, longer, of)

-- so there are no more than centres, and fewer where one did not promise
pub promises-few : (quorums : Sizes) (promises : List CountedPromise) (from : ℕ) → 1 ≤ from → from ≤ quorums.centres
    → list_any (λ other. other.from == from) promises ≡ false → AreOfCentres quorums promises → length promises < quorums.centres
promises-few quorums promises from low high new of =
    let more = number-more (has_promised promises) (λ x. has_promised promises x || x == from) from (λ x h. grind (arith, h)) new (grind (arith, nat_tests)) 1 quorums.centres low (omega arith) in
    let most = number-most (λ x. has_promised promises x || x == from) (range_with_len 1 quorums.centres) in
    omega (arith, more, most, length-range_with_len 1 quorums.centres, of)

-- a promise that counts is the first of its centre
counted-first : (of : Lead) (from : ℕ) (promise : Promise) → is_promise_counted of from promise ≡ true → list_any (λ other. other.from == from) of.promises ≡ false
counted-first of from promise counts =
    fourth (of.version == promise.version) (ballot_eq of.ballot promise.ballot) (not of.is_refused) (list_any (λ other. other.from == from) of.promises)
    (not (is_at_odds of promise.reported promise.votes)) counts
  where
    fourth : (a b c d e : Bool) → (a && b && c && not d && e) ≡ true → d ≡ false
    fourth a b c true e h = grind (arith, h)
    fourth a b c false e h = refl

-- where all centres promised, none counts
pub none-counts : (quorums : Sizes) (of : Lead) (from : ℕ) (promise : Promise) → 1 ≤ from → from ≤ quorums.centres → AreOfCentres quorums of.promises
    → quorums.centres ≤ length of.promises → is_promise_counted of from promise ≡ false
none-counts quorums of from promise low high are full =
    elim (cases_Bool (is_promise_counted of from promise)) [
      | inr ignored ↦ ignored
      | inl counts ↦
          let less = promises-few quorums of.promises from low high (counted-first of from promise counts) are in
          absurd (omega (arith, less, full))
    ]

pub one-more : (quorums : Sizes) (of : Lead) (from : ℕ) (promise : Promise) → 1 ≤ from → from ≤ quorums.centres → is_promise_counted of from promise ≡ true
    → AreOfCentres quorums of.promises → AreOfCentres quorums (with_promise of from promise).promises
one-more quorums of from promise low high counts are = AreOfCentres-more quorums of.promises _ low high (counted-first of from promise counts) are
