-- What is found in a leader's state after a change.
use Rattle.std.proofs.Common.{◌≡◌, ℕ, Bool, true, false, cond, not, List, [], ◌∷◌, filter, find, Option, Some, None, refl, sym, ap, ◌∙◌, subst, inl, inr, arith}
use Rattle.std.proofs.lemmas.Bool.{cases_Bool}
use Rattle.mdcc_base.specs.Key.{key_eq}
use Rattle.mdcc_base.specs.declared.key.Key.{Key}
use Rattle.mdcc_option.proofs.Equal.{Decides-key}
use Rattle.mdcc_def_protocol.specs.Volatile.{Lead, Leading, lead_of, number_kept_at, with_lead, with_number}

pub key_eq-same : (a b : Key) → key_eq a b ≡ true → a ≡ b
key_eq-same a b e = (Decides-key a b).0 e

pub key_eq-refl : (a : Key) → key_eq a a ≡ true
key_eq-refl a = (Decides-key a a).1 refl

find-others : (leads : List Lead) (k key : Key) → key_eq k key ≡ false
    → find (λ lead. key_eq lead.key key) (filter (λ lead. not (key_eq lead.key k)) leads) ≡ find (λ lead. key_eq lead.key key) leads
find-others [] k key other = refl
find-others (x ∷ xs) k key other =
    elim (cases_Bool (key_eq x.key k)) [
      | inl same ↦
          let is : x.key ≡ k = key_eq-same x.key k same in
          let apart : key_eq x.key key ≡ false = rw is other in
          rw (same, apart) (find-others xs k key other)
      | inr apart ↦ elim (cases_Bool (key_eq x.key key)) [
        | inl here ↦ rw (apart, here) refl
        | inr further ↦ rw (apart, further) (find-others xs k key other)
      ]
    ]

pub lead_of-with : (leader : Leading) (lead : Lead) (key : Key) → lead_of (with_lead leader lead) key ≡ cond (key_eq lead.key key) (Some lead) (lead_of leader key)
lead_of-with leader lead key =
    elim (cases_Bool (key_eq lead.key key)) [
      | inl same ↦ rw same refl
      | inr other ↦ rw other (find-others leader.leads lead.key key other)
    ]

-- the lead that is found is one of the key
pub lead_of-key : (leads : List Lead) (key : Key) (lead : Lead) → find (λ lead. key_eq lead.key key) leads ≡ Some lead → lead.key ≡ key
lead_of-key [] key lead h = absurd (cc)
lead_of-key (x ∷ xs) key lead h =
    elim (cases_Bool (key_eq x.key key)) [
      | inl same ↦
          let found : Some x ≡ Some lead = rw same at h in
          let is : x ≡ lead = cc in
          rw (← is) (key_eq-same x.key key same)
      | inr other ↦ lead_of-key xs key lead (rw other at h)
    ]

pub number_at-with : (numbers : List (Key × ℕ)) (k : Key) (n : ℕ) (key : Key) → number_kept_at (with_number numbers k n) key ≡ cond (key_eq k key) n (number_kept_at numbers key)
number_at-with [] k n key = refl
number_at-with (e ∷ es) k n key =
    elim (cases_Bool (key_eq e.0 k)) [
      | inl same ↦
          let is : e.0 ≡ k = key_eq-same e.0 k same in
          elim (cases_Bool (key_eq k key)) [
            | inl here ↦ rw (same, here) refl
            | inr further ↦ rw (same, further, is, further) refl
          ]
      | inr other ↦ elim (cases_Bool (key_eq e.0 key)) [
        | inl first ↦
            let is : e.0 ≡ key = key_eq-same e.0 key first in
            let apart : key_eq k key ≡ false = grind (arith, key_eq-same, key_eq-refl, other, is) in
            rw (other, first, apart) refl
        | inr later ↦ rw (other, later) (number_at-with es k n key)
      ]
    ]
