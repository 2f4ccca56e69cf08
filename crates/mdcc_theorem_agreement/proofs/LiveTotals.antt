-- Totals over distinct choices, and over what is live with them.
use Rattle.std.proofs.Common.{◌≡◌, ℕ, ◌+◌, ◌*◌, ◌≤◌, Bool, true, false, cond, List, [], ◌∷◌, ◌++◌, length, refl, sym, ap, ◌∙◌, arith, inl, inr, ◌⊎◌, Option, Some, None}
use Rattle.std.proofs.lemmas.Bool.{cases_Bool, false≢true}
use Rattle.mdcc_base.specs.TxId.{tx_eq}
use Rattle.mdcc_base.specs.declared.identifiers.TxId.{TxId}
use Rattle.mdcc_option.specs.declared.choices.Choice.{Choice}
use Rattle.mdcc_option.specs.declared.items.Update.{Update}
use Rattle.mdcc_theorem_agreement.proofs.ReducedOptions.{In, Apart}
use Rattle.mdcc_theorem_agreement.proofs.TestsDecide.{Decides-tx}
use Rattle.mdcc_theorem_agreement.proofs.Totals.{total, Each}

abbrev pub update_of : TxId → List (TxId × Update) → Option Update
update_of t [] = None
update_of t (p ∷ ps) = cond (tx_eq t p.0) (Some p.1) (update_of t ps)

tx_other : (t u : TxId) → (t ≡ u → ⊥) → tx_eq t u ≡ false
tx_other t u h = elim (cases_Bool (tx_eq t u)) [ inl e ↦ absurd (h ((Decides-tx t u).0 e)) | inr e ↦ e ]

tx_differ : (t u : TxId) → tx_eq t u ≡ false → t ≡ u → ⊥
tx_differ t u e same = false≢true (sym e ∙ (Decides-tx t u).1 same)

abbrev removed : TxId → List (TxId × Update) → List (TxId × Update)
removed t [] = []
removed t (p ∷ ps) = cond (tx_eq t p.0) ps (p ∷ removed t ps)

total-removed : (g : Update → ℕ) (t : TxId) (u : Update) (ps : List (TxId × Update)) → update_of t ps ≡ Some u →
    total (λ p. g p.1) ps ≡ g u + total (λ p. g p.1) (removed t ps)
total-removed g t u [] h = absurd (cc)
total-removed g t u ((w, x) ∷ ps) h =
    elim (cases_Bool (tx_eq t w)) [
      | inl e ↦ let is : Some x ≡ Some u = rw e at h in let value : g x ≡ g u = cc in rw e (omega arith)
      | inr e ↦ let more : update_of t ps ≡ Some u = rw e at h in rw e (omega (arith, total-removed g t u ps more))
    ]

update_of-removed : (t u : TxId) (ps : List (TxId × Update)) → (t ≡ u → ⊥) → update_of u (removed t ps) ≡ update_of u ps
update_of-removed t u [] h = refl
update_of-removed t u ((w, x) ∷ ps) h =
    elim (cases_Bool (tx_eq t w)) [
      | inl e ↦ let other : tx_eq u w ≡ false = tx_other u w (λ same. h ((Decides-tx t w).0 e ∙ sym same)) in rw (e, other) refl
      | inr e ↦ rw e (ap (λ m. cond (tx_eq u w) (Some x) m) (update_of-removed t u ps h))
    ]

-- distinct choices that are listed are together at most the list
pub total_listed : (g : Update → ℕ) (cs : List Choice) (xs : List (TxId × Update)) → Apart cs → ((c : Choice) → In c cs → update_of c.tx xs ≡ Some c.update) →
    total (λ c. g c.update) cs ≤ total (λ p. g p.1) xs
total_listed g [] xs apart h = omega arith
total_listed g (c ∷ cs) xs apart h =
    let here : total (λ p. g p.1) xs ≡ g c.update + total (λ p. g p.1) (removed c.tx xs) = total-removed g c.tx c.update xs (h c (inl refl)) in
    let rest : total (λ d. g d.update) cs ≤ total (λ p. g p.1) (removed c.tx xs) =
    total_listed g cs (removed c.tx xs) apart.1 (λ d k. update_of-removed c.tx d.tx xs (λ e. apart.0 d k (sym e)) ∙ h d (inr k)) in
    omega arith

pub In-left : {A : Type 0} (x : A) (xs ys : List A) → In x xs → In x (xs ++ ys)
In-left x [] ys h = absurd h
In-left x (y ∷ xs) ys h = elim h [ inl here ↦ inl here | inr there ↦ inr (In-left x xs ys there) ]

pub In-right : {A : Type 0} (x : A) (xs ys : List A) → In x ys → In x (xs ++ ys)
In-right x [] ys h = h
In-right x (y ∷ xs) ys h = inr (In-right x xs ys h)

-- those that pass
abbrev pub kept : (Choice → Bool) → List Choice → List Choice
kept p [] = []
kept p (c ∷ cs) = cond (p c) (c ∷ kept p cs) (kept p cs)

pub In-kept : (p : Choice → Bool) (c : Choice) (cs : List Choice) → In c (kept p cs) → In c cs × (p c ≡ true)
In-kept p c [] h = absurd h
In-kept p c (d ∷ cs) h =
    elim (cases_Bool (p d)) [
      | inl e ↦
          let listed : In c (d ∷ kept p cs) = rw e at h in
          elim listed [ inl here ↦ (inl here, sym (ap p here) ∙ e) | inr there ↦ (inr (In-kept p c cs there).0, (In-kept p c cs there).1) ]
      | inr e ↦ let listed : In c (kept p cs) = rw e at h in (inr (In-kept p c cs listed).0, (In-kept p c cs listed).1)
    ]

pub Apart-kept : (p : Choice → Bool) (cs : List Choice) → Apart cs → Apart (kept p cs)
Apart-kept p [] h = tt
Apart-kept p (c ∷ cs) h =
    elim (cases_Bool (p c)) [
      | inl e ↦ rw e ((λ d k. h.0 d (In-kept p d cs k).0), Apart-kept p cs h.1)
      | inr e ↦ rw e (Apart-kept p cs h.1)
    ]

pub total-kept : (g : Choice → ℕ) (p : Choice → Bool) (cs : List Choice) → total (λ c. cond (p c) (g c) 0) cs ≡ total g (kept p cs)
total-kept g p [] = refl
total-kept g p (c ∷ cs) =
    elim (cases_Bool (p c)) [
      | inl e ↦ rw e (omega (arith, total-kept g p cs))
      | inr e ↦ rw e (omega (arith, total-kept g p cs))
    ]

pub Each-from : {A : Type 0} (P : A → Type 0) (xs : List A) → ((x : A) → In x xs → P x) → Each P xs
Each-from P [] h = tt
Each-from P (x ∷ xs) h = (h x (inl refl), Each-from P xs (λ y k. h y (inr k)))

pub total_bound : {A : Type 0} (f : A → ℕ) (c bound : ℕ) (xs : List A) → ((x : A) → In x xs → c * f x ≤ bound) → c * total f xs ≤ length xs * bound
total_bound f c bound [] h = omega arith
total_bound f c bound (x ∷ xs) h = omega (arith, h x (inl refl), total_bound f c bound xs (λ y k. h y (inr k)))

-- a list of choices with and without the one of a transaction
pub take_tx : (g : Update → ℕ) (t : TxId) (cs : List Choice) → Apart cs →
    ((c : Choice) × (rest : List Choice) × In c cs × (c.tx ≡ t) × (total (λ d. g d.update) cs ≡ g c.update + total (λ d. g d.update) rest)
    × Apart rest × ((d : Choice) → In d rest → In d cs × (d.tx ≡ t → ⊥)))
    ⊎ ((c : Choice) → In c cs → c.tx ≡ t → ⊥)
take_tx g t [] apart = inr (λ c h e. h)
take_tx g t (c ∷ cs) apart =
    elim (cases_Bool (tx_eq c.tx t)) [
      | inl e ↦
          let same : c.tx ≡ t = (Decides-tx c.tx t).0 e in
          inl (c, cs, inl refl, same, refl, apart.1, (λ d h. (inr h, (λ k. apart.0 d h (k ∙ sym same)))))
      | inr e ↦ elim (take_tx g t cs apart.1) [
        | inl r ↦ inl (
          r.0,
          c ∷ r.1,
          inr r.2,
          r.3,
          omega (arith, r.4),
          ((λ d h. apart.0 d (r.6 d h).0), r.5),
          (λ d h. elim h [
            | inl here ↦ (inl here, (λ k. tx_differ c.tx t e (ap (λ z. z.tx) here ∙ k)))
            | inr there ↦ (inr (r.6 d there).0, (r.6 d there).1)
          ]),
        )
        | inr none ↦ inr (λ d h k. elim h [ inl here ↦ tx_differ c.tx t e (ap (λ z. z.tx) here ∙ k) | inr there ↦ none d there k ])
      ]
    ]
