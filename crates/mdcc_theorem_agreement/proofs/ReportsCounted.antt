-- Counts over the members of a set, and what is said of a list of reports.
use Rattle.std.proofs.Common.{◌≡◌, ℕ, ◌+◌, ◌<◌, ◌≤◌, Bool, true, ◌&&◌, List, [], ◌∷◌, length, refl, sym, ap, ◌∙◌, arith, inl, inr, ◌⊎◌, Some}
use Rattle.std.proofs.lemmas.Bool.{cases_Bool, and_parts, false≢true}
use Rattle.mdcc_base.specs.declared.identifiers.Ballot.{Ballot}
use Rattle.mdcc_base.specs.declared.identifiers.TxId.{TxId}
use Rattle.mdcc_option.specs.declared.choices.Mark.{Mark}
use Rattle.mdcc_theorem_agreement.proofs.BallotOrder.{Below-cases, Below-fast, Below-irrefl}
use Rattle.mdcc_theorem_agreement.proofs.Ballots.{fast, Below}
use Rattle.mdcc_theorem_agreement.proofs.BothCounted.{count_both}
use Rattle.mdcc_theorem_agreement.proofs.Setups.{count}
use Rattle.mdcc_theorem_agreement.proofs.ReducedFacts.{greater, voted_below, ReducedReport, report}
use Rattle.mdcc_theorem_agreement.proofs.ReducedForced.{top, Voices}
use Rattle.mdcc_theorem_agreement.proofs.ReducedLedger.{Entry, facts_of, reports_of, members, given}
use Rattle.mdcc_theorem_agreement.proofs.ReducedOptions.{Place, mark_of, gives, In}
use Rattle.mdcc_theorem_agreement.proofs.VotesOfFacts.{greater-left, greater-right, greater-cases}

pub some_counted : {A : Type 0} (p : A → Bool) (xs : List A) → 0 < count p xs → (x : A) × In x xs × (p x ≡ true)
some_counted p [] h = absurd (omega arith)
some_counted {A = A} p (x ∷ xs) h =
    elim (cases_Bool (p x)) [
      | inl e ↦ (x, inl refl, e)
      | inr e ↦ let more : (y : A) × In y xs × (p y ≡ true) = some_counted p xs (grind (arith, e)) in (more.0, inr more.1, more.2)
    ]

pub some_common : {A : Type 0} (p q : A → Bool) (xs : List A) → length xs < count p xs + count q xs → (x : A) × In x xs × (p x ≡ true) × (q x ≡ true)
some_common {A = A} p q xs h =
    let some : (x : A) × In x xs × ((p x && q x) ≡ true) = some_counted (λ x. p x && q x) xs (omega (arith, count_both p q xs)) in
    let parts : (p some.0 ≡ true) × (q some.0 ≡ true) = and_parts (p some.0) (q some.0) some.2 in
    (some.0, some.1, parts.0, parts.1)

pub count-le : {A : Type 0} (p q : A → Bool) (xs : List A) → ((x : A) → In x xs → p x ≡ true → q x ≡ true) → count p xs ≤ count q xs
count-le p q [] h = omega arith
count-le p q (x ∷ xs) h =
    let rest : count p xs ≤ count q xs = count-le p q xs (λ y at_y. h y (inr at_y)) in
    elim (cases_Bool (p x)) [
      | inl e ↦ let f : q x ≡ true = h x (inl refl) e in rw (e, f) (omega arith)
      | inr e ↦ rw e (omega arith)
    ]

pub In-members : (q : ℕ → Bool) (a : ℕ) (xs : List ℕ) → In a xs → q a ≡ true → In a (members q xs)
In-members q a [] h e = h
In-members q a (x ∷ xs) h e =
    elim (cases_Bool (q x)) [
      | inl holds ↦ rw holds (elim h [ inl here ↦ inl here | inr there ↦ inr (In-members q a xs there e) ])
      | inr fails ↦ rw fails (elim h [ inl here ↦ absurd (false≢true (sym fails ∙ ap q here ∙ e)) | inr there ↦ In-members q a xs there e ])
    ]

module _ (at_time : ℕ → List Entry) (i : Place) (m : Ballot) where
  pub In-reports : (a : ℕ) (xs : List ℕ) → In a xs → In (report (facts_of a (at_time a)) i m) (reports_of at_time i m xs)
  In-reports a [] h = h
  In-reports a (x ∷ xs) h = elim h [ inl here ↦ inl (ap (λ z. report (facts_of z (at_time z)) i m) here) | inr there ↦ inr (In-reports a xs there) ]

  pub length-reports : (q : ℕ → Bool) (xs : List ℕ) → length (reports_of at_time i m (members q xs)) ≡ count q xs
  length-reports q [] = refl
  length-reports q (x ∷ xs) =
      elim (cases_Bool (q x)) [
        | inl holds ↦ rw holds (omega (arith, length-reports q xs))
        | inr fails ↦ rw fails (omega (arith, length-reports q xs))
      ]

  pub count-reports : (q : ℕ → Bool) (t : TxId) (x : Mark) (xs : List ℕ) →
      count (λ r. gives r.marks t x) (reports_of at_time i m (members q xs)) ≡ count (λ a. q a && gives (report (facts_of a (at_time a)) i m).marks t x) xs
  count-reports q t x [] = refl
  count-reports q t x (a ∷ xs) =
      elim (cases_Bool (q a)) [
        | inl holds ↦ rw holds (omega (arith, count-reports q t x xs))
        | inr fails ↦ rw fails (omega (arith, count-reports q t x xs))
      ]

  pub top-there : (q : ℕ → Bool) (k : Ballot) (xs : List ℕ) → top (reports_of at_time i m (members q xs)) ≡ k →
      (k ≡ fast) ⊎ ((b : ℕ) × In b xs × (q b ≡ true) × (voted_below (facts_of b (at_time b)) i m ≡ k))
  top-there q k [] h = inl (sym h)
  top-there q k (x ∷ xs) h =
      elim (cases_Bool (q x)) [
        | inl holds ↦
            let is : greater (voted_below (facts_of x (at_time x)) i m) (top (reports_of at_time i m (members q xs))) ≡ k = rw holds at h in
            elim (greater-cases (voted_below (facts_of x (at_time x)) i m) (top (reports_of at_time i m (members q xs)))) [
              | inl here ↦ inr (x, inl refl, holds, sym here ∙ is)
              | inr there ↦ elim (top-there q k xs (sym there ∙ is)) [ inl a ↦ inl a | inr b ↦ inr (b.0, inr b.1, b.2, b.3) ]
            ]
        | inr fails ↦ elim (top-there q k xs (rw fails at h)) [ inl a ↦ inl a | inr b ↦ inr (b.0, inr b.1, b.2, b.3) ]
      ]

pub top-most : (r : ReducedReport) (rs : List ReducedReport) → In r rs → Below (top rs) r.ballot → ⊥
top-most r [] h over = h
top-most r (s ∷ rs) h over =
    elim h [
      | inl here ↦ Below-irrefl r.ballot (rw (ap (λ z. z.ballot) here) at (greater-left s.ballot (top rs) r.ballot over))
      | inr there ↦ top-most r rs there (greater-right s.ballot (top rs) r.ballot over)
    ]

pub Voices-in : (r : ReducedReport) (rs : List ReducedReport) (k : Ballot) (t : TxId) (x : Mark) → In r rs → r.ballot ≡ k → mark_of t r.marks ≡ Some x → Voices rs k t x
Voices-in r [] k t x h is given = h
Voices-in r (s ∷ rs) k t x h is given =
    elim h [
      | inl here ↦ inl (ap (λ z. z.ballot) here ∙ is, ap (λ z. mark_of t z.marks) here ∙ given)
      | inr there ↦ inr (Voices-in r rs k t x there is given)
    ]

-- a report of a list is that of a member
pub reports-of : (at_time : ℕ → List Entry) (i : Place) (m : Ballot) (q : ℕ → Bool) (r : ReducedReport) (xs : List ℕ) → In r (reports_of at_time i m (members q xs)) →
    (a : ℕ) × (q a ≡ true) × (report (facts_of a (at_time a)) i m ≡ r)
reports-of at_time i m q r [] h = absurd h
reports-of at_time i m q r (a ∷ xs) h =
    elim (cases_Bool (q a)) [
      | inl holds ↦
          let listed : In r (report (facts_of a (at_time a)) i m ∷ reports_of at_time i m (members q xs)) = rw holds at h in
          elim listed [ inl here ↦ (a, holds, here) | inr there ↦ reports-of at_time i m q r xs there ]
      | inr fails ↦ reports-of at_time i m q r xs (rw fails at h)
    ]

pub Voices-out : (k : Ballot) (t : TxId) (x : Mark) (rs : List ReducedReport) → Voices rs k t x → (r : ReducedReport) × In r rs × (r.ballot ≡ k) × (mark_of t r.marks ≡ Some x)
Voices-out k t x [] h = absurd h
Voices-out k t x (r ∷ rs) h =
    elim h [
      | inl here ↦ (r, inl refl, here.0, here.1)
      | inr there ↦ let more : (s : ReducedReport) × In s rs × (s.ballot ≡ k) × (mark_of t s.marks ≡ Some x) = Voices-out k t x rs there in
          (more.0, inr more.1, more.2, more.3)
    ]

-- where nothing is reported but the fast ballot, each report has it
pub all_fast : (r : ReducedReport) (rs : List ReducedReport) → In r rs → top rs ≡ fast → r.ballot ≡ fast
all_fast r rs h is =
    elim (Below-cases fast r.ballot) [
      | inl over ↦ absurd (top-most r rs h (rw is over))
      | inr rest ↦ elim rest [ inl same ↦ sym same | inr under ↦ absurd (Below-fast r.ballot under) ]
    ]

pub length-members : (q : ℕ → Bool) (xs : List ℕ) → length (members q xs) ≡ count q xs
length-members q [] = refl
length-members q (x ∷ xs) =
    elim (cases_Bool (q x)) [ inl e ↦ rw e (omega (arith, length-members q xs)) | inr e ↦ rw e (omega (arith, length-members q xs)) ]

pub count-members : (q p : ℕ → Bool) (xs : List ℕ) → count p (members q xs) ≡ count (λ a. q a && p a) xs
count-members q p [] = refl
count-members q p (x ∷ xs) =
    elim (cases_Bool (q x)) [ inl e ↦ rw e (omega (arith, count-members q p xs)) | inr e ↦ rw e (omega (arith, count-members q p xs)) ]

pub members-in : (q : ℕ → Bool) (a : ℕ) (xs : List ℕ) → In a (members q xs) → (q a ≡ true) × In a xs
members-in q a [] h = absurd h
members-in q a (x ∷ xs) h =
    elim (cases_Bool (q x)) [
      | inl e ↦
          let listed : (x ≡ a) ⊎ In a (members q xs) = rw e at h in
          elim listed [ inl here ↦ (sym (ap q here) ∙ e, inl here) | inr there ↦ ((members-in q a xs there).0, inr (members-in q a xs there).1) ]
      | inr e ↦ let listed : In a (members q xs) = rw e at h in ((members-in q a xs listed).0, inr (members-in q a xs listed).1)
    ]
