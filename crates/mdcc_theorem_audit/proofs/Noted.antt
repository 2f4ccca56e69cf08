-- The options that are noted as accepted or rejected are just those to which a quorum gave it at some ballot.
use Rattle.std.proofs.Common.{◌≡◌, ℕ, ◌+◌, ◌≤◌, ◌<◌, Bool, List, [], ◌∷◌, ◌++◌, ◌==◌, ◌&&◌, ◌||◌, None, Option, Some, arith, cond, false, true, inl, inr, refl, sym, ap, ◌∙◌, ◌⊎◌, fold, subst}
use Rattle.std.proofs.lemmas.Bool.{cases_Bool, and_parts, false≢true, leb-true, le-leb, or_cases}
use Rattle.std.specs.List.{cons_option, filter_map, list_any}
use Rattle.std.specs.Option.{option_or}
use Rattle.mdcc_base.specs.Counts.{number_of}
use Rattle.mdcc_base.specs.Quorums.{all_centres, quorum_size}
use Rattle.mdcc_base.specs.Sizes.{Sizes}
use Rattle.mdcc_base.specs.declared.identifiers.Ballot.{Ballot}
use Rattle.mdcc_audit.proofs.Tests.{Decides-subject}
use Rattle.mdcc_audit.specs.Subjects.{of_tx, subject_eq}
use Rattle.mdcc_audit.specs.Votes.{CountedVotes, SubjectTallies, chosen_with, given_by, given_eq, instance_subject, is_among, is_chosen, noted_if, nothing_counted, number_given, tallied, tally_at, with_subject}
use Rattle.mdcc_audit.specs.declared.subjects.Subject.{Subject}
use Rattle.mdcc_audit.specs.declared.votes.Given.{Given}
use Rattle.mdcc_theorem_audit.proofs.Casts.{Cast, count_one, first_cast, given-first, given-one, is_cast_of, vote-tallies}

-- ---- numbers

abbrev pub passes : {X : Type 0} → (X → Bool) → Option X → Bool
passes test None = false
passes test (Some x) = test x

one-listed : {X : Type 0} (test : X → Bool) (o : Option X) (xs : List X) → number_of test (cons_option o xs) ≡ cond (passes test o) 1 0 + number_of test xs
one-listed test None xs = omega arith
one-listed test (Some x) xs = refl

pub number-listed : {X Y : Type 0} (test : Y → Bool) (f : X → Option Y) (xs : List X) → number_of test (filter_map f xs) ≡ number_of (λ x. passes test (f x)) xs
number-listed test f [] = refl
number-listed test f (x ∷ xs) = one-listed test (f x) (filter_map f xs) ∙ ap (λ n. cond (passes test (f x)) 1 0 + n) (number-listed test f xs)

pub number-same : {X : Type 0} (p q : X → Bool) (xs : List X) → ((x : X) → p x ≡ q x) → number_of p xs ≡ number_of q xs
number-same p q [] h = refl
number-same p q (x ∷ xs) h = rw (h x, number-same p q xs h) refl

pub number-more : {X : Type 0} (p q : X → Bool) (xs : List X) → ((x : X) → p x ≡ true → q x ≡ true) → number_of p xs ≤ number_of q xs
number-more p q [] h = omega arith
number-more p q (x ∷ xs) h =
    let rest : number_of p xs ≤ number_of q xs = number-more p q xs h in
    elim (cases_Bool (p x)) [
      | inl e ↦ (let f : q x ≡ true = h x e in rw (e, f) (omega arith))
      | inr e ↦ elim (cases_Bool (q x)) [ inl f ↦ rw (e, f) (omega arith) | inr f ↦ rw (e, f) (omega arith) ]
    ]

pub number-none : {X : Type 0} (p : X → Bool) (xs : List X) → ((x : X) → p x ≡ false) → number_of p xs ≡ 0
number-none p [] h = refl
number-none p (x ∷ xs) h = rw (h x, number-none p xs h) refl

-- ---- sets of subjects

any-append : (test : Subject → Bool) (xs : List Subject) (x : Subject) → list_any test (xs ++ x ∷ []) ≡ (list_any test xs || test x)
any-append test [] x = or-false (test x)
  where
    or-false : (b : Bool) → (b || false) ≡ b
    or-false true = refl
    or-false false = refl
any-append test (y ∷ ys) x = elim (cases_Bool (test y)) [ inl e ↦ rw e refl | inr e ↦ rw e (any-append test ys x) ]

or-left : (p q : Bool) → p ≡ true → (p || q) ≡ true
or-left true q e = refl
or-left false q e = cc

or-right : (p q : Bool) → q ≡ true → (p || q) ≡ true
or-right true q e = refl
or-right false q e = e

among-kept : (xs : List Subject) (x y : Subject) → is_among xs y ≡ true → is_among (with_subject xs x) y ≡ true
among-kept xs x y h =
    elim (cases_Bool (list_any (subject_eq x) xs)) [
      | inl e ↦ rw e h
      | inr e ↦ rw e (any-append (subject_eq y) xs x ∙ or-left (is_among xs y) (subject_eq y x) h)
    ]

among-new : (xs : List Subject) (x : Subject) → is_among (with_subject xs x) x ≡ true
among-new xs x =
    elim (cases_Bool (list_any (subject_eq x) xs)) [
      | inl e ↦ rw e e
      | inr e ↦ rw e (any-append (subject_eq x) xs x ∙ or-right (is_among xs x) (subject_eq x x) ((Decides-subject x x).1 refl))
    ]

among-cases : (xs : List Subject) (x y : Subject) → is_among (with_subject xs x) y ≡ true → (is_among xs y ≡ true) ⊎ (y ≡ x)
among-cases xs x y h =
    elim (cases_Bool (list_any (subject_eq x) xs)) [
      | inl e ↦ inl (rw e at h)
      | inr e ↦
          let more : is_among (xs ++ x ∷ []) y ≡ true = rw e at h in
          elim (or_cases (is_among xs y) (subject_eq y x) (sym (any-append (subject_eq y) xs x) ∙ more)) [
            | inl there ↦ inl there
            | inr here ↦ inr ((Decides-subject y x).0 here)
          ]
    ]

-- ---- what a quorum gave

abbrev pub number_by : Sizes → SubjectTallies → Subject → Given → ℕ
number_by quorums tallies s g = number_of (λ a. passes (given_eq g) (given_by (tally_at tallies s) a)) (all_centres quorums)

abbrev pub Enough : Sizes → SubjectTallies → Subject → Given → Type 0
Enough quorums tallies s g = quorum_size quorums s.ballot ≤ number_by quorums tallies s g

number-by : (quorums : Sizes) (tallies : SubjectTallies) (s : Subject) (g : Given) → number_given quorums (tally_at tallies s) g ≡ number_by quorums tallies s g
number-by quorums tallies s g = number-listed (given_eq g) (given_by (tally_at tallies s)) (all_centres quorums)

enough-chosen : (quorums : Sizes) (tallies : SubjectTallies) (s : Subject) (g : Given) → Enough quorums tallies s g → is_chosen quorums s (tally_at tallies s) g ≡ true
enough-chosen quorums tallies s g h = le-leb (quorum_size quorums s.ballot) (number_given quorums (tally_at tallies s) g) (omega (arith, number-by quorums tallies s g))

chosen-enough : (quorums : Sizes) (tallies : SubjectTallies) (s : Subject) (g : Given) → is_chosen quorums s (tally_at tallies s) g ≡ true → Enough quorums tallies s g
chosen-enough quorums tallies s g h =
    let enough : quorum_size quorums s.ballot ≤ number_given quorums (tally_at tallies s) g = leb-true (quorum_size quorums s.ballot) (number_given quorums (tally_at tallies s) g) h in
    omega (arith, number-by quorums tallies s g)

-- just that is noted
pub record Notes (quorums : Sizes) (counted : CountedVotes) : Type 0 where
  pub accepted : (s : Subject) → Enough quorums counted.tallies s Given.Acceptance → is_among counted.accepted (instance_subject s) ≡ true
  pub rejected : (s : Subject) → Enough quorums counted.tallies s Given.Rejection
      → (is_among counted.rejected (instance_subject s) ≡ true) × (is_among counted.rejected (of_tx s.tx) ≡ true)
  pub accepted_by : (x : Subject) → is_among counted.accepted x ≡ true → (s : Subject) × (x ≡ instance_subject s) × Enough quorums counted.tallies s Given.Acceptance
  pub rejected_by : (x : Subject) → is_among counted.rejected x ≡ true
      → (s : Subject) × ((x ≡ instance_subject s) ⊎ (x ≡ of_tx s.tx)) × Enough quorums counted.tallies s Given.Rejection

-- ---- one vote more

given-same : (g h : Given) → given_eq g h ≡ true → g ≡ h
given-same Given.Acceptance Given.Acceptance e = refl
given-same Given.Rejection Given.Rejection e = refl
given-same Given.Nothing Given.Nothing e = refl
given-same Given.Acceptance Given.Rejection e = cc
given-same Given.Acceptance Given.Nothing e = cc
given-same Given.Rejection Given.Acceptance e = cc
given-same Given.Rejection Given.Nothing e = cc
given-same Given.Nothing Given.Acceptance e = cc
given-same Given.Nothing Given.Rejection e = cc

kept-passes : (test : Given → Bool) (o p : Option Given) → passes test o ≡ true → passes test (option_or o p) ≡ true
kept-passes test None p h = cc
kept-passes test (Some x) p h = h

module _ (quorums : Sizes) (counted : CountedVotes) (c : Cast) where
  abbrev next : SubjectTallies
  next = (count_one quorums counted c).tallies

  up : (s : Subject) (g : Given) → Enough quorums counted.tallies s g → Enough quorums next s g
  up s g h =
      let more : number_by quorums counted.tallies s g ≤ number_by quorums next s g =
      number-more (λ a. passes (given_eq g) (given_by (tally_at counted.tallies s) a)) (λ a. passes (given_eq g) (given_by (tally_at next s) a)) (all_centres quorums)
      (λ a e. ap (passes (given_eq g)) (given-one quorums counted c a s)
      ∙ kept-passes (given_eq g) (given_by (tally_at counted.tallies s) a) (cond (is_cast_of a s c) (Some c.given) None) e) in
      omega arith

  unchanged : (s : Subject) (g : Given) → (subject_eq s c.subject && given_eq g c.given) ≡ false → number_by quorums next s g ≡ number_by quorums counted.tallies s g
  unchanged s g other =
      number-same (λ a. passes (given_eq g) (given_by (tally_at next s) a)) (λ a. passes (given_eq g) (given_by (tally_at counted.tallies s) a)) (all_centres quorums)
      (λ a. ap (passes (given_eq g)) (given-one quorums counted c a s) ∙ no-more (c.centre == a) (subject_eq s c.subject) other (given_by (tally_at counted.tallies s) a))
    where
      no-more : (p q : Bool) → (q && given_eq g c.given) ≡ false → (o : Option Given)
          → passes (given_eq g) (option_or o (cond (p && q) (Some c.given) None)) ≡ passes (given_eq g) o
      no-more p q e (Some x) = refl
      no-more true true e None = e
      no-more true false e None = refl
      no-more false q e None = refl

  down : (s : Subject) (g : Given) → Enough quorums next s g → Enough quorums counted.tallies s g ⊎ ((s ≡ c.subject) × (g ≡ c.given))
  down s g h =
      elim (cases_Bool (subject_eq s c.subject && given_eq g c.given)) [
        | inl same ↦
            let parts : (subject_eq s c.subject ≡ true) × (given_eq g c.given ≡ true) = and_parts _ _ same in
            inr ((Decides-subject s c.subject).0 parts.0, given-same g c.given parts.1)
        | inr other ↦ inl (let same : number_by quorums next s g ≡ number_by quorums counted.tallies s g = unchanged s g other in omega arith)
      ]

  -- the votes with this one
  abbrev ts : SubjectTallies
  ts = tallied counted.tallies c.subject c.centre c.given

  up-ts : (s : Subject) (g : Given) → Enough quorums counted.tallies s g → Enough quorums ts s g
  up-ts s g h = subst (λ (z : SubjectTallies). Enough quorums z s g) (vote-tallies quorums counted c.centre c.subject c.given) (up s g h)

  down-ts : (s : Subject) (g : Given) → Enough quorums ts s g → Enough quorums counted.tallies s g ⊎ ((s ≡ c.subject) × (g ≡ c.given))
  down-ts s g h = down s g (subst (λ (z : SubjectTallies). Enough quorums z s g) (sym (vote-tallies quorums counted c.centre c.subject c.given)) h)

  other-given : {X : Type 0} (g h : Given) → c.given ≡ h → g ≡ c.given → given_eq g h ≡ false → X
  other-given g h is same apart = elim (false≢true (sym apart ∙ ap (given_eq g) (sym (same ∙ is)) ∙ itself g)) [ ]
    where
      itself : (g : Given) → given_eq g g ≡ true
      itself Given.Acceptance = refl
      itself Given.Rejection = refl
      itself Given.Nothing = refl

  module _ (old : Notes quorums counted) where
    accepted-old : (x : Subject) → is_among counted.accepted x ≡ true → (s : Subject) × (x ≡ instance_subject s) × Enough quorums ts s Given.Acceptance
    accepted-old x h = let k = old.accepted_by x h in (k.0, k.1, up-ts k.0 Given.Acceptance k.2)

    rejected-old : (x : Subject) → is_among counted.rejected x ≡ true
        → (s : Subject) × ((x ≡ instance_subject s) ⊎ (x ≡ of_tx s.tx)) × Enough quorums ts s Given.Rejection
    rejected-old x h = let k = old.rejected_by x h in (k.0, k.1, up-ts k.0 Given.Rejection k.2)

    -- no quorum gave it
    when-few : is_chosen quorums c.subject (tally_at ts c.subject) c.given ≡ false → Notes quorums (record counted { tallies = ts })
    when-few few = record {
      accepted = λ s h. old.accepted s (back s Given.Acceptance h);
      rejected = λ s h. old.rejected s (back s Given.Rejection h);
      accepted_by = accepted-old;
      rejected_by = rejected-old;
    }
      where
        back : (s : Subject) (g : Given) → Enough quorums ts s g → Enough quorums counted.tallies s g
        back s g h =
            elim (down-ts s g h) [
              | inl was ↦ was
              | inr same ↦ elim (false≢true (sym few ∙ enough-chosen quorums ts c.subject c.given
                  (subst (λ (z : Given). Enough quorums ts c.subject z) same.1 (subst (λ (z : Subject). Enough quorums ts z g) same.0 h)))) [ ]
            ]

    when-accepted : is_chosen quorums c.subject (tally_at ts c.subject) c.given ≡ true → c.given ≡ Given.Acceptance
        → Notes quorums (chosen_with (record counted { tallies = ts }) c.subject Given.Acceptance)
    when-accepted chosen is = record {
      accepted = accepted;
      rejected = λ s h. elim (down-ts s Given.Rejection h) [
        | inl was ↦ old.rejected s was
        | inr same ↦ other-given Given.Rejection Given.Acceptance is same.1 refl
      ];
      accepted_by = accepted_by;
      rejected_by = rejected-old;
    }
      where
        accepted : (s : Subject) → Enough quorums ts s Given.Acceptance → is_among (with_subject counted.accepted (instance_subject c.subject)) (instance_subject s) ≡ true
        accepted s h =
            elim (down-ts s Given.Acceptance h) [
              | inl was ↦ among-kept counted.accepted (instance_subject c.subject) (instance_subject s) (old.accepted s was)
              | inr same ↦ subst (λ (z : Subject). is_among (with_subject counted.accepted (instance_subject c.subject)) (instance_subject z) ≡ true) (sym same.0)
                  (among-new counted.accepted (instance_subject c.subject))
            ]

        accepted_by : (x : Subject) → is_among (with_subject counted.accepted (instance_subject c.subject)) x ≡ true
            → (s : Subject) × (x ≡ instance_subject s) × Enough quorums ts s Given.Acceptance
        accepted_by x h =
            elim (among-cases counted.accepted (instance_subject c.subject) x h) [
              | inl there ↦ accepted-old x there
              | inr here ↦ (c.subject, here, subst (λ (z : Given). Enough quorums ts c.subject z) is (chosen-enough quorums ts c.subject c.given chosen))
            ]

    when-rejected : is_chosen quorums c.subject (tally_at ts c.subject) c.given ≡ true → c.given ≡ Given.Rejection
        → Notes quorums (chosen_with (record counted { tallies = ts }) c.subject Given.Rejection)
    when-rejected chosen is = record {
      accepted = λ s h. elim (down-ts s Given.Acceptance h) [
        | inl was ↦ old.accepted s was
        | inr same ↦ other-given Given.Acceptance Given.Rejection is same.1 refl
      ];
      rejected = rejected;
      accepted_by = accepted-old;
      rejected_by = rejected_by;
    }
      where
        kept : (x : Subject) → is_among counted.rejected x ≡ true → is_among (with_subject (with_subject counted.rejected (instance_subject c.subject)) (of_tx c.subject.tx)) x ≡ true
        kept x h =
            among-kept (with_subject counted.rejected (instance_subject c.subject)) (of_tx c.subject.tx) x (among-kept counted.rejected (instance_subject c.subject) x h)

        rejected : (s : Subject) → Enough quorums ts s Given.Rejection
            → (is_among (with_subject (with_subject counted.rejected (instance_subject c.subject)) (of_tx c.subject.tx)) (instance_subject s) ≡ true)
            × (is_among (with_subject (with_subject counted.rejected (instance_subject c.subject)) (of_tx c.subject.tx)) (of_tx s.tx) ≡ true)
        rejected s h =
            elim (down-ts s Given.Rejection h) [
              | inl was ↦ (kept (instance_subject s) (old.rejected s was).0, kept (of_tx s.tx) (old.rejected s was).1)
              | inr same ↦ subst (λ (z : Subject). (is_among (with_subject (with_subject counted.rejected (instance_subject c.subject)) (of_tx c.subject.tx)) (instance_subject z) ≡ true)
                  × (is_among (with_subject (with_subject counted.rejected (instance_subject c.subject)) (of_tx c.subject.tx)) (of_tx z.tx) ≡ true)) (sym same.0) (
                    among-kept (with_subject counted.rejected (instance_subject c.subject)) (of_tx c.subject.tx) (instance_subject c.subject) (among-new counted.rejected (instance_subject c.subject)),
                    among-new (with_subject counted.rejected (instance_subject c.subject)) (of_tx c.subject.tx),
                  )
            ]

        enough : Enough quorums ts c.subject Given.Rejection
        enough = subst (λ (z : Given). Enough quorums ts c.subject z) is (chosen-enough quorums ts c.subject c.given chosen)

        rejected_by : (x : Subject) → is_among (with_subject (with_subject counted.rejected (instance_subject c.subject)) (of_tx c.subject.tx)) x ≡ true
            → (s : Subject) × ((x ≡ instance_subject s) ⊎ (x ≡ of_tx s.tx)) × Enough quorums ts s Given.Rejection
        rejected_by x h =
            elim (among-cases (with_subject counted.rejected (instance_subject c.subject)) (of_tx c.subject.tx) x h) [
              | inr whole ↦ (c.subject, inr whole, enough)
              | inl more ↦ elim (among-cases counted.rejected (instance_subject c.subject) x more) [
                | inl there ↦ rejected-old x there
                | inr here ↦ (c.subject, inl here, enough)
              ]
            ]

    when-nothing : c.given ≡ Given.Nothing → Notes quorums (record counted { tallies = ts })
    when-nothing is = record {
      accepted = λ s h. elim (down-ts s Given.Acceptance h) [
        | inl was ↦ old.accepted s was
        | inr same ↦ other-given Given.Acceptance Given.Nothing is same.1 refl
      ];
      rejected = λ s h. elim (down-ts s Given.Rejection h) [
        | inl was ↦ old.rejected s was
        | inr same ↦ other-given Given.Rejection Given.Nothing is same.1 refl
      ];
      accepted_by = accepted-old;
      rejected_by = rejected-old;
    }

    by_given : (b : Bool) → is_chosen quorums c.subject (tally_at ts c.subject) c.given ≡ b → (g : Given) → c.given ≡ g
        → Notes quorums (noted_if b (record counted { tallies = ts }) c.subject g)
    by_given false few g is = when-few few
    by_given true chosen Given.Acceptance is = when-accepted chosen is
    by_given true chosen Given.Rejection is = when-rejected chosen is
    by_given true chosen Given.Nothing is = when-nothing is

    notes-more : Notes quorums (count_one quorums counted c)
    notes-more = by_given (is_chosen quorums c.subject (tally_at ts c.subject) c.given) refl c.given refl

-- ---- all votes

notes-all : (quorums : Sizes) (counted : CountedVotes) (cs : List Cast) → Notes quorums counted → Notes quorums (fold (count_one quorums) counted cs)
notes-all quorums counted [] old = old
notes-all quorums counted (c ∷ cs) old = notes-all quorums (count_one quorums counted c) cs (notes-more quorums counted c old)

notes-nothing : (quorums : Sizes) → ((ballot : Ballot) → 0 < quorum_size quorums ballot) → Notes quorums nothing_counted
notes-nothing quorums some = record {
  accepted = λ s h. elim (none s Given.Acceptance h) [ ];
  rejected = λ s h. elim (none s Given.Rejection h) [ ];
  accepted_by = λ x h. elim (false≢true h) [ ];
  rejected_by = λ x h. elim (false≢true h) [ ];
}
  where
    none : (s : Subject) (g : Given) → Enough quorums [] s g → ⊥
    none s g h =
        let zero : number_by quorums [] s g ≡ 0 = number-none (λ a. passes (given_eq g) (given_by (tally_at [] s) a)) (all_centres quorums) (λ a. refl) in
        omega (arith, some s.ballot)

-- ---- by what each centre gave first

abbrev pub counted_of : Sizes → List Cast → CountedVotes
counted_of quorums cs = fold (count_one quorums) nothing_counted cs

-- a quorum at the option's ballot gave it first
abbrev pub Given-by : Sizes → List Cast → Subject → Given → Type 0
Given-by quorums cs s g = quorum_size quorums s.ballot ≤ number_of (λ a. passes (given_eq g) (first_cast cs a s)) (all_centres quorums)

module _ (quorums : Sizes) (some : (ballot : Ballot) → 0 < quorum_size quorums ballot) (cs : List Cast) where
  all-notes : Notes quorums (counted_of quorums cs)
  all-notes = notes-all quorums nothing_counted cs (notes-nothing quorums some)

  number-first : (s : Subject) (g : Given)
      → number_by quorums (counted_of quorums cs).tallies s g ≡ number_of (λ a. passes (given_eq g) (first_cast cs a s)) (all_centres quorums)
  number-first s g =
      number-same (λ a. passes (given_eq g) (given_by (tally_at (counted_of quorums cs).tallies s) a)) (λ a. passes (given_eq g) (first_cast cs a s)) (all_centres quorums)
      (λ a. ap (passes (given_eq g)) (given-first quorums nothing_counted cs a s))

  to-enough : (s : Subject) (g : Given) → Given-by quorums cs s g → Enough quorums (counted_of quorums cs).tallies s g
  to-enough s g h = let same = number-first s g in omega (arith, same)

  from-enough : (s : Subject) (g : Given) → Enough quorums (counted_of quorums cs).tallies s g → Given-by quorums cs s g
  from-enough s g h = let same = number-first s g in omega (arith, same)

  pub noted-accepted : (s : Subject) → Given-by quorums cs s Given.Acceptance → is_among (counted_of quorums cs).accepted (instance_subject s) ≡ true
  noted-accepted s h = all-notes.accepted s (to-enough s Given.Acceptance h)

  pub noted-rejected : (s : Subject) → Given-by quorums cs s Given.Rejection
      → (is_among (counted_of quorums cs).rejected (instance_subject s) ≡ true) × (is_among (counted_of quorums cs).rejected (of_tx s.tx) ≡ true)
  noted-rejected s h = all-notes.rejected s (to-enough s Given.Rejection h)

  pub accepted-noted : (x : Subject) → is_among (counted_of quorums cs).accepted x ≡ true → (s : Subject) × (x ≡ instance_subject s) × Given-by quorums cs s Given.Acceptance
  accepted-noted x h = let k = all-notes.accepted_by x h in (k.0, k.1, from-enough k.0 Given.Acceptance k.2)

  pub rejected-noted : (x : Subject) → is_among (counted_of quorums cs).rejected x ≡ true
      → (s : Subject) × ((x ≡ instance_subject s) ⊎ (x ≡ of_tx s.tx)) × Given-by quorums cs s Given.Rejection
  rejected-noted x h = let k = all-notes.rejected_by x h in (k.0, k.1, from-enough k.0 Given.Rejection k.2)
