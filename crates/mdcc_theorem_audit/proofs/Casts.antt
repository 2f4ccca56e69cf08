-- The votes of facts, one after another: of an option at a ballot, what each centre gave first is kept.
use Rattle.std.proofs.Common.{◌≡◌, ℕ, Bool, List, [], ◌∷◌, ◌++◌, ◌==◌, ◌&&◌, None, Option, Some, cond, false, true, inl, inr, refl, sym, ap, ◌∙◌, fold, map}
use Rattle.std.proofs.lemmas.Bool.{cases_Bool, eqb-true, false≢true}
use Rattle.std.proofs.lemmas.List.Sums.{fold-append}
use Rattle.std.specs.Map.{lookup}
use Rattle.std.specs.Option.{option_or}
use Rattle.std.specs.Prelude.{flat_map}
use Rattle.indexmap.specs.IndexMap.{insert_entry}
use Rattle.mdcc_base.specs.Sizes.{Sizes}
use Rattle.mdcc_base.specs.declared.identifiers.Ballot.{Ballot}
use Rattle.mdcc_base.specs.declared.identifiers.TxId.{TxId}
use Rattle.mdcc_base.specs.declared.key.Key.{Key}
use Rattle.mdcc_option.specs.declared.choices.Mark.{Mark}
use Rattle.mdcc_def_messages.specs.declared.facts.Fact.{Fact}
use Rattle.mdcc_audit.proofs.Tests.{Decides-subject}
use Rattle.mdcc_audit.specs.Auditing.{Placed, State, after_fact, fact_taken}
use Rattle.mdcc_audit.specs.Subjects.{in_vote, subject_eq}
use Rattle.mdcc_audit.specs.Votes.{CountedVotes, SubjectTallies, SubjectTally, given_by, given_of, is_chosen, noted_if, tallied, tally_at, vote, with_given}
use Rattle.mdcc_audit.specs.declared.subjects.Subject.{Subject}
use Rattle.mdcc_audit.specs.declared.votes.Given.{Given}

-- what a centre gives an option at a ballot
pub record Cast : Type 0 where
  pub centre : ℕ
  pub subject : Subject
  pub given : Given

abbrev pub cast_in : ℕ → Key → ℕ → Ballot → TxId × Mark → Cast
cast_in a key version ballot e = record { centre = a; subject = in_vote e.0 key version ballot; given = given_of e.0 key version e.1 }

abbrev pub casts_in : Placed → List Cast
casts_in (place, Fact.Voted key version ballot options offered) = map (cast_in place.centre key version ballot) options
casts_in (place, fact) = []

abbrev pub count_one : Sizes → CountedVotes → Cast → CountedVotes
count_one quorums counted c = vote quorums counted c.centre c.subject c.given

-- ---- an audit counts them in turn

mapped-fold : {X Y Z : Type 0} (f : Z → Y → Z) (g : X → Y) (z : Z) (xs : List X) → fold (λ z x. f z (g x)) z xs ≡ fold f z (map g xs)
mapped-fold f g z [] = refl
mapped-fold f g z (x ∷ xs) = mapped-fold f g (f z (g x)) xs

pub all-counted : (quorums : Sizes) (state : State) (facts : List Placed)
    → (fold (fact_taken quorums) state facts).counted ≡ fold (count_one quorums) state.counted (flat_map casts_in facts)
all-counted quorums state [] = refl
all-counted quorums state ((place, Fact.Voted key version ballot options offered) ∷ facts) =
    all-counted quorums (after_fact quorums state place (Fact.Voted key version ballot options offered)) facts
    ∙ ap (λ counted. fold (count_one quorums) counted (flat_map casts_in facts))
    (mapped-fold (count_one quorums) (cast_in place.centre key version ballot) state.counted options)
    ∙ sym (fold-append (count_one quorums) state.counted (casts_in (place, Fact.Voted key version ballot options offered)) (flat_map casts_in facts))
all-counted quorums state ((place, Fact.Heard tx outcome) ∷ facts) = all-counted quorums (after_fact quorums state place (Fact.Heard tx outcome)) facts
all-counted quorums state ((place, Fact.Booted epoch) ∷ facts) = all-counted quorums state facts
all-counted quorums state ((place, Fact.Floor centre era seq) ∷ facts) = all-counted quorums state facts
all-counted quorums state ((place, Fact.Promised key low high ballot) ∷ facts) = all-counted quorums state facts
all-counted quorums state ((place, Fact.Adopted key version item adds) ∷ facts) = all-counted quorums state facts

-- ---- one vote more

noted-tallies : (b : Bool) (counted : CountedVotes) (s : Subject) (g : Given) → (noted_if b counted s g).tallies ≡ counted.tallies
noted-tallies false counted s g = refl
noted-tallies true counted s Given.Acceptance = refl
noted-tallies true counted s Given.Rejection = refl
noted-tallies true counted s Given.Nothing = refl

pub vote-tallies : (quorums : Sizes) (counted : CountedVotes) (a : ℕ) (s : Subject) (g : Given) → (vote quorums counted a s g).tallies ≡ tallied counted.tallies s a g
vote-tallies quorums counted a s g =
    noted-tallies (is_chosen quorums s (tally_at (tallied counted.tallies s a g) s) g) (record counted { tallies = tallied counted.tallies s a g }) s g

looked-insert : {X : Type 0} (table : List (Subject × X)) (s t : Subject) (x : X)
    → lookup (subject_eq t) (insert_entry subject_eq table s x) ≡ cond (subject_eq t s) (Some x) (lookup (subject_eq t) table)
looked-insert [] s t x = refl
looked-insert (e ∷ es) s t x =
    let ih = looked-insert es s t x in
    elim (cases_Bool (subject_eq s e.0)) [
      | inl same ↦
          let is : s ≡ e.0 = (Decides-subject s e.0).0 same in
          elim (cases_Bool (subject_eq t s)) [
            | inl at ↦ (let there : subject_eq t e.0 ≡ true = ap (subject_eq t) (sym is) ∙ at in rw (same, at, there) refl)
            | inr off ↦ (let there : subject_eq t e.0 ≡ false = ap (subject_eq t) (sym is) ∙ off in rw (same, off, there) refl)
          ]
      | inr other ↦ elim (cases_Bool (subject_eq t e.0)) [
        | inl at ↦
            let is : t ≡ e.0 = (Decides-subject t e.0).0 at in
            let off : subject_eq t s ≡ false = elim (cases_Bool (subject_eq t s)) [
              | inl same ↦ elim (false≢true (sym other ∙ (Decides-subject s e.0).1 (sym ((Decides-subject t s).0 same) ∙ is))) [ ]
              | inr off ↦ off
            ] in
            rw (other, at, off) refl
        | inr off ↦ rw (other, off) ih
      ]
    ]

pub tallied-at : (tallies : SubjectTallies) (s t : Subject) (a : ℕ) (g : Given)
    → tally_at (tallied tallies s a g) t ≡ cond (subject_eq t s) (with_given (tally_at tallies s) a g) (tally_at tallies t)
tallied-at tallies s t a g =
    elim (cases_Bool (subject_eq t s)) [
      | inl at ↦ rw (looked-insert tallies s t (with_given (tally_at tallies s) a g), at) refl
      | inr off ↦ rw (looked-insert tallies s t (with_given (tally_at tallies s) a g), off) refl
    ]

-- what a centre gave first, and then this
given-last : (tally : SubjectTally) (a b : ℕ) (g : Given) → given_by (tally ++ (a, g) ∷ []) b ≡ option_or (given_by tally b) (cond (a == b) (Some g) None)
given-last [] a b g = refl
given-last (e ∷ es) a b g =
    elim (cases_Bool (e.0 == b)) [
      | inl at ↦ rw at refl
      | inr off ↦ rw off (given-last es a b g)
    ]

pub given-with : (tally : SubjectTally) (a b : ℕ) (g : Given) → given_by (with_given tally a g) b ≡ option_or (given_by tally b) (cond (a == b) (Some g) None)
given-with tally a b g = by_first (given_by tally a) refl
  where
    by_first : (found : Option Given) → given_by tally a ≡ found → given_by (with_given tally a g) b ≡ option_or (given_by tally b) (cond (a == b) (Some g) None)
    by_first None none = rw none (given-last tally a b g)
    by_first (Some was) some =
        elim (cases_Bool (a == b)) [
          | inl at ↦ (let there : given_by tally b ≡ Some was = ap (given_by tally) (sym (eqb-true a b at)) ∙ some in rw (some, at, there) refl)
          | inr off ↦ rw (some, off) (or-none (given_by tally b))
        ]
      where
        or-none : (o : Option Given) → o ≡ option_or o None
        or-none None = refl
        or-none (Some x) = refl

-- ---- what each centre gave first

abbrev pub is_cast_of : ℕ → Subject → Cast → Bool
is_cast_of a s c = (c.centre == a) && subject_eq s c.subject

abbrev pub first_cast : List Cast → ℕ → Subject → Option Given
first_cast [] a s = None
first_cast (c ∷ cs) a s = cond (is_cast_of a s c) (Some c.given) (first_cast cs a s)

or-of : (o p q : Option Given) → option_or (option_or o p) q ≡ option_or o (option_or p q)
or-of None p q = refl
or-of (Some x) p q = refl

one-more : (b : Bool) (g : Given) (rest : Option Given) → option_or (cond b (Some g) None) rest ≡ cond b (Some g) rest
one-more true g rest = refl
one-more false g rest = refl

pub given-one : (quorums : Sizes) (counted : CountedVotes) (c : Cast) (a : ℕ) (s : Subject)
    → given_by (tally_at (count_one quorums counted c).tallies s) a ≡ option_or (given_by (tally_at counted.tallies s) a) (cond (is_cast_of a s c) (Some c.given) None)
given-one quorums counted c a s =
    ap (λ tallies. given_by (tally_at tallies s) a) (vote-tallies quorums counted c.centre c.subject c.given)
    ∙ ap (λ tally. given_by tally a) (tallied-at counted.tallies c.subject s c.centre c.given)
    ∙ by_subject (subject_eq s c.subject) refl
  where
    or-none : (o : Option Given) → o ≡ option_or o None
    or-none None = refl
    or-none (Some x) = refl

    by_subject : (b : Bool) → subject_eq s c.subject ≡ b
        → given_by (cond b (with_given (tally_at counted.tallies c.subject) c.centre c.given) (tally_at counted.tallies s)) a
        ≡ option_or (given_by (tally_at counted.tallies s) a) (cond ((c.centre == a) && subject_eq s c.subject) (Some c.given) None)
    by_subject true at =
        let is : s ≡ c.subject = (Decides-subject s c.subject).0 at in
        given-with (tally_at counted.tallies c.subject) c.centre a c.given
        ∙ ap (λ (z : Subject). option_or (given_by (tally_at counted.tallies z) a) (cond (c.centre == a) (Some c.given) None)) (sym is)
        ∙ ap (λ b. option_or (given_by (tally_at counted.tallies s) a) (cond b (Some c.given) None)) (with-true (c.centre == a) (subject_eq s c.subject) at)
      where
        with-true : (p q : Bool) → q ≡ true → p ≡ (p && q)
        with-true true q e = sym e
        with-true false q e = refl
    by_subject false off =
        or-none (given_by (tally_at counted.tallies s) a)
        ∙ ap (λ b. option_or (given_by (tally_at counted.tallies s) a) (cond b (Some c.given) None)) (with-false (c.centre == a) (subject_eq s c.subject) off)
      where
        with-false : (p q : Bool) → q ≡ false → false ≡ (p && q)
        with-false true q e = sym e
        with-false false q e = refl

pub given-first : (quorums : Sizes) (counted : CountedVotes) (cs : List Cast) (a : ℕ) (s : Subject)
    → given_by (tally_at (fold (count_one quorums) counted cs).tallies s) a ≡ option_or (given_by (tally_at counted.tallies s) a) (first_cast cs a s)
given-first quorums counted [] a s = or-none (given_by (tally_at counted.tallies s) a)
  where
    or-none : (o : Option Given) → o ≡ option_or o None
    or-none None = refl
    or-none (Some x) = refl
given-first quorums counted (c ∷ cs) a s =
    given-first quorums (count_one quorums counted c) cs a s
    ∙ ap (λ o. option_or o (first_cast cs a s)) (given-one quorums counted c a s)
    ∙ or-of (given_by (tally_at counted.tallies s) a) (cond (is_cast_of a s c) (Some c.given) None) (first_cast cs a s)
    ∙ ap (option_or (given_by (tally_at counted.tallies s) a)) (one-more (is_cast_of a s c) c.given (first_cast cs a s))
