-- The structures of one ballot extend one another, and the votes of a centre there are one of them.
use Rattle.std.proofs.Common.{◌≡◌, ℕ, ◌==◌, true, ◌&&◌, List, [], ◌∷◌, ◌++◌, refl, sym, ap, ◌∙◌, subst, inl, inr, ◌⊎◌, Some, None}
use Rattle.std.proofs.lemmas.Bool.{cases_Bool, and_parts, and_from, eqb-true, false≢true}
use Rattle.mdcc_base.specs.Ballot.{ballot_eq}
use Rattle.mdcc_base.specs.declared.identifiers.Ballot.{Ballot}
use Rattle.mdcc_base.specs.declared.identifiers.TxId.{TxId}
use Rattle.mdcc_option.specs.declared.choices.Mark.{Mark}
use Rattle.mdcc_theorem_agreement.proofs.Ballots.{fast, Below}
use Rattle.mdcc_theorem_agreement.proofs.LedgersGrow.{Grown-extends, unfinished-before}
use Rattle.mdcc_theorem_agreement.proofs.Setups.{Setup}
use Rattle.mdcc_theorem_agreement.proofs.ReducedFacts.{ReducedFact, Booted, Floor, Promised, Voted, Heard, Adopted, marks_at, votes}
use Rattle.mdcc_theorem_agreement.proofs.ReducedLedger.{Entry, Happened, Begun, Valued, facts_of, WasSent, last_sent, IsBacked, MayVote, MayHappen, Allowed}
use Rattle.mdcc_theorem_agreement.proofs.ReducedOptions.{Place, place_eq, Extends}
use Rattle.mdcc_theorem_agreement.proofs.TestsDecide.{Decides-place, Decides-ballot}
use Rattle.mdcc_theorem_agreement.proofs.VotesOfFacts.{HasVoted, HasVoted-cases}

pub sent-last : (es : List Entry) (i : Place) (m : Ballot) (marks : List (TxId × Mark)) → WasSent es i m marks → last_sent es i m ≡ None → ⊥
sent-last [] i m marks h none = h
sent-last (Happened b f ∷ es) i m marks h none = sent-last es i m marks h none
sent-last (Begun b t cs ∷ es) i m marks h none = sent-last es i m marks h none
sent-last (Valued b j l sent ∷ es) i m marks h none =
    elim (cases_Bool (place_eq j i && ballot_eq l m)) [
      | inl e ↦ let is : Some sent ≡ None = rw e at none in cc
      | inr e ↦ elim h [
        | inl here ↦ false≢true (sym e ∙ and_from _ _ ((Decides-place j i).1 here.0) ((Decides-ballot l m).1 here.1))
        | inr there ↦ sent-last es i m marks there (rw e at none)
      ]
    ]

-- the last structure of a ballot extends each that was sent there
pub chain : (s : Setup) (es : List Entry) (i : Place) (m : Ballot) (last marks : List (TxId × Mark)) → Allowed s es →
    last_sent es i m ≡ Some last → WasSent es i m marks → Extends last marks
chain s [] i m last marks allowed is h = absurd h
chain s (Happened b f ∷ es) i m last marks allowed is h = chain s es i m last marks allowed.0 is h
chain s (Begun b t cs ∷ es) i m last marks allowed is h = chain s es i m last marks allowed.0 is h
chain s (Valued b j l sent ∷ es) i m last marks allowed is h =
    elim (cases_Bool (place_eq j i && ballot_eq l m)) [
      | inl e ↦
          let parts : (place_eq j i ≡ true) × (ballot_eq l m ≡ true) = and_parts _ _ e in
          let place : j ≡ i = (Decides-place j i).0 parts.0 in
          let ballot : l ≡ m = (Decides-ballot l m).0 parts.1 in
          let some : Some sent ≡ Some last = rw e at is in
          let now : sent ≡ last = cc in
          elim h [
            | inl here ↦ let same : marks ≡ last = sym here.2 ∙ now in (λ t x g. rw (← same) g)
            | inr there ↦ elim allowed.1.1 [
              | inl first ↦ absurd (sent-last es i m marks there (rw (← place, ← ballot) first.none))
              | inr next ↦
                  let older : Extends next.last marks = chain s es i m next.last marks allowed.0 (rw (← place, ← ballot) next.is_last) there in
                  (λ t x g. rw (← now) (Grown-extends s es b j next.last next.steps sent next.grown t x (older t x g)))
            ]
          ]
      | inr e ↦ elim h [
        | inl here ↦ absurd (false≢true (sym e ∙ and_from _ _ ((Decides-place j i).1 here.0) ((Decides-ballot l m).1 here.1)))
        | inr there ↦ chain s es i m last marks allowed.0 (rw e at is) there
      ]
    ]

-- a fact is a vote at a ballot, or adds nothing there
pub marks_at-cases : (f : ReducedFact) (i : Place) (k : Ballot) → ((marks : List (TxId × Mark)) × (f ≡ Voted i k marks)) ⊎ (marks_at f i k ≡ [])
marks_at-cases (Booted e) i k = inr refl
marks_at-cases (Floor origin era upto) i k = inr refl
marks_at-cases (Promised key low high l) i k = inr refl
marks_at-cases (Heard t o) i k = inr refl
marks_at-cases (Adopted key version base deltas) i k = inr refl
marks_at-cases (Voted j l marks) i k =
    elim (cases_Bool (place_eq j i && ballot_eq l k)) [
      | inl e ↦
          let parts : (place_eq j i ≡ true) × (ballot_eq l k ≡ true) = and_parts _ _ e in
          let place : j ≡ i = (Decides-place j i).0 parts.0 in
          let ballot : l ≡ k = (Decides-ballot l k).0 parts.1 in
          inl (marks, cc)
      | inr e ↦ inr (rw e refl)
    ]

pub append-none : {A : Type 0} (xs : List A) → xs ++ [] ≡ xs
append-none [] = refl
append-none (x ∷ xs) = ap (λ z. x ∷ z) (append-none xs)

-- where the newest fact is a vote there
backed_here : (s : Setup) (es : List Entry) (b a : ℕ) (f : ReducedFact) (fs : List ReducedFact) (i : Place) (k : Ballot) (marks : List (TxId × Mark)) →
    f ≡ Voted i k marks → fs ≡ facts_of b es → Below fast k → MayVote s es b i k marks → IsBacked es (f ∷ fs) i k
backed_here s es b a f fs i k marks fact facts classic may =
    let h : IsBacked es (Voted i k marks ∷ facts_of b es) i k = may.backed classic in
    record { marks = h.marks; sent = h.sent; within = λ t x g. h.within t x (rw (fact, facts) at g); whole = λ t x fresh g. rw (fact, facts) (h.whole t x (rw (fact, facts) at fresh) g) }

-- the votes of a centre at a classic ballot are a structure that was sent
pub backed : (s : Setup) (es : List Entry) (a : ℕ) (i : Place) (k : Ballot) →
    Below fast k → Allowed s es → HasVoted (facts_of a es) i k → IsBacked es (facts_of a es) i k
backed s [] a i k classic allowed vote = absurd vote
backed s (Begun b t cs ∷ es) a i k classic allowed vote =
    let h : IsBacked es (facts_of a es) i k = backed s es a i k classic allowed.0 vote in
    record { marks = h.marks; sent = h.sent; within = h.within; whole = h.whole }
backed s (Valued b j l marks ∷ es) a i k classic allowed vote =
    let h : IsBacked es (facts_of a es) i k = backed s es a i k classic allowed.0 vote in
    record { marks = h.marks; sent = inr h.sent; within = h.within; whole = h.whole }
backed s (Happened b f ∷ es) a i k classic allowed vote =
    elim (cases_Bool (b == a)) [
      | inl e ↦
          let now : (here : (marks : List (TxId × Mark)) × (f ≡ Voted i k marks)) → IsBacked es (f ∷ facts_of a es) i k =
          λ here. backed_here s es b a f (facts_of a es) i k here.0 here.1 (ap (λ z. facts_of z es) (sym (eqb-true b a e))) classic
          (subst (MayHappen s es b) here.1 allowed.1) in
          rw e (elim (marks_at-cases f i k) [
            | inl here ↦ (let h : IsBacked es (f ∷ facts_of a es) i k = now here in record { marks = h.marks; sent = h.sent; within = h.within; whole = h.whole })
            | inr other ↦ elim (HasVoted-cases f (facts_of a es) i k (rw e at vote)) [
              | inl here ↦ (let h : IsBacked es (f ∷ facts_of a es) i k = now here in record { marks = h.marks; sent = h.sent; within = h.within; whole = h.whole })
              | inr before ↦
                  let h : IsBacked es (facts_of a es) i k = backed s es a i k classic allowed.0 before in
                  record { marks = h.marks; sent = h.sent; within = λ t x g. h.within t x (rw (other, append-none (votes (facts_of a es) i k)) at g); whole = λ t x fresh g. rw (other, append-none (votes (facts_of a es) i k)) (h.whole t x (unfinished-before f (facts_of a es) t fresh) g) }
            ]
          ])
      | inr e ↦ rw e (let h : IsBacked es (facts_of a es) i k = backed s es a i k classic allowed.0 (rw e at vote) in
          record { marks = h.marks; sent = h.sent; within = h.within; whole = h.whole })
    ]
