-- Votes, promises and reports of one centre's facts.
use Rattle.std.proofs.Common.{◌≡◌, true, false, ◌&&◌, nat_le, List, [], ◌∷◌, ◌++◌, refl, sym, ◌∙◌, inl, inr, ◌⊎◌, Some, None}
use Rattle.std.proofs.lemmas.Bool.{cases_Bool, and_parts, le-leb, and_from, false≢true}
use Rattle.mdcc_base.specs.Ballot.{ballot_eq, ballot_lt}
use Rattle.mdcc_base.specs.Key.{key_eq}
use Rattle.mdcc_base.specs.TxId.{tx_eq}
use Rattle.mdcc_base.specs.declared.identifiers.Ballot.{Ballot}
use Rattle.mdcc_base.specs.declared.identifiers.TxId.{TxId}
use Rattle.mdcc_option.specs.declared.choices.Mark.{Mark}
use Rattle.mdcc_theorem_agreement.proofs.BallotOrder.{Below-cases, Below-irrefl, Below-trans}
use Rattle.mdcc_theorem_agreement.proofs.Ballots.{fast, Below}
use Rattle.mdcc_theorem_agreement.proofs.ReducedFacts.{ReducedFact, Booted, Floor, Promised, Voted, Heard, Adopted, greater, promised_by, promise, marks_at, votes, voted_by, voted_below, HasPromised}
use Rattle.mdcc_theorem_agreement.proofs.ReducedOptions.{Place, place_eq, mark_of}
use Rattle.mdcc_theorem_agreement.proofs.TestsDecide.{Decides-place, Decides-ballot_lt, Decides-key, Decides-ballot}

pub mark_of-append : (t : TxId) (x : Mark) (ps qs : List (TxId × Mark)) → mark_of t ps ≡ Some x → mark_of t (ps ++ qs) ≡ Some x
mark_of-append t x [] qs h = absurd (cc)
mark_of-append t x (p ∷ ps) qs h =
    elim (cases_Bool (tx_eq t p.0)) [
      | inl e ↦ let is : Some p.1 ≡ Some x = rw e at h in rw e is
      | inr e ↦ let more : mark_of t ps ≡ Some x = rw e at h in rw e (mark_of-append t x ps qs more)
    ]

pub mark_of-append_cases : (t : TxId) (x : Mark) (ps qs : List (TxId × Mark)) → mark_of t (ps ++ qs) ≡ Some x → (mark_of t ps ≡ Some x) ⊎ (mark_of t qs ≡ Some x)
mark_of-append_cases t x [] qs h = inr h
mark_of-append_cases t x (p ∷ ps) qs h =
    elim (cases_Bool (tx_eq t p.0)) [
      | inl e ↦ inl (let is : Some p.1 ≡ Some x = rw e at h in rw e is)
      | inr e ↦ let more : mark_of t (ps ++ qs) ≡ Some x = rw e at h in rw e (mark_of-append_cases t x ps qs more)
    ]

-- the greater of two
pub greater-left : (k m l : Ballot) → Below (greater k m) l → Below k l
greater-left k m l h =
    elim (cases_Bool (ballot_lt k m)) [
      | inl e ↦ let b : Below m l = rw e at h in Below-trans k m l ((Decides-ballot_lt k m).0 e) b
      | inr e ↦ let b : Below k l = rw e at h in b
    ]

pub not_below : (k m : Ballot) → ballot_lt k m ≡ false → Below k m → ⊥
not_below k m e h = false≢true (sym e ∙ (Decides-ballot_lt k m).1 h)

pub greater-right : (k m l : Ballot) → Below (greater k m) l → Below m l
greater-right k m l h =
    elim (cases_Bool (ballot_lt k m)) [
      | inl e ↦ let b : Below m l = rw e at h in b
      | inr e ↦ let b : Below k l = rw e at h in
          elim (Below-cases k m) [
            | inl below ↦ absurd (not_below k m e below)
            | inr rest ↦ elim rest [ inl same ↦ rw (← same) b | inr above ↦ Below-trans m k l above b ]
          ]
    ]

pub greater-cases : (k m : Ballot) → (greater k m ≡ k) ⊎ (greater k m ≡ m)
greater-cases k m = elim (cases_Bool (ballot_lt k m)) [ inl e ↦ inr (rw e refl) | inr e ↦ inl (rw e refl) ]

-- the promise is at least each that was made
pub promise-least : (fs : List ReducedFact) (i : Place) (m : Ballot) → HasPromised fs i m → Below (promise fs i) m → ⊥
promise-least [] i m h below = h
promise-least (Booted e ∷ fs) i m h below = promise-least fs i m h (greater-right fast (promise fs i) m below)
promise-least (Floor origin era upto ∷ fs) i m h below = promise-least fs i m h (greater-right fast (promise fs i) m below)
promise-least (Heard t o ∷ fs) i m h below = promise-least fs i m h (greater-right fast (promise fs i) m below)
promise-least (Adopted key version base deltas ∷ fs) i m h below = promise-least fs i m h (greater-right fast (promise fs i) m below)
promise-least (Voted j l marks ∷ fs) i m h below = promise-least fs i m h (greater-right (promised_by (Voted j l marks) i) (promise fs i) m below)
promise-least (Promised key low high l ∷ fs) i m h below =
    elim h [
      | inl here ↦
          let covers : (key_eq key i.key && (nat_le low i.version && nat_le i.version high)) ≡ true =
          and_from _ _ ((Decides-key key i.key).1 here.0) (and_from _ _ (le-leb _ _ here.1) (le-leb _ _ here.2)) in
          let by : promised_by (Promised key low high l) i ≡ m = rw covers here.3 in
          Below-irrefl m (rw by at (greater-left (promised_by (Promised key low high l) i) (promise fs i) m below))
      | inr there ↦ promise-least fs i m there (greater-right (promised_by (Promised key low high l) i) (promise fs i) m below)
    ]

-- a Voted fact at a ballot
abbrev pub HasVoted : List ReducedFact → Place → Ballot → Type 0
HasVoted [] i k = ⊥
HasVoted (Voted j l marks ∷ fs) i k = ((j ≡ i) × (l ≡ k)) ⊎ HasVoted fs i k
HasVoted (Booted e ∷ fs) i k = HasVoted fs i k
HasVoted (Floor origin era upto ∷ fs) i k = HasVoted fs i k
HasVoted (Promised key low high l ∷ fs) i k = HasVoted fs i k
HasVoted (Heard t o ∷ fs) i k = HasVoted fs i k
HasVoted (Adopted key version base deltas ∷ fs) i k = HasVoted fs i k

-- what one fact adds to the votes
pub marks_at-shows : (f : ReducedFact) (i : Place) (k : Ballot) (t : TxId) (x : Mark) → mark_of t (marks_at f i k) ≡ Some x →
    (marks : List (TxId × Mark)) × (f ≡ Voted i k marks) × (mark_of t marks ≡ Some x)
marks_at-shows (Booted e) i k t x h = absurd (cc)
marks_at-shows (Floor origin era upto) i k t x h = absurd (cc)
marks_at-shows (Promised key low high l) i k t x h = absurd (cc)
marks_at-shows (Heard u o) i k t x h = absurd (cc)
marks_at-shows (Adopted key version base deltas) i k t x h = absurd (cc)
marks_at-shows (Voted j l marks) i k t x h =
    elim (cases_Bool (place_eq j i && ballot_eq l k)) [
      | inl e ↦
          let parts : (place_eq j i ≡ true) × (ballot_eq l k ≡ true) = and_parts _ _ e in
          let first : j ≡ i = (Decides-place j i).0 parts.0 in
          let second : l ≡ k = (Decides-ballot l k).0 parts.1 in
          (marks, cc, rw e at h)
      | inr e ↦ let none : None ≡ Some x = rw e at h in absurd (cc)
    ]

pub votes-more : (f : ReducedFact) (fs : List ReducedFact) (i : Place) (k : Ballot) (t : TxId) (x : Mark) → mark_of t (votes fs i k) ≡ Some x → mark_of t (votes (f ∷ fs) i k) ≡ Some x
votes-more f fs i k t x h = mark_of-append t x (votes fs i k) (marks_at f i k) h

pub votes-cases : (f : ReducedFact) (fs : List ReducedFact) (i : Place) (k : Ballot) (t : TxId) (x : Mark) → mark_of t (votes (f ∷ fs) i k) ≡ Some x →
    (mark_of t (votes fs i k) ≡ Some x) ⊎ ((marks : List (TxId × Mark)) × (f ≡ Voted i k marks) × (mark_of t marks ≡ Some x))
votes-cases f fs i k t x h =
    elim (mark_of-append_cases t x (votes fs i k) (marks_at f i k) h) [ inl a ↦ inl a | inr b ↦ inr (marks_at-shows f i k t x b) ]

pub HasVoted-cases : (f : ReducedFact) (fs : List ReducedFact) (i : Place) (k : Ballot) → HasVoted (f ∷ fs) i k →
    ((marks : List (TxId × Mark)) × (f ≡ Voted i k marks)) ⊎ HasVoted fs i k
HasVoted-cases (Booted e) fs i k h = inr h
HasVoted-cases (Floor origin era upto) fs i k h = inr h
HasVoted-cases (Promised key low high l) fs i k h = inr h
HasVoted-cases (Heard t o) fs i k h = inr h
HasVoted-cases (Adopted key version base deltas) fs i k h = inr h
HasVoted-cases (Voted j l marks) fs i k h = elim h [ inl here ↦ (let first : j ≡ i = here.0 in let second : l ≡ k = here.1 in inl (marks, cc)) | inr there ↦ inr there ]

HasVoted-more : (f : ReducedFact) (fs : List ReducedFact) (i : Place) (k : Ballot) → HasVoted fs i k → HasVoted (f ∷ fs) i k
HasVoted-more (Booted e) fs i k h = h
HasVoted-more (Floor origin era upto) fs i k h = h
HasVoted-more (Promised key low high l) fs i k h = h
HasVoted-more (Heard t o) fs i k h = h
HasVoted-more (Adopted key version base deltas) fs i k h = h
HasVoted-more (Voted j l marks) fs i k h = inr h

pub HasPromised-more : (f : ReducedFact) (fs : List ReducedFact) (i : Place) (m : Ballot) → HasPromised fs i m → HasPromised (f ∷ fs) i m
HasPromised-more (Booted e) fs i k h = h
HasPromised-more (Floor origin era upto) fs i k h = h
HasPromised-more (Promised key low high l) fs i k h = inr h
HasPromised-more (Heard t o) fs i k h = h
HasPromised-more (Adopted key version base deltas) fs i k h = h
HasPromised-more (Voted j l marks) fs i k h = h

voted_by-there : (f : ReducedFact) (fs : List ReducedFact) (i : Place) (m k : Ballot) → voted_by f i m ≡ k → (k ≡ fast) ⊎ HasVoted (f ∷ fs) i k
voted_by-there (Booted e) fs i m k h = inl (sym h)
voted_by-there (Floor origin era upto) fs i m k h = inl (sym h)
voted_by-there (Promised key low high l) fs i m k h = inl (sym h)
voted_by-there (Heard t o) fs i m k h = inl (sym h)
voted_by-there (Adopted key version base deltas) fs i m k h = inl (sym h)
voted_by-there (Voted j l marks) fs i m k h =
    elim (cases_Bool (place_eq j i && ballot_lt l m)) [
      | inl e ↦ inr (inl ((Decides-place j i).0 (and_parts _ _ e).0, rw e at h))
      | inr e ↦ inl (sym (rw e at h))
    ]

-- the greatest ballot of a vote below m is one of those, or the fast one
pub voted_below-there : (fs : List ReducedFact) (i : Place) (m k : Ballot) → voted_below fs i m ≡ k → (k ≡ fast) ⊎ HasVoted fs i k
voted_below-there [] i m k h = inl (sym h)
voted_below-there (f ∷ fs) i m k h =
    elim (greater-cases (voted_by f i m) (voted_below fs i m)) [
      | inl here ↦ voted_by-there f fs i m k (sym here ∙ h)
      | inr there ↦ elim (voted_below-there fs i m k (sym there ∙ h)) [ inl is_fast ↦ inl is_fast | inr voted ↦ inr (HasVoted-more f fs i k voted) ]
    ]

voted_by-vote : (f : ReducedFact) (i : Place) (k m : Ballot) (marks : List (TxId × Mark)) → f ≡ Voted i k marks → Below k m → voted_by f i m ≡ k
voted_by-vote f i k m marks is below =
    let at_place : place_eq i i ≡ true = (Decides-place i i).1 refl in
    let under : ballot_lt k m ≡ true = (Decides-ballot_lt k m).1 below in
    let tests : (place_eq i i && ballot_lt k m) ≡ true = and_from _ _ at_place under in
    let value : voted_by (Voted i k marks) i m ≡ k = rw tests refl in
    rw is value

-- no vote below m stands above it
pub voted_below-most : (fs : List ReducedFact) (i : Place) (k m : Ballot) (t : TxId) (x : Mark) → mark_of t (votes fs i k) ≡ Some x → Below k m → Below (voted_below fs i m) k → ⊥
voted_below-most [] i k m t x h below over = cc
voted_below-most (f ∷ fs) i k m t x h below over =
    elim (votes-cases f fs i k t x h) [
      | inl before ↦ voted_below-most fs i k m t x before below (greater-right (voted_by f i m) (voted_below fs i m) k over)
      | inr here ↦
          let by : voted_by f i m ≡ k = voted_by-vote f i k m here.0 here.1 below in
          Below-irrefl k (rw by at (greater-left (voted_by f i m) (voted_below fs i m) k over))
    ]

-- a mark among the votes stands in a Voted fact
pub HasVoted-mark : (fs : List ReducedFact) (i : Place) (k : Ballot) (t : TxId) (x : Mark) → mark_of t (votes fs i k) ≡ Some x → HasVoted fs i k
HasVoted-mark [] i k t x h = absurd (cc)
HasVoted-mark (f ∷ fs) i k t x h =
    elim (votes-cases f fs i k t x h) [
      | inl before ↦ HasVoted-more f fs i k (HasVoted-mark fs i k t x before)
      | inr here ↦ rw here.1 (inl (refl, refl))
    ]
