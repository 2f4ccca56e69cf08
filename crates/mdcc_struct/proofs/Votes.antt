-- What votes at a classic ballot force.
use Rattle.std.proofs.Common.{◌≡◌, ℕ, suc, zero, ◌<◌, Bool, true, false, cond, List, [], ◌∷◌, length, get_or, refl, sym, ap, ◌∙◌, arith, inl, inr, Some}
use Rattle.std.specs.Prelude.{Contains}
use Rattle.std.specs.List.{filter}
use Rattle.std.proofs.lemmas.Bool.{cases_Bool}
use Rattle.std.proofs.lemmas.Bool.Decides.{nat_tests}
use Rattle.mdcc_base.specs.declared.identifiers.Ballot.{Ballot}
use Rattle.mdcc_base.specs.declared.identifiers.TxId.{TxId}
use Rattle.mdcc_base.specs.Ballot.{ballot_eq, is_fast}
use Rattle.mdcc_base.specs.Sizes.{Sizes}
use Rattle.mdcc_option.specs.declared.choices.Mark.{Mark}
use Rattle.mdcc_struct.specs.declared.report.Report.{Report}
use Rattle.mdcc_struct.specs.Forced.{ballot_reported, marks_reported_at, forced_of}
use Rattle.mdcc_struct.specs.Maps.{value_of}
use Rattle.mdcc_struct.specs.Voted.{IsVoted, VotesAgree}
use Rattle.mdcc_struct.proofs.Reports.{cases_Option, first_mark, value_of-reported}

pub ballot_eq-same : (a b : Ballot) → ballot_eq a b ≡ true → a ≡ b
ballot_eq-same a b h = grind (arith, nat_tests)

pub ballot_eq-refl : (a : Ballot) → ballot_eq a a ≡ true
ballot_eq-refl a = grind (arith, nat_tests)

-- a report that passes a test and has the mark
abbrev pub HasVote : (Report → Bool) → List Report → TxId → Mark → Type 0
HasVote p rs tx x = (r : Report) × Contains rs r × (p r ≡ true) × (value_of r.votes tx ≡ Some x)

HasVote-more : (p : Report → Bool) (q : Report) (rs : List Report) (tx : TxId) (x : Mark) → HasVote p rs tx x → HasVote p (q ∷ rs) tx x
HasVote-more p q rs tx x h = (h.0, (suc h.1.0, omega arith, h.1.2), h.2, h.3)

pub first_mark-shows : (p : Report → Bool) (rs : List Report) (tx : TxId) (x : Mark) → first_mark (filter p rs) tx ≡ Some x → HasVote p rs tx x
first_mark-shows p [] tx x h = absurd (cc)
first_mark-shows p (r ∷ rs) tx x h =
    elim (cases_Bool (p r)) [
      | inl passes ↦ elim (cases_Option (value_of r.votes tx)) [
        | inl none ↦
            let rest : first_mark (filter p rs) tx ≡ Some x = rw (passes, none) at h in
            HasVote-more p r rs tx x (first_mark-shows p rs tx x rest)
        | inr some ↦
            let is : Some some.0 ≡ Some x = rw (passes, some.1) at h in
            (r, (0, omega arith, refl), passes, some.1 ∙ is)
      ]
      | inr fails ↦
          let rest : first_mark (filter p rs) tx ≡ Some x = rw fails at h in
          HasVote-more p r rs tx x (first_mark-shows p rs tx x rest)
    ]

pub first_mark-there : (p : Report → Bool) (rs : List Report) (tx : TxId) (x : Mark) (r : Report) (k : ℕ) → k < length rs → get_or rs k r ≡ r
    → p r ≡ true → value_of r.votes tx ≡ Some x → (y : Mark) × (first_mark (filter p rs) tx ≡ Some y)
first_mark-there p [] tx x r k within is passes at = absurd (omega arith)
first_mark-there p (q ∷ rs) tx x r zero within is passes at =
    let here : p q ≡ true = ap p is ∙ passes in
    let value : value_of q.votes tx ≡ Some x = ap (λ (z : Report). value_of z.votes tx) is ∙ at in
    (x, rw (here, value) refl)
first_mark-there p (q ∷ rs) tx x r (suc k) within is passes at =
    let rest : (y : Mark) × (first_mark (filter p rs) tx ≡ Some y) = first_mark-there p rs tx x r k (omega arith) is passes at in
    elim (cases_Bool (p q)) [
      | inl keeps ↦ elim (cases_Option (value_of q.votes tx)) [
        | inl none ↦ (rest.0, rw (keeps, none) rest.1)
        | inr some ↦ (some.0, rw (keeps, some.1) refl)
      ]
      | inr leaves ↦ (rest.0, rw leaves rest.1)
    ]

abbrev at_greatest : List Report → Report → Bool
at_greatest reports r = ballot_eq r.ballot (ballot_reported reports)

when_classic : {X : Type 0} (b : Bool) (x y : X) → b ≡ false → cond b x y ≡ y
when_classic b x y h = rw h refl

forced_at : (sizes : Sizes) (reports : List Report) → is_fast (ballot_reported reports) ≡ false → (tx : TxId)
    → value_of (forced_of sizes reports) tx ≡ first_mark (filter (at_greatest reports) reports) tx
forced_at sizes reports classic tx =
    ap (λ marks. value_of marks tx) (when_classic (is_fast (ballot_reported reports)) _ (marks_reported_at reports (ballot_reported reports)) classic)
    ∙ value_of-reported (filter (at_greatest reports) reports) tx

voted : (reports : List Report) (tx : TxId) (x : Mark) → HasVote (at_greatest reports) reports tx x → IsVoted reports tx x
voted reports tx x h = (h.0, h.1, ballot_eq-same h.0.ballot (ballot_reported reports) h.2, h.3)

pub forced_voted : (sizes : Sizes) (reports : List Report) → is_fast (ballot_reported reports) ≡ false → (tx : TxId) (x : Mark)
    → value_of (forced_of sizes reports) tx ≡ Some x → IsVoted reports tx x
forced_voted sizes reports classic tx x h =
    voted reports tx x (first_mark-shows (at_greatest reports) reports tx x (sym (forced_at sizes reports classic tx) ∙ h))

pub voted_forced : (sizes : Sizes) (reports : List Report) → is_fast (ballot_reported reports) ≡ false → VotesAgree reports → (tx : TxId) (x : Mark)
    → IsVoted reports tx x → value_of (forced_of sizes reports) tx ≡ Some x
voted_forced sizes reports classic agree tx x h =
    let passes : at_greatest reports h.0 ≡ true = ap (λ b. ballot_eq b (ballot_reported reports)) h.2 ∙ ballot_eq-refl (ballot_reported reports) in
    let some = first_mark-there (at_greatest reports) reports tx x h.0 h.1.0 h.1.1 h.1.2 passes h.3 in
    let found : value_of (forced_of sizes reports) tx ≡ Some some.0 = forced_at sizes reports classic tx ∙ some.1 in
    let same : some.0 ≡ x = agree tx some.0 x (forced_voted sizes reports classic tx some.0 found) h in
    found ∙ ap Some same
