-- What is chosen at a ballot, seen from a first structure of a higher one.
use Rattle.mdcc_theorem_agreement.proofs.ReducedLedger.{Allowed, Entry, Grown, IsChosen, IsFirst, IsTail, Step, WasSent, facts_of, last_sent, members, size_at}
use Rattle.mdcc_base.specs.declared.identifiers.Ballot.{Ballot}
use Rattle.mdcc_theorem_agreement.proofs.Ballots.{fast, Below}
use Rattle.mdcc_theorem_agreement.proofs.BallotOrder.{Below-cases, Below-fast}
use Rattle.mdcc_theorem_agreement.proofs.TestsDecide.{Decides-is_mark}
use Rattle.mdcc_theorem_agreement.proofs.VotesOfFacts.{HasVoted-mark}
use Rattle.mdcc_theorem_agreement.proofs.ReducedOptions.{In, Place, gives, mark_of}
use Rattle.mdcc_theorem_agreement.proofs.ReportsCounted.{count-members, length-members, In-members, In-reports, all_fast, count-le, count-reports, length-reports, some_common}
use Rattle.mdcc_theorem_agreement.proofs.Setups.{IsSetup, Setup, centres_to, count}
use Rattle.std.proofs.Common.{ℕ, List, [], Some, ap, arith, inl, inr, length, subst, sym, true, ◌∷◌, ◌+◌, ◌≡◌, ◌≤◌, ◌&&◌, ◌⊎◌}
use Rattle.mdcc_option.specs.declared.choices.Mark.{Mark}
use Rattle.mdcc_theorem_agreement.proofs.ReducedFacts.{ReducedReport, report, voted_below, votes}
use Rattle.mdcc_base.specs.declared.identifiers.TxId.{TxId}
use Rattle.std.proofs.lemmas.Bool.{and_from, and_parts}
use Rattle.mdcc_theorem_agreement.proofs.StructuresExtend.{chain}
use Rattle.mdcc_theorem_agreement.proofs.BothCounted.{count_both, length-centres}
use Rattle.mdcc_theorem_agreement.proofs.OneMark.{kept, inside, met, not_under, voters}
use Rattle.mdcc_theorem_agreement.proofs.EveryStructure.{reports_for, sent_for}
use Rattle.mdcc_theorem_agreement.proofs.LedgersGrow.{shown-voted}
use Rattle.mdcc_theorem_agreement.proofs.ReducedForced.{top}

pub Grown-less : (s : Setup) (es : List Entry) (a : ℕ) (i : Place) (less : List (TxId × Mark)) (steps : List Step) (more : List (TxId × Mark)) → Grown s es a i less steps more → (less ≡ more) ⊎ In a (centres_to s.centres)
Grown-less s es a i less [] more g = inl g
Grown-less s es a i less (p ∷ ps) more g = inr g.1.centre

-- a mark that is forced at the fast ballot has votes of so many members
pub forced_votes : (s : Setup) (old : List Entry) (z : ℕ) (i : Place) (m : Ballot) (marks : List (TxId × Mark)) (first : IsFirst s old z i m marks) →
    top (reports_for s old z i m marks first) ≡ fast → (u : TxId) (y : Mark) → mark_of u first.base ≡ Some y →
    s.fast + length (members first.quorum (centres_to s.centres)) ≤ s.centres + count (λ a. gives (votes (facts_of a (first.at_time a)) i fast) u y) (members first.quorum (centres_to s.centres))
forced_votes s old z i m marks first is u y h =
    let rs : List ReducedReport = reports_for s old z i m marks first in
    let enough : s.fast + length rs ≤ s.centres + count (λ r. gives r.marks u y) rs =
    elim (first.forced_only u y h) [ inl by_count ↦ by_count.1 | inr by_union ↦ absurd (Below-fast fast (rw is at by_union.0)) ] in
    let among : count (λ a. first.quorum a && gives (report (facts_of a (first.at_time a)) i m).marks u y) (centres_to s.centres) ≤ count (λ a. first.quorum a && gives (votes (facts_of a (first.at_time a)) i fast) u y) (centres_to s.centres) =
    count-le (λ a. first.quorum a && gives (report (facts_of a (first.at_time a)) i m).marks u y) (λ a. first.quorum a && gives (votes (facts_of a (first.at_time a)) i fast) u y) (centres_to s.centres) (λ a listed both.
    let parts : (first.quorum a ≡ true) × (gives (report (facts_of a (first.at_time a)) i m).marks u y ≡ true) = and_parts (first.quorum a) (gives (report (facts_of a (first.at_time a)) i m).marks u y) both in
    let ballot : voted_below (facts_of a (first.at_time a)) i m ≡ fast =
    all_fast (report (facts_of a (first.at_time a)) i m) rs (In-reports first.at_time i m a (members first.quorum (centres_to s.centres)) (In-members first.quorum a (centres_to s.centres) listed parts.0)) is in
    let reported : mark_of u (votes (facts_of a (first.at_time a)) i (voted_below (facts_of a (first.at_time a)) i m)) ≡ Some y =
    shown-voted (facts_of a (first.at_time a)) i u y (votes (facts_of a (first.at_time a)) i (voted_below (facts_of a (first.at_time a)) i m))
    ((Decides-is_mark (mark_of u (report (facts_of a (first.at_time a)) i m).marks) y).0 parts.1) in
    let vote : mark_of u (votes (facts_of a (first.at_time a)) i fast) ≡ Some y = subst (λ l. mark_of u (votes (facts_of a (first.at_time a)) i l) ≡ Some y) ballot reported in
    and_from (first.quorum a) (gives (votes (facts_of a (first.at_time a)) i fast) u y) parts.0 ((Decides-is_mark (mark_of u (votes (facts_of a (first.at_time a)) i fast)) y).1 vote)) in
    omega (
      arith,
      length-reports first.at_time i m first.quorum (centres_to s.centres),
      count-reports first.at_time i m first.quorum u y (centres_to s.centres),
      length-members first.quorum (centres_to s.centres),
      count-members first.quorum (λ a. gives (votes (facts_of a (first.at_time a)) i fast) u y) (centres_to s.centres),
      enough,
      among,
    )

module _ (s : Setup) (sizes : IsSetup s) (all : List Entry) (legal : Allowed s all) (i : Place) (k : Ballot) (t : TxId) (x : Mark) (chosen : IsChosen s all i k t x)
    (old : List Entry) (z : ℕ) (m : Ballot) (marks : List (TxId × Mark)) (tail : IsTail old all) (allowed : Allowed s old)
    (below : Below k m) (first : IsFirst s old z i m marks) where
  pub chosen_not_over : Below (top (reports_for s old z i m marks first)) k → ⊥
  chosen_not_over over = not_under s sizes all legal i k t x chosen old z m marks tail allowed below first over

  member : (a : ℕ) × In a (centres_to s.centres) × (voters s sizes all legal i k t x chosen a ≡ true) × (first.quorum a ≡ true)
  member = met s sizes all legal i k t x chosen old z m marks tail allowed below first

  voted : (a : ℕ) → voters s sizes all legal i k t x chosen a ≡ true → first.quorum a ≡ true → mark_of t (votes (facts_of a (first.at_time a)) i k) ≡ Some x
  voted a v p = kept s sizes all legal i k t x chosen old z m marks tail allowed below first a v p

  -- chosen at the greatest reported ballot: it stands in the last structure there
  pub chosen_last : Below fast (top (reports_for s old z i m marks first)) → k ≡ top (reports_for s old z i m marks first) →
      (last : List (TxId × Mark)) → last_sent old i (top (reports_for s old z i m marks first)) ≡ Some last → mark_of t last ≡ Some x
  chosen_last classic same last is =
      let vote : mark_of t (votes (facts_of member.0 (first.at_time member.0)) i (top (reports_for s old z i m marks first))) ≡ Some x =
      subst (λ l. mark_of t (votes (facts_of member.0 (first.at_time member.0)) i l) ≡ Some x) same (voted member.0 member.2 member.3) in
      let b : (y : List (TxId × Mark)) × WasSent old i (top (reports_for s old z i m marks first)) y
      × ((u : TxId) (w : Mark) → mark_of u (votes (facts_of member.0 (first.at_time member.0)) i (top (reports_for s old z i m marks first))) ≡ Some w → mark_of u y ≡ Some w) =
      sent_for s old allowed z i m marks first member.0 member.3 (top (reports_for s old z i m marks first)) classic
      (HasVoted-mark (facts_of member.0 (first.at_time member.0)) i (top (reports_for s old z i m marks first)) t x vote) in
      chain s old i (top (reports_for s old z i m marks first)) last b.0 allowed is b.1 t x (b.2 t x vote)

  -- nothing but the fast ballot is reported: it was chosen there
  pub at_fast_ballot : top (reports_for s old z i m marks first) ≡ fast → k ≡ fast
  at_fast_ballot is =
      elim (Below-cases fast k) [
        | inl classic ↦ absurd (chosen_not_over (rw is classic))
        | inr rest ↦ elim rest [ inl same ↦ sym same | inr none ↦ absurd (Below-fast k none) ]
      ]

  -- and each forced mark has a vote of a centre that voted for it
  pub fast_meet : top (reports_for s old z i m marks first) ≡ fast → (u : TxId) (y : Mark) → mark_of u first.base ≡ Some y →
      (a : ℕ) × (mark_of t (votes (facts_of a (first.at_time a)) i fast) ≡ Some x) × (mark_of u (votes (facts_of a (first.at_time a)) i fast) ≡ Some y) × (first.quorum a ≡ true)
  fast_meet is u y h =
      let is_fast : k ≡ fast = at_fast_ballot is in
      let size : size_at s k ≡ s.fast = ap (size_at s) is_fast in
      let rs : List ReducedReport = reports_for s old z i m marks first in
      let enough : s.fast + length rs ≤ s.centres + count (λ r. gives r.marks u y) rs =
      elim (first.forced_only u y h) [ inl by_count ↦ by_count.1 | inr by_union ↦ absurd (Below-fast fast (rw is at by_union.0)) ] in
      let some : (a : ℕ) × In a (centres_to s.centres) × (voters s sizes all legal i k t x chosen a ≡ true) × ((first.quorum a && gives (report (facts_of a (first.at_time a)) i m).marks u y) ≡ true) =
      some_common (voters s sizes all legal i k t x chosen) (λ a. first.quorum a && gives (report (facts_of a (first.at_time a)) i m).marks u y) (centres_to s.centres)
      (omega (arith, length-centres s.centres, length-reports first.at_time i m first.quorum (centres_to s.centres), count-reports first.at_time i m first.quorum u y (centres_to s.centres), first.enough, sizes.two_fast, size, chosen, enough)) in
      let parts : (first.quorum some.0 ≡ true) × (gives (report (facts_of some.0 (first.at_time some.0)) i m).marks u y ≡ true) =
      and_parts (first.quorum some.0) (gives (report (facts_of some.0 (first.at_time some.0)) i m).marks u y) some.3 in
      let one : mark_of t (votes (facts_of some.0 (first.at_time some.0)) i fast) ≡ Some x =
      subst (λ l. mark_of t (votes (facts_of some.0 (first.at_time some.0)) i l) ≡ Some x) is_fast (voted some.0 some.2 parts.0) in
      let ballot : voted_below (facts_of some.0 (first.at_time some.0)) i m ≡ fast =
      all_fast (report (facts_of some.0 (first.at_time some.0)) i m) rs (inside s sizes all legal i k t x chosen old z m marks tail allowed below first some.0 some.1 parts.0) is in
      let reported : mark_of u (votes (facts_of some.0 (first.at_time some.0)) i (voted_below (facts_of some.0 (first.at_time some.0)) i m)) ≡ Some y =
      shown-voted (facts_of some.0 (first.at_time some.0)) i u y (votes (facts_of some.0 (first.at_time some.0)) i (voted_below (facts_of some.0 (first.at_time some.0)) i m))
      ((Decides-is_mark (mark_of u (report (facts_of some.0 (first.at_time some.0)) i m).marks) y).0 parts.1) in
      let other : mark_of u (votes (facts_of some.0 (first.at_time some.0)) i fast) ≡ Some y =
      subst (λ l. mark_of u (votes (facts_of some.0 (first.at_time some.0)) i l) ≡ Some y) ballot reported in
      (some.0, one, other, parts.0)

  -- what was chosen there has as many
  pub chosen_votes : top (reports_for s old z i m marks first) ≡ fast →
      s.fast + length (members first.quorum (centres_to s.centres)) ≤ s.centres + count (λ a. gives (votes (facts_of a (first.at_time a)) i fast) t x) (members first.quorum (centres_to s.centres))
  chosen_votes is =
      let is_fast : k ≡ fast = at_fast_ballot is in
      let size : size_at s k ≡ s.fast = ap (size_at s) is_fast in
      let among : count (λ a. voters s sizes all legal i k t x chosen a && first.quorum a) (centres_to s.centres) ≤ count (λ a. first.quorum a && gives (votes (facts_of a (first.at_time a)) i fast) t x) (centres_to s.centres) =
      count-le (λ a. voters s sizes all legal i k t x chosen a && first.quorum a) (λ a. first.quorum a && gives (votes (facts_of a (first.at_time a)) i fast) t x) (centres_to s.centres) (λ a listed both.
      let parts : (voters s sizes all legal i k t x chosen a ≡ true) × (first.quorum a ≡ true) = and_parts (voters s sizes all legal i k t x chosen a) (first.quorum a) both in
      let vote : mark_of t (votes (facts_of a (first.at_time a)) i fast) ≡ Some x = subst (λ l. mark_of t (votes (facts_of a (first.at_time a)) i l) ≡ Some x) is_fast (voted a parts.0 parts.1) in
      and_from (first.quorum a) (gives (votes (facts_of a (first.at_time a)) i fast) t x) parts.1 ((Decides-is_mark (mark_of t (votes (facts_of a (first.at_time a)) i fast)) x).1 vote)) in
      omega (
        arith,
        count_both (voters s sizes all legal i k t x chosen) first.quorum (centres_to s.centres),
        length-centres s.centres,
        size,
        chosen,
        among,
        length-members first.quorum (centres_to s.centres),
        count-members first.quorum (λ a. gives (votes (facts_of a (first.at_time a)) i fast) t x) (centres_to s.centres),
      )
