-- Sums of what is chosen.
use Rattle.std.proofs.Common.{◌≡◌, ℕ, ◌*◌, ◌≤◌, true, List, [], ◌∷◌, refl, sym, subst, arith, inl, inr, ◌⊎◌, Option, Some}
use Rattle.mdcc_base.specs.declared.identifiers.Ballot.{Ballot}
use Rattle.mdcc_base.specs.declared.identifiers.TxId.{TxId}
use Rattle.mdcc_option.specs.declared.choices.Choice.{Choice}
use Rattle.mdcc_option.specs.declared.choices.Mark.{Mark}
use Rattle.mdcc_option.specs.declared.choices.Mark.TheVariants.{Accept}
use Rattle.mdcc_option.specs.declared.items.Item.{Item}
use Rattle.mdcc_struct.proofs.Reports.{cases_Option}
use Rattle.mdcc_theorem_agreement.proofs.BallotOrder.{Below-cases, Below-fast, Below-irrefl, Below-trans}
use Rattle.mdcc_theorem_agreement.proofs.Ballots.{fast, Below}
use Rattle.mdcc_theorem_agreement.proofs.OneBase.{holds, one_base}
use Rattle.mdcc_theorem_agreement.proofs.StructuresExtend.{sent-last, chain, backed}
use Rattle.mdcc_theorem_agreement.proofs.ReportsCounted.{some_counted}
use Rattle.mdcc_theorem_agreement.proofs.LedgersGrow.{last-sent}
use Rattle.mdcc_theorem_agreement.proofs.OneMark.{size-classic}
use Rattle.mdcc_theorem_agreement.proofs.SumsWithinRooms.{any_choice, chosen_fast, Counted-structures}
use Rattle.mdcc_theorem_agreement.proofs.AcceptedAgree.{Sound-structures}
use Rattle.mdcc_theorem_agreement.proofs.Setups.{Setup, IsSetup, centres_to}
use Rattle.mdcc_theorem_agreement.proofs.ReducedFacts.{votes, base, current, Quantity}
use Rattle.mdcc_theorem_agreement.proofs.ReducedLedger.{IsTail, Entry, facts_of, WasSent, last_sent, IsChoice, IsChosen, IsAborted, IsAcceptedIn, IsBacked, IsQuantity, Allowed, Holds}
use Rattle.mdcc_theorem_agreement.proofs.ReducedOptions.{In, Apart, Place, mark_of, gives, spot}
use Rattle.mdcc_theorem_agreement.proofs.TestsDecide.{Decides-is_mark}
use Rattle.mdcc_theorem_agreement.proofs.Totals.{total}
use Rattle.mdcc_theorem_agreement.proofs.VotesOfFacts.{HasVoted-mark}

module _ (s : Setup) (sizes : IsSetup s) (all : List Entry) (legal : Allowed s all) (i : Place) where
  -- a mark that is chosen was voted for
  pub voter : (k : Ballot) (t : TxId) (x : Mark) → IsChosen s all i k t x → (a : ℕ) × (mark_of t (votes (facts_of a all) i k) ≡ Some x)
  voter k t x chosen =
      let some : (a : ℕ) × In a (centres_to s.centres) × (gives (votes (facts_of a all) i k) t x ≡ true) =
      some_counted (λ a. gives (votes (facts_of a all) i k) t x) (centres_to s.centres) (omega (arith, size-classic s sizes k, sizes.two_classic)) in
      (some.0, (Decides-is_mark (mark_of t (votes (facts_of some.0 all) i k)) x).0 some.2)

  -- chosen at some ballot up to k
  abbrev UpTo : Ballot → Choice → Type 0
  UpTo k c = (l : Ballot) × (Below k l → ⊥) × IsChosen s all i l c.tx (Accept c)

  -- chosen marks have a greatest ballot
  greatest : (c : Choice) (cs : List Choice) → ((d : Choice) → In d (c ∷ cs) → (l : Ballot) × IsChosen s all i l d.tx (Accept d)) →
      (k : Ballot) × ((d : Choice) × IsChosen s all i k d.tx (Accept d)) × ((d : Choice) → In d (c ∷ cs) → UpTo k d)
  greatest c [] h =
      let here : (l : Ballot) × IsChosen s all i l c.tx (Accept c) = h c (inl refl) in (
        here.0,
        (c, here.1),
        (λ d listed. elim listed [
          | inl same ↦ (here.0, (λ b. Below-irrefl here.0 b), subst (λ z. IsChosen s all i here.0 z.tx (Accept z)) same here.1)
          | inr none ↦ absurd none
        ]),
      )
  greatest c (e ∷ cs) h =
      let here : (l : Ballot) × IsChosen s all i l c.tx (Accept c) = h c (inl refl) in
      let rest : (k : Ballot) × ((d : Choice) × IsChosen s all i k d.tx (Accept d)) × ((d : Choice) → In d (e ∷ cs) → UpTo k d) =
      greatest e cs (λ d listed. h d (inr listed)) in
      elim (Below-cases rest.0 here.0) [
        | inl over ↦ (
          here.0,
          (c, here.1),
          (λ d listed. elim listed [
            | inl same ↦ (here.0, (λ b. Below-irrefl here.0 b), subst (λ z. IsChosen s all i here.0 z.tx (Accept z)) same here.1)
            | inr there ↦ ((rest.2 d there).0, (λ b. (rest.2 d there).1 (Below-trans rest.0 here.0 (rest.2 d there).0 over b)), (rest.2 d there).2)
          ]),
        )
        | inr up ↦ (
          rest.0,
          rest.1,
          (λ d listed. elim listed [
            | inl same ↦ (
              here.0,
              (λ b. elim up [ inl equal ↦ Below-irrefl here.0 (rw equal at b) | inr under ↦ Below-irrefl rest.0 (Below-trans rest.0 here.0 rest.0 b under) ]),
              subst (λ z. IsChosen s all i here.0 z.tx (Accept z)) same here.1,
            )
            | inr there ↦ rest.2 d there
          ]),
        )
      ]

module _ (s : Setup) (sizes : IsSetup s) (all : List Entry) (legal : Allowed s all) (i : Place)
    (q : Quantity) (listed_q : IsQuantity s q) (item : Option Item)
    (held : (a : ℕ) (old : List Entry) → IsTail old all → current (facts_of a old) i.key ≡ i.version → base (facts_of a old) i.key ≡ item) where
  -- a chosen choice was begun
  chosen_choice : (k : Ballot) (c : Choice) → IsChosen s all i k c.tx (Accept c) → IsChoice all c × ((spot c) ≡ i)
  chosen_choice k c h =
      let by : (a : ℕ) × (mark_of c.tx (votes (facts_of a all) i k) ≡ Some (Accept c)) = voter s sizes all legal i k c.tx (Accept c) h in
      let r : (c.tx ≡ c.tx) × IsChoice all c × ((spot c) ≡ i) = any_choice s sizes all legal i by.0 k c.tx c by.1 in
      (r.1, r.2)

  -- where all are chosen at the fast ballot, by double counting over all centres
  fast_total : (cs : List Choice) → Apart cs → ((c : Choice) → In c cs → IsChosen s all i fast c.tx (Accept c) × (IsAborted s all c.tx → ⊥)) →
      total (λ c. q.amount c.update) cs ≤ q.room item
  fast_total cs distinct chosen =
      chosen_fast s sizes all legal i q listed_q item held cs distinct
      (λ c listed. ((chosen c listed).0, chosen_choice fast c (chosen c listed).0, (chosen c listed).1))

  -- where one is chosen at a classic ballot and none above it, the last structure there has them all
  classic_total : (k : Ballot) → Below fast k → (d : Choice) → IsChosen s all i k d.tx (Accept d) → (cs : List Choice) → Apart cs →
      ((c : Choice) → In c cs → UpTo s sizes all legal i k c × (IsAborted s all c.tx → ⊥)) → total (λ c. q.amount c.update) cs ≤ q.room item
  classic_total k classic d top cs distinct chosen =
      let there : (t : TxId) (x : Mark) (a : ℕ) → mark_of t (votes (facts_of a all) i k) ≡ Some x → IsBacked all (facts_of a all) i k =
      λ t x a vote. backed s all a i k classic legal (HasVoted-mark (facts_of a all) i k t x vote) in
      let first : (a : ℕ) × (mark_of d.tx (votes (facts_of a all) i k) ≡ Some (Accept d)) = voter s sizes all legal i k d.tx (Accept d) top in
      let shown : IsBacked all (facts_of first.0 all) i k = there d.tx (Accept d) first.0 first.1 in
      elim (cases_Option (last_sent all i k)) [
        | inl none ↦ absurd (sent-last all i k shown.marks shown.sent none)
        | inr last ↦
            let sent : WasSent all i k last.0 = last-sent all i k last.0 last.1 in
            let counted : (c : Choice) → In c cs → IsAcceptedIn last.0 c ⊎ ((l : Ballot) × Below l k × IsChosen s all i l c.tx (Accept c)) =
            λ c listed.
            let up : UpTo s sizes all legal i k c = (chosen c listed).0 in
            elim (Below-cases up.0 k) [
              | inl under ↦ inr (up.0, under, up.2)
              | inr rest ↦ elim rest [
                | inl same ↦
                    let at_k : IsChosen s all i k c.tx (Accept c) = subst (λ z. IsChosen s all i z c.tx (Accept c)) same up.2 in
                    let by : (a : ℕ) × (mark_of c.tx (votes (facts_of a all) i k) ≡ Some (Accept c)) = voter s sizes all legal i k c.tx (Accept c) at_k in
                    let b : IsBacked all (facts_of by.0 all) i k = there c.tx (Accept c) by.0 by.1 in
                    inl (chain s all i k last.0 b.marks legal last.1 b.sent c.tx (Accept c) (b.within c.tx (Accept c) by.1))
                | inr over ↦ absurd (up.1 over)
              ]
            ] in
            let bound : 1 * total (λ c. q.amount c.update) cs ≤ 1 * q.room item =
            (Counted-structures s sizes all legal i q listed_q item held k last.0 sent).bound cs distinct
            (λ c listed. (counted c listed, chosen_choice (chosen c listed).0.0 c (chosen c listed).0.2, (chosen c listed).1)) in
            omega arith
      ]

  chosen_total : (cs : List Choice) → Apart cs → ((c : Choice) → In c cs → ((k : Ballot) × IsChosen s all i k c.tx (Accept c)) × (IsAborted s all c.tx → ⊥)) →
      total (λ c. q.amount c.update) cs ≤ q.room item
  chosen_total [] distinct chosen = omega arith
  chosen_total (c ∷ cs) distinct chosen =
      let top : (k : Ballot) × ((d : Choice) × IsChosen s all i k d.tx (Accept d)) × ((d : Choice) → In d (c ∷ cs) → UpTo s sizes all legal i k d) =
      greatest s sizes all legal i c cs (λ d listed. (chosen d listed).0) in
      elim (Below-cases fast top.0) [
        | inl classic ↦ classic_total top.0 classic top.1.0 top.1.1 (c ∷ cs) distinct (λ d listed. (top.2 d listed, (chosen d listed).1))
        | inr rest ↦ elim rest [
          | inl same ↦ fast_total (c ∷ cs) distinct (λ d listed.
              let up : UpTo s sizes all legal i top.0 d = top.2 d listed in (
                elim (Below-cases fast up.0) [
                  | inl over ↦ absurd (up.1 (rw (← same) over))
                  | inr more ↦ elim more [
                    | inl equal ↦ subst (λ z. IsChosen s all i z d.tx (Accept d)) (sym equal) up.2
                    | inr none ↦ absurd (Below-fast up.0 none)
                  ]
                ],
                (chosen d listed).1,
              ))
          | inr below ↦ absurd (Below-fast top.0 below)
        ]
      ]

-- with what centres hold at the version
module _ (s : Setup) (sizes : IsSetup s) (all : List Entry) (legal : Allowed s all) (i : Place)
    (q : Quantity) (listed_q : IsQuantity s q) (item : Option Item) (is_item : Holds s all i.key i.version item) where
  same_item : (a : ℕ) (old : List Entry) → IsTail old all → current (facts_of a old) i.key ≡ i.version → base (facts_of a old) i.key ≡ item
  same_item a old tail is =
      let there : Holds s all i.key (current (facts_of a old) i.key) (base (facts_of a old) i.key) = holds s sizes all legal old tail a i.key in
      one_base s sizes all legal i.key i.version (base (facts_of a old) i.key) item
      (subst (λ z. Holds s all i.key z (base (facts_of a old) i.key)) is there) is_item

  pub sums_chosen : (cs : List Choice) → Apart cs → ((c : Choice) → In c cs → ((k : Ballot) × IsChosen s all i k c.tx (Accept c)) × (IsAborted s all c.tx → ⊥)) →
      total (λ c. q.amount c.update) cs ≤ q.room item
  sums_chosen cs distinct chosen = chosen_total s sizes all legal i q listed_q item same_item cs distinct chosen

  pub sums_structures : (m : Ballot) (marks : List (TxId × Mark)) → WasSent all i m marks → (cs : List Choice) → Apart cs →
      ((c : Choice) → In c cs → IsAcceptedIn marks c × (IsAborted s all c.tx → ⊥)) → total (λ c. q.amount c.update) cs ≤ q.room item
  sums_structures m marks sent cs distinct among =
      let bound : 1 * total (λ c. q.amount c.update) cs ≤ 1 * q.room item =
      (Counted-structures s sizes all legal i q listed_q item same_item m marks sent).bound cs distinct
      (λ c listed.
      let r : (c.tx ≡ c.tx) × IsChoice all c × ((spot c) ≡ i) = (Sound-structures s all legal i sizes m marks sent).choices c.tx c (among c listed).0 in
      (inl (among c listed).0, (r.1, r.2), (among c listed).1)) in
      omega arith
