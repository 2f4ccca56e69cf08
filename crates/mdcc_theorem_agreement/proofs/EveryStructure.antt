-- What holds of every structure: of the forced marks at the fast ballot, of parts, and of what a leader adds.
use Rattle.std.proofs.Common.{◌≡◌, ℕ, true, List, [], ◌∷◌, refl, sym, ap, ◌∙◌, subst, inl, inr, ◌⊎◌, Some}
use Rattle.mdcc_base.specs.declared.identifiers.Ballot.{Ballot}
use Rattle.mdcc_base.specs.declared.identifiers.TxId.{TxId}
use Rattle.mdcc_option.specs.declared.choices.Mark.{Mark}
use Rattle.mdcc_struct.proofs.Reports.{cases_Option}
use Rattle.mdcc_theorem_agreement.proofs.BallotOrder.{Below-cases, Below-fast, Below-irrefl}
use Rattle.mdcc_theorem_agreement.proofs.Ballots.{fast, Below}
use Rattle.mdcc_theorem_agreement.proofs.StructuresExtend.{sent-last, chain, backed}
use Rattle.mdcc_theorem_agreement.proofs.ReportsCounted.{top-there, Voices-out, reports-of}
use Rattle.mdcc_theorem_agreement.proofs.LedgersGrow.{IsTail-drop, Allowed-tail, last-sent, sent_tail, shown-voted}
use Rattle.mdcc_theorem_agreement.proofs.Setups.{Setup, centres_to}
use Rattle.mdcc_theorem_agreement.proofs.ReducedFacts.{votes, voted_below, ReducedReport, report, shown}
use Rattle.mdcc_theorem_agreement.proofs.ReducedForced.{top}
use Rattle.mdcc_theorem_agreement.proofs.ReducedLedger.{IsTail, Entry, Happened, Begun, Valued, facts_of, WasSent, last_sent, reports_of, members, MayAdd, Step, Grown, IsFirst, IsNext, IsBacked, Allowed}
use Rattle.mdcc_theorem_agreement.proofs.ReducedOptions.{In, Place, mark_of, Extends, Distinct}
use Rattle.mdcc_theorem_agreement.proofs.VotesOfFacts.{HasVoted, HasVoted-mark, voted_below-there}

-- what a first structure was made from
abbrev pub reports_for : (s : Setup) (old : List Entry) (z : ℕ) (i : Place) (m : Ballot) (marks : List (TxId × Mark)) → IsFirst s old z i m marks → List ReducedReport
reports_for s old z i m marks first = reports_of first.at_time i m (members first.quorum (centres_to s.centres))

-- the structure that a centre's votes came from, when they were reported
pub sent_for : (s : Setup) (old : List Entry) → Allowed s old → (z : ℕ) (i : Place) (m : Ballot) (marks : List (TxId × Mark)) (first : IsFirst s old z i m marks) →
    (a : ℕ) → first.quorum a ≡ true → (k : Ballot) → Below fast k → HasVoted (facts_of a (first.at_time a)) i k →
    (x : List (TxId × Mark)) × WasSent old i k x × ((t : TxId) (y : Mark) → mark_of t (votes (facts_of a (first.at_time a)) i k) ≡ Some y → mark_of t x ≡ Some y)
sent_for s old allowed z i m marks first a member k classic voted =
    let b : IsBacked (first.at_time a) (facts_of a (first.at_time a)) i k =
    backed s (first.at_time a) a i k classic (Allowed-tail s (first.at_time a) old (first.before a member) allowed) voted in
    (b.marks, sent_tail i k b.marks (first.at_time a) old (first.before a member) b.sent, b.within)

-- the forced marks of a classic ballot stand in the last structure that was sent there
pub forced_part : (s : Setup) (old : List Entry) (allowed : Allowed s old) (z : ℕ) (i : Place) (m : Ballot) (marks : List (TxId × Mark)) (first : IsFirst s old z i m marks) →
    Below fast (top (reports_for s old z i m marks first)) →
    (last : List (TxId × Mark)) × (last_sent old i (top (reports_for s old z i m marks first)) ≡ Some last) × Extends last first.base
forced_part s old allowed z i m marks first classic =
    let rs : List ReducedReport = reports_for s old z i m marks first in
    let k : Ballot = top (reports_for s old z i m marks first) in
    let source : (a : ℕ) → first.quorum a ≡ true → HasVoted (facts_of a (first.at_time a)) i k →
    (x : List (TxId × Mark)) × WasSent old i k x × ((t : TxId) (y : Mark) → mark_of t (votes (facts_of a (first.at_time a)) i k) ≡ Some y → mark_of t x ≡ Some y) =
    λ a member h. sent_for s old allowed z i m marks first a member k classic h in
    let some : (ys : List (TxId × Mark)) × WasSent old i k ys =
    elim (top-there first.at_time i m first.quorum k (centres_to s.centres) refl) [
      | inl is_fast ↦ absurd (Below-irrefl fast (rw is_fast at classic))
      | inr there ↦ elim (voted_below-there (facts_of there.0 (first.at_time there.0)) i m k there.3) [
        | inl is_fast ↦ absurd (Below-irrefl fast (rw is_fast at classic))
        | inr voted ↦ ((source there.0 there.2 voted).0, (source there.0 there.2 voted).1)
      ]
    ] in
    elim (cases_Option (last_sent old i k)) [
      | inl none ↦ absurd (sent-last old i k some.0 some.1 none)
      | inr last ↦ (
        last.0,
        last.1,
        (λ t x h.
            elim (first.forced_only t x h) [
              | inl by_count ↦ absurd (Below-irrefl fast (rw by_count.0 at classic))
              | inr by_union ↦
                  let voice : (r : ReducedReport) × In r rs × (r.ballot ≡ k) × (mark_of t r.marks ≡ Some x) = Voices-out k t x rs by_union.1 in
                  let member : (a : ℕ) × (first.quorum a ≡ true) × (report (facts_of a (first.at_time a)) i m ≡ voice.0) =
                  reports-of first.at_time i m first.quorum voice.0 (centres_to s.centres) voice.1 in
                  let ballot : voted_below (facts_of member.0 (first.at_time member.0)) i m ≡ k = ap (λ (r : ReducedReport). r.ballot) member.2 ∙ voice.2 in
                  let given : mark_of t (shown (facts_of member.0 (first.at_time member.0)) i (voted_below (facts_of member.0 (first.at_time member.0)) i m)) ≡ Some x =
                  ap (λ (r : ReducedReport). mark_of t r.marks) member.2 ∙ voice.3 in
                  let vote : mark_of t (votes (facts_of member.0 (first.at_time member.0)) i k) ≡ Some x =
                  subst (λ y. mark_of t (votes (facts_of member.0 (first.at_time member.0)) i y) ≡ Some x) ballot
                  (shown-voted (facts_of member.0 (first.at_time member.0)) i t x (votes (facts_of member.0 (first.at_time member.0)) i (voted_below (facts_of member.0 (first.at_time member.0)) i m)) given) in
                  let b : (y : List (TxId × Mark)) × WasSent old i k y × ((u : TxId) (w : Mark) → mark_of u (votes (facts_of member.0 (first.at_time member.0)) i k) ≡ Some w → mark_of u y ≡ Some w) =
                  source member.0 member.1 (HasVoted-mark (facts_of member.0 (first.at_time member.0)) i k t x vote) in
                  chain s old i k last.0 b.0 allowed last.1 b.1 t x (b.2 t x vote)
            ]),
      )
    ]

-- with the ballot, and with the whole of what a leader sends at once
module _ (s : Setup) (all : List Entry) (legal : Allowed s all) (i : Place) (P : Ballot → List (TxId × Mark) → Type 0)
    (part : (old : List Entry) → IsTail old all → (allowed : Allowed s old) (z : ℕ) (m : Ballot) (marks : List (TxId × Mark)) (first : IsFirst s old z i m marks) →
    Below fast (top (reports_for s old z i m marks first)) → (last : List (TxId × Mark)) →
    last_sent old i (top (reports_for s old z i m marks first)) ≡ Some last → Extends last first.base → P (top (reports_for s old z i m marks first)) last → P m first.base)
    (at_fast : (old : List Entry) → IsTail old all → Allowed s old → (z : ℕ) (m : Ballot) (marks : List (TxId × Mark)) (first : IsFirst s old z i m marks) →
    top (reports_for s old z i m marks first) ≡ fast → P m first.base)
    (sending : (old : List Entry) → Allowed s old → (z : ℕ) (m : Ballot) (less more : List (TxId × Mark)) → IsTail (Valued z i m more ∷ old) all →
    (steps : List Step) → Grown s old z i less steps more → P m less → P m more) where
  sent_entry : (old : List Entry) → Allowed s old → ((m : Ballot) (marks : List (TxId × Mark)) → WasSent old i m marks → P m marks) →
      (z : ℕ) (m : Ballot) (marks : List (TxId × Mark)) → IsTail (Valued z i m marks ∷ old) all → IsFirst s old z i m marks ⊎ IsNext s old z i m marks → P m marks
  sent_entry old allowed known z m marks tail h =
      elim h [
        | inl first ↦ sending old allowed z m first.base marks tail first.steps first.grown
            (elim (Below-cases fast (top (reports_for s old z i m marks first))) [
              | inl classic ↦
                  let last : (last : List (TxId × Mark)) × (last_sent old i (top (reports_for s old z i m marks first)) ≡ Some last) × Extends last first.base =
                  forced_part s old allowed z i m marks first classic in
                  part old (IsTail-drop (Valued z i m marks) old all tail) allowed z m marks first classic last.0 last.1 last.2
                  (known (top (reports_for s old z i m marks first)) last.0 (last-sent old i (top (reports_for s old z i m marks first)) last.0 last.1))
              | inr rest ↦ elim rest [
                | inl same ↦ at_fast old (IsTail-drop (Valued z i m marks) old all tail) allowed z m marks first (sym same)
                | inr below ↦ absurd (Below-fast (top (reports_for s old z i m marks first)) below)
              ]
            ])
        | inr next ↦ sending old allowed z m next.last marks tail next.steps next.grown (known m next.last (last-sent old i m next.last next.is_last))
      ]

  pub every_sent : (old : List Entry) → IsTail old all → (m : Ballot) (marks : List (TxId × Mark)) → WasSent old i m marks → P m marks
  every_sent [] tail m marks sent = absurd sent
  every_sent (Happened b f ∷ old) tail m marks sent = every_sent old (IsTail-drop (Happened b f) old all tail) m marks sent
  every_sent (Begun b t cs ∷ old) tail m marks sent = every_sent old (IsTail-drop (Begun b t cs) old all tail) m marks sent
  every_sent (Valued b j l x ∷ old) tail m marks sent =
      let older : IsTail old all = IsTail-drop (Valued b j l x) old all tail in
      elim sent [
        | inl here ↦
            let there : IsTail (Valued b i m marks ∷ old) all = subst (λ y. IsTail (Valued b i m y ∷ old) all) here.2
            (subst (λ y. IsTail (Valued b i y x ∷ old) all) here.1 (subst (λ y. IsTail (Valued b y l x ∷ old) all) here.0 tail)) in
            sent_entry old (Allowed-tail s old all older legal) (every_sent old older) b m marks there (Allowed-tail s (Valued b i m marks ∷ old) all there legal).1.1
        | inr there ↦ every_sent old older m marks there
      ]

-- of the marks alone, and mark by mark
module _ (s : Setup) (all : List Entry) (legal : Allowed s all) (i : Place) (P : List (TxId × Mark) → Type 0)
    (part : (less more : List (TxId × Mark)) → Distinct less → Extends more less → P more → P less)
    (at_fast : (old : List Entry) → IsTail old all → Allowed s old → (z : ℕ) (m : Ballot) (marks : List (TxId × Mark)) (first : IsFirst s old z i m marks) →
    top (reports_for s old z i m marks first) ≡ fast → P first.base)
    (added : (old : List Entry) → IsTail old all → Allowed s old → (z : ℕ) (ps : List (TxId × Mark)) (t : TxId) (x : Mark) →
    MayAdd s old z i ps t x → P ps → P ((t, x) ∷ ps)) where
  grown_so : (old : List Entry) → IsTail old all → Allowed s old → (z : ℕ) (less : List (TxId × Mark)) (steps : List Step) (more : List (TxId × Mark)) →
      Grown s old z i less steps more → P less → P more
  grown_so old tail allowed z less [] more g h = subst P g h
  grown_so old tail allowed z less (p ∷ ps) more g h =
      let before : P p.before = grown_so old tail allowed z less ps p.before g.0 h in
      part more ((p.tx, p.mark) ∷ p.before) g.2.apart (λ t x e. sym (g.2.same t) ∙ e) (added old tail allowed z p.before p.tx p.mark g.1 before)

  pub every : (old : List Entry) → IsTail old all → (m : Ballot) (marks : List (TxId × Mark)) → WasSent old i m marks → P marks
  every old tail m marks sent =
      every_sent s all legal i (λ k. P)
      (λ before from allowed z l x first classic last is extends known. part first.base last first.apart extends known)
      at_fast
      (λ before allowed z l less more from steps grown known. grown_so before (IsTail-drop (Valued z i l more) before all from) allowed z less steps more grown known)
      old tail m marks sent
