-- No transaction has two marks chosen at one instance, also where marks are forgotten. By induction on the ledger.
use Rattle.std.proofs.Common.{◌≡◌, ℕ, ◌≤◌, Bool, true, ◌&&◌, List, [], ◌∷◌, refl, sym, ap, ◌∙◌, subst, arith, inl, inr, Some, false, length, ◌+◌}
use Rattle.std.proofs.lemmas.Bool.{cases_Bool, and_parts, and_from}
use Rattle.mdcc_base.specs.Ballot.{ballot_eq}
use Rattle.mdcc_base.specs.declared.identifiers.Ballot.{Ballot}
use Rattle.mdcc_base.specs.declared.identifiers.TxId.{TxId}
use Rattle.mdcc_option.specs.declared.choices.Mark.{Mark}
use Rattle.mdcc_theorem_agreement.proofs.BallotOrder.{Below-cases, Below-fast, Below-classic}
use Rattle.mdcc_theorem_agreement.proofs.Ballots.{fast, Below}
use Rattle.mdcc_theorem_agreement.proofs.ReportsCounted.{some_common, count-le, In-members, In-reports, length-reports, count-reports, top-there, top-most, Voices-in, Voices-out, all_fast, reports-of}
use Rattle.mdcc_theorem_agreement.proofs.BothCounted.{count_both, length-centres}
use Rattle.mdcc_theorem_agreement.proofs.LedgersGrow.{Grown-extends, last-sent, Below-over, IsTail-same, IsTail-drop, Allowed-tail, votes_kept, Grown-cases, IsTail-trans, heard_tail, not_finished, sent_tail, shown-voted, voted-shown}
use Rattle.mdcc_theorem_agreement.proofs.Setups.{Setup, IsSetup, centres_to, count}
use Rattle.mdcc_theorem_agreement.proofs.ReducedFacts.{votes, voted_below, ReducedReport, report, ReducedFact, finished, shown}
use Rattle.mdcc_theorem_agreement.proofs.ReducedForced.{top}
use Rattle.mdcc_theorem_agreement.proofs.ReducedLedger.{IsTail, Entry, Happened, Begun, Valued, facts_of, WasSent, size_at, IsChosen, reports_of, members, IsFirst, Meets, Allowed, AllHeard, IsBacked, IsNext, last_sent}
use Rattle.mdcc_theorem_agreement.proofs.ReducedOptions.{In, Place, mark_of, gives}
use Rattle.mdcc_theorem_agreement.proofs.TestsDecide.{Decides-is_mark}
use Rattle.mdcc_theorem_agreement.proofs.VotesOfFacts.{HasVoted, HasVoted-mark, voted_below-there, voted_below-most}
use Rattle.mdcc_theorem_agreement.proofs.StructuresExtend.{backed, chain, sent-last}
use Rattle.mdcc_struct.proofs.Reports.{cases_Option}

pub size-classic : (s : Setup) → IsSetup s → (k : Ballot) → s.classic ≤ size_at s k
size-classic s sizes k =
    elim (cases_Bool (ballot_eq k fast)) [
      | inl e ↦ rw e (sizes.classic_within)
      | inr e ↦ rw e (omega arith)
    ]

pub same_if_between : (p k : Ballot) → (Below p k → ⊥) → (Below k p → ⊥) → p ≡ k
same_if_between p k under over =
    elim (Below-cases p k) [ inl a ↦ absurd (under a) | inr rest ↦ elim rest [ inl same ↦ same | inr b ↦ absurd (over b) ] ]

module _ (s : Setup) (sizes : IsSetup s) (all : List Entry) (legal : Allowed s all)
    (i : Place) (k : Ballot) (t : TxId) (x : Mark) (chosen : IsChosen s all i k t x) where
  abbrev pub voters : ℕ → Bool
  voters a = gives (votes (facts_of a all) i k) t x

  -- a structure has the mark, unless all have heard the transaction, and it has no other
  abbrev pub Safe : List Entry → Type 0
  Safe old = (m : Ballot) (marks : List (TxId × Mark)) → Below k m → WasSent old i m marks →
      ((AllHeard s old t → ⊥) → mark_of t marks ≡ Some x) × ((y : Mark) → mark_of t marks ≡ Some y → y ≡ x)

  module _ (old : List Entry) (z : ℕ) (m : Ballot) (marks : List (TxId × Mark)) (tail : IsTail old all) (allowed : Allowed s old)
      (below : Below k m) (first : IsFirst s old z i m marks) where
    abbrev pub cs : List ℕ
    cs = centres_to s.centres

    abbrev pub q : ℕ → Bool
    q = first.quorum

    abbrev pub rs : List ReducedReport
    rs = reports_of first.at_time i m (members first.quorum (centres_to s.centres))

    abbrev pub mine : ℕ → List ReducedFact
    mine a = facts_of a (first.at_time a)

    pub kept : (a : ℕ) → voters a ≡ true → q a ≡ true → mark_of t (votes (mine a) i k) ≡ Some x
    kept a v p = votes_kept s (first.at_time a) all a i k m t x (IsTail-trans (first.at_time a) old all (first.before a p) tail) legal (first.promised a p) below
        ((Decides-is_mark (mark_of t (votes (facts_of a all) i k)) x).0 v)

    pub reported : (a : ℕ) → voters a ≡ true → q a ≡ true → Below (voted_below (mine a) i m) k → ⊥
    reported a v p = voted_below-most (mine a) i k m t x (kept a v p) below

    pub inside : (a : ℕ) → In a cs → q a ≡ true → In (report (mine a) i m) rs
    inside a h p = In-reports first.at_time i m a (members q cs) (In-members q a cs h p)

    pub met : (a : ℕ) × In a cs × (voters a ≡ true) × (q a ≡ true)
    met = some_common voters q cs (omega (arith, length-centres s.centres, size-classic s sizes k, sizes.two_classic, first.enough, chosen))

    at_top : (a : ℕ) → In a cs → voters a ≡ true → q a ≡ true → top rs ≡ k → voted_below (mine a) i m ≡ k
    at_top a h v p is = same_if_between (voted_below (mine a) i m) k (reported a v p)
        (λ over. top-most (report (mine a) i m) rs (inside a h p) (rw is over))

    pub not_under : Below (top rs) k → ⊥
    not_under under = top-most (report (mine met.0) i m) rs (inside met.0 met.1 met.3)
        (Below-over (top rs) k (voted_below (mine met.0) i m) under (reported met.0 met.2 met.3))

    fresh : (AllHeard s old t → ⊥) → (a : ℕ) → q a ≡ true → finished (mine a) t ≡ false
    fresh unheard a p = not_finished s a t (first.at_time a) (Allowed-tail s (first.at_time a) old (first.before a p) allowed)
        (λ h. unheard (heard_tail s t (first.at_time a) old (first.before a p) h))

    gives_there : (AllHeard s old t → ⊥) → (a : ℕ) → voters a ≡ true → q a ≡ true → voted_below (mine a) i m ≡ k →
        mark_of t (report (mine a) i m).marks ≡ Some x
    gives_there unheard a v p is =
        voted-shown (mine a) i t x (votes (mine a) i (voted_below (mine a) i m)) (fresh unheard a p)
        (subst (λ y. mark_of t (votes (mine a) i y) ≡ Some x) (sym is) (kept a v p))

    backed_at : (a : ℕ) → q a ≡ true → (l : Ballot) → Below fast l → HasVoted (mine a) i l → IsBacked (first.at_time a) (mine a) i l
    backed_at a p l classic h = backed s (first.at_time a) a i l classic (Allowed-tail s (first.at_time a) old (first.before a p) allowed) h

    pub safe_base : Safe old → (AllHeard s old t → ⊥) → mark_of t first.base ≡ Some x
    safe_base safe unheard =
        elim (Below-cases (top rs) k) [
          | inl under ↦ absurd (not_under under)
          | inr rest ↦ elim rest [
            | inl same ↦ elim (Below-cases fast k) [
              | inl classic ↦ first.forced t x (inr (
                rw same classic,
                Voices-in (report (mine met.0) i m) rs (top rs) t x (inside met.0 met.1 met.3)
                    (at_top met.0 met.1 met.2 met.3 same ∙ sym same)
                    (gives_there unheard met.0 met.2 met.3 (at_top met.0 met.1 met.2 met.3 same)),
              ))
              | inr more ↦ elim more [
                | inl is_fast ↦
                    let size : size_at s k ≡ s.fast = ap (size_at s) (sym is_fast) in
                    let among : count (λ a. voters a && q a) cs ≤ count (λ a. q a && gives (report (mine a) i m).marks t x) cs =
                    count-le (λ a. voters a && q a) (λ a. q a && gives (report (mine a) i m).marks t x) cs
                    (λ a h both.
                    let parts : (voters a ≡ true) × (q a ≡ true) = and_parts (voters a) (q a) both in
                    and_from (q a) (gives (report (mine a) i m).marks t x) parts.1
                    ((Decides-is_mark (mark_of t (report (mine a) i m).marks) x).1
                    (gives_there unheard a parts.0 parts.1 (at_top a h parts.0 parts.1 same)))) in
                    first.forced t x (inl (
                      same ∙ sym is_fast,
                      omega (arith, length-reports first.at_time i m q cs, count-reports first.at_time i m q t x cs, count_both voters q cs, length-centres s.centres, size, among, chosen),
                    ))
                | inr none ↦ absurd (Below-fast k none)
              ]
            ]
            | inr over ↦ elim (top-there first.at_time i m q (top rs) cs refl) [
              | inl is_fast ↦ absurd (Below-fast k (rw is_fast at over))
              | inr there ↦ elim (voted_below-there (mine there.0) i m (top rs) there.3) [
                | inl is_fast ↦ absurd (Below-fast k (rw is_fast at over))
                | inr voted ↦
                    let classic : Below fast (top rs) = Below-classic k (top rs) over in
                    let b : IsBacked (first.at_time there.0) (mine there.0) i (top rs) = backed_at there.0 there.2 (top rs) classic voted in
                    let sent : WasSent old i (top rs) b.marks = sent_tail i (top rs) b.marks (first.at_time there.0) old (first.before there.0 there.2) b.sent in
                    let vote : mark_of t (votes (mine there.0) i (top rs)) ≡ Some x =
                    b.whole t x (fresh unheard there.0 there.2) ((safe (top rs) b.marks over sent).0 unheard) in
                    first.forced t x (inr (
                      classic,
                      Voices-in (report (mine there.0) i m) rs (top rs) t x (inside there.0 there.1 there.2) there.3
                          (voted-shown (mine there.0) i t x (votes (mine there.0) i (voted_below (mine there.0) i m)) (fresh unheard there.0 there.2)
                          (subst (λ y. mark_of t (votes (mine there.0) i y) ≡ Some x) (sym there.3) vote)),
                    ))
              ]
            ]
          ]
        ]

    pub only_base : Safe old → (y : Mark) → mark_of t first.base ≡ Some y → y ≡ x
    only_base safe y h =
        elim (first.forced_only t y h) [
          | inl by_count ↦ elim (Below-cases fast k) [
            | inl classic ↦ absurd (not_under (rw by_count.0 classic))
            | inr more ↦ elim more [
              | inl is_fast ↦
                  let size : size_at s k ≡ s.fast = ap (size_at s) (sym is_fast) in
                  let enough : s.fast + length rs ≤ s.centres + count (λ r. gives r.marks t y) rs = by_count.1 in
                  let some : (a : ℕ) × In a cs × (voters a ≡ true) × ((q a && gives (report (mine a) i m).marks t y) ≡ true) =
                  some_common voters (λ a. q a && gives (report (mine a) i m).marks t y) cs
                  (omega (arith, length-centres s.centres, length-reports first.at_time i m q cs, count-reports first.at_time i m q t y cs, first.enough, sizes.two_fast, size, chosen, enough)) in
                  let parts : (q some.0 ≡ true) × (gives (report (mine some.0) i m).marks t y ≡ true) = and_parts (q some.0) (gives (report (mine some.0) i m).marks t y) some.3 in
                  let one : mark_of t (votes (mine some.0) i k) ≡ Some x = kept some.0 some.2 parts.0 in
                  let reported_y : mark_of t (votes (mine some.0) i (voted_below (mine some.0) i m)) ≡ Some y =
                  shown-voted (mine some.0) i t y (votes (mine some.0) i (voted_below (mine some.0) i m))
                  ((Decides-is_mark (mark_of t (report (mine some.0) i m).marks) y).0 parts.1) in
                  let ballot : voted_below (mine some.0) i m ≡ fast = all_fast (report (mine some.0) i m) rs (inside some.0 some.1 parts.0) by_count.0 in
                  let other : mark_of t (votes (mine some.0) i k) ≡ Some y = subst (λ b. mark_of t (votes (mine some.0) i b) ≡ Some y) (ballot ∙ is_fast) reported_y in
                  cc
              | inr none ↦ absurd (Below-fast k none)
            ]
          ]
          | inr by_union ↦
              let voice : (r : ReducedReport) × In r rs × (r.ballot ≡ top rs) × (mark_of t r.marks ≡ Some y) = Voices-out (top rs) t y rs by_union.1 in
              let member : (a : ℕ) × (q a ≡ true) × (report (mine a) i m ≡ voice.0) = reports-of first.at_time i m q voice.0 cs voice.1 in
              let ballot : voted_below (mine member.0) i m ≡ top rs = ap (λ (r : ReducedReport). r.ballot) member.2 ∙ voice.2 in
              let given : mark_of t (shown (mine member.0) i (voted_below (mine member.0) i m)) ≡ Some y = ap (λ (r : ReducedReport). mark_of t r.marks) member.2 ∙ voice.3 in
              let vote : mark_of t (votes (mine member.0) i (top rs)) ≡ Some y =
              subst (λ b. mark_of t (votes (mine member.0) i b) ≡ Some y) ballot
              (shown-voted (mine member.0) i t y (votes (mine member.0) i (voted_below (mine member.0) i m)) given) in
              let b : IsBacked (first.at_time member.0) (mine member.0) i (top rs) =
              backed_at member.0 member.1 (top rs) by_union.0 (HasVoted-mark (mine member.0) i (top rs) t y vote) in
              let sent : WasSent old i (top rs) b.marks = sent_tail i (top rs) b.marks (first.at_time member.0) old (first.before member.0 member.1) b.sent in
              let stands : mark_of t b.marks ≡ Some y = b.within t y vote in
              elim (Below-cases (top rs) k) [
                | inl under ↦ absurd (not_under under)
                | inr rest ↦ elim rest [
                  | inl same ↦
                      let mine_x : mark_of t (votes (mine met.0) i (top rs)) ≡ Some x = subst (λ l. mark_of t (votes (mine met.0) i l) ≡ Some x) (sym same) (kept met.0 met.2 met.3) in
                      let c : IsBacked (first.at_time met.0) (mine met.0) i (top rs) =
                      backed_at met.0 met.3 (top rs) by_union.0 (HasVoted-mark (mine met.0) i (top rs) t x mine_x) in
                      let sent_c : WasSent old i (top rs) c.marks = sent_tail i (top rs) c.marks (first.at_time met.0) old (first.before met.0 met.3) c.sent in
                      elim (cases_Option (last_sent old i (top rs))) [
                        | inl none ↦ absurd (sent-last old i (top rs) b.marks sent none)
                        | inr last ↦
                            let first_of : mark_of t last.0 ≡ Some y = chain s old i (top rs) last.0 b.marks allowed last.1 sent t y stands in
                            let second_of : mark_of t last.0 ≡ Some x = chain s old i (top rs) last.0 c.marks allowed last.1 sent_c t x (c.within t x mine_x) in
                            cc
                      ]
                  | inr over ↦ (safe (top rs) b.marks over sent).1 y stands
                ]
              ]
        ]

  safe_entry : (old : List Entry) (b : ℕ) (j : Place) (l : Ballot) (sent : List (TxId × Mark)) (m : Ballot) (marks : List (TxId × Mark)) → IsTail old all → Allowed s old →
      Safe old → Below k m → Meets s old (Valued b j l sent) → j ≡ i → l ≡ m → sent ≡ marks →
      ((AllHeard s old t → ⊥) → mark_of t marks ≡ Some x) × ((y : Mark) → mark_of t marks ≡ Some y → y ≡ x)
  safe_entry old b j l sent m marks tail allowed safe below meets place ballot value =
      rw (← value) (elim meets.1 [
        | inl first' ↦
            let first : IsFirst s old b i m sent = rw (← place, ← ballot) first' in
            let has : (AllHeard s old t → ⊥) → mark_of t sent ≡ Some x =
            λ unheard. Grown-extends s old b i first.base first.steps sent first.grown t x (safe_base old b m sent tail allowed below first safe unheard) in (
              has,
              (λ y h. elim (Grown-cases s old b i first.base first.steps sent first.grown t y h) [
                | inl before ↦ only_base old b m sent tail allowed below first safe y before
                | inr unheard ↦ (let other : mark_of t sent ≡ Some x = has unheard in cc)
              ]),
            )
        | inr next' ↦
            let next : IsNext s old b i m sent = rw (← place, ← ballot) next' in
            let last : ((AllHeard s old t → ⊥) → mark_of t next.last ≡ Some x) × ((y : Mark) → mark_of t next.last ≡ Some y → y ≡ x) =
            safe m next.last below (last-sent old i m next.last next.is_last) in
            let has : (AllHeard s old t → ⊥) → mark_of t sent ≡ Some x = λ unheard. Grown-extends s old b i next.last next.steps sent next.grown t x (last.0 unheard) in (
              has,
              (λ y h. elim (Grown-cases s old b i next.last next.steps sent next.grown t y h) [
                | inl before ↦ last.1 y before
                | inr unheard ↦ (let other : mark_of t sent ≡ Some x = has unheard in cc)
              ]),
            )
      ])

  pub safe : (old : List Entry) → IsTail old all → Safe old
  safe [] tail m marks below value = absurd value
  safe (Happened b f ∷ old) tail m marks below value =
      let before : ((AllHeard s old t → ⊥) → mark_of t marks ≡ Some x) × ((y : Mark) → mark_of t marks ≡ Some y → y ≡ x) =
      safe old (IsTail-drop (Happened b f) old all tail) m marks below value in
      ((λ unheard. before.0 (λ h. unheard (heard_tail s t old (Happened b f ∷ old) (inr (IsTail-same old)) h))), before.1)
  safe (Begun b u ds ∷ old) tail m marks below value = safe old (IsTail-drop (Begun b u ds) old all tail) m marks below value
  safe (Valued b j l sent ∷ old) tail m marks below value =
      let older : IsTail old all = IsTail-drop (Valued b j l sent) old all tail in
      elim value [
        | inl here ↦ safe_entry old b j l sent m marks older (Allowed-tail s old all older legal)
            (safe old older) below (Allowed-tail s (Valued b j l sent ∷ old) all tail legal).1 here.0 here.1 here.2
        | inr there ↦ safe old older m marks below there
      ]

-- a mark chosen below is the mark chosen above
one_mark_below : (s : Setup) → IsSetup s → (es : List Entry) → Allowed s es → (i : Place) (k l : Ballot) (t : TxId) (x y : Mark) →
    Below k l → IsChosen s es i k t x → IsChosen s es i l t y → y ≡ x
one_mark_below s sizes es legal i k l t x y below low high =
    let cs : List ℕ = centres_to s.centres in
    let p : ℕ → Bool = λ a. gives (votes (facts_of a es) i l) t y in
    let met : (a : ℕ) × In a cs × (p a ≡ true) × (p a ≡ true) =
    some_common p p cs (omega (arith, length-centres s.centres, size-classic s sizes l, sizes.two_classic, high)) in
    let vote : mark_of t (votes (facts_of met.0 es) i l) ≡ Some y = (Decides-is_mark (mark_of t (votes (facts_of met.0 es) i l)) y).0 met.2 in
    let b : IsBacked es (facts_of met.0 es) i l = backed s es met.0 i l (Below-classic k l below) legal (HasVoted-mark (facts_of met.0 es) i l t y vote) in
    (safe s sizes es legal i k t x low es (IsTail-same es) l b.marks below b.sent).1 y (b.within t y vote)

one_mark_at : (s : Setup) → IsSetup s → (es : List Entry) → (i : Place) (k : Ballot) (t : TxId) (x y : Mark) →
    IsChosen s es i k t x → IsChosen s es i k t y → x ≡ y
one_mark_at s sizes es i k t x y first second =
    let cs : List ℕ = centres_to s.centres in
    let p : ℕ → Bool = λ a. gives (votes (facts_of a es) i k) t x in
    let r : ℕ → Bool = λ a. gives (votes (facts_of a es) i k) t y in
    let met : (a : ℕ) × In a cs × (p a ≡ true) × (r a ≡ true) =
    some_common p r cs (omega (arith, length-centres s.centres, size-classic s sizes k, sizes.two_classic, first, second)) in
    let one : mark_of t (votes (facts_of met.0 es) i k) ≡ Some x = (Decides-is_mark (mark_of t (votes (facts_of met.0 es) i k)) x).0 met.2 in
    let other : mark_of t (votes (facts_of met.0 es) i k) ≡ Some y = (Decides-is_mark (mark_of t (votes (facts_of met.0 es) i k)) y).0 met.3 in
    cc

pub one_mark : (s : Setup) → IsSetup s → (es : List Entry) → Allowed s es → (i : Place) (k l : Ballot) (t : TxId) (x y : Mark) →
    IsChosen s es i k t x → IsChosen s es i l t y → x ≡ y
one_mark s sizes es legal i k l t x y first second =
    elim (Below-cases k l) [
      | inl below ↦ sym (one_mark_below s sizes es legal i k l t x y below first second)
      | inr rest ↦ elim rest [
        | inl same ↦ one_mark_at s sizes es i k t x y first (subst (λ z. IsChosen s es i z t y) (sym same) second)
        | inr above ↦ one_mark_below s sizes es legal i l k t y x above second first
      ]
    ]

pub in_structures : (s : Setup) → IsSetup s → (all : List Entry) → Allowed s all → (i : Place) (k m : Ballot) (t : TxId) (x : Mark) (old : List Entry) (marks : List (TxId × Mark)) →
    IsChosen s all i k t x → Below k m → IsTail old all → WasSent old i m marks →
    ((AllHeard s old t → ⊥) → mark_of t marks ≡ Some x) × ((y : Mark) → mark_of t marks ≡ Some y → y ≡ x)
in_structures s sizes all legal i k m t x old marks chosen below tail sent =
    safe s sizes all legal i k t x chosen old tail m marks below sent
