-- The committed transactions of an allowed ledger, the newest first, are an order of commits.
use Rattle.std.proofs.Common.{◌≡◌, ℕ, ◌<◌, ◌≤◌, true, List, [], ◌∷◌, length, refl, sym, ap, ◌∙◌, subst, arith, inl, inr, ◌⊎◌, Option, Some, None}
use Rattle.std.proofs.lemmas.Bool.{cases_Bool, false≢true}
use Rattle.std.specs.List.{fold}
use Rattle.mdcc_base.specs.TxId.{tx_eq}
use Rattle.mdcc_base.specs.declared.identifiers.Ballot.{Ballot}
use Rattle.mdcc_base.specs.declared.identifiers.TxId.{TxId}
use Rattle.mdcc_option.specs.declared.choices.Choice.{Choice}
use Rattle.mdcc_option.specs.declared.choices.Mark.{Mark}
use Rattle.mdcc_option.specs.declared.choices.Mark.TheVariants.{Accept}
use Rattle.mdcc_option.specs.declared.choices.Outcome.{Outcome}
use Rattle.mdcc_option.specs.declared.choices.Outcome.TheVariants.{Commit, Abort}
use Rattle.mdcc_option.specs.declared.cluster.Cluster.{Cluster}
use Rattle.mdcc_struct.specs.Maps.{txs_of}
use Rattle.mdcc_struct.specs.declared.options.Options.{Options}
use Rattle.mdcc_def_ledger.specs.Ledger as ledger
use Rattle.mdcc_def_messages.specs.declared.facts.Fact.{Fact}
use Rattle.mdcc_struct.proofs.Reports.{cases_Option}
use Rattle.mdcc_theorem_agreement.proofs.HeardHere.{IsAborted-tail}
use Rattle.mdcc_theorem_agreement.proofs.OneBase.{one_outcome}
use Rattle.mdcc_theorem_agreement.proofs.BegunOnce.{begun_once, WasBegun-more}
use Rattle.mdcc_theorem_agreement.proofs.ReportsCounted.{some_counted, count-le}
use Rattle.mdcc_theorem_agreement.proofs.OutcomeToReduced.{decided}
use Rattle.mdcc_theorem_agreement.proofs.Reduction.{IsSetup-of, reduced, reduced_entry}
use Rattle.mdcc_theorem_agreement.proofs.VersionsLow.{begun-after}
use Rattle.mdcc_theorem_agreement.proofs.LedgersGrow.{IsTail-same, votes_cases}
use Rattle.mdcc_theorem_agreement.proofs.ChosenFound.{quorum_some}
use Rattle.mdcc_theorem_agreement.proofs.SumsWithinRooms.{any_choice}
use Rattle.mdcc_theorem_agreement.proofs.OutcomeFromReduced.{begun_some, outcome_committed}
use Rattle.mdcc_theorem_agreement.proofs.Setups.{IsSetup, count, centres_to}
use Rattle.mdcc_theorem_agreement.proofs.ReducedFacts.{Voted, votes}
use Rattle.mdcc_theorem_agreement.proofs.ReducedLedger.{Entry, Happened, facts_of, WasBegun, IsChoice, IsChosen, IsCommitted, ApartTx, Allowed}
use Rattle.mdcc_theorem_agreement.proofs.ReducedOptions.{In, Place, spot, mark_of, gives}
use Rattle.mdcc_theorem_agreement.proofs.TestsDecide.{Decides-tx, Decides-is_mark}
use Rattle.mdcc_theorem_agreement.proofs.LawsTold.{allowed}
use Rattle.mdcc_theorem_agreement.specs.Laws.{IsLedger}
use Rattle.mdcc_theorem_agreement.proofs.Reduction.{setup_of}
use Rattle.mdcc_theorem_one_copy.proofs.CommitsListed.{onto, onto-append, onto-In, In-onto, news, done, IsNew, news_shows, news_there, news_apart}
use Rattle.mdcc_theorem_one_copy.proofs.CommitsFit.{order_complete}
use Rattle.mdcc_theorem_one_copy.proofs.Sorted.{ascending_apart, ascending_fold, In-fold}
use Rattle.mdcc_theorem_one_copy.proofs.Slots.{IsBatch, IsOrder}
use Rattle.mdcc_theorem_one_copy.proofs.SlotsLeft.{OnceEach}

-- ---- whose outcome may change

mark_key : (os : Options) (t : TxId) (x : Mark) → mark_of t os ≡ Some x → In t (txs_of os)
mark_key [] t x h = absurd (cc)
mark_key (e ∷ os) t x h =
    elim (cases_Bool (tx_eq t e.0)) [
      | inl f ↦ inl (sym ((Decides-tx t e.0).0 f))
      | inr f ↦ inr (mark_key os t x (rw f at h))
    ]

voted_named : (e : ledger.Entry) (a : ℕ) (i : Place) (k : Ballot) (marks : List (TxId × Mark)) (t : TxId) (x : Mark) →
    reduced_entry e ≡ Happened a (Voted i k marks) → mark_of t marks ≡ Some x → In t (ledger.txs_voted e)
voted_named (ledger.Begun b u cs) a i k marks t x is h = absurd (cc)
voted_named (ledger.Valued b key v l os) a i k marks t x is h = absurd (cc)
voted_named (ledger.Added b (Fact.Booted epoch)) a i k marks t x is h = absurd (cc)
voted_named (ledger.Added b (Fact.Floor centre epoch seq)) a i k marks t x is h = absurd (cc)
voted_named (ledger.Added b (Fact.Promised key low high l)) a i k marks t x is h = absurd (cc)
voted_named (ledger.Added b (Fact.Heard u o)) a i k marks t x is h = absurd (cc)
voted_named (ledger.Added b (Fact.Adopted key v item adds)) a i k marks t x is h = absurd (cc)
voted_named (ledger.Added b (Fact.Voted key v l os offered)) a i k marks t x is h =
    let same : os ≡ marks = cc in
    In-fold (txs_of os) [] t (inr (mark_key os t x (ap (mark_of t) same ∙ h)))

chosen_before : (cluster : Cluster) (e : ledger.Entry) (es : List ledger.Entry) (t : TxId) → (In t (ledger.txs_voted e) → ⊥) → (i : Place) (k : Ballot) (x : Mark) →
    IsChosen (setup_of cluster) (reduced (e ∷ es)) i k t x → IsChosen (setup_of cluster) (reduced es) i k t x
chosen_before cluster e es t away i k x h =
    let fewer : count (λ a. gives (votes (facts_of a (reduced (e ∷ es))) i k) t x) (centres_to cluster.quorums.centres)
    ≤ count (λ a. gives (votes (facts_of a (reduced es)) i k) t x) (centres_to cluster.quorums.centres) =
    count-le (λ a. gives (votes (facts_of a (reduced (e ∷ es))) i k) t x) (λ a. gives (votes (facts_of a (reduced es)) i k) t x) (centres_to cluster.quorums.centres)
    (λ a listed g.
    elim (votes_cases a (reduced_entry e) (reduced es) i k t x ((Decides-is_mark (mark_of t (votes (facts_of a (reduced (e ∷ es))) i k)) x).0 g)) [
      | inl before ↦ (Decides-is_mark (mark_of t (votes (facts_of a (reduced es)) i k)) x).1 before
      | inr now ↦ absurd (away (voted_named e a i k now.0 t x now.1 now.2))
    ]) in
    omega arith

In-cases : (t : TxId) (ts : List TxId) → In t ts ⊎ (In t ts → ⊥)
In-cases t [] = inr (λ h. h)
In-cases t (u ∷ ts) =
    elim (cases_Bool (tx_eq u t)) [
      | inl e ↦ inl (inl ((Decides-tx u t).0 e))
      | inr e ↦ elim (In-cases t ts) [
        | inl there ↦ inl (inr there)
        | inr none ↦ inr (λ h. elim h [ inl here ↦ false≢true (sym e ∙ (Decides-tx u t).1 here) | inr there ↦ none there ])
      ]
    ]

first_of_list : (cs : List Choice) → 0 < length cs → (c : Choice) × In c cs
first_of_list [] h = absurd (omega arith)
first_of_list (c ∷ cs) h = (c, inl refl)

committed_before : (cluster : Cluster) → IsSetup (setup_of cluster) → (e : ledger.Entry) (es : List ledger.Entry) → Allowed (setup_of cluster) (reduced (e ∷ es)) → (t : TxId) (cs : List Choice) →
    0 < length cs → (In t (ledger.txs_voted e) → ⊥) → IsCommitted (setup_of cluster) (reduced (e ∷ es)) t cs → IsCommitted (setup_of cluster) (reduced es) t cs
committed_before cluster sizes e es legal t cs some away h =
    let before : (c : Choice) → In c cs → (k : Ballot) × IsChosen (setup_of cluster) (reduced es) (spot c) k t (Accept c) =
    λ c g. ((h.1 c g).0, chosen_before cluster e es t away (spot c) (h.1 c g).0 (Accept c) (h.1 c g).1) in
    let c : (d : Choice) × In d cs = first_of_list cs some in
    let chosen : (k : Ballot) × IsChosen (setup_of cluster) (reduced es) (spot c.0) k t (Accept c.0) = before c.0 c.1 in
    let voter : (a : ℕ) × In a (centres_to cluster.quorums.centres) × (gives (votes (facts_of a (reduced es)) (spot c.0) chosen.0) t (Accept c.0) ≡ true) =
    some_counted (λ a. gives (votes (facts_of a (reduced es)) (spot c.0) chosen.0) t (Accept c.0)) (centres_to cluster.quorums.centres)
    (omega (arith, quorum_some cluster sizes es legal.0 chosen.0, chosen.1)) in
    let vote : mark_of t (votes (facts_of voter.0 (reduced es)) (spot c.0) chosen.0) ≡ Some (Accept c.0) =
    (Decides-is_mark (mark_of t (votes (facts_of voter.0 (reduced es)) (spot c.0) chosen.0)) (Accept c.0)).0 voter.2 in
    let is : (c.0.tx ≡ t) × IsChoice (reduced es) c.0 × (spot c.0 ≡ spot c.0) = any_choice (setup_of cluster) sizes (reduced es) legal.0 (spot c.0) voter.0 chosen.0 t c.0 vote in
    let begun : WasBegun (reduced es) t is.1.0 = subst (λ z. WasBegun (reduced es) z is.1.0) is.0 is.1.1 in
    let same : is.1.0 ≡ cs = begun_once (setup_of cluster) (reduced (e ∷ es)) t is.1.0 cs legal (WasBegun-more (reduced_entry e) (reduced es) t is.1.0 begun) h.0 in
    (subst (WasBegun (reduced es) t) same begun, before)

-- ---- batches

onto_batch : (cluster : Cluster) (e : Entry) (es : List Entry) (xs acc : List (TxId × List Choice)) →
    ((x : TxId × List Choice) → In x xs → IsCommitted (setup_of cluster) (e ∷ es) x.0 x.1 × (IsCommitted (setup_of cluster) es x.0 x.1 → ⊥)) →
    OnceEach xs → ((x y : TxId × List Choice) → In x xs → In y acc → y.0 ≡ x.0 → ⊥) → IsBatch (setup_of cluster) e es acc → IsBatch (setup_of cluster) e es (onto xs acc)
onto_batch cluster e es [] acc known once away h = h
onto_batch cluster e es (x ∷ xs) acc known once away h =
    onto_batch cluster e es xs (x ∷ acc) (λ y g. known y (inr g)) once.1
    (λ y z g k same. elim k [
      | inl here ↦ once.0 y g (sym same ∙ ap (λ (w : TxId × List Choice). w.0) (sym here))
      | inr there ↦ away y z (inr g) there same
    ])
    ((known x (inl refl)).0, (known x (inl refl)).1, (λ y g same. away x y (inl refl) g same), h)

-- the transactions that an entry's votes name stand once
voted_apart : (e : ledger.Entry) → ApartTx (ledger.txs_voted e)
voted_apart (ledger.Begun b u cs) = tt
voted_apart (ledger.Valued b key v l os) = tt
voted_apart (ledger.Added b (Fact.Booted epoch)) = tt
voted_apart (ledger.Added b (Fact.Floor centre epoch seq)) = tt
voted_apart (ledger.Added b (Fact.Promised key low high l)) = tt
voted_apart (ledger.Added b (Fact.Heard u o)) = tt
voted_apart (ledger.Added b (Fact.Adopted key v item adds)) = tt
voted_apart (ledger.Added b (Fact.Voted key v l os offered)) = ascending_apart (fold ledger.with_tx [] (txs_of os)) (ascending_fold (txs_of os) [] tt)

-- ---- the order

none_some : {X : Type 0} (o : Option X) (x : X) → o ≡ None → o ≡ Some x → ⊥
none_some o x g h = let bad : None ≡ Some x = sym g ∙ h in cc

pub ordered : (cluster : Cluster) (es : List ledger.Entry) → IsLedger cluster es → IsOrder (setup_of cluster) (reduced es) (done cluster es)
ordered cluster [] h = refl
ordered cluster (e ∷ es) h =
    let sizes : IsSetup (setup_of cluster) = IsSetup-of cluster h.of_cluster.quorums in
    let now : Allowed (setup_of cluster) (reduced (e ∷ es)) = allowed cluster (e ∷ es) h in
    let before : IsLedger cluster es = record { of_cluster = h.of_cluster; allowed = h.allowed.0; few = omega (arith, h.few, begun-after (e ∷ []) es) } in
    let new : (x : TxId × List Choice) → In x (news cluster e es) → IsCommitted (setup_of cluster) (reduced (e ∷ es)) x.0 x.1 × (IsCommitted (setup_of cluster) (reduced es) x.0 x.1 → ⊥) = λ x g.
    let is : IsNew cluster e es x = news_shows cluster e es x g in (
      decided cluster sizes (e ∷ es) now x.0 (Commit x.1) is.1,
      (λ old. none_some (ledger.outcome_of cluster.quorums es x.0) (Commit x.1) is.2
          (outcome_committed cluster sizes es now.0 x.0 x.1 (begun_some cluster es h.allowed.0 x.0 x.1 old.0) old)),
    ) in
    let once : OnceEach (news cluster e es) = news_apart cluster e es (ledger.txs_voted e) (voted_apart e) in
    let complete : (t : TxId) (cs : List Choice) → IsCommitted (setup_of cluster) (reduced es) t cs → In (t, cs) (done cluster es) =
    λ t cs g. order_complete (setup_of cluster) (reduced es) (done cluster es) (ordered cluster es before) t cs g in (
      onto (news cluster e es) [],
      done cluster es,
      onto-append (news cluster e es) (done cluster es),
      ordered cluster es before,
      onto_batch cluster (reduced_entry e) (reduced es) (news cluster e es) [] new once (λ x y g k same. k) tt,
      (λ t cs g.
          elim (cases_Option (ledger.outcome_of cluster.quorums es t)) [
            | inr some ↦ In-onto (news cluster e es) (done cluster es) (t, cs) (complete t cs (known cluster e es sizes now t cs g some.0 some.1))
            | inl none ↦ elim (In-cases t (ledger.txs_voted e)) [
              | inl named ↦ onto-In (news cluster e es) (done cluster es) (t, cs)
                  (news_there cluster e es (ledger.txs_voted e) t cs named (outcome_committed cluster sizes (e ∷ es) now t cs (begun_some cluster (e ∷ es) h.allowed t cs g.0) g) none)
              | inr away ↦ absurd (
                  let some : 0 < length cs = begun_some cluster (e ∷ es) h.allowed t cs g.0 in
                  none_some (ledger.outcome_of cluster.quorums es t) (Commit cs) none
                  (outcome_committed cluster sizes es now.0 t cs some (committed_before cluster sizes e es now t cs some away g)))
            ]
          ]),
    )
  where
    known : (cluster : Cluster) (e : ledger.Entry) (es : List ledger.Entry) → IsSetup (setup_of cluster) → Allowed (setup_of cluster) (reduced (e ∷ es)) → (t : TxId) (cs : List Choice) →
        IsCommitted (setup_of cluster) (reduced (e ∷ es)) t cs → (o : Outcome) → ledger.outcome_of cluster.quorums es t ≡ Some o → IsCommitted (setup_of cluster) (reduced es) t cs
    known cluster e es sizes now t cs g Abort is =
        absurd (one_outcome (setup_of cluster) sizes (reduced (e ∷ es)) now t cs g
        (IsAborted-tail (setup_of cluster) t (reduced es) (reduced (e ∷ es)) (inr (IsTail-same (reduced es))) (decided cluster sizes es now.0 t Abort is)))
    known cluster e es sizes now t cs g (Commit ds) is =
        let old : IsCommitted (setup_of cluster) (reduced es) t ds = decided cluster sizes es now.0 t (Commit ds) is in
        let same : ds ≡ cs = begun_once (setup_of cluster) (reduced (e ∷ es)) t ds cs now (WasBegun-more (reduced_entry e) (reduced es) t ds old.0) g.0 in
        subst (IsCommitted (setup_of cluster) (reduced es) t) same old
