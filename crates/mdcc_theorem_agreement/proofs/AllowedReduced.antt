-- The reduced ledger of an allowed ledger is allowed. By induction; each step has the laws of the ledger so far.
use Rattle.std.proofs.Common.{◌≡◌, ℕ, ◌≤◌, List, [], ◌∷◌, ◌++◌, sym, ap, ◌∙◌, subst, arith, inl, inr, ◌⊎◌, Option, Some, map, suc, true, zero, ◌+◌, ◌<◌, ◌==◌}
use Rattle.std.proofs.lemmas.Bool.{cases_Bool, not-true, MatchBool-at_true, MatchBool-at_false, and_parts, eq-eqb, eqb-true, leb-false, leb-true, false≢true}
use Rattle.std.specs.Prelude.{not}
use Rattle.mdcc_base.specs.Ballot.{is_fast}
use Rattle.mdcc_base.specs.declared.identifiers.Ballot.{Ballot}
use Rattle.mdcc_base.specs.declared.identifiers.TxId.{TxId}
use Rattle.mdcc_base.specs.declared.key.Key.{Key}
use Rattle.mdcc_option.specs.declared.choices.Choice.{Choice}
use Rattle.mdcc_option.specs.declared.choices.Mark.{Mark}
use Rattle.mdcc_option.specs.declared.choices.Outcome.TheVariants.{Commit, Abort}
use Rattle.mdcc_option.specs.declared.cluster.Cluster.{Cluster}
use Rattle.mdcc_option.specs.declared.items.Delta.{Delta}
use Rattle.mdcc_option.specs.declared.items.Item.{Item}
use Rattle.mdcc_struct.specs.declared.options.Options.{Options}
use Rattle.mdcc_def_ledger.specs.AllowedFacts as facts_allowed
use Rattle.mdcc_def_ledger.specs.AllowedLedgers as full_allowed
use Rattle.mdcc_def_protocol.specs.Facts as full
use Rattle.mdcc_def_ledger.specs.Ledger as ledger
use Rattle.mdcc_def_messages.specs.declared.facts.Fact.{Fact}
use Rattle.mdcc_theorem_agreement.proofs.Ballots.{fast, Below}
use Rattle.mdcc_theorem_agreement.proofs.OutcomeToReduced.{decided}
use Rattle.mdcc_theorem_agreement.proofs.Reduction.{setup_of, IsSetup-of, reduced_fact, reduced, facts_same, delta_pair, tail_after}
use Rattle.mdcc_theorem_agreement.proofs.ChoicesGive.{last_version}
use Rattle.mdcc_theorem_agreement.proofs.HeldReduced.{AllFine, current_same, base_same, executed_listed}
use Rattle.mdcc_theorem_agreement.proofs.LedgersGrow.{Allowed-tail, last-sent}
use Rattle.mdcc_theorem_agreement.specs.Laws.{begins_in}
use Rattle.mdcc_theorem_agreement.proofs.VersionsLow.{all_fine, begun-after}
use Rattle.mdcc_theorem_agreement.proofs.MapValues.{mark_value, Once}
use Rattle.mdcc_theorem_agreement.proofs.BegunReduced.{may_begin}
use Rattle.mdcc_theorem_agreement.proofs.StructuresReduced.{own_marks, classic_ballot, last_same, first_sent, next_sent}
use Rattle.mdcc_theorem_agreement.proofs.VotesReduced.{fast_may, classic_may}
use Rattle.mdcc_theorem_agreement.proofs.Setups.{Setup, IsSetup, centres_to}
use Rattle.mdcc_theorem_agreement.proofs.ReducedFacts.{current, base, executed}
use Rattle.mdcc_theorem_agreement.proofs.ReducedLedger.{Entry, Happened, Begun, Valued, WasSent, last_sent, Step, Grown, IsFirst, IsNext, IsTail, MayAdopt, MayVote, MayHappen, Allowed}
use Rattle.mdcc_theorem_agreement.proofs.ReducedOptions.{In, Place, Distinct}
use Rattle.mdcc_def_protocol.specs.IsCluster.{IsCluster}
use Rattle.mdcc_theorem_agreement.proofs.FloorsReduced.{all_heard}
use Rattle.mdcc_def_protocol.specs.Belongs.{is_centre}
use Rattle.mdcc_theorem_agreement.proofs.TestsDecide.{Decides-ballot}

-- what was sent has no transaction twice
grown_apart : (s : Setup) (es : List Entry) (a : ℕ) (i : Place) (less : List (TxId × Mark)) (steps : List Step) (more : List (TxId × Mark)) → Distinct less → Grown s es a i less steps more → Distinct more
grown_apart s es a i less [] more h g = subst Distinct g h
grown_apart s es a i less (p ∷ ps) more h g = g.2.apart

pub sent_apart : (s : Setup) (es : List Entry) → Allowed s es → (i : Place) (m : Ballot) (marks : List (TxId × Mark)) → WasSent es i m marks → Distinct marks
sent_apart s [] allowed i m marks h = absurd h
sent_apart s (Happened b f ∷ es) allowed i m marks h = sent_apart s es allowed.0 i m marks h
sent_apart s (Begun b t cs ∷ es) allowed i m marks h = sent_apart s es allowed.0 i m marks h
sent_apart s (Valued b j l sent ∷ es) allowed i m marks h =
    elim h [
      | inl here ↦ subst Distinct here.2 (elim allowed.1.1 [
        | inl first ↦ grown_apart s es b j first.base first.steps sent first.apart first.grown
        | inr next ↦ grown_apart s es b j next.last next.steps sent (sent_apart s es allowed.0 j l next.last (last-sent es j l next.last next.is_last)) next.grown
      ])
      | inr there ↦ sent_apart s es allowed.0 i m marks there
    ]

Distinct-Once : (ps : List (TxId × Mark)) → Distinct ps → Once ps
Distinct-Once [] h = tt
Distinct-Once (p ∷ ps) h = (sym (mark_value p.0 ps) ∙ h.0, Distinct-Once ps h.1)

-- a centre of the cluster
range_In : (k n a : ℕ) → k ≤ a → a < k + n → In a (Rattle.std.specs.List.range_with_len k n)
range_In k zero a low high = absurd (omega arith)
range_In k (suc n) a low high =
    elim (cases_Bool (k == a)) [
      | inl e ↦ inl (eqb-true k a e)
      | inr e ↦ inr (range_In (k + 1) n a (let other : (k ≡ a) → ⊥ = λ same. false≢true (sym e ∙ eq-eqb k a same) in above k a low other) (omega arith))
    ]
  where
    above : (x y : ℕ) → x ≤ y → ((x ≡ y) → ⊥) → x + 1 ≤ y
    above x y h other = elim (cases_Bool (Rattle.std.specs.Prelude.nat_le (x + 1) y)) [
      | inl e ↦ leb-true (x + 1) y e
      | inr e ↦ absurd (other (let over : y < x + 1 = leb-false (x + 1) y e in omega arith))
    ]

centre_listed : (cluster : Cluster) (a : ℕ) → is_centre cluster a ≡ true → In a (centres_to cluster.quorums.centres)
centre_listed cluster a h =
    let parts = and_parts _ _ h in
    range_In 1 cluster.quorums.centres a (leb-true _ _ parts.0) (let most : a ≤ cluster.quorums.centres = leb-true _ _ parts.1 in omega arith)

module _ (cluster : Cluster) (is : IsCluster cluster) (es : List ledger.Entry) (allowed : Allowed (setup_of cluster) (reduced es)) (few : begins_in es ≤ last_version) where
  abbrev sizes : IsSetup (setup_of cluster)
  sizes = IsSetup-of cluster is.quorums

  may_adopt : (key : Key) (version : ℕ) (item : Item) (adds : List Delta) (b : ℕ) (later earlier : List ledger.Entry) → full_allowed.WasHeld es key version item adds b later earlier →
      MayAdopt (reduced es) key version item (map delta_pair adds)
  may_adopt key version item adds b later earlier h =
      let tail : IsTail (reduced earlier) (reduced es) = subst (λ z. IsTail (reduced earlier) (reduced z)) (sym h.parts) (tail_after later earlier) in
      let before : Allowed (setup_of cluster) (reduced earlier) = Allowed-tail (setup_of cluster) (reduced earlier) (reduced es) tail allowed in
      let fewer : begins_in earlier ≤ last_version = omega (arith, few, begun-after later earlier, ap begins_in h.parts) in
      let fine : AllFine (ledger.facts_of earlier b) = all_fine (setup_of cluster) earlier before fewer b in
      record {
        giver = b;
        old = reduced earlier;
        before = tail;
        held = ap (λ fs. current fs key) (facts_same b earlier) ∙ current_same (ledger.facts_of earlier b) key fine ∙ h.current;
        base_there = ap (λ fs. base fs key) (facts_same b earlier) ∙ base_same (ledger.facts_of earlier b) key fine ∙ h.base;
        executed_there = λ p g.
            let now : In p (full.executed_of (ledger.facts_of earlier b) key) = subst (In p) (sym h.executed) g in
            let at_version : In p (full.deltas_at (ledger.facts_of earlier b) key version) = subst (λ v. In p (full.deltas_at (ledger.facts_of earlier b) key v)) h.current now in
            subst (λ fs. In p (executed fs (record { key = key; version = version }))) (sym (facts_same b earlier))
            (executed_listed (ledger.facts_of earlier b) (record { key = key; version = version }) p at_version);
      }

  may_vote : (a : ℕ) (key : Key) (version : ℕ) (ballot : Ballot) (options : Options) (offered : Option Choice) →
      facts_allowed.MayAddKind cluster (ledger.facts_of es a) (Fact.Voted key version ballot options offered) →
      full_allowed.IsBacked cluster es a (Fact.Voted key version ballot options offered) → MayVote (setup_of cluster) (reduced es) a (record { key = key; version = version }) ballot options
  may_vote a key version ballot options offered h backed =
      let fine : AllFine (ledger.facts_of es a) = all_fine (setup_of cluster) es allowed few a in
      elim (cases_Bool (is_fast ballot)) [
        | inl e ↦
            let same : ballot ≡ fast = (Decides-ballot ballot fast).0 e in
            subst (λ k. MayVote (setup_of cluster) (reduced es) a (record { key = key; version = version }) k options) (sym same)
            (fast_may cluster sizes is.schema.few es allowed a fine (record { key = key; version = version }) options offered (MatchBool-at_true _ _ e h) (MatchBool-at_true _ _ e backed))
        | inr e ↦ classic_may cluster sizes is.schema.few es allowed a fine (record { key = key; version = version }) ballot options offered e (MatchBool-at_false _ _ e h) (MatchBool-at_false _ _ e backed)
      ]

  may_happen : (a : ℕ) (f : Fact) → facts_allowed.MayAdd cluster (ledger.facts_of es a) f → full_allowed.IsBacked cluster es a f →
      MayHappen (setup_of cluster) (reduced es) a (reduced_fact f)
  may_happen a (Fact.Booted epoch) h backed = tt
  may_happen a (Fact.Floor centre epoch seq) h backed = all_heard cluster es centre epoch seq backed
  may_happen a (Fact.Promised key low high ballot) h backed =
      classic_ballot ballot (ap not h.kind.classic)
  may_happen a (Fact.Voted key version ballot options offered) h backed = may_vote a key version ballot options offered h.kind backed
  may_happen a (Fact.Heard tx (Commit cs)) h backed = decided cluster sizes es allowed tx (Commit cs) backed
  may_happen a (Fact.Heard tx Abort) h backed = decided cluster sizes es allowed tx Abort backed
  may_happen a (Fact.Adopted key version item adds) h backed = may_adopt key version item adds backed.0 backed.1 backed.2 backed.3

  fine_before : (later earlier : List ledger.Entry) → es ≡ later ++ earlier → (b : ℕ) → AllFine (ledger.facts_of earlier b)
  fine_before later earlier parts b =
      let tail : IsTail (reduced earlier) (reduced es) = subst (λ z. IsTail (reduced earlier) (reduced z)) (sym parts) (tail_after later earlier) in
      all_fine (setup_of cluster) earlier (Allowed-tail (setup_of cluster) (reduced earlier) (reduced es) tail allowed) (omega (arith, few, begun-after later earlier, ap begins_in parts)) b

  meets_sent : (a : ℕ) → In a (centres_to cluster.quorums.centres) → (i : Place) (ballot : Ballot) (options : Options) → full_allowed.IsAllowedValued cluster es a i.key i.version ballot options →
      Below fast ballot × (IsFirst (setup_of cluster) (reduced es) a i ballot options ⊎ IsNext (setup_of cluster) (reduced es) a i ballot options)
  meets_sent a centre i ballot options h =
      let fine : AllFine (ledger.facts_of es a) = all_fine (setup_of cluster) es allowed few a in (
        classic_ballot ballot h.classic,
        elim h.made [
          | inl first ↦ inl (first_sent cluster sizes is.schema.few es allowed a centre fine fine_before i ballot options (own_marks es i options h.begun) (not-true _ h.classic) first.0 first.1 first.2)
          | inr next ↦
              let last : last_sent (reduced es) i ballot ≡ Some next.0 = last_same es i ballot ∙ next.2.last_before in
              let once : Once next.0 = Distinct-Once next.0 (sent_apart (setup_of cluster) (reduced es) allowed i ballot next.0 (last-sent (reduced es) i ballot next.0 last)) in
              inr (next_sent cluster sizes is.schema.few es allowed a centre fine fine_before i ballot options (own_marks es i options h.begun) next.0 next.1 once next.2)
        ],
      )

pub allowed_reduced : (cluster : Cluster) → IsCluster cluster → (es : List ledger.Entry) → full_allowed.IsAllowed cluster es → begins_in es ≤ last_version → Allowed (setup_of cluster) (reduced es)
allowed_reduced cluster is [] allowed few = tt
allowed_reduced cluster is (ledger.Added a f ∷ es) allowed few =
    let before : Allowed (setup_of cluster) (reduced es) = allowed_reduced cluster is es allowed.0 (omega arith) in
    (before, may_happen cluster is es before (omega arith) a f allowed.1.1 allowed.1.2)
allowed_reduced cluster is (ledger.Begun a tx choices ∷ es) allowed few =
    let before : Allowed (setup_of cluster) (reduced es) = allowed_reduced cluster is es allowed.0 (omega arith) in
    (before, may_begin cluster es allowed.0 a (all_fine (setup_of cluster) es before (omega arith) a) tx choices allowed.1.1)
allowed_reduced cluster is (ledger.Valued a key version ballot options ∷ es) allowed few =
    let before : Allowed (setup_of cluster) (reduced es) = allowed_reduced cluster is es allowed.0 (omega arith) in
    (before, meets_sent cluster is es before (omega arith) a (centre_listed cluster a allowed.1.0) (record { key = key; version = version }) ballot options allowed.1.1)
