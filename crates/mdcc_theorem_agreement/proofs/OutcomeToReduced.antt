-- A transaction with an outcome is committed or aborted in the reduced ledger.
use Rattle.std.proofs.Common.{◌≡◌, ℕ, suc, ◌+◌, ◌<◌, ◌≤◌, Bool, true, false, cond, ◌&&◌, List, [], ◌∷◌, length, refl, sym, ap, ◌∙◌, subst, arith, inl, inr, ◌⊎◌, Option, Some, None, map}
use Rattle.std.proofs.lemmas.Bool.{cases_Bool, false≢true, and_parts, or_cases, ltb-true}
use Rattle.std.specs.List.{filter_map, list_any, list_all}
use Rattle.std.specs.Option.{option_and_then}
use Rattle.std.specs.Prelude.{is_some, nat_lt}
use Rattle.mdcc_base.specs.TxId.{tx_eq}
use Rattle.mdcc_base.specs.declared.identifiers.Ballot.{Ballot}
use Rattle.mdcc_base.specs.declared.identifiers.TxId.{TxId}
use Rattle.mdcc_option.specs.declared.choices.Choice.{Choice}
use Rattle.mdcc_option.specs.declared.choices.Mark.{Mark}
use Rattle.mdcc_option.specs.declared.choices.Mark.TheVariants.{Accept, Reject}
use Rattle.mdcc_option.specs.declared.choices.Outcome.{Outcome}
use Rattle.mdcc_option.specs.declared.choices.Outcome.TheVariants.{Commit, Abort}
use Rattle.mdcc_option.specs.declared.cluster.Cluster.{Cluster}
use Rattle.mdcc_def_ledger.specs.Ledger as ledger
use Rattle.mdcc_def_protocol.specs.Marks.{is_reject_found, choice_in, outcome_of_marks}
use Rattle.mdcc_theorem_agreement.proofs.BegunOnce.{begun_own, one_choice}
use Rattle.mdcc_theorem_agreement.proofs.ReportsCounted.{some_counted}
use Rattle.mdcc_theorem_agreement.proofs.Reduction.{setup_of, reduced}
use Rattle.mdcc_theorem_agreement.proofs.ChosenFound.{chosen_of-shows, quorum_some}
use Rattle.mdcc_theorem_agreement.proofs.SumsWithinRooms.{any_choice}
use Rattle.mdcc_theorem_agreement.proofs.Setups.{IsSetup, centres_to}
use Rattle.mdcc_theorem_agreement.proofs.ReducedFacts.{votes}
use Rattle.mdcc_theorem_agreement.proofs.ReducedLedger.{facts_of, WasBegun, IsChoice, IsChosen, IsAborted, IsCommitted, Allowed}
use Rattle.mdcc_theorem_agreement.proofs.ReducedOptions.{In, spot, mark_of, gives}
use Rattle.mdcc_theorem_agreement.proofs.TestsDecide.{Decides-tx, Decides-is_mark}
use Rattle.mdcc_theorem_agreement.proofs.ViewsReduced.{chosen_reduced}

-- what was begun, as computed
pub begun_found : (es : List ledger.Entry) (t : TxId) → 0 < length (ledger.choices_begun es t) → WasBegun (reduced es) t (ledger.choices_begun es t)
begun_found [] t h = absurd (omega arith)
begun_found (ledger.Added b f ∷ es) t h = begun_found es t h
begun_found (ledger.Valued b key v k os ∷ es) t h = begun_found es t h
begun_found (ledger.Begun b u cs ∷ es) t h =
    elim (cases_Bool (tx_eq u t)) [
      | inl e ↦ rw e (inl ((Decides-tx u t).0 e, refl))
      | inr e ↦ (let more : 0 < length (ledger.choices_begun es t) = rw e at h in rw e (inr (begun_found es t more)))
    ]

-- and the other way, where an identifier is begun once
pub found_begun : (es : List ledger.Entry) (t : TxId) (cs : List Choice) → ((ds : List Choice) → WasBegun (reduced es) t ds → ds ≡ cs) → WasBegun (reduced es) t cs → ledger.choices_begun es t ≡ cs
found_begun [] t cs one h = absurd h
found_begun (ledger.Added b f ∷ es) t cs one h = found_begun es t cs one h
found_begun (ledger.Valued b key v k os ∷ es) t cs one h = found_begun es t cs one h
found_begun (ledger.Begun b u ds ∷ es) t cs one h =
    elim (cases_Bool (tx_eq u t)) [
      | inl e ↦ rw e (one ds (inl ((Decides-tx u t).0 e, refl)))
      | inr e ↦ rw e (elim h [
        | inl here ↦ absurd (false≢true (sym e ∙ (Decides-tx u t).1 here.0))
        | inr there ↦ found_begun es t cs (λ gs g. one gs (inr g)) there
      ])
    ]

module _ (cluster : Cluster) (sizes : IsSetup (setup_of cluster)) (es : List ledger.Entry) (allowed : Allowed (setup_of cluster) (reduced es)) where
  -- the choice that is chosen is the transaction's own
  pub chosen_own : (t : TxId) (d : Choice) (k : Ballot) (c : Choice) → IsChoice (reduced es) d → d.tx ≡ t → IsChosen (setup_of cluster) (reduced es) (spot d) k t (Accept c) → c ≡ d
  chosen_own t d k c begun own h =
      let voter : (a : ℕ) × In a (centres_to cluster.quorums.centres) × (gives (votes (facts_of a (reduced es)) (spot d) k) t (Accept c) ≡ true) =
      some_counted (λ a. gives (votes (facts_of a (reduced es)) (spot d) k) t (Accept c)) (centres_to cluster.quorums.centres) (omega (arith, quorum_some cluster sizes es allowed k)) in
      let vote : mark_of t (votes (facts_of voter.0 (reduced es)) (spot d) k) ≡ Some (Accept c) =
      (Decides-is_mark (mark_of t (votes (facts_of voter.0 (reduced es)) (spot d) k)) (Accept c)).0 voter.2 in
      let is : (c.tx ≡ t) × IsChoice (reduced es) c × (spot c ≡ spot d) = any_choice (setup_of cluster) sizes (reduced es) allowed (spot d) voter.0 k t c vote in
      one_choice (setup_of cluster) (reduced es) c d allowed is.1 begun (is.0 ∙ sym own) is.2

  abbrev mark_at : TxId → Choice → Option Mark
  mark_at t d = ledger.chosen_of cluster.quorums es d.key d.version t

  abbrev marks_at : TxId → List Choice → List (Option Mark)
  marks_at t ds = map (λ choice. ledger.chosen_of cluster.quorums es choice.key choice.version t) ds

  rejected_one : (t : TxId) (ds : List Choice) → list_any is_reject_found (marks_at t ds) ≡ true → (d : Choice) × In d ds × (mark_at t d ≡ Some Reject)
  rejected_one t [] h = absurd (cc)
  rejected_one t (d ∷ ds) h =
      elim (or_cases (is_reject_found (mark_at t d)) (list_any is_reject_found (marks_at t ds)) h) [
        | inl here ↦ (d, inl refl, is_one (mark_at t d) here)
        | inr there ↦ (let k : (e : Choice) × In e ds × (mark_at t e ≡ Some Reject) = rejected_one t ds there in (k.0, inr k.1, k.2))
      ]
    where
      is_one : (o : Option Mark) → is_reject_found o ≡ true → o ≡ Some Reject
      is_one None g = absurd (cc)
      is_one (Some (Accept c)) g = absurd (cc)
      is_one (Some Reject) g = refl

  -- where all are chosen and none rejected, the marks have the choices themselves
  accepted_all : (t : TxId) (ds : List Choice) → ((d : Choice) → In d ds → IsChoice (reduced es) d × (d.tx ≡ t)) →
      list_any is_reject_found (marks_at t ds) ≡ false → list_all is_some (marks_at t ds) ≡ true →
      (filter_map (λ mark. option_and_then choice_in mark) (marks_at t ds) ≡ ds) × ((d : Choice) → In d ds → (k : Ballot) × IsChosen (setup_of cluster) (reduced es) (spot d) k t (Accept d))
  accepted_all t [] own none all = (refl, (λ d h. absurd h))
  accepted_all t (d ∷ ds) own none all =
      let parts : (is_some (mark_at t d) ≡ true) × (list_all is_some (marks_at t ds) ≡ true) = and_parts _ _ all in
      let clear : (is_reject_found (mark_at t d) ≡ false) × (list_any is_reject_found (marks_at t ds) ≡ false) = or_false (is_reject_found (mark_at t d)) (list_any is_reject_found (marks_at t ds)) none in
      let rest : (filter_map (λ mark. option_and_then choice_in mark) (marks_at t ds) ≡ ds) × ((e : Choice) → In e ds → (k : Ballot) × IsChosen (setup_of cluster) (reduced es) (spot e) k t (Accept e)) =
      accepted_all t ds (λ e h. own e (inr h)) clear.1 parts.1 in
      let some : (c : Choice) × (mark_at t d ≡ Some (Accept c)) = accept_one (mark_at t d) parts.0 clear.0 in
      let shown : (k : Ballot) × (ledger.is_chosen_at cluster.quorums es d.key d.version k t (Accept some.0) ≡ true) = chosen_of-shows cluster es d.key d.version t (Accept some.0) some.1 in
      let chosen : IsChosen (setup_of cluster) (reduced es) (spot d) shown.0 t (Accept some.0) = chosen_reduced cluster es (spot d) shown.0 t (Accept some.0) shown.1 in
      let same : some.0 ≡ d = chosen_own t d shown.0 some.0 (own d (inl refl)).0 (own d (inl refl)).1 chosen in (
        rw some.1 (ap (λ z. z ∷ filter_map (λ mark. option_and_then choice_in mark) (marks_at t ds)) same ∙ ap (λ z. d ∷ z) rest.0),
        (λ e h. elim h [
          | inl here ↦ subst (λ z. (k : Ballot) × IsChosen (setup_of cluster) (reduced es) (spot z) k t (Accept z)) here
              (shown.0, subst (λ z. IsChosen (setup_of cluster) (reduced es) (spot d) shown.0 t (Accept z)) same chosen)
          | inr there ↦ rest.1 e there
        ]),
      )
    where
      or_false : (p q : Bool) → Rattle.std.proofs.Common.◌||◌ p q ≡ false → (p ≡ false) × (q ≡ false)
      or_false true q g = absurd (cc)
      or_false false q g = (refl, g)

      accept_one : (o : Option Mark) → is_some o ≡ true → is_reject_found o ≡ false → (c : Choice) × (o ≡ Some (Accept c))
      accept_one None g k = absurd (cc)
      accept_one (Some (Accept c)) g k = (c, refl)
      accept_one (Some Reject) g k = absurd (cc)

  abbrev begun_as : TxId → List Choice
  begun_as t = ledger.choices_begun es t

  begun_choices : (t : TxId) → 0 < length (begun_as t) → (d : Choice) → In d (begun_as t) → IsChoice (reduced es) d × (d.tx ≡ t)
  begun_choices t some d h =
      let begun : WasBegun (reduced es) t (begun_as t) = begun_found es t some in
      let own : d.tx ≡ t = begun_own (setup_of cluster) (reduced es) t (begun_as t) allowed begun d h in
      ((begun_as t, rw own begun, h), own)

  -- from the computed outcome
  abbrev pub Decided : TxId → Outcome → Type 0
  Decided t (Commit cs) = IsCommitted (setup_of cluster) (reduced es) t cs
  Decided t Abort = IsAborted (setup_of cluster) (reduced es) t

  decided_marks : (t : TxId) (o : Outcome) → 0 < length (begun_as t) → outcome_of_marks (marks_at t (begun_as t)) ≡ Some o → Decided t o
  decided_marks t o some h =
      elim (cases_Bool (list_any is_reject_found (marks_at t (begun_as t)))) [
        | inl e ↦
            let is : Some Abort ≡ Some o = rw e at h in
            let outcome : Abort ≡ o = cc in
            let one : (d : Choice) × In d (begun_as t) × (mark_at t d ≡ Some Reject) = rejected_one t (begun_as t) e in
            let shown : (k : Ballot) × (ledger.is_chosen_at cluster.quorums es one.0.key one.0.version k t Reject ≡ true) = chosen_of-shows cluster es one.0.key one.0.version t Reject one.2 in
            let own : IsChoice (reduced es) one.0 × (one.0.tx ≡ t) = begun_choices t some one.0 one.1 in
            subst (Decided t) outcome (one.0, shown.0, own.0, own.1, chosen_reduced cluster es (spot one.0) shown.0 t Reject shown.1)
        | inr e ↦ elim (cases_Bool (list_all is_some (marks_at t (begun_as t)))) [
          | inl f ↦
              let all : (filter_map (λ mark. option_and_then choice_in mark) (marks_at t (begun_as t)) ≡ begun_as t) × ((d : Choice) → In d (begun_as t) → (k : Ballot) × IsChosen (setup_of cluster) (reduced es) (spot d) k t (Accept d)) =
              accepted_all t (begun_as t) (λ d g. begun_choices t some d g) e f in
              let is : Some (Commit (filter_map (λ mark. option_and_then choice_in mark) (marks_at t (begun_as t)))) ≡ Some o = rw (e, f) at h in
              let outcome : Commit (filter_map (λ mark. option_and_then choice_in mark) (marks_at t (begun_as t))) ≡ o = cc in
              subst (Decided t) (ap Commit (sym all.0) ∙ outcome) (begun_found es t some, all.1)
          | inr f ↦ (let bad : None ≡ Some o = rw (e, f) at h in absurd (cc))
        ]
      ]

  pub decided : (t : TxId) (o : Outcome) → ledger.outcome_of cluster.quorums es t ≡ Some o → Decided t o
  decided t o h =
      elim (cases_Bool (nat_lt 0 (length (begun_as t)))) [
        | inl e ↦ decided_marks t o (ltb-true 0 (length (begun_as t)) e) (rw e at h)
        | inr e ↦ (let bad : None ≡ Some o = rw e at h in absurd (cc))
      ]
