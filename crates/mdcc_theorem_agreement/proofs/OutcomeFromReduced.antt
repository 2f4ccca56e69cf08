-- A transaction that is committed or aborted in the reduced ledger has that outcome, and keeps it.
use Rattle.std.proofs.Common.{◌≡◌, ◌<◌, Bool, true, false, ◌||◌, List, [], ◌∷◌, ◌++◌, length, refl, ap, ◌∙◌, subst, arith, inl, inr, Option, Some, Ok, Err, map}
use Rattle.std.proofs.lemmas.Bool.{lt-ltb}
use Rattle.std.specs.List.{filter_map, list_any, list_all}
use Rattle.std.specs.Option.{option_and_then}
use Rattle.std.specs.Prelude.{is_some, nat_lt}
use Rattle.mdcc_base.specs.declared.identifiers.TxId.{TxId}
use Rattle.mdcc_option.specs.Transaction.{transaction_of}
use Rattle.mdcc_option.specs.declared.choices.Choice.{Choice}
use Rattle.mdcc_option.specs.declared.choices.Mark.{Mark}
use Rattle.mdcc_option.specs.declared.choices.Mark.TheVariants.{Accept, Reject}
use Rattle.mdcc_option.specs.declared.choices.Outcome.{Outcome}
use Rattle.mdcc_option.specs.declared.choices.Outcome.TheVariants.{Commit, Abort}
use Rattle.mdcc_option.specs.declared.cluster.Cluster.{Cluster}
use Rattle.mdcc_option.specs.declared.faults.DraftFault.TheVariants.{Empty}
use Rattle.mdcc_option.specs.declared.items.Part.{Part}
use Rattle.mdcc_def_ledger.specs.AllowedLedgers.{IsAllowed, IsAllowedBegun, part_in}
use Rattle.mdcc_def_ledger.specs.Ledger as ledger
use Rattle.mdcc_def_protocol.specs.Marks.{is_reject_found, choice_in, outcome_of_marks}
use Rattle.mdcc_theorem_agreement.proofs.HeardHere.{IsAborted-tail}
use Rattle.mdcc_theorem_agreement.proofs.OneBase.{IsCommitted-tail}
use Rattle.mdcc_theorem_agreement.proofs.BegunOnce.{begun_once}
use Rattle.mdcc_theorem_agreement.proofs.OutcomeToReduced.{found_begun, decided}
use Rattle.mdcc_theorem_agreement.proofs.Reduction.{setup_of, reduced}
use Rattle.mdcc_theorem_agreement.proofs.ChosenFound.{chosen_found}
use Rattle.mdcc_theorem_agreement.proofs.Setups.{IsSetup}
use Rattle.mdcc_theorem_agreement.proofs.ReducedLedger.{WasBegun, IsAborted, IsCommitted, IsTail, Allowed}
use Rattle.mdcc_theorem_agreement.proofs.ReducedOptions.{In, spot}

parts_some : (cluster : Cluster) (cs : List Choice) (parts : List Part) → transaction_of cluster.schema (map part_in cs) ≡ Ok parts → 0 < length cs
parts_some cluster [] parts h = (let bad : Err Empty ≡ Ok parts = h in absurd (cc))
parts_some cluster (c ∷ cs) parts h = omega arith

-- a transaction has a choice
pub begun_some : (cluster : Cluster) (es : List ledger.Entry) → IsAllowed cluster es → (t : TxId) (cs : List Choice) → WasBegun (reduced es) t cs → 0 < length cs
begun_some cluster [] allowed t cs h = absurd h
begun_some cluster (ledger.Added b f ∷ es) allowed t cs h = begun_some cluster es allowed.0 t cs h
begun_some cluster (ledger.Valued b k v l os ∷ es) allowed t cs h = begun_some cluster es allowed.0 t cs h
begun_some cluster (ledger.Begun b u ds ∷ es) allowed t cs h =
    elim h [
      | inl here ↦ (let may : IsAllowedBegun cluster es b u ds = allowed.1.1 in subst (λ (z : List Choice). 0 < length z) here.1 (parts_some cluster ds (map part_in ds) may.draft))
      | inr there ↦ begun_some cluster es allowed.0 t cs there
    ]

module _ (cluster : Cluster) (sizes : IsSetup (setup_of cluster)) (es : List ledger.Entry) (allowed : Allowed (setup_of cluster) (reduced es)) where
  abbrev mark_at : TxId → Choice → Option Mark
  mark_at t d = ledger.chosen_of cluster.quorums es d.key d.version t

  abbrev marks_at : TxId → List Choice → List (Option Mark)
  marks_at t ds = map (λ choice. ledger.chosen_of cluster.quorums es choice.key choice.version t) ds

  pub begun_is : (t : TxId) (cs : List Choice) → WasBegun (reduced es) t cs → ledger.choices_begun es t ≡ cs
  begun_is t cs h = found_begun es t cs (λ ds g. begun_once (setup_of cluster) (reduced es) t ds cs allowed g h) h

  all_accepted : (t : TxId) (ds : List Choice) → ((d : Choice) → In d ds → mark_at t d ≡ Some (Accept d)) →
      (list_any is_reject_found (marks_at t ds) ≡ false) × (list_all is_some (marks_at t ds) ≡ true) × (filter_map (λ mark. option_and_then choice_in mark) (marks_at t ds) ≡ ds)
  all_accepted t [] h = (refl, refl, refl)
  all_accepted t (d ∷ ds) h =
      let rest = all_accepted t ds (λ e g. h e (inr g)) in
      let here : mark_at t d ≡ Some (Accept d) = h d (inl refl) in
      (rw here rest.0, rw here rest.1, rw here (ap (λ z. d ∷ z) rest.2))

  pub outcome_committed : (t : TxId) (cs : List Choice) → 0 < length cs → IsCommitted (setup_of cluster) (reduced es) t cs → ledger.outcome_of cluster.quorums es t ≡ Some (Commit cs)
  outcome_committed t cs some h =
      let begun : ledger.choices_begun es t ≡ cs = begun_is t cs h.0 in
      let all = all_accepted t cs (λ d g. chosen_found cluster sizes es allowed (spot d) (h.1 d g).0 t (Accept d) (h.1 d g).1) in
      let test : nat_lt 0 (length cs) ≡ true = lt-ltb _ _ some in
      let value : outcome_of_marks (marks_at t cs) ≡ Some (Commit cs) = rw (all.0, all.1, all.2) refl in
      rw begun (rw test value)

  rejected_In : (t : TxId) (ds : List Choice) (d : Choice) → In d ds → mark_at t d ≡ Some Reject → list_any is_reject_found (marks_at t ds) ≡ true
  rejected_In t [] d h g = absurd h
  rejected_In t (e ∷ ds) d h g =
      elim h [
        | inl here ↦ (let now : mark_at t e ≡ Some Reject = ap (mark_at t) here ∙ g in rw now refl)
        | inr there ↦ or_right (is_reject_found (mark_at t e)) (list_any is_reject_found (marks_at t ds)) (rejected_In t ds d there g)
      ]
    where
      or_right : (p q : Bool) → q ≡ true → (p || q) ≡ true
      or_right true q k = refl
      or_right false q k = k

  In-some : (c : Choice) (cs : List Choice) → In c cs → 0 < length cs
  In-some c [] h = absurd h
  In-some c (d ∷ cs) h = omega arith

  pub outcome_aborted : (t : TxId) → IsAborted (setup_of cluster) (reduced es) t → ledger.outcome_of cluster.quorums es t ≡ Some Abort
  outcome_aborted t (c, k, (cs, began, listed), own, chosen) =
      let begun : ledger.choices_begun es t ≡ cs = begun_is t cs (subst (λ z. WasBegun (reduced es) z cs) own began) in
      let mark : mark_at t c ≡ Some Reject = chosen_found cluster sizes es allowed (spot c) k t Reject chosen in
      let test : nat_lt 0 (length cs) ≡ true = lt-ltb _ _ (In-some c cs listed) in
      let value : outcome_of_marks (marks_at t cs) ≡ Some Abort = rw (rejected_In t cs c listed mark) refl in
      rw begun (rw test value)

-- an outcome stays
tail_after : (later earlier : List ledger.Entry) → IsTail (reduced earlier) (reduced (later ++ earlier))
tail_after [] earlier = Rattle.mdcc_theorem_agreement.proofs.LedgersGrow.IsTail-same (reduced earlier)
tail_after (e ∷ later) earlier = inr (tail_after later earlier)

pub outcome_stays : (cluster : Cluster) → IsSetup (setup_of cluster) → (later es : List ledger.Entry) → Allowed (setup_of cluster) (reduced es) → Allowed (setup_of cluster) (reduced (later ++ es)) →
    IsAllowed cluster es → (t : TxId) (o : Outcome) → ledger.outcome_of cluster.quorums es t ≡ Some o → ledger.outcome_of cluster.quorums (later ++ es) t ≡ Some o
outcome_stays cluster sizes later es allowed more full t (Commit cs) h =
    let committed : IsCommitted (setup_of cluster) (reduced es) t cs = decided cluster sizes es allowed t (Commit cs) h in
    outcome_committed cluster sizes (later ++ es) more t cs (begun_some cluster es full t cs committed.0)
    (IsCommitted-tail (setup_of cluster) t cs (reduced es) (reduced (later ++ es)) (tail_after later es) committed)
outcome_stays cluster sizes later es allowed more full t Abort h =
    outcome_aborted cluster sizes (later ++ es) more t
    (IsAborted-tail (setup_of cluster) t (reduced es) (reduced (later ++ es)) (tail_after later es) (decided cluster sizes es allowed t Abort h))
