-- What is held, told of ledgers as they are defined.
use Rattle.std.proofs.Common.{◌≡◌, ℕ, List, refl, sym, ap, ◌∙◌, subst, arith, inl, inr, Option, Some, None, Contains}
use Rattle.mdcc_base.specs.declared.identifiers.TxId.{TxId}
use Rattle.mdcc_base.specs.declared.key.Key.{Key}
use Rattle.mdcc_option.specs.declared.choices.Choice.{Choice}
use Rattle.mdcc_option.specs.declared.choices.Outcome.TheVariants.{Commit}
use Rattle.mdcc_option.specs.declared.cluster.Cluster.{Cluster}
use Rattle.mdcc_option.specs.declared.items.Item.{Item}
use Rattle.mdcc_def_protocol.specs.Facts as full
use Rattle.mdcc_def_ledger.specs.Ledger as ledger
use Rattle.mdcc_def_protocol.specs.Marks.{Amounts}
use Rattle.mdcc_theorem_agreement.specs.Laws.{IsLedger, IsCommit}
use Rattle.mdcc_theorem_agreement.proofs.OneBase as bases
use Rattle.mdcc_theorem_agreement.proofs.OutcomeToReduced.{decided}
use Rattle.mdcc_theorem_agreement.proofs.HeldReduced.{current_same, base_same, executed_listed}
use Rattle.mdcc_theorem_agreement.proofs.LedgersGrow.{IsTail-same}
use Rattle.mdcc_theorem_agreement.proofs.Reduction.{setup_of, reduced, facts_same}
use Rattle.mdcc_theorem_agreement.proofs.OutcomeFromReduced.{begun_some, outcome_committed}
use Rattle.mdcc_theorem_agreement.proofs.ReducedFacts.{current, base, executed}
use Rattle.mdcc_theorem_agreement.proofs.ReducedLedger as small
use Rattle.mdcc_theorem_agreement.proofs.ReducedLedger.{facts_of, Holds}
use Rattle.mdcc_theorem_agreement.proofs.ReducedOptions.{In}
use Rattle.mdcc_theorem_agreement.proofs.TestsDecide.{same_place}
use Rattle.mdcc_theorem_agreement.proofs.LawsTold.{setup_fine, allowed, fine}
use Rattle.mdcc_theorem_bounds.specs.Held.{IsWrite, IsBase, IsCommittedAdd}
use Rattle.mdcc_theorem_bounds.proofs.Among.{Contains-In, In-Contains}
use Rattle.mdcc_theorem_bounds.proofs.ExecutedCommitted.{CommittedAdd, executed_committed}

module _ (cluster : Cluster) (es : List ledger.Entry) (h : IsLedger cluster es) where
  commit_told : (t : TxId) (cs : List Choice) → small.IsCommitted (setup_of cluster) (reduced es) t cs → IsCommit cluster es t cs
  commit_told t cs g = outcome_committed cluster (setup_fine cluster es h) es (allowed cluster es h) t cs (begun_some cluster es h.allowed t cs g.0) g

  commit_reduced : (t : TxId) (cs : List Choice) → IsCommit cluster es t cs → small.IsCommitted (setup_of cluster) (reduced es) t cs
  commit_reduced t cs g = decided cluster (setup_fine cluster es h) es (allowed cluster es h) t (Commit cs) g

  base_told : (key : Key) (v : ℕ) (item : Option Item) → Holds (setup_of cluster) (reduced es) key v item → IsBase cluster es key v item
  base_told key v None (inl first) = first.0
  base_told key v None (inr (cs, t, g, (c, seen, body, listed, on, number, is, item))) = absurd (cc)
  base_told key v (Some item) (inl first) = absurd (let bad : Some item ≡ None = first.1 in cc)
  base_told key v (Some item) (inr (cs, t, g, (c, seen, body, listed, on, number, is, item_is))) = (
    c.version,
    omega arith,
    t,
    cs,
    c,
    seen,
    record {
      committed = record { outcome = commit_told t cs g; one_of = Contains-In cs c listed; of_key = on; of_version = refl };
      writes = (let same : item ≡ body = cc in subst (λ z. c.update ≡ Rattle.mdcc_option.specs.declared.items.Update.Update.Write z seen) (sym same) is);
    },
  )

  pub base_reduced : (key : Key) (v : ℕ) (item : Option Item) → IsBase cluster es key v item → Holds (setup_of cluster) (reduced es) key v item
  base_reduced key v None g = inl (g, refl)
  base_reduced key v (Some item) (before, next, t, cs, c, seen, w) =
      inr (cs, t, commit_reduced t cs w.committed.outcome, (c, seen, item, In-Contains cs c w.committed.one_of, w.committed.of_key, (let at_before : c.version ≡ before = w.committed.of_version in omega arith), w.writes, refl))

  pub held_base : (a : ℕ) (key : Key) → IsBase cluster es key (full.current_of (ledger.facts_of es a) key) (full.base_of (ledger.facts_of es a) key)
  held_base a key =
      let there : Holds (setup_of cluster) (reduced es) key (current (facts_of a (reduced es)) key) (base (facts_of a (reduced es)) key) =
      bases.holds (setup_of cluster) (setup_fine cluster es h) (reduced es) (allowed cluster es h) (reduced es) (IsTail-same (reduced es)) a key in
      let number : current (facts_of a (reduced es)) key ≡ full.current_of (ledger.facts_of es a) key = ap (λ fs. current fs key) (facts_same a es) ∙ current_same (ledger.facts_of es a) key (fine cluster es h a) in
      let item : base (facts_of a (reduced es)) key ≡ full.base_of (ledger.facts_of es a) key = ap (λ fs. base fs key) (facts_same a es) ∙ base_same (ledger.facts_of es a) key (fine cluster es h a) in
      subst (λ v. IsBase cluster es key v (full.base_of (ledger.facts_of es a) key)) number
      (subst (IsBase cluster es key (current (facts_of a (reduced es)) key)) item (base_told key (current (facts_of a (reduced es)) key) (base (facts_of a (reduced es)) key) there))

  pub one_write : (key : Key) (version : ℕ) (t t' : TxId) (cs cs' : List Choice) (c d : Choice) (item item' : Item) (seen seen' : List TxId) →
      IsWrite cluster es key version t cs c item seen → IsWrite cluster es key version t' cs' d item' seen' → c ≡ d
  one_write key version t t' cs cs' c d item item' seen seen' g f =
      bases.same_write (setup_of cluster) (setup_fine cluster es h) (reduced es) (allowed cluster es h) cs cs' t t' c d item item' seen seen'
      (commit_reduced t cs g.committed.outcome) (commit_reduced t' cs' f.committed.outcome)
      (In-Contains cs c g.committed.one_of) (In-Contains cs' d f.committed.one_of)
      (same_place _ _ (g.committed.of_key ∙ sym f.committed.of_key, g.committed.of_version ∙ sym f.committed.of_version)) g.writes f.writes

  pub one_base : (key : Key) (v : ℕ) (x y : Option Item) → IsBase cluster es key v x → IsBase cluster es key v y → x ≡ y
  one_base key v x y g f = bases.one_base (setup_of cluster) (setup_fine cluster es h) (reduced es) (allowed cluster es h) key v x y (base_reduced key v x g) (base_reduced key v y f)

  pub held_deltas : (a : ℕ) (key : Key) (p : TxId × Amounts) → Contains (full.executed_of (ledger.facts_of es a) key) p → IsCommittedAdd cluster es key (full.current_of (ledger.facts_of es a) key) p
  held_deltas a key p g =
      let listed = executed_listed (ledger.facts_of es a) (record { key = key; version = full.current_of (ledger.facts_of es a) key }) p (In-Contains (full.executed_of (ledger.facts_of es a) key) p g) in
      let add : CommittedAdd (setup_of cluster) (reduced es) p (record { key = key; version = full.current_of (ledger.facts_of es a) key }) =
      executed_committed (setup_of cluster) (reduced es) (allowed cluster es h) (reduced es) (IsTail-same (reduced es)) a (record { key = key; version = full.current_of (ledger.facts_of es a) key }) p
      (subst (λ fs. In p (executed fs (record { key = key; version = full.current_of (ledger.facts_of es a) key }))) (sym (facts_same a es)) listed) in (
        add.0,
        add.2,
        record { outcome = commit_told p.0 add.0 add.1; one_of = Contains-In add.0 add.2 add.3; of_key = ap (λ z. z.key) add.4; of_version = ap (λ z. z.version) add.4 },
        add.5,
      )
