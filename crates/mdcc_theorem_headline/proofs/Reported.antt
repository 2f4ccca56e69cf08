-- In an allowed ledger each outcome and each read is told of the committed transactions.
use Rattle.std.proofs.Common.{Contains, List, None, Option, Some, [], ap, arith, inl, inr, refl, subst, sym, true, ℕ, ◌++◌, ◌+◌, ◌∙◌, ◌∷◌, ◌≡◌}
use Rattle.std.proofs.lemmas.Bool.{cases_Bool}
use Rattle.std.specs.List.{enumerate_from}
use Rattle.std.specs.Prelude.{fold, map, option_map, ℤ, ◌+ℤ◌}
use Rattle.mdcc_base.specs.TxId.{tx_eq}
use Rattle.mdcc_base.specs.declared.identifiers.TxId.{TxId}
use Rattle.mdcc_base.specs.declared.key.Key.{Key}
use Rattle.mdcc_option.specs.Held.{Held}
use Rattle.mdcc_option.specs.OneCopy.{amount_at, read_value, seen_of, shown, value_after, values_after}
use Rattle.mdcc_option.specs.Parts
use Rattle.mdcc_option.specs.declared.choices.Choice.{Choice}
use Rattle.mdcc_option.specs.declared.choices.Outcome.{Outcome}
use Rattle.mdcc_option.specs.declared.cluster.Cluster.{Cluster}
use Rattle.mdcc_option.specs.declared.items.Delta.{Delta}
use Rattle.mdcc_option.specs.declared.items.Item.{Item}
use Rattle.mdcc_struct.specs.Maps.{TxMap, txs_of}
use Rattle.mdcc_def_ledger.specs.AllowedLedgers.{IsAllowed, part_in}
use Rattle.mdcc_def_protocol.specs.Facts.{base_of, current_of, deltas_at, deltas_from, executed_of}
use Rattle.mdcc_def_ledger.specs.Ledger.{Added, Entry, choices_begun, committed_of, facts_of, outcome_of}
use Rattle.mdcc_def_protocol.specs.Marks.{Amounts}
use Rattle.mdcc_def_protocol.specs.Visible
use Rattle.mdcc_def_protocol.specs.Visible.{item_read, value_read}
use Rattle.mdcc_def_simulation.specs.Clients.{known_of_reading}
use Rattle.mdcc_def_messages.specs.declared.facts.Fact.{Fact}
use Rattle.mdcc_theorem_agreement.specs.Laws.{IsAbort, IsCommit, IsLedger}
use Rattle.mdcc_theorem_agreement.proofs.BegunOnce.{begun_own}
use Rattle.mdcc_theorem_agreement.proofs.LawsTold.{allowed, commit_begun, outcome_kept, setup_fine}
use Rattle.mdcc_theorem_agreement.proofs.OutcomeFromReduced.{begun_some}
use Rattle.mdcc_theorem_agreement.proofs.OutcomeToReduced.{decided}
use Rattle.mdcc_theorem_agreement.proofs.ReducedLedger.{WasBegun}
use Rattle.mdcc_theorem_agreement.proofs.ReducedOptions.{In}
use Rattle.mdcc_theorem_agreement.proofs.Reduction.{reduced, setup_of}
use Rattle.mdcc_theorem_bounds.specs.Held.{IsBase, IsCommittedAdd}
use Rattle.mdcc_theorem_bounds.proofs.Among.{Contains-In, In-Contains}
use Rattle.mdcc_theorem_bounds.proofs.HeldTold.{held_base, held_deltas}
use Rattle.mdcc_theorem_one_copy.proofs.CommitsRun.{commits_each, commits_only}
use Rattle.mdcc_theorem_one_copy.proofs.Sorted.{After, Ascending, Decides-tx_lt, ascending_union}
use Rattle.mdcc_def_right_reads.specs.RightReads.{IsAdded, IsReadOf, IsWritten, are_txs_ascending}
use Rattle.mdcc_theorem_headline.specs.Truth.{IsReportedAbort, IsReportedCommit, IsReportedRead, IsWhole}
use Rattle.mdcc_theorem_agreement.proofs.VersionsLow.{begun-after}

-- ---- the ledger at an earlier time

allowed-before : (cluster : Cluster) (later es : List Entry) → IsAllowed cluster (later ++ es) → IsAllowed cluster es
allowed-before cluster [] es h = h
allowed-before cluster (e ∷ later) es h = allowed-before cluster later es h.0

pub ledger-before : (cluster : Cluster) (later es : List Entry) → IsLedger cluster (later ++ es) → IsLedger cluster es
ledger-before cluster later es h = record {
  of_cluster = h.of_cluster;
  allowed = allowed-before cluster later es h.allowed;
  few = omega (arith, h.few, begun-after later es);
}

-- ---- begun transactions

begun-ascending : (cluster : Cluster) (es : List Entry) (tx : TxId) → IsAllowed cluster es → Parts.are_parts_ascending (map part_in (choices_begun es tx)) ≡ true
begun-ascending cluster [] tx h = refl
begun-ascending cluster (Added a fact ∷ es) tx h = begun-ascending cluster es tx h.0
begun-ascending cluster (Entry.Valued a key version ballot options ∷ es) tx h = begun-ascending cluster es tx h.0
begun-ascending cluster (Entry.Begun a tx' choices ∷ es) tx h =
    elim (cases_Bool (tx_eq tx' tx)) [
      | inl e ↦ rw e h.1.1.ascending
      | inr e ↦ rw e (begun-ascending cluster es tx h.0)
    ]

-- ---- outcomes

not-both : (o : Option Outcome) (choices : List Choice) → o ≡ Some (Outcome.Commit choices) → o ≡ Some Outcome.Abort → ⊥
not-both o choices g h = let bad : Some (Outcome.Commit choices) ≡ Some Outcome.Abort = sym g ∙ h in cc

module _ (cluster : Cluster) (es : List Entry) (h : IsLedger cluster es) where
  was-begun : (tx : TxId) (choices : List Choice) → IsCommit cluster es tx choices → WasBegun (reduced es) tx choices
  was-begun tx choices g = (decided cluster (setup_fine cluster es h) es (allowed cluster es h) tx (Outcome.Commit choices) g).0

  pub own-choices : (tx : TxId) (choices : List Choice) → IsCommit cluster es tx choices → (choice : Choice) → Contains choices choice → choice.tx ≡ tx
  own-choices tx choices g choice c = begun_own (setup_of cluster) (reduced es) tx choices (allowed cluster es h) (was-begun tx choices g) choice (In-Contains choices choice c)

  pub committed : (tx : TxId) (choices : List Choice) → IsCommit cluster es tx choices → Contains (committed_of cluster.quorums es) choices
  committed tx choices g = Contains-In (committed_of cluster.quorums es) choices (commits_each cluster es h tx choices g)

  pub whole : (tx : TxId) (choices : List Choice) → IsCommit cluster es tx choices → IsWhole es tx choices
  whole tx choices g = record {
    begun = commit_begun cluster es h tx choices g;
    some = begun_some cluster es h.allowed tx choices (was-begun tx choices g);
    own = own-choices tx choices g;
    ascending = subst (λ (cs : List Choice). Parts.are_parts_ascending (map part_in cs) ≡ true) (commit_begun cluster es h tx choices g) (begun-ascending cluster es tx h.allowed);
  }

  -- each committed transaction is a whole one
  pub all-whole : (choices : List Choice) → Contains (committed_of cluster.quorums es) choices → (tx : TxId) × IsWhole es tx choices
  all-whole choices listed = let found = commits_only cluster es h choices (In-Contains (committed_of cluster.quorums es) choices listed) in (found.0, whole found.0 choices found.1)

  pub commit-told : (tx : TxId) (choices : List Choice) → IsCommit cluster es tx choices → IsReportedCommit cluster es tx
  commit-told tx choices g = record {
    choices = choices;
    outcome = g;
    whole = whole tx choices g;
    committed = committed tx choices g;
  }

  pub abort-told : (tx : TxId) → IsAbort cluster es tx → IsReportedAbort cluster es tx
  abort-told tx g = record {
    outcome = g;
    not_committed = λ choices listed choice one same.
        let found = commits_only cluster es h choices (In-Contains (committed_of cluster.quorums es) choices listed) in
        let names : found.0 ≡ tx = sym (own-choices found.0 choices found.1 choice one) ∙ same in
        not-both (outcome_of cluster.quorums es tx) choices (subst (λ t. IsCommit cluster es t choices) names found.1) g;
  }

-- ---- deltas, each transaction once

after-all : (tx : TxId) (txs : List TxId) → are_txs_ascending txs ≡ true → After tx txs → are_txs_ascending (tx ∷ txs) ≡ true
after-all tx [] h k = refl
after-all tx (u ∷ us) h k = rw ((Decides-tx_lt tx u).1 k.0, h) refl

ascending-txs : (txs : List TxId) → Ascending txs → are_txs_ascending txs ≡ true
ascending-txs [] h = refl
ascending-txs (tx ∷ txs) h = after-all tx txs (ascending-txs txs h.1) h.0

deltas-ascending : (facts : List Fact) (key : Key) (version : ℕ) → Ascending (txs_of (deltas_at facts key version))
deltas-ascending [] key version = tt
deltas-ascending (fact ∷ facts) key version = ascending_union (deltas_at facts key version) (deltas_from key version fact) (deltas-ascending facts key version)

-- ---- what a one-copy store shows

abbrev delta_of : TxId × Amounts → Delta
delta_of e = record { tx = e.0; amounts = e.1 }

-- the deltas of a version as those of a one-copy store, and back
deltas-of : (es : TxMap Amounts) (delta : Delta) → Contains (map delta_of es) delta → Contains es (delta.tx, delta.amounts)
deltas-of es delta c = Contains-In es (delta.tx, delta.amounts) (inside es (In-Contains (map delta_of es) delta c))
  where
    inside : (xs : TxMap Amounts) → In delta (map delta_of xs) → In (delta.tx, delta.amounts) xs
    inside [] g = absurd g
    inside (x ∷ xs) g = elim g [ inl here ↦ inl (ap (λ (z : Delta). (z.tx, z.amounts)) here) | inr there ↦ inr (inside xs there) ]

seen-same : (es : TxMap Amounts) → seen_of (map delta_of es) ≡ txs_of es
seen-same [] = refl
seen-same (e ∷ es) = ap (λ l. e.0 ∷ l) (seen-same es)

-- a value that a node reads is one of the one-copy store
sums-same : (es : TxMap Amounts) (place : ℕ) (value : ℤ) →
    fold (λ (v : ℤ) (e : TxId × Amounts). v +ℤ amount_at (place + 1) e.1) value es ≡ fold (λ (v : ℤ) (delta : Delta). v +ℤ amount_at (place + 1) delta.amounts) value (map delta_of es)
sums-same [] place value = refl
sums-same (e ∷ es) place value = sums-same es place (value +ℤ amount_at (place + 1) e.1)

values-same : (es : TxMap Amounts) (bases : List (ℕ × ℤ)) → map (value_read es) bases ≡ map read_value (map (value_after (map delta_of es)) bases)
values-same es [] = refl
values-same es (base ∷ bases) =
    ap (λ (v : ℤ). read_value v ∷ map (value_read es) bases) (sums-same es base.0 base.1)
    ∙ ap (λ l. read_value (value_after (map delta_of es) base) ∷ l) (values-same es bases)

-- what is held of a version with this base and these deltas
abbrev held_with : ℕ → Item → TxMap Amounts → Held
held_with version base es = record { version = version; base = base; deltas = map delta_of es }

shown-same : (version : ℕ) (base : Item) (es : TxMap Amounts) → (item_read es base, record { version = version; seen = txs_of es }) ≡ shown (held_with version base es)
shown-same version base es =
    ap (λ (values : List ℤ). (record base { values = values }, record { version = version; seen = txs_of es })) (values-same es (enumerate_from 0 base.values))
    ∙ ap (λ (seen : List TxId). (record base { values = map read_value (values_after (held_with version base es)) }, record { version = version; seen = seen })) (sym (seen-same es))

-- ---- reads

module _ (cluster : Cluster) (later es : List Entry) (h : IsLedger cluster (later ++ es)) where
  commit-now : (tx : TxId) (choices : List Choice) → IsCommit cluster es tx choices → Contains (committed_of cluster.quorums (later ++ es)) choices
  commit-now tx choices g = committed cluster (later ++ es) h tx choices (outcome_kept cluster later es h tx (Outcome.Commit choices) g)

  base-told : (key : Key) (version : ℕ) (item : Item) → IsBase cluster es key version (Some item) → IsWritten (committed_of cluster.quorums (later ++ es)) key version item
  base-told key version item (before, next, tx, choices, choice, seen, w) = record {
    choices = choices;
    listed = commit-now tx choices w.committed.outcome;
    choice = choice;
    one_of = w.committed.one_of;
    of_key = w.committed.of_key;
    of_version = ap (λ n. n + 1) w.committed.of_version ∙ next;
    seen = seen;
    writes = w.writes;
  }

  add-told : (key : Key) (version : ℕ) (delta : Delta) → IsCommittedAdd cluster es key version (delta.tx, delta.amounts) → IsAdded (committed_of cluster.quorums (later ++ es)) key version delta
  add-told key version delta (choices, choice, c, adds) = record {
    choices = choices;
    listed = commit-now delta.tx choices c.outcome;
    choice = choice;
    one_of = c.one_of;
    of_tx = own-choices cluster es (ledger-before cluster later es h) delta.tx choices c.outcome choice c.one_of;
    of_key = c.of_key;
    of_version = c.of_version;
    adds = adds;
  }

  -- what a centre shows of a key
  pub read-told : (a : ℕ) (key : Key) → IsReportedRead cluster (later ++ es) (known_of_reading key (Visible.read (facts_of es a) key))
  read-told a key = by_base (base_of (facts_of es a) key) refl (held_base cluster es (ledger-before cluster later es h) a key)
    where
      by_base : (base : Option Item) → base_of (facts_of es a) key ≡ base → IsBase cluster es key (current_of (facts_of es a) key) (base_of (facts_of es a) key) →
          IsReadOf (committed_of cluster.quorums (later ++ es)) (known_of_reading key (Visible.read (facts_of es a) key)) (option_map (item_read (executed_of (facts_of es a) key)) (base_of (facts_of es a) key))
      by_base None e b = rw e (rw e at b)
      by_base (Some base) e b =
          let held : IsBase cluster es key (current_of (facts_of es a) key) (Some base) = subst (IsBase cluster es key (current_of (facts_of es a) key)) e b in
          let executed : TxMap Amounts = executed_of (facts_of es a) key in
          rw e (
            held_with (current_of (facts_of es a) key) base executed,
            record {
              written = base-told key (current_of (facts_of es a) key) base held;
              added = λ delta c. add-told key (current_of (facts_of es a) key) delta (held_deltas cluster es (ledger-before cluster later es h) a key (delta.tx, delta.amounts) (deltas-of executed delta c));
              once = subst (λ (txs : List TxId). are_txs_ascending txs ≡ true) (sym (seen-same executed)) (ascending-txs (txs_of executed) (deltas-ascending (facts_of es a) key (current_of (facts_of es a) key)));
              shows = shown-same (current_of (facts_of es a) key) base executed;
            },
          )
