-- The deltas that the facts of a centre bring, of whatever version, are amounts that committed transactions add at just that version.
use Rattle.std.proofs.Common.{List, None, Option, Some, [], ap, arith, inl, inr, refl, subst, sym, ℕ, ◌&&◌, ◌++◌, ◌==◌, ◌∙◌, ◌∷◌, ◌≡◌, ◌≤◌}
use Rattle.std.specs.Prelude.{filter_map, map, option_map}
use Rattle.std.proofs.lemmas.Bool.{and_parts, cases_Bool, eqb-true}
use Rattle.mdcc_base.specs.Key.{key_eq}
use Rattle.mdcc_base.specs.declared.identifiers.TxId.{TxId}
use Rattle.mdcc_base.specs.declared.key.Key.{Key}
use Rattle.mdcc_option.specs.declared.choices.Choice.{Choice}
use Rattle.mdcc_option.specs.declared.choices.Outcome.{Outcome}
use Rattle.mdcc_option.specs.declared.cluster.Cluster.{Cluster}
use Rattle.mdcc_option.specs.declared.items.Delta.{Delta}
use Rattle.mdcc_option.specs.declared.items.Item.{Item}
use Rattle.mdcc_option.specs.declared.items.Update.{Update}
use Rattle.mdcc_struct.specs.Maps.{TxMap, union}
use Rattle.mdcc_def_ledger.specs.AllowedLedgers.{IsBacked}
use Rattle.mdcc_def_protocol.specs.Facts.{amounts_added, current_of, delta_given, deltas_at, deltas_from}
use Rattle.mdcc_def_ledger.specs.Ledger.{Added, Entry, Valued, choices_begun, facts_of}
use Rattle.mdcc_def_protocol.specs.Marks.{Amounts}
use Rattle.mdcc_def_messages.specs.declared.facts.Fact.{Fact}
use Rattle.mdcc_theorem_agreement.specs.Laws.{IsCommit, IsLedger, begins_in}
use Rattle.mdcc_theorem_agreement.proofs.LawsTold.{commit_begun}
use Rattle.mdcc_theorem_bounds.specs.Held.{IsBase, IsCommitted, IsCommittedAdd}
use Rattle.mdcc_theorem_trace_states.specs.Words.{Each, In, IsTail}
use Rattle.mdcc_theorem_trace_states.proofs.Ledgers.{Allowed-tail}
use Rattle.mdcc_theorem_trace_states.proofs.Lists.{Each-from, Each-like, In-filter_map, IsTail-more, IsTail-same}
use Rattle.mdcc_theorem_trace_states.proofs.Maps.{each-union}
use Rattle.mdcc_theorem_trace_states.proofs.Tests.{Decides-key}
use Rattle.mdcc_theorem_trace_rules.proofs.Deciding.{begun-tx}
use Rattle.mdcc_theorem_trace_rules.proofs.Outcomes.{outcome-tail}
use Rattle.mdcc_theorem_trace.proofs.Single.{one-mark}
use Rattle.mdcc_theorem_trace_answers.proofs.Among.{Contains-In}
use Rattle.mdcc_theorem_agreement.proofs.VersionsLow.{begun-after}

tail-begun : (old es : List Entry) → IsTail old es → begins_in old ≤ begins_in es
tail-begun old [] h = subst (λ z. begins_in old ≤ begins_in z) h (omega arith)
tail-begun old (e ∷ es) h =
    elim h [
      | inl s ↦ subst (λ z. begins_in old ≤ begins_in z) s (omega arith)
      | inr r ↦ omega (arith, tail-begun old es r, begun-after (e ∷ []) es)
    ]

-- what a ledger was before is one too
pub ledger-tail : (cluster : Cluster) (old es : List Entry) → IsTail old es → IsLedger cluster es → IsLedger cluster old
ledger-tail cluster old es tail h = record { of_cluster = h.of_cluster; allowed = Allowed-tail cluster old es tail h.allowed; few = omega (arith, tail-begun old es tail, h.few) }

-- ---- what lasts

commit-tail : (cluster : Cluster) (old es : List Entry) (t : TxId) (cs : List Choice) → IsTail old es → IsLedger cluster es → IsCommit cluster old t cs → IsCommit cluster es t cs
commit-tail cluster old es t cs tail h g = outcome-tail cluster h.of_cluster.quorums old es t (Outcome.Commit cs) tail h.allowed (one-mark cluster es h.of_cluster.quorums h.allowed) g

committed-tail : (cluster : Cluster) (old es : List Entry) (k : Key) (v : ℕ) (t : TxId) (cs : List Choice) (c : Choice) → IsTail old es → IsLedger cluster es → IsCommitted cluster old k v t cs c → IsCommitted cluster es k v t cs c
committed-tail cluster old es k v t cs c tail h g = record { outcome = commit-tail cluster old es t cs tail h g.outcome; one_of = g.one_of; of_key = g.of_key; of_version = g.of_version }

add-tail : (cluster : Cluster) (old es : List Entry) (k : Key) (v : ℕ) (d : TxId × Amounts) → IsTail old es → IsLedger cluster es → IsCommittedAdd cluster old k v d → IsCommittedAdd cluster es k v d
add-tail cluster old es k v d tail h g = (g.0, g.1, committed-tail cluster old es k v d.0 g.0 g.1 tail h g.2, g.3)

pub base-tail : (cluster : Cluster) (old es : List Entry) (k : Key) (v : ℕ) (o : Option Item) → IsTail old es → IsLedger cluster es → IsBase cluster old k v o → IsBase cluster es k v o
base-tail cluster old es k v None tail h g = g
base-tail cluster old es k v (Some item) tail h g =
    (g.0, g.1, g.2, g.3, g.4, g.5, record { committed = committed-tail cluster old es k g.0 g.2 g.3 g.4 tail h g.6.committed; writes = g.6.writes })

-- ---- what one fact brings

given-is : (k : Key) (v : ℕ) (c : Choice) (d : TxId × Amounts) → delta_given k v c ≡ Some d → (c.tx ≡ d.0) × (c.key ≡ k) × (c.version ≡ v) × (c.update ≡ Update.Add d.1)
given-is k v c d h =
    elim (cases_Bool (c.version == v && key_eq c.key k)) [
      | inl e ↦
          let p = and_parts (c.version == v) (key_eq c.key k) e in
          let g : option_map {U = TxId × Amounts} (λ (amounts : Amounts). (c.tx, amounts)) (amounts_added c.update) ≡ Some d = rw e at h in
          by_update c.update refl (eqb-true c.version v p.0) ((Decides-key c.key k).0 p.1) g
      | inr e ↦ let bad : ◌≡◌ {A = Option (TxId × Amounts)} None (Some d) = rw e at h in absurd (cc)
    ]
  where
    by_update : (u : Update) → c.update ≡ u → c.version ≡ v → c.key ≡ k → option_map {U = TxId × Amounts} (λ (amounts : Amounts). (c.tx, amounts)) (amounts_added u) ≡ Some d → (c.tx ≡ d.0) × (c.key ≡ k) × (c.version ≡ v) × (c.update ≡ Update.Add d.1)
    by_update (Update.Write item seen) e s r g = absurd (cc)
    by_update (Update.Add amounts) e s r g =
        let same : (c.tx, amounts) ≡ d = cc in
        (ap (λ (z : TxId × Amounts). z.0) same, r, s, e ∙ ap (λ (z : TxId × Amounts). Update.Add z.1) same)

commit-adds : (cluster : Cluster) (es : List Entry) (k : Key) (v : ℕ) (t : TxId) (cs : List Choice) → IsLedger cluster es → IsCommit cluster es t cs → Each (λ (d : TxId × Amounts). IsCommittedAdd cluster es k v d) (filter_map (delta_given k v) cs)
commit-adds cluster es k v t cs h g =
    Each-from (λ (d : TxId × Amounts). IsCommittedAdd cluster es k v d) (filter_map (delta_given k v) cs) (λ d i. one d (In-filter_map (delta_given k v) cs d i))
  where
    one : (d : TxId × Amounts) → (c : Choice) × (In c cs) × (delta_given k v c ≡ Some d) → IsCommittedAdd cluster es k v d
    one d x =
        let is = given-is k v x.0 d x.2 in
        let own : In x.0 (choices_begun es t) = subst (λ z. In x.0 z) (sym (commit_begun cluster es h t cs g)) x.1 in
        let same : t ≡ d.0 = sym (begun-tx cluster es t x.0 h.allowed own) ∙ is.0 in
        (cs, x.0, record { outcome = subst (λ z. IsCommit cluster es z cs) same g; one_of = Contains-In cs x.0 x.1; of_key = is.1; of_version = is.2 }, is.3)

-- where what centres held before was committed
abbrev pub WereCommitted : Cluster → List Entry → Type 0
WereCommitted cluster es = (old : List Entry) → IsTail old es → (a : ℕ) (k : Key) (v : ℕ) → Each (λ (d : TxId × Amounts). IsCommittedAdd cluster es k v d) (deltas_at (facts_of old a) k v)

tail-of : (later earlier es : List Entry) → es ≡ later ++ earlier → IsTail earlier es
tail-of later earlier es e = subst (IsTail earlier) (sym e) (IsTail-more later earlier earlier (IsTail-same earlier))

pub fact-adds : (cluster : Cluster) (es : List Entry) (a : ℕ) (f : Fact) (k : Key) (v : ℕ) → IsLedger cluster es → WereCommitted cluster es → IsBacked cluster es a f → Each (λ (d : TxId × Amounts). IsCommittedAdd cluster es k v d) (deltas_from k v f)
fact-adds cluster es a (Fact.Booted n) k v h were b = tt
fact-adds cluster es a (Fact.Promised j lo hi m) k v h were b = tt
fact-adds cluster es a (Fact.Floor origin era upto) k v h were b = tt
fact-adds cluster es a (Fact.Voted j w m os off) k v h were b = tt
fact-adds cluster es a (Fact.Heard t (Outcome.Commit cs)) k v h were b = commit-adds cluster es k v t cs h b
fact-adds cluster es a (Fact.Heard t Outcome.Abort) k v h were b = tt
fact-adds cluster es a (Fact.Adopted j w item ds) k v h were b =
    elim (cases_Bool (w == v && key_eq j k)) [
      | inr e ↦ rw e tt
      | inl e ↦
          let p = and_parts (w == v) (key_eq j k) e in
          let held = b.3 in
          let all = were b.2 (tail-of b.1 b.2 es held.parts) b.0 j (current_of (facts_of b.2 b.0) j) in
          let listed : Each (λ (d : TxId × Amounts). IsCommittedAdd cluster es j (current_of (facts_of b.2 b.0) j) d) (map (λ (delta : Delta). (delta.tx, delta.amounts)) ds) =
          subst (λ z. Each (λ (d : TxId × Amounts). IsCommittedAdd cluster es j (current_of (facts_of b.2 b.0) j) d) z) held.executed all in
          let at : Each (λ (d : TxId × Amounts). IsCommittedAdd cluster es j w d) (map (λ (delta : Delta). (delta.tx, delta.amounts)) ds) =
          subst (λ z. Each (λ (d : TxId × Amounts). IsCommittedAdd cluster es j z d) (map (λ (delta : Delta). (delta.tx, delta.amounts)) ds)) held.current listed in
          let there : Each (λ (d : TxId × Amounts). IsCommittedAdd cluster es k v d) (map (λ (delta : Delta). (delta.tx, delta.amounts)) ds) =
          subst (λ z. Each (λ (d : TxId × Amounts). IsCommittedAdd cluster es k z d) (map (λ (delta : Delta). (delta.tx, delta.amounts)) ds)) (eqb-true w v p.0)
          (subst (λ z. Each (λ (d : TxId × Amounts). IsCommittedAdd cluster es z w d) (map (λ (delta : Delta). (delta.tx, delta.amounts)) ds)) ((Decides-key j k).0 p.1) at) in
          rw e there
    ]

-- ---- what all facts of a centre bring

abbrev pub AreAdds : Cluster → List Entry → Key → ℕ → TxMap Amounts → Type 0
AreAdds cluster es k v ds = Each (λ (d : TxId × Amounts). IsCommittedAdd cluster es k v d) ds

-- one entry more
committed-next : (cluster : Cluster) (e : Entry) (es : List Entry) → IsLedger cluster (e ∷ es) → WereCommitted cluster es → WereCommitted cluster (e ∷ es)
committed-next cluster e es h rest old tail a k v =
    elim tail [
      | inr r ↦ up e h (deltas_at (facts_of old a) k v) (rest old r a k v)
      | inl s ↦ subst (λ (z : List Entry). AreAdds cluster (e ∷ es) k v (deltas_at (facts_of z a) k v)) (sym s) (by_entry e h)
    ]
  where
    before : IsLedger cluster es
    before = ledger-tail cluster es (e ∷ es) (inr (IsTail-same es)) h

    up : (x : Entry) → IsLedger cluster (x ∷ es) → (ds : TxMap Amounts) → AreAdds cluster es k v ds → AreAdds cluster (x ∷ es) k v ds
    up x l ds g = Each-like (λ (d : TxId × Amounts). IsCommittedAdd cluster es k v d) (λ (d : TxId × Amounts). IsCommittedAdd cluster (x ∷ es) k v d) ds (λ d i. add-tail cluster es (x ∷ es) k v d (inr (IsTail-same es)) l i) g

    by_entry : (x : Entry) → IsLedger cluster (x ∷ es) → AreAdds cluster (x ∷ es) k v (deltas_at (facts_of (x ∷ es) a) k v)
    by_entry (Entry.Begun c t cs) l = up (Entry.Begun c t cs) l (deltas_at (facts_of es a) k v) (rest es (IsTail-same es) a k v)
    by_entry (Valued c j w m os) l = up (Valued c j w m os) l (deltas_at (facts_of es a) k v) (rest es (IsTail-same es) a k v)
    by_entry (Added c f) l =
        elim (cases_Bool (c == a)) [
          | inr n ↦ rw n (up (Added c f) l (deltas_at (facts_of es a) k v) (rest es (IsTail-same es) a k v))
          | inl n ↦ rw n (up (Added c f) l (union (deltas_at (facts_of es a) k v) (deltas_from k v f))
              (each-union (λ (d : TxId × Amounts). IsCommittedAdd cluster es k v d) (deltas_at (facts_of es a) k v) (deltas_from k v f) (rest es (IsTail-same es) a k v) (fact-adds cluster es c f k v before rest l.allowed.1.2)))
        ]

pub were-committed : (cluster : Cluster) (es : List Entry) → IsLedger cluster es → WereCommitted cluster es
were-committed cluster [] h = λ old tail a k v. subst (λ (z : List Entry). AreAdds cluster [] k v (deltas_at (facts_of z a) k v)) (sym tail) tt
were-committed cluster (e ∷ es) h = committed-next cluster e es h (were-committed cluster es (ledger-tail cluster es (e ∷ es) (inr (IsTail-same es)) h))
