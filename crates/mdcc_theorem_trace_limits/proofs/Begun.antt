-- How many transactions were begun, and with how many choices.
use Rattle.std.proofs.Common.{Bool, Err, List, None, Ok, [], ap, arith, cond, false, inl, inr, length, map, not, refl, subst, true, ℕ, ◌+◌, ◌<◌, ◌==◌, ◌∷◌, ◌≡◌, ◌≤◌}
use Rattle.std.specs.Prelude.{filter, nat_lt}
use Rattle.std.proofs.lemmas.Bool.{cases_Bool, ltb-false}
use Rattle.mdcc_base.specs.Counts.{number_of}
use Rattle.mdcc_base.specs.TxId.{tx_eq}
use Rattle.mdcc_base.specs.declared.identifiers.TxId.{TxId}
use Rattle.mdcc_base.specs.declared.key.Key.{Key}
use Rattle.mdcc_option.specs.Transaction.{transaction_of}
use Rattle.mdcc_option.specs.declared.choices.Choice.{Choice}
use Rattle.mdcc_option.specs.declared.cluster.Cluster.{Cluster}
use Rattle.mdcc_option.specs.declared.faults.DraftFault.TheVariants.{Empty, TooMany}
use Rattle.mdcc_option.specs.declared.items.Part.{Part}
use Rattle.mdcc_option.specs.declared.schema.Schema.{Schema}
use Rattle.mdcc_struct.specs.Maps.{TxMap, value_of}
use Rattle.mdcc_def_ledger.specs.AllowedLedgers.{IsAllowed, part_in}
use Rattle.mdcc_def_protocol.specs.Facts.{is_settled, unresolved_of, write_sets_of}
use Rattle.mdcc_def_protocol.specs.Fit.{has_tx}
use Rattle.mdcc_def_ledger.specs.Ledger.{Added, Entry, Valued, choices_begun, facts_of}
use Rattle.mdcc_def_protocol.specs.Manager.{keys_of_choices}
use Rattle.mdcc_def_protocol.specs.Recover.{dangling}
use Rattle.mdcc_theorem_trace_states.specs.Sound.{IsSound}
use Rattle.mdcc_theorem_trace_states.specs.Words.{Each, In}
use Rattle.mdcc_theorem_trace_states.proofs.Lists.{Each-from, In-filter}
use Rattle.mdcc_theorem_trace_states.proofs.Maps.{tx-refl, tx-true}
use Rattle.mdcc_theorem_trace_rules.specs.Closed.{HasSet}
use Rattle.mdcc_theorem_trace_rules.proofs.Chains.{HasOnce, once-filter, once-value}
use Rattle.mdcc_theorem_trace_rules.proofs.Deciding.{set-keys, some-in}
use Rattle.mdcc_theorem_trace.proofs.Full.{once-sets}
use Rattle.mdcc_theorem_trace_limits.proofs.Small.{is_begin, map-length}

-- ---- choices

draft-few : (schema : Schema) (qs ps : List Part) → transaction_of schema qs ≡ Ok ps → length qs ≤ 8
draft-few schema qs ps h =
    elim (cases_Bool (length qs == 0)) [
      | inl e ↦ let bad : Err Empty ≡ Ok ps = rw e at h in absurd (cc)
      | inr e ↦ elim (cases_Bool (nat_lt 8 (length qs))) [
        | inl f ↦ let bad : Err TooMany ≡ Ok ps = rw (e, f) at h in absurd (cc)
        | inr f ↦ ltb-false 8 (length qs) f
      ]
    ]

pub begun-few : (cluster : Cluster) (es : List Entry) (t : TxId) → IsAllowed cluster es → length (choices_begun es t) ≤ 8
begun-few cluster [] t h = omega arith
begun-few cluster (Added c f ∷ es) t h = begun-few cluster es t h.0
begun-few cluster (Valued c k v m os ∷ es) t h = begun-few cluster es t h.0
begun-few cluster (Entry.Begun c u cs ∷ es) t h =
    elim (cases_Bool (tx_eq u t)) [
      | inl e ↦ rw e (let d = draft-few cluster.schema (map part_in cs) (map part_in cs) h.1.1.draft in let n = map-length part_in cs in omega (arith, d, n))
      | inr e ↦ rw e (begun-few cluster es t h.0)
    ]

-- ---- transactions

none-filter : {X : Type 0} (m : TxMap X) (u : TxId) → value_of m u ≡ None → length (filter (λ (e : TxId × X). not (tx_eq e.0 u)) m) ≡ length m
none-filter [] u h = refl
none-filter (e ∷ es) u h =
    elim (cases_Bool (tx_eq e.0 u)) [
      | inl g ↦ absurd (let bad = rw g at h in cc)
      | inr g ↦ let r : value_of es u ≡ None = rw g at h in rw g (omega (arith, none-filter es u r))
    ]

all-but-one : {X : Type 0} (m : TxMap X) (u : TxId) → HasOnce m → length m ≤ length (filter (λ (e : TxId × X). not (tx_eq e.0 u)) m) + 1
all-but-one [] u h = omega arith
all-but-one {X = X} (e ∷ es) u h =
    elim (cases_Bool (tx_eq e.0 u)) [
      | inl g ↦ let n : value_of es u ≡ None = subst (λ z. value_of es z ≡ None) (tx-true e.0 u g) h.0 in rw g (omega (arith, none-filter es u n))
      | inr g ↦ rw g (omega (arith, all-but-one es u h.1))
    ]

-- transactions that were begun, each once, are no more than there are begins
pub once-few : {X : Type 0} (es : List Entry) (m : TxMap X) → HasOnce m → Each (λ (e : TxId × X). 0 < length (choices_begun es e.0)) m → length m ≤ number_of is_begin es
once-few [] [] h g = omega arith
once-few [] (e ∷ m) h g = absurd (omega (arith, g.0))
once-few (Added c f ∷ es) m h g = omega (arith, once-few es m h g)
once-few (Valued c k v b os ∷ es) m h g = omega (arith, once-few es m h g)
once-few {X = X} (Entry.Begun c u cs ∷ es) m h g =
    let rest = once-few es (filter (λ (e : TxId × X). not (tx_eq e.0 u)) m) (once-filter (λ (e : TxId × X). not (tx_eq e.0 u)) m h) (each m g) in
    omega (arith, all-but-one m u h, rest)
  where
    other : (t : TxId) (b : Bool) → tx_eq u t ≡ b → tx_eq t u ≡ false → 0 < length (cond b cs (choices_begun es t)) → 0 < length (choices_begun es t)
    other t true e n k = absurd (let s : u ≡ t = tx-true u t e in let r : tx_eq t t ≡ false = subst (λ z. tx_eq t z ≡ false) s n in wrong t r)
      where
        wrong : (t : TxId) → tx_eq t t ≡ false → ⊥
        wrong t r = let y = tx-refl t in cc
    other t false e n k = k

    each : (m : TxMap X) → Each (λ (e : TxId × X). 0 < length (choices_begun (Entry.Begun c u cs ∷ es) e.0)) m → Each (λ (e : TxId × X). 0 < length (choices_begun es e.0)) (filter (λ (e : TxId × X). not (tx_eq e.0 u)) m)
    each [] k = tt
    each (e ∷ m) k =
        elim (cases_Bool (tx_eq e.0 u)) [
          | inl i ↦ rw i (each m k.1)
          | inr i ↦ rw i (other e.0 (tx_eq u e.0) refl i k.0, each m k.1)
        ]

-- ---- dangling transactions

abbrev pub sets_dangling : List Entry → ℕ → List TxId → TxMap (List (Key × ℕ))
sets_dangling es a opened = dangling (facts_of es a) opened

pub dangling-set : (cluster : Cluster) (es : List Entry) (a : ℕ) (opened : List TxId) (e : TxId × List (Key × ℕ)) → IsAllowed cluster es → IsSound es → In e (dangling (facts_of es a) opened) → HasSet es e.0 e.1
dangling-set cluster es a opened e legal sound i =
    let j = In-filter (λ (e : TxId × List (Key × ℕ)). not (has_tx opened e.0)) (unresolved_of (facts_of es a)) e i in
    let k = In-filter (λ (e : TxId × List (Key × ℕ)). not (is_settled (facts_of es a) e.0)) (write_sets_of (facts_of es a)) e j.0 in
    let s = sound.sets a e.0 e.1 (once-value (write_sets_of (facts_of es a)) e (once-sets (facts_of es a)) k.0) in
    record { choice = s.0; begun = s.1; same = s.2 }

-- each has at most 8 keys
pub dangling-keys : (cluster : Cluster) (es : List Entry) (a : ℕ) (opened : List TxId) → IsAllowed cluster es → IsSound es → Each (λ (e : TxId × List (Key × ℕ)). length e.1 ≤ 8) (dangling (facts_of es a) opened)
dangling-keys cluster es a opened legal sound = Each-from (λ (e : TxId × List (Key × ℕ)). length e.1 ≤ 8) (dangling (facts_of es a) opened) (λ e i. keys e (dangling-set cluster es a opened e legal sound i))
  where
    keys : (e : TxId × List (Key × ℕ)) → HasSet es e.0 e.1 → length e.1 ≤ 8
    keys e s =
        let same : map (λ (x : Key × ℕ). x.0) e.1 ≡ keys_of_choices (choices_begun es e.0) = set-keys cluster es e.0 e.1 legal s in
        let n : length (map (λ (x : Key × ℕ). x.0) e.1) ≡ length (keys_of_choices (choices_begun es e.0)) = ap (λ z. length z) same in
        let l = map-length (λ (x : Key × ℕ). x.0) e.1 in
        let r = map-length (λ (c : Choice). c.key) (choices_begun es e.0) in
        omega (arith, n, l, r, begun-few cluster es e.0 legal)

-- they are no more than there are begins
pub dangling-few : (cluster : Cluster) (es : List Entry) (a : ℕ) (opened : List TxId) → IsAllowed cluster es → IsSound es → length (dangling (facts_of es a) opened) ≤ number_of is_begin es
dangling-few cluster es a opened legal sound =
    once-few es (dangling (facts_of es a) opened)
    (once-filter (λ (e : TxId × List (Key × ℕ)). not (has_tx opened e.0)) (unresolved_of (facts_of es a))
    (once-filter (λ (e : TxId × List (Key × ℕ)). not (is_settled (facts_of es a) e.0)) (write_sets_of (facts_of es a)) (once-sets (facts_of es a))))
    (Each-from (λ (e : TxId × List (Key × ℕ)). 0 < length (choices_begun es e.0)) (dangling (facts_of es a) opened)
    (λ e i. let s = dangling-set cluster es a opened e legal sound i in some-in s.choice (choices_begun es e.0) s.begun))
