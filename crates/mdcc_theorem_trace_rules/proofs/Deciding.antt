-- Outcomes that are heard and decided, votes, escalations: good steps.
use Rattle.std.proofs.Common.{Bool, List, None, Option, Some, [], ap, arith, cond, false, inl, inr, length, not, refl, subst, sym, true, ℕ, ◌&&◌, ◌<◌, ◌∙◌, ◌∷◌, ◌≡◌}
use Rattle.std.specs.Prelude.{filter, filter_map, is_some, map, option_and_then, option_map}
use Rattle.std.specs.List.{list_all, list_any, reduce}
use Rattle.std.proofs.lemmas.Bool.{and_from, cases_Bool, true≢false}
use Rattle.mdcc_base.specs.declared.key.Key.{Key}
use Rattle.mdcc_base.specs.declared.identifiers.TxId.{TxId}
use Rattle.mdcc_base.specs.Key.{key_eq}
use Rattle.mdcc_base.specs.TxId.{tx_eq}
use Rattle.mdcc_option.specs.declared.choices.Outcome.TheVariants.{Abort, Commit}
use Rattle.mdcc_option.specs.declared.choices.Mark.TheVariants.{Accept, Reject}
use Rattle.mdcc_option.specs.declared.choices.Choice.{Choice}
use Rattle.mdcc_option.specs.declared.cluster.Cluster.{Cluster}
use Rattle.mdcc_option.specs.declared.choices.Mark.{Mark}
use Rattle.mdcc_option.specs.declared.choices.Outcome.{Outcome}
use Rattle.mdcc_option.specs.declared.items.Part.{Part}
use Rattle.mdcc_option.specs.Transaction.{choice_of_part, choices_of}
use Rattle.mdcc_struct.specs.Maps.{TxMap, value_of}
use Rattle.mdcc_def_protocol.specs.Marks.{choice_in, is_reject_found, outcome_of_marks}
use Rattle.mdcc_def_ledger.specs.Ledger.{Added, Entry, Valued, choices_begun}
use Rattle.mdcc_def_ledger.specs.AllowedLedgers.{IsAllowed, part_in}
use Rattle.mdcc_def_protocol.specs.Belongs.{choice_belongs, mark_belongs, outcome_belongs}
use Rattle.mdcc_def_protocol.specs.Learner.{decision_of, has_quorum, learned, lower_vote, votes_on}
use Rattle.mdcc_def_protocol.specs.Manager.{keys_of_choices}
use Rattle.mdcc_def_protocol.specs.Volatile.{Undecided, Volatile, closed}
use Rattle.mdcc_def_protocol.specs.declared.votes.Vote.{Vote}
use Rattle.mdcc_theorem_trace_states.specs.Words.{Each, In}
use Rattle.mdcc_theorem_trace_states.specs.VolatileInvariant.{AreVotes, IsGiven, IsOpened, Keeps}
use Rattle.mdcc_theorem_trace_states.proofs.Lists.{Each-at, Each-filter, Each-map, In-filter}
use Rattle.mdcc_theorem_trace_states.proofs.Maps.{tx-true}
use Rattle.mdcc_theorem_trace_rules.proofs.Votes.{AreVotes-filter, lower-one, reduce-in}
use Rattle.mdcc_theorem_trace_states.proofs.Sorting.{choices_of-tx}
use Rattle.mdcc_theorem_trace_rules.specs.Closed.{HasSet}

-- ---- what is kept

pub closed-keeps : (cluster : Cluster) (es : List Entry) (a : ℕ) (v : Volatile) (t : TxId) → Keeps cluster es a v → Keeps cluster es a (closed v t)
closed-keeps cluster es a v t h = record {
  manager = record {
    seq = h.manager.seq;
    opened = Each-filter (IsOpened es) (λ (u : Undecided). not (tx_eq u.tx t)) v.manager.opened h.manager.opened;
    votes = AreVotes-filter cluster es (λ (u : Vote). not (tx_eq u.tx t)) v.manager.votes h.manager.votes;
  };
  recovery = AreVotes-filter cluster es (λ (u : Vote). not (tx_eq u.tx t)) v.recovery.votes h.recovery;
  leader = h.leader;
  told = h.told;
}

-- ---- begun choices

pub begun-made : (cluster : Cluster) (es : List Entry) (t : TxId) → IsAllowed cluster es → choices_begun es t ≡ choices_of t (map part_in (choices_begun es t))
begun-made cluster [] t h = refl
begun-made cluster (Added b f ∷ es) t h = begun-made cluster es t h.0
begun-made cluster (Valued b k v m os ∷ es) t h = begun-made cluster es t h.0
begun-made cluster (Entry.Begun b u cs ∷ es) t h =
    elim (cases_Bool (tx_eq u t)) [
      | inl e ↦ rw e (subst (λ z. cs ≡ choices_of z (map part_in cs)) (tx-true u t e) h.1.1.made)
      | inr e ↦ rw e (begun-made cluster es t h.0)
    ]

pub begun-tx : (cluster : Cluster) (es : List Entry) (t : TxId) (c : Choice) → IsAllowed cluster es → In c (choices_begun es t) → c.tx ≡ t
begun-tx cluster es t c legal i = choices_of-tx t (map part_in (choices_begun es t)) c (subst (λ z. In c z) (begun-made cluster es t legal) i)

keys-again : (cs : List Choice) → map (λ (e : Key × ℕ). e.0) (map (λ (part : Part). (part.key, part.version)) (map part_in cs)) ≡ keys_of_choices cs
keys-again [] = refl
keys-again (c ∷ cs) = ap (λ z. c.key ∷ z) (keys-again cs)

set-of : (t : TxId) (ps : List Part) (ws : List (Key × ℕ)) (c : Choice) →
    In c (map (choice_of_part t ws) ps) → c.write_set ≡ ws
set-of t [] ws c i = absurd i
set-of t (p ∷ ps) ws c i = elim i [ inl s ↦ ap (λ (z : Choice). z.write_set) s | inr r ↦ set-of t ps ws c r ]

-- the keys of a begun choice's write set are those of its transaction
pub set-keys : (cluster : Cluster) (es : List Entry) (t : TxId) (ws : List (Key × ℕ)) → IsAllowed cluster es → HasSet es t ws → map (λ (e : Key × ℕ). e.0) ws ≡ keys_of_choices (choices_begun es t)
set-keys cluster es t ws legal h =
    let cs : List Choice = choices_begun es t in
    let ps : List Part = map part_in (choices_begun es t) in
    let i : In h.choice (choices_of t (map part_in (choices_begun es t))) = subst (λ z. In h.choice z) (begun-made cluster es t legal) h.begun in
    let w : h.choice.write_set ≡ map (λ (part : Part). (part.key, part.version)) (map part_in (choices_begun es t)) =
    set-of t (map part_in (choices_begun es t)) (map (λ (part : Part). (part.key, part.version)) (map part_in (choices_begun es t))) h.choice i in
    ap (map (λ (e : Key × ℕ). e.0)) (h.same ∙ w) ∙ keys-again (choices_begun es t)

pub some-in : {A : Type 0} (x : A) (xs : List A) → In x xs → 0 < length xs
some-in x [] i = absurd i
some-in x (y ∷ ys) i = omega arith

-- ---- what is decided is of the cluster

marks-belong : (cluster : Cluster) (ms : List (Option Mark)) → Each (λ (m : Option Mark). (x : Mark) → m ≡ Some x → mark_belongs cluster x ≡ true) ms →
    list_all (choice_belongs cluster) (filter_map (λ (mark : Option Mark). option_and_then choice_in mark) ms) ≡ true
marks-belong cluster [] h = refl
marks-belong cluster (None ∷ ms) h = marks-belong cluster ms h.1
marks-belong cluster (Some Reject ∷ ms) h = marks-belong cluster ms h.1
marks-belong cluster (Some (Accept c) ∷ ms) h = and_from (choice_belongs cluster c) _ (h.0 (Accept c) refl) (marks-belong cluster ms h.1)

pub outcome-belongs : (cluster : Cluster) (ms : List (Option Mark)) (o : Outcome) → Each (λ (m : Option Mark). (x : Mark) → m ≡ Some x → mark_belongs cluster x ≡ true) ms → outcome_of_marks ms ≡ Some o → outcome_belongs cluster o ≡ true
outcome-belongs cluster ms Abort h e = refl
outcome-belongs cluster ms (Commit cs) h e =
    elim (cases_Bool (list_any is_reject_found ms)) [
      | inl f ↦ let bad : Some Abort ≡ Some (Commit cs) = rw f at e in let worse : Abort ≡ Commit cs = cc in absurd (cc)
      | inr f ↦ elim (cases_Bool (list_all is_some ms)) [
        | inl g ↦ let s : Some (Commit (filter_map (λ (mark : Option Mark). option_and_then choice_in mark) ms)) ≡ Some (Commit cs) = rw g at (rw f at e) in
            let r : filter_map (λ (mark : Option Mark). option_and_then choice_in mark) ms ≡ cs = cc in
            subst (λ z. list_all (choice_belongs cluster) z ≡ true) r (marks-belong cluster ms h)
        | inr g ↦ let bad : None ≡ Some (Commit cs) = rw g at (rw f at e) in absurd (cc)
      ]
    ]

learned-belongs : (cluster : Cluster) (es : List Entry) (votes : List Vote) (t : TxId) (k : Key) (x : Mark) → AreVotes cluster es votes → learned cluster.quorums votes t k ≡ Some x → mark_belongs cluster x ≡ true
learned-belongs cluster es votes t k x h e = by_case (reduce lower_vote (filter (has_quorum cluster.quorums (votes_on votes t k)) (votes_on votes t k))) refl e
  where
    by_case : (o : Option Vote) → reduce lower_vote (filter (has_quorum cluster.quorums (votes_on votes t k)) (votes_on votes t k)) ≡ o → option_map (λ (v : Vote). v.mark) o ≡ Some x → mark_belongs cluster x ≡ true
    by_case None e g = absurd (cc)
    by_case (Some w) e g =
        let i = In-filter (has_quorum cluster.quorums (votes_on votes t k)) (votes_on votes t k) w (reduce-in lower_vote (filter (has_quorum cluster.quorums (votes_on votes t k)) (votes_on votes t k)) w lower-one e) in
        let j = In-filter (λ (v : Vote). tx_eq v.tx t && key_eq v.key k) votes w i.0 in
        let s : w.mark ≡ x = cc in
        subst (λ z. mark_belongs cluster z ≡ true) s (Each-at (IsGiven cluster es) votes w h.each j.0).mark

pub decision-belongs : (cluster : Cluster) (es : List Entry) (votes : List Vote) (t : TxId) (keys : List Key) (o : Outcome) → AreVotes cluster es votes → decision_of cluster.quorums votes t keys ≡ Some o → outcome_belongs cluster o ≡ true
decision-belongs cluster es votes t keys o h e =
    outcome-belongs cluster (map (learned cluster.quorums votes t) keys) o
    (Each-map (λ (m : Option Mark). (x : Mark) → m ≡ Some x → mark_belongs cluster x ≡ true) (learned cluster.quorums votes t) keys (each keys)) e
  where
    each : (ks : List Key) → Each (λ k. (x : Mark) → learned cluster.quorums votes t k ≡ Some x → mark_belongs cluster x ≡ true) ks
    each [] = tt
    each (k ∷ ks) = (λ x g. learned-belongs cluster es votes t k x h g, each ks)

-- ---- what is filtered by transaction

pub value_of-filter : {X : Type 0} (q : TxId → Bool) (m : TxMap X) (t : TxId) (x : X) → value_of (filter (λ (e : TxId × X). q e.0) m) t ≡ Some x → value_of m t ≡ Some x
value_of-filter q [] t x h = h
value_of-filter {X = X} q (e ∷ es) t x h =
    elim (cases_Bool (q e.0)) [
      | inl k ↦ let g : cond (tx_eq e.0 t) (Some e.1) (value_of (filter (λ (e : TxId × X). q e.0) es) t) ≡ Some x = rw k at h in kept (λ j. value_of-filter q es t x j) g
      | inr k ↦ let g : value_of (filter (λ (e : TxId × X). q e.0) es) t ≡ Some x = rw k at h in
          elim (cases_Bool (tx_eq e.0 t)) [
            | inl f ↦ absurd (gone es (subst (λ z. q z ≡ false) (tx-true e.0 t f) k) g)
            | inr f ↦ rw f (value_of-filter q es t x g)
          ]
    ]
  where
    gone : (ds : TxMap X) → q t ≡ false → value_of (filter (λ (e : TxId × X). q e.0) ds) t ≡ Some x → ⊥
    gone [] n g = cc
    gone (d ∷ ds) n g =
        elim (cases_Bool (q d.0)) [
          | inl k ↦ let j : cond (tx_eq d.0 t) (Some d.1) (value_of (filter (λ (e : TxId × X). q e.0) ds) t) ≡ Some x = rw k at g in
              elim (cases_Bool (tx_eq d.0 t)) [
                | inl f ↦ true≢false (sym k ∙ subst (λ z. q z ≡ false) (sym (tx-true d.0 t f)) n)
                | inr f ↦ let i : value_of (filter (λ (e : TxId × X). q e.0) ds) t ≡ Some x = rw f at j in gone ds n i
              ]
          | inr k ↦ let i : value_of (filter (λ (e : TxId × X). q e.0) ds) t ≡ Some x = rw k at g in gone ds n i
        ]

    kept : (value_of (filter (λ (e : TxId × X). q e.0) es) t ≡ Some x → value_of es t ≡ Some x) → cond (tx_eq e.0 t) (Some e.1) (value_of (filter (λ (e : TxId × X). q e.0) es) t) ≡ Some x → cond (tx_eq e.0 t) (Some e.1) (value_of es t) ≡ Some x
    kept rest g = elim (cases_Bool (tx_eq e.0 t)) [
      | inl f ↦ let j : Some e.1 ≡ Some x = rw f at g in rw f j
      | inr f ↦ let j : value_of (filter (λ (e : TxId × X). q e.0) es) t ≡ Some x = rw f at g in rw f (rest j)
    ]
