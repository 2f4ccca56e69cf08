-- A message that tells the truth is of the cluster.
use Rattle.std.proofs.Common.{Bool, List, None, Option, Some, [], ap, arith, false, inl, inr, length, map, not, refl, subst, sym, true, ℕ, ◌&&◌, ◌<◌, ◌==◌, ◌∙◌, ◌∷◌, ◌≡◌}
use Rattle.std.specs.List.{list_all, list_any}
use Rattle.std.specs.Prelude.{filter, nat_le, nat_lt}
use Rattle.std.proofs.lemmas.Bool.{and_from, and_parts, cases_Bool, leb-true, ltb-true, or_cases, or_right, true≢false}
use Rattle.mdcc_base.specs.AreQuorums.{AreQuorums}
use Rattle.mdcc_base.specs.Ballot.{ballot_eq, is_fast}
use Rattle.mdcc_base.specs.Key.{key_eq}
use Rattle.mdcc_base.specs.TxId.{tx_eq}
use Rattle.mdcc_base.specs.declared.identifiers.Ballot.{Ballot}
use Rattle.mdcc_base.specs.declared.identifiers.TxId.{TxId}
use Rattle.mdcc_base.specs.declared.key.Key.{Key}
use Rattle.mdcc_option.specs.declared.choices.Choice.{Choice}
use Rattle.mdcc_option.specs.declared.choices.Mark.{Mark}
use Rattle.mdcc_option.specs.declared.choices.Outcome.{Outcome}
use Rattle.mdcc_option.specs.declared.cluster.Cluster.{Cluster}
use Rattle.mdcc_option.specs.declared.items.Delta.{Delta}
use Rattle.mdcc_struct.specs.declared.options.Options.{Options}
use Rattle.mdcc_struct.specs.declared.report.Report.{Report}
use Rattle.mdcc_def_ledger.specs.AllowedLedgers.{IsAllowed, is_valued, is_valued_as}
use Rattle.mdcc_def_ledger.specs.AllowedStructures.{are_begun, is_begun, is_own_mark}
use Rattle.mdcc_def_protocol.specs.Belongs.{adds_belong, amounts_belong, ballot_belongs, cause_belongs, choice_belongs, is_centre, item_belongs, mark_belongs, message_belongs, options_belong, outcome_belongs, tx_belongs, update_belongs}
use Rattle.mdcc_def_protocol.specs.Facts.{current_of, floor_of, heard_of, is_forgotten, is_heard, last_ballot, shown_of, votes_of}
use Rattle.mdcc_def_ledger.specs.Ledger.{Added, Entry, Valued, choices_begun, chosen_of, facts_of, outcome_of}
use Rattle.mdcc_def_protocol.specs.Marks.{Amounts, options_eq}
use Rattle.mdcc_def_messages.specs.declared.messages.Message.{Message}
use Rattle.mdcc_theorem_trace_states.specs.Words.{Each, In}
use Rattle.mdcc_theorem_trace_states.specs.MessageMeaning.{Says}
use Rattle.mdcc_theorem_trace_states.proofs.Belonging.{AreOf, IsDeltaOf, base-belongs, begun-belong, deltas-belong, each-all, facts-belong, given-belongs, last-belongs, through-belongs, votes-belong}
use Rattle.mdcc_theorem_trace_states.proofs.Ledgers.{Allowed-tail, any-In}
use Rattle.mdcc_theorem_trace_states.proofs.Lists.{Each-at, Each-map}
use Rattle.mdcc_theorem_trace_states.proofs.Maps.{tx-true}
use Rattle.mdcc_theorem_trace_states.proofs.Tests.{Decides-ballot, Decides-options}
use Rattle.mdcc_theorem_trace_rules.proofs.Chosen.{chosen-given, chosen-to}
use Rattle.mdcc_theorem_trace_rules.proofs.Deciding.{begun-tx, outcome-belongs}
use Rattle.mdcc_theorem_trace_rules.proofs.Outcomes.{outcome-begun}
use Rattle.mdcc_theorem_trace_rules.proofs.Floors.{floor-heard}
use Rattle.mdcc_theorem_trace_rules.proofs.Votings.{was-outcome}
use Rattle.mdcc_theorem_trace.proofs.Finished.{heard-one}
use Rattle.mdcc_theorem_trace.proofs.Safety.{votes-told}

-- ---- begun choices

pub begun-of : (cluster : Cluster) (es : List Entry) (t : TxId) (c : Choice) → IsAllowed cluster es → In c (choices_begun es t) → choice_belongs cluster c ≡ true
begun-of cluster es t c legal i = Each-at (λ (c : Choice). choice_belongs cluster c ≡ true) (choices_begun es t) c (begun-belong cluster es t legal) i

-- a begun transaction is of the cluster
pub begun-in : (cluster : Cluster) (es : List Entry) (t : TxId) (c : Choice) → IsAllowed cluster es → In c (choices_begun es t) → tx_belongs cluster t ≡ true
begun-in cluster es t c legal i =
    subst (λ z. tx_belongs cluster z ≡ true) (begun-tx cluster es t c legal i) (and_parts (tx_belongs cluster c.tx) (update_belongs cluster c.update) (begun-of cluster es t c legal i)).0

first-in : {A : Type 0} (xs : List A) → 0 < length xs → (x : A) × In x xs
first-in [] h = absurd (omega arith)
first-in (x ∷ xs) h = (x, inl refl)

any-there : {A : Type 0} (p : A → Bool) (xs : List A) → list_any p xs ≡ true → (x : A) × In x xs
any-there p [] h = absurd (cc)
any-there p (x ∷ xs) h = (x, inl refl)

-- ---- structures

own-mark : (cluster : Cluster) (es : List Entry) (k : Key) (v : ℕ) (t : TxId) (m : Mark) → IsAllowed cluster es → is_own_mark es k v (t, m) ≡ true → (tx_belongs cluster t && mark_belongs cluster m) ≡ true
own-mark cluster es k v t (Mark.Accept c) legal h =
    let all = and_parts (tx_eq c.tx t && c.version == v && key_eq c.key k) (is_begun es c) h in
    let first = and_parts (tx_eq c.tx t && c.version == v) (key_eq c.key k) all.0 in
    let tx = and_parts (tx_eq c.tx t) (c.version == v) first.0 in
    let i = any-In c (choices_begun es c.tx) all.1 in
    and_from (tx_belongs cluster t) (choice_belongs cluster c) (subst (λ z. tx_belongs cluster z ≡ true) (tx-true c.tx t tx.0) (begun-in cluster es c.tx c legal i)) (begun-of cluster es c.tx c legal i)
own-mark cluster es k v t Mark.Reject legal h =
    let r = any-there (λ (c : Choice). c.version == v && key_eq c.key k) (choices_begun es t) h in
    and_from (tx_belongs cluster t) true (begun-in cluster es t r.0 legal r.1) refl

own-marks : (cluster : Cluster) (es : List Entry) (k : Key) (v : ℕ) (os : Options) → IsAllowed cluster es → are_begun es k v os ≡ true → options_belong cluster os ≡ true
own-marks cluster es k v [] legal h = refl
own-marks cluster es k v (e ∷ os) legal h =
    let p = and_parts (is_own_mark es k v e) (are_begun es k v os) h in
    and_from (tx_belongs cluster e.0 && mark_belongs cluster e.1) (options_belong cluster os) (own-mark cluster es k v e.0 e.1 legal p.0) (own-marks cluster es k v os legal p.1)

valued-of : (cluster : Cluster) (es : List Entry) (k : Key) (v : ℕ) (b : Ballot) (os : Options) → IsAllowed cluster es → is_valued es k v b os ≡ true → (ballot_belongs cluster b ≡ true) × (options_belong cluster os ≡ true)
valued-of cluster [] k v b os legal h = absurd (cc)
valued-of cluster (Added c f ∷ es) k v b os legal h = valued-of cluster es k v b os legal.0 h
valued-of cluster (Entry.Begun c t cs ∷ es) k v b os legal h = valued-of cluster es k v b os legal.0 h
valued-of cluster (Valued c j w m xs ∷ es) k v b os legal h =
    elim (or_cases (is_valued_as k v b os (Valued c j w m xs)) (is_valued es k v b os) h) [
      | inr g ↦ valued-of cluster es k v b os legal.0 g
      | inl g ↦
          let all = and_parts (w == v && ballot_eq m b && key_eq j k) (options_eq xs os) g in
          let first = and_parts (w == v && ballot_eq m b) (key_eq j k) all.0 in
          let second = and_parts (w == v) (ballot_eq m b) first.0 in
          let s : m ≡ b = (Decides-ballot m b).0 second.1 in
          let r : xs ≡ os = (Decides-options xs os).0 all.1 in (
            subst (λ z. ballot_belongs cluster z ≡ true) s (or_right (is_fast m) (is_centre cluster m.centre) (subst (λ z. is_centre cluster z ≡ true) (sym legal.1.1.centre) legal.1.0)),
            subst (λ z. options_belong cluster z ≡ true) r (own-marks cluster es j w xs legal.0 legal.1.1.begun),
          )
    ]

-- ---- outcomes

chosen-of : (cluster : Cluster) → AreQuorums cluster.quorums → (es : List Entry) (k : Key) (v : ℕ) (t : TxId) (x : Mark) → IsAllowed cluster es → chosen_of cluster.quorums es k v t ≡ Some x → mark_belongs cluster x ≡ true
chosen-of cluster sizes es k v t x legal h =
    let is = chosen-to cluster.quorums es k v t x h in
    let given = chosen-given cluster.quorums sizes es k v is.ballot t x is.enough in
    (given-belongs cluster es k v is.ballot t given.0 x legal given.2).mark

outcome-of : (cluster : Cluster) → AreQuorums cluster.quorums → (es : List Entry) (t : TxId) (o : Outcome) → IsAllowed cluster es → outcome_of cluster.quorums es t ≡ Some o → (tx_belongs cluster t ≡ true) × (outcome_belongs cluster o ≡ true)
outcome-of cluster sizes es t o legal h =
    let begun = outcome-begun cluster.quorums es t o h in
    let some = first-in (choices_begun es t) begun.0 in (
      begun-in cluster es t some.0 legal some.1,
      outcome-belongs cluster (map (λ (c : Choice). chosen_of cluster.quorums es c.key c.version t) (choices_begun es t)) o
          (Each-map (λ (m : Option Mark). (x : Mark) → m ≡ Some x → mark_belongs cluster x ≡ true) (λ (c : Choice). chosen_of cluster.quorums es c.key c.version t) (choices_begun es t) (each (choices_begun es t))) begun.1,
    )
  where
    each : (cs : List Choice) → Each (λ (c : Choice). (x : Mark) → chosen_of cluster.quorums es c.key c.version t ≡ Some x → mark_belongs cluster x ≡ true) cs
    each [] = tt
    each (c ∷ cs) = (λ x g. chosen-of cluster sizes es c.key c.version t x legal g, each cs)

-- ---- data

adds-of : (cluster : Cluster) (adds : List Delta) → Each (λ (e : TxId × Amounts). IsDeltaOf cluster e.0 e.1) (map (λ (delta : Delta). (delta.tx, delta.amounts)) adds) → adds_belong cluster adds ≡ true
adds-of cluster [] h = refl
adds-of cluster (d ∷ ds) h = and_from (tx_belongs cluster d.tx && amounts_belong cluster d.amounts) (adds_belong cluster ds) h.0 (adds-of cluster ds h.1)

all-filter : {A : Type 0} (p q : A → Bool) (xs : List A) → list_all q xs ≡ true → list_all q (filter p xs) ≡ true
all-filter p q [] h = refl
all-filter p q (x ∷ xs) h =
    let r = and_parts (q x) (list_all q xs) h in
    elim (cases_Bool (p x)) [ inl e ↦ rw e (and_from (q x) _ r.0 (all-filter p q xs r.1)) | inr e ↦ rw e (all-filter p q xs r.1) ]

-- a transaction that was heard is of the cluster
heard-belongs : (cluster : Cluster) → AreQuorums cluster.quorums → (es : List Entry) (a : ℕ) (t : TxId) → IsAllowed cluster es → is_heard (facts_of es a) t ≡ true → tx_belongs cluster t ≡ true
heard-belongs cluster sizes es a t legal h = by_case (heard_of (facts_of es a) t) refl
  where
    by_case : (o : Option Outcome) → heard_of (facts_of es a) t ≡ o → tx_belongs cluster t ≡ true
    by_case None e = let bad : is_heard (facts_of es a) t ≡ false = rw e refl in absurd (true≢false (sym h ∙ bad))
    by_case (Some o) e =
        let w = was-outcome cluster es a t o legal e in
        (outcome-of cluster sizes w.old t o (Allowed-tail cluster w.old es w.tail legal) w.outcome).0

pub own : (cluster : Cluster) → AreQuorums cluster.quorums → (es : List Entry) (a : ℕ) (m : Message) → IsAllowed cluster es → is_centre cluster a ≡ true → Says cluster es a m → message_belongs cluster m ≡ true
own cluster sizes es a (Message.Propose c) legal here h = begun-of cluster es c.tx c legal (any-In c (choices_begun es c.tx) h)
own cluster sizes es a (Message.Lead c) legal here h = begun-of cluster es c.tx c legal (any-In c (choices_begun es c.tx) h)
own cluster sizes es a (Message.Voted k v b t m) legal here h =
    let g = given-belongs cluster es k v b t a m legal h in
    and_from (ballot_belongs cluster b && tx_belongs cluster t) (mark_belongs cluster m) (and_from (ballot_belongs cluster b) (tx_belongs cluster t) g.ballot g.tx) g.mark
own cluster sizes es a (Message.Outcome t o) legal here h = let g = outcome-of cluster sizes es t o legal h in and_from (tx_belongs cluster t) (outcome_belongs cluster o) g.0 g.1
own cluster sizes es a (Message.Prepare k v w b) legal here h = or_right (is_fast b) (is_centre cluster b.centre) (subst (λ z. is_centre cluster z ≡ true) (sym h.2) here)
own cluster sizes es a (Message.Promise k v w b r os) legal here h =
    and_from (ballot_belongs cluster b && ballot_belongs cluster r) (options_belong cluster os)
    (and_from (ballot_belongs cluster b) (ballot_belongs cluster r) (through-belongs cluster (facts_of es a) k v b w facts h.0) (subst (λ z. ballot_belongs cluster z ≡ true) reported (last-belongs cluster (facts_of es a) k v b facts)))
    (subst (λ z. options_belong cluster z ≡ true) voted (all-filter (λ (e : TxId × Mark). not (is_forgotten (facts_of es a) k v e.0)) (λ (e : TxId × Mark). tx_belongs cluster e.0 && mark_belongs cluster e.1) (votes_of (facts_of es a) k v (last_ballot (facts_of es a) k v b))
    (each-all (λ (e : TxId × Mark). tx_belongs cluster e.0 && mark_belongs cluster e.1) (votes_of (facts_of es a) k v (last_ballot (facts_of es a) k v b)) (votes-belong cluster (facts_of es a) k v (last_ballot (facts_of es a) k v b) facts))))
  where
    facts : AreOf cluster (facts_of es a)
    facts = facts-belong cluster es a legal

    reported : last_ballot (facts_of es a) k v b ≡ r
    reported = ap (λ (z : Report). z.ballot) h.2

    voted : shown_of (facts_of es a) k v (last_ballot (facts_of es a) k v b) ≡ os
    voted = sym (votes-told 0 (facts_of es a) k v b h.3) ∙ ap (λ (z : Report). z.votes) h.2
own cluster sizes es a (Message.Accept k v b os) legal here h = let g = valued-of cluster es k v b os legal h.1 in and_from (ballot_belongs cluster b) (options_belong cluster os) g.0 g.1
own cluster sizes es a (Message.SyncGive k v item adds) legal here h =
    let facts = facts-belong cluster es a legal in
    and_from (item_belongs cluster item) (adds_belong cluster adds) (base-belongs cluster (facts_of es a) k item facts h.1)
    (adds-of cluster adds (subst (λ z. Each (λ (e : TxId × Amounts). IsDeltaOf cluster e.0 e.1) z) h.2 (deltas-belong cluster (facts_of es a) k (current_of (facts_of es a) k) facts)))
own cluster sizes es a (Message.Escalate k v t cause) legal here h = and_from (tx_belongs cluster t) (cause_belongs cluster cause) h.0 h.1
own cluster sizes es a (Message.Refused k v b p) legal here h = and_from (ballot_belongs cluster b) (ballot_belongs cluster p) h.0 h.1
own cluster sizes es a (Message.Ask t k v) legal here h = h
own cluster sizes es a (Message.SyncAsk k) legal here h = refl
own cluster sizes es a (Message.Mark centre era upto) legal here h =
    heard-belongs cluster sizes es a (record { centre = centre; epoch = era; seq = upto }) legal (heard-one (facts_of es a) (record { centre = centre; epoch = era; seq = upto }) upto h.0 (omega arith) h.1)
own cluster sizes es a (Message.Finished t) legal here h =
    let p = and_parts (nat_lt 0 t.seq) (nat_le t.seq (floor_of (facts_of es a) t.centre t.epoch)) h in
    heard-belongs cluster sizes es a t legal (heard-one (facts_of es a) t (floor_of (facts_of es a) t.centre t.epoch) (ltb-true 0 t.seq p.0) (leb-true t.seq _ p.1) (floor-heard cluster es a t.centre t.epoch legal))
own cluster sizes es a (Message.ClientRead n k) legal here h = absurd h
own cluster sizes es a (Message.ClientBegin n ps) legal here h = absurd h
own cluster sizes es a (Message.ClientAnswer n x) legal here h = absurd h
