-- At most 64 deltas of one version are ever committed, so no fact that is backed crowds a version.
use Rattle.std.proofs.Common.{List, None, Option, Some, [], ap, arith, false, inl, inr, length, map, not, refl, subst, sym, true, ℕ, ◌==◌, ◌∙◌, ◌∷◌, ◌≡◌, ◌≤◌}
use Rattle.std.specs.Prelude.{filter_map, is_some, nat_lt, option_and_then}
use Rattle.std.specs.List.{list_all, list_any}
use Rattle.std.proofs.lemmas.Bool.{cases_Bool, eqb-true, le-leb, ltb-true, or_from}
use Rattle.mdcc_base.specs.Counts.{number_of}
use Rattle.mdcc_base.specs.Quorums.{quorum_size}
use Rattle.mdcc_base.specs.TxId.{tx_eq}
use Rattle.mdcc_base.specs.declared.identifiers.Ballot.{Ballot}
use Rattle.mdcc_base.specs.declared.identifiers.TxId.{TxId}
use Rattle.mdcc_base.specs.declared.key.Key.{Key}
use Rattle.mdcc_option.specs.declared.choices.Choice.{Choice}
use Rattle.mdcc_option.specs.declared.choices.Mark.{Mark}
use Rattle.mdcc_option.specs.declared.choices.Mark.TheVariants.{Accept, Reject}
use Rattle.mdcc_option.specs.declared.choices.Outcome.TheVariants.{Abort, Commit}
use Rattle.mdcc_option.specs.declared.cluster.Cluster.{Cluster}
use Rattle.mdcc_option.specs.declared.faults.BeginFault.{BeginFault}
use Rattle.mdcc_option.specs.declared.items.Item.{Item}
use Rattle.mdcc_option.specs.declared.items.Update.{Update}
use Rattle.mdcc_struct.specs.Maps.{TxMap, value_of}
use Rattle.mdcc_def_ledger.specs.AllowedLedgers.{IsAllowed, IsBacked, part_in}
use Rattle.mdcc_def_protocol.specs.Facts.{base_of, current_of, deltas_at, deltas_from, executed_of}
use Rattle.mdcc_def_ledger.specs.Ledger.{Added, Entry, Valued, choices_begun, chosen_of, facts_of, outcome_of}
use Rattle.mdcc_def_protocol.specs.Manager.{part_begin_fault, parts_begin_fault, update_begin_fault}
use Rattle.mdcc_def_protocol.specs.Marks.{Amounts, choice_in, is_reject_found, is_write, outcome_of_marks}
use Rattle.mdcc_def_protocol.specs.News.{is_crowding, keys_in}
use Rattle.mdcc_def_messages.specs.declared.facts.Fact.{Fact}
use Rattle.mdcc_theorem_agreement.specs.Laws.{IsAbort, IsChosenAt, IsLedger}
use Rattle.mdcc_theorem_agreement.proofs.LawsTold.{commit_begun}
use Rattle.mdcc_theorem_bounds.specs.Held.{IsBase, IsCommittedAdd}
use Rattle.mdcc_theorem_bounds.specs.Rooms.{AreOfDistinctTxs}
use Rattle.mdcc_theorem_bounds.proofs.HeldTold.{held_base}
use Rattle.mdcc_theorem_bounds.proofs.SumsTold.{sums_chosen}
use Rattle.mdcc_theorem_trace_states.specs.Sound.{IsChosen}
use Rattle.mdcc_theorem_trace_states.specs.Words.{Each, In, IsTail}
use Rattle.mdcc_theorem_trace_states.proofs.Lists.{IsTail-same}
use Rattle.mdcc_theorem_trace_states.proofs.Maps.{each-union, tx-refl}
use Rattle.mdcc_theorem_trace_rules.proofs.Chains.{HasOnce, once-union}
use Rattle.mdcc_theorem_trace_rules.proofs.Chosen.{chosen-to, counted}
use Rattle.mdcc_theorem_trace_rules.proofs.Deciding.{begun-tx}
use Rattle.mdcc_theorem_trace_rules.proofs.Outcomes.{outcome-begun}
use Rattle.mdcc_theorem_trace_answers.proofs.Among.{In-Contains}
use Rattle.mdcc_theorem_trace_answers.proofs.Committed.{base-tail, fact-adds, ledger-tail, were-committed}

-- ---- a committed choice is chosen

-- where the choices of the marks are the choices themselves, each is the choice of its own mark
aligned : (f : Choice → Option Mark) (cs : List Choice) → list_any is_reject_found (map f cs) ≡ false → list_all is_some (map f cs) ≡ true →
    filter_map (λ (mark : Option Mark). option_and_then choice_in mark) (map f cs) ≡ cs → (c : Choice) → In c cs → f c ≡ Some (Accept c)
aligned f [] none all e c i = absurd i
aligned f (x ∷ xs) none all e c i = by_mark (λ n a g j. aligned f xs n a g c j) (f x) refl none all e
  where
    by_mark : (list_any is_reject_found (map f xs) ≡ false → list_all is_some (map f xs) ≡ true → filter_map (λ (mark : Option Mark). option_and_then choice_in mark) (map f xs) ≡ xs → In c xs → f c ≡ Some (Accept c)) → (o : Option Mark) → f x ≡ o →
        list_any is_reject_found (f x ∷ map f xs) ≡ false → list_all is_some (f x ∷ map f xs) ≡ true → filter_map (λ (mark : Option Mark). option_and_then choice_in mark) (f x ∷ map f xs) ≡ x ∷ xs → f c ≡ Some (Accept c)
    by_mark rest None m n a g = absurd (let bad = rw m at a in cc)
    by_mark rest (Some Reject) m n a g = absurd (let bad = rw m at n in cc)
    by_mark rest (Some (Accept d)) m n a g =
        let none' : list_any is_reject_found (map f xs) ≡ false = rw m at n in
        let all' : list_all is_some (map f xs) ≡ true = rw m at a in
        let same : d ∷ filter_map (λ (mark : Option Mark). option_and_then choice_in mark) (map f xs) ≡ x ∷ xs = rw m at g in
        let head : d ≡ x = cc in
        let tail : filter_map (λ (mark : Option Mark). option_and_then choice_in mark) (map f xs) ≡ xs = cc in
        elim i [
          | inl s ↦ subst (λ z. f z ≡ Some (Accept z)) (sym s) (m ∙ ap (λ z. Some (Accept z)) head)
          | inr j ↦ rest none' all' tail j
        ]

commit-marks : (f : Choice → Option Mark) (cs : List Choice) → outcome_of_marks (map f cs) ≡ Some (Commit cs) → (c : Choice) → In c cs → f c ≡ Some (Accept c)
commit-marks f cs h c i =
    elim (cases_Bool (list_any is_reject_found (map f cs))) [
      | inl e ↦ let bad : Some Abort ≡ Some (Commit cs) = rw e at h in let worse : Abort ≡ Commit cs = cc in absurd (cc)
      | inr e ↦ elim (cases_Bool (list_all is_some (map f cs))) [
        | inl g ↦
            let s : Some (Commit (filter_map (λ (mark : Option Mark). option_and_then choice_in mark) (map f cs))) ≡ Some (Commit cs) = rw g at (rw e at h) in
            let r : filter_map (λ (mark : Option Mark). option_and_then choice_in mark) (map f cs) ≡ cs = cc in
            aligned f cs e g r c i
        | inr g ↦ let bad : None ≡ Some (Commit cs) = rw g at (rw e at h) in absurd (cc)
      ]
    ]

-- what is known of the choice of a committed delta
pub record IsChosenAdd (cluster : Cluster) (es : List Entry) (k : Key) (v : ℕ) (d : TxId × Amounts) (c : Choice) : Type 0 where
  pub begun : In c (choices_begun es d.0)
  pub tx : c.tx ≡ d.0
  pub key : c.key ≡ k
  pub version : c.version ≡ v
  pub adds : c.update ≡ Update.Add d.1
  pub ballot : Ballot
  pub chosen : IsChosenAt cluster es k v ballot c.tx (Accept c)
  pub not_aborted : IsAbort cluster es c.tx → ⊥

chosen-add : (cluster : Cluster) (es : List Entry) (k : Key) (v : ℕ) (d : TxId × Amounts) → IsLedger cluster es → (g : IsCommittedAdd cluster es k v d) → IsChosenAdd cluster es k v d g.1
chosen-add cluster es k v d h g = record {
  begun = begun;
  tx = tx;
  key = g.2.of_key;
  version = g.2.of_version;
  adds = g.3;
  ballot = is.ballot;
  chosen = subst (λ z. IsChosenAt cluster es k v is.ballot z (Accept g.1)) (sym tx) at;
  not_aborted = λ a. let s : Some Abort ≡ Some (Commit g.0) = sym (subst (λ z. outcome_of cluster.quorums es z ≡ Some Abort) tx a) ∙ g.2.outcome in let bad : Abort ≡ Commit g.0 = cc in cc;
}
  where
    same : choices_begun es d.0 ≡ g.0
    same = commit_begun cluster es h d.0 g.0 g.2.outcome

    begun : In g.1 (choices_begun es d.0)
    begun = subst (λ z. In g.1 z) (sym same) (In-Contains g.0 g.1 g.2.one_of)

    tx : g.1.tx ≡ d.0
    tx = begun-tx cluster es d.0 g.1 h.allowed begun

    marks : outcome_of_marks (map (λ (c : Choice). chosen_of cluster.quorums es c.key c.version d.0) (choices_begun es d.0)) ≡ Some (Commit (choices_begun es d.0))
    marks = (outcome-begun cluster.quorums es d.0 (Commit g.0) g.2.outcome).1 ∙ ap (λ z. Some (Commit z)) (sym same)

    found : chosen_of cluster.quorums es g.1.key g.1.version d.0 ≡ Some (Accept g.1)
    found = commit-marks (λ (c : Choice). chosen_of cluster.quorums es c.key c.version d.0) (choices_begun es d.0) marks g.1 begun

    is : IsChosen cluster.quorums es k v d.0 (Accept g.1)
    is = chosen-to cluster.quorums es k v d.0 (Accept g.1) (subst (λ z. chosen_of cluster.quorums es k z d.0 ≡ Some (Accept g.1)) g.2.of_version (subst (λ z. chosen_of cluster.quorums es z g.1.version d.0 ≡ Some (Accept g.1)) g.2.of_key found))

    at : IsChosenAt cluster es k v is.ballot d.0 (Accept g.1)
    at = le-leb _ _ (subst (λ n. quorum_size cluster.quorums is.ballot ≤ n) (sym (counted cluster.quorums es k v is.ballot d.0 (Accept g.1))) is.enough)

-- ---- the base of its version

-- who began an Add held just its version
pub record WasAdded (es : List Entry) (c : Choice) : Type 0 where
  pub before : List Entry
  pub tail : IsTail before es
  pub centre : ℕ
  pub held : current_of (facts_of before centre) c.key ≡ c.version

part-held : (fs : List Fact) (cs : List Choice) (c : Choice) → In c cs → parts_begin_fault fs (map part_in cs) ≡ None → update_begin_fault fs c.key c.version c.update ≡ None
part-held fs [] c i h = absurd i
part-held fs (x ∷ xs) c i h = by_case (λ j g. part-held fs xs c j g) (part_begin_fault fs (part_in x)) refl
  where
    by_case : (In c xs → parts_begin_fault fs (map part_in xs) ≡ None → update_begin_fault fs c.key c.version c.update ≡ None) → (o : Option BeginFault) → part_begin_fault fs (part_in x) ≡ o → update_begin_fault fs c.key c.version c.update ≡ None
    by_case rest (Some fault) e = absurd (let bad = rw e at h in cc)
    by_case rest None e =
        elim i [
          | inl s ↦ subst (λ (z : Choice). update_begin_fault fs z.key z.version z.update ≡ None) (sym s) e
          | inr j ↦ rest j (let g : parts_begin_fault fs (map part_in xs) ≡ None = rw e at h in g)
        ]

add-held : (fs : List Fact) (k : Key) (v : ℕ) (u : Update) (amounts : Amounts) → u ≡ Update.Add amounts → update_begin_fault fs k v u ≡ None → current_of fs k ≡ v
add-held fs k v u amounts e h =
    elim (cases_Bool (current_of fs k == v)) [
      | inl g ↦ eqb-true (current_of fs k) v g
      | inr g ↦ let f : update_begin_fault fs k v (Update.Add amounts) ≡ None = subst (λ z. update_begin_fault fs k v z ≡ None) e h in absurd (let bad = rw g at f in cc)
    ]

was-added : (cluster : Cluster) (es : List Entry) (t : TxId) (c : Choice) (amounts : Amounts) → IsAllowed cluster es → In c (choices_begun es t) → c.update ≡ Update.Add amounts → WasAdded es c
was-added cluster [] t c amounts legal i e = absurd i
was-added cluster (Added b f ∷ es) t c amounts legal i e = let r = was-added cluster es t c amounts legal.0 i e in record { before = r.before; tail = inr r.tail; centre = r.centre; held = r.held }
was-added cluster (Valued b k v m os ∷ es) t c amounts legal i e = let r = was-added cluster es t c amounts legal.0 i e in record { before = r.before; tail = inr r.tail; centre = r.centre; held = r.held }
was-added cluster (Entry.Begun b u cs ∷ es) t c amounts legal i e =
    elim (cases_Bool (tx_eq u t)) [
      | inl g ↦ let j : In c cs = rw g at i in record { before = es; tail = inr (IsTail-same es); centre = b; held = add-held (facts_of es b) c.key c.version c.update amounts e (part-held (facts_of es b) cs c j legal.1.1.held) }
      | inr g ↦ let j : In c (choices_begun es t) = rw g at i in let r = was-added cluster es t c amounts legal.0 j e in record { before = r.before; tail = inr r.tail; centre = r.centre; held = r.held }
    ]

base-there : (cluster : Cluster) (es : List Entry) (k : Key) (v : ℕ) (d : TxId × Amounts) (c : Choice) → IsLedger cluster es → IsChosenAdd cluster es k v d c → (o : Option Item) × IsBase cluster es k v o
base-there cluster es k v d c h g =
    let r = was-added cluster es d.0 c d.1 h.allowed g.begun g.adds in
    let at : IsBase cluster r.before c.key (current_of (facts_of r.before r.centre) c.key) (base_of (facts_of r.before r.centre) c.key) = held_base cluster r.before (ledger-tail cluster r.before es r.tail h) r.centre c.key in
    let here : IsBase cluster r.before c.key v (base_of (facts_of r.before r.centre) c.key) = subst (λ z. IsBase cluster r.before c.key z (base_of (facts_of r.before r.centre) c.key)) (r.held ∙ g.version) at in
    let there : IsBase cluster r.before k v (base_of (facts_of r.before r.centre) c.key) = subst (λ z. IsBase cluster r.before z v (base_of (facts_of r.before r.centre) c.key)) g.key here in
    (base_of (facts_of r.before r.centre) c.key, base-tail cluster r.before es k v (base_of (facts_of r.before r.centre) c.key) r.tail h there)

-- ---- how many there can be

abbrev pub choices-of : (cluster : Cluster) (es : List Entry) (k : Key) (v : ℕ) (ds : TxMap Amounts) → Each (λ (d : TxId × Amounts). IsCommittedAdd cluster es k v d) ds → List Choice
choices-of cluster es k v [] h = []
choices-of cluster es k v (d ∷ ds) h = h.0.1 ∷ choices-of cluster es k v ds h.1

-- each of them is the choice of some delta
pub record IsOne (cluster : Cluster) (es : List Entry) (k : Key) (v : ℕ) (ds : TxMap Amounts) (c : Choice) : Type 0 where
  pub delta : TxId × Amounts
  pub listed : In delta ds
  pub is : IsChosenAdd cluster es k v delta c

one-of : (cluster : Cluster) (es : List Entry) (k : Key) (v : ℕ) (ds : TxMap Amounts) (h : Each (λ (d : TxId × Amounts). IsCommittedAdd cluster es k v d) ds) → IsLedger cluster es → (c : Choice) → In c (choices-of cluster es k v ds h) → IsOne cluster es k v ds c
one-of cluster es k v [] h l c i = absurd i
one-of cluster es k v (d ∷ ds) h l c i =
    elim i [
      | inl s ↦ record { delta = d; listed = inl refl; is = subst (IsChosenAdd cluster es k v d) (sym s) (chosen-add cluster es k v d l h.0) }
      | inr j ↦ let r = one-of cluster es k v ds h.1 l c j in record { delta = r.delta; listed = inr r.listed; is = r.is }
    ]

value-there : {X : Type 0} (m : TxMap X) (e : TxId × X) → In e m → value_of m e.0 ≡ None → ⊥
value-there [] e i h = i
value-there (x ∷ xs) e i h =
    elim i [
      | inl s ↦ let t : tx_eq x.0 e.0 ≡ true = subst (λ z. tx_eq z.0 e.0 ≡ true) s (tx-refl e.0) in let bad = rw t at h in cc
      | inr j ↦ elim (cases_Bool (tx_eq x.0 e.0)) [
        | inl t ↦ let bad = rw t at h in cc
        | inr t ↦ value-there xs e j (let g : value_of xs e.0 ≡ None = rw t at h in g)
      ]
    ]

apart-of : (cluster : Cluster) (es : List Entry) (k : Key) (v : ℕ) (ds : TxMap Amounts) (h : Each (λ (d : TxId × Amounts). IsCommittedAdd cluster es k v d) ds) → IsLedger cluster es → HasOnce ds → AreOfDistinctTxs (choices-of cluster es k v ds h)
apart-of cluster es k v [] h l once = tt
apart-of cluster es k v (d ∷ ds) h l once = (λ c i e. other c (one-of cluster es k v ds h.1 l c (In-Contains (choices-of cluster es k v ds h.1) c i)) e, apart-of cluster es k v ds h.1 l once.1)
  where
    other : (c : Choice) → IsOne cluster es k v ds c → c.tx ≡ h.0.1.tx → ⊥
    other c r e =
        let s : r.delta.0 ≡ d.0 = sym r.is.tx ∙ (e ∙ (chosen-add cluster es k v d l h.0).tx) in
        value-there ds r.delta r.listed (subst (λ z. value_of ds z ≡ None) (sym s) once.0)

adds-counted : (cluster : Cluster) (es : List Entry) (k : Key) (v : ℕ) (ds : TxMap Amounts) (h : Each (λ (d : TxId × Amounts). IsCommittedAdd cluster es k v d) ds) → number_of (λ (c : Choice). not (is_write c.update)) (choices-of cluster es k v ds h) ≡ length ds
adds-counted cluster es k v [] h = refl
adds-counted cluster es k v (d ∷ ds) h =
    let e : not (is_write h.0.1.update) ≡ true = subst (λ z. not (is_write z) ≡ true) (sym h.0.3) refl in
    rw e (omega (arith, adds-counted cluster es k v ds h.1))

pub committed-few : (cluster : Cluster) (es : List Entry) (k : Key) (v : ℕ) (ds : TxMap Amounts) → IsLedger cluster es → HasOnce ds → Each (λ (d : TxId × Amounts). IsCommittedAdd cluster es k v d) ds → length ds ≤ 64
committed-few cluster es k v [] l once h = omega arith
committed-few cluster es k v (d ∷ ds) l once h =
    let base = base-there cluster es k v d h.0.1 l (chosen-add cluster es k v d l h.0) in
    let within = sums_chosen cluster es l k v base.0 base.1 (choices-of cluster es k v (d ∷ ds) h) (apart-of cluster es k v (d ∷ ds) h l once)
    (λ c i. let r = one-of cluster es k v (d ∷ ds) h l c (In-Contains (choices-of cluster es k v (d ∷ ds) h) c i) in ((r.is.ballot, r.is.chosen), r.is.not_aborted)) in
    omega (arith, within.adds, adds-counted cluster es k v (d ∷ ds) h)

-- ---- facts

once-deltas : (fs : List Fact) (k : Key) (v : ℕ) → HasOnce (deltas_at fs k v)
once-deltas [] k v = tt
once-deltas (f ∷ fs) k v = once-union (deltas_at fs k v) (deltas_from k v f) (once-deltas fs k v)

pub not-crowding : (cluster : Cluster) (es : List Entry) (a : ℕ) (f : Fact) → IsLedger cluster es → IsBacked cluster es a f → is_crowding (facts_of es a) f ≡ false
not-crowding cluster es a f l b = none (keys_in f)
  where
    few : (k : Key) (v : ℕ) → length (deltas_at (f ∷ facts_of es a) k v) ≤ 64
    few k v =
        committed-few cluster es k v (deltas_at (f ∷ facts_of es a) k v) l (once-deltas (f ∷ facts_of es a) k v)
        (each-union (λ (d : TxId × Amounts). IsCommittedAdd cluster es k v d) (deltas_at (facts_of es a) k v) (deltas_from k v f) (were-committed cluster es l es (IsTail-same es) a k v) (fact-adds cluster es a f k v l (were-committed cluster es l) b))

    none : (ks : List Key) → list_any (λ (k : Key). nat_lt 64 (length (executed_of (f ∷ facts_of es a) k))) ks ≡ false
    none [] = refl
    none (k ∷ ks) = or_from (nat_lt 64 (length (executed_of (f ∷ facts_of es a) k))) _ (within (few k (current_of (f ∷ facts_of es a) k))) (none ks)
      where
        within : length (deltas_at (f ∷ facts_of es a) k (current_of (f ∷ facts_of es a) k)) ≤ 64 → nat_lt 64 (length (executed_of (f ∷ facts_of es a) k)) ≡ false
        within h = elim (cases_Bool (nat_lt 64 (length (executed_of (f ∷ facts_of es a) k)))) [ inl e ↦ absurd (let g = ltb-true 64 _ e in omega (arith, g, h)) | inr e ↦ e ]
