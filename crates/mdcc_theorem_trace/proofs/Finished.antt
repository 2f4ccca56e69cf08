-- What is finished at a centre was heard by all, and how far a forgotten mark is missing.
use Rattle.std.proofs.Common.{Bool, List, None, Option, Some, [], arith, cond, false, inl, inr, max, not, refl, subst, suc, sym, true, zero, ℕ, ◌&&◌, ◌+◌, ◌<◌, ◌==◌, ◌∙◌, ◌∷◌, ◌≡◌, ◌≤◌, ◌⊎◌}
use Rattle.std.specs.Prelude.{filter, fold, is_some, nat_le, nat_lt}
use Rattle.std.specs.List.{range_with_len}
use Rattle.std.proofs.lemmas.Bool.{and_parts, cases_Bool, eqb-false, eqb-true, leb-true, ltb-false, ltb-true, or_left, true≢false}
use Rattle.mdcc_base.specs.declared.identifiers.Ballot.{Ballot}
use Rattle.mdcc_base.specs.declared.identifiers.TxId.{TxId}
use Rattle.mdcc_base.specs.declared.key.Key.{Key}
use Rattle.mdcc_base.specs.Quorums.{all_centres}
use Rattle.mdcc_base.specs.TxId.{tx_eq}
use Rattle.mdcc_option.specs.declared.choices.Choice.{Choice}
use Rattle.mdcc_option.specs.declared.choices.Mark.{Mark}
use Rattle.mdcc_option.specs.declared.cluster.Cluster.{Cluster}
use Rattle.mdcc_struct.specs.Maps.{value_of}
use Rattle.mdcc_struct.specs.declared.options.Options.{Options}
use Rattle.mdcc_def_messages.specs.declared.facts.Fact.{Fact}
use Rattle.mdcc_def_protocol.specs.Belongs.{is_centre}
use Rattle.mdcc_def_protocol.specs.Facts.{are_heard, current_of, floor_of, floor_set, is_finished, is_forgotten, is_heard, is_settled, shown_of, votes_of}
use Rattle.mdcc_def_protocol.specs.Structures.{is_left_out, mark_of_choice, with_claim}
use Rattle.mdcc_def_ledger.specs.Ledger.{Added, Entry, Valued, facts_of}
use Rattle.mdcc_def_ledger.specs.AllowedLedgers.{IsAllowed}
use Rattle.mdcc_theorem_trace_states.specs.Words.{In, IsTail}
use Rattle.mdcc_theorem_trace_states.proofs.Kept.{are-heard-more}
use Rattle.mdcc_theorem_trace_states.proofs.Maps.{is_some-none, tx-true, value_of-inserted}
use Rattle.mdcc_theorem_trace_rules.proofs.Chains.{finished-more}
use Rattle.mdcc_theorem_trace_rules.proofs.Floors.{heard-less}
use Rattle.mdcc_theorem_trace.proofs.Safety.{all-at}

-- ---- centres

in-range : (n s a : ℕ) → s ≤ a → a < s + n → In a (range_with_len s n)
in-range zero s a h g = absurd (omega (arith, h, g))
in-range (suc n) s a h g = elim (cases_Bool (a == s)) [ inl e ↦ inl (eqb-true a s e) | inr e ↦ let ne = eqb-false a s e in inr (in-range n (s + 1) a (above ne) (omega (arith, g))) ]
  where
    above : (a ≡ s → ⊥) → s + 1 ≤ a
    above ne = omega (arith, h, ne)

pub centre-in : (cluster : Cluster) (a : ℕ) → is_centre cluster a ≡ true → In a (all_centres cluster.quorums)
centre-in cluster a h =
    let p = and_parts (nat_le 1 a) (nat_le a cluster.quorums.centres) h in
    in-range cluster.quorums.centres 1 a (leb-true 1 a p.0) (omega (arith, leb-true a cluster.quorums.centres p.1))

-- ---- a floor is over what all heard

floor-more : (cluster : Cluster) (b : ℕ) (f : Fact) (es : List Entry) (a c o e : ℕ) → IsAllowed cluster (Added b f ∷ es) → In c (all_centres cluster.quorums) → are_heard (facts_of es c) o e (floor_of (facts_of es a) o e) ≡ true →
    are_heard (facts_of (Added b f ∷ es) c) o e (floor_of (facts_of (Added b f ∷ es) a) o e) ≡ true
floor-more cluster b f es a c o e legal i rest =
    elim (cases_Bool (b == a)) [
      | inl s ↦ let same : floor_of (facts_of (Added b f ∷ es) a) o e ≡ max (floor_of (facts_of es a) o e) (floor_set o e f) = rw s refl in
          subst (λ z. are_heard (facts_of (Added b f ∷ es) c) o e z ≡ true) (sym same) (greater (floor_of (facts_of es a) o e) (floor_set o e f) grown (by-fact f legal))
      | inr s ↦ let same : floor_of (facts_of (Added b f ∷ es) a) o e ≡ floor_of (facts_of es a) o e = rw s refl in
          subst (λ z. are_heard (facts_of (Added b f ∷ es) c) o e z ≡ true) (sym same) grown
    ]
  where
    grown : are_heard (facts_of (Added b f ∷ es) c) o e (floor_of (facts_of es a) o e) ≡ true
    grown = are-heard-more (Added b f) es c o e (floor_of (facts_of es a) o e) rest

    greater : (x y : ℕ) → are_heard (facts_of (Added b f ∷ es) c) o e x ≡ true → are_heard (facts_of (Added b f ∷ es) c) o e y ≡ true → are_heard (facts_of (Added b f ∷ es) c) o e (max x y) ≡ true
    greater x y g h =
        elim (cases_Bool (nat_lt x y)) [
          | inl l ↦ heard-less (facts_of (Added b f ∷ es) c) o e y (max x y) (omega (arith, ltb-true x y l)) h
          | inr l ↦ heard-less (facts_of (Added b f ∷ es) c) o e x (max x y) (omega (arith, ltb-false x y l)) g
        ]

    by-fact : (g : Fact) → IsAllowed cluster (Added b g ∷ es) → are_heard (facts_of (Added b f ∷ es) c) o e (floor_set o e g) ≡ true
    by-fact (Fact.Booted n) l = refl
    by-fact (Fact.Promised j lo hi m) l = refl
    by-fact (Fact.Voted j w m os off) l = refl
    by-fact (Fact.Heard t u) l = refl
    by-fact (Fact.Adopted j w it ds) l = refl
    by-fact (Fact.Floor centre era upto) l =
        elim (cases_Bool (centre == o && era == e)) [
          | inl t ↦
              let p = and_parts (centre == o) (era == e) t in
              let all : are_heard (facts_of es c) centre era upto ≡ true = all-at (λ d. are_heard (facts_of es d) centre era upto) (all_centres cluster.quorums) c l.1.2 i in
              let here : are_heard (facts_of es c) o e upto ≡ true =
              subst (λ z. are_heard (facts_of es c) z e upto ≡ true) (eqb-true centre o p.0) (subst (λ z. are_heard (facts_of es c) centre z upto ≡ true) (eqb-true era e p.1) all) in
              let same : floor_set o e (Fact.Floor centre era upto) ≡ upto = rw t refl in
              subst (λ z. are_heard (facts_of (Added b f ∷ es) c) o e z ≡ true) (sym same) (are-heard-more (Added b f) es c o e upto here)
          | inr t ↦ let same : floor_set o e (Fact.Floor centre era upto) ≡ 0 = rw t refl in subst (λ z. are_heard (facts_of (Added b f ∷ es) c) o e z ≡ true) (sym same) refl
        ]

floor-all : (cluster : Cluster) (es : List Entry) (a c o e : ℕ) → IsAllowed cluster es → In c (all_centres cluster.quorums) → are_heard (facts_of es c) o e (floor_of (facts_of es a) o e) ≡ true
floor-all cluster [] a c o e legal i = refl
floor-all cluster (Entry.Begun b t cs ∷ es) a c o e legal i = floor-all cluster es a c o e legal.0 i
floor-all cluster (Valued b k v m os ∷ es) a c o e legal i = floor-all cluster es a c o e legal.0 i
floor-all cluster (Added b f ∷ es) a c o e legal i = floor-more cluster b f es a c o e legal i (floor-all cluster es a c o e legal.0 i)

pub heard-one : (fs : List Fact) (t : TxId) (n : ℕ) → 0 < t.seq → t.seq ≤ n → are_heard fs t.centre t.epoch n ≡ true → is_heard fs t ≡ true
heard-one fs t n above within h = by_case t.seq refl
  where
    by_case : (m : ℕ) → t.seq ≡ m → is_heard fs t ≡ true
    by_case zero s = absurd (omega (arith, above, s))
    by_case (suc j) s =
        let g : are_heard fs t.centre t.epoch (suc j) ≡ true = heard-less fs t.centre t.epoch n (suc j) (omega (arith, within, s)) h in
        let p = (and_parts (is_heard fs (record { centre = t.centre; epoch = t.epoch; seq = suc j })) (are_heard fs t.centre t.epoch j) g).0 in
        subst (λ z. is_heard fs (record { centre = t.centre; epoch = t.epoch; seq = z }) ≡ true) (sym s) p

-- a transaction that is finished at some centre was heard by each
pub finished-all : (cluster : Cluster) (es : List Entry) (a c : ℕ) (t : TxId) → IsAllowed cluster es → In c (all_centres cluster.quorums) → is_finished (facts_of es a) t ≡ true → is_heard (facts_of es c) t ≡ true
finished-all cluster es a c t legal i h =
    let p = and_parts (nat_lt 0 t.seq) (nat_le t.seq (floor_of (facts_of es a) t.centre t.epoch)) h in
    heard-one (facts_of es c) t (floor_of (facts_of es a) t.centre t.epoch) (ltb-true 0 t.seq p.0) (leb-true t.seq _ p.1) (floor-all cluster es a c t.centre t.epoch legal i)

finished-entry : (e : Entry) (es : List Entry) (a : ℕ) (t : TxId) → is_finished (facts_of es a) t ≡ true → is_finished (facts_of (e ∷ es) a) t ≡ true
finished-entry (Entry.Begun b u cs) es a t h = h
finished-entry (Valued b k v m os) es a t h = h
finished-entry (Added b f) es a t h = elim (cases_Bool (b == a)) [ inl s ↦ rw s (finished-more f (facts_of es a) t h) | inr s ↦ rw s h ]

pub finished-tail : (old es : List Entry) (a : ℕ) (t : TxId) → IsTail old es → is_finished (facts_of old a) t ≡ true → is_finished (facts_of es a) t ≡ true
finished-tail old [] a t tail h = subst (λ z. is_finished (facts_of z a) t ≡ true) tail h
finished-tail old (e ∷ es) a t tail h = elim tail [ inl s ↦ subst (λ z. is_finished (facts_of z a) t ≡ true) s h | inr r ↦ finished-entry e es a t (finished-tail old es a t r h) ]

-- some centre has the transaction finished
abbrev pub IsPast : List Entry → TxId → Type 0
IsPast es t = (a : ℕ) × (is_finished (facts_of es a) t ≡ true)

pub past-tail : (old es : List Entry) (t : TxId) → IsTail old es → IsPast old t → IsPast es t
past-tail old es t tail h = (h.0, finished-tail old es h.0 t tail h.1)

-- then each has it settled
pub past-settled : (cluster : Cluster) (es : List Entry) (c : ℕ) (t : TxId) → IsAllowed cluster es → In c (all_centres cluster.quorums) → IsPast es t → is_settled (facts_of es c) t ≡ true
past-settled cluster es c t legal i h = or_left (is_heard (facts_of es c) t) (is_finished (facts_of es c) t) (finished-all cluster es h.0 c t legal i h.1)

-- ---- marks that are shown

left-in : (p : TxId → Bool) (os : Options) (t : TxId) → p t ≡ false → value_of (filter (λ (e : TxId × Mark). not (p e.0)) os) t ≡ value_of os t
left-in p [] t h = refl
left-in p (e ∷ os) t h =
    elim (cases_Bool (tx_eq e.0 t)) [
      | inl s ↦ let q : p e.0 ≡ false = subst (λ z. p z ≡ false) (sym (tx-true e.0 t s)) h in rw q (rw s refl)
      | inr s ↦ elim (cases_Bool (p e.0)) [ inl q ↦ rw q (rw s (left-in p os t h)) | inr q ↦ rw q (rw s (left-in p os t h)) ]
    ]

left-out : (p : TxId → Bool) (os : Options) (t : TxId) → p t ≡ true → value_of (filter (λ (e : TxId × Mark). not (p e.0)) os) t ≡ None
left-out p [] t h = refl
left-out p (e ∷ os) t h =
    elim (cases_Bool (p e.0)) [
      | inl q ↦ rw q (left-out p os t h)
      | inr q ↦ elim (cases_Bool (tx_eq e.0 t)) [
        | inl s ↦ absurd (true≢false (sym h ∙ subst (λ z. p z ≡ false) (tx-true e.0 t s) q))
        | inr s ↦ rw q (rw s (left-out p os t h))
      ]
    ]

-- a mark that is shown was voted
pub shown-voted : (fs : List Fact) (k : Key) (v : ℕ) (b : Ballot) (t : TxId) (x : Mark) → value_of (shown_of fs k v b) t ≡ Some x → value_of (votes_of fs k v b) t ≡ Some x
shown-voted fs k v b t x h =
    elim (cases_Bool (is_forgotten fs k v t)) [
      | inl e ↦ let bad : None ≡ Some x = sym (left-out (is_forgotten fs k v) (votes_of fs k v b) t e) ∙ h in absurd (cc)
      | inr e ↦ sym (left-in (is_forgotten fs k v) (votes_of fs k v b) t e) ∙ h
    ]

-- a mark that was voted is shown, or its transaction is finished
pub voted-shown : (fs : List Fact) (k : Key) (v : ℕ) (b : Ballot) (t : TxId) (x : Mark) → value_of (votes_of fs k v b) t ≡ Some x → (value_of (shown_of fs k v b) t ≡ Some x) ⊎ (is_finished fs t ≡ true)
voted-shown fs k v b t x h =
    elim (cases_Bool (is_forgotten fs k v t)) [
      | inl e ↦ inr (and_parts (is_finished fs t) (nat_lt v (current_of fs k)) e).0
      | inr e ↦ inl (left-in (is_forgotten fs k v) (votes_of fs k v b) t e ∙ h)
    ]

-- ---- a claim that is settled gets no mark

pub claim-none : (cluster : Cluster) (facts : List Fact) (k : Key) (v : ℕ) (os : Options) (e : TxId × Option Choice) (t : TxId) → is_settled facts t ≡ true → value_of os t ≡ None → value_of (with_claim cluster facts k v os e) t ≡ None
claim-none cluster facts k v os e t s n =
    elim (cases_Bool (is_some (value_of os e.0))) [
      | inl g ↦ rw g n
      | inr g ↦ rw g (elim (cases_Bool (is_settled facts e.0)) [
        | inl q ↦ rw q n
        | inr q ↦ rw q (elim (cases_Bool (is_left_out os (mark_of_choice cluster facts k v os e.1))) [ inl f ↦ rw f n | inr f ↦ rw f (value_of-inserted os (e.0, mark_of_choice cluster facts k v os e.1) t (is_some-none _ g) ∙ other q) ])
      ])
    ]
  where
    other : is_settled facts e.0 ≡ false → cond (tx_eq e.0 t) (Some (mark_of_choice cluster facts k v os e.1)) (value_of os t) ≡ None
    other q = elim (cases_Bool (tx_eq e.0 t)) [ inl j ↦ absurd (true≢false (sym s ∙ subst (λ z. is_settled facts z ≡ false) (tx-true e.0 t j) q)) | inr j ↦ rw j n ]

pub claims-none : (cluster : Cluster) (facts : List Fact) (k : Key) (v : ℕ) (cs : List (TxId × Option Choice)) (os : Options) (t : TxId) → is_settled facts t ≡ true → value_of os t ≡ None → value_of (fold (with_claim cluster facts k v) os cs) t ≡ None
claims-none cluster facts k v [] os t s n = n
claims-none cluster facts k v (c ∷ cs) os t s n = claims-none cluster facts k v cs (with_claim cluster facts k v os c) t s (claim-none cluster facts k v os c t s n)
