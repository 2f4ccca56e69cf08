-- The rules around floors are good; and what a floor may be over: what all centres heard.
use Rattle.std.proofs.Common.{Bool, List, [], arith, inl, inr, length, max, min, refl, subst, suc, sym, true, zero, ℕ, ◌&&◌, ◌+◌, ◌==◌, ◌∷◌, ◌≡◌, ◌≤◌}
use Rattle.std.specs.Prelude.{fold, nat_le, nat_lt}
use Rattle.std.specs.List.{list_all}
use Rattle.std.proofs.lemmas.Bool.{and_from, and_parts, cases_Bool, eqb-true, leb-true, ltb-false, ltb-true, or_cases}
use Rattle.mdcc_base.specs.Quorums.{all_centres}
use Rattle.mdcc_option.specs.declared.cluster.Cluster.{Cluster}
use Rattle.mdcc_def_messages.specs.declared.facts.Fact.{Fact}
use Rattle.mdcc_def_protocol.specs.Facts.{are_heard, floor_of, heard_through_of, is_finished, is_heard, is_settled, settled_after}
use Rattle.mdcc_def_protocol.specs.Floors.{is_of, least_told, mark_told, with_floor_mark}
use Rattle.mdcc_def_protocol.specs.Volatile.{Marked, Volatile, closed}
use Rattle.mdcc_def_ledger.specs.Ledger.{Added, Entry, Valued, facts_of}
use Rattle.mdcc_def_ledger.specs.AllowedLedgers.{IsAllowed, did_all_hear}
use Rattle.mdcc_theorem_trace_states.specs.Words.{Each, IsTail}
use Rattle.mdcc_theorem_trace_states.specs.VolatileInvariant.{IsTold}
use Rattle.mdcc_base.specs.declared.identifiers.TxId.{TxId}
use Rattle.mdcc_def_protocol.specs.Belongs.{is_centre}
use Rattle.mdcc_def_rules.specs.FloorRules.{finished_step, mark_step, sweep_step}
use Rattle.mdcc_def_rules.specs.Here.{here}
use Rattle.mdcc_def_rules.specs.Steps.{NodeStep}
use Rattle.mdcc_theorem_trace_rules.specs.Closed.{IsClosed}
use Rattle.mdcc_theorem_trace_rules.proofs.Begins.{nothing-good}
use Rattle.mdcc_theorem_trace_rules.proofs.Deciding.{closed-keeps}
use Rattle.mdcc_theorem_trace_states.specs.Invariant.{IsGoodBy}
use Rattle.mdcc_theorem_trace_states.specs.Steps.{IsUp}
use Rattle.mdcc_theorem_trace_states.proofs.Kept.{are-heard-kept, are-heard-more}

-- what was heard through a number was heard through a lesser one
pub heard-less : (fs : List Fact) (c e n m : ℕ) → m ≤ n → are_heard fs c e n ≡ true → are_heard fs c e m ≡ true
heard-less fs c e zero m l h = subst (λ z. are_heard fs c e z ≡ true) (let s : zero ≡ m = omega (arith, l) in s) h
heard-less fs c e (suc n) m l h =
    elim (cases_Bool (nat_lt m (suc n))) [
      | inl s ↦ heard-less fs c e n m (omega (arith, ltb-true m (suc n) s)) (and_parts (is_heard fs (record { centre = c; epoch = e; seq = suc n })) (are_heard fs c e n) h).1
      | inr s ↦ subst (λ z. are_heard fs c e z ≡ true) (same (ltb-false m (suc n) s)) h
    ]
  where
    same : suc n ≤ m → suc n ≡ m
    same g = omega (arith, l, g)

-- what is finished at a centre was heard there
pub floor-heard : (cluster : Cluster) (es : List Entry) (a c e : ℕ) → IsAllowed cluster es → are_heard (facts_of es a) c e (floor_of (facts_of es a) c e) ≡ true
floor-heard cluster [] a c e legal = refl
floor-heard cluster (Entry.Begun b t cs ∷ es) a c e legal = floor-heard cluster es a c e legal.0
floor-heard cluster (Valued b k v m os ∷ es) a c e legal = floor-heard cluster es a c e legal.0
floor-heard cluster (Added b f ∷ es) a c e legal =
    elim (cases_Bool (b == a)) [
      | inl s ↦
          let same : b ≡ a = eqb-true b a s in
          let grown : are_heard (facts_of (Added b f ∷ es) a) c e (floor_of (facts_of es a) c e) ≡ true = are-heard-more (Added b f) es a c e (floor_of (facts_of es a) c e) (floor-heard cluster es a c e legal.0) in
          rw s (by-fact f legal same (rw s at grown))
      | inr s ↦ rw s (floor-heard cluster es a c e legal.0)
    ]
  where
    by-fact : (f : Fact) → IsAllowed cluster (Added b f ∷ es) → b ≡ a → are_heard (f ∷ facts_of es a) c e (floor_of (facts_of es a) c e) ≡ true → are_heard (f ∷ facts_of es a) c e (floor_of (f ∷ facts_of es a) c e) ≡ true
    by-fact (Fact.Booted n) legal same h = heard-less (Fact.Booted n ∷ facts_of es a) c e (floor_of (facts_of es a) c e) _ (omega arith) h
    by-fact (Fact.Promised j lo hi m) legal same h = heard-less (Fact.Promised j lo hi m ∷ facts_of es a) c e (floor_of (facts_of es a) c e) _ (omega arith) h
    by-fact (Fact.Voted j w m os off) legal same h = heard-less (Fact.Voted j w m os off ∷ facts_of es a) c e (floor_of (facts_of es a) c e) _ (omega arith) h
    by-fact (Fact.Heard t o) legal same h = heard-less (Fact.Heard t o ∷ facts_of es a) c e (floor_of (facts_of es a) c e) _ (omega arith) h
    by-fact (Fact.Adopted j w it ds) legal same h = heard-less (Fact.Adopted j w it ds ∷ facts_of es a) c e (floor_of (facts_of es a) c e) _ (omega arith) h
    by-fact (Fact.Floor centre era upto) legal same h =
        elim (cases_Bool (centre == c && era == e)) [
          | inl t ↦
              let p = and_parts (centre == c) (era == e) t in
              let there : are_heard (facts_of es b) centre era upto ≡ true = legal.1.1.kind.heard in
              let here : are_heard (facts_of es a) c e upto ≡ true =
              subst (λ z. are_heard (facts_of es z) c e upto ≡ true) same
              (subst (λ z. are_heard (facts_of es b) z e upto ≡ true) (eqb-true centre c p.0) (subst (λ z. are_heard (facts_of es b) centre z upto ≡ true) (eqb-true era e p.1) there)) in
              rw t (greater (floor_of (facts_of es a) c e) upto h (are-heard-kept (Fact.Floor centre era upto) (facts_of es a) c e upto here))
          | inr t ↦ rw t (heard-less (Fact.Floor centre era upto ∷ facts_of es a) c e (floor_of (facts_of es a) c e) _ (omega arith) h)
        ]
      where
        greater : (x y : ℕ) → are_heard (Fact.Floor centre era upto ∷ facts_of es a) c e x ≡ true → are_heard (Fact.Floor centre era upto ∷ facts_of es a) c e y ≡ true → are_heard (Fact.Floor centre era upto ∷ facts_of es a) c e (max x y) ≡ true
        greater x y g k =
            elim (cases_Bool (nat_lt x y)) [
              | inl l ↦ heard-less (Fact.Floor centre era upto ∷ facts_of es a) c e y (max x y) (omega (arith, ltb-true x y l)) k
              | inr l ↦ heard-less (Fact.Floor centre era upto ∷ facts_of es a) c e x (max x y) (omega (arith, ltb-false x y l)) g
            ]

-- as far as a centre tells, it heard
through-heard : (fs : List Fact) (c e more n : ℕ) → are_heard fs c e (floor_of fs c e) ≡ true → are_heard fs c e n ≡ true → are_heard fs c e (settled_after fs c e more n) ≡ true
through-heard fs c e zero n floor h = h
through-heard fs c e (suc more) n floor h =
    elim (cases_Bool (is_settled fs (record { centre = c; epoch = e; seq = n + 1 }))) [
      | inl s ↦ rw s (through-heard fs c e more (n + 1) floor (next s))
      | inr s ↦ rw s h
    ]
  where
    one : n + 1 ≡ suc n
    one = omega arith

    next : is_settled fs (record { centre = c; epoch = e; seq = n + 1 }) ≡ true → are_heard fs c e (n + 1) ≡ true
    next s =
        elim (or_cases (is_heard fs (record { centre = c; epoch = e; seq = n + 1 })) (is_finished fs (record { centre = c; epoch = e; seq = n + 1 })) s) [
          | inl g ↦ subst (λ z. are_heard fs c e z ≡ true) (sym one) (and_from (is_heard fs (record { centre = c; epoch = e; seq = suc n })) (are_heard fs c e n) (subst (λ z. is_heard fs (record { centre = c; epoch = e; seq = z }) ≡ true) one g) h)
          | inr g ↦ heard-less fs c e (floor_of fs c e) (n + 1) (leb-true (n + 1) (floor_of fs c e) (and_parts (nat_lt 0 (n + 1)) (nat_le (n + 1) (floor_of fs c e)) g).1) floor
        ]

pub heard-through : (cluster : Cluster) (es : List Entry) (a c e : ℕ) → IsAllowed cluster es → are_heard (facts_of es a) c e (heard_through_of (facts_of es a) c e) ≡ true
heard-through cluster es a c e legal =
    let floor = floor-heard cluster es a c e legal in through-heard (facts_of es a) c e (length (facts_of es a)) (floor_of (facts_of es a) c e) floor floor

-- a mark that is remembered was heard
pub told-heard : (cluster : Cluster) (es : List Entry) (ms : List Marked) (b c e : ℕ) → Each (IsTold cluster es) ms → are_heard (facts_of es b) c e (mark_told ms b c e) ≡ true
told-heard cluster es [] b c e h = refl
told-heard cluster es (m ∷ ms) b c e h =
    elim (cases_Bool (is_of b c e m)) [
      | inl s ↦ rw s (let p = and_parts (m.from == b && m.centre == c) (m.epoch == e) s in let q = and_parts (m.from == b) (m.centre == c) p.0 in
          subst (λ z. are_heard (facts_of es z) c e m.seq ≡ true) (eqb-true m.from b q.0)
          (subst (λ z. are_heard (facts_of es m.from) z e m.seq ≡ true) (eqb-true m.centre c q.1) (subst (λ z. are_heard (facts_of es m.from) m.centre z m.seq ≡ true) (eqb-true m.epoch e p.1) h.0.heard)))
      | inr s ↦ rw s (told-heard cluster es ms b c e h.1)
    ]

-- one more mark that was heard
pub told-with : (cluster : Cluster) (es : List Entry) (ms : List Marked) (b c e n : ℕ) → Each (IsTold cluster es) ms → IsTold cluster es (record { from = b; centre = c; epoch = e; seq = n }) → Each (IsTold cluster es) (with_floor_mark ms b c e n)
told-with cluster es [] b c e n h new = (new, tt)
told-with cluster es (m ∷ ms) b c e n h new =
    elim (cases_Bool (is_of b c e m)) [
      | inl s ↦ rw s (record { centre = h.0.centre; heard = raised s }, h.1)
      | inr s ↦ rw s (h.0, told-with cluster es ms b c e n h.1 new)
    ]
  where
    raised : is_of b c e m ≡ true → are_heard (facts_of es m.from) m.centre m.epoch (max m.seq n) ≡ true
    raised s =
        elim (cases_Bool (nat_lt m.seq n)) [
          | inl l ↦ heard-less (facts_of es m.from) m.centre m.epoch n (max m.seq n) (omega (arith, ltb-true m.seq n l)) mine
          | inr l ↦ heard-less (facts_of es m.from) m.centre m.epoch m.seq (max m.seq n) (omega (arith, ltb-false m.seq n l)) h.0.heard
        ]
      where
        mine : are_heard (facts_of es m.from) m.centre m.epoch n ≡ true
        mine =
            let p = and_parts (m.from == b && m.centre == c) (m.epoch == e) s in let q = and_parts (m.from == b) (m.centre == c) p.0 in
            subst (λ z. are_heard (facts_of es z) m.centre m.epoch n ≡ true) (sym (eqb-true m.from b q.0))
            (subst (λ z. are_heard (facts_of es b) z m.epoch n ≡ true) (sym (eqb-true m.centre c q.1)) (subst (λ z. are_heard (facts_of es b) c z n ≡ true) (sym (eqb-true m.epoch e p.1)) new.heard))

-- the least of all was heard by all
least-start : (g : ℕ → ℕ) (xs : List ℕ) (start : ℕ) → fold (λ least x. min least (g x)) start xs ≤ start
least-start g [] start = omega arith
least-start g (x ∷ xs) start = omega (arith, least-start g xs (min start (g x)))

least-all : (g : ℕ → ℕ) (p : ℕ → ℕ → Bool) (xs : List ℕ) (start n : ℕ) → ((x m : ℕ) → m ≤ g x → p x m ≡ true) → n ≤ fold (λ least x. min least (g x)) start xs → list_all (λ x. p x n) xs ≡ true
least-all g p [] start n h l = refl
least-all g p (x ∷ xs) start n h l =
    and_from (p x n) (list_all (λ y. p y n) xs) (h x n (omega (arith, l, least-start g xs (min start (g x))))) (least-all g p xs (min start (g x)) n h l)

-- N17: the floor that a centre sets is over what all centres heard
pub least-heard : (cluster : Cluster) (es : List Entry) (a : ℕ) (ms : List Marked) (c e : ℕ) → IsAllowed cluster es → Each (IsTold cluster es) ms →
    (did_all_hear cluster.quorums es c e (least_told cluster.quorums (facts_of es a) ms c e) ≡ true) × (are_heard (facts_of es a) c e (least_told cluster.quorums (facts_of es a) ms c e) ≡ true)
least-heard cluster es a ms c e legal told = (
  least-all (λ b. mark_told ms b c e) (λ b n. are_heard (facts_of es b) c e n) (all_centres cluster.quorums) (heard_through_of (facts_of es a) c e) (least_told cluster.quorums (facts_of es a) ms c e)
      (λ b m l. heard-less (facts_of es b) c e (mark_told ms b c e) m l (told-heard cluster es ms b c e told)) (omega arith),
  heard-less (facts_of es a) c e (heard_through_of (facts_of es a) c e) (least_told cluster.quorums (facts_of es a) ms c e) (least-start (λ b. mark_told ms b c e) (all_centres cluster.quorums) (heard_through_of (facts_of es a) c e)) (heard-through cluster es a c e legal),
)

pub heard-tail : (old es : List Entry) (a c e n : ℕ) → IsTail old es → are_heard (facts_of old a) c e n ≡ true → are_heard (facts_of es a) c e n ≡ true
heard-tail old [] a c e n tail h = subst (λ z. are_heard (facts_of z a) c e n ≡ true) tail h
heard-tail old (x ∷ es) a c e n tail h =
    elim tail [
      | inl s ↦ subst (λ z. are_heard (facts_of z a) c e n ≡ true) s h
      | inr r ↦ are-heard-more x es a c e n (heard-tail old es a c e n r h)
    ]

module _ (also : List Entry → Type 0) (shut : IsClosed also) (cluster : Cluster) (es : List Entry) (a : ℕ) (volatile : Volatile) (up : IsUp also cluster es a volatile) where
  abbrev pub GoodFloor : NodeStep → Type 0
  GoodFloor step = IsGoodBy cluster also es a step step.fact

  -- a centre is told how far another one has heard
  pub mark-good : (old : List Entry) (s c e n : ℕ) → IsTail old es → is_centre cluster s ≡ true → is_centre cluster c ≡ true → are_heard (facts_of old s) c e n ≡ true → GoodFloor (mark_step (here cluster a (facts_of es a)) volatile s c e n)
  mark-good old s c e n tail from of says = nothing-good also cluster es a volatile volatile up up.keeps

  -- a transaction is finished elsewhere
  pub finished-good : (t : TxId) → GoodFloor (finished_step volatile t)
  finished-good t = nothing-good also cluster es a volatile (closed volatile t) up (closed-keeps cluster es a volatile t up.keeps)

  -- a centre tells all how far it has heard
  pub sweep-good : GoodFloor (sweep_step (here cluster a (facts_of es a)) volatile)
  sweep-good = nothing-good also cluster es a volatile volatile up up.keeps
