-- Boots: epochs count up, and no transaction of a new epoch was begun.
use Rattle.std.proofs.Common.{List, None, [], ap, arith, false, get_or, inl, inr, length, refl, replicate, subst, suc, sym, true, zero, ℕ, ◌&&◌, ◌+◌, ◌-◌, ◌<◌, ◌==◌, ◌||◌, ◌∙◌, ◌∷◌, ◌≡◌, ◌≤◌}
use Rattle.std.specs.Prelude.{nat_le, nat_lt}
use Rattle.std.proofs.lemmas.Bool.{and_from, and_parts, cases_Bool, eq-eqb, eqb-false, eqb-true, le-leb, ne_eqb}
use Rattle.mdcc_base.specs.declared.identifiers.Ballot.{Ballot}
use Rattle.mdcc_base.specs.AreQuorums.{AreQuorums}
use Rattle.mdcc_base.specs.declared.key.Key.{Key}
use Rattle.mdcc_base.specs.Counts.{number_of}
use Rattle.mdcc_option.specs.declared.cluster.Cluster.{Cluster}
use Rattle.mdcc_def_messages.specs.declared.facts.Fact.{Fact}
use Rattle.mdcc_def_protocol.specs.Facts.{epoch_of}
use Rattle.mdcc_def_ledger.specs.Ledger.{Added, Entry, Valued, facts_of, structure_valued}
use Rattle.mdcc_def_ledger.specs.AllowedLedgers.{IsAllowed, seqs_begun}
use Rattle.mdcc_def_ledger.specs.BootTest.{is_allowed_kind}
use Rattle.mdcc_def_ledger.specs.AllowedFacts.{is_booted}
use Rattle.mdcc_def_protocol.specs.Belongs.{fact_belongs, is_centre}
use Rattle.mdcc_def_protocol.specs.Volatile.{initial_volatile}
use Rattle.mdcc_def_simulation.specs.State.{World, booted, booted_to, centre_at, first_world}
use Rattle.mdcc_def_simulation.specs.Checkpoints.{tail_after_append}
use Rattle.mdcc_def_simulation.specs.Centres.{restart_happened}
use Rattle.mdcc_theorem_trace_states.specs.VolatileInvariant.{ArePlaced, AreVotes, IsCentre, Keeps}
use Rattle.mdcc_theorem_trace_states.specs.Invariant.{Holds}
use Rattle.mdcc_theorem_trace_states.specs.MessageMeaning.{TrueWhenSent}
use Rattle.mdcc_theorem_trace_states.proofs.Lists.{Each-like}
use Rattle.mdcc_theorem_trace_states.proofs.Kept.{ArePlaced-fact, true-more}
use Rattle.mdcc_theorem_trace_states.proofs.Walk.{bounds, moved-holds}
use Rattle.mdcc_theorem_trace_states.proofs.Led.{valued-epoch}
use Rattle.mdcc_theorem_trace_states.proofs.Tests.{add-test, may-add}
use Rattle.mdcc_theorem_trace_states.specs.Steps.{AreGood}

-- the kind of an allowed fact is allowed
pub kind : (cluster : Cluster) (es : List Entry) (c : ℕ) (f : Fact) → IsAllowed cluster (Added c f ∷ es) → is_allowed_kind cluster (facts_of es c) f ≡ true
kind cluster es c f legal = (and_parts (fact_belongs cluster f && (is_booted f || nat_lt 0 (epoch_of (facts_of es c)))) (is_allowed_kind cluster (facts_of es c) f) (add-test cluster (facts_of es c) f legal.1.1)).1

pub epoch-count : (cluster : Cluster) (es : List Entry) (a : ℕ) → IsAllowed cluster es → epoch_of (facts_of es a) ≡ number_of is_booted (facts_of es a)
epoch-count cluster [] a legal = refl
epoch-count cluster (Entry.Begun c t cs ∷ es) a legal = epoch-count cluster es a legal.0
epoch-count cluster (Valued c k v m os ∷ es) a legal = epoch-count cluster es a legal.0
epoch-count cluster (Added c f ∷ es) a legal =
    elim (cases_Bool (c == a)) [ inl e ↦ rw e (here f legal (eqb-true c a e) (epoch-count cluster es a legal.0)) | inr e ↦ rw e (epoch-count cluster es a legal.0) ]
  where
    here : (f : Fact) → IsAllowed cluster (Added c f ∷ es) → c ≡ a → epoch_of (facts_of es a) ≡ number_of is_booted (facts_of es a) → epoch_of (f ∷ facts_of es a) ≡ number_of is_booted (f ∷ facts_of es a)
    here (Fact.Booted n) legal s h =
        let k : n ≡ number_of is_booted (facts_of es c) + 1 = eqb-true n _ (kind cluster es c (Fact.Booted n) legal) in
        let g : n ≡ number_of is_booted (facts_of es a) + 1 = subst (λ z. n ≡ number_of is_booted (facts_of es z) + 1) s k in omega (arith, g)
    here (Fact.Promised k lo hi m) legal s h = omega (arith, h)
    here (Fact.Voted k v m os off) legal s h = omega (arith, h)
    here (Fact.Heard t o) legal s h = omega (arith, h)
    here (Fact.Floor origin era upto) legal s h = omega (arith, h)
    here (Fact.Adopted k v it ds) legal s h = omega (arith, h)

epoch-grows : (cluster : Cluster) (e : Entry) (es : List Entry) (a : ℕ) → IsAllowed cluster (e ∷ es) → epoch_of (facts_of es a) ≤ epoch_of (facts_of (e ∷ es) a)
epoch-grows cluster (Entry.Begun c t cs) es a legal = omega arith
epoch-grows cluster (Valued c k v m os) es a legal = omega arith
epoch-grows cluster (Added c f) es a legal =
    elim (cases_Bool (c == a)) [ inl e ↦ rw e (here f legal (eqb-true c a e) (epoch-count cluster es a legal.0)) | inr e ↦ rw e (omega arith) ]
  where
    here : (f : Fact) → IsAllowed cluster (Added c f ∷ es) → c ≡ a → epoch_of (facts_of es a) ≡ number_of is_booted (facts_of es a) → epoch_of (facts_of es a) ≤ epoch_of (f ∷ facts_of es a)
    here (Fact.Booted n) legal s h =
        let k : n ≡ number_of is_booted (facts_of es c) + 1 = eqb-true n _ (kind cluster es c (Fact.Booted n) legal) in
        let g : n ≡ number_of is_booted (facts_of es a) + 1 = subst (λ z. n ≡ number_of is_booted (facts_of es z) + 1) s k in omega (arith, g, h)
    here (Fact.Promised k lo hi m) legal s h = omega arith
    here (Fact.Voted k v m os off) legal s h = omega arith
    here (Fact.Heard t o) legal s h = omega arith
    here (Fact.Floor origin era upto) legal s h = omega arith
    here (Fact.Adopted k v it ds) legal s h = omega arith

pub seqs-none : (cluster : Cluster) (es : List Entry) (a n : ℕ) → IsAllowed cluster es → epoch_of (facts_of es a) < n → seqs_begun es a n ≡ 0
seqs-none cluster [] a n legal h = refl
seqs-none cluster (Valued c k v m os ∷ es) a n legal h = seqs-none cluster es a n legal.0 h
seqs-none cluster (Added c f ∷ es) a n legal h = seqs-none cluster es a n legal.0 (omega (arith, h, epoch-grows cluster (Added c f) es a legal))
seqs-none cluster (Entry.Begun c t cs ∷ es) a n legal h =
    elim (cases_Bool (t.centre == a && t.epoch == n)) [
      | inl e ↦
          let p = and_parts (t.centre == a) (t.epoch == n) e in
          let s : c ≡ a = sym legal.1.1.centre ∙ eqb-true t.centre a p.0 in
          let g : n ≡ epoch_of (facts_of es a) = sym (eqb-true t.epoch n p.1) ∙ (legal.1.1.epoch ∙ ap (λ z. epoch_of (facts_of es z)) s) in
          absurd (omega (arith, h, g))
      | inr e ↦ rw e (omega (arith, seqs-none cluster es a n legal.0 h))
    ]

pub boot-legal : (cluster : Cluster) (es : List Entry) (a : ℕ) → IsAllowed cluster es → is_centre cluster a ≡ true → IsAllowed cluster (Added a (Fact.Booted (epoch_of (facts_of es a) + 1)) ∷ es)
boot-legal cluster es a legal here = (legal, (here, may-add cluster (facts_of es a) (Fact.Booted (epoch_of (facts_of es a) + 1)) (eq-eqb _ _ (omega (arith, epoch-count cluster es a legal))), tt))

pub boot-placed : (cluster : Cluster) (es : List Entry) (a n : ℕ) → IsAllowed cluster (Added a (Fact.Booted n) ∷ es) → ArePlaced es → ArePlaced (Added a (Fact.Booted n) ∷ es)
boot-placed cluster es a n legal h = ArePlaced-fact cluster a (Fact.Booted n) es legal h (λ k v b t x g. absurd (cc))

nothing-given : (cluster : Cluster) (es : List Entry) → AreVotes cluster es []
nothing-given cluster es = record { each = tt; apart = tt }

pub keeps-nothing : (cluster : Cluster) (es : List Entry) (a : ℕ) → ((k : Key) (v r : ℕ) → structure_valued es k v (record { round = r; epoch = epoch_of (facts_of es a); centre = a }) ≡ None) → 0 ≡ seqs_begun es a (epoch_of (facts_of es a)) → Keeps cluster es a initial_volatile
keeps-nothing cluster es a new h = record {
  manager = record { seq = h; opened = tt; votes = nothing-given cluster es };
  recovery = nothing-given cluster es;
  told = tt;
  leader = record { fresh = λ k v r g. new k v r; leads = tt };
}

pub restart-holds : (also : List Entry → Type 0) (cluster : Cluster) → AreGood also → (w : World) (a : ℕ) → Holds also cluster w → is_centre w.cluster a ≡ true → Holds also cluster (restart_happened w a (epoch_of (facts_of w.ledger a) + 1)).world
restart-holds also cluster good w a h here =
    let n : ℕ = epoch_of (facts_of w.ledger a) + 1 in
    let legal = boot-legal w.cluster w.ledger a h.legal here in
    moved-holds also cluster w a (record booted { tail = tail_after_append (centre_at w a).tail }) (Added a (Fact.Booted (epoch_of (facts_of w.ledger a) + 1)) ∷ []) w.sent w.bytes h here (refl, tt) legal
    (boot-placed w.cluster w.ledger a (epoch_of (facts_of w.ledger a) + 1) legal h.placed) (good.boot w.cluster w.ledger a (epoch_of (facts_of w.ledger a) + 1) legal h.more)
    (Each-like (λ s. TrueWhenSent w.cluster w.ledger s.envelope) (λ s. TrueWhenSent w.cluster (Added a (Fact.Booted (epoch_of (facts_of w.ledger a) + 1)) ∷ w.ledger) s.envelope) w.sent
    (λ s g. true-more w.cluster (Added a (Fact.Booted (epoch_of (facts_of w.ledger a) + 1)) ∷ []) w.ledger s.envelope g) h.sent)
    (record { booted = above; keeps = λ up. keeps-nothing w.cluster _ a new none })
  where
    own : facts_of (Added a (Fact.Booted (epoch_of (facts_of w.ledger a) + 1)) ∷ w.ledger) a ≡ Fact.Booted (epoch_of (facts_of w.ledger a) + 1) ∷ facts_of w.ledger a
    own = rw (eq-eqb a a refl) refl

    above : 0 < epoch_of (facts_of (Added a (Fact.Booted (epoch_of (facts_of w.ledger a) + 1)) ∷ w.ledger) a)
    above = rw (eq-eqb a a refl) (omega arith)

    new : (k : Key) (v r : ℕ) → structure_valued (Added a (Fact.Booted (epoch_of (facts_of w.ledger a) + 1)) ∷ w.ledger) k v
        (record { round = r; epoch = epoch_of (facts_of (Added a (Fact.Booted (epoch_of (facts_of w.ledger a) + 1)) ∷ w.ledger) a); centre = a }) ≡ None
    new k v r =
        rw (eq-eqb a a refl)
        (valued-epoch w.cluster w.ledger k v (record { round = r; epoch = epoch_of (facts_of w.ledger a) + 1; centre = a }) h.legal (λ e fs g. epoch-grows w.cluster e fs a g) (omega arith))

    none : 0 ≡ seqs_begun (Added a (Fact.Booted (epoch_of (facts_of w.ledger a) + 1)) ∷ w.ledger) a (epoch_of (facts_of (Added a (Fact.Booted (epoch_of (facts_of w.ledger a) + 1)) ∷ w.ledger) a))
    none = rw (eq-eqb a a refl) (sym (seqs-none w.cluster w.ledger a (epoch_of (facts_of w.ledger a) + 1) h.legal (omega arith)))

-- ---- the start

no-facts : (n a : ℕ) → n < a → facts_of (booted_to n) a ≡ []
no-facts zero a h = refl
no-facts (suc n) a h = let e : (suc n == a) ≡ false = ne_eqb (suc n) a (λ s. omega (arith, h, s)) in rw e (no-facts n a (omega (arith, h)))

start-legal : (cluster : Cluster) (n : ℕ) → n ≤ cluster.quorums.centres → IsAllowed cluster (booted_to n)
start-legal cluster zero h = tt
start-legal cluster (suc n) h =
    (start-legal cluster n (omega (arith, h)), (and_from (nat_le 1 (suc n)) (nat_le (suc n) cluster.quorums.centres) (le-leb 1 (suc n) (omega arith)) (le-leb (suc n) _ h), may-add cluster (facts_of (booted_to n) (suc n)) (Fact.Booted 1) (rw (no-facts n (suc n) (omega arith)) refl), tt))

start-placed : (cluster : Cluster) (n : ℕ) → n ≤ cluster.quorums.centres → ArePlaced (booted_to n)
start-placed cluster zero h = λ k v b t a x g. absurd (cc)
start-placed cluster (suc n) h = boot-placed cluster (booted_to n) (suc n) 1 (start-legal cluster (suc n) h) (start-placed cluster n (omega (arith, h)))

start-also : (also : List Entry → Type 0) → AreGood also → (cluster : Cluster) (n : ℕ) → n ≤ cluster.quorums.centres → also (booted_to n)
start-also also good cluster zero h = good.none
start-also also good cluster (suc n) h = good.boot cluster (booted_to n) (suc n) 1 (start-legal cluster (suc n) h) (start-also also good cluster n (omega (arith, h)))

start-seqs : (n a e : ℕ) → seqs_begun (booted_to n) a e ≡ 0
start-seqs zero a e = refl
start-seqs (suc n) a e = start-seqs n a e

start-valued : (n : ℕ) (k : Key) (v : ℕ) (b : Ballot) → structure_valued (booted_to n) k v b ≡ None
start-valued zero k v b = refl
start-valued (suc n) k v b = start-valued n k v b

start-epoch : (n a : ℕ) → 1 ≤ a → a ≤ n → 0 < epoch_of (facts_of (booted_to n) a)
start-epoch zero a h g = absurd (omega (arith, h, g))
start-epoch (suc n) a h g =
    elim (cases_Bool (suc n == a)) [
      | inl e ↦ rw e (omega arith)
      | inr e ↦ let ne = eqb-false (suc n) a e in rw e (start-epoch n a h (less ne))
    ]
  where
    less : (suc n ≡ a → ⊥) → a ≤ n
    less ne = omega (arith, g, λ (s : suc n ≡ a). ne s)

pub replicated : (n i : ℕ) → get_or (replicate n booted) i booted ≡ booted
replicated zero i = refl
replicated (suc n) zero = refl
replicated (suc n) (suc i) = replicated n i

length-replicated : (n : ℕ) → length (replicate n booted) ≡ n
length-replicated zero = refl
length-replicated (suc n) = omega (arith, length-replicated n)

pub first-holds : (also : List Entry → Type 0) (cluster : Cluster) → AreQuorums cluster.quorums → AreGood also → Holds also cluster (first_world cluster)
first-holds also cluster sizes good = record {
  same = refl;
  sizes = sizes;
  legal = start-legal cluster cluster.quorums.centres (omega arith);
  placed = start-placed cluster cluster.quorums.centres (omega arith);
  more = start-also also good cluster cluster.quorums.centres (omega arith);
  sent = tt;
  size = length-replicated cluster.quorums.centres;
  centres = λ a here. let b = bounds cluster a here in
      subst (λ z. IsCentre cluster (booted_to cluster.quorums.centres) a z) (sym (replicated cluster.quorums.centres (a - 1)))
      (record { booted = start-epoch cluster.quorums.centres a b.0 b.1; keeps = λ up. keeps-nothing cluster _ a (λ k v r. start-valued cluster.quorums.centres k v _) (sym (start-seqs cluster.quorums.centres a _)) });
}
