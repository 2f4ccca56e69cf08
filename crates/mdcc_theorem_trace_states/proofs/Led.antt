-- What one more entry leaves of what a leader keeps.
use Rattle.std.proofs.Common.{List, None, Option, [], ap, arith, inl, inr, length, refl, subst, sym, ℕ, ◌&&◌, ◌<◌, ◌==◌, ◌∙◌, ◌∷◌, ◌≡◌, ◌≤◌}
use Rattle.std.proofs.lemmas.Bool.{and_parts, cases_Bool}
use Rattle.mdcc_base.specs.declared.identifiers.Ballot.{Ballot}
use Rattle.mdcc_base.specs.declared.key.Key.{Key}
use Rattle.mdcc_base.specs.declared.identifiers.TxId.{TxId}
use Rattle.mdcc_base.specs.Ballot.{ballot_eq}
use Rattle.mdcc_base.specs.Key.{key_eq}
use Rattle.mdcc_option.specs.declared.choices.Choice.{Choice}
use Rattle.mdcc_option.specs.declared.cluster.Cluster.{Cluster}
use Rattle.mdcc_struct.specs.declared.options.Options.{Options}
use Rattle.mdcc_def_protocol.specs.Facts.{current_of, epoch_of}
use Rattle.mdcc_def_ledger.specs.Ledger.{Added, Entry, Valued, choices_begun, facts_of, structure_valued}
use Rattle.mdcc_def_ledger.specs.AllowedLedgers.{IsAllowed}
use Rattle.mdcc_def_protocol.specs.Volatile.{CountedPromise, Lead, Leading}
use Rattle.mdcc_theorem_trace_states.specs.Words.{In}
use Rattle.mdcc_theorem_trace_states.specs.VolatileInvariant.{IsClaim, IsLead, IsOwn, IsPlaced, IsPromise, Leads}
use Rattle.mdcc_theorem_trace_states.proofs.Tests.{Decides-ballot}
use Rattle.mdcc_theorem_trace_states.proofs.Lists.{Each-like}
use Rattle.mdcc_theorem_trace_states.proofs.Ledgers.{begun-more}

pub some-In : {A : Type 0} (x : A) (xs : List A) → In x xs → 0 < length xs
some-In x [] i = absurd i
some-In x (y ∷ ys) i = omega arith

pub In-begun-more : (cluster : Cluster) (e : Entry) (es : List Entry) (t : TxId) (c : Choice) → IsAllowed cluster (e ∷ es) → In c (choices_begun es t) → In c (choices_begun (e ∷ es) t)
In-begun-more cluster e es t c legal i = subst (λ z. In c z) (sym (begun-more cluster e es t legal (some-In c (choices_begun es t) i))) i

pub IsPlaced-more : (cluster : Cluster) (e : Entry) (es : List Entry) (k : Key) (v : ℕ) (t : TxId) → IsAllowed cluster (e ∷ es) → IsPlaced es k v t → IsPlaced (e ∷ es) k v t
IsPlaced-more cluster e es k v t legal p = record { choice = p.choice; begun = In-begun-more cluster e es t p.choice legal p.begun; key_is = p.key_is; version_is = p.version_is }

pub IsOwn-more : (cluster : Cluster) (e : Entry) (es : List Entry) (k : Key) (v : ℕ) (t : TxId) (c : Choice) → IsAllowed cluster (e ∷ es) → IsOwn es k v t c → IsOwn (e ∷ es) k v t c
IsOwn-more cluster e es k v t c legal p = record { begun = In-begun-more cluster e es t c legal p.begun; key_is = p.key_is; version_is = p.version_is }

pub IsClaim-more : (cluster : Cluster) (e : Entry) (es : List Entry) (k : Key) (v : ℕ) (x : TxId × Option Choice) → IsAllowed cluster (e ∷ es) → IsClaim es k v x → IsClaim (e ∷ es) k v x
IsClaim-more cluster e es k v x legal h = record { placed = IsPlaced-more cluster e es k v x.0 legal h.placed; own = λ c g. IsOwn-more cluster e es k v x.0 c legal (h.own c g) }

pub IsPromise-more : (cluster : Cluster) (e : Entry) (es : List Entry) (k : Key) (v : ℕ) (b : Ballot) (p : CountedPromise) → IsPromise cluster es k v b p → IsPromise cluster (e ∷ es) k v b p
IsPromise-more cluster e es k v b p h = record { centre = h.centre; old = h.old; tail = inr h.tail; promised = h.promised; reach = h.reach; report = h.report }

pub current-grows : (e : Entry) (es : List Entry) (a : ℕ) (k : Key) → current_of (facts_of es a) k ≤ current_of (facts_of (e ∷ es) a) k
current-grows (Entry.Begun c t cs) es a k = omega arith
current-grows (Valued c j v m os) es a k = omega arith
current-grows (Added c f) es a k = elim (cases_Bool (c == a)) [ inl e ↦ rw e (omega arith) | inr e ↦ rw e (omega arith) ]

-- the centre's epoch and the structures of its ballots are as before
pub record IsStill (a : ℕ) (e : Entry) (es : List Entry) : Type 0 where
  pub epoch : epoch_of (facts_of (e ∷ es) a) ≡ epoch_of (facts_of es a)
  pub valued : (k : Key) (v : ℕ) (b : Ballot) → b.centre ≡ a → structure_valued (e ∷ es) k v b ≡ structure_valued es k v b

pub IsLead-more : (cluster : Cluster) (e : Entry) (es : List Entry) (a : ℕ) (rounds : List (Key × ℕ)) (x : Lead) → IsAllowed cluster (e ∷ es) → epoch_of (facts_of (e ∷ es) a) ≡ epoch_of (facts_of es a) →
    ((v : ℕ) → structure_valued (e ∷ es) x.key v x.ballot ≡ structure_valued es x.key v x.ballot) → IsLead cluster es a rounds x → IsLead cluster (e ∷ es) a rounds x
IsLead-more cluster e es a rounds x legal epoch valued g = record {
  centre = g.centre;
  epoch = g.epoch ∙ sym epoch;
  above = g.above;
  within = g.within;
  held = omega (arith, g.held, current-grows e es a x.key);
  range = g.range;
  claims = Each-like (IsClaim es x.key x.version) (IsClaim (e ∷ es) x.key x.version) x.claims (λ y i. IsClaim-more cluster e es x.key x.version y legal i) g.claims;
  promises = Each-like (IsPromise cluster es x.key x.version x.ballot) (IsPromise cluster (e ∷ es) x.key x.version x.ballot) x.promises (λ p i. IsPromise-more cluster e es x.key x.version x.ballot p i) g.promises;
  apart = g.apart;
  waits = g.waits;
  found = λ v. valued v ∙ g.found v;
}

pub Leads-more : (cluster : Cluster) (e : Entry) (es : List Entry) (a : ℕ) (l : Leading) → IsAllowed cluster (e ∷ es) → IsStill a e es → Leads cluster es a l → Leads cluster (e ∷ es) a l
Leads-more cluster e es a l legal still h = record {
  fresh = λ k v r g. still.valued k v (record { round = r; epoch = epoch_of (facts_of (e ∷ es) a); centre = a }) refl ∙
      subst (λ z. structure_valued es k v (record { round = r; epoch = z; centre = a }) ≡ None) (sym still.epoch) (h.fresh k v r g);
  leads = Each-like (IsLead cluster es a l.last_rounds) (IsLead cluster (e ∷ es) a l.last_rounds) l.leads (λ x g. IsLead-more cluster e es a l.last_rounds x legal still.epoch (λ v. still.valued x.key v x.ballot g.centre) g) h.leads;
}

-- a structure of another centre
pub valued-other : (cluster : Cluster) (es : List Entry) (c : ℕ) (j : Key) (w : ℕ) (m : Ballot) (os : Options) (a : ℕ) → IsAllowed cluster (Valued c j w m os ∷ es) → (c ≡ a → ⊥) → (k : Key) (v : ℕ) (b : Ballot) → b.centre ≡ a →
    structure_valued (Valued c j w m os ∷ es) k v b ≡ structure_valued es k v b
valued-other cluster es c j w m os a legal other k v b own =
    elim (cases_Bool (w == v && ballot_eq m b && key_eq j k)) [
      | inl e ↦
          let both = and_parts (w == v && ballot_eq m b) (key_eq j k) e in
          let first = and_parts (w == v) (ballot_eq m b) both.0 in
          let s : m ≡ b = (Decides-ballot m b).0 first.1 in
          absurd (other (sym legal.1.1.centre ∙ (ap (λ (z : Ballot). z.centre) s ∙ own)))
      | inr e ↦ rw e refl
    ]

-- a structure of an epoch that has come
pub valued-epoch : (cluster : Cluster) (es : List Entry) (k : Key) (v : ℕ) (b : Ballot) → IsAllowed cluster es → ((e : Entry) (fs : List Entry) → IsAllowed cluster (e ∷ fs) → epoch_of (facts_of fs b.centre) ≤ epoch_of (facts_of (e ∷ fs) b.centre)) →
    epoch_of (facts_of es b.centre) < b.epoch → structure_valued es k v b ≡ None
valued-epoch cluster [] k v b legal grows h = refl
valued-epoch cluster (Entry.Begun c t cs ∷ es) k v b legal grows h = valued-epoch cluster es k v b legal.0 grows h
valued-epoch cluster (Added c f ∷ es) k v b legal grows h = let g = grows (Added c f) es legal in valued-epoch cluster es k v b legal.0 grows (omega (arith, h, g))
valued-epoch cluster (Valued c j w m os ∷ es) k v b legal grows h =
    elim (cases_Bool (w == v && ballot_eq m b && key_eq j k)) [
      | inl e ↦
          let both = and_parts (w == v && ballot_eq m b) (key_eq j k) e in
          let first = and_parts (w == v) (ballot_eq m b) both.0 in
          let s : m ≡ b = (Decides-ballot m b).0 first.1 in
          let c1 : c ≡ b.centre = sym legal.1.1.centre ∙ ap (λ (z : Ballot). z.centre) s in
          let e1 : b.epoch ≡ epoch_of (facts_of es b.centre) = ap (λ (z : Ballot). z.epoch) (sym s) ∙ (legal.1.1.epoch ∙ ap (λ z. epoch_of (facts_of es z)) c1) in
          absurd (omega (arith, e1, h))
      | inr e ↦ rw e (valued-epoch cluster es k v b legal.0 grows h)
    ]
