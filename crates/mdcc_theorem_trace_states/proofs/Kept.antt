-- What one more entry leaves of what the centres keep.
use Rattle.std.proofs.Common.{List, None, Option, Some, [], ap, arith, false, inl, inr, length, refl, sym, ℕ, ◌&&◌, ◌++◌, ◌<◌, ◌==◌, ◌||◌, ◌∙◌, ◌∷◌, ◌≡◌, ◌⊎◌}
use Rattle.std.specs.Prelude.{nat_lt}
use Rattle.std.specs.Option.{option_or}
use Rattle.std.proofs.lemmas.Bool.{and_from, and_parts, cases_Bool, eqb-false, eqb-true}
use Rattle.mdcc_base.specs.declared.identifiers.Ballot.{Ballot}
use Rattle.mdcc_base.specs.declared.key.Key.{Key}
use Rattle.mdcc_base.specs.declared.identifiers.TxId.{TxId}
use Rattle.mdcc_option.specs.declared.choices.Choice.{Choice}
use Rattle.mdcc_option.specs.declared.cluster.Cluster.{Cluster}
use Rattle.mdcc_option.specs.declared.choices.Mark.{Mark}
use Rattle.mdcc_struct.specs.Maps.{value_of}
use Rattle.mdcc_def_messages.specs.declared.facts.Fact.{Fact}
use Rattle.mdcc_def_protocol.specs.Facts.{are_heard, epoch_of, heard_of, is_heard, marks_voted, outcome_in, votes_of}
use Rattle.std.proofs.Common.{is_some, suc, true, zero}
use Rattle.mdcc_def_ledger.specs.Ledger.{Added, Entry, Valued, choices_begun, facts_of, mark_given}
use Rattle.mdcc_def_ledger.specs.AllowedLedgers.{IsAllowed, seqs_begun}
use Rattle.mdcc_def_ledger.specs.BootTest.{is_allowed_kind}
use Rattle.mdcc_def_ledger.specs.AllowedFacts.{is_booted}
use Rattle.mdcc_def_protocol.specs.Belongs.{fact_belongs}
use Rattle.mdcc_def_protocol.specs.Volatile.{Managing, Marked, Undecided, Volatile}
use Rattle.mdcc_def_protocol.specs.declared.votes.Vote.{Vote}
use Rattle.mdcc_def_simulation.specs.State.{SimulatedSite}
use Rattle.mdcc_def_messages.specs.declared.messages.Envelope.{Envelope}
use Rattle.mdcc_theorem_trace_states.specs.Words.{Each}
use Rattle.mdcc_theorem_trace_states.specs.VolatileInvariant.{ArePlaced, AreVotes, IsCentre, IsGiven, IsOpened, IsPlaced, IsTold, Keeps, Manages}
use Rattle.mdcc_theorem_trace_states.specs.Invariant.{IsOf}
use Rattle.mdcc_theorem_trace_states.specs.MessageMeaning.{TrueWhenSent}
use Rattle.mdcc_theorem_trace_states.proofs.Lists.{Each-like, IsTail-more}
use Rattle.mdcc_theorem_trace_states.proofs.Maps.{value_of-union}
use Rattle.mdcc_theorem_trace_states.proofs.Ledgers.{begun-more, mark-more}
use Rattle.mdcc_theorem_trace_states.proofs.Led.{IsPlaced-more, IsStill, Leads-more, valued-other}
use Rattle.mdcc_theorem_trace_states.proofs.Tests.{add-test}

pub AreVotes-more : (cluster : Cluster) (e : Entry) (es : List Entry) (vs : List Vote) → AreVotes cluster es vs → AreVotes cluster (e ∷ es) vs
AreVotes-more cluster e es vs h = record {
  each = Each-like (IsGiven cluster es) (IsGiven cluster (e ∷ es)) vs
      (λ v g. record { given = mark-more e es v.key v.version v.ballot v.tx v.from v.mark g.given; centre = g.centre; tx = g.tx; mark = g.mark }) h.each;
  apart = h.apart;
}

pub IsOpened-more : (cluster : Cluster) (e : Entry) (es : List Entry) (t : Undecided) → IsAllowed cluster (e ∷ es) → IsOpened es t → IsOpened (e ∷ es) t
IsOpened-more cluster e es t legal h =
    let some : 0 < length (choices_begun es t.tx) = rw h.choices h.some_choice in
    record { choices = begun-more cluster e es t.tx legal some ∙ h.choices; some_choice = h.some_choice }

-- the last sequence number, the epoch and the structures of its ballots are as before
pub record IsQuiet (a : ℕ) (e : Entry) (es : List Entry) : Type 0 where
  pub seq : seqs_begun (e ∷ es) a (epoch_of (facts_of (e ∷ es) a)) ≡ seqs_begun es a (epoch_of (facts_of es a))
  pub still : IsStill a e es

pub Manages-more : (cluster : Cluster) (e : Entry) (es : List Entry) (a : ℕ) (m : Managing) → IsAllowed cluster (e ∷ es) → seqs_begun (e ∷ es) a (epoch_of (facts_of (e ∷ es) a)) ≡ seqs_begun es a (epoch_of (facts_of es a)) → Manages cluster es a m → Manages cluster (e ∷ es) a m
Manages-more cluster e es a m legal quiet h = record {
  seq = h.seq ∙ sym quiet;
  opened = Each-like (IsOpened es) (IsOpened (e ∷ es)) m.opened (λ t g. IsOpened-more cluster e es t legal g) h.opened;
  votes = AreVotes-more cluster e es m.votes h.votes;
}

-- what was heard stays heard
heard-kept : (f : Fact) (fs : List Fact) (t : TxId) → is_heard fs t ≡ true → is_heard (f ∷ fs) t ≡ true
heard-kept f fs t h = first_kept (heard_of fs t) (outcome_in t f) h
  where
    first_kept : {X : Type 0} (a b : Option X) → is_some a ≡ true → is_some (option_or a b) ≡ true
    first_kept None b g = absurd (cc)
    first_kept (Some x) b g = refl

pub are-heard-kept : (f : Fact) (fs : List Fact) (centre epoch seq : ℕ) → are_heard fs centre epoch seq ≡ true → are_heard (f ∷ fs) centre epoch seq ≡ true
are-heard-kept f fs centre epoch zero h = refl
are-heard-kept f fs centre epoch (suc n) h =
    let parts : (is_heard fs (record { centre = centre; epoch = epoch; seq = suc n }) ≡ true) × (are_heard fs centre epoch n ≡ true) = and_parts _ _ h in
    and_from (is_heard (f ∷ fs) (record { centre = centre; epoch = epoch; seq = suc n })) (are_heard (f ∷ fs) centre epoch n)
    (heard-kept f fs (record { centre = centre; epoch = epoch; seq = suc n }) parts.0) (are-heard-kept f fs centre epoch n parts.1)

pub are-heard-more : (e : Entry) (es : List Entry) (a centre epoch seq : ℕ) → are_heard (facts_of es a) centre epoch seq ≡ true → are_heard (facts_of (e ∷ es) a) centre epoch seq ≡ true
are-heard-more (Added b f) es a centre epoch seq h =
    elim (cases_Bool (b == a)) [ inl e ↦ rw e (are-heard-kept f (facts_of es a) centre epoch seq h) | inr e ↦ rw e h ]
are-heard-more (Entry.Begun b t cs) es a centre epoch seq h = h
are-heard-more (Valued b k v m os) es a centre epoch seq h = h

pub told-more : (cluster : Cluster) (e : Entry) (es : List Entry) (ms : List Marked) → Each (IsTold cluster es) ms → Each (IsTold cluster (e ∷ es)) ms
told-more cluster e es ms h =
    Each-like (IsTold cluster es) (IsTold cluster (e ∷ es)) ms (λ m g. record { centre = g.centre; heard = are-heard-more e es m.from m.centre m.epoch m.seq g.heard }) h

pub Keeps-more : (cluster : Cluster) (e : Entry) (es : List Entry) (a : ℕ) (v : Volatile) → IsAllowed cluster (e ∷ es) → IsQuiet a e es → Keeps cluster es a v → Keeps cluster (e ∷ es) a v
Keeps-more cluster e es a v legal quiet h = record {
  manager = Manages-more cluster e es a v.manager legal quiet.seq h.manager;
  recovery = AreVotes-more cluster e es v.recovery.votes h.recovery;
  told = told-more cluster e es v.told h.told;
  leader = Leads-more cluster e es a v.leader legal quiet.still h.leader;
}

-- a fact that is no boot leaves the epoch
pub epoch-same : (f : Fact) (fs : List Fact) → is_booted f ≡ false → epoch_of (f ∷ fs) ≡ epoch_of fs
epoch-same (Fact.Booted n) fs h = absurd (cc)
epoch-same (Fact.Floor origin era upto) fs h = refl
epoch-same (Fact.Promised k lo hi m) fs h = refl
epoch-same (Fact.Voted k v m os off) fs h = refl
epoch-same (Fact.Heard t o) fs h = refl
epoch-same (Fact.Adopted k v it ds) fs h = refl

pub still-fact : (a b : ℕ) (f : Fact) (es : List Entry) → is_booted f ≡ false → IsStill b (Added a f) es
still-fact a b f es h = record { epoch = elim (cases_Bool (a == b)) [ inl e ↦ rw e (epoch-same f (facts_of es b) h) | inr e ↦ rw e refl ]; valued = λ k v m g. refl }

pub quiet-fact : (a b : ℕ) (f : Fact) (es : List Entry) → is_booted f ≡ false → IsQuiet b (Added a f) es
quiet-fact a b f es h = record {
  seq = elim (cases_Bool (a == b)) [
    | inl e ↦ rw e (ap (λ z. seqs_begun es b z) (epoch-same f (facts_of es b) h))
    | inr e ↦ rw e refl
  ];
  still = still-fact a b f es h;
}

-- an entry of another centre
pub quiet-other : (cluster : Cluster) (e : Entry) (es : List Entry) (a b : ℕ) → IsAllowed cluster (e ∷ es) → IsOf a e → (a == b) ≡ false → IsQuiet b e es
quiet-other cluster (Added c f) es a b legal own h =
    let n : (c == b) ≡ false = rw own h in record { seq = rw n refl; still = record { epoch = rw n refl; valued = λ k v m g. refl } }
quiet-other cluster (Valued c k v m os) es a b legal own h =
    record { seq = refl; still = record { epoch = refl; valued = valued-other cluster es c k v m os b legal (λ s. eqb-false a b h (sym own ∙ s)) } }
quiet-other cluster (Entry.Begun c t cs) es a b legal own h =
    let s : t.centre ≡ a = legal.1.1.centre ∙ own in
    let n : (t.centre == b) ≡ false = rw s h in
    record { seq = rw n (omega arith); still = record { epoch = refl; valued = λ k v m g. refl } }

-- an allowed boot has a number above 0
booted-above : (cluster : Cluster) (es : List Entry) (c n : ℕ) → IsAllowed cluster (Added c (Fact.Booted n) ∷ es) → 0 < n
booted-above cluster es c n legal =
    let kind = (and_parts (fact_belongs cluster (Fact.Booted n) && (is_booted (Fact.Booted n) || nat_lt 0 (epoch_of (facts_of es c)))) (is_allowed_kind cluster (facts_of es c) (Fact.Booted n)) (add-test cluster (facts_of es c) (Fact.Booted n) legal.1.1)).1 in
    omega (arith, eqb-true n _ kind)

pub epoch-above : (cluster : Cluster) (e : Entry) (es : List Entry) (a : ℕ) → IsAllowed cluster (e ∷ es) → 0 < epoch_of (facts_of es a) → 0 < epoch_of (facts_of (e ∷ es) a)
epoch-above cluster (Entry.Begun c t cs) es a legal h = h
epoch-above cluster (Valued c k v m os) es a legal h = h
epoch-above cluster (Added c f) es a legal h =
    elim (cases_Bool (c == a)) [ inl e ↦ rw e (above f legal) | inr e ↦ rw e h ]
  where
    above : (f : Fact) → IsAllowed cluster (Added c f ∷ es) → 0 < epoch_of (f ∷ facts_of es a)
    above (Fact.Booted n) legal = booted-above cluster es c n legal
    above (Fact.Floor origin era upto) legal = h
    above (Fact.Promised k lo hi m) legal = h
    above (Fact.Voted k v m os off) legal = h
    above (Fact.Heard t o) legal = h
    above (Fact.Adopted k v it ds) legal = h

pub IsCentre-other : (cluster : Cluster) (e : Entry) (es : List Entry) (a b : ℕ) (c : SimulatedSite) → IsAllowed cluster (e ∷ es) → IsOf a e → (a == b) ≡ false → IsCentre cluster es b c → IsCentre cluster (e ∷ es) b c
IsCentre-other cluster e es a b c legal own h g = record {
  booted = epoch-above cluster e es b legal g.booted;
  keeps = λ up. Keeps-more cluster e es b c.volatile legal (quiet-other cluster e es a b legal own h) (g.keeps up);
}

-- the same for the entries of a step
pub IsCentre-others : (cluster : Cluster) (new es : List Entry) (a b : ℕ) (c : SimulatedSite) → IsAllowed cluster (new ++ es) → Each (IsOf a) new → (a == b) ≡ false → IsCentre cluster es b c → IsCentre cluster (new ++ es) b c
IsCentre-others cluster [] es a b c legal own h g = g
IsCentre-others cluster (e ∷ new) es a b c legal own h g = IsCentre-other cluster e (new ++ es) a b c legal own.0 h (IsCentre-others cluster new es a b c legal.0 own.1 h g)

pub epoch-aboves : (cluster : Cluster) (new es : List Entry) (a : ℕ) → IsAllowed cluster (new ++ es) → 0 < epoch_of (facts_of es a) → 0 < epoch_of (facts_of (new ++ es) a)
epoch-aboves cluster [] es a legal h = h
epoch-aboves cluster (e ∷ new) es a legal h = epoch-above cluster e (new ++ es) a legal (epoch-aboves cluster new es a legal.0 h)

-- ---- placed votes

-- a mark was given before, or by the new fact
pub mark-cases : (c : ℕ) (f : Fact) (es : List Entry) (k : Key) (v : ℕ) (b : Ballot) (t : TxId) (a : ℕ) (x : Mark) → mark_given (Added c f ∷ es) k v b t a ≡ Some x →
    (mark_given es k v b t a ≡ Some x) ⊎ ((c ≡ a) × (value_of (marks_voted k v b f) t ≡ Some x))
mark-cases c f es k v b t a x h =
    elim (cases_Bool (c == a)) [
      | inl e ↦ let g : mark_given (Added c f ∷ es) k v b t a ≡ option_or (mark_given es k v b t a) (value_of (marks_voted k v b f) t) = rw e (value_of-union (votes_of (facts_of es a) k v b) (marks_voted k v b f) t) in
          by_case (eqb-true c a e) (mark_given es k v b t a) refl (sym g ∙ h)
      | inr e ↦ let g : mark_given es k v b t a ≡ Some x = rw e at h in inl g
    ]
  where
    by_case : c ≡ a → (o : Option Mark) → mark_given es k v b t a ≡ o → option_or o (value_of (marks_voted k v b f) t) ≡ Some x →
        (mark_given es k v b t a ≡ Some x) ⊎ ((c ≡ a) × (value_of (marks_voted k v b f) t ≡ Some x))
    by_case s None e g = inr (s, g)
    by_case s (Some y) e g = inl (e ∙ g)

pub ArePlaced-fact : (cluster : Cluster) (c : ℕ) (f : Fact) (es : List Entry) → IsAllowed cluster (Added c f ∷ es) → ArePlaced es →
    ((k : Key) (v : ℕ) (b : Ballot) (t : TxId) (x : Mark) → value_of (marks_voted k v b f) t ≡ Some x → IsPlaced es k v t) → ArePlaced (Added c f ∷ es)
ArePlaced-fact cluster c f es legal h new k v b t a x g =
    elim (mark-cases c f es k v b t a x g) [
      | inl old ↦ IsPlaced-more cluster (Added c f) es k v t legal (h k v b t a x old)
      | inr own ↦ IsPlaced-more cluster (Added c f) es k v t legal (new k v b t x own.1)
    ]

pub ArePlaced-begun : (cluster : Cluster) (a : ℕ) (t : TxId) (cs : List Choice) (es : List Entry) → IsAllowed cluster (Entry.Begun a t cs ∷ es) → ArePlaced es → ArePlaced (Entry.Begun a t cs ∷ es)
ArePlaced-begun cluster a t cs es legal h k v b u c x g = IsPlaced-more cluster (Entry.Begun a t cs) es k v u legal (h k v b u c x g)

pub true-more : (cluster : Cluster) (new es : List Entry) → (env : Envelope) → TrueWhenSent cluster es env → TrueWhenSent cluster (new ++ es) env
true-more cluster new es env h = record { from = h.from; old = h.old; tail = IsTail-more new h.old es h.tail; says = h.says }
