-- What one more entry of an allowed ledger leaves as it was.
use Rattle.std.proofs.Common.{Bool, List, Some, [], ap, arith, false, inl, inr, length, refl, subst, sym, true, ℕ, ◌&&◌, ◌+◌, ◌<◌, ◌==◌, ◌∙◌, ◌∷◌, ◌≡◌, ◌≤◌}
use Rattle.std.specs.List.{list_any}
use Rattle.std.proofs.lemmas.Bool.{cases_Bool, eq-eqb, true≢false}
use Rattle.mdcc_base.specs.declared.key.Key.{Key}
use Rattle.mdcc_base.specs.declared.identifiers.TxId.{TxId}
use Rattle.mdcc_base.specs.declared.identifiers.Ballot.{Ballot}
use Rattle.mdcc_base.specs.TxId.{tx_eq}
use Rattle.mdcc_option.specs.declared.choices.Choice.{Choice}
use Rattle.mdcc_option.specs.declared.cluster.Cluster.{Cluster}
use Rattle.mdcc_option.specs.declared.choices.Mark.{Mark}
use Rattle.mdcc_option.specs.Equality.{choice_eq}
use Rattle.mdcc_def_messages.specs.declared.facts.Fact.{Fact}
use Rattle.mdcc_def_protocol.specs.Facts.{marks_voted, votes_of}
use Rattle.mdcc_def_ledger.specs.Ledger.{Added, Entry, Valued, choices_begun, facts_of, mark_given}
use Rattle.mdcc_def_ledger.specs.AllowedLedgers.{IsAllowed, seqs_begun}
use Rattle.mdcc_def_ledger.specs.AllowedStructures.{is_begun}
use Rattle.mdcc_theorem_trace_states.specs.Words.{In, IsTail}
use Rattle.mdcc_theorem_trace_states.proofs.Tests.{Decides-choice}
use Rattle.mdcc_theorem_trace_states.proofs.Maps.{tx-true, union-keeps}

pub Allowed-tail : (cluster : Cluster) (old es : List Entry) → IsTail old es → IsAllowed cluster es → IsAllowed cluster old
Allowed-tail cluster old [] tail h = subst (IsAllowed cluster) (sym tail) tt
Allowed-tail cluster old (e ∷ es) tail h = elim tail [ inl same ↦ subst (IsAllowed cluster) (sym same) h | inr rest ↦ Allowed-tail cluster old es rest h.0 ]

-- ---- facts

pub facts-own : (a : ℕ) (f : Fact) (es : List Entry) → facts_of (Added a f ∷ es) a ≡ f ∷ facts_of es a
facts-own a f es = rw (eq-eqb a a refl) refl

pub facts-other : (a b : ℕ) (f : Fact) (es : List Entry) → (b == a) ≡ false → facts_of (Added b f ∷ es) a ≡ facts_of es a
facts-other a b f es h = rw h refl

-- ---- marks

pub mark-more : (e : Entry) (es : List Entry) (k : Key) (v : ℕ) (b : Ballot) (t : TxId) (a : ℕ) (x : Mark) → mark_given es k v b t a ≡ Some x → mark_given (e ∷ es) k v b t a ≡ Some x
mark-more (Entry.Begun c u cs) es k v b t a x h = h
mark-more (Valued c j w m os) es k v b t a x h = h
mark-more (Added c f) es k v b t a x h =
    elim (cases_Bool (c == a)) [
      | inl e ↦ rw e (union-keeps (votes_of (facts_of es a) k v b) (marks_voted k v b f) t x h)
      | inr e ↦ rw e h
    ]

pub mark-tail : (old es : List Entry) (k : Key) (v : ℕ) (b : Ballot) (t : TxId) (a : ℕ) (x : Mark) → IsTail old es → mark_given old k v b t a ≡ Some x → mark_given es k v b t a ≡ Some x
mark-tail old [] k v b t a x tail h = subst (λ z. mark_given z k v b t a ≡ Some x) tail h
mark-tail old (e ∷ es) k v b t a x tail h =
    elim tail [
      | inl same ↦ subst (λ z. mark_given z k v b t a ≡ Some x) same h
      | inr rest ↦ mark-more e es k v b t a x (mark-tail old es k v b t a x rest h)
    ]

-- ---- begun transactions

pub seq_within : (cluster : Cluster) (es : List Entry) (t : TxId) → IsAllowed cluster es → 0 < length (choices_begun es t) → t.seq ≤ seqs_begun es t.centre t.epoch
seq_within cluster [] t h some = absurd (omega arith)
seq_within cluster (Added b f ∷ es) t h some = seq_within cluster es t h.0 some
seq_within cluster (Valued b k v m os ∷ es) t h some = seq_within cluster es t h.0 some
seq_within cluster (Entry.Begun b u cs ∷ es) t h some =
    elim (cases_Bool (tx_eq u t)) [
      | inl e ↦ subst (λ (z : TxId). z.seq ≤ seqs_begun (Entry.Begun b u cs ∷ es) z.centre z.epoch) (tx-true u t e) here
      | inr e ↦ let g : 0 < length (choices_begun es t) = rw e at some in omega (arith, seq_within cluster es t h.0 g)
    ]
  where
    same : (u.centre == u.centre && u.epoch == u.epoch) ≡ true
    same = rw (eq-eqb u.centre u.centre refl) (rw (eq-eqb u.epoch u.epoch refl) refl)

    number : u.seq ≡ seqs_begun es u.centre u.epoch + 1
    number = subst (λ z. u.seq ≡ seqs_begun es z u.epoch + 1) (sym h.1.1.centre) h.1.1.seq

    here : u.seq ≤ seqs_begun (Entry.Begun b u cs ∷ es) u.centre u.epoch
    here = rw same (omega (arith, number))

-- a begun transaction is begun once
pub begun-more : (cluster : Cluster) (e : Entry) (es : List Entry) (t : TxId) → IsAllowed cluster (e ∷ es) → 0 < length (choices_begun es t) → choices_begun (e ∷ es) t ≡ choices_begun es t
begun-more cluster (Added b f) es t h some = refl
begun-more cluster (Valued b k v m os) es t h some = refl
begun-more cluster (Entry.Begun b u cs) es t h some =
    elim (cases_Bool (tx_eq u t)) [ inl e ↦ absurd (twice (tx-true u t e)) | inr e ↦ rw e refl ]
  where
    within : t.seq ≤ seqs_begun es t.centre t.epoch
    within = seq_within cluster es t h.0 some

    number : u.seq ≡ seqs_begun es u.centre u.epoch + 1
    number = subst (λ z. u.seq ≡ seqs_begun es z u.epoch + 1) (sym h.1.1.centre) h.1.1.seq

    twice : u ≡ t → ⊥
    twice s = let n : t.seq ≡ seqs_begun es t.centre t.epoch + 1 = subst (λ (z : TxId). z.seq ≡ seqs_begun es z.centre z.epoch + 1) s number in omega (arith, n, within)

pub begun-tail : (cluster : Cluster) (old es : List Entry) (t : TxId) → IsAllowed cluster es → IsTail old es → 0 < length (choices_begun old t) → choices_begun es t ≡ choices_begun old t
begun-tail cluster old [] t h tail some = ap (λ z. choices_begun z t) (sym tail)
begun-tail cluster old (e ∷ es) t h tail some =
    elim tail [
      | inl same ↦ ap (λ z. choices_begun z t) (sym same)
      | inr rest ↦ let before = begun-tail cluster old es t h.0 rest some in
          let g : 0 < length (choices_begun es t) = rw before some in begun-more cluster e es t h g ∙ before
    ]

some_begun : {A : Type 0} (p : A → Bool) (xs : List A) → list_any p xs ≡ true → 0 < length xs
some_begun p [] h = absurd (cc)
some_begun p (x ∷ xs) h = omega arith

pub is_begun-tail : (cluster : Cluster) (old es : List Entry) (c : Choice) → IsAllowed cluster es → IsTail old es → is_begun old c ≡ true → is_begun es c ≡ true
is_begun-tail cluster old es c h tail g =
    let same = begun-tail cluster old es c.tx h tail (some_begun (choice_eq c) (choices_begun old c.tx) g) in rw same g

pub any-In : (c : Choice) (cs : List Choice) → list_any (choice_eq c) cs ≡ true → In c cs
any-In c [] h = absurd (cc)
any-In c (d ∷ ds) h =
    elim (cases_Bool (choice_eq c d)) [
      | inl e ↦ inl ((Decides-choice c d).0 e)
      | inr e ↦ let g : list_any (choice_eq c) ds ≡ true = rw e at h in inr (any-In c ds g)
    ]

pub In-any : (c : Choice) (cs : List Choice) → In c cs → list_any (choice_eq c) cs ≡ true
In-any c [] i = absurd i
In-any c (d ∷ ds) i =
    elim (cases_Bool (choice_eq c d)) [
      | inl e ↦ rw e refl
      | inr e ↦ elim i [ inl s ↦ absurd (true≢false (sym ((Decides-choice c d).1 s) ∙ e)) | inr r ↦ rw e (In-any c ds r) ]
    ]
