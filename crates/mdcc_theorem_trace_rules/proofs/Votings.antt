-- What a centre heard and voted, in an allowed ledger.
use Rattle.std.proofs.Common.{Bool, List, None, Option, Some, [], ap, arith, cond, false, inl, inr, length, not, refl, subst, sym, true, ℕ, ◌&&◌, ◌==◌, ◌∙◌, ◌||◌, ◌∷◌, ◌≡◌, ◌⊎◌}
use Rattle.std.specs.Prelude.{filter, is_some, nat_le, option_map}
use Rattle.std.specs.Option.{option_or}
use Rattle.std.proofs.lemmas.Bool.{and_from, and_parts, cases_Bool, eq-eqb, eqb-true, not-true}
use Rattle.std.proofs.lemmas.List.Sums.{count_by-le-length, length-filter}
use Rattle.mdcc_base.specs.declared.identifiers.Ballot.{Ballot}
use Rattle.mdcc_base.specs.declared.key.Key.{Key}
use Rattle.mdcc_base.specs.declared.identifiers.TxId.{TxId}
use Rattle.mdcc_base.specs.Ballot.{ballot_eq, ballot_lt, is_fast}
use Rattle.mdcc_base.specs.Key.{key_eq}
use Rattle.mdcc_base.specs.TxId.{tx_eq}
use Rattle.mdcc_option.specs.declared.choices.Mark.TheVariants.{Accept, Reject}
use Rattle.mdcc_option.specs.declared.choices.Choice.{Choice}
use Rattle.mdcc_option.specs.declared.cluster.Cluster.{Cluster}
use Rattle.mdcc_option.specs.declared.choices.Mark.{Mark}
use Rattle.mdcc_option.specs.declared.choices.Outcome.{Outcome}
use Rattle.mdcc_struct.specs.declared.options.Options.{Options}
use Rattle.mdcc_struct.specs.Maps.{value_of}
use Rattle.mdcc_def_messages.specs.declared.facts.Fact.{Fact}
use Rattle.mdcc_def_protocol.specs.Facts.{current_of, heard_of, is_finished, is_forgotten, is_heard, is_idle, last_vote, later_vote, mark_voted, marks_voted, outcome_in, outcome_kept, promise_of, vote_of, votes_of}
use Rattle.mdcc_def_protocol.specs.Acceptor.{new_marks, vote_on}
use Rattle.mdcc_def_ledger.specs.Ledger.{Added, Entry, Valued, facts_of, mark_given, outcome_of}
use Rattle.mdcc_def_ledger.specs.AllowedLedgers.{IsAllowed}
use Rattle.mdcc_def_ledger.specs.BootTest.{is_allowed_classic_vote, is_allowed_fast_vote, is_allowed_kind, is_allowed_mark, is_answer}
use Rattle.mdcc_theorem_trace_states.specs.Words.{In, IsTail}
use Rattle.mdcc_theorem_trace_states.proofs.Tests.{Decides-ballot, Decides-key}
use Rattle.mdcc_theorem_trace_states.proofs.Lists.{IsTail-same}
use Rattle.mdcc_theorem_trace_states.proofs.Maps.{is_some-none, tx-true, value_of-union}
use Rattle.mdcc_theorem_trace_states.proofs.Ledgers.{mark-more}
use Rattle.mdcc_theorem_trace_states.proofs.Boots.{kind}

-- an outcome that was heard was one
pub record WasOutcome (cluster : Cluster) (es : List Entry) (t : TxId) (o : Outcome) : Type 0 where
  pub old : List Entry
  pub tail : IsTail old es
  pub outcome : outcome_of cluster.quorums old t ≡ Some o

pub was-outcome : (cluster : Cluster) (es : List Entry) (a : ℕ) (t : TxId) (o : Outcome) → IsAllowed cluster es → heard_of (facts_of es a) t ≡ Some o → WasOutcome cluster es t o
was-outcome cluster [] a t o legal h = absurd (cc)
was-outcome cluster (Entry.Begun c u cs ∷ es) a t o legal h = let r = was-outcome cluster es a t o legal.0 h in record { old = r.old; tail = inr r.tail; outcome = r.outcome }
was-outcome cluster (Valued c k v m os ∷ es) a t o legal h = let r = was-outcome cluster es a t o legal.0 h in record { old = r.old; tail = inr r.tail; outcome = r.outcome }
was-outcome cluster (Added c f ∷ es) a t o legal h =
    elim (cases_Bool (c == a)) [
      | inl e ↦ let g : option_or (heard_of (facts_of es a) t) (outcome_in t f) ≡ Some o = rw e at h in by_case (λ k. older (was-outcome cluster es a t o legal.0 k)) (heard_of (facts_of es a) t) refl g
      | inr e ↦ let g : heard_of (facts_of es a) t ≡ Some o = rw e at h in older (was-outcome cluster es a t o legal.0 g)
    ]
  where
    older : WasOutcome cluster es t o → WasOutcome cluster (Added c f ∷ es) t o
    older r = record { old = r.old; tail = inr r.tail; outcome = r.outcome }

    new : (f : Fact) → IsAllowed cluster (Added c f ∷ es) → outcome_in t f ≡ Some o → WasOutcome cluster (Added c f ∷ es) t o
    new (Fact.Booted n) legal g = absurd (cc)
    new (Fact.Floor centre era upto) legal g = absurd (cc)
    new (Fact.Promised k lo hi m) legal g = absurd (cc)
    new (Fact.Voted k v m os off) legal g = absurd (cc)
    new (Fact.Adopted k v it ds) legal g = absurd (cc)
    new (Fact.Heard u p) legal g =
        elim (cases_Bool (tx_eq u t)) [
          | inl e ↦ let s : Some p ≡ Some o = rw e at g in
              record { old = es; tail = inr (IsTail-same es); outcome = subst (λ z. outcome_of cluster.quorums es z ≡ Some o) (tx-true u t e) (legal.1.2 ∙ s) }
          | inr e ↦ let bad : None ≡ Some o = rw e at g in absurd (cc)
        ]

    by_case : (heard_of (facts_of es a) t ≡ Some o → WasOutcome cluster (Added c f ∷ es) t o) → (p : Option Outcome) → heard_of (facts_of es a) t ≡ p → option_or p (outcome_in t f) ≡ Some o → WasOutcome cluster (Added c f ∷ es) t o
    by_case rest None e g = new f legal g
    by_case rest (Some p) e g = rest (e ∙ g)

-- ---- votes

-- a vote at the fast ballot has one mark, of the choice that it is on
pub record IsFastVoteOf (cluster : Cluster) (facts : List Fact) (k : Key) (v : ℕ) (os : Options) (off : Option Choice) : Type 0 where
  pub tx : TxId
  pub mark : Mark
  pub choice : Choice
  pub only : os ≡ (tx, mark) ∷ []
  pub allowed : is_allowed_mark cluster facts k v tx mark choice ≡ true
  pub on : ((mark ≡ Accept choice) × (off ≡ None)) ⊎ ((mark ≡ Reject) × (off ≡ Some choice))

pub fast-parts : (cluster : Cluster) (facts : List Fact) (k : Key) (v : ℕ) (os : Options) (off : Option Choice) → is_allowed_fast_vote cluster facts k v os off ≡ true → IsFastVoteOf cluster facts k v os off
fast-parts cluster facts k v [] off h = absurd (cc)
fast-parts cluster facts k v ((t, Accept c) ∷ []) None h = record { tx = t; mark = Accept c; choice = c; only = refl; allowed = h; on = inl (refl, refl) }
fast-parts cluster facts k v ((t, Accept c) ∷ []) (Some d) h = absurd (cc)
fast-parts cluster facts k v ((t, Reject) ∷ []) None h = absurd (cc)
fast-parts cluster facts k v ((t, Reject) ∷ []) (Some d) h = record { tx = t; mark = Reject; choice = d; only = refl; allowed = h; on = inr (refl, refl) }
fast-parts cluster facts k v ((t, Accept c) ∷ y ∷ ys) off h = absurd (cc)
fast-parts cluster facts k v ((t, Reject) ∷ y ∷ ys) off h = absurd (cc)

-- the parts of the test of a mark
pub record IsMarkOf (cluster : Cluster) (facts : List Fact) (k : Key) (v : ℕ) (t : TxId) (m : Mark) (c : Choice) : Type 0 where
  pub tx : c.tx ≡ t
  pub version : c.version ≡ v
  pub key : c.key ≡ k
  pub within : nat_le v (current_of facts k) ≡ true
  pub fast : is_fast (promise_of facts k v) ≡ true
  pub unvoted : vote_of facts k v t ≡ None
  pub unheard : is_heard facts t ≡ false
  pub unfinished : is_finished facts t ≡ false
  pub answer : is_answer m (vote_on cluster facts c) ≡ true

pub mark-parts : (cluster : Cluster) (facts : List Fact) (k : Key) (v : ℕ) (t : TxId) (m : Mark) (c : Choice) → is_allowed_mark cluster facts k v t m c ≡ true → IsMarkOf cluster facts k v t m c
mark-parts cluster facts k v t m c h =
    let p8 = and_parts _ (is_answer m (vote_on cluster facts c)) h in
    let p7 = and_parts _ (not (is_finished facts t)) p8.0 in
    let p6 = and_parts _ (not (is_heard facts t)) p7.0 in
    let p5 = and_parts _ (not (is_some (vote_of facts k v t))) p6.0 in
    let p4 = and_parts _ (is_fast (promise_of facts k v)) p5.0 in
    let p3 = and_parts _ (nat_le v (current_of facts k)) p4.0 in
    let p2 = and_parts _ (key_eq c.key k) p3.0 in
    let p1 = and_parts (tx_eq c.tx t) (c.version == v) p2.0 in
    record {
      tx = tx-true c.tx t p1.0;
      version = eqb-true _ _ p1.1;
      key = (Decides-key c.key k).0 p2.1;
      within = p3.1;
      fast = p4.1;
      unvoted = is_some-none _ (not-true _ p5.1);
      unheard = not-true _ p6.1;
      unfinished = not-true _ p7.1;
      answer = p8.1;
    }

-- ---- the vote at the greatest ballot is one that the centre gives

later-one : (p q : Option (Ballot × Mark)) (x : Ballot × Mark) → later_vote p q ≡ Some x → (p ≡ Some x) ⊎ (q ≡ Some x)
later-one None q x h = inr h
later-one (Some y) None x h = inl h
later-one (Some y) (Some z) x h =
    elim (cases_Bool (ballot_lt y.0 z.0)) [
      | inl e ↦ let g : Some z ≡ Some x = rw e at h in inr g
      | inr e ↦ let g : Some y ≡ Some x = rw e at h in inl g
    ]

later-none : (p q : Option (Ballot × Mark)) → later_vote p q ≡ None → (p ≡ None) × (q ≡ None)
later-none None q h = (refl, h)
later-none (Some y) None h = absurd (cc)
later-none (Some y) (Some z) h =
    elim (cases_Bool (ballot_lt y.0 z.0)) [
      | inl e ↦ let g : Some z ≡ None = rw e at h in absurd (cc)
      | inr e ↦ let g : Some y ≡ None = rw e at h in absurd (cc)
    ]

unmarked : (f : Fact) (k : Key) (v : ℕ) (t : TxId) (b : Ballot) → mark_voted k v t f ≡ None → value_of (marks_voted k v b f) t ≡ None
unmarked (Fact.Booted n) k v t b h = refl
unmarked (Fact.Floor centre era upto) k v t b h = refl
unmarked (Fact.Promised j lo hi m) k v t b h = refl
unmarked (Fact.Heard u o) k v t b h = refl
unmarked (Fact.Adopted j w it ds) k v t b h = refl
unmarked (Fact.Voted j w m os off) k v t b h =
    elim (cases_Bool (w == v && ballot_eq m b && key_eq j k)) [
      | inl e ↦
          let both = and_parts (w == v && ballot_eq m b) (key_eq j k) e in
          let first = and_parts (w == v) (ballot_eq m b) both.0 in
          let test : (w == v && key_eq j k) ≡ true = rw first.0 (rw both.1 refl) in
          let g : option_map {U = Ballot × Mark} (λ (mark : Mark). (m, mark)) (value_of os t) ≡ None = rw test at h in
          rw e (none (value_of os t) g)
      | inr e ↦ rw e refl
    ]
  where
    none : (o : Option Mark) → option_map {U = Ballot × Mark} (λ (mark : Mark). (m, mark)) o ≡ None → o ≡ None
    none None g = refl
    none (Some x) g = absurd (cc)

-- where a transaction is not finished, no vote of it is forgotten
pub unforgotten : (fs : List Fact) (k : Key) (v : ℕ) (t : TxId) → is_finished fs t ≡ false → vote_of fs k v t ≡ None → last_vote fs k v t ≡ None
unforgotten fs k v t u h = let g : last_vote fs k v t ≡ None = rw u at h in g

-- a transaction without a vote has none at a ballot
pub unvoted : (fs : List Fact) (k : Key) (v : ℕ) (t : TxId) (b : Ballot) → last_vote fs k v t ≡ None → value_of (votes_of fs k v b) t ≡ None
unvoted [] k v t b h = refl
unvoted (f ∷ fs) k v t b h =
    let p = later-none (last_vote fs k v t) (mark_voted k v t f) h in
    value_of-union (votes_of fs k v b) (marks_voted k v b f) t ∙ (rw (unvoted fs k v t b p.0) (unmarked f k v t b p.1))

filter-all : {A : Type 0} (p : A → Bool) (xs : List A) (x : A) → length (filter p xs) ≡ length xs → In x xs → p x ≡ true
filter-all p [] x h i = absurd i
filter-all p (y ∷ ys) x h i =
    elim (cases_Bool (p y)) [
      | inl e ↦ let g : length (y ∷ filter p ys) ≡ length (y ∷ ys) = rw e at h in
          elim i [ inl s ↦ subst (λ z. p z ≡ true) (sym s) e | inr r ↦ filter-all p ys x (omega (arith, g)) r ]
      | inr e ↦ let g : length (filter p ys) ≡ length (y ∷ ys) = rw e at h in absurd (omega (arith, g, length-filter p ys, count_by-le-length p ys))
    ]

value-In : (os : Options) (t : TxId) (m : Mark) → value_of os t ≡ Some m → (e : TxId × Mark) × (In e os) × (e.0 ≡ t)
value-In [] t m h = absurd (cc)
value-In (e ∷ es) t m h =
    elim (cases_Bool (tx_eq e.0 t)) [
      | inl k ↦ (e, inl refl, tx-true e.0 t k)
      | inr k ↦ let g : value_of es t ≡ Some m = rw k at h in let r = value-In es t m g in (r.0, inr r.1, r.2)
    ]

-- the marks of an allowed vote are new at its ballot
pub votes-new : (cluster : Cluster) (es : List Entry) (c : ℕ) (k : Key) (v : ℕ) (b : Ballot) (os : Options) (off : Option Choice) (t : TxId) (m : Mark) → IsAllowed cluster (Added c (Fact.Voted k v b os off) ∷ es) →
    value_of os t ≡ Some m → value_of (votes_of (facts_of es c) k v b) t ≡ None
votes-new cluster es c k v b os off t m legal h =
    elim (cases_Bool (is_fast b)) [
      | inl e ↦
          let g : is_allowed_fast_vote cluster (facts_of es c) k v os off ≡ true = rw e at test in
          let r = fast-parts cluster (facts_of es c) k v os off g in
          let p = mark-parts cluster (facts_of es c) k v r.tx r.mark r.choice r.allowed in
          let i = value-In os t m h in
          let j : In i.0 ((r.tx, r.mark) ∷ []) = subst (λ z. In i.0 z) r.only i.1 in
          let s : r.tx ≡ t = sym (one-of i.0 (r.tx, r.mark) j) ∙ i.2 in
          subst (λ z. value_of (votes_of (facts_of es c) k v b) z ≡ None) s (unvoted (facts_of es c) k v r.tx b (unforgotten (facts_of es c) k v r.tx p.unfinished p.unvoted))
      | inr e ↦
          let g : is_allowed_classic_vote (facts_of es c) k v b os off ≡ true = rw e at test in
          let p4 = and_parts _ (not (is_some off)) g in
          let p3 = and_parts _ (length (new_marks (facts_of es c) k v b os) == length os) p4.0 in
          let i = value-In os t m h in
          let n = filter-all (λ e. not (is_some (value_of (votes_of (facts_of es c) k v b) e.0) || is_finished (facts_of es c) e.0)) os i.0 (eqb-true _ _ p3.1) i.1 in
          subst (λ z. value_of (votes_of (facts_of es c) k v b) z ≡ None) i.2 (is_some-none _ (first (is_some (value_of (votes_of (facts_of es c) k v b) i.0.0)) (is_finished (facts_of es c) i.0.0) (not-true _ n)))
    ]
  where
    test : is_allowed_kind cluster (facts_of es c) (Fact.Voted k v b os off) ≡ true
    test = kind cluster es c (Fact.Voted k v b os off) legal

    first : (x y : Bool) → (x || y) ≡ false → x ≡ false
    first true y h = absurd (cc)
    first false y h = refl

    one-of : (x y : TxId × Mark) → In x (y ∷ []) → x.0 ≡ y.0
    one-of x y i = elim i [ inl s ↦ ap (λ (z : TxId × Mark). z.0) s | inr r ↦ absurd r ]

last-given : (cluster : Cluster) (es : List Entry) (a : ℕ) (k : Key) (v : ℕ) (t : TxId) (x : Ballot × Mark) → IsAllowed cluster es → last_vote (facts_of es a) k v t ≡ Some x → mark_given es k v x.0 t a ≡ Some x.1
last-given cluster [] a k v t x legal h = absurd (cc)
last-given cluster (Entry.Begun c u cs ∷ es) a k v t x legal h = last-given cluster es a k v t x legal.0 h
last-given cluster (Valued c j w m os ∷ es) a k v t x legal h = last-given cluster es a k v t x legal.0 h
last-given cluster (Added c f ∷ es) a k v t x legal h =
    elim (cases_Bool (c == a)) [
      | inl e ↦ let g : later_vote (last_vote (facts_of es a) k v t) (mark_voted k v t f) ≡ Some x = rw e at h in
          elim (later-one (last_vote (facts_of es a) k v t) (mark_voted k v t f) x g) [
            | inl old ↦ mark-more (Added c f) es k v x.0 t a x.1 (last-given cluster es a k v t x legal.0 old)
            | inr new ↦ by-fact f legal (eqb-true c a e) new
          ]
      | inr e ↦ let g : last_vote (facts_of es a) k v t ≡ Some x = rw e at h in mark-more (Added c f) es k v x.0 t a x.1 (last-given cluster es a k v t x legal.0 g)
    ]
  where
    by-fact : (f : Fact) → IsAllowed cluster (Added c f ∷ es) → c ≡ a → mark_voted k v t f ≡ Some x → mark_given (Added c f ∷ es) k v x.0 t a ≡ Some x.1
    by-fact (Fact.Booted n) legal s g = absurd (cc)
    by-fact (Fact.Floor centre era upto) legal s g = absurd (cc)
    by-fact (Fact.Promised j lo hi m) legal s g = absurd (cc)
    by-fact (Fact.Heard u o) legal s g = absurd (cc)
    by-fact (Fact.Adopted j w it ds) legal s g = absurd (cc)
    by-fact (Fact.Voted j w m os off) legal s g =
        elim (cases_Bool (w == v && key_eq j k)) [
          | inl e ↦
              let p = and_parts (w == v) (key_eq j k) e in
              let i : option_map {U = Ballot × Mark} (λ (mark : Mark). (m, mark)) (value_of os t) ≡ Some x = rw e at g in
              voted (value_of os t) refl (eqb-true w v p.0) ((Decides-key j k).0 p.1) i
          | inr e ↦ let bad : None ≡ Some x = rw e at g in absurd (cc)
        ]
      where
        voted : (o : Option Mark) → value_of os t ≡ o → w ≡ v → j ≡ k → option_map {U = Ballot × Mark} (λ (mark : Mark). (m, mark)) o ≡ Some x → mark_given (Added c (Fact.Voted j w m os off) ∷ es) k v x.0 t a ≡ Some x.1
        voted None o p q i = absurd (cc)
        voted (Some y) o p q i =
            let pair : (m, y) ≡ x = cc in
            let b : m ≡ x.0 = ap (λ (z : Ballot × Mark). z.0) pair in
            let n : y ≡ x.1 = ap (λ (z : Ballot × Mark). z.1) pair in
            let new = votes-new cluster es c j w m os off t y legal o in
            let none : value_of (votes_of (facts_of es a) k v x.0) t ≡ None =
            subst (λ z. value_of (votes_of (facts_of es a) k v z) t ≡ None) b
            (subst (λ z. value_of (votes_of (facts_of es a) k z m) t ≡ None) p
            (subst (λ z. value_of (votes_of (facts_of es a) z w m) t ≡ None) q
            (subst (λ z. value_of (votes_of (facts_of es z) j w m) t ≡ None) s new))) in
            let here : (c == a) ≡ true = eq-eqb c a s in
            let test : (w == v && ballot_eq m x.0 && key_eq j k) ≡ true = and_from _ _ (and_from _ _ (eq-eqb w v p) ((Decides-ballot m x.0).1 b)) ((Decides-key j k).1 q) in
            rw here (value_of-union (votes_of (facts_of es a) k v x.0) (marks_voted k v x.0 (Fact.Voted j w m os off)) t ∙ (rw none (rw test (o ∙ ap Some n))))

pub vote-given : (cluster : Cluster) (es : List Entry) (a : ℕ) (k : Key) (v : ℕ) (t : TxId) (x : Ballot × Mark) → IsAllowed cluster es → vote_of (facts_of es a) k v t ≡ Some x → mark_given es k v x.0 t a ≡ Some x.1
vote-given cluster es a k v t x legal h =
    elim (cases_Bool (is_forgotten (facts_of es a) k v t)) [
      | inl e ↦ let bad : None ≡ Some x = rw e at h in absurd (cc)
      | inr e ↦ let g : last_vote (facts_of es a) k v t ≡ Some x = rw e at h in last-given cluster es a k v t x legal g
    ]

-- an outcome that is kept was heard
pub kept-heard : (fs : List Fact) (t : TxId) (o : Outcome) → outcome_kept fs t ≡ Some o → heard_of fs t ≡ Some o
kept-heard fs t o h = by_case (is_idle fs t) (heard_of fs t) h
  where
    by_case : (idle : Bool) (p : Option Outcome) → cond idle None p ≡ Some o → p ≡ Some o
    by_case true p g = absurd (cc)
    by_case false p g = g
