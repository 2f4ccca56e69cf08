-- What the reports of a quorum have of a mark that is chosen below their ballot.
use Rattle.std.proofs.Common.{Bool, List, None, Option, Some, [], ap, arith, cond, false, inl, inr, length, not, refl, subst, suc, sym, true, zero, ℕ, ◌&&◌, ◌+◌, ◌<◌, ◌==◌, ◌∙◌, ◌∷◌, ◌≡◌, ◌≤◌, ◌⊎◌}
use Rattle.std.specs.Prelude.{fold, is_some, map, nat_le, nat_lt}
use Rattle.std.specs.Option.{option_or}
use Rattle.std.specs.List.{list_any, range_with_len}
use Rattle.std.proofs.lemmas.Bool.{and_from, and_parts, cases_Bool, eqb-false, eqb-true, ltb-true, not-true, or_cases, or_parts, true≢false}
use Rattle.mdcc_base.specs.declared.identifiers.Ballot.{Ballot}
use Rattle.mdcc_base.specs.declared.key.Key.{Key}
use Rattle.mdcc_base.specs.declared.identifiers.TxId.{TxId}
use Rattle.mdcc_base.specs.Ballot.{ballot_eq, ballot_lt, ballot_max, fast_ballot, is_fast}
use Rattle.mdcc_base.specs.Key.{key_eq}
use Rattle.mdcc_option.specs.declared.cluster.Cluster.{Cluster}
use Rattle.mdcc_option.specs.declared.choices.Mark.{Mark}
use Rattle.mdcc_struct.specs.declared.options.Options.{Options}
use Rattle.mdcc_struct.specs.Maps.{union, value_of}
use Rattle.mdcc_struct.specs.declared.report.Report.{Report}
use Rattle.mdcc_struct.specs.Forced.{ballot_reported}
use Rattle.mdcc_def_messages.specs.declared.facts.Fact.{Fact}
use Rattle.mdcc_def_protocol.specs.Facts.{ballot_promised, ballot_voted, last_ballot, marks_voted, promise_of, votes_of}
use Rattle.mdcc_def_ledger.specs.Ledger.{Added, Entry, Valued, facts_of}
use Rattle.mdcc_def_ledger.specs.AllowedLedgers.{IsAllowed}
use Rattle.mdcc_def_ledger.specs.AllowedStructures.{are_distinct_centres, has_promised_in}
use Rattle.mdcc_def_ledger.specs.AllowedFacts.{are_apart}
use Rattle.mdcc_def_ledger.specs.BootTest.{is_allowed_classic_vote}
use Rattle.mdcc_def_protocol.specs.Acceptor.{new_marks}
use Rattle.mdcc_theorem_trace_states.specs.Words.{In, IsTail, count_where}
use Rattle.mdcc_theorem_trace_states.proofs.Tests.{Decides-ballot}
use Rattle.mdcc_theorem_trace_states.proofs.Lists.{Each-from}
use Rattle.mdcc_theorem_trace_states.proofs.Maps.{tx-refl, union-keeps, value_of-union}
use Rattle.mdcc_theorem_trace_states.proofs.Boots.{kind}
use Rattle.mdcc_theorem_trace_rules.proofs.Votes.{AllDiffer}
use Rattle.mdcc_theorem_trace_rules.proofs.Chains.{is-here}
use Rattle.mdcc_theorem_trace_rules.proofs.Order.{lt-irrefl, max-left, max-right}
use Rattle.mdcc_theorem_trace_rules.proofs.Promises.{promise-stays, vote-above}

-- ---- votes are kept

fact-votes : (cluster : Cluster) (es : List Entry) (c : ℕ) (f : Fact) (k : Key) (v : ℕ) (m b : Ballot) → IsAllowed cluster (Added c f ∷ es) → is_fast m ≡ false → ballot_lt (promise_of (facts_of es c) k v) m ≡ false → ballot_lt b m ≡ true → marks_voted k v b f ≡ []
fact-votes cluster es c (Fact.Booted n) k v m b legal classic promised below = refl
fact-votes cluster es c (Fact.Promised j lo hi n) k v m b legal classic promised below = refl
fact-votes cluster es c (Fact.Heard t o) k v m b legal classic promised below = refl
fact-votes cluster es c (Fact.Floor origin era upto) k v m b legal classic promised below = refl
fact-votes cluster es c (Fact.Adopted j w it ds) k v m b legal classic promised below = refl
fact-votes cluster es c (Fact.Voted j w n os off) k v m b legal classic promised below =
    elim (cases_Bool (w == v && ballot_eq n b && key_eq j k)) [
      | inl e ↦
          let p = is-here k v b j w n e in
          let q : ballot_lt (promise_of (facts_of es c) j w) m ≡ false = subst (λ z. ballot_lt (promise_of (facts_of es c) z w) m ≡ false) (sym p.key) (subst (λ z. ballot_lt (promise_of (facts_of es c) k z) m ≡ false) (sym p.version) promised) in
          let a = vote-above cluster es c j w n os off m legal classic q in
          absurd (true≢false (sym (subst (λ z. ballot_lt z m ≡ true) (sym p.ballot) below) ∙ a.1))
      | inr e ↦ rw e refl
    ]

pub votes-kept : (cluster : Cluster) (old es : List Entry) (a : ℕ) (k : Key) (v : ℕ) (m b : Ballot) → IsAllowed cluster es → IsTail old es → is_fast m ≡ false → ballot_lt (promise_of (facts_of old a) k v) m ≡ false → ballot_lt b m ≡ true →
    (votes_of (facts_of es a) k v b ≡ votes_of (facts_of old a) k v b) × (ballot_lt (promise_of (facts_of es a) k v) m ≡ false)
votes-kept cluster old [] a k v m b legal tail classic h below = subst (λ z. (votes_of (facts_of z a) k v b ≡ votes_of (facts_of old a) k v b) × (ballot_lt (promise_of (facts_of z a) k v) m ≡ false)) tail (refl, h)
votes-kept cluster old (e ∷ es) a k v m b legal tail classic h below =
    elim tail [
      | inl s ↦ subst (λ z. (votes_of (facts_of z a) k v b ≡ votes_of (facts_of old a) k v b) × (ballot_lt (promise_of (facts_of z a) k v) m ≡ false)) s (refl, h)
      | inr r ↦ next e legal (votes-kept cluster old es a k v m b legal.0 r classic h below)
    ]
  where
    next : (e : Entry) → IsAllowed cluster (e ∷ es) → (votes_of (facts_of es a) k v b ≡ votes_of (facts_of old a) k v b) × (ballot_lt (promise_of (facts_of es a) k v) m ≡ false) →
        (votes_of (facts_of (e ∷ es) a) k v b ≡ votes_of (facts_of old a) k v b) × (ballot_lt (promise_of (facts_of (e ∷ es) a) k v) m ≡ false)
    next (Entry.Begun c t cs) legal g = g
    next (Valued c j w n os) legal g = g
    next (Added c f) legal g =
        elim (cases_Bool (c == a)) [
          | inl e ↦
              let s : c ≡ a = eqb-true c a e in
              let p : ballot_lt (promise_of (facts_of es c) k v) m ≡ false = subst (λ z. ballot_lt (promise_of (facts_of es z) k v) m ≡ false) (sym s) g.1 in
              rw e (ap (λ (z : Options). union (votes_of (facts_of es a) k v b) z) (fact-votes cluster es c f k v m b legal classic p below) ∙ g.0, promise-stays f (facts_of es a) k v m g.1)
          | inr e ↦ rw e g
        ]

pub has-promise : (fs : List Fact) (k : Key) (v : ℕ) (m : Ballot) → list_any (has_promised_in k v m) fs ≡ true → ballot_lt (promise_of fs k v) m ≡ false
has-promise [] k v m h = absurd (cc)
has-promise (f ∷ fs) k v m h =
    elim (or_cases (has_promised_in k v m f) (list_any (has_promised_in k v m) fs) h) [
      | inl e ↦ max-right (promise_of fs k v) _ m (new f e)
      | inr e ↦ max-left (promise_of fs k v) _ m (has-promise fs k v m e)
    ]
  where
    new : (f : Fact) → has_promised_in k v m f ≡ true → ballot_lt (ballot_promised k v f) m ≡ false
    new (Fact.Booted n) g = absurd (cc)
    new (Fact.Heard t o) g = absurd (cc)
    new (Fact.Floor origin era upto) g = absurd (cc)
    new (Fact.Adopted j w it ds) g = absurd (cc)
    new (Fact.Voted j w b os off) g = absurd (cc)
    new (Fact.Promised j lo hi b) g =
        let p = and_parts (nat_le lo v && nat_le v hi && ballot_eq b m) (key_eq j k) g in
        let q = and_parts (nat_le lo v && nat_le v hi) (ballot_eq b m) p.0 in
        rw q.0 (rw p.1 (subst (λ z. ballot_lt z m ≡ false) (sym ((Decides-ballot b m).0 q.1)) (lt-irrefl m)))

-- ---- the last ballot of a vote

pub last-ge : (fs : List Fact) (k : Key) (v : ℕ) (m b : Ballot) (t : TxId) (x : Mark) → ballot_lt b m ≡ true → value_of (votes_of fs k v b) t ≡ Some x → ballot_lt (last_ballot fs k v m) b ≡ false
last-ge [] k v m b t x below h = absurd (cc)
last-ge (f ∷ fs) k v m b t x below h = by_case (λ g. last-ge fs k v m b t x below g) (value_of (votes_of fs k v b) t) refl (sym (value_of-union (votes_of fs k v b) (marks_voted k v b f) t) ∙ h)
  where
    new : (f : Fact) → value_of (marks_voted k v b f) t ≡ Some x → ballot_lt (ballot_voted k v m f) b ≡ false
    new (Fact.Booted n) g = absurd (cc)
    new (Fact.Heard u o) g = absurd (cc)
    new (Fact.Floor origin era upto) g = absurd (cc)
    new (Fact.Adopted j w it ds) g = absurd (cc)
    new (Fact.Promised j lo hi n) g = absurd (cc)
    new (Fact.Voted j w n os off) g =
        elim (cases_Bool (w == v && ballot_eq n b && key_eq j k)) [
          | inl e ↦
              let both = and_parts (w == v && ballot_eq n b) (key_eq j k) e in
              let first = and_parts (w == v) (ballot_eq n b) both.0 in
              let s : n ≡ b = (Decides-ballot n b).0 first.1 in
              let l : ballot_lt n m ≡ true = subst (λ z. ballot_lt z m ≡ true) (sym s) below in
              let test : (w == v && ballot_lt n m && key_eq j k) ≡ true = and_from _ _ (and_from _ _ first.0 l) both.1 in
              rw test (subst (λ z. ballot_lt n z ≡ false) s (lt-irrefl n))
          | inr e ↦ let bad : None ≡ Some x = rw e at g in absurd (cc)
        ]

    by_case : (value_of (votes_of fs k v b) t ≡ Some x → ballot_lt (last_ballot fs k v m) b ≡ false) → (o : Option Mark) → value_of (votes_of fs k v b) t ≡ o → option_or (value_of (votes_of fs k v b) t) (value_of (marks_voted k v b f) t) ≡ Some x →
        ballot_lt (last_ballot (f ∷ fs) k v m) b ≡ false
    by_case rest None e g = max-right (last_ballot fs k v m) (ballot_voted k v m f) b (new f (let i : value_of (marks_voted k v b f) t ≡ Some x = rw e at g in i))
    by_case rest (Some y) e g = max-left (last_ballot fs k v m) (ballot_voted k v m f) b (rest (let i : Some y ≡ Some x = rw e at g in e ∙ i))

-- a centre with a last ballot that is classic has a mark there
pub last-mark : (cluster : Cluster) (es : List Entry) (a : ℕ) (k : Key) (v : ℕ) (m b : Ballot) → IsAllowed cluster es → is_fast b ≡ false → last_ballot (facts_of es a) k v m ≡ b → (t : TxId) × (x : Mark) × (value_of (votes_of (facts_of es a) k v b) t ≡ Some x)
last-mark cluster [] a k v m b legal classic h = absurd (true≢false (sym ((Decides-ballot b fast_ballot).1 (sym h)) ∙ classic))
last-mark cluster (Entry.Begun c t cs ∷ es) a k v m b legal classic h = last-mark cluster es a k v m b legal.0 classic h
last-mark cluster (Valued c j w n os ∷ es) a k v m b legal classic h = last-mark cluster es a k v m b legal.0 classic h
last-mark cluster (Added c f ∷ es) a k v m b legal classic h =
    elim (cases_Bool (c == a)) [
      | inl e ↦ rw e (own (λ i. last-mark cluster es a k v m b legal.0 classic i) (rw e at h))
      | inr e ↦ rw e (last-mark cluster es a k v m b legal.0 classic (rw e at h))
    ]
  where
    kept : (t : TxId) × (x : Mark) × (value_of (votes_of (facts_of es a) k v b) t ≡ Some x) → (t : TxId) × (x : Mark) × (value_of (votes_of (f ∷ facts_of es a) k v b) t ≡ Some x)
    kept r = (r.0, r.1, union-keeps (votes_of (facts_of es a) k v b) (marks_voted k v b f) r.0 r.1 r.2)

    new : (f : Fact) → IsAllowed cluster (Added c f ∷ es) → ballot_voted k v m f ≡ b → (t : TxId) × (x : Mark) × (value_of (votes_of (f ∷ facts_of es a) k v b) t ≡ Some x)
    new (Fact.Booted n) l g = absurd (true≢false (sym ((Decides-ballot b fast_ballot).1 (sym g)) ∙ classic))
    new (Fact.Heard u o) l g = absurd (true≢false (sym ((Decides-ballot b fast_ballot).1 (sym g)) ∙ classic))
    new (Fact.Floor origin era upto) l g = absurd (true≢false (sym ((Decides-ballot b fast_ballot).1 (sym g)) ∙ classic))
    new (Fact.Adopted j w it ds) l g = absurd (true≢false (sym ((Decides-ballot b fast_ballot).1 (sym g)) ∙ classic))
    new (Fact.Promised j lo hi n) l g = absurd (true≢false (sym ((Decides-ballot b fast_ballot).1 (sym g)) ∙ classic))
    new (Fact.Voted j w n os off) l g =
        elim (cases_Bool (w == v && ballot_lt n m && key_eq j k)) [
          | inl e ↦
              let both = and_parts (w == v && ballot_lt n m) (key_eq j k) e in
              let first = and_parts (w == v) (ballot_lt n m) both.0 in
              let s : n ≡ b = rw e at g in
              let nf : is_fast n ≡ false = subst (λ z. is_fast z ≡ false) (sym s) classic in
              let test : (w == v && ballot_eq n b && key_eq j k) ≡ true = and_from _ _ (and_from _ _ first.0 ((Decides-ballot n b).1 s)) both.1 in
              some os (marks nf) test
          | inr e ↦ let s : fast_ballot ≡ b = rw e at g in absurd (true≢false (sym ((Decides-ballot b fast_ballot).1 (sym s)) ∙ classic))
        ]
      where
        marks : is_fast n ≡ false → 0 < length os
        marks nf =
            let test = kind cluster es c (Fact.Voted j w n os off) l in
            let q : is_allowed_classic_vote (facts_of es c) j w n os off ≡ true = rw nf at test in
            let p4 = and_parts _ (not (is_some off)) q in
            let p3 = and_parts _ (length (new_marks (facts_of es c) j w n os) == length os) p4.0 in
            let once = and_parts _ (are_apart os) p3.0 in
            let p2 = and_parts _ (nat_lt 0 (length os)) once.0 in ltb-true 0 (length os) p2.1

        some : (xs : Options) → 0 < length xs → (w == v && ballot_eq n b && key_eq j k) ≡ true → (t : TxId) × (x : Mark) × (value_of (votes_of (Fact.Voted j w n xs off ∷ facts_of es a) k v b) t ≡ Some x)
        some [] z q = absurd (omega arith)
        some (y ∷ ys) z q = by_case (value_of (votes_of (facts_of es a) k v b) y.0) refl
          where
            by_case : (o : Option Mark) → value_of (votes_of (facts_of es a) k v b) y.0 ≡ o → (t : TxId) × (x : Mark) × (value_of (votes_of (Fact.Voted j w n (y ∷ ys) off ∷ facts_of es a) k v b) t ≡ Some x)
            by_case (Some u) e = (y.0, u, union-keeps (votes_of (facts_of es a) k v b) (marks_voted k v b (Fact.Voted j w n (y ∷ ys) off)) y.0 u e)
            by_case None e = (y.0, y.1, value_of-union (votes_of (facts_of es a) k v b) (marks_voted k v b (Fact.Voted j w n (y ∷ ys) off)) y.0 ∙ (rw e (rw q (rw (tx-refl y.0) refl))))

    own : (last_ballot (facts_of es a) k v m ≡ b → (t : TxId) × (x : Mark) × (value_of (votes_of (facts_of es a) k v b) t ≡ Some x)) → ballot_max (last_ballot (facts_of es a) k v m) (ballot_voted k v m f) ≡ b → (t : TxId) × (x : Mark) × (value_of (votes_of (f ∷ facts_of es a) k v b) t ≡ Some x)
    own rest g =
        elim (cases_Bool (ballot_lt (last_ballot (facts_of es a) k v m) (ballot_voted k v m f))) [
          | inl e ↦ new f legal (rw e at g)
          | inr e ↦ kept (rest (rw e at g))
        ]

-- ---- the greatest ballot reported

fold-ge : (rs : List Report) (acc b : Ballot) → ballot_lt acc b ≡ false → ballot_lt (fold (λ ballot (r : Report). ballot_max ballot r.ballot) acc rs) b ≡ false
fold-ge [] acc b h = h
fold-ge (r ∷ rs) acc b h = fold-ge rs (ballot_max acc r.ballot) b (max-left acc r.ballot b h)

fold-most : (rs : List Report) (acc : Ballot) (r : Report) → In r rs → ballot_lt (fold (λ ballot (r : Report). ballot_max ballot r.ballot) acc rs) r.ballot ≡ false
fold-most [] acc r i = absurd i
fold-most (q ∷ rs) acc r i =
    elim i [
      | inl s ↦ fold-ge rs (ballot_max acc q.ballot) r.ballot (max-right acc q.ballot r.ballot (subst (λ (z : Report). ballot_lt q.ballot z.ballot ≡ false) (sym s) (lt-irrefl q.ballot)))
      | inr j ↦ fold-most rs (ballot_max acc q.ballot) r j
    ]

pub top-most : (rs : List Report) (r : Report) → In r rs → ballot_lt (ballot_reported rs) r.ballot ≡ false
top-most rs r i = fold-most rs fast_ballot r i

fold-there : (rs : List Report) (acc : Ballot) → (fold (λ ballot (r : Report). ballot_max ballot r.ballot) acc rs ≡ acc) ⊎ ((r : Report) × (In r rs) × (r.ballot ≡ fold (λ ballot (r : Report). ballot_max ballot r.ballot) acc rs))
fold-there [] acc = inl refl
fold-there (r ∷ rs) acc =
    elim (fold-there rs (ballot_max acc r.ballot)) [
      | inl s ↦ elim (cases_Bool (ballot_lt acc r.ballot)) [
        | inl e ↦ let q : ballot_max acc r.ballot ≡ r.ballot = rw e refl in inr (r, inl refl, sym (s ∙ q))
        | inr e ↦ let q : ballot_max acc r.ballot ≡ acc = rw e refl in inl (s ∙ q)
      ]
      | inr g ↦ inr (g.0, inr g.1, g.2)
    ]

pub top-there : (rs : List Report) → (ballot_reported rs ≡ fast_ballot) ⊎ ((r : Report) × (In r rs) × (r.ballot ≡ ballot_reported rs))
top-there rs = fold-there rs fast_ballot

-- ---- the marks reported, where all that have one agree

joined-agree : (t : TxId) (x : Mark) (acc os : Options) → ((y : Mark) → value_of acc t ≡ Some y → y ≡ x) → ((y : Mark) → value_of os t ≡ Some y → y ≡ x) → (y : Mark) → value_of (union acc os) t ≡ Some y → y ≡ x
joined-agree t x acc os agree more y h = pick (value_of acc t) refl (sym (value_of-union acc os t) ∙ h)
  where
    pick : (o : Option Mark) → value_of acc t ≡ o → option_or (value_of acc t) (value_of os t) ≡ Some y → y ≡ x
    pick None e g = more y (let i : value_of os t ≡ Some y = rw e at g in i)
    pick (Some z) e g = agree y (let i : Some z ≡ Some y = rw e at g in e ∙ i)

pub reported-only : (rs : List Report) (t : TxId) (x : Mark) (acc : Options) → ((y : Mark) → value_of acc t ≡ Some y → y ≡ x) → ((r : Report) (y : Mark) → In r rs → value_of r.votes t ≡ Some y → y ≡ x) →
    (y : Mark) → value_of (fold (λ marks (r : Report). union marks r.votes) acc rs) t ≡ Some y → y ≡ x
reported-only [] t x acc agree all y h = agree y h
reported-only (r ∷ rs) t x acc agree all y h = reported-only rs t x (union acc r.votes) (joined-agree t x acc r.votes agree (λ z g. all r z (inl refl) g)) (λ q z i g. all q z (inr i) g) y h

pub reported-one : (rs : List Report) (t : TxId) (x : Mark) (acc : Options) → ((y : Mark) → value_of acc t ≡ Some y → y ≡ x) → ((r : Report) (y : Mark) → In r rs → value_of r.votes t ≡ Some y → y ≡ x) →
    (value_of acc t ≡ Some x) ⊎ ((r : Report) × (In r rs) × (value_of r.votes t ≡ Some x)) → value_of (fold (λ marks (r : Report). union marks r.votes) acc rs) t ≡ Some x
reported-one [] t x acc agree all some = elim some [ inl e ↦ e | inr r ↦ absurd r.1 ]
reported-one (r ∷ rs) t x acc agree all some =
    reported-one rs t x (union acc r.votes) (joined-agree t x acc r.votes agree (λ z g. all r z (inl refl) g)) (λ q y i h. all q y (inr i) h) next
  where
    join : value_of (union acc r.votes) t ≡ option_or (value_of acc t) (value_of r.votes t)
    join = value_of-union acc r.votes t

    here : value_of r.votes t ≡ Some x → value_of (union acc r.votes) t ≡ Some x
    here h = pick (value_of acc t) refl
      where
        pick : (o : Option Mark) → value_of acc t ≡ o → value_of (union acc r.votes) t ≡ Some x
        pick None e = join ∙ (rw e h)
        pick (Some z) e = join ∙ (rw e (ap Some (agree z e)))

    next : (value_of (union acc r.votes) t ≡ Some x) ⊎ ((q : Report) × (In q rs) × (value_of q.votes t ≡ Some x))
    next = elim some [
      | inl e ↦ inl (union-keeps acc r.votes t x e)
      | inr q ↦ elim q.1 [ inl s ↦ inl (here (subst (λ (z : Report). value_of z.votes t ≡ Some x) s q.2)) | inr i ↦ inr (q.0, i, q.2) ]
    ]

-- ---- counting

pub count-both : {A : Type 0} (p q : A → Bool) (xs : List A) → count_where p xs + count_where q xs ≤ length xs + count_where (λ x. p x && q x) xs
count-both p q [] = omega arith
count-both p q (x ∷ xs) = by_case (p x) (q x) (count-both p q xs)
  where
    by_case : (b c : Bool) → count_where p xs + count_where q xs ≤ length xs + count_where (λ x. p x && q x) xs → (cond b 1 0 + count_where p xs) + (cond c 1 0 + count_where q xs) ≤ length (x ∷ xs) + (cond (b && c) 1 0 + count_where (λ x. p x && q x) xs)
    by_case true true h = omega (arith, h)
    by_case true false h = omega (arith, h)
    by_case false true h = omega (arith, h)
    by_case false false h = omega (arith, h)

pub count-not : {A : Type 0} (p : A → Bool) (xs : List A) → count_where p xs + count_where (λ x. not (p x)) xs ≡ length xs
count-not p [] = refl
count-not p (x ∷ xs) = by_case (p x) (count-not p xs)
  where
    by_case : (b : Bool) → count_where p xs + count_where (λ x. not (p x)) xs ≡ length xs → (cond b 1 0 + count_where p xs) + (cond (not b) 1 0 + count_where (λ x. not (p x)) xs) ≡ length (x ∷ xs)
    by_case true h = omega (arith, h)
    by_case false h = omega (arith, h)

pub length-range : (s n : ℕ) → length (range_with_len s n) ≡ n
length-range s zero = refl
length-range s (suc n) = omega (arith, length-range (s + 1) n)

any-not : (a : ℕ) (xs : List ℕ) → list_any (λ b. a == b) xs ≡ false → (b : ℕ) → In b xs → a ≡ b → ⊥
any-not a [] h b i e = i
any-not a (x ∷ xs) h b i e =
    let p = or_parts (a == x) (list_any (λ b. a == b) xs) h in
    elim i [ inl s ↦ eqb-false a x p.0 (e ∙ s) | inr r ↦ any-not a xs p.1 b r e ]

pub place-in : {A : Type 0} (place : A → ℕ) (xs : List A) (x : A) → In x xs → In (place x) (map place xs)
place-in place [] x i = absurd i
place-in place (y ∷ ys) x i = elim i [ inl s ↦ inl (ap place s) | inr r ↦ inr (place-in place ys x r) ]

pub from-place : {A : Type 0} (place : A → ℕ) (xs : List A) (a : ℕ) → In a (map place xs) → (x : A) × (In x xs) × (a ≡ place x)
from-place place [] a i = absurd i
from-place place (x ∷ xs) a i = elim i [ inl s ↦ (x, inl refl, s) | inr r ↦ let q = from-place place xs a r in (q.0, inr q.1, q.2) ]

pub places-differ : {A : Type 0} (p : A → Bool) (place : A → ℕ) (xs : List A) → are_distinct_centres (map place xs) ≡ true → AllDiffer p place xs
places-differ p place [] h = tt
places-differ {A = A} p place (x ∷ xs) h =
    let r = and_parts (not (list_any (λ b. place x == b) (map place xs))) (are_distinct_centres (map place xs)) h in
    (Each-from (λ (y : A). p x ≡ true → p y ≡ true → place x ≡ place y → ⊥) xs (λ y i u w e. any-not (place x) (map place xs) (not-true _ r.0) (place y) (place-in place xs y i) e), places-differ p place xs r.1)
