-- Promises are kept: what a centre reports below a ballot that it promised stays as it is. The answer to a Prepare is good.
use Rattle.std.proofs.Common.{Bool, List, None, Option, Some, [], ap, arith, cond, false, inl, inr, length, max, min, not, refl, subst, sym, true, ℕ, ◌&&◌, ◌++◌, ◌+◌, ◌-◌, ◌==◌, ◌^◌, ◌||◌, ◌∙◌, ◌∷◌, ◌≡◌, ◌≤◌, ◌⊎◌}
use Rattle.std.specs.Prelude.{filter, fold, is_some, nat_le, nat_lt}
use Rattle.std.specs.Option.{option_or}
use Rattle.std.proofs.lemmas.Bool.{and_from, and_parts, cases_Bool, eq-eqb, eqb-true, le-leb, leb-true, lt-ltb, not-true, not_from_false, or_cases, or_left, or_right, true≢false}
use Rattle.mdcc_base.specs.declared.identifiers.Ballot.{Ballot}
use Rattle.mdcc_base.specs.declared.key.Key.{Key}
use Rattle.mdcc_base.specs.Ballot.{ballot_eq, ballot_lt, ballot_max, fast_ballot, is_fast}
use Rattle.mdcc_base.specs.Key.{key_eq}
use Rattle.mdcc_option.specs.declared.choices.Outcome.TheVariants.{Abort, Commit}
use Rattle.mdcc_base.specs.declared.identifiers.TxId.{TxId}
use Rattle.mdcc_option.specs.declared.choices.Mark.{Mark}
use Rattle.mdcc_option.specs.declared.choices.Choice.{Choice}
use Rattle.mdcc_option.specs.declared.cluster.Cluster.{Cluster}
use Rattle.mdcc_option.specs.OneCopy.{next_version}
use Rattle.mdcc_struct.specs.declared.options.Options.{Options}
use Rattle.mdcc_struct.specs.Maps.{union}
use Rattle.mdcc_struct.specs.declared.report.Report.{Report}
use Rattle.mdcc_def_protocol.specs.Marks.{is_write}
use Rattle.mdcc_def_messages.specs.declared.facts.Fact.{Fact}
use Rattle.mdcc_theorem_trace_rules.specs.Laws.{last_report}
use Rattle.mdcc_def_protocol.specs.Facts.{ballot_promised, ballot_voted, current_of, floor_of, is_forgotten, last_ballot, marks_voted, promise_of, promised_through, range_promised, report_of, shown_of, version_from, version_given, votes_of}
use Rattle.mdcc_def_protocol.specs.declared.acceptor.PrepareAnswer.{PrepareAnswer}
use Rattle.mdcc_def_protocol.specs.Acceptor.{new_marks, on_prepare, promise_answer, range_end}
use Rattle.mdcc_def_rules.specs.AcceptorRules.{prepare_step, prepared_step}
use Rattle.mdcc_def_ledger.specs.Ledger.{Added, Entry, Valued, facts_of}
use Rattle.mdcc_def_ledger.specs.AllowedLedgers.{IsAllowed}
use Rattle.mdcc_def_ledger.specs.AllowedFacts.{are_apart}
use Rattle.mdcc_def_ledger.specs.BootTest.{is_allowed_classic_vote, is_allowed_fast_vote}
use Rattle.mdcc_def_protocol.specs.Belongs.{ballot_belongs}
use Rattle.mdcc_def_protocol.specs.Volatile.{Volatile}
use Rattle.mdcc_theorem_trace_states.specs.Words.{IsTail}
use Rattle.mdcc_theorem_trace_states.specs.Invariant.{IsGoodBy}
use Rattle.mdcc_theorem_trace_states.proofs.Tests.{Decides-ballot, Decides-key, may-add}
use Rattle.mdcc_theorem_trace_states.proofs.Lists.{IsTail-more, IsTail-same}
use Rattle.mdcc_theorem_trace_states.proofs.Kept.{ArePlaced-fact, Keeps-more, quiet-fact}
use Rattle.mdcc_theorem_trace_states.proofs.Belonging.{facts-belong, promise-belongs}
use Rattle.mdcc_theorem_trace_rules.proofs.Begins.{sends-good}
use Rattle.mdcc_theorem_trace_states.proofs.Boots.{kind}
use Rattle.mdcc_theorem_trace_rules.proofs.Votings.{fast-parts, mark-parts}
use Rattle.mdcc_theorem_trace_rules.proofs.Order.{fast-below, fast-least, ge-trans, lt-irrefl, max-fast, max-left, max-right}
use Rattle.mdcc_theorem_trace_rules.specs.Closed.{IsClosed}
use Rattle.mdcc_theorem_trace_states.specs.Steps.{IsUp}

-- ---- versions end

within-fold : (k : Key) (n : ℕ) (cs : List Choice) (m : ℕ) → n ≤ m → ((c : Choice) → version_given k c ≤ m) → fold (λ version (c : Choice). max version (version_given k c)) n cs ≤ m
within-fold k n [] m h g = h
within-fold k n (c ∷ cs) m h g = let x = g c in within-fold k (max n (version_given k c)) cs m (omega (arith, h, x)) g

given-within : (k : Key) (m : ℕ) → ((v : ℕ) → next_version v ≤ m) → (c : Choice) → version_given k c ≤ m
given-within k m h c = elim (cases_Bool (is_write c.update && key_eq c.key k)) [ inl e ↦ rw e (h c.version) | inr e ↦ rw e (omega arith) ]

tail-of : (xs ys : List Entry) → IsTail ys (xs ++ ys)
tail-of xs ys = IsTail-more xs ys ys (IsTail-same ys)

current-within-at : (cluster : Cluster) (m : ℕ) → ((v : ℕ) → next_version v ≤ m) → (es old : List Entry) → IsAllowed cluster es → IsTail old es → (a : ℕ) (k : Key) → current_of (facts_of old a) k ≤ m
current-within-at cluster m next [] old legal tail a k = subst (λ z. current_of (facts_of z a) k ≤ m) (sym tail) (omega arith)
current-within-at cluster m next (e ∷ es) old legal tail a k =
    elim tail [
      | inl s ↦ subst (λ z. current_of (facts_of z a) k ≤ m) (sym s) (newest e legal (λ o t b. current-within-at cluster m next es o legal.0 t b k))
      | inr r ↦ current-within-at cluster m next es old legal.0 r a k
    ]
  where
    fact : (c : ℕ) (f : Fact) → IsAllowed cluster (Added c f ∷ es) → ((o : List Entry) → IsTail o es → (b : ℕ) → current_of (facts_of o b) k ≤ m) → version_from k f ≤ m
    fact c (Fact.Booted n) legal h = omega arith
    fact c (Fact.Floor centre era upto) legal h = omega arith
    fact c (Fact.Promised j lo hi b) legal h = omega arith
    fact c (Fact.Voted j v b os off) legal h = omega arith
    fact c (Fact.Heard t Abort) legal h = omega arith
    fact c (Fact.Heard t (Commit cs)) legal h = within-fold k 0 cs m (omega arith) (given-within k m next)
    fact c (Fact.Adopted j v it ds) legal h =
        let held = legal.1.2.3 in
        let w = h legal.1.2.2 (subst (λ z. IsTail legal.1.2.2 z) (sym held.parts) (tail-of legal.1.2.1 legal.1.2.2)) legal.1.2.0 in
        elim (cases_Bool (key_eq j k)) [
          | inl e ↦ rw e (let s : j ≡ k = (Decides-key j k).0 e in
              let c : current_of (facts_of legal.1.2.2 legal.1.2.0) k ≡ v = subst (λ z. current_of (facts_of legal.1.2.2 legal.1.2.0) z ≡ v) s held.current in omega (arith, c, w))
          | inr e ↦ rw e (omega arith)
        ]

    newest : (e : Entry) → IsAllowed cluster (e ∷ es) → ((o : List Entry) → IsTail o es → (b : ℕ) → current_of (facts_of o b) k ≤ m) → current_of (facts_of (e ∷ es) a) k ≤ m
    newest (Entry.Begun c t cs) legal h = h es (IsTail-same es) a
    newest (Valued c j v b os) legal h = h es (IsTail-same es) a
    newest (Added c f) legal h =
        let x = h es (IsTail-same es) a in
        elim (cases_Bool (c == a)) [
          | inl e ↦ rw e (let y = fact c f legal h in omega (arith, x, y))
          | inr e ↦ rw e x
        ]

pub current-within : (cluster : Cluster) (es : List Entry) (a : ℕ) (k : Key) → IsAllowed cluster es → current_of (facts_of es a) k ≤ 2 ^ 64 - 1
current-within cluster es a k legal = current-within-at cluster (2 ^ 64 - 1) (λ v. least (v + 1) (2 ^ 64 - 1)) es es legal (IsTail-same es) a k
  where
    least : (x y : ℕ) → min x y ≤ y
    least x y = omega arith

-- ---- reports

last-below : (fs : List Fact) (k : Key) (v : ℕ) (m : Ballot) → (last_ballot fs k v m ≡ fast_ballot) ⊎ (ballot_lt (last_ballot fs k v m) m ≡ true)
last-below [] k v m = inl refl
last-below (f ∷ fs) k v m =
    elim (cases_Bool (ballot_lt (last_ballot fs k v m) (ballot_voted k v m f))) [
      | inl e ↦ rw e (of-fact f)
      | inr e ↦ rw e (last-below fs k v m)
    ]
  where
    of-fact : (f : Fact) → (ballot_voted k v m f ≡ fast_ballot) ⊎ (ballot_lt (ballot_voted k v m f) m ≡ true)
    of-fact (Fact.Booted n) = inl refl
    of-fact (Fact.Floor centre era upto) = inl refl
    of-fact (Fact.Promised j lo hi b) = inl refl
    of-fact (Fact.Heard t o) = inl refl
    of-fact (Fact.Adopted j w it ds) = inl refl
    of-fact (Fact.Voted j w b os off) =
        elim (cases_Bool (w == v && ballot_lt b m && key_eq j k)) [
          | inl e ↦ rw e (inr (and_parts (w == v) (ballot_lt b m) (and_parts (w == v && ballot_lt b m) (key_eq j k) e).0).1)
          | inr e ↦ rw e (inl refl)
        ]

-- the parts of a classic vote
pub record IsClassicVote (facts : List Fact) (k : Key) (v : ℕ) (b : Ballot) (os : Options) : Type 0 where
  pub promise : ballot_lt b (promise_of facts k v) ≡ false
  pub within : nat_le v (current_of facts k) ≡ true

pub classic-parts : (cluster : Cluster) (es : List Entry) (c : ℕ) (k : Key) (v : ℕ) (b : Ballot) (os : Options) (off : Option Choice) → IsAllowed cluster (Added c (Fact.Voted k v b os off) ∷ es) → is_fast b ≡ false → IsClassicVote (facts_of es c) k v b os
classic-parts cluster es c k v b os off legal classic =
    let test = kind cluster es c (Fact.Voted k v b os off) legal in
    let g : is_allowed_classic_vote (facts_of es c) k v b os off ≡ true = rw classic at test in
    let p4 = and_parts _ (not (is_some off)) g in
    let p3 = and_parts _ (length (new_marks (facts_of es c) k v b os) == length os) p4.0 in
    let once = and_parts _ (are_apart os) p3.0 in
    let p2 = and_parts _ (nat_lt 0 (length os)) once.0 in
    let p1 = and_parts (not (ballot_lt b (promise_of (facts_of es c) k v))) (nat_le v (current_of (facts_of es c) k)) p2.0 in
    record { promise = not-true _ p1.0; within = p1.1 }

-- a vote in an instance where a classic ballot was promised is not below it
pub vote-above : (cluster : Cluster) (es : List Entry) (c : ℕ) (k : Key) (v : ℕ) (b : Ballot) (os : Options) (off : Option Choice) (m : Ballot) → IsAllowed cluster (Added c (Fact.Voted k v b os off) ∷ es) → is_fast m ≡ false →
    ballot_lt (promise_of (facts_of es c) k v) m ≡ false → (is_fast b ≡ false) × (ballot_lt b m ≡ false)
vote-above cluster es c k v b os off m legal classic promised =
    elim (cases_Bool (is_fast b)) [
      | inl e ↦
          let test = kind cluster es c (Fact.Voted k v b os off) legal in
          let g : is_allowed_fast_vote cluster (facts_of es c) k v os off ≡ true = rw e at test in
          let r = fast-parts cluster (facts_of es c) k v os off g in
          let p = mark-parts cluster (facts_of es c) k v r.tx r.mark r.choice r.allowed in
          let s : promise_of (facts_of es c) k v ≡ fast_ballot = (Decides-ballot _ _).0 p.fast in
          let bad : ballot_lt fast_ballot m ≡ false = subst (λ z. ballot_lt z m ≡ false) s promised in
          absurd (true≢false (sym (fast-below m classic) ∙ bad))
      | inr e ↦ (e, ge-trans b (promise_of (facts_of es c) k v) m (classic-parts cluster es c k v b os off legal e).promise promised)
    ]

made-report : Ballot → Options → Report
made-report b os = record { centre = 0; ballot = b; votes = os }

reports : (b : Ballot) (os : Options) (b' : Ballot) (os' : Options) → made-report b os ≡ made-report b' os' → ◌≡◌ {A = Report} (record { centre = 0; ballot = b; votes = os }) (record { centre = 0; ballot = b'; votes = os' })
unfolding made-report
reports b os b' os' h = h

-- no ballot is below the fast one
last-fast : (fs : List Fact) (k : Key) (v : ℕ) (m : Ballot) → is_fast m ≡ true → last_ballot fs k v m ≡ fast_ballot
last-fast fs k v m h =
    elim (last-below fs k v m) [
      | inl e ↦ e
      | inr e ↦ absurd (true≢false (sym (subst (λ z. ballot_lt (last_ballot fs k v m) z ≡ true) ((Decides-ballot m fast_ballot).0 h) e) ∙ fast-least (last_ballot fs k v m)))
    ]

-- one more fact leaves the report below a ballot that was promised
pub fact-report : (cluster : Cluster) (es : List Entry) (c : ℕ) (f : Fact) (k : Key) (v : ℕ) (m : Ballot) → IsAllowed cluster (Added c f ∷ es) → ballot_lt (promise_of (facts_of es c) k v) m ≡ false →
    last_report (f ∷ facts_of es c) k v m ≡ last_report (facts_of es c) k v m
fact-report cluster es c f k v m legal promised =
    elim (cases_Bool (is_fast m)) [
      | inl e ↦
          let l : last_ballot (f ∷ facts_of es c) k v m ≡ last_ballot (facts_of es c) k v m = last-fast (f ∷ facts_of es c) k v m e ∙ sym (last-fast (facts_of es c) k v m e) in
          rw e (reports _ _ _ _ (ap (λ z. made-report z []) l))
      | inr e ↦ by-fact e f legal
    ]
  where
    same : (f : Fact) → ballot_voted k v m f ≡ fast_ballot → marks_voted k v (last_ballot (facts_of es c) k v m) f ≡ [] → last_report (f ∷ facts_of es c) k v m ≡ last_report (facts_of es c) k v m
    same f e g =
        let l : last_ballot (f ∷ facts_of es c) k v m ≡ last_ballot (facts_of es c) k v m = ap (ballot_max (last_ballot (facts_of es c) k v m)) e ∙ max-fast (last_ballot (facts_of es c) k v m) in
        let w : votes_of (f ∷ facts_of es c) k v (last_ballot (facts_of es c) k v m) ≡ votes_of (facts_of es c) k v (last_ballot (facts_of es c) k v m) = ap (union (votes_of (facts_of es c) k v (last_ballot (facts_of es c) k v m))) g in
        let r : made-report (last_ballot (f ∷ facts_of es c) k v m) (cond (is_fast m) [] (votes_of (f ∷ facts_of es c) k v (last_ballot (f ∷ facts_of es c) k v m))) ≡ made-report (last_ballot (facts_of es c) k v m) (cond (is_fast m) [] (votes_of (f ∷ facts_of es c) k v (last_ballot (facts_of es c) k v m))) =
        ap (λ z. made-report z (cond (is_fast m) [] (votes_of (f ∷ facts_of es c) k v z))) l in
        reports _ _ _ _ (r ∙ ap (λ (z : Options). made-report (last_ballot (facts_of es c) k v m) (cond (is_fast m) [] z)) w)

    by-fact : is_fast m ≡ false → (f : Fact) → IsAllowed cluster (Added c f ∷ es) → last_report (f ∷ facts_of es c) k v m ≡ last_report (facts_of es c) k v m
    by-fact classic (Fact.Booted n) legal = same (Fact.Booted n) refl refl
    by-fact classic (Fact.Floor centre era upto) legal = same (Fact.Floor centre era upto) refl refl
    by-fact classic (Fact.Promised j lo hi b) legal = same (Fact.Promised j lo hi b) refl refl
    by-fact classic (Fact.Heard t o) legal = same (Fact.Heard t o) refl refl
    by-fact classic (Fact.Adopted j w it ds) legal = same (Fact.Adopted j w it ds) refl refl
    by-fact classic (Fact.Voted j w b os off) legal =
        elim (cases_Bool (w == v && key_eq j k)) [
          | inl e ↦
              let p = and_parts (w == v) (key_eq j k) e in
              let legal' : IsAllowed cluster (Added c (Fact.Voted j w b os off) ∷ es) = legal in
              let promised' : ballot_lt (promise_of (facts_of es c) j w) m ≡ false =
              subst (λ z. ballot_lt (promise_of (facts_of es c) z w) m ≡ false) (sym ((Decides-key j k).0 p.1)) (subst (λ z. ballot_lt (promise_of (facts_of es c) k z) m ≡ false) (sym (eqb-true w v p.0)) promised) in
              let above = vote-above cluster es c j w b os off m legal classic promised' in
              same (Fact.Voted j w b os off) (voted (w == v) (key_eq j k) above.1) (marked above.0 above.1)
          | inr e ↦ same (Fact.Voted j w b os off) (off-one e (ballot_lt b m) b) (off-two e (ballot_eq b (last_ballot (facts_of es c) k v m)))
        ]
      where
        voted : (x y : Bool) → ballot_lt b m ≡ false → cond (x && ballot_lt b m && y) b fast_ballot ≡ fast_ballot
        voted true y h = rw h refl
        voted false y h = refl

        marked : is_fast b ≡ false → ballot_lt b m ≡ false → cond (w == v && ballot_eq b (last_ballot (facts_of es c) k v m) && key_eq j k) os [] ≡ []
        marked h g =
            elim (cases_Bool (ballot_eq b (last_ballot (facts_of es c) k v m))) [
              | inl e ↦
                  let s : b ≡ last_ballot (facts_of es c) k v m = (Decides-ballot _ _).0 e in
                  elim (last-below (facts_of es c) k v m) [
                    | inl l ↦ absurd (true≢false (sym ((Decides-ballot b fast_ballot).1 (s ∙ l)) ∙ h))
                    | inr l ↦ absurd (true≢false (sym (subst (λ z. ballot_lt z m ≡ true) (sym s) l) ∙ g))
                  ]
              | inr e ↦ rw e (off-all (w == v) (key_eq j k))
            ]
          where
            off-all : (x y : Bool) → cond (x && false && y) os [] ≡ []
            off-all true y = refl
            off-all false y = refl

        off-one : (w == v && key_eq j k) ≡ false → (x : Bool) (b : Ballot) → cond (w == v && x && key_eq j k) b fast_ballot ≡ fast_ballot
        off-one h x b = three (w == v) x (key_eq j k) h
          where
            three : (p q r : Bool) → (p && r) ≡ false → cond (p && q && r) b fast_ballot ≡ fast_ballot
            three true true r h = rw h refl
            three true false r h = refl
            three false q r h = refl

        off-two : (w == v && key_eq j k) ≡ false → (x : Bool) → cond (w == v && x && key_eq j k) os [] ≡ []
        off-two h x = three (w == v) x (key_eq j k) h
          where
            three : (p q r : Bool) → (p && r) ≡ false → cond (p && q && r) os [] ≡ []
            three true true r h = rw h refl
            three true false r h = refl
            three false q r h = refl

-- ---- what is shown

filter-same : {A : Type 0} (p q : A → Bool) (xs : List A) → ((x : A) → p x ≡ q x) → filter p xs ≡ filter q xs
filter-same p q [] h = refl
filter-same p q (x ∷ xs) h =
    elim (cases_Bool (q x)) [
      | inl e ↦ let g : p x ≡ true = h x ∙ e in rw e (rw g (ap (λ z. x ∷ z) (filter-same p q xs h)))
      | inr e ↦ let g : p x ≡ false = h x ∙ e in rw e (rw g (filter-same p q xs h))
    ]

promised-floor : (k : Key) (v high : ℕ) (b : Ballot) (fs : List Fact) (c n : ℕ) → floor_of (Fact.Promised k v high b ∷ fs) c n ≡ floor_of fs c n
promised-floor k v high b fs c n = omega arith

promised-current : (k : Key) (v high : ℕ) (b : Ballot) (fs : List Fact) (j : Key) → current_of (Fact.Promised k v high b ∷ fs) j ≡ current_of fs j
promised-current k v high b fs j = omega arith

shown-same : (f : Fact) (fs : List Fact) (k : Key) (v : ℕ) (b : Ballot) → ((c n : ℕ) → floor_of (f ∷ fs) c n ≡ floor_of fs c n) → current_of (f ∷ fs) k ≡ current_of fs k → votes_of (f ∷ fs) k v b ≡ votes_of fs k v b →
    shown_of (f ∷ fs) k v b ≡ shown_of fs k v b
shown-same f fs k v b floors current votes =
    filter-same (λ (e : TxId × Mark). not (is_forgotten (f ∷ fs) k v e.0)) (λ (e : TxId × Mark). not (is_forgotten fs k v e.0)) (votes_of (f ∷ fs) k v b)
    (λ e. ap (λ z. not ((nat_lt 0 e.0.seq && nat_le e.0.seq z) && nat_lt v (current_of (f ∷ fs) k))) (floors e.0.centre e.0.epoch) ∙ ap (λ z. not ((nat_lt 0 e.0.seq && nat_le e.0.seq (floor_of fs e.0.centre e.0.epoch)) && nat_lt v z)) current) ∙
    ap (λ (z : Options). filter (λ (e : TxId × Mark). not (is_forgotten fs k v e.0)) z) votes

-- ---- promises stay

pub promise-stays : (f : Fact) (fs : List Fact) (k : Key) (v : ℕ) (m : Ballot) → ballot_lt (promise_of fs k v) m ≡ false → ballot_lt (promise_of (f ∷ fs) k v) m ≡ false
promise-stays f fs k v m h = max-left (promise_of fs k v) (ballot_promised k v f) m h

pub report-kept : (cluster : Cluster) (old es : List Entry) (a : ℕ) (k : Key) (v : ℕ) (m : Ballot) → IsAllowed cluster es → IsTail old es → ballot_lt (promise_of (facts_of old a) k v) m ≡ false →
    (last_report (facts_of es a) k v m ≡ last_report (facts_of old a) k v m) × (ballot_lt (promise_of (facts_of es a) k v) m ≡ false)
report-kept cluster old [] a k v m legal tail h = subst (λ z. (last_report (facts_of z a) k v m ≡ last_report (facts_of old a) k v m) × (ballot_lt (promise_of (facts_of z a) k v) m ≡ false)) tail (refl, h)
report-kept cluster old (e ∷ es) a k v m legal tail h =
    elim tail [
      | inl s ↦ subst (λ z. (last_report (facts_of z a) k v m ≡ last_report (facts_of old a) k v m) × (ballot_lt (promise_of (facts_of z a) k v) m ≡ false)) s (refl, h)
      | inr r ↦ next e legal (report-kept cluster old es a k v m legal.0 r h)
    ]
  where
    next : (e : Entry) → IsAllowed cluster (e ∷ es) → (last_report (facts_of es a) k v m ≡ last_report (facts_of old a) k v m) × (ballot_lt (promise_of (facts_of es a) k v) m ≡ false) →
        (last_report (facts_of (e ∷ es) a) k v m ≡ last_report (facts_of old a) k v m) × (ballot_lt (promise_of (facts_of (e ∷ es) a) k v) m ≡ false)
    next (Entry.Begun c t cs) legal g = g
    next (Valued c j w b os) legal g = g
    next (Added c f) legal g =
        elim (cases_Bool (c == a)) [
          | inl e ↦
              let s : c ≡ a = eqb-true c a e in
              let p : ballot_lt (promise_of (facts_of es c) k v) m ≡ false = subst (λ z. ballot_lt (promise_of (facts_of es z) k v) m ≡ false) (sym s) g.1 in
              let r = fact-report cluster es c f k v m legal p in
              let r' : last_report (f ∷ facts_of es a) k v m ≡ last_report (facts_of es a) k v m = subst (λ z. last_report (f ∷ facts_of es z) k v m ≡ last_report (facts_of es z) k v m) s r in
              rw e (r' ∙ g.0, promise-stays f (facts_of es a) k v m g.1)
          | inr e ↦ rw e g
        ]

-- a promise that began at a version holds through its range
pub through-promise : (fs : List Fact) (k : Key) (low high : ℕ) (m : Ballot) (v : ℕ) → promised_through fs k low m ≡ Some high → low ≤ v → v ≤ high → ballot_lt (promise_of fs k v) m ≡ false
through-promise [] k low high m v h x y = absurd (cc)
through-promise (f ∷ fs) k low high m v h x y = by_case (λ g. through-promise fs k low high m v g x y) (promised_through fs k low m) refl h
  where
    new : (f : Fact) → range_promised k low m f ≡ Some high → ballot_lt (ballot_promised k v f) m ≡ false
    new (Fact.Booted n) g = absurd (cc)
    new (Fact.Floor centre era upto) g = absurd (cc)
    new (Fact.Heard t o) g = absurd (cc)
    new (Fact.Adopted j w it ds) g = absurd (cc)
    new (Fact.Voted j w b os off) g = absurd (cc)
    new (Fact.Promised j lo hi b) g =
        elim (cases_Bool (lo == low && ballot_eq b m && key_eq j k)) [
          | inl e ↦
              let both = and_parts (lo == low && ballot_eq b m) (key_eq j k) e in
              let first = and_parts (lo == low) (ballot_eq b m) both.0 in
              let i : Some hi ≡ Some high = rw e at g in
              let ends : hi ≡ high = cc in
              let lows : lo ≡ low = eqb-true lo low first.0 in
              let test : (nat_le lo v && nat_le v hi && key_eq j k) ≡ true = and_from _ _ (and_from _ _ (le-leb lo v (omega (arith, lows, x))) (le-leb v hi (omega (arith, ends, y)))) both.1 in
              rw test (subst (λ z. ballot_lt z m ≡ false) (sym ((Decides-ballot b m).0 first.1)) (lt-irrefl m))
          | inr e ↦ let bad : None ≡ Some high = rw e at g in absurd (cc)
        ]

    by_case : (promised_through fs k low m ≡ Some high → ballot_lt (promise_of fs k v) m ≡ false) → (o : Option ℕ) → promised_through fs k low m ≡ o → option_or o (range_promised k low m f) ≡ Some high → ballot_lt (promise_of (f ∷ fs) k v) m ≡ false
    by_case rest None e g = max-right (promise_of fs k v) (ballot_promised k v f) m (new f g)
    by_case rest (Some n) e g = max-left (promise_of fs k v) (ballot_promised k v f) m (rest (e ∙ g))

-- a range ends at its begin or above
pub through-above : (cluster : Cluster) (es : List Entry) (a : ℕ) (k : Key) (low high : ℕ) (m : Ballot) → IsAllowed cluster es → promised_through (facts_of es a) k low m ≡ Some high → low ≤ high
through-above cluster [] a k low high m legal h = absurd (cc)
through-above cluster (Entry.Begun c t cs ∷ es) a k low high m legal h = through-above cluster es a k low high m legal.0 h
through-above cluster (Valued c j w b os ∷ es) a k low high m legal h = through-above cluster es a k low high m legal.0 h
through-above cluster (Added c f ∷ es) a k low high m legal h =
    elim (cases_Bool (c == a)) [
      | inl e ↦ let g : option_or (promised_through (facts_of es a) k low m) (range_promised k low m f) ≡ Some high = rw e at h in
          by_case (λ i. through-above cluster es a k low high m legal.0 i) (promised_through (facts_of es a) k low m) refl g
      | inr e ↦ through-above cluster es a k low high m legal.0 (rw e at h)
    ]
  where
    new : (f : Fact) → IsAllowed cluster (Added c f ∷ es) → range_promised k low m f ≡ Some high → low ≤ high
    new (Fact.Booted n) l g = absurd (cc)
    new (Fact.Floor centre era upto) l g = absurd (cc)
    new (Fact.Heard t o) l g = absurd (cc)
    new (Fact.Adopted j w it ds) l g = absurd (cc)
    new (Fact.Voted j w b os off) l g = absurd (cc)
    new (Fact.Promised j lo hi b) l g =
        let test = kind cluster es c (Fact.Promised j lo hi b) l in
        let ranged = (and_parts _ ((hi == lo) || (nat_le lo hi && nat_le (current_of (facts_of es c) j) lo)) test).1 in
        elim (cases_Bool (lo == low && ballot_eq b m && key_eq j k)) [
          | inl e ↦
              let both = and_parts (lo == low && ballot_eq b m) (key_eq j k) e in
              let first = and_parts (lo == low) (ballot_eq b m) both.0 in
              let i : Some hi ≡ Some high = rw e at g in
              let ends : hi ≡ high = cc in
              let lows : lo ≡ low = eqb-true lo low first.0 in
              elim (or_cases (hi == lo) (nat_le lo hi && nat_le (current_of (facts_of es c) j) lo) ranged) [
                | inl s ↦ omega (arith, ends, lows, eqb-true hi lo s)
                | inr s ↦ omega (arith, ends, lows, leb-true lo hi (and_parts (nat_le lo hi) (nat_le (current_of (facts_of es c) j) lo) s).0)
              ]
          | inr e ↦ let bad : None ≡ Some high = rw e at g in absurd (cc)
        ]

    by_case : (promised_through (facts_of es a) k low m ≡ Some high → low ≤ high) → (o : Option ℕ) → promised_through (facts_of es a) k low m ≡ o → option_or o (range_promised k low m f) ≡ Some high → low ≤ high
    by_case rest None e g = new f legal g
    by_case rest (Some n) e g = rest (e ∙ g)

-- ---- the rule

module _ (also : List Entry → Type 0) (shut : IsClosed also) (cluster : Cluster) (es : List Entry) (a : ℕ) (volatile : Volatile) (up : IsUp also cluster es a volatile) (l : ℕ) (k : Key) (v w : ℕ) (b : Ballot)
    (classic : is_fast b ≡ false) (range : v ≤ w) (belongs : ballot_belongs cluster b ≡ true) where
  abbrev pub GoodPrepared : PrepareAnswer → Type 0
  GoodPrepared answer = IsGoodBy cluster also es a (prepared_step a (facts_of es a) volatile l k v b answer) (prepared_step a (facts_of es a) volatile l k v b answer).fact

  fact-of : ℕ → Fact
  fact-of high = Fact.Promised k v high b

  promise-legal : (high : ℕ) → ballot_lt b (promise_of (facts_of es a) k v) ≡ false → promised_through (facts_of es a) k v b ≡ None → ((high == v) || (nat_le v high && nat_le (current_of (facts_of es a) k) v)) ≡ true →
      IsAllowed cluster (Added a (Fact.Promised k v high b) ∷ es)
  promise-legal high above none ranged = (
    up.legal,
    (
      up.centre,
      may-add cluster (facts_of es a) (Fact.Promised k v high b)
          (and_from _ _ (and_from _ _ belongs (lt-ltb 0 _ up.booted))
          (and_from _ _ (and_from _ _ (and_from _ _ (not_from_false (is_fast b) classic) (not_from_false (ballot_lt b (promise_of (facts_of es a) k v)) above)) (rw none refl)) ranged)),
      tt,
    ),
  )

  promised-good : (high : ℕ) → ballot_lt b (promise_of (facts_of es a) k v) ≡ false → promised_through (facts_of es a) k v b ≡ None → ((high == v) || (nat_le v high && nat_le (current_of (facts_of es a) k) v)) ≡ true → GoodPrepared (PrepareAnswer.Promise high)
  promised-good high above none ranged =
      let legal = promise-legal high above none ranged in (
        refl,
        record {
          own = (refl, tt);
          legal = legal;
          placed = ArePlaced-fact cluster a (Fact.Promised k v high b) es legal up.placed (λ j u m t x g. absurd (cc));
          more = shut.more cluster (Added a (Fact.Promised k v high b)) es legal tt up.more;
          stand = (record { from = up.centre; old = Added a (Fact.Promised k v high b) ∷ es; tail = inl refl; says = says legal }, tt);
          keeps = Keeps-more cluster (Added a (Fact.Promised k v high b)) es a volatile legal (quiet-fact a a (Fact.Promised k v high b) es refl) up.keeps;
        },
      )
    where
      says : IsAllowed cluster (Added a (Fact.Promised k v high b) ∷ es) →
          (promised_through (facts_of (Added a (Fact.Promised k v high b) ∷ es) a) k v b ≡ Some high) × (v ≤ high)
          × (report_of 0 (facts_of (Added a (Fact.Promised k v high b) ∷ es) a) k v b ≡ record { centre = 0; ballot = (report_of 0 (facts_of es a) k v b).ballot; votes = (report_of 0 (facts_of es a) k v b).votes })
          × (is_fast b ≡ false)
      says legal =
          let test : (v == v && ballot_eq b b && key_eq k k) ≡ true = and_from _ _ (and_from _ _ (eq-eqb v v refl) ((Decides-ballot b b).1 refl)) ((Decides-key k k).1 refl) in
          rw (eq-eqb a a refl) (rw none (rw test refl), ends, same-report, classic)
        where
          ends : v ≤ high
          ends = elim (or_cases (high == v) (nat_le v high && nat_le (current_of (facts_of es a) k) v) ranged) [
            | inl s ↦ omega (arith, eqb-true high v s)
            | inr s ↦ leb-true v high (and_parts (nat_le v high) (nat_le (current_of (facts_of es a) k) v) s).0
          ]

          same-report : report_of 0 (Fact.Promised k v high b ∷ facts_of es a) k v b ≡ report_of 0 (facts_of es a) k v b
          same-report =
              ap (λ z. made (Fact.Promised k v high b ∷ facts_of es a) z) (max-fast (last_ballot (facts_of es a) k v b)) ∙
              ap (λ (z : Options). told (cond (is_fast b) [] z)) (shown-same (Fact.Promised k v high b) (facts_of es a) k v (last_ballot (facts_of es a) k v b) (λ c n. promised-floor k v high b (facts_of es a) c n) (promised-current k v high b (facts_of es a) k) refl)
            where
              told : Options → Report
              told os = record { centre = 0; ballot = last_ballot (facts_of es a) k v b; votes = os }

              made : List Fact → Ballot → Report
              made fs z = record { centre = 0; ballot = z; votes = cond (is_fast b) [] (shown_of fs k v z) }

  pub prepare-good : IsGoodBy cluster also es a (prepare_step a (facts_of es a) volatile l k v w b) (prepare_step a (facts_of es a) volatile l k v w b).fact
  prepare-good =
      elim (cases_Bool (ballot_lt b (promise_of (facts_of es a) k v))) [
        | inl e ↦ subst GoodPrepared (sym (refused e)) (sends-good also cluster es a volatile volatile _ up up.keeps (record { from = up.centre; old = es; tail = IsTail-same es; says = (belongs, promise-belongs cluster (facts_of es a) k v (facts-belong cluster es a up.legal)) }, tt))
        | inr e ↦ subst GoodPrepared (sym (answered e)) (by_case e (promised_through (facts_of es a) k v b) refl)
      ]
    where
      refused : ballot_lt b (promise_of (facts_of es a) k v) ≡ true → on_prepare (facts_of es a) k v w b ≡ PrepareAnswer.Refused (promise_of (facts_of es a) k v)
      refused e = rw e refl

      answered : ballot_lt b (promise_of (facts_of es a) k v) ≡ false → on_prepare (facts_of es a) k v w b ≡ promise_answer (promised_through (facts_of es a) k v b) (range_end (facts_of es a) k v w)
      answered e = rw e refl

      ranged : ((range_end (facts_of es a) k v w == v) || (nat_le v (range_end (facts_of es a) k v w) && nat_le (current_of (facts_of es a) k) v)) ≡ true
      ranged =
          elim (cases_Bool (nat_le (current_of (facts_of es a) k) v)) [
            | inl e ↦ rw e (or_right (w == v) _ (and_from (nat_le v w) true (le-leb v w range) refl))
            | inr e ↦ rw e (or_left (v == v) _ (eq-eqb v v refl))
          ]

      by_case : ballot_lt b (promise_of (facts_of es a) k v) ≡ false → (o : Option ℕ) → promised_through (facts_of es a) k v b ≡ o → GoodPrepared (promise_answer o (range_end (facts_of es a) k v w))
      by_case e (Some high) f = sends-good also cluster es a volatile volatile _ up up.keeps (record { from = up.centre; old = es; tail = IsTail-same es; says = (f, through-above cluster es a k v high b up.legal f, refl, classic) }, tt)
      by_case e None f = promised-good (range_end (facts_of es a) k v w) e f ranged
