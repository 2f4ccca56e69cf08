-- Leading a claim, and a Refused: good steps.
use Rattle.std.proofs.Common.{Bool, List, None, Option, Some, [], ap, arith, cond, false, inl, inr, length, refl, subst, sym, true, ℕ, ◌&&◌, ◌+◌, ◌<◌, ◌==◌, ◌||◌, ◌∙◌, ◌∷◌, ◌≡◌, ◌≤◌}
use Rattle.std.specs.Prelude.{fold, is_some, map, nat_le}
use Rattle.std.specs.Option.{option_or}
use Rattle.std.proofs.lemmas.Bool.{and_from, and_parts, cases_Bool, eqb-false, eqb-true, le-leb, leb-true, ne_eqb, or_cases, or_right, true≢false}
use Rattle.mdcc_base.specs.declared.identifiers.Ballot.{Ballot}
use Rattle.mdcc_base.specs.declared.key.Key.{Key}
use Rattle.mdcc_base.specs.Sizes.{Sizes}
use Rattle.mdcc_base.specs.declared.identifiers.TxId.{TxId}
use Rattle.mdcc_base.specs.Ballot.{ballot_eq, ballot_lt, ballot_max, fast_ballot, is_fast}
use Rattle.mdcc_base.specs.Key.{key_eq}
use Rattle.mdcc_base.specs.TxId.{tx_lt}
use Rattle.mdcc_option.specs.declared.choices.Choice.{Choice}
use Rattle.mdcc_option.specs.declared.cluster.Cluster.{Cluster}
use Rattle.mdcc_struct.specs.declared.options.Options.{Options}
use Rattle.mdcc_struct.specs.Maps.{TxMap, inserted, union, value_of}
use Rattle.mdcc_struct.specs.declared.report.Report.{Report}
use Rattle.mdcc_struct.specs.Forced.{ballot_reported, forced_of, marks_reported}
use Rattle.mdcc_def_messages.specs.declared.facts.Fact.{Fact}
use Rattle.mdcc_def_protocol.specs.Facts.{ballot_voted, current_of, is_settled, last_ballot, marks_voted, promise_of, promised_through, range_promised, report_of, votes_of, without_forgotten}
use Rattle.mdcc_def_protocol.specs.Fit.{parts_of}
use Rattle.mdcc_def_protocol.specs.Structures.{choices_reported, first_structure, fit_together, is_enough, is_left_out, mark_of_choice, with_claim}
use Rattle.mdcc_def_ledger.specs.Ledger.{Added, Entry, Valued, facts_of}
use Rattle.mdcc_def_ledger.specs.AllowedLedgers.{IsAllowed}
use Rattle.mdcc_def_ledger.specs.AllowedStructures.{IsReport, centres_of}
use Rattle.mdcc_theorem_trace_rules.specs.Laws.{last_report}
use Rattle.mdcc_theorem_trace_rules.proofs.Syncs.{later}
use Rattle.std.specs.List.{AllByRecursion}
use Rattle.mdcc_theorem_trace.proofs.Leading.{through-any}
use Rattle.mdcc_def_ledger.specs.BootTest.{is_allowed_fast_vote}
use Rattle.mdcc_def_protocol.specs.Volatile.{CountedPromise, structure_found, with_structure}
use Rattle.mdcc_theorem_trace_states.specs.Words.{Each}
use Rattle.mdcc_theorem_trace_states.specs.VolatileInvariant.{IsPromise}
use Rattle.mdcc_theorem_trace_states.proofs.Tests.{Decides-key}
use Rattle.mdcc_theorem_trace_states.proofs.Boots.{kind}
use Rattle.mdcc_theorem_trace_states.proofs.Ledgers.{Allowed-tail}
use Rattle.mdcc_theorem_trace_states.proofs.Led.{current-grows}
use Rattle.mdcc_theorem_trace_rules.proofs.Order.{max-fast}
use Rattle.mdcc_theorem_trace_rules.proofs.Promises.{classic-parts, fact-report, through-promise}
use Rattle.mdcc_theorem_trace_rules.proofs.Votings.{fast-parts, mark-parts}

-- ---- above what it holds a centre has no votes

vote-within : (cluster : Cluster) (es : List Entry) (c : ℕ) (k : Key) (v : ℕ) (b : Ballot) (os : Options) (off : Option Choice) → IsAllowed cluster (Added c (Fact.Voted k v b os off) ∷ es) → v ≤ current_of (facts_of es c) k
vote-within cluster es c k v b os off legal =
    elim (cases_Bool (is_fast b)) [
      | inl e ↦
          let test = kind cluster es c (Fact.Voted k v b os off) legal in
          let g : is_allowed_fast_vote cluster (facts_of es c) k v os off ≡ true = rw e at test in
          let r = fast-parts cluster (facts_of es c) k v os off g in
          leb-true _ _ (mark-parts cluster (facts_of es c) k v r.tx r.mark r.choice r.allowed).within
      | inr e ↦ leb-true _ _ (classic-parts cluster es c k v b os off legal e).within
    ]

pub record HasNoVotes (fs : List Fact) (k : Key) (v : ℕ) (m : Ballot) : Type 0 where
  pub last : last_ballot fs k v m ≡ fast_ballot
  pub votes : (b : Ballot) → votes_of fs k v b ≡ []

no-votes : (cluster : Cluster) (es : List Entry) (a : ℕ) (k : Key) (v : ℕ) (m : Ballot) → IsAllowed cluster es → current_of (facts_of es a) k < v → HasNoVotes (facts_of es a) k v m
no-votes cluster [] a k v m legal h = record { last = refl; votes = λ b. refl }
no-votes cluster (Entry.Begun c t cs ∷ es) a k v m legal h = no-votes cluster es a k v m legal.0 h
no-votes cluster (Valued c j w b os ∷ es) a k v m legal h = no-votes cluster es a k v m legal.0 h
no-votes cluster (Added c f ∷ es) a k v m legal h =
    let less : current_of (facts_of es a) k < v = omega (arith, h, current-grows (Added c f) es a k) in
    let rest = no-votes cluster es a k v m legal.0 less in
    elim (cases_Bool (c == a)) [ inl e ↦ rw e (here f legal (eqb-true c a e) less rest) | inr e ↦ rw e rest ]
  where
    quiet : (f : Fact) → ballot_voted k v m f ≡ fast_ballot → ((b : Ballot) → marks_voted k v b f ≡ []) → HasNoVotes (facts_of es a) k v m → HasNoVotes (f ∷ facts_of es a) k v m
    quiet f x y r = record {
      last = ap (λ z. ballot_max z (ballot_voted k v m f)) r.last ∙ (ap (λ z. ballot_max fast_ballot z) x ∙ refl);
      votes = λ b. ap (λ (z : Options). union z (marks_voted k v b f)) (r.votes b) ∙ ap (λ (z : Options). union [] z) (y b);
    }

    here : (f : Fact) → IsAllowed cluster (Added c f ∷ es) → c ≡ a → current_of (facts_of es a) k < v → HasNoVotes (facts_of es a) k v m → HasNoVotes (f ∷ facts_of es a) k v m
    here (Fact.Booted n) l s less r = quiet (Fact.Booted n) refl (λ b. refl) r
    here (Fact.Promised j lo hi b) l s less r = quiet (Fact.Promised j lo hi b) refl (λ b. refl) r
    here (Fact.Heard t o) l s less r = quiet (Fact.Heard t o) refl (λ b. refl) r
    here (Fact.Floor origin era upto) l s less r = quiet (Fact.Floor origin era upto) refl (λ b. refl) r
    here (Fact.Adopted j w it ds) l s less r = quiet (Fact.Adopted j w it ds) refl (λ b. refl) r
    here (Fact.Voted j w n os off) l s less r =
        let within = vote-within cluster es c j w n os off l in
        quiet (Fact.Voted j w n os off) (one (w == v) (key_eq j k) refl refl within) (λ b. two b (w == v) (key_eq j k) refl refl within) r
      where
        bad : (w == v) ≡ true → key_eq j k ≡ true → w ≤ current_of (facts_of es c) j → ⊥
        bad x y within =
            let p : w ≤ current_of (facts_of es a) k = subst (λ z. w ≤ current_of (facts_of es z) k) s (subst (λ z. w ≤ current_of (facts_of es c) z) ((Decides-key j k).0 y) within) in
            let q : w ≡ v = eqb-true w v x in omega (arith, p, q, less)

        one : (x y : Bool) → (w == v) ≡ x → key_eq j k ≡ y → w ≤ current_of (facts_of es c) j → cond (x && ballot_lt n m && y) n fast_ballot ≡ fast_ballot
        one true true p q i = absurd (bad p q i)
        one true false p q i = off-last (ballot_lt n m)
          where
            off-last : (z : Bool) → cond (z && false) n fast_ballot ≡ fast_ballot
            off-last true = refl
            off-last false = refl
        one false y p q i = refl

        two : (b : Ballot) (x y : Bool) → (w == v) ≡ x → key_eq j k ≡ y → w ≤ current_of (facts_of es c) j → cond (x && ballot_eq n b && y) os [] ≡ []
        two b true true p q i = absurd (bad p q i)
        two b true false p q i = off-last (ballot_eq n b)
          where
            off-last : (z : Bool) → cond (z && false) os [] ≡ []
            off-last true = refl
            off-last false = refl
        two b false y p q i = refl

none-either : (b : Bool) (os : Options) → os ≡ [] → cond b [] os ≡ []
none-either true os h = refl
none-either false os h = h

abbrev pub IsEmptyReport : Report → Type 0
IsEmptyReport r = (r.ballot ≡ fast_ballot) × (r.votes ≡ [])

-- a promise on a range was made by a centre that had no votes above its begin
empty-last : (cluster : Cluster) (es : List Entry) (a : ℕ) (k : Key) (low high v : ℕ) (m : Ballot) → IsAllowed cluster es → promised_through (facts_of es a) k low m ≡ Some high → low < v → v ≤ high → IsEmptyReport (last_report (facts_of es a) k v m)
empty-last cluster [] a k low high v m legal h x y = absurd (cc)
empty-last cluster (Entry.Begun c t cs ∷ es) a k low high v m legal h x y = empty-last cluster es a k low high v m legal.0 h x y
empty-last cluster (Valued c j w b os ∷ es) a k low high v m legal h x y = empty-last cluster es a k low high v m legal.0 h x y
empty-last cluster (Added c f ∷ es) a k low high v m legal h x y =
    elim (cases_Bool (c == a)) [
      | inl e ↦ let g : option_or (promised_through (facts_of es a) k low m) (range_promised k low m f) ≡ Some high = rw e at h in
          rw e (by_case (eqb-true c a e) (λ i. empty-last cluster es a k low high v m legal.0 i x y) (promised_through (facts_of es a) k low m) refl g)
      | inr e ↦ rw e (empty-last cluster es a k low high v m legal.0 (rw e at h) x y)
    ]
  where
    new : (f : Fact) → IsAllowed cluster (Added c f ∷ es) → c ≡ a → range_promised k low m f ≡ Some high → IsEmptyReport (last_report (f ∷ facts_of es a) k v m)
    new (Fact.Booted n) l s g = absurd (cc)
    new (Fact.Heard t o) l s g = absurd (cc)
    new (Fact.Floor origin era upto) l s g = absurd (cc)
    new (Fact.Adopted j w it ds) l s g = absurd (cc)
    new (Fact.Voted j w b os off) l s g = absurd (cc)
    new (Fact.Promised j lo hi b) l s g =
        let test = kind cluster es c (Fact.Promised j lo hi b) l in
        let ranged = (and_parts _ ((hi == lo) || (nat_le lo hi && nat_le (current_of (facts_of es c) j) lo)) test).1 in
        elim (cases_Bool (lo == low && ballot_eq b m && key_eq j k)) [
          | inl e ↦
              let both = and_parts (lo == low && ballot_eq b m) (key_eq j k) e in
              let first = and_parts (lo == low) (ballot_eq b m) both.0 in
              let i : Some hi ≡ Some high = rw e at g in
              let ends : hi ≡ high = cc in
              let lows : lo ≡ low = eqb-true lo low first.0 in
              elim (or_cases (hi == lo) (nat_le lo hi && nat_le (current_of (facts_of es c) j) lo) ranged) [
                | inl q ↦ absurd (omega (arith, ends, lows, eqb-true hi lo q, x, y))
                | inr q ↦
                    let w : current_of (facts_of es c) j ≤ lo = leb-true _ _ (and_parts (nat_le lo hi) (nat_le (current_of (facts_of es c) j) lo) q).1 in
                    let u : current_of (facts_of es a) k ≤ lo = subst (λ z. current_of (facts_of es z) k ≤ lo) s (subst (λ z. current_of (facts_of es c) z ≤ lo) ((Decides-key j k).0 both.1) w) in
                    let r = no-votes cluster es a k v m l.0 (omega (arith, u, lows, x)) in
                    let last : last_ballot (Fact.Promised j lo hi b ∷ facts_of es a) k v m ≡ fast_ballot = max-fast (last_ballot (facts_of es a) k v m) ∙ r.last in
                    (last, none-either (is_fast m) _ (r.votes (last_ballot (Fact.Promised j lo hi b ∷ facts_of es a) k v m)))
              ]
          | inr e ↦ let bad : None ≡ Some high = rw e at g in absurd (cc)
        ]

    by_case : c ≡ a → (promised_through (facts_of es a) k low m ≡ Some high → IsEmptyReport (last_report (facts_of es a) k v m)) → (o : Option ℕ) → promised_through (facts_of es a) k low m ≡ o → option_or o (range_promised k low m f) ≡ Some high →
        IsEmptyReport (last_report (f ∷ facts_of es a) k v m)
    by_case s rest None e g = new f legal s g
    by_case s rest (Some n) e g =
        let i : promised_through (facts_of es a) k low m ≡ Some high = e ∙ g in
        let p = through-promise (facts_of es a) k low high m v i (omega (arith, x)) y in
        let r = fact-report cluster es c f k v m legal (subst (λ z. ballot_lt (promise_of (facts_of es z) k v) m ≡ false) (sym s) p) in
        let r' : last_report (f ∷ facts_of es a) k v m ≡ last_report (facts_of es a) k v m = subst (λ z. last_report (f ∷ facts_of es z) k v m ≡ last_report (facts_of es z) k v m) s r in
        subst IsEmptyReport (sym r') (rest i)

-- so it reports nothing there
empty-report : (cluster : Cluster) (es : List Entry) (a : ℕ) (k : Key) (low high v : ℕ) (m : Ballot) → IsAllowed cluster es → promised_through (facts_of es a) k low m ≡ Some high → low < v → v ≤ high → IsEmptyReport (report_of a (facts_of es a) k v m)
empty-report cluster es a k low high v m legal h x y =
    let last = empty-last cluster es a k low high v m legal h x y in
    (last.0, by_case (is_fast m) (votes_of (facts_of es a) k v (last_ballot (facts_of es a) k v m)) last.1)
  where
    by_case : (b : Bool) (os : Options) → cond b [] os ≡ [] → cond b [] (without_forgotten (facts_of es a) k v os) ≡ []
    by_case true os g = refl
    by_case false os g = ap (λ (z : Options). without_forgotten (facts_of es a) k v z) g

-- the reports of counted promises in an instance, as they were when the promises were made
pub reports-then : (cluster : Cluster) (es : List Entry) (k : Key) (low v : ℕ) (m : Ballot) (ps : List CountedPromise) → Each (IsPromise cluster es k low m) ps → List Report
reports-then cluster es k low v m [] h = []
reports-then cluster es k low v m (p ∷ ps) h = report_of p.from (facts_of h.0.old p.from) k v m ∷ reports-then cluster es k low v m ps h.1

pub centres-then : (cluster : Cluster) (es : List Entry) (k : Key) (low v : ℕ) (m : Ballot) (ps : List CountedPromise) (h : Each (IsPromise cluster es k low m) ps) → map (λ (p : CountedPromise). p.from) ps ≡ centres_of (reports-then cluster es k low v m ps h)
unfolding reports-then
centres-then cluster es k low v m [] h = refl
centres-then cluster es k low v m (p ∷ ps) h = ap (λ z. p.from ∷ z) (centres-then cluster es k low v m ps h.1)

pub length-then : (cluster : Cluster) (es : List Entry) (k : Key) (low v : ℕ) (m : Ballot) (ps : List CountedPromise) (h : Each (IsPromise cluster es k low m) ps) → length (reports-then cluster es k low v m ps h) ≡ length ps
unfolding reports-then
length-then cluster es k low v m [] h = refl
length-then cluster es k low v m (p ∷ ps) h = omega (arith, length-then cluster es k low v m ps h.1)

pub are-reports : (cluster : Cluster) (es : List Entry) (k : Key) (low v : ℕ) (m : Ballot) (ps : List CountedPromise) (h : Each (IsPromise cluster es k low m) ps) → Each (λ (p : CountedPromise). (low ≤ v) × (v ≤ p.through)) ps → AllByRecursion (IsReport es k v m) (reports-then cluster es k low v m ps h)
unfolding reports-then
are-reports cluster es k low v m [] h g = tt
are-reports cluster es k low v m (p ∷ ps) h g =
    let l = later h.0.old es h.0.tail in
    ((l.0, h.0.old, record { parts = l.1; promised = through-any (facts_of h.0.old p.from) k low p.through m v h.0.promised g.0.0 g.0.1; same = refl }), are-reports cluster es k low v m ps h.1 g.1)

pub reports-empty : (cluster : Cluster) (es : List Entry) (k : Key) (low v : ℕ) (m : Ballot) (ps : List CountedPromise) → IsAllowed cluster es → low < v → (h : Each (IsPromise cluster es k low m) ps) → Each (λ (p : CountedPromise). (low ≤ v) × (v ≤ p.through)) ps →
    Each IsEmptyReport (reports-then cluster es k low v m ps h)
unfolding reports-then
reports-empty cluster es k low v m [] legal x h g = tt
reports-empty cluster es k low v m (p ∷ ps) legal x h g =
    (empty-report cluster h.0.old p.from k low p.through v m (Allowed-tail cluster h.0.old es h.0.tail legal) h.0.promised x g.0.1, reports-empty cluster es k low v m ps legal x h.1 g.1)

-- ---- the first structure of nothing but a claim

empty-ballot : (rs : List Report) → Each IsEmptyReport rs → ballot_reported rs ≡ fast_ballot
empty-ballot [] h = refl
empty-ballot (r ∷ rs) h = ap (λ z. fold (λ ballot (report : Report). ballot_max ballot report.ballot) (ballot_max fast_ballot z) rs) h.0.0 ∙ empty-ballot rs h.1

empty-marks : (rs : List Report) → Each IsEmptyReport rs → marks_reported rs ≡ []
empty-marks [] h = refl
empty-marks (r ∷ rs) h = ap (λ (z : Options). fold (λ marks (report : Report). union marks report.votes) (union [] z) rs) h.0.1 ∙ empty-marks rs h.1

empty-choices : (rs : List Report) → Each IsEmptyReport rs → choices_reported rs ≡ []
empty-choices [] h = refl
empty-choices (r ∷ rs) h = rw h.0.1 (empty-choices rs h.1)

empty-forced : (q : Sizes) (rs : List Report) → Each IsEmptyReport rs → forced_of q rs ≡ []
empty-forced q rs h = rw (empty-ballot rs h) (rw (empty-marks rs h) refl)

pub empty-first : (cluster : Cluster) (facts : List Fact) (k : Key) (v : ℕ) (e : TxId × Option Choice) (rs : List Report) → Each IsEmptyReport rs → with_claim cluster facts k v [] e ≡ first_structure cluster facts k v (e ∷ []) rs
empty-first cluster facts k v e rs h = rw (empty-forced cluster.quorums rs h) (rw (empty-choices rs h) refl)

-- where nothing is forced, a classic quorum is enough
pub empty-enough : (cluster : Cluster) (facts : List Fact) (k : Key) (v : ℕ) (rs : List Report) → cluster.quorums.classic ≤ length rs → Each IsEmptyReport rs → is_enough cluster facts k v rs ≡ true
empty-enough cluster facts k v rs many h =
    or_right (nat_le (parts_of cluster.limit cluster.quorums) (length rs)) _
    (and_from (nat_le cluster.quorums.classic (length rs)) (fit_together cluster facts k v (forced_of cluster.quorums rs)) (le-leb _ _ many)
    (subst (λ (z : Options). fit_together cluster facts k v z ≡ true) (sym (empty-forced cluster.quorums rs h)) refl))

-- ---- structures by version

pub found-with : (s : List (ℕ × Options)) (w : ℕ) (os : Options) (v : ℕ) → structure_found (with_structure s w os) v ≡ cond (w == v) (Some os) (structure_found s v)
found-with [] w os v = refl
found-with (e ∷ es) w os v =
    elim (cases_Bool (e.0 == w)) [
      | inl g ↦ rw g (elim (cases_Bool (w == v)) [
        | inl f ↦ rw f refl
        | inr f ↦ let n : (e.0 == v) ≡ false = subst (λ z. (z == v) ≡ false) (sym (eqb-true e.0 w g)) f in rw f (rw n refl)
      ])
      | inr g ↦ rw g (elim (cases_Bool (e.0 == v)) [
        | inl f ↦ let s : e.0 ≡ v = eqb-true e.0 v f in
            let n : (w == v) ≡ false = ne_eqb w v (λ q. eqb-false e.0 w g (s ∙ sym q)) in rw f (rw n refl)
        | inr f ↦ rw f (found-with es w os v)
      ])
    ]

length-inserted : {X : Type 0} (m : TxMap X) (e : TxId × X) → length (inserted m e) ≡ length m + 1
length-inserted [] e = refl
length-inserted (x ∷ xs) e = elim (cases_Bool (tx_lt x.0 e.0)) [ inl l ↦ rw l (omega (arith, length-inserted xs e)) | inr l ↦ rw l (omega arith) ]

pub one-more : (cluster : Cluster) (facts : List Fact) (k : Key) (v : ℕ) (os : Options) (e : TxId × Option Choice) → is_some (value_of os e.0) ≡ false → is_some (value_of (with_claim cluster facts k v os e) e.0) ≡ true → length (with_claim cluster facts k v os e) ≡ length os + 1
one-more cluster facts k v os e h g =
    elim (cases_Bool (is_settled facts e.0)) [
      | inl q ↦ let same : with_claim cluster facts k v os e ≡ os = rw h (rw q refl) in absurd (true≢false (sym g ∙ (ap (λ z. is_some (value_of z e.0)) same ∙ h)))
      | inr q ↦ elim (cases_Bool (is_left_out os (mark_of_choice cluster facts k v os e.1))) [
        | inl f ↦ let same : with_claim cluster facts k v os e ≡ os = rw h (rw q (rw f refl)) in absurd (true≢false (sym g ∙ (ap (λ z. is_some (value_of z e.0)) same ∙ h)))
        | inr f ↦ rw h (rw q (rw f (length-inserted os (e.0, mark_of_choice cluster facts k v os e.1))))
      ]
    ]
