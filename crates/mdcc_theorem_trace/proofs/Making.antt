-- A structure that a leader makes holds only sound marks.
use Rattle.std.proofs.Common.{Bool, List, None, Option, Some, [], ap, arith, cond, false, inl, inr, length, not, refl, subst, sym, true, ℕ, ◌&&◌, ◌==◌, ◌∙◌, ◌∷◌, ◌≡◌, arith}
use Rattle.std.specs.Prelude.{filter, filter_map, find, fold, is_some, map, nat_le, option_map}
use Rattle.std.specs.Option.{option_or}
use Rattle.std.specs.List.{AllByRecursion, cons_option, list_any}
use Rattle.std.proofs.lemmas.Bool.{and_from, cases_Bool, eq-eqb, or_left, or_right}
use Rattle.mdcc_base.specs.declared.identifiers.Ballot.{Ballot}
use Rattle.mdcc_base.specs.declared.key.Key.{Key}
use Rattle.mdcc_base.specs.Sizes.{Sizes}
use Rattle.mdcc_base.specs.declared.identifiers.TxId.{TxId}
use Rattle.mdcc_base.specs.Ballot.{ballot_eq, is_fast}
use Rattle.mdcc_base.specs.Quorums.{threshold}
use Rattle.mdcc_base.specs.TxId.{tx_eq, tx_lt}
use Rattle.mdcc_option.specs.declared.choices.Mark.TheVariants.{Accept, Reject}
use Rattle.mdcc_option.specs.declared.choices.Choice.{Choice}
use Rattle.mdcc_option.specs.declared.cluster.Cluster.{Cluster}
use Rattle.mdcc_option.specs.declared.choices.Mark.{Mark}
use Rattle.mdcc_struct.specs.declared.options.Options.{Options}
use Rattle.mdcc_struct.specs.Maps.{TxMap, inserted, union, value_of}
use Rattle.mdcc_struct.specs.declared.report.Report.{Report}
use Rattle.mdcc_struct.specs.Forced.{ballot_reported, forced_of, marks_reported, reports_with}
use Rattle.mdcc_def_protocol.specs.Marks.{choice_in}
use Rattle.mdcc_def_messages.specs.declared.facts.Fact.{Fact}
use Rattle.mdcc_def_protocol.specs.Facts.{is_forgotten, is_settled, last_ballot, marks_voted, report_of, shown_of, votes_of}
use Rattle.mdcc_def_protocol.specs.Structures.{all_claims, choices_reported, first_structure, is_accepted, is_left_out, mark_of_choice, with_choice, with_claim}
use Rattle.mdcc_def_ledger.specs.Ledger.{Entry, choices_begun, facts_of}
use Rattle.mdcc_def_ledger.specs.AllowedLedgers.{IsAllowed}
use Rattle.mdcc_def_ledger.specs.AllowedStructures.{IsReport, are_begun, centres_of, is_begun, is_own_mark}
use Rattle.mdcc_def_protocol.specs.Leader.{reports_of}
use Rattle.mdcc_def_protocol.specs.Volatile.{CountedPromise}
use Rattle.mdcc_theorem_trace_states.specs.Words.{Each, In}
use Rattle.mdcc_theorem_trace_states.specs.VolatileInvariant.{IsClaim, IsOwn, IsPromise}
use Rattle.mdcc_theorem_trace_states.specs.Sound.{IsSound, IsSoundMark}
use Rattle.mdcc_theorem_trace_states.proofs.Lists.{Each-at, Each-from, In-filter, In-filter_map, find_some}
use Rattle.mdcc_theorem_trace_states.proofs.Maps.{each-union, is_some-none, tx-true, value_of-inserted, value_of-union}
use Rattle.mdcc_theorem_trace_states.proofs.Ledgers.{In-any, mark-tail}
use Rattle.mdcc_theorem_trace_rules.proofs.Deciding.{begun-tx}
use Rattle.mdcc_theorem_trace_rules.proofs.Chains.{HasOnce, once-at, once-union}
use Rattle.mdcc_theorem_trace_rules.proofs.Syncs.{later}
use Rattle.mdcc_theorem_trace.proofs.Finished.{shown-voted}
use Rattle.mdcc_theorem_trace.proofs.Leading.{through-any}
use Rattle.mdcc_theorem_trace.proofs.Safety.{votes-told}
use Rattle.mdcc_theorem_trace_states.proofs.Tests.{Decides-tx, Decides-key}
use Rattle.mdcc_base.specs.Key.{key_eq}

abbrev pub AllSound : List Entry → Key → ℕ → Options → Type 0
AllSound es k v os = (t : TxId) (m : Mark) → value_of os t ≡ Some m → IsSoundMark es k v t m

-- ---- claims

choice-mark : (cluster : Cluster) (facts : List Fact) (k : Key) (v : ℕ) (os : Options) (o : Option Choice) (c : Choice) → mark_of_choice cluster facts k v os o ≡ Accept c → o ≡ Some c
choice-mark cluster facts k v os None c h = absurd (cc)
choice-mark cluster facts k v os (Some d) c h =
    elim (cases_Bool (is_accepted cluster facts k v os d)) [
      | inl e ↦ let g : Accept d ≡ Accept c = rw e at h in cc
      | inr e ↦ let bad : Reject ≡ Accept c = rw e at h in absurd (cc)
    ]

claim-sound : (cluster : Cluster) (facts : List Fact) (es : List Entry) (k : Key) (v : ℕ) (os : Options) (e : TxId × Option Choice) → IsClaim es k v e → IsSoundMark es k v e.0 (mark_of_choice cluster facts k v os e.1)
claim-sound cluster facts es k v os e h = record { placed = h.placed; own = λ c g. h.own c (choice-mark cluster facts k v os e.1 c g) }

pub sound-claim : (cluster : Cluster) (facts : List Fact) (es : List Entry) (k : Key) (v : ℕ) (os : Options) (e : TxId × Option Choice) → AllSound es k v os → IsClaim es k v e → AllSound es k v (with_claim cluster facts k v os e)
sound-claim cluster facts es k v os e h c =
    elim (cases_Bool (is_some (value_of os e.0))) [
      | inl g ↦ rw g h
      | inr g ↦ rw g (elim (cases_Bool (is_settled facts e.0)) [ inl q ↦ rw q h | inr q ↦ rw q (elim (cases_Bool (is_left_out os (mark_of_choice cluster facts k v os e.1))) [ inl f ↦ rw f h | inr f ↦ rw f (new (is_some-none _ g)) ]) ])
    ]
  where
    new : value_of os e.0 ≡ None → (t : TxId) (m : Mark) → value_of (inserted os (e.0, mark_of_choice cluster facts k v os e.1)) t ≡ Some m → IsSoundMark es k v t m
    new n t m g =
        let i : cond (tx_eq e.0 t) (Some (mark_of_choice cluster facts k v os e.1)) (value_of os t) ≡ Some m = sym (value_of-inserted os (e.0, mark_of_choice cluster facts k v os e.1) t n) ∙ g in
        elim (cases_Bool (tx_eq e.0 t)) [
          | inl j ↦ let s : Some (mark_of_choice cluster facts k v os e.1) ≡ Some m = rw j at i in
              let r : mark_of_choice cluster facts k v os e.1 ≡ m = cc in
              subst (λ z. IsSoundMark es k v z m) (tx-true e.0 t j) (subst (λ z. IsSoundMark es k v e.0 z) r (claim-sound cluster facts es k v os e c))
          | inr j ↦ let s : value_of os t ≡ Some m = rw j at i in h t m s
        ]

pub sound-claims : (cluster : Cluster) (facts : List Fact) (es : List Entry) (k : Key) (v : ℕ) (cs : List (TxId × Option Choice)) (os : Options) → AllSound es k v os → Each (IsClaim es k v) cs → AllSound es k v (fold (with_claim cluster facts k v) os cs)
sound-claims cluster facts es k v [] os h g = h
sound-claims cluster facts es k v (c ∷ cs) os h g = sound-claims cluster facts es k v cs (with_claim cluster facts k v os c) (sound-claim cluster facts es k v os c h g.0) g.1

with-choice : (es : List Entry) (k : Key) (v : ℕ) (xs : TxMap (Option Choice)) (e : TxId × Option Choice) → Each (IsClaim es k v) xs → IsClaim es k v e → Each (IsClaim es k v) (with_choice xs e)
with-choice es k v [] e h g = (g, tt)
with-choice es k v (x ∷ xs) e h g =
    elim (cases_Bool (tx_lt x.0 e.0)) [
      | inl a ↦ rw a (h.0, with-choice es k v xs e h.1 g)
      | inr a ↦ rw a (elim (cases_Bool (tx_eq x.0 e.0)) [
        | inl b ↦ rw b (record { placed = h.0.placed; own = own (tx-true x.0 e.0 b) x.1 refl }, h.1)
        | inr b ↦ rw b (g, h)
      ])
    ]
  where
    own : x.0 ≡ e.0 → (o : Option Choice) → x.1 ≡ o → (c : Choice) → option_or x.1 e.1 ≡ Some c → IsOwn es k v x.0 c
    own s (Some d) b c i = h.0.own c (let r : Some d ≡ Some c = rw b at i in b ∙ r)
    own s None b c i = subst (λ z. IsOwn es k v z c) (sym s) (g.own c (let r : e.1 ≡ Some c = rw b at i in r))

pub with-choices : (es : List Entry) (k : Key) (v : ℕ) (cs xs : TxMap (Option Choice)) → Each (IsClaim es k v) xs → Each (IsClaim es k v) cs → Each (IsClaim es k v) (fold with_choice xs cs)
with-choices es k v [] xs h g = h
with-choices es k v (c ∷ cs) xs h g = with-choices es k v cs (with_choice xs c) (with-choice es k v xs c h g.0) g.1

pub one-choice : (es : List Entry) (k : Key) (v : ℕ) (xs : TxMap (Option Choice)) (e : TxId × Option Choice) → Each (IsClaim es k v) xs → IsClaim es k v e → Each (IsClaim es k v) (with_choice xs e)
one-choice es k v xs e h g = with-choice es k v xs e h g

-- ---- reports

-- each mark of a report is sound, and stands in it once
pub record IsGoodReport (es : List Entry) (k : Key) (v : ℕ) (r : Report) : Type 0 where
  pub once : HasOnce r.votes
  pub sound : AllSound es k v r.votes

choices-of : (es : List Entry) (k : Key) (v : ℕ) (os : Options) → ((e : TxId × Mark) → In e os → IsSoundMark es k v e.0 e.1) → Each (IsClaim es k v) (filter_map (λ (e : TxId × Mark). option_map {U = TxId × Option Choice} (λ (c : Choice). (e.0, Some c)) (choice_in e.1)) os)
choices-of es k v [] h = tt
choices-of es k v (e ∷ os) h = by_case (choices-of es k v os (λ x i. h x (inr i))) e.1 refl
  where
    by_case : Each (IsClaim es k v) (filter_map (λ (e : TxId × Mark). option_map {U = TxId × Option Choice} (λ (c : Choice). (e.0, Some c)) (choice_in e.1)) os) → (m : Mark) → e.1 ≡ m →
        Each (IsClaim es k v) (cons_option (option_map {U = TxId × Option Choice} (λ (c : Choice). (e.0, Some c)) (choice_in e.1)) (filter_map (λ (e : TxId × Mark). option_map {U = TxId × Option Choice} (λ (c : Choice). (e.0, Some c)) (choice_in e.1)) os))
    by_case rest Reject g = rw g rest
    by_case rest (Accept c) g = rw g (record { placed = (h e (inl refl)).placed; own = λ d i. (h e (inl refl)).own d (let s : c ≡ d = cc in g ∙ ap Accept s) }, rest)

reported-claims : (es : List Entry) (k : Key) (v : ℕ) (rs : List Report) (cs : TxMap (Option Choice)) → Each (IsClaim es k v) cs → Each (IsGoodReport es k v) rs →
    Each (IsClaim es k v) (fold (λ claims (report : Report). union claims (filter_map (λ (e : TxId × Mark). option_map {U = TxId × Option Choice} (λ (c : Choice). (e.0, Some c)) (choice_in e.1)) report.votes)) cs rs)
reported-claims es k v [] cs h g = h
reported-claims es k v (r ∷ rs) cs h g =
    reported-claims es k v rs _ (each-union (IsClaim es k v) cs (filter_map (λ (e : TxId × Mark). option_map {U = TxId × Option Choice} (λ (c : Choice). (e.0, Some c)) (choice_in e.1)) r.votes) h
    (choices-of es k v r.votes (λ e i. g.0.sound e.0 e.1 (once-at r.votes e g.0.once i)))) g.1

reported-marks : (es : List Entry) (k : Key) (v : ℕ) (rs : List Report) (os : Options) → AllSound es k v os → Each (IsGoodReport es k v) rs → AllSound es k v (fold (λ marks (report : Report). union marks report.votes) os rs)
reported-marks es k v [] os h g = h
reported-marks es k v (r ∷ rs) os h g = reported-marks es k v rs (union os r.votes) both g.1
  where
    both : AllSound es k v (union os r.votes)
    both t m i = by_case (value_of os t) refl (sym (value_of-union os r.votes t) ∙ i)
      where
        by_case : (o : Option Mark) → value_of os t ≡ o → option_or (value_of os t) (value_of r.votes t) ≡ Some m → IsSoundMark es k v t m
        by_case None e j = g.0.sound t m (let s : value_of r.votes t ≡ Some m = rw e at j in s)
        by_case (Some y) e j = h t m (let s : Some y ≡ Some m = rw e at j in e ∙ s)

pub none-sound : (es : List Entry) (k : Key) (v : ℕ) → AllSound es k v []
none-sound es k v t m h = absurd (cc)

with-sound : (es : List Entry) (k : Key) (v : ℕ) (rs : List Report) (p : TxId → Mark → Bool) (os : Options) → Each (IsGoodReport es k v) rs →
    AllSound es k v (filter_map (λ (e : TxId × Mark). option_map {U = TxId × Mark} (λ (m : Mark). (e.0, m)) (find (p e.0) (filter_map (λ (r : Report). value_of r.votes e.0) rs))) os)
with-sound es k v rs p [] g t m h = absurd (cc)
with-sound es k v rs p (e ∷ os) g t m h = by_case (λ i. with-sound es k v rs p os g t m i) (find (p e.0) (filter_map (λ (r : Report). value_of r.votes e.0) rs)) refl h
  where
    by_case : (value_of (filter_map (λ (e : TxId × Mark). option_map {U = TxId × Mark} (λ (m : Mark). (e.0, m)) (find (p e.0) (filter_map (λ (r : Report). value_of r.votes e.0) rs))) os) t ≡ Some m → IsSoundMark es k v t m) → (o : Option Mark) →
        find (p e.0) (filter_map (λ (r : Report). value_of r.votes e.0) rs) ≡ o →
        value_of (cons_option (option_map {U = TxId × Mark} (λ (m : Mark). (e.0, m)) o) (filter_map (λ (e : TxId × Mark). option_map {U = TxId × Mark} (λ (m : Mark). (e.0, m)) (find (p e.0) (filter_map (λ (r : Report). value_of r.votes e.0) rs))) os)) t ≡ Some m → IsSoundMark es k v t m
    by_case rest None q i = rest i
    by_case rest (Some y) q i =
        elim (cases_Bool (tx_eq e.0 t)) [
          | inl j ↦
              let s : Some y ≡ Some m = rw j at i in
              let n : y ≡ m = cc in
              let f = find_some (p e.0) (filter_map (λ (r : Report). value_of r.votes e.0) rs) y q in
              let x = In-filter_map (λ (r : Report). value_of r.votes e.0) rs y f.0 in
              subst (λ z. IsSoundMark es k v z m) (tx-true e.0 t j) (subst (λ z. IsSoundMark es k v e.0 z) n ((Each-at (IsGoodReport es k v) rs x.0 g x.1).sound e.0 y x.2))
          | inr j ↦ rest (rw j at i)
        ]

forced-sound : (q : Sizes) (es : List Entry) (k : Key) (v : ℕ) (rs : List Report) → Each (IsGoodReport es k v) rs → AllSound es k v (forced_of q rs)
forced-sound q es k v rs g =
    elim (cases_Bool (is_fast (ballot_reported rs))) [
      | inl e ↦ rw e (with-sound es k v rs (λ t mark. nat_le (threshold q (length rs)) (reports_with rs t mark)) (marks_reported rs) g)
      | inr e ↦ rw e (reported-marks es k v (filter (λ (r : Report). ballot_eq r.ballot (ballot_reported rs)) rs) [] (none-sound es k v)
          (Each-from (IsGoodReport es k v) (filter (λ (r : Report). ballot_eq r.ballot (ballot_reported rs)) rs) (λ r i. Each-at (IsGoodReport es k v) rs r g (In-filter (λ (r : Report). ballot_eq r.ballot (ballot_reported rs)) rs r i).0)))
    ]

-- the first structure is sound
pub first-sound : (cluster : Cluster) (facts : List Fact) (es : List Entry) (k : Key) (v : ℕ) (pending : TxMap (Option Choice)) (rs : List Report) → Each (IsClaim es k v) pending → Each (IsGoodReport es k v) rs → AllSound es k v (first_structure cluster facts k v pending rs)
first-sound cluster facts es k v pending rs h g =
    sound-claims cluster facts es k v (all_claims pending rs) (forced_of cluster.quorums rs) (forced-sound cluster.quorums es k v rs g)
    (with-choices es k v (choices_reported rs) (fold with_choice [] pending) (with-choices es k v pending [] tt h) (reported-claims es k v rs [] tt g))

-- ---- the reports of counted promises

once-votes : (fs : List Fact) (k : Key) (v : ℕ) (b : Ballot) → HasOnce (votes_of fs k v b)
once-votes [] k v b = tt
once-votes (f ∷ fs) k v b = once-union (votes_of fs k v b) (marks_voted k v b f) (once-votes fs k v b)

votes-are : (fs : List Fact) (k : Key) (v : ℕ) (b c : Ballot) (os : Options) → is_fast b ≡ false → report_of 0 fs k v b ≡ record { centre = 0; ballot = c; votes = os } → shown_of fs k v c ≡ os
votes-are fs k v b c os classic h =
    let l : (report_of 0 fs k v b).ballot ≡ c = ap (λ (z : Report). z.ballot) h in
    let w : shown_of fs k v (last_ballot fs k v b) ≡ os = sym (votes-told 0 fs k v b classic) ∙ ap (λ (z : Report). z.votes) h in
    subst (λ z. shown_of fs k v z ≡ os) l w

pub once-filter : (p : TxId × Mark → Bool) (os : Options) → HasOnce os → HasOnce (filter p os)
once-filter p [] h = tt
once-filter p (e ∷ os) h =
    elim (cases_Bool (p e)) [
      | inl q ↦ rw q (gone os e.0 h.0, once-filter p os h.1)
      | inr q ↦ rw q (once-filter p os h.1)
    ]
  where
    gone : (xs : Options) (t : TxId) → value_of xs t ≡ None → value_of (filter p xs) t ≡ None
    gone [] t g = refl
    gone (x ∷ xs) t g =
        elim (cases_Bool (tx_eq x.0 t)) [
          | inl s ↦ let bad : Some x.1 ≡ None = rw s at g in absurd (cc)
          | inr s ↦ let rest : value_of xs t ≡ None = rw s at g in elim (cases_Bool (p x)) [ inl q ↦ rw q (rw s (gone xs t rest)) | inr q ↦ rw q (gone xs t rest) ]
        ]

pub promise-report : (cluster : Cluster) (es : List Entry) (k : Key) (v : ℕ) (b : Ballot) (p : CountedPromise) → is_fast b ≡ false → IsSound es → IsPromise cluster es k v b p → IsGoodReport es k v (record { centre = p.from; ballot = p.reported; votes = p.votes })
promise-report cluster es k v b p classic sound h =
    let same = votes-are (facts_of h.old p.from) k v b p.reported p.votes classic h.report in
    record {
      once = subst HasOnce same (once-filter (λ (e : TxId × Mark). not (is_forgotten (facts_of h.old p.from) k v e.0)) (votes_of (facts_of h.old p.from) k v p.reported) (once-votes (facts_of h.old p.from) k v p.reported));
      sound = λ t m i. sound.votes k v p.reported t p.from m (mark-tail h.old es k v p.reported t p.from m h.tail (shown-voted (facts_of h.old p.from) k v p.reported t m (subst (λ z. value_of z t ≡ Some m) (sym same) i)));
    }

pub reports-good : (cluster : Cluster) (es : List Entry) (k : Key) (v : ℕ) (b : Ballot) (ps : List CountedPromise) → is_fast b ≡ false → IsSound es → Each (IsPromise cluster es k v b) ps → Each (IsGoodReport es k v) (reports_of ps)
reports-good cluster es k v b [] classic sound h = tt
reports-good cluster es k v b (p ∷ ps) classic sound h = (promise-report cluster es k v b p classic sound h.0, reports-good cluster es k v b ps classic sound h.1)

report-made : ℕ → Report → Report
report-made a r = record { centre = a; ballot = r.ballot; votes = r.votes }

report-again : (a : ℕ) (fs : List Fact) (k : Key) (v : ℕ) (b c : Ballot) (os : Options) → report_of 0 fs k v b ≡ record { centre = 0; ballot = c; votes = os } → ◌≡◌ {A = Report} (record { centre = a; ballot = c; votes = os }) (report_of a fs k v b)
unfolding report-made
report-again a fs k v b c os h = ap (report-made a) (sym h)

-- they are reports, each as it was when its promise was made
pub reports-told : (cluster : Cluster) (es : List Entry) (k : Key) (v : ℕ) (b : Ballot) (ps : List CountedPromise) → Each (IsPromise cluster es k v b) ps → AllByRecursion (IsReport es k v b) (reports_of ps)
reports-told cluster es k v b [] h = tt
reports-told cluster es k v b (p ∷ ps) h =
    let l = later h.0.old es h.0.tail in (
      (
        l.0,
        h.0.old,
        record {
          parts = l.1;
          promised = through-any (facts_of h.0.old p.from) k v p.through b v h.0.promised (omega arith) h.0.reach;
          same = report-again p.from (facts_of h.0.old p.from) k v b p.reported p.votes h.0.report;
        },
      ),
      reports-told cluster es k v b ps h.1,
    )

pub centres-told : (ps : List CountedPromise) → map (λ (p : CountedPromise). p.from) ps ≡ centres_of (reports_of ps)
centres-told [] = refl
centres-told (p ∷ ps) = ap (λ z. p.from ∷ z) (centres-told ps)

-- ---- the choices that are accepted are begun

any-there : {A : Type 0} (p : A → Bool) (xs : List A) (x : A) → In x xs → p x ≡ true → list_any p xs ≡ true
any-there p [] x i h = absurd i
any-there p (y ∷ ys) x i h =
    elim i [
      | inl s ↦ or_left (p y) (list_any p ys) (subst (λ z. p z ≡ true) s h)
      | inr r ↦ or_right (p y) (list_any p ys) (any-there p ys x r h)
    ]

own-mark : (cluster : Cluster) (es : List Entry) (k : Key) (v : ℕ) (t : TxId) (m : Mark) → IsAllowed cluster es → IsSoundMark es k v t m → is_own_mark es k v (t, m) ≡ true
own-mark cluster es k v t (Accept c) legal h =
    let o = h.own c refl in
    let own : c.tx ≡ t = begun-tx cluster es t c legal o.begun in
    let b : is_begun es c ≡ true = In-any c (choices_begun es c.tx) (subst (λ z. In c (choices_begun es z)) (sym own) o.begun) in
    and_from _ _ (and_from _ _ (and_from _ _ ((Decides-tx c.tx t).1 own) (eq-eqb c.version v o.version_is)) ((Decides-key c.key k).1 o.key_is)) b
own-mark cluster es k v t Reject legal h =
    any-there (λ (c : Choice). c.version == v && key_eq c.key k) (choices_begun es t) h.placed.choice h.placed.begun
    (and_from _ _ (eq-eqb h.placed.choice.version v h.placed.version_is) ((Decides-key h.placed.choice.key k).1 h.placed.key_is))

pub sound-begun : (cluster : Cluster) (es : List Entry) (k : Key) (v : ℕ) (os : Options) → IsAllowed cluster es → HasOnce os → AllSound es k v os → are_begun es k v os ≡ true
sound-begun cluster es k v os legal once sound = go os (λ e i. sound e.0 e.1 (once-at os e once i))
  where
    go : (xs : Options) → ((e : TxId × Mark) → In e xs → IsSoundMark es k v e.0 e.1) → are_begun es k v xs ≡ true
    go [] h = refl
    go (e ∷ xs) h = and_from (is_own_mark es k v e) (are_begun es k v xs) (own-mark cluster es k v e.0 e.1 legal (h e (inl refl))) (go xs (λ x i. h x (inr i)))
