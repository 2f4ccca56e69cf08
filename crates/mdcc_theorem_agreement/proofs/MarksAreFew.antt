-- How many marks of a kind a structure has.
use Rattle.std.proofs.Common.{lit≤, ◌≡◌, ℕ, ◌+◌, ◌-◌, ◌*◌, ◌≤◌, ◌<◌, ◌==◌, Bool, true, false, cond, List, [], ◌∷◌, length, refl, sym, ap, ◌∙◌, subst, arith, inl, inr, ◌⊎◌, Option, Some, None, ◌++◌}
use Rattle.std.proofs.Math.Nat.{mul-le-mul_left, mul-le-mul_right}
use Rattle.std.proofs.lemmas.Bool.{cases_Bool, cases_lt, eqb-true, false≢true}
use Rattle.mdcc_base.specs.TxId.{tx_eq}
use Rattle.mdcc_base.specs.declared.identifiers.Ballot.{Ballot}
use Rattle.mdcc_base.specs.declared.identifiers.TxId.{TxId}
use Rattle.mdcc_option.specs.declared.choices.Mark.{Mark}
use Rattle.mdcc_theorem_agreement.proofs.AcceptedAgree.{mark_of-cons, new_vote, fast_shown}
use Rattle.mdcc_theorem_agreement.proofs.BallotOrder.{Below-fast}
use Rattle.mdcc_theorem_agreement.proofs.Ballots.{fast}
use Rattle.mdcc_theorem_agreement.proofs.StructuresExtend.{marks_at-cases, append-none}
use Rattle.mdcc_theorem_agreement.proofs.ReportsCounted.{count-le, length-reports}
use Rattle.mdcc_theorem_agreement.proofs.DoubleCounting.{held_totals}
use Rattle.mdcc_theorem_agreement.proofs.EveryStructure.{every, reports_for}
use Rattle.mdcc_theorem_agreement.proofs.LedgersGrow.{IsTail-same, IsTail-drop, Allowed-tail, IsTail-trans, kept-shown, shown-kept, shown-voted, still-shown}
use Rattle.mdcc_theorem_agreement.proofs.LiveTotals.{Each-from, total_bound}
use Rattle.mdcc_theorem_agreement.proofs.Setups.{Setup, IsSetup, centres_to, count}
use Rattle.mdcc_theorem_agreement.proofs.ReducedFacts.{votes, ReducedReport, ReducedFact, Voted, shown, without_forgotten}
use Rattle.mdcc_theorem_agreement.proofs.ReducedForced.{top}
use Rattle.mdcc_theorem_agreement.proofs.ReducedLedger.{IsTail, Entry, Happened, Begun, Valued, facts_of, WasSent, Kind, kinds, ApartTx, OfKind, MayAdd, IsFastVote, MayVote, MayHappen, IsFirst, Allowed}
use Rattle.mdcc_theorem_agreement.proofs.ReducedOptions.{In, Place, mark_of, gives, Extends, Distinct}
use Rattle.mdcc_theorem_agreement.proofs.TestsDecide.{Decides-is_mark, Decides-tx}
use Rattle.mdcc_theorem_agreement.proofs.Totals.{total}

abbrev of_kind : (Mark → Bool) → Option Mark → Bool
of_kind test None = false
of_kind test (Some x) = test x

of_kind-from : (test : Mark → Bool) (o : Option Mark) (x : Mark) → o ≡ Some x → test x ≡ true → of_kind test o ≡ true
of_kind-from test o x is h = rw is h

of_kind-shows : (test : Mark → Bool) (o : Option Mark) → of_kind test o ≡ true → (x : Mark) × (test x ≡ true) × (o ≡ Some x)
of_kind-shows test None h = absurd (cc)
of_kind-shows test (Some x) h = (x, h, refl)

abbrev dropped : TxId → List (TxId × Mark) → List (TxId × Mark)
dropped t [] = []
dropped t (p ∷ ps) = cond (tx_eq t p.0) ps (p ∷ dropped t ps)

count-dropped : (test : Mark → Bool) (t : TxId) (x : Mark) (ps : List (TxId × Mark)) → mark_of t ps ≡ Some x → test x ≡ true →
    count (λ p. test p.1) ps ≡ 1 + count (λ p. test p.1) (dropped t ps)
count-dropped test t x [] h k = absurd (cc)
count-dropped test t x ((w, y) ∷ ps) h k =
    elim (cases_Bool (tx_eq t w)) [
      | inl e ↦
          let is : Some y ≡ Some x = rw e at h in
          let same : y ≡ x = cc in
          let counted : test y ≡ true = ap test same ∙ k in
          rw (e, counted) refl
      | inr e ↦ let more : mark_of t ps ≡ Some x = rw e at h in rw e (omega (arith, count-dropped test t x ps more k))
    ]

mark_of-dropped : (t u : TxId) (ps : List (TxId × Mark)) → (t ≡ u → ⊥) → mark_of u (dropped t ps) ≡ mark_of u ps
mark_of-dropped t u [] h = refl
mark_of-dropped t u ((w, y) ∷ ps) h =
    elim (cases_Bool (tx_eq t w)) [
      | inl e ↦
          let other : tx_eq u w ≡ false = elim (cases_Bool (tx_eq u w)) [
            | inl same ↦ absurd (h ((Decides-tx t w).0 e ∙ sym ((Decides-tx u w).0 same)))
            | inr differ ↦ differ
          ] in
          rw (e, other) refl
      | inr e ↦ rw e (ap (λ m. cond (tx_eq u w) (Some y) m) (mark_of-dropped t u ps h))
    ]

-- distinct transactions with marks of a kind are no more than the marks of that kind
pub count_listed : (test : Mark → Bool) (ts : List TxId) (ps : List (TxId × Mark)) → ApartTx ts → ((t : TxId) → In t ts → OfKind test ps t) → length ts ≤ count (λ p. test p.1) ps
count_listed test [] ps apart h = omega arith
count_listed test (t ∷ ts) ps apart h =
    let here : OfKind test ps t = h t (inl refl) in
    let one : count (λ p. test p.1) ps ≡ 1 + count (λ p. test p.1) (dropped t ps) = count-dropped test t here.0 ps here.2 here.1 in
    let rest : length ts ≤ count (λ p. test p.1) (dropped t ps) =
    count_listed test ts (dropped t ps) apart.1 (λ u k.
    let there : OfKind test ps u = h u (inr k) in
    (there.0, there.1, mark_of-dropped t u ps (λ e. apart.0 u k (sym e)) ∙ there.2)) in
    omega arith

-- without the one
take_one : (t : TxId) (ts : List TxId) → ApartTx ts →
    ((rest : List TxId) × In t ts × (length ts ≡ 1 + length rest) × ApartTx rest × ((u : TxId) → In u rest → In u ts × (u ≡ t → ⊥))) ⊎ (In t ts → ⊥)
take_one t [] apart = inr (λ h. h)
take_one t (w ∷ ts) apart =
    elim (cases_Bool (tx_eq w t)) [
      | inl e ↦ let same : w ≡ t = (Decides-tx w t).0 e in inl (ts, inl same, omega arith, apart.1, (λ u h. (inr h, (λ k. apart.0 u h (k ∙ sym same)))))
      | inr e ↦
          let differ : w ≡ t → ⊥ = λ same. false≢true (sym e ∙ (Decides-tx w t).1 same) in
          elim (take_one t ts apart.1) [
            | inl r ↦ inl (
              w ∷ r.0,
              inr r.1,
              omega (arith, r.2),
              ((λ u h. apart.0 u (r.4 u h).0), r.3),
              (λ u h. elim h [ inl here ↦ (inl here, (λ k. differ (here ∙ k))) | inr there ↦ (inr (r.4 u there).0, (r.4 u there).1) ]),
            )
            | inr none ↦ inr (λ h. elim h [ inl here ↦ differ here | inr there ↦ none there ])
          ]
    ]

-- those that pass
abbrev kept_tx : (TxId → Bool) → List TxId → List TxId
kept_tx p [] = []
kept_tx p (t ∷ ts) = cond (p t) (t ∷ kept_tx p ts) (kept_tx p ts)

In-kept_tx : (p : TxId → Bool) (t : TxId) (ts : List TxId) → In t (kept_tx p ts) → In t ts × (p t ≡ true)
In-kept_tx p t [] h = absurd h
In-kept_tx p t (u ∷ ts) h =
    elim (cases_Bool (p u)) [
      | inl e ↦
          let listed : In t (u ∷ kept_tx p ts) = rw e at h in
          elim listed [ inl here ↦ (inl here, sym (ap p here) ∙ e) | inr there ↦ (inr (In-kept_tx p t ts there).0, (In-kept_tx p t ts there).1) ]
      | inr e ↦ let listed : In t (kept_tx p ts) = rw e at h in (inr (In-kept_tx p t ts listed).0, (In-kept_tx p t ts listed).1)
    ]

ApartTx-kept : (p : TxId → Bool) (ts : List TxId) → ApartTx ts → ApartTx (kept_tx p ts)
ApartTx-kept p [] h = tt
ApartTx-kept p (t ∷ ts) h =
    elim (cases_Bool (p t)) [
      | inl e ↦ rw e ((λ u l. h.0 u (In-kept_tx p u ts l).0), ApartTx-kept p ts h.1)
      | inr e ↦ rw e (ApartTx-kept p ts h.1)
    ]

total-kept_tx : (p : TxId → Bool) (ts : List TxId) → total (λ t. cond (p t) 1 0) ts ≡ length (kept_tx p ts)
total-kept_tx p [] = refl
total-kept_tx p (t ∷ ts) =
    elim (cases_Bool (p t)) [
      | inl e ↦ rw e (omega (arith, total-kept_tx p ts))
      | inr e ↦ rw e (omega (arith, total-kept_tx p ts))
    ]

total-ones : (ts : List TxId) → total (λ t. 1) ts ≡ length ts
total-ones [] = refl
total-ones (t ∷ ts) = omega (arith, total-ones ts)

some_limit : (k : Kind) → In k kinds → 0 < k.limit
some_limit k h =
    elim h [
      | inl accepted ↦ subst (λ (z : Kind). 0 < z.limit) accepted (lit≤ tt)
      | inr more ↦ elim more [ inl rejected ↦ subst (λ (z : Kind). 0 < z.limit) rejected (lit≤ tt) | inr none ↦ absurd none ]
    ]

-- each of so many has n among q that have at most `limit` each, where 2 n is more than q
few_left : (n q len limit whole : ℕ) → q < 2 * n → 0 < limit → n * len ≤ whole → whole ≤ q * limit → len ≤ 2 * limit - 1
few_left n q len limit whole more some rows columns =
    elim (cases_lt len (2 * limit)) [
      | inl under ↦ omega arith
      | inr over ↦ absurd (
          let first : n * (2 * limit) ≤ n * len = mul-le-mul_left n over in
          let second : (q + 1) * limit ≤ (2 * n) * limit = mul-le-mul_right limit (omega arith) in
          omega arith)
    ]

module _ (s : Setup) (sizes : IsSetup s) (all : List Entry) (legal : Allowed s all) (i : Place) (k : Kind) (listed_k : In k kinds) where
  pub record Few (limit : ℕ) (ps : List (TxId × Mark)) : Type 0 where
    pub few : (ts : List TxId) → ApartTx ts → ((t : TxId) → In t ts → OfKind k.test ps t) → length ts ≤ limit

  -- one more mark
  Few-add : (limit : ℕ) (less more : List (TxId × Mark)) (t : TxId) (x : Mark) → k.limit ≤ limit →
      ((u : TxId) (y : Mark) → mark_of u more ≡ Some y → (mark_of u less ≡ Some y) ⊎ ((u ≡ t) × (y ≡ x))) →
      (k.test x ≡ true → (ts : List TxId) → ApartTx ts → ((u : TxId) → In u ts → OfKind k.test less u) → length ts < k.limit) → Few limit less → Few limit more
  Few-add limit less more t x large cases place h = record {
    few = λ ts apart of_it. elim (take_one t ts apart) [
      | inl r ↦
          let old : (u : TxId) → In u r.0 → OfKind k.test less u = λ u listed.
          (let it : OfKind k.test more u = of_it u (r.4 u listed).0 in
          elim (cases u it.0 it.2) [ inl before ↦ (it.0, it.1, before) | inr now ↦ absurd ((r.4 u listed).1 now.0) ]) in
          let mine : OfKind k.test more t = of_it t r.1 in
          elim (cases t mine.0 mine.2) [
            | inl before ↦ h.few ts apart (λ u listed.
                (let it : OfKind k.test more u = of_it u listed in
                elim (cases u it.0 it.2) [
                  | inl still ↦ (it.0, it.1, still)
                  | inr now ↦ (mine.0, mine.1, ap (λ z. mark_of z less) now.0 ∙ before)
                ]))
            | inr now ↦
                let below : length r.0 < k.limit = place (ap k.test (sym now.1) ∙ mine.1) r.0 r.3 old in
                omega (arith, r.2)
          ]
      | inr none ↦ h.few ts apart (λ u listed.
          (let it : OfKind k.test more u = of_it u listed in
          elim (cases u it.0 it.2) [ inl before ↦ (it.0, it.1, before) | inr now ↦ absurd (none (subst (λ z. In z ts) now.0 listed)) ]))
    ];
  }

  Few-part : (limit : ℕ) (less more : List (TxId × Mark)) → Distinct less → Extends more less → Few limit more → Few limit less
  Few-part limit less more apart ext h = record {
    few = λ ts distinct of_it. h.few ts distinct (λ t listed. let it : OfKind k.test less t = of_it t listed in (it.0, it.1, ext t it.0 it.2));
  }

  Few-less : (limit : ℕ) (less more : List (TxId × Mark)) → Extends more less → Few limit more → Few limit less
  Few-less limit less more ext h = record {
    few = λ ts distinct of_it. h.few ts distinct (λ t listed. let it : OfKind k.test less t = of_it t listed in (it.0, it.1, ext t it.0 it.2));
  }

  shown_less : (f : ReducedFact) (fs : List ReducedFact) (u : TxId) (y : Mark) (ps : List (TxId × Mark)) → mark_of u (without_forgotten (f ∷ fs) i ps) ≡ Some y → mark_of u (without_forgotten fs i ps) ≡ Some y
  shown_less f fs u y ps g = kept-shown fs i u y ps (still-shown f fs i u (shown-kept (f ∷ fs) i u y ps g)) (shown-voted (f ∷ fs) i u y ps g)

  -- what is shown after one more vote was shown before it, or is this vote
  shown_new : (a : ℕ) (f : ReducedFact) (old : List Entry) (marks : List (TxId × Mark)) → f ≡ Voted i fast marks → (vote : IsFastVote s old (facts_of a old) i marks) →
      (u : TxId) (y : Mark) → mark_of u (shown (f ∷ facts_of a old) i fast) ≡ Some y → (mark_of u (shown (facts_of a old) i fast) ≡ Some y) ⊎ ((u ≡ vote.tx) × (y ≡ vote.mark))
  shown_new a f old marks is vote u y g =
      let voted : mark_of u (votes (f ∷ facts_of a old) i fast) ≡ Some y = shown-voted (f ∷ facts_of a old) i u y (votes (f ∷ facts_of a old) i fast) g in
      elim (new_vote s all legal i a f old marks is vote u y voted) [
        | inl before ↦ inl (kept-shown (facts_of a old) i u y (votes (facts_of a old) i fast)
            (still-shown f (facts_of a old) i u (shown-kept (f ∷ facts_of a old) i u y (votes (f ∷ facts_of a old) i fast) g)) before)
        | inr now ↦ inr now
      ]

  Few-votes : (a : ℕ) (old : List Entry) → IsTail old all → Few k.limit (shown (facts_of a old) i fast)
  Few-votes a [] tail = record { few = λ ts apart of_it. none_listed ts of_it }
    where
      none_listed : (ts : List TxId) → ((t : TxId) → In t ts → OfKind k.test [] t) → length ts ≤ k.limit
      none_listed [] of_it = omega arith
      none_listed (t ∷ ts) of_it = let bad : None ≡ Some (of_it t (inl refl)).0 = (of_it t (inl refl)).2 in absurd (cc)
  Few-votes a (Begun b t cs ∷ old) tail = Few-votes a old (IsTail-drop (Begun b t cs) old all tail)
  Few-votes a (Valued b j l sent ∷ old) tail = Few-votes a old (IsTail-drop (Valued b j l sent) old all tail)
  Few-votes a (Happened b f ∷ old) tail =
      let older : IsTail old all = IsTail-drop (Happened b f) old all tail in
      let before : Few k.limit (shown (facts_of a old) i fast) = Few-votes a old older in
      let allowed : Allowed s (Happened b f ∷ old) = Allowed-tail s (Happened b f ∷ old) all tail legal in
      elim (cases_Bool (b == a)) [
        | inl e ↦ rw e (elim (marks_at-cases f i fast) [
          | inl here ↦
              let may : MayVote s old a i fast here.0 = subst (λ z. MayVote s old z i fast here.0) (eqb-true b a e) (subst (MayHappen s old b) here.1 allowed.1) in
              let vote : IsFastVote s old (facts_of a old) i here.0 = may.fast_vote refl in
              Few-add k.limit (shown (facts_of a old) i fast) (shown (f ∷ facts_of a old) i fast) vote.tx vote.mark (omega arith)
              (λ u y g. shown_new a f old here.0 here.1 vote u y g) (λ test. vote.has_place k listed_k test) before
          | inr other ↦ Few-less k.limit (shown (f ∷ facts_of a old) i fast) (shown (facts_of a old) i fast)
              (λ u y g. shown_less f (facts_of a old) u y (votes (facts_of a old) i fast) (subst (λ z. mark_of u (without_forgotten (f ∷ facts_of a old) i z) ≡ Some y) (ap (λ z. votes (facts_of a old) i fast ++ z) other ∙ append-none (votes (facts_of a old) i fast)) g)) before
        ])
        | inr e ↦ rw e before
      ]

  Few-added : (old : List Entry) → IsTail old all → Allowed s old → (z : ℕ) (ps : List (TxId × Mark)) (t : TxId) (x : Mark) →
      MayAdd s old z i ps t x → Few (2 * k.limit - 1) ps → Few (2 * k.limit - 1) ((t, x) ∷ ps)
  Few-added old tail allowed z ps t x may h =
      Few-add (2 * k.limit - 1) ps ((t, x) ∷ ps) t x (omega (arith, some_limit k listed_k)) (λ u y g. mark_of-cons s all legal i t u x y ps g) (λ test. may.has_place k listed_k test) h

  Few-fast : (old : List Entry) → IsTail old all → Allowed s old → (z : ℕ) (m : Ballot) (marks : List (TxId × Mark)) (first : IsFirst s old z i m marks) →
      top (reports_for s old z i m marks first) ≡ fast → Few (2 * k.limit - 1) first.base
  Few-fast old tail allowed z m marks first is = record {
    few = λ ts distinct of_it.
        let rs : List ReducedReport = reports_for s old z i m marks first in
        let many : length rs ≡ count first.quorum (centres_to s.centres) = length-reports first.at_time i m first.quorum (centres_to s.centres) in
        let has : ReducedReport → TxId → Bool = λ r t. of_kind k.test (mark_of t r.marks) in
        let n : ℕ = s.fast + length rs - s.centres in
        let whole : ℕ = total (λ r. total (λ t. cond (has r t) 1 0) ts) rs in
        let rows : n * total (λ t. 1) ts ≤ whole =
        held_totals n (λ t. 1) has ts rs (Each-from (λ t. n ≤ count (λ r. has r t) rs) ts (λ t listed.
        let it : OfKind k.test first.base t = of_it t listed in
        elim (first.forced_only t it.0 it.2) [
          | inl by_count ↦ (
              let enough : s.fast + length rs ≤ s.centres + count (λ r. gives r.marks t it.0) rs = by_count.1 in
              let more : count (λ r. gives r.marks t it.0) rs ≤ count (λ r. has r t) rs =
              count-le (λ r. gives r.marks t it.0) (λ r. has r t) rs (λ r l g. of_kind-from k.test (mark_of t r.marks) it.0 ((Decides-is_mark (mark_of t r.marks) it.0).0 g) it.1) in
              omega arith)
          | inr by_union ↦ absurd (Below-fast fast (rw is at by_union.0))
        ])) in
        let columns : 1 * whole ≤ length rs * k.limit =
        total_bound (λ r. total (λ t. cond (has r t) 1 0) ts) 1 k.limit rs (λ r listed.
        let shown_by : (a : ℕ) × (first.quorum a ≡ true) × (r.marks ≡ shown (facts_of a (first.at_time a)) i fast) =
        fast_shown s all legal i first.at_time first.quorum m r listed is in
        let few : length (kept_tx (has r) ts) ≤ k.limit =
        (Few-votes shown_by.0 (first.at_time shown_by.0) (IsTail-trans (first.at_time shown_by.0) old all (first.before shown_by.0 shown_by.1) tail)).few (kept_tx (has r) ts) (ApartTx-kept (has r) ts distinct) (λ t l.
        let there : (x : Mark) × (k.test x ≡ true) × (mark_of t r.marks ≡ Some x) = of_kind-shows k.test (mark_of t r.marks) (In-kept_tx (has r) t ts l).1 in
        (there.0, there.1, subst (λ z. mark_of t z ≡ Some there.0) shown_by.2 there.2)) in
        omega (arith, total-kept_tx (has r) ts)) in
        few_left n (length rs) (length ts) k.limit whole
        (omega (arith, sizes.fast_within, sizes.two_fast, first.enough)) (some_limit k listed_k) (subst (λ v. n * v ≤ whole) (total-ones ts) rows) (omega arith);
  }

  pub Few-structures : (m : Ballot) (marks : List (TxId × Mark)) → WasSent all i m marks → Few (2 * k.limit - 1) marks
  Few-structures m marks sent =
      every s all legal i (Few (2 * k.limit - 1)) (Few-part (2 * k.limit - 1)) Few-fast Few-added all (IsTail-same all) m marks sent

pub few_structures : (s : Setup) → IsSetup s → (es : List Entry) → Allowed s es → (i : Place) (m : Ballot) (marks : List (TxId × Mark)) → WasSent es i m marks →
    (k : Kind) → In k kinds → (ts : List TxId) → ApartTx ts → ((t : TxId) → In t ts → OfKind k.test marks t) → length ts < 2 * k.limit
few_structures s sizes es legal i m marks sent k listed ts apart of_it =
    omega (arith, (Few-structures s sizes es legal i k listed m marks sent).few ts apart of_it, some_limit k listed)
