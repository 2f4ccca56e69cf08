-- One mark, by induction on the ledger.
use Rattle.std.proofs.Common.{Bool, List, None, Option, Some, [], ap, arith, false, inl, inr, length, not, refl, subst, sym, true, ℕ, ◌&&◌, ◌*◌, ◌+◌, ◌-◌, ◌<◌, ◌==◌, ◌∙◌, ◌∷◌, ◌≡◌, ◌≤◌, ◌⊎◌}
use Rattle.std.specs.Prelude.{filter}
use Rattle.std.specs.List.{AllByRecursion, list_any}
use Rattle.std.proofs.lemmas.Bool.{and_parts, cases_Bool, not-true, or_cases, true≢false}
use Rattle.mdcc_base.specs.declared.identifiers.Ballot.{Ballot}
use Rattle.mdcc_base.specs.declared.key.Key.{Key}
use Rattle.mdcc_base.specs.Sizes.{Sizes}
use Rattle.mdcc_base.specs.AreQuorums.{AreQuorums}
use Rattle.mdcc_base.specs.declared.identifiers.TxId.{TxId}
use Rattle.mdcc_base.specs.Quorums.{all_centres, quorum_size, threshold}
use Rattle.mdcc_base.specs.Ballot.{ballot_eq, ballot_lt, fast_ballot, is_fast}
use Rattle.mdcc_base.specs.Key.{key_eq}
use Rattle.mdcc_option.specs.declared.cluster.Cluster.{Cluster}
use Rattle.mdcc_option.specs.declared.choices.Mark.{Mark}
use Rattle.mdcc_struct.specs.declared.options.Options.{Options}
use Rattle.mdcc_struct.specs.Options.{is_mark}
use Rattle.mdcc_struct.specs.Maps.{value_of}
use Rattle.mdcc_struct.specs.declared.report.Report.{Report}
use Rattle.mdcc_struct.specs.Forced.{ballot_reported, forced_of, marks_with, reports_with}
use Rattle.mdcc_def_protocol.specs.Marks.{options_eq}
use Rattle.mdcc_def_protocol.specs.Facts.{is_settled, last_ballot, shown_of, votes_of}
use Rattle.mdcc_def_protocol.specs.Belongs.{is_centre}
use Rattle.mdcc_def_protocol.specs.Structures.{all_claims, is_enough}
use Rattle.mdcc_def_ledger.specs.Ledger.{Added, Entry, Valued, facts_of, mark_given}
use Rattle.mdcc_def_ledger.specs.AllowedLedgers.{IsAllowed, is_valued, is_valued_as}
use Rattle.mdcc_def_ledger.specs.AllowedStructures.{IsAmongCentres, IsMade, IsReport, centres_of, has_promised, promisers_of}
use Rattle.mdcc_theorem_trace_states.specs.Words.{In, IsTail, count_where}
use Rattle.mdcc_theorem_trace_states.specs.Sound.{HasOneMark, IsChosen}
use Rattle.mdcc_theorem_trace_states.proofs.Tests.{Decides-ballot, Decides-is_mark, Decides-options}
use Rattle.mdcc_theorem_trace_states.proofs.Lists.{In-filter, IsTail-more, IsTail-same, count_some}
use Rattle.mdcc_theorem_trace_states.proofs.Ledgers.{Allowed-tail, mark-tail}
use Rattle.mdcc_theorem_trace_rules.proofs.Votes.{at_places}
use Rattle.mdcc_theorem_trace_rules.proofs.Chains.{backed, extends-claim, is-here, last-valued, valued-tail}
use Rattle.mdcc_theorem_trace_rules.proofs.Accepting.{same-mark}
use Rattle.mdcc_theorem_trace_rules.proofs.Order.{fast-least, ge-trans, lt-cases}
use Rattle.mdcc_theorem_trace.proofs.Kin.{count-both, count-not, from-place, has-promise, last-ge, last-mark, length-range, place-in, places-differ, reported-one, reported-only, top-most, top-there, votes-kept}
use Rattle.mdcc_theorem_trace.proofs.Finished.{IsPast, centre-in, claim-none, claims-none, past-settled, past-tail, shown-voted, voted-shown}
use Rattle.mdcc_theorem_trace.proofs.Safety.{all-at, all-true, any-in, claims-extend, count-in, in-any, in-filter, in-range-bounds, tail-drop, votes-told}
use Rattle.mdcc_struct.proofs.Reports.{enough_forced, forced_enough}
use Rattle.mdcc_def_protocol.proofs.EnoughPromises.{enough-classic, parts-classic}

pub size-classic : (q : Sizes) → AreQuorums q → (b : Ballot) → q.classic ≤ quorum_size q b
size-classic q h b = elim (cases_Bool (is_fast b)) [ inl e ↦ rw e h.classic_within | inr e ↦ rw e (omega arith) ]

tail-trans : {A : Type 0} (as' bs cs : List A) → IsTail as' bs → IsTail bs cs → IsTail as' cs
tail-trans as' bs [] h g = subst (λ z. IsTail as' z) g h
tail-trans as' bs (c ∷ cs) h g = elim g [ inl s ↦ subst (λ z. IsTail as' z) s h | inr r ↦ inr (tail-trans as' bs cs h r) ]

pub report-at : {A : Type 0} (P : A → Type 0) (xs : List A) (x : A) → AllByRecursion P xs → In x xs → P x
report-at P [] x h i = absurd i
report-at P (y ∷ ys) x h i = elim i [ inl s ↦ subst P (sym s) h.0 | inr r ↦ report-at P ys x h.1 r ]

all-or : {A : Type 0} (P : A → Type 0) (Q : Type 0) (xs : List A) → ((x : A) → In x xs → P x ⊎ Q) → ((x : A) → In x xs → P x) ⊎ Q
all-or P Q [] h = inl (λ x i. absurd i)
all-or P Q (x ∷ xs) h =
    elim (h x (inl refl)) [
      | inr q ↦ inr q
      | inl p ↦ elim (all-or P Q xs (λ y i. h y (inr i))) [
        | inr q ↦ inr q
        | inl ps ↦ inl (λ y i. elim i [ inl s ↦ subst P (sym s) p | inr r ↦ ps y r ])
      ]
    ]

above-fast : (b m : Ballot) → ballot_lt b m ≡ true → is_fast m ≡ false
above-fast b m l = elim (cases_Bool (is_fast m)) [ inl f ↦ absurd (true≢false (sym (subst (λ z. ballot_lt b z ≡ true) ((Decides-ballot m fast_ballot).0 f) l) ∙ fast-least b)) | inr f ↦ f ]

module _ (cluster : Cluster) (sizes : AreQuorums cluster.quorums) (all : List Entry) (legal : IsAllowed cluster all) (k : Key) (v : ℕ) (b : Ballot) (t : TxId) (x : Mark)
    (chosen : quorum_size cluster.quorums b ≤ count_where (λ a. is_mark x (mark_given all k v b t a)) (all_centres cluster.quorums)) where
  abbrev pub voters : ℕ → Bool
  voters a = is_mark x (mark_given all k v b t a)

  -- the mark, or none where the transaction is finished at some centre
  abbrev pub IsKept : List Entry → Option Mark → Type 0
  IsKept old o = (o ≡ Some x) ⊎ ((o ≡ None) × IsPast old t)

  kept-as : (old : List Entry) (o : Option Mark) → ((y : Mark) → o ≡ Some y → y ≡ x) → IsPast old t → IsKept old o
  kept-as old None only past = inr (refl, past)
  kept-as old (Some y) only past = inl (ap Some (only y refl))

  kept-only : (old : List Entry) (o : Option Mark) (y : Mark) → IsKept old o → o ≡ Some y → y ≡ x
  kept-only old o y k h =
      elim k [
        | inl e ↦ let r : Some y ≡ Some x = sym h ∙ e in cc
        | inr n ↦ let bad : None ≡ Some y = sym n.0 ∙ h in absurd (cc)
      ]

  kept-tail : (old es : List Entry) (o : Option Mark) → IsTail old es → IsKept old o → IsKept es o
  kept-tail old es o tail k = elim k [ inl e ↦ inl e | inr n ↦ inr (n.0, past-tail old es t tail n.1) ]

  abbrev pub Safe : List Entry → Type 0
  Safe old = (m : Ballot) (os : Options) → ballot_lt b m ≡ true → is_valued old k v m os ≡ true → IsKept old (value_of os t)

  module _ (old : List Entry) (tail : IsTail old all) (safe : Safe old) (m : Ballot) (below : ballot_lt b m ≡ true) (classic : is_fast m ≡ false) (rs : List Report)
      (among : IsAmongCentres (centres_of rs) (promisers_of cluster.quorums old k v m)) (reported : AllByRecursion (IsReport old k v m) rs) (enough : cluster.quorums.classic ≤ length rs) where
    before : IsAllowed cluster old
    before = Allowed-tail cluster old all tail legal

    -- each report is of an earlier ledger
    abbrev pub report : (r : Report) → In r rs → IsReport old k v m r
    report r i = report-at (IsReport old k v m) rs r reported i

    abbrev pub moment : (r : Report) → In r rs → List Entry
    moment r i = (report r i).1

    then-old : (r : Report) (i : In r rs) → IsTail (moment r i) old
    then-old r i = let w = report r i in subst (λ z. IsTail w.1 z) (sym w.2.parts) (IsTail-more w.0 w.1 w.1 (IsTail-same w.1))

    then-all : (r : Report) (i : In r rs) → IsTail (moment r i) all
    then-all r i = tail-trans (moment r i) old all (then-old r i) tail

    legal-then : (r : Report) (i : In r rs) → IsAllowed cluster (moment r i)
    legal-then r i = Allowed-tail cluster (moment r i) all (then-all r i) legal

    a-centre : (r : Report) → In r rs → In r.centre (all_centres cluster.quorums)
    a-centre r i =
        (In-filter (has_promised old k v m) (all_centres cluster.quorums) r.centre
        (any-in r.centre (promisers_of cluster.quorums old k v m) (all-at (λ a. list_any (λ c. a == c) (promisers_of cluster.quorums old k v m)) (centres_of rs) r.centre among.0 (place-in (λ (q : Report). q.centre) rs r i)))).0

    last-then : (r : Report) (i : In r rs) → last_ballot (facts_of (moment r i) r.centre) k v m ≡ r.ballot
    last-then r i = ap (λ (z : Report). z.ballot) (sym (report r i).2.same)

    shown-then : (r : Report) (i : In r rs) → value_of r.votes t ≡ value_of (shown_of (facts_of (moment r i) r.centre) k v r.ballot) t
    shown-then r i =
        ap (λ (z : Report). value_of z.votes t) (report r i).2.same
        ∙ ap (λ (z : Options). value_of z t) (votes-told r.centre (facts_of (moment r i) r.centre) k v m classic)
        ∙ ap (λ z. value_of (shown_of (facts_of (moment r i) r.centre) k v z) t) (last-then r i)

    -- what is shown was voted, and still is
    voted-then : (r : Report) (i : In r rs) (y : Mark) → value_of r.votes t ≡ Some y → value_of (votes_of (facts_of (moment r i) r.centre) k v r.ballot) t ≡ Some y
    voted-then r i y h = shown-voted (facts_of (moment r i) r.centre) k v r.ballot t y (sym (shown-then r i) ∙ h)

    voted-still : (r : Report) (i : In r rs) (y : Mark) → value_of r.votes t ≡ Some y → mark_given all k v r.ballot t r.centre ≡ Some y
    voted-still r i y h = mark-tail (moment r i) all k v r.ballot t r.centre y (then-all r i) (voted-then r i y h)

    -- a voter of the set had voted before it promised
    kept : (r : Report) (i : In r rs) → voters r.centre ≡ true → value_of (votes_of (facts_of (moment r i) r.centre) k v b) t ≡ Some x
    kept r i h =
        let p = has-promise (facts_of (moment r i) r.centre) k v m (report r i).2.promised in
        let s = votes-kept cluster (moment r i) all r.centre k v m b legal (then-all r i) classic p below in
        ap (λ (z : Options). value_of z t) (sym s.0) ∙ (Decides-is_mark x _).0 h

    abbrev pub top : Ballot
    top = ballot_reported rs

    -- it reports no ballot below b
    not-below : (r : Report) (i : In r rs) → voters r.centre ≡ true → ballot_lt r.ballot b ≡ false
    not-below r i h = subst (λ z. ballot_lt z b ≡ false) (last-then r i) (last-ge (facts_of (moment r i) r.centre) k v m b t x below (kept r i h))

    under-top : (r : Report) → In r rs → ballot_lt top r.ballot ≡ false
    under-top r i = top-most rs r i

    at-top : (r : Report) (i : In r rs) → voters r.centre ≡ true → top ≡ b → r.ballot ≡ b
    at-top r i h s =
        elim (lt-cases r.ballot b (not-below r i h)) [
          | inl e ↦ e
          | inr e ↦ absurd (true≢false (sym e ∙ subst (λ z. ballot_lt z r.ballot ≡ false) s (under-top r i)))
        ]

    gives : (r : Report) (i : In r rs) → voters r.centre ≡ true → top ≡ b → (value_of r.votes t ≡ Some x) ⊎ IsPast old t
    gives r i h s =
        let voted : value_of (votes_of (facts_of (moment r i) r.centre) k v r.ballot) t ≡ Some x = subst (λ z. value_of (votes_of (facts_of (moment r i) r.centre) k v z) t ≡ Some x) (sym (at-top r i h s)) (kept r i h) in
        elim (voted-shown (facts_of (moment r i) r.centre) k v r.ballot t x voted) [
          | inl e ↦ inl (shown-then r i ∙ e)
          | inr e ↦ inr (past-tail (moment r i) old t (then-old r i) (r.centre, e))
        ]

    -- some member of the set is a voter
    met : (r : Report) × (In r rs) × (voters r.centre ≡ true)
    met =
        let inside = at_places cluster.quorums.centres 1 (λ (r : Report). true) (λ (r : Report). r.centre) (λ a. list_any (λ c. a == c) (centres_of rs)) rs
        (λ r i e. let g = in-range-bounds 1 cluster.quorums.centres r.centre (a-centre r i) in (g.0, g.1, in-any r.centre (centres_of rs) (place-in (λ (q : Report). q.centre) rs r i))) (places-differ (λ (r : Report). true) (λ (r : Report). r.centre) rs among.1) in
        let both = count-both voters (λ a. list_any (λ c. a == c) (centres_of rs)) (all_centres cluster.quorums) in
        let r = count_some (λ a. voters a && list_any (λ c. a == c) (centres_of rs)) (all_centres cluster.quorums)
        (omega (arith, inside, both, all-true rs, enough, chosen, length-range 1 cluster.quorums.centres, size-classic cluster.quorums sizes b, sizes.classic_meet)) in
        let p = and_parts (voters r.0) (list_any (λ c. r.0 == c) (centres_of rs)) r.2 in
        let q = from-place (λ (q : Report). q.centre) rs r.0 (any-in r.0 (centres_of rs) p.1) in
        (q.0, q.1, subst (λ z. voters z ≡ true) q.2 p.0)

    -- where the greatest ballot is classic: all marks that are shown there are the one, and one report has it
    classic-forced : is_fast top ≡ false → ((r : Report) (y : Mark) → In r rs → r.ballot ≡ top → value_of r.votes t ≡ Some y → y ≡ x) → (r : Report) → In r rs → r.ballot ≡ top → (value_of r.votes t ≡ Some x) ⊎ IsPast old t → IsKept old (value_of (forced_of cluster.quorums rs) t)
    classic-forced nf only r i at has =
        rw nf (elim has [
          | inl e ↦ inl (reported-one (filter (λ (r : Report). ballot_eq r.ballot top) rs) t x [] (λ y h. absurd (cc)) agree (inr (r, in-filter (λ (r : Report). ballot_eq r.ballot top) rs r i ((Decides-ballot r.ballot top).1 at), e)))
          | inr past ↦ kept-as old _ (λ y h. reported-only (filter (λ (r : Report). ballot_eq r.ballot top) rs) t x [] (λ z g. absurd (cc)) agree y h) past
        ])
      where
        agree : (q : Report) (y : Mark) → In q (filter (λ (r : Report). ballot_eq r.ballot top) rs) → value_of q.votes t ≡ Some y → y ≡ x
        agree q y j h = let f = In-filter (λ (r : Report). ballot_eq r.ballot top) rs q j in only q y f.0 ((Decides-ballot q.ballot top).0 f.1) h

    -- the marks at the ballot of the choice are the one
    only-at : top ≡ b → is_fast top ≡ false → (q : Report) (y : Mark) → In q rs → q.ballot ≡ top → value_of q.votes t ≡ Some y → y ≡ x
    only-at s nf q y j at h =
        let classic-b : is_fast b ≡ false = subst (λ z. is_fast z ≡ false) s nf in
        let own : mark_given all k v b t met.0.centre ≡ Some x = (Decides-is_mark x _).0 met.2 in
        let theirs : mark_given all k v b t q.centre ≡ Some y = subst (λ z. mark_given all k v z t q.centre ≡ Some y) (at ∙ s) (voted-still q j y h) in
        elim (backed cluster all met.0.centre k v b legal classic-b) [
          | inl none ↦ let bad : None ≡ Some x = sym (none t) ∙ own in absurd (cc)
          | inr z ↦ elim (z.same t) [
            | inl e ↦ same-mark cluster all q.centre k v b z.structure t x y legal classic-b z.was (sym e ∙ own) theirs
            | inr n ↦ let bad : None ≡ Some x = sym n.0 ∙ own in absurd (cc)
          ]
        ]

    -- those above it are
    only-above : ballot_lt b top ≡ true → is_fast top ≡ false → (q : Report) (y : Mark) → In q rs → q.ballot ≡ top → value_of q.votes t ≡ Some y → y ≡ x
    only-above l nf q y j at h =
        let voted : value_of (votes_of (facts_of (moment q j) q.centre) k v top) t ≡ Some y = subst (λ z. value_of (votes_of (facts_of (moment q j) q.centre) k v z) t ≡ Some y) at (voted-then q j y h) in
        elim (backed cluster (moment q j) q.centre k v top (legal-then q j) nf) [
          | inl none ↦ let bad : None ≡ Some y = sym (none t) ∙ voted in absurd (cc)
          | inr z ↦ elim (z.same t) [
            | inl e ↦ kept-only old (value_of z.structure t) y (safe top z.structure l (valued-tail (moment q j) old k v top z.structure (then-old q j) z.was)) (sym e ∙ voted)
            | inr n ↦ let bad : None ≡ Some y = sym n.0 ∙ voted in absurd (cc)
          ]
        ]

    -- a report of the greatest ballot above it has the mark
    has-above : ballot_lt b top ≡ true → is_fast top ≡ false → (r : Report) (i : In r rs) → r.ballot ≡ top → (value_of r.votes t ≡ Some x) ⊎ IsPast old t
    has-above l nf r i at =
        elim (backed cluster (moment r i) r.centre k v top (legal-then r i) nf) [
          | inl none ↦ let h = last-mark cluster (moment r i) r.centre k v m top (legal-then r i) nf (last-then r i ∙ at) in let bad : None ≡ Some h.1 = sym (none h.0) ∙ h.2 in absurd (cc)
          | inr z ↦ elim (z.same t) [
            | inl e ↦ elim (safe top z.structure l (valued-tail (moment r i) old k v top z.structure (then-old r i) z.was)) [
              | inl g ↦
                  let voted : value_of (votes_of (facts_of (moment r i) r.centre) k v r.ballot) t ≡ Some x = subst (λ q. value_of (votes_of (facts_of (moment r i) r.centre) k v q) t ≡ Some x) (sym at) (e ∙ g) in
                  elim (voted-shown (facts_of (moment r i) r.centre) k v r.ballot t x voted) [
                    | inl f ↦ inl (shown-then r i ∙ f)
                    | inr f ↦ inr (past-tail (moment r i) old t (then-old r i) (r.centre, f))
                  ]
              | inr n ↦ inr n.1
            ]
            | inr n ↦ inr (past-tail (moment r i) old t (then-old r i) (r.centre, n.1))
          ]
        ]

    forced : IsKept old (value_of (forced_of cluster.quorums rs) t)
    forced =
        elim (cases_Bool (ballot_lt top b)) [
          | inl e ↦ absurd (true≢false (sym e ∙ ge-trans top met.0.ballot b (under-top met.0 met.1) (not-below met.0 met.1 met.2)))
          | inr e ↦ elim (lt-cases top b e) [
            | inl s ↦ elim (cases_Bool (is_fast top)) [
              | inl f ↦ at-fast s f
              | inr f ↦ classic-forced f (only-at s f) met.0 met.1 (at-top met.0 met.1 met.2 s ∙ sym s) (gives met.0 met.1 met.2 s)
            ]
            | inr l ↦ elim (top-there rs) [
              | inl s ↦ absurd (true≢false (sym (subst (λ z. ballot_lt b z ≡ true) s l) ∙ fast-least b))
              | inr r ↦ let nf = above-fast b top l in classic-forced nf (only-above l nf) r.0 r.1 r.2 (has-above l nf r.0 r.1 r.2)
            ]
          ]
        ]
      where
        at-fast : top ≡ b → is_fast top ≡ true → IsKept old (value_of (forced_of cluster.quorums rs) t)
        at-fast s f =
            rw f (elim (all-or (λ (r : Report). voters r.centre ≡ true → value_of r.votes t ≡ Some x) (IsPast old t) rs each) [
              | inl has ↦ inl (enough_forced rs (threshold cluster.quorums (length rs)) t x least-most (least has))
              | inr past ↦ kept-as old _ only past
            ])
          where
            size : quorum_size cluster.quorums b ≡ cluster.quorums.fast
            size = let g : is_fast b ≡ true = subst (λ z. is_fast z ≡ true) s f in rw g refl

            each : (r : Report) → In r rs → (voters r.centre ≡ true → value_of r.votes t ≡ Some x) ⊎ IsPast old t
            each r i = elim (cases_Bool (voters r.centre)) [
              | inl h ↦ elim (gives r i h s) [ inl e ↦ inl (λ g. e) | inr past ↦ inr past ]
              | inr h ↦ inl (λ g. absurd (true≢false (sym g ∙ h)))
            ]

            least-most : length rs < 2 * (cluster.quorums.fast + length rs - cluster.quorums.centres)
            least-most = omega (arith, enough, sizes.fast_meet, sizes.fast_within)

            others : count_where (λ (r : Report). not (voters r.centre)) rs ≤ count_where (λ a. not (voters a)) (all_centres cluster.quorums)
            others = at_places cluster.quorums.centres 1 (λ (r : Report). not (voters r.centre)) (λ (r : Report). r.centre) (λ a. not (voters a)) rs
                (λ r i e. let g = in-range-bounds 1 cluster.quorums.centres r.centre (a-centre r i) in (g.0, g.1, e)) (places-differ (λ (r : Report). not (voters r.centre)) (λ (r : Report). r.centre) rs among.1)

            least : ((r : Report) → In r rs → voters r.centre ≡ true → value_of r.votes t ≡ Some x) → cluster.quorums.fast + length rs - cluster.quorums.centres ≤ reports_with rs t x
            least has =
                let n = count-in (λ (r : Report). voters r.centre) (λ (r : Report). is_mark x (value_of r.votes t)) rs (λ r i h. (Decides-is_mark x _).1 (has r i h)) in
                let y = count-not (λ (r : Report). voters r.centre) rs in
                let z = count-not voters (all_centres cluster.quorums) in
                omega (arith, y, z, others, n, chosen, size, length-range 1 cluster.quorums.centres)

            -- another mark is that of too few
            only : (y : Mark) → value_of (marks_with rs (threshold cluster.quorums (length rs))) t ≡ Some y → y ≡ x
            only y h =
                elim (cases_Bool (is_mark x (Some y))) [
                  | inl e ↦ let r : Some y ≡ Some x = (Decides-is_mark x (Some y)).0 e in cc
                  | inr e ↦
                      let many = forced_enough rs (threshold cluster.quorums (length rs)) t y h in
                      let few = count-in (λ (r : Report). is_mark y (value_of r.votes t)) (λ (r : Report). not (voters r.centre)) rs (λ r i g. other y e r i ((Decides-is_mark y _).0 g)) in
                      let z = count-not voters (all_centres cluster.quorums) in
                      absurd (omega (arith, many, few, z, others, chosen, size, enough, sizes.fast_meet, sizes.fast_within, length-range 1 cluster.quorums.centres))
                ]
              where
                other : (y : Mark) → is_mark x (Some y) ≡ false → (r : Report) (i : In r rs) → value_of r.votes t ≡ Some y → not (voters r.centre) ≡ true
                other y e r i g =
                    let same : r.ballot ≡ b = elim (lt-cases top r.ballot (under-top r i)) [
                      | inl q ↦ sym q ∙ s
                      | inr q ↦ absurd (true≢false (sym q ∙ subst (λ z. ballot_lt r.ballot z ≡ false) (sym ((Decides-ballot top fast_ballot).0 f)) (fast-least r.ballot)))
                    ] in
                    let given : mark_given all k v b t r.centre ≡ Some y = subst (λ z. mark_given all k v z t r.centre ≡ Some y) same (voted-still r i y g) in
                    let no : voters r.centre ≡ false = ap (is_mark x) given ∙ e in
                    rw no refl

  safe-made : (old : List Entry) → IsTail old all → Safe old → (c : ℕ) → is_centre cluster c ≡ true → (m : Ballot) (os : Options) → ballot_lt b m ≡ true → is_fast m ≡ false → IsMade cluster old c k v m os → IsKept old (value_of os t)
  safe-made old tail safe c here m os below classic (inl first) =
      subst (λ (z : Options). IsKept old (value_of z t)) (sym first.2.made)
      (elim (forced old tail safe m below classic first.0 first.2.promised first.2.reported (promises first.2.enough)) [
        | inl e ↦ inl (claims-extend cluster (facts_of old c) k v (all_claims first.1 first.0) (forced_of cluster.quorums first.0) t x e)
        | inr n ↦ inr (claims-none cluster (facts_of old c) k v (all_claims first.1 first.0) (forced_of cluster.quorums first.0) t (settled n.1) n.0, n.1)
      ])
    where
      settled : IsPast old t → is_settled (facts_of old c) t ≡ true
      settled past = past-settled cluster old c t (Allowed-tail cluster old all tail legal) (centre-in cluster c here) past

      promises : is_enough cluster (facts_of old c) k v first.0 ≡ true → cluster.quorums.classic ≤ length first.0
      promises enough = enough-classic cluster (facts_of old c) k v first.0 (parts-classic cluster.limit cluster.quorums sizes) enough
  safe-made old tail safe c here m os below classic (inr next) =
      subst (λ (z : Options). IsKept old (value_of z t)) (sym next.2.made)
      (elim (safe m next.0 below (last-valued old k v m next.0 next.2.last_before)) [
        | inl e ↦ inl (extends-claim cluster (facts_of old c) k v next.0 next.1 t x e)
        | inr n ↦ inr (claim-none cluster (facts_of old c) k v next.0 next.1 t (past-settled cluster old c t (Allowed-tail cluster old all tail legal) (centre-in cluster c here) n.1) n.0, n.1)
      ])

  pub safe : (old : List Entry) → IsTail old all → Safe old
  safe [] tail m os below h = absurd (cc)
  safe (Entry.Begun c u cs ∷ old) tail m os below h = kept-tail old (Entry.Begun c u cs ∷ old) (value_of os t) (inr (IsTail-same old)) (safe old (tail-drop (Entry.Begun c u cs) old all tail) m os below h)
  safe (Added c f ∷ old) tail m os below h = kept-tail old (Added c f ∷ old) (value_of os t) (inr (IsTail-same old)) (safe old (tail-drop (Added c f) old all tail) m os below h)
  safe (Valued c j w n xs ∷ old) tail m os below h =
      let older = tail-drop (Valued c j w n xs) old all tail in
      kept-tail old (Valued c j w n xs ∷ old) (value_of os t) (inr (IsTail-same old))
      (elim (or_cases (is_valued_as k v m os (Valued c j w n xs)) (is_valued old k v m os) h) [
        | inl e ↦ here (Allowed-tail cluster (Valued c j w n xs ∷ old) all tail legal) older (safe old older) (and_parts (w == v && ballot_eq n m && key_eq j k) (options_eq xs os) e)
        | inr e ↦ safe old older m os below e
      ])
    where
      here : IsAllowed cluster (Valued c j w n xs ∷ old) → IsTail old all → Safe old → ((w == v && ballot_eq n m && key_eq j k) ≡ true) × (options_eq xs os ≡ true) → IsKept old (value_of os t)
      here l older rest q =
          let p = is-here k v m j w n q.0 in
          let s : xs ≡ os = (Decides-options xs os).0 q.1 in
          let made : IsMade cluster old c k v m os =
          subst (λ z. IsMade cluster old c z v m os) p.key (subst (λ z. IsMade cluster old c j z m os) p.version (subst (λ z. IsMade cluster old c j w z os) p.ballot (subst (λ (z : Options). IsMade cluster old c j w n z) s l.1.1.made))) in
          let nf : is_fast m ≡ false = subst (λ z. is_fast z ≡ false) p.ballot (not-true _ l.1.1.classic) in
          safe-made old older rest c l.1.0 m os below nf made

-- ---- One mark

common : (p q : ℕ → Bool) (xs : List ℕ) → length xs < count_where p xs + count_where q xs → (a : ℕ) × (In a xs) × (p a ≡ true) × (q a ≡ true)
common p q xs h =
    let both = count-both p q xs in
    let r = count_some (λ a. p a && q a) xs (omega (arith, both, h)) in
    let s = and_parts (p r.0) (q r.0) r.2 in (r.0, r.1, s.0, s.1)

one-below : (cluster : Cluster) → AreQuorums cluster.quorums → (es : List Entry) → IsAllowed cluster es → (k : Key) (v : ℕ) (t : TxId) (x y : Mark) (c : IsChosen cluster.quorums es k v t x) (d : IsChosen cluster.quorums es k v t y) → ballot_lt c.ballot d.ballot ≡ true → x ≡ y
one-below cluster sizes es legal k v t x y c d below =
    let q = λ (a : ℕ). is_mark y (mark_given es k v d.ballot t a) in
    let met = common (λ a. is_mark y (mark_given es k v d.ballot t a)) (λ a. is_mark y (mark_given es k v d.ballot t a)) (all_centres cluster.quorums)
    (omega (arith, d.enough, size-classic cluster.quorums sizes d.ballot, sizes.classic_meet, length-range 1 cluster.quorums.centres)) in
    let vote : mark_given es k v d.ballot t met.0 ≡ Some y = (Decides-is_mark y _).0 met.2 in
    let nf = above-fast c.ballot d.ballot below in
    elim (backed cluster es met.0 k v d.ballot legal nf) [
      | inl none ↦ let bad : None ≡ Some y = sym (none t) ∙ vote in absurd (cc)
      | inr s ↦ elim (s.same t) [
        | inl e ↦
            let has = safe cluster sizes es legal k v c.ballot t x c.enough es (IsTail-same es) d.ballot s.structure below s.was in
            sym (kept-only cluster sizes es legal k v c.ballot t x c.enough es (value_of s.structure t) y has (sym e ∙ vote))
        | inr n ↦ let bad : None ≡ Some y = sym n.0 ∙ vote in absurd (cc)
      ]
    ]

pub one-mark : (cluster : Cluster) (es : List Entry) → AreQuorums cluster.quorums → IsAllowed cluster es → HasOneMark cluster.quorums es
one-mark cluster es sizes legal k v t x y c d =
    elim (cases_Bool (ballot_lt c.ballot d.ballot)) [
      | inl e ↦ one-below cluster sizes es legal k v t x y c d e
      | inr e ↦ elim (lt-cases c.ballot d.ballot e) [
        | inl s ↦
            let second : quorum_size cluster.quorums c.ballot ≤ count_where (λ a. is_mark y (mark_given es k v c.ballot t a)) (all_centres cluster.quorums) =
            subst (λ z. quorum_size cluster.quorums z ≤ count_where (λ a. is_mark y (mark_given es k v z t a)) (all_centres cluster.quorums)) (sym s) d.enough in
            let met = common (λ a. is_mark x (mark_given es k v c.ballot t a)) (λ a. is_mark y (mark_given es k v c.ballot t a)) (all_centres cluster.quorums)
            (omega (arith, c.enough, second, size-classic cluster.quorums sizes c.ballot, sizes.classic_meet, length-range 1 cluster.quorums.centres)) in
            let r : Some x ≡ Some y = sym ((Decides-is_mark x _).0 met.2) ∙ (Decides-is_mark y _).0 met.3 in cc
        | inr l ↦ sym (one-below cluster sizes es legal k v t y x d c l)
      ]
    ]
