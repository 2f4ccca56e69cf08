-- What reports of centres force, as computed and in the reduced ledger.
use Rattle.std.proofs.Common.{◌≡◌, ℕ, ◌+◌, ◌-◌, ◌*◌, ◌<◌, ◌≤◌, Bool, true, false, cond, List, [], ◌∷◌, length, refl, sym, ap, ◌∙◌, subst, arith, inl, inr, ◌⊎◌, Option, Some, None, map}
use Rattle.std.proofs.lemmas.Bool.{cases_Bool, false≢true}
use Rattle.std.specs.List.{filter, fold}
use Rattle.mdcc_base.specs.Ballot.{ballot_eq, ballot_max, is_fast}
use Rattle.mdcc_base.specs.declared.identifiers.Ballot.{Ballot}
use Rattle.mdcc_base.specs.declared.identifiers.TxId.{TxId}
use Rattle.mdcc_option.specs.declared.choices.Mark.{Mark}
use Rattle.mdcc_option.specs.declared.cluster.Cluster.{Cluster}
use Rattle.mdcc_struct.proofs.Reports.{first_mark, value_of-reported, enough_forced, forced_enough, cases_Option}
use Rattle.mdcc_struct.specs.Forced.{reports_with, ballot_reported, forced_of}
use Rattle.mdcc_struct.specs.Maps.{value_of}
use Rattle.mdcc_struct.specs.Options.{is_mark}
use Rattle.mdcc_struct.specs.declared.report.Report.{Report}
use Rattle.mdcc_def_ledger.specs.AllowedStructures.{are_distinct_centres}
use Rattle.mdcc_def_protocol.specs.Facts as full
use Rattle.mdcc_def_ledger.specs.Ledger as ledger
use Rattle.mdcc_theorem_agreement.proofs.BallotOrder.{Below-cases, Below-irrefl, Below-fast}
use Rattle.mdcc_theorem_agreement.proofs.Ballots.{fast, Below}
use Rattle.mdcc_theorem_agreement.proofs.StructuresExtend.{chain, backed, sent-last}
use Rattle.mdcc_theorem_agreement.proofs.LedgersGrow.{Allowed-tail, sent_tail, shown-voted}
use Rattle.mdcc_theorem_agreement.proofs.FloorsReduced.{report_marks}
use Rattle.mdcc_theorem_agreement.proofs.HeldReduced.{AllFine}
use Rattle.mdcc_theorem_agreement.proofs.ReportsCounted.{In-members, In-reports, length-reports, count-reports, top-there, top-most, Voices-in, Voices-out, reports-of}
use Rattle.mdcc_theorem_agreement.proofs.Reduction.{setup_of, reduced, facts_same}
use Rattle.mdcc_theorem_agreement.proofs.CentresCounted.{is_one_of, one_of-In, In-one_of, count-members, length-members}
use Rattle.mdcc_theorem_agreement.proofs.OneMark.{same_if_between}
use Rattle.mdcc_theorem_agreement.proofs.ForcedCounted.{first_mark-shows, first_mark-there}
use Rattle.mdcc_theorem_agreement.proofs.Setups.{Setup, IsSetup, centres_to, count}
use Rattle.mdcc_theorem_agreement.proofs.ReducedFacts.{greater, votes, voted_below, ReducedReport, report}
use Rattle.mdcc_theorem_agreement.proofs.ReducedForced.{top, IsForced}
use Rattle.mdcc_theorem_agreement.proofs.ReducedLedger.{Entry, IsTail, WasSent, facts_of, reports_of, members, last_sent, IsBacked, Allowed}
use Rattle.mdcc_theorem_agreement.proofs.ReducedOptions.{In, Place, mark_of, gives}
use Rattle.mdcc_theorem_agreement.proofs.ViewsReduced.{report_ballot}
use Rattle.mdcc_theorem_agreement.proofs.VotesOfFacts.{greater-left, greater-right, greater-cases, HasVoted-mark}
use Rattle.mdcc_theorem_agreement.proofs.TestsDecide.{Decides-ballot}

-- votes of one classic ballot agree, as they were at two moments
pub votes_agree : (s : Setup) (es : List Entry) → Allowed s es → (i : Place) (k : Ballot) → Below fast k → (old older : List Entry) → IsTail old es → IsTail older es → (a b : ℕ) (t : TxId) (x y : Mark) →
    mark_of t (votes (facts_of a old) i k) ≡ Some x → mark_of t (votes (facts_of b older) i k) ≡ Some y → x ≡ y
votes_agree s es allowed i k classic old older tail tail' a b t x y g h =
    let one : IsBacked old (facts_of a old) i k = backed s old a i k classic (Allowed-tail s old es tail allowed) (HasVoted-mark (facts_of a old) i k t x g) in
    let two : IsBacked older (facts_of b older) i k = backed s older b i k classic (Allowed-tail s older es tail' allowed) (HasVoted-mark (facts_of b older) i k t y h) in
    let sent : WasSent es i k one.marks = sent_tail i k one.marks old es tail one.sent in
    let sent' : WasSent es i k two.marks = sent_tail i k two.marks older es tail' two.sent in
    elim (cases_Option (last_sent es i k)) [
      | inl none ↦ absurd (sent-last es i k one.marks sent none)
      | inr last ↦
          let first : mark_of t last.0 ≡ Some x = chain s es i k last.0 one.marks allowed last.1 sent t x (one.within t x g) in
          let second : mark_of t last.0 ≡ Some y = chain s es i k last.0 two.marks allowed last.1 sent' t y (two.within t y h) in
          cc
    ]

-- the greatest ballot that is reported
fold_most : (acc : Ballot) (rs : List Report) (l : Ballot) → Below (fold (λ ballot report. ballot_max ballot report.ballot) acc rs) l → Below acc l × ((r : Report) → In r rs → Below r.ballot l)
fold_most acc [] l h = (h, (λ r g. absurd g))
fold_most acc (r ∷ rs) l h =
    let rest : Below (greater acc r.ballot) l × ((q : Report) → In q rs → Below q.ballot l) = fold_most (greater acc r.ballot) rs l h in (
      greater-left acc r.ballot l rest.0,
      (λ q g. elim g [
        | inl here ↦ subst (λ z. Below z.ballot l) here (greater-right acc r.ballot l rest.0)
        | inr there ↦ rest.1 q there
      ]),
    )

fold_there : (acc : Ballot) (rs : List Report) (k : Ballot) → fold (λ ballot report. ballot_max ballot report.ballot) acc rs ≡ k →
    (k ≡ acc) ⊎ ((r : Report) × In r rs × (r.ballot ≡ k))
fold_there acc [] k h = inl (sym h)
fold_there acc (r ∷ rs) k h =
    elim (fold_there (greater acc r.ballot) rs k h) [
      | inl is ↦ elim (greater-cases acc r.ballot) [ inl low ↦ inl (is ∙ low) | inr high ↦ inr (r, inl refl, sym (is ∙ high)) ]
      | inr there ↦ inr (there.0, inr there.1, there.2)
    ]

In-filter : (p : Report → Bool) (r : Report) (rs : List Report) → In r (filter p rs) → In r rs × (p r ≡ true)
In-filter p r [] h = absurd h
In-filter p r (q ∷ rs) h =
    elim (cases_Bool (p q)) [
      | inl e ↦
          let listed : (q ≡ r) ⊎ In r (filter p rs) = rw e at h in
          elim listed [
            | inl here ↦ (inl here, ap p (sym here) ∙ e)
            | inr there ↦ (inr (In-filter p r rs there).0, (In-filter p r rs there).1)
          ]
      | inr e ↦ (inr (In-filter p r rs (rw e at h)).0, (In-filter p r rs (rw e at h)).1)
    ]

filter-In : (p : Report → Bool) (r : Report) (rs : List Report) → In r rs → p r ≡ true → In r (filter p rs)
filter-In p r [] h e = h
filter-In p r (q ∷ rs) h e =
    elim h [
      | inl here ↦ (let now : p q ≡ true = ap p here ∙ e in rw now (inl here))
      | inr there ↦ elim (cases_Bool (p q)) [ inl f ↦ rw f (inr (filter-In p r rs there e)) | inr f ↦ rw f (filter-In p r rs there e) ]
    ]

module _ (cluster : Cluster) (es : List ledger.Entry) (allowed : Allowed (setup_of cluster) (reduced es)) (sizes : IsSetup (setup_of cluster))
    (i : Place) (m : Ballot) (above_fast : is_fast m ≡ false) (centres : List ℕ) (distinct : are_distinct_centres centres ≡ true)
    (within : (a : ℕ) → In a centres → In a (centres_to cluster.quorums.centres)) (many : cluster.quorums.classic ≤ length centres)
    (earlier : ℕ → List ledger.Entry) (before : (a : ℕ) → IsTail (reduced (earlier a)) (reduced es)) (fine : (a : ℕ) → AllFine (ledger.facts_of (earlier a) a)) where
  abbrev pub at_time : ℕ → List Entry
  at_time a = reduced (earlier a)

  abbrev pub told : ℕ → Report
  told a = full.report_of a (ledger.facts_of (earlier a) a) i.key i.version m

  abbrev reduced_told : ℕ → ReducedReport
  reduced_told a = report (facts_of a (reduced (earlier a))) i m

  told_ballot : (a : ℕ) → (reduced_told a).ballot ≡ (told a).ballot
  told_ballot a = ap (λ fs. (report fs i m).ballot) (facts_same a (earlier a)) ∙ report_ballot a a (ledger.facts_of (earlier a) a) i m

  told_marks : (a : ℕ) (t : TxId) → mark_of t (reduced_told a).marks ≡ value_of (told a).votes t
  told_marks a t = ap (λ fs. mark_of t (report fs i m).marks) (facts_same a (earlier a)) ∙ report_marks a (ledger.facts_of (earlier a) a) (fine a) i m t above_fast

  abbrev pub all_told : List ℕ → List Report
  all_told cs = map told cs

  abbrev pub chosen_set : ℕ → Bool
  chosen_set a = is_one_of centres a

  abbrev reduced_reports : List ReducedReport
  reduced_reports = reports_of at_time i m (members chosen_set (centres_to cluster.quorums.centres))

  told_from : (cs : List ℕ) (r : Report) → In r (all_told cs) → (a : ℕ) × In a cs × (told a ≡ r)
  told_from [] r h = absurd h
  told_from (c ∷ cs) r h =
      elim h [ inl here ↦ (c, inl refl, here) | inr there ↦ (let k : (a : ℕ) × In a cs × (told a ≡ r) = told_from cs r there in (k.0, inr k.1, k.2)) ]

  told_In : (cs : List ℕ) (a : ℕ) → In a cs → In (told a) (all_told cs)
  told_In [] a h = h
  told_In (c ∷ cs) a h = elim h [ inl here ↦ inl (ap told here) | inr there ↦ inr (told_In cs a there) ]

  reduced_In : (a : ℕ) → In a centres → In (reduced_told a) reduced_reports
  reduced_In a h = In-reports at_time i m a (members chosen_set (centres_to cluster.quorums.centres))
      (In-members chosen_set a (centres_to cluster.quorums.centres) (within a h) (In-one_of a centres h))

  pub same_top : top reduced_reports ≡ ballot_reported (all_told centres)
  same_top =
      same_if_between (top reduced_reports) (ballot_reported (all_told centres))
      (λ under. elim (fold_there fast (all_told centres) (ballot_reported (all_told centres)) refl) [
        | inl is_fast ↦ Below-fast (top reduced_reports) (subst (Below (top reduced_reports)) is_fast under)
        | inr there ↦
            let a : (b : ℕ) × In b centres × (told b ≡ there.0) = told_from centres there.0 there.1 in
            let ballot : (reduced_told a.0).ballot ≡ ballot_reported (all_told centres) = told_ballot a.0 ∙ ap (λ z. z.ballot) a.2 ∙ there.2 in
            top-most (reduced_told a.0) reduced_reports (reduced_In a.0 a.1) (subst (Below (top reduced_reports)) (sym ballot) under)
      ])
      (λ over. elim (top-there at_time i m chosen_set (top reduced_reports) (centres_to cluster.quorums.centres) refl) [
        | inl is_fast ↦ Below-fast (ballot_reported (all_told centres)) (subst (Below (ballot_reported (all_told centres))) is_fast over)
        | inr there ↦
            let below : Below (told there.0).ballot (top reduced_reports) =
            (fold_most fast (all_told centres) (top reduced_reports) over).1 (told there.0) (told_In centres there.0 (one_of-In there.0 centres there.2)) in
            let same : (told there.0).ballot ≡ top reduced_reports = sym (told_ballot there.0) ∙ there.3 in
            Below-irrefl (top reduced_reports) (subst (λ z. Below z (top reduced_reports)) same below)
      ])

  same_length : length reduced_reports ≡ length centres
  same_length = length-reports at_time i m chosen_set (centres_to cluster.quorums.centres) ∙ length-members cluster.quorums.centres centres distinct within

  told_length : (cs : List ℕ) → length (all_told cs) ≡ length cs
  told_length [] = refl
  told_length (c ∷ cs) = omega (arith, told_length cs)

  told_count : (t : TxId) (x : Mark) (cs : List ℕ) → reports_with (all_told cs) t x ≡ count (λ a. gives (reduced_told a).marks t x) cs
  told_count t x [] = refl
  told_count t x (c ∷ cs) = rw (told_marks c t, told_count t x cs) (flipped (value_of (told c).votes t))
    where
      flipped : (o : Option Mark) → cond (is_mark x o) 1 0 + count (λ a. gives (reduced_told a).marks t x) cs ≡ cond (is_mark x o) 1 0 + count (λ a. gives (reduced_told a).marks t x) cs
      flipped None = refl
      flipped (Some y) = refl

  same_count : (t : TxId) (x : Mark) → count (λ r. gives r.marks t x) reduced_reports ≡ reports_with (all_told centres) t x
  same_count t x =
      count-reports at_time i m chosen_set t x (centres_to cluster.quorums.centres)
      ∙ count-members cluster.quorums.centres (λ a. gives (reduced_told a).marks t x) centres distinct within
      ∙ sym (told_count t x centres)

  abbrev least : ℕ
  least = cluster.quorums.fast + length (all_told centres) - cluster.quorums.centres

  abbrev at_top : Report → Bool
  at_top r = ballot_eq r.ballot (ballot_reported (all_told centres))

  pub forced_there : (t : TxId) (x : Mark) → IsForced (setup_of cluster) reduced_reports t x → value_of (forced_of cluster.quorums (all_told centres)) t ≡ Some x
  forced_there t x h =
      elim h [
        | inl by_count ↦
            let is_fast : ballot_eq (ballot_reported (all_told centres)) fast ≡ true = (Decides-ballot (ballot_reported (all_told centres)) fast).1 (sym same_top ∙ by_count.0) in
            let enough : cluster.quorums.fast + length reduced_reports ≤ cluster.quorums.centres + count (λ r. gives r.marks t x) reduced_reports = by_count.1 in
            let number : length (all_told centres) ≡ length centres = told_length centres in
            let f : cluster.quorums.fast ≤ cluster.quorums.centres = sizes.fast_within in
            let two : 2 * cluster.quorums.centres < 2 * cluster.quorums.fast + cluster.quorums.classic = sizes.two_fast in
            rw is_fast (enough_forced (all_told centres) least t x (omega (arith, many)) (omega (arith, same_count t x, same_length)))
        | inr by_union ↦
            let classic : ballot_eq (ballot_reported (all_told centres)) fast ≡ false = elim (cases_Bool (ballot_eq (ballot_reported (all_told centres)) fast)) [
              | inl e ↦ absurd (Below-irrefl fast (subst (Below fast) (same_top ∙ (Decides-ballot (ballot_reported (all_told centres)) fast).0 e) by_union.0))
              | inr e ↦ e
            ] in
            let voice : (r : ReducedReport) × In r reduced_reports × (r.ballot ≡ top reduced_reports) × (mark_of t r.marks ≡ Some x) = Voices-out (top reduced_reports) t x reduced_reports by_union.1 in
            let a : (b : ℕ) × (chosen_set b ≡ true) × (reduced_told b ≡ voice.0) = reports-of at_time i m chosen_set voice.0 (centres_to cluster.quorums.centres) voice.1 in
            let ballot : (reduced_told a.0).ballot ≡ top reduced_reports = ap (λ z. z.ballot) a.2 ∙ voice.2 in
            let given : mark_of t (reduced_told a.0).marks ≡ Some x = ap (λ z. mark_of t z.marks) a.2 ∙ voice.3 in
            let listed : In (told a.0) (filter at_top (all_told centres)) = filter-In at_top (told a.0) (all_told centres) (told_In centres a.0 (one_of-In a.0 centres a.1))
            ((Decides-ballot (told a.0).ballot (ballot_reported (all_told centres))).1 (sym (told_ballot a.0) ∙ ballot ∙ same_top)) in
            let some : (y : Mark) × (first_mark (filter at_top (all_told centres)) t ≡ Some y) = first_mark-there (filter at_top (all_told centres)) t (told a.0) x listed (sym (told_marks a.0 t) ∙ given) in
            let other : (r : Report) × In r (filter at_top (all_told centres)) × (value_of r.votes t ≡ Some some.0) = first_mark-shows (filter at_top (all_told centres)) t some.0 some.1 in
            let passed : In other.0 (all_told centres) × (at_top other.0 ≡ true) = In-filter at_top other.0 (all_told centres) other.1 in
            let b : (c : ℕ) × In c centres × (told c ≡ other.0) = told_from centres other.0 passed.0 in
            let ballot_b : (reduced_told b.0).ballot ≡ top reduced_reports =
            told_ballot b.0 ∙ ap (λ z. z.ballot) b.2 ∙ (Decides-ballot other.0.ballot (ballot_reported (all_told centres))).0 passed.1 ∙ sym same_top in
            let given_b : mark_of t (reduced_told b.0).marks ≡ Some some.0 = told_marks b.0 t ∙ ap (λ z. value_of z.votes t) b.2 ∙ other.2 in
            let voted : mark_of t (votes (facts_of a.0 (at_time a.0)) i (voted_below (facts_of a.0 (at_time a.0)) i m)) ≡ Some x =
            shown-voted (facts_of a.0 (at_time a.0)) i t x (votes (facts_of a.0 (at_time a.0)) i (voted_below (facts_of a.0 (at_time a.0)) i m)) given in
            let voted_b : mark_of t (votes (facts_of b.0 (at_time b.0)) i (voted_below (facts_of b.0 (at_time b.0)) i m)) ≡ Some some.0 =
            shown-voted (facts_of b.0 (at_time b.0)) i t some.0 (votes (facts_of b.0 (at_time b.0)) i (voted_below (facts_of b.0 (at_time b.0)) i m)) given_b in
            let same : x ≡ some.0 = votes_agree (setup_of cluster) (reduced es) allowed i (top reduced_reports) by_union.0 (at_time a.0) (at_time b.0) (before a.0) (before b.0) a.0 b.0 t x some.0
            (subst (λ k. mark_of t (votes (facts_of a.0 (at_time a.0)) i k) ≡ Some x) ballot voted)
            (subst (λ k. mark_of t (votes (facts_of b.0 (at_time b.0)) i k) ≡ Some some.0) ballot_b voted_b) in
            rw classic (value_of-reported (filter at_top (all_told centres)) t ∙ some.1 ∙ ap Some (sym same))
      ]

  pub there_forced : (t : TxId) (x : Mark) → value_of (forced_of cluster.quorums (all_told centres)) t ≡ Some x → IsForced (setup_of cluster) reduced_reports t x
  there_forced t x h =
      elim (cases_Bool (ballot_eq (ballot_reported (all_told centres)) fast)) [
        | inl e ↦
            let number : length (all_told centres) ≡ length centres = told_length centres in
            let f : cluster.quorums.fast ≤ cluster.quorums.centres = sizes.fast_within in
            let enough : least ≤ reports_with (all_told centres) t x = forced_enough (all_told centres) least t x (rw e at h) in
            inl (same_top ∙ (Decides-ballot (ballot_reported (all_told centres)) fast).0 e, omega (arith, same_count t x, same_length))
        | inr e ↦
            let first : first_mark (filter at_top (all_told centres)) t ≡ Some x = sym (value_of-reported (filter at_top (all_told centres)) t) ∙ (rw e at h) in
            let other : (r : Report) × In r (filter at_top (all_told centres)) × (value_of r.votes t ≡ Some x) = first_mark-shows (filter at_top (all_told centres)) t x first in
            let passed : In other.0 (all_told centres) × (at_top other.0 ≡ true) = In-filter at_top other.0 (all_told centres) other.1 in
            let b : (c : ℕ) × In c centres × (told c ≡ other.0) = told_from centres other.0 passed.0 in
            let ballot_b : (reduced_told b.0).ballot ≡ top reduced_reports =
            told_ballot b.0 ∙ ap (λ z. z.ballot) b.2 ∙ (Decides-ballot other.0.ballot (ballot_reported (all_told centres))).0 passed.1 ∙ sym same_top in
            let given_b : mark_of t (reduced_told b.0).marks ≡ Some x = told_marks b.0 t ∙ ap (λ z. value_of z.votes t) b.2 ∙ other.2 in
            inr (
              elim (Below-cases fast (top reduced_reports)) [
                | inl classic ↦ classic
                | inr rest ↦ elim rest [
                  | inl same ↦ absurd (false≢true (sym e ∙ (Decides-ballot (ballot_reported (all_told centres)) fast).1 (sym same_top ∙ sym same)))
                  | inr below ↦ absurd (Below-fast (top reduced_reports) below)
                ]
              ],
              Voices-in (reduced_told b.0) reduced_reports (top reduced_reports) t x (reduced_In b.0 b.1) ballot_b given_b,
            )
      ]
