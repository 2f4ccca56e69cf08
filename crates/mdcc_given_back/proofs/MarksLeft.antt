-- Marks that are not forgotten are those that the facts that are left vote.
use Rattle.std.proofs.Common.{◌≡◌, ◌==◌, ◌&&◌, ◌||◌, ◌≤◌, ℕ, Bool, true, false, List, [], ◌∷◌, Option, Some, None, is_some, refl, sym, ap, ◌∙◌, inl, inr, arith, length}
use Rattle.std.proofs.Math.Path.{fun_ext}
use Rattle.std.specs.List.{AllByRecursion, list_any}
use Rattle.std.specs.Option.{option_and_then, option_map, option_or}
use Rattle.std.specs.Prelude.{filter, find, if◌then◌else◌, min, nat_lt, not, slice_get, ◌^◌, ◌-◌}
use Rattle.std.proofs.lemmas.Bool.{and_from, and_parts, cases_Bool}
use Rattle.std.proofs.lemmas.Bool.Decides.{nat_tests}
use Rattle.mdcc_base.specs.Ballot.{ballot_eq, fast_ballot, is_fast}
use Rattle.mdcc_base.specs.Counts.{number_of}
use Rattle.mdcc_base.specs.Key.{key_eq}
use Rattle.mdcc_base.specs.TxId.{tx_eq}
use Rattle.mdcc_base.specs.declared.identifiers.Ballot.{Ballot}
use Rattle.mdcc_base.specs.declared.identifiers.TxId.{TxId}
use Rattle.mdcc_base.specs.declared.key.Key.{Key}
use Rattle.mdcc_option.specs.declared.choices.Choice.{Choice}
use Rattle.mdcc_option.specs.declared.choices.Mark.{Mark}
use Rattle.mdcc_struct.specs.Maps.{value_of}
use Rattle.mdcc_struct.specs.declared.options.Options.{Options}
use Rattle.mdcc_struct.specs.declared.report.Report.{Report}
use Rattle.mdcc_struct.proofs.Order.{tx_eq-same}
use Rattle.mdcc_def_messages.specs.declared.facts.Fact.{Fact}
use Rattle.mdcc_def_protocol.specs.Facts.{choice_of_tx, choice_voted, current_of, first_choice_voted, is_finished, is_forgotten, last_ballot, last_vote, later_vote, mark_voted, marks_voted, shown_of, votes_of, without_forgotten}
use Rattle.mdcc_def_protocol.specs.Marks.{accepts_in, rejects_in}
use Rattle.mdcc_def_protocol.specs.Stores.{is_above}
use Rattle.mdcc_given_back.specs.Offers.{offers_unmarked}
use Rattle.mdcc_facts.specs.Past.{is_past_mark}
use Rattle.mdcc_theorem_fact_folds.proofs.Chosen.{or_right}
use Rattle.mdcc_theorem_fact_folds.proofs.Folded.{gathered}
use Rattle.mdcc_theorem_fact_folds.proofs.Joined.{votes-joined}
use Rattle.mdcc_given_back.specs.Marks.{ChoiceByRest, ChoiceStays, CountPastByRest, CountPastStays, EntriesAtStay, EntriesByRest, EntriesByShown, EntriesStay, MarkAfterStays, MarkBelowStays, ReportByRest, ReportStays, ShownByRest, ShownStays, VoteByRest, VoteStays}
use Rattle.mdcc_given_back.specs.Rest.{IsRest, bare, is_bared, is_dropped, is_vote_past}
use Rattle.mdcc_given_back.proofs.Alike.{AnyFact, each, kept-alike, rest-says, value-alike}
use Rattle.mdcc_given_back.proofs.FirstHeard.{not-true}
use Rattle.mdcc_given_back.proofs.FloorsLeft.{finished-stays}
use Rattle.mdcc_given_back.proofs.PastVotes.{bared-same, dropped-none, past-here}
use Rattle.mdcc_given_back.proofs.VersionsLeft.{forgotten-stays}
use Rattle.mdcc_given_back.proofs.Walked.{ballot-stays}

-- ---- the last mark of a transaction

later-none : (o : Option (Ballot × Mark)) → later_vote o None ≡ o
later-none None = refl
later-none (Some vote) = refl

last-votes : (facts : List Fact) (key : Key) (version : ℕ) (tx : TxId) → last_vote facts key version tx ≡ gathered later_vote None (mark_voted key version tx) facts
last-votes [] key version tx = refl
last-votes (fact ∷ facts) key version tx = ap (λ o. later_vote o (mark_voted key version tx fact)) (last-votes facts key version tx)

module _ (all : List Fact) (key : Key) (version : ℕ) (tx : TxId) (shown : is_forgotten all key version tx ≡ false) where
  no-mark : (k : Key) (v : ℕ) (b : Ballot) (options : Options) (offered : Option Choice) → AnyFact (Fact.Voted k v b options offered)
      → is_vote_past all k v options ≡ true → mark_voted key version tx (Fact.Voted k v b options offered) ≡ None
  no-mark k v b options offered p past = elim (cases_Bool (v == version && key_eq k key)) [
    | inl same ↦ rw (same, past-here all k key v version options tx same past shown) refl
    | inr other ↦ rw other refl
  ]

  pub last-alike : (rest : List Fact) → IsRest rest all → last_vote rest key version tx ≡ last_vote all key version tx
  last-alike rest is =
      last-votes rest key version tx
      ∙ rest-says later_vote None later-none (mark_voted key version tx) all AnyFact
      (dropped-none None (mark_voted key version tx) all AnyFact (λ k v b. tt) no-mark (λ t o. refl) (λ k v item adds. refl) (λ c e n. refl))
      (bared-same None (mark_voted key version tx) all AnyFact (λ k v b. tt) no-mark (λ t o. refl) (λ k v item adds. refl) (λ c e n. refl))
      rest all (each AnyFact (λ fact. tt) all) is
      ∙ sym (last-votes all key version tx)

unless-forgotten : {X : Type 0} (gone : Bool) (a b : Option X) → (gone ≡ false → a ≡ b) → (if gone then None else b) ≡ (if gone then None else a)
unless-forgotten true a b h = refl
unless-forgotten false a b h = sym (h refl)

pub vote-by-rest : VoteByRest
vote-by-rest rest facts key version tx is =
    unless-forgotten (is_forgotten facts key version tx) (last_vote rest key version tx) (last_vote facts key version tx)
    (λ shown. last-alike facts key version tx shown rest is)

pub vote-stays : VoteStays
vote-stays rest facts key version tx is once =
    ap (λ (b : Bool). if b then None else last_vote rest key version tx) (forgotten-stays rest facts key version tx is once)
    ∙ sym (vote-by-rest rest facts key version tx is)

-- ---- the first choice

abbrev IsMarked : Fact → Type 0
IsMarked fact = offers_unmarked fact ≡ false

pub marked : (facts : List Fact) → list_any offers_unmarked facts ≡ false → AllByRecursion IsMarked facts
marked [] h = tt
marked (fact ∷ facts) h = elim (cases_Bool (offers_unmarked fact)) [
  | inl does ↦ absurd (let bad : true ≡ false = rw does at h in cc)
  | inr does_not ↦ let others : list_any offers_unmarked facts ≡ false = rw does_not at h in (does_not, marked facts others)
]

choices : (facts : List Fact) (key : Key) (version : ℕ) (tx : TxId) → first_choice_voted facts key version tx ≡ gathered option_or None (choice_voted key version tx) facts
choices [] key version tx = refl
choices (fact ∷ facts) key version tx = ap (λ o. option_or o (choice_voted key version tx fact)) (choices facts key version tx)

-- an offer is of another transaction where the vote has no mark of this one
pub other-offer : (options : Options) (choice : Choice) (tx : TxId) → not (is_some (value_of options choice.tx)) ≡ false → value_of options tx ≡ None
    → tx_eq choice.tx tx ≡ false
other-offer options choice tx has none = elim (cases_Bool (tx_eq choice.tx tx)) [
  | inl same ↦
      let unmarked : is_some (value_of options choice.tx) ≡ false = ap (λ t. is_some (value_of options t)) (tx_eq-same choice.tx tx same) ∙ ap (λ o. is_some o) none in
      absurd (let bad : true ≡ false = sym (ap not unmarked) ∙ has in cc)
  | inr other ↦ other
]

no-offer : (k : Key) (v : ℕ) (b : Ballot) (options : Options) (offered : Option Choice) (tx : TxId) → offers_unmarked (Fact.Voted k v b options offered) ≡ false
    → value_of options tx ≡ None → option_and_then (choice_of_tx tx) offered ≡ None
no-offer k v b options None tx has none = refl
no-offer k v b options (Some choice) tx has none = rw (other-offer options choice tx has none) refl

module _ (all : List Fact) (key : Key) (version : ℕ) (tx : TxId) (shown : is_forgotten all key version tx ≡ false) where
  no-choice : (k : Key) (v : ℕ) (b : Ballot) (options : Options) (offered : Option Choice) → IsMarked (Fact.Voted k v b options offered)
      → is_vote_past all k v options ≡ true → choice_voted key version tx (Fact.Voted k v b options offered) ≡ None
  no-choice k v b options offered p past = elim (cases_Bool (v == version && key_eq k key)) [
    | inl same ↦
        let none : value_of options tx ≡ None = past-here all k key v version options tx same past shown in
        rw (same, none, no-offer k v b options offered tx p none) refl
    | inr other ↦ rw other refl
  ]

  pub choice-alike : (rest : List Fact) → IsRest rest all → AllByRecursion IsMarked all → first_choice_voted rest key version tx ≡ first_choice_voted all key version tx
  choice-alike rest is ps =
      choices rest key version tx
      ∙ rest-says option_or None or_right (choice_voted key version tx) all IsMarked
      (dropped-none None (choice_voted key version tx) all IsMarked (λ k v b. refl) no-choice (λ t o. refl) (λ k v item adds. refl) (λ c e n. refl))
      (bared-same None (choice_voted key version tx) all IsMarked (λ k v b. refl) no-choice (λ t o. refl) (λ k v item adds. refl) (λ c e n. refl))
      rest all ps is
      ∙ sym (choices all key version tx)

pub choice-by-rest : ChoiceByRest
choice-by-rest rest facts key version tx is has =
    unless-forgotten (is_forgotten facts key version tx) (first_choice_voted rest key version tx) (first_choice_voted facts key version tx)
    (λ shown. choice-alike facts key version tx shown rest is (marked facts has))

pub choice-stays : ChoiceStays
choice-stays rest facts key version tx is once has =
    ap (λ (b : Bool). if b then None else first_choice_voted rest key version tx) (forgotten-stays rest facts key version tx is once)
    ∙ sym (choice-by-rest rest facts key version tx is has)

-- ---- the marks at a ballot

instance-of : (v version : ℕ) (b ballot : Ballot) (k key : Key) → (v == version && ballot_eq b ballot && key_eq k key) ≡ true → (v == version && key_eq k key) ≡ true
instance-of v version b ballot k key h =
    let parts = and_parts (v == version && ballot_eq b ballot) (key_eq k key) h in
    and_from (v == version) (key_eq k key) (and_parts (v == version) (ballot_eq b ballot) parts.0).0 parts.1

module _ (all : List Fact) (key : Key) (version : ℕ) (ballot : Ballot) (keep : TxId → Bool)
    (shown : (tx : TxId) → keep tx ≡ true → is_forgotten all key version tx ≡ false) where
  abbrev has : TxId → Fact → Option Mark
  has tx fact = value_of (marks_voted key version ballot fact) tx

  no-marks : (tx : TxId) → keep tx ≡ true → (k : Key) (v : ℕ) (b : Ballot) (options : Options) (offered : Option Choice)
      → AnyFact (Fact.Voted k v b options offered) → is_vote_past all k v options ≡ true → has tx (Fact.Voted k v b options offered) ≡ None
  no-marks tx kept k v b options offered p past = elim (cases_Bool (v == version && ballot_eq b ballot && key_eq k key)) [
    | inl same ↦ rw same (past-here all k key v version options tx (instance-of v version b ballot k key same) past (shown tx kept))
    | inr other ↦ rw other refl
  ]

  marks-dropped : (fact : Fact) → AnyFact fact → is_dropped all fact ≡ true → (tx : TxId) → keep tx ≡ true → has tx fact ≡ None
  marks-dropped fact p h tx kept =
      dropped-none None (has tx) all AnyFact (λ k v b. tt) (no-marks tx kept) (λ t o. refl) (λ k v item adds. refl) (λ c e n. refl) fact p h

  marks-bared : (fact : Fact) → AnyFact fact → is_bared all fact ≡ true → (tx : TxId) → keep tx ≡ true → has tx (bare fact) ≡ has tx fact
  marks-bared fact p h tx kept =
      bared-same None (has tx) all AnyFact (λ k v b. tt) (no-marks tx kept) (λ t o. refl) (λ k v item adds. refl) (λ c e n. refl) fact p h

  pub marks-alike : (rest : List Fact) → IsRest rest all → filter (λ e. keep e.0) (votes_of rest key version ballot) ≡ filter (λ e. keep e.0) (votes_of all key version ballot)
  marks-alike rest is =
      ap (filter (λ e. keep e.0)) (votes-joined key version ballot rest)
      ∙ kept-alike (marks_voted key version ballot) keep all AnyFact marks-dropped marks-bared rest all (each AnyFact (λ fact. tt) all) is
      ∙ sym (ap (filter (λ e. keep e.0)) (votes-joined key version ballot all))

  pub mark-alike : (rest : List Fact) → IsRest rest all → (tx : TxId) → keep tx ≡ true
      → value_of (votes_of rest key version ballot) tx ≡ value_of (votes_of all key version ballot) tx
  mark-alike rest is tx kept =
      ap (λ m. value_of m tx) (votes-joined key version ballot rest)
      ∙ value-alike (marks_voted key version ballot) keep all AnyFact marks-dropped marks-bared rest all (each AnyFact (λ fact. tt) all) is tx kept
      ∙ sym (ap (λ m. value_of m tx) (votes-joined key version ballot all))

pub shown-by-rest : ShownByRest
shown-by-rest rest facts key version ballot is =
    sym (marks-alike facts key version ballot (λ tx. not (is_forgotten facts key version tx)) (λ tx kept. not-true (is_forgotten facts key version tx) kept) rest is)

pub shown-stays : ShownStays
shown-stays rest facts key version ballot is once =
    ap (λ (gone : TxId → Bool). filter (λ e. not (gone e.0)) (votes_of rest key version ballot)) (fun_ext (λ tx. forgotten-stays rest facts key version tx is once))
    ∙ sym (shown-by-rest rest facts key version ballot is)

-- ---- reports

abbrev report_with : ℕ → Ballot → Ballot → Options → Report
report_with centre below ballot votes = record { centre = centre; ballot = ballot; votes = if is_fast below then [] else votes }

pub report-stays : ReportStays
report-stays rest facts centre key version below is once =
    ap (λ ballot. report_with centre below ballot (shown_of rest key version ballot)) (ballot-stays rest facts key version below is)
    ∙ ap (report_with centre below (last_ballot facts key version below)) (shown-stays rest facts key version (last_ballot facts key version below) is once)

pub report-by-rest : ReportByRest
report-by-rest rest facts centre key version below is =
    ap (report_with centre below (last_ballot facts key version below)) (shown-by-rest rest facts key version (last_ballot facts key version below) is)
    ∙ sym (ap (λ ballot. report_with centre below ballot (without_forgotten facts key version (votes_of rest key version ballot)))
    (ballot-stays rest facts key version below is))

pub mark_below-stays : MarkBelowStays
mark_below-stays rest facts key version below place is once =
    ap (λ (r : Report). option_map (λ e. (r.ballot, e.0, e.1)) (slice_get r.votes place)) (report-stays rest facts 0 key version below is once)

pub mark_after-stays : MarkAfterStays
mark_after-stays rest facts key version below last is once =
    ap (λ (r : Report). option_map (λ e. (r.ballot, e.0, e.1)) (find (λ e. is_above last e.0) r.votes)) (report-stays rest facts 0 key version below is once)

-- ---- counts

abbrev counts_of : Options → ℕ × ℕ
counts_of votes = (length (accepts_in votes), length (rejects_in votes))

pub entries-stay : EntriesStay
entries-stay rest facts key version is once = ap counts_of (shown-stays rest facts key version fast_ballot is once)

pub entries_at-stay : EntriesAtStay
entries_at-stay rest facts key version is once =
    ap (λ (e : ℕ × ℕ). (min e.0 (2 ^ 32 - 1), min e.1 (2 ^ 32 - 1))) (entries-stay rest facts key version is once)

not-below : (version current : ℕ) → current ≤ version → nat_lt version current ≡ false
not-below version current up = grind (arith, nat_tests, up)

and-false : (a b : Bool) → b ≡ false → (a && b) ≡ false
and-false true b h = h
and-false false b h = refl

pub none-forgotten : (facts : List Fact) (key : Key) (version : ℕ) → current_of facts key ≤ version → is_forgotten facts key version ≡ (λ tx. false)
none-forgotten facts key version up =
    fun_ext (λ tx. and-false (is_finished facts tx) (nat_lt version (current_of facts key)) (not-below version (current_of facts key) up))

pub filter-all : {X : Type 0} (xs : List X) → filter (λ x. true) xs ≡ xs
filter-all [] = refl
filter-all (x ∷ xs) = ap (λ z. x ∷ z) (filter-all xs)

pub entries-by-rest : EntriesByRest
entries-by-rest rest facts key version is up =
    ap counts_of
    (shown-by-rest rest facts key version fast_ballot is
    ∙ ap (λ (gone : TxId → Bool). filter (λ e. not (gone e.0)) (votes_of rest key version fast_ballot)) (none-forgotten facts key version up)
    ∙ filter-all (votes_of rest key version fast_ballot))

-- an unfinished transaction has no forgotten mark
past-alike : (rest facts : List Fact) (key : Key) (version : ℕ) (ballot : Ballot) (tx : TxId)
    → IsRest rest facts → is_past_mark rest key version ballot tx ≡ is_past_mark facts key version ballot tx
past-alike rest facts key version ballot tx is = by (is_finished facts tx) refl
  where
    or-true : (a : Bool) → (a || true) ≡ true
    or-true true = refl
    or-true false = refl

    by : (finished : Bool) → is_finished facts tx ≡ finished → is_past_mark rest key version ballot tx ≡ is_past_mark facts key version ballot tx
    by true h =
        ap (λ b. is_some (value_of (votes_of rest key version ballot) tx) || b) (finished-stays rest facts tx is ∙ h)
        ∙ or-true (is_some (value_of (votes_of rest key version ballot) tx))
        ∙ sym (ap (λ b. is_some (value_of (votes_of facts key version ballot) tx) || b) h ∙ or-true (is_some (value_of (votes_of facts key version ballot) tx)))
    by false h =
        ap (λ b. is_some (value_of (votes_of rest key version ballot) tx) || b) (finished-stays rest facts tx is)
        ∙ ap (λ o. is_some o || is_finished facts tx)
        (mark-alike facts key version ballot (λ t. not (is_finished facts t))
        (λ t kept. ap (λ b. b && nat_lt version (current_of facts key)) (not-true (is_finished facts t) kept)) rest is tx (ap not h))

pub count_past-stays : CountPastStays
count_past-stays rest facts key version ballot options is =
    ap (λ (test : TxId → Bool). number_of (λ e. test e.0) options) (fun_ext (λ tx. past-alike rest facts key version ballot tx is))

pub count_past-by-rest : CountPastByRest
count_past-by-rest rest facts key version ballot options is =
    sym (count_past-stays rest facts key version ballot options is)
    ∙ ap (λ (test : TxId → Bool). number_of (λ e. is_some (value_of (votes_of rest key version ballot) e.0) || test e.0) options)
    (fun_ext (λ tx. finished-stays rest facts tx is))

pub entries-by-shown : EntriesByShown
entries-by-shown rest facts key version is = ap counts_of (shown-by-rest rest facts key version fast_ballot is)
