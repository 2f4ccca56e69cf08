-- Where no mark was voted twice at its ballot, each mark of a fact counts.
use Rattle.std.proofs.lemmas.List.Sums.{fold-append}
use Rattle.mdcc_facts.proofs.Weighing.{marks_counted}
use Rattle.std.proofs.Common.{◌≡◌, ℕ, ◌+◌, Bool, true, false, List, [], ◌∷◌, Option, Some, None, is_some, refl, sym, ap, ◌∙◌, arith, inl, inr, fold, add-zero, zero-add, ◌++◌}
use Rattle.std.specs.List.{list_all, list_any}
use Rattle.std.specs.Option.{option_or}
use Rattle.std.specs.Prelude.{filter, if◌then◌else◌, not, ◌&&◌, ◌==◌}
use Rattle.std.proofs.lemmas.Bool.{and_parts, cases_Bool, eqb-true}
use Rattle.mdcc_base.specs.Ballot.{ballot_eq, fast_ballot}
use Rattle.mdcc_base.specs.Counts.{number_of}
use Rattle.mdcc_base.specs.Key.{key_eq}
use Rattle.mdcc_base.specs.TxId.{tx_eq}
use Rattle.mdcc_base.specs.declared.identifiers.Ballot.{Ballot}
use Rattle.mdcc_base.specs.declared.identifiers.TxId.{TxId}
use Rattle.mdcc_base.specs.declared.key.Key.{Key}
use Rattle.mdcc_option.proofs.Equal.{Decides-key}
use Rattle.mdcc_struct.proofs.Order.{tx_eq-same}
use Rattle.mdcc_struct.proofs.Values.{value_of-union}
use Rattle.mdcc_struct.proofs.Votes.{ballot_eq-same}
use Rattle.mdcc_struct.specs.Maps.{TxMap, union, value_of, are_ascending}
use Rattle.mdcc_struct.specs.declared.options.Options.{Options}
use Rattle.mdcc_def_messages.specs.declared.facts.Fact.{Fact}
use Rattle.mdcc_def_protocol.specs.Facts.{marks_voted, votes_of}
use Rattle.mdcc_def_protocol.specs.Stores.{count_voted}
use Rattle.mdcc_def_protocol.specs.Plain.{plain_entries_at}
use Rattle.mdcc_facts.specs.Adding.{is_voted_before}
use Rattle.mdcc_facts.specs.Listed.{are_voted_once}
use Rattle.mdcc_facts.specs.Weights.{with_mark}
use Rattle.mdcc_theorem_fact_folds.specs.Chains.{is_vote_in}
use Rattle.mdcc_theorem_fact_folds.specs.Live.{CountByFold, CountInChain, EntriesByFold, entries_walk, first_marks, is_ordered, with_count, with_fact_marks, EntriesUpdate}
use Rattle.mdcc_theorem_fact_folds.specs.New.{entries_beside}
use Rattle.mdcc_theorem_fact_folds.proofs.Ignored.{left_out, no_marks}
use Rattle.mdcc_theorem_fact_folds.proofs.Joined.{votes-chain}
use Rattle.mdcc_struct.proofs.Inclusion.{same_found}
use Rattle.mdcc_struct.proofs.Walks.{ascending-union}
use Rattle.mdcc_theorem_fact_folds.specs.Votes.{VotesByJoin, with_marks}
use Rattle.mdcc_theorem_fact_folds.proofs.Chosen.{or_assoc, or_right}
use Rattle.mdcc_theorem_fact_folds.proofs.Loads.{walk-entries, AreAlike, entries-alike, votes-alike}
use Rattle.mdcc_theorem_fact_folds.proofs.New.{new-beside, firsts, sum-append}
use Rattle.mdcc_theorem_fact_folds.proofs.Sorted.{marks-ascend, well_formed-ordered}

-- a map has the transaction of an entry
abbrev has : {X Y : Type 0} → TxMap X → TxId × Y → Bool
has m e = is_some (value_of m e.0)

abbrev bit : Bool → ℕ
bit test = if test then 1 else 0

not_true : (b : Bool) → not b ≡ true → b ≡ false
not_true false h = refl
not_true true h = absurd (cc)

-- ---- the marks of a fact are apart from those before

module _ (facts : List Fact) (fact : Fact) (once : are_voted_once (fact ∷ facts) ≡ true) where
  parts : (not (is_voted_before facts fact) ≡ true) × (are_voted_once facts ≡ true)
  parts = and_parts (not (is_voted_before facts fact)) (are_voted_once facts) once

  pub older-once : are_voted_once facts ≡ true
  older-once = parts.1

  pub not_before : is_voted_before facts fact ≡ false
  not_before = not_true (is_voted_before facts fact) parts.0

voted-apart : (facts : List Fact) (fact : Fact) (key : Key) (version : ℕ) (ballot : Ballot) → is_voted_before facts fact ≡ false
    → list_any (has (votes_of facts key version ballot)) (marks_voted key version ballot fact) ≡ false
voted-apart facts (Fact.Booted epoch) key version ballot h = refl
voted-apart facts (Fact.Floor origin era upto) key version ballot h = refl
voted-apart facts (Fact.Promised k low high b) key version ballot h = refl
voted-apart facts (Fact.Voted k v b options offered) key version ballot h = by (v == version && ballot_eq b ballot && key_eq k key) refl
  where
    by : (test : Bool) → (v == version && ballot_eq b ballot && key_eq k key) ≡ test → list_any (has (votes_of facts key version ballot)) (if test then options else []) ≡ false
    by false is = refl
    by true is =
        let parts = and_parts (v == version && ballot_eq b ballot) (key_eq k key) is in
        let more = and_parts (v == version) (ballot_eq b ballot) parts.0 in
        let same_key : k ≡ key = (Decides-key k key).0 parts.1 in
        let same_ballot : b ≡ ballot = ballot_eq-same b ballot more.1 in
        let same_version : v ≡ version = eqb-true v version more.0 in
        rw (← same_key, ← same_ballot, ← same_version) h
voted-apart facts (Fact.Heard tx outcome) key version ballot h = refl
voted-apart facts (Fact.Adopted k v item adds) key version ballot h = refl

-- ---- entries

beside-all : {X : Type 0} (m es : TxMap X) → list_any (has {X = X} {Y = X} m) es ≡ false → entries_beside m es ≡ es
beside-all m [] h = refl
beside-all {X = X} m (e ∷ es) h =
    elim (cases_Bool (is_some (value_of m e.0))) [
      | inl there ↦ absurd (let bad : true ≡ false = rw there at h in cc)
      | inr new ↦ let rest : list_any (has {X = X} {Y = X} m) es ≡ false = rw new at h in rw new (ap (λ xs. e ∷ xs) (beside-all m es rest))
    ]

module _ (key : Key) (version : ℕ) where
  walk-once : (counts : ℕ × ℕ) (facts : List Fact) → are_voted_once facts ≡ true → list_all is_ordered facts ≡ true
      → entries_walk key version counts facts ≡ fold (with_fact_marks key version) counts facts
  walk-once counts [] once ordered = refl
  walk-once counts (fact ∷ facts) once ordered =
      let sorted = and_parts (is_ordered fact) (list_all is_ordered facts) ordered in
      let marks = marks_voted key version fast_ballot fact in
      let votes = votes_of facts key version fast_ballot in
      let all : first_marks facts key version fast_ballot fact ≡ marks =
      new-beside votes marks (marks-ascend key version fast_ballot fact sorted.0)
      ∙ beside-all votes marks (voted-apart facts fact key version fast_ballot (not_before facts fact once)) in
      ap (λ m. entries_walk key version (fold with_mark counts m) facts) all
      ∙ walk-once (fold with_mark counts marks) facts (older-once facts fact once) sorted.1

-- a walk may leave out what changes nothing
fold-chain : {S : Type 0} (step : S → Fact → S) (keep : Fact → Bool) → ((s : S) (fact : Fact) → keep fact ≡ false → step s fact ≡ s)
    → (s : S) (facts : List Fact) → fold step s facts ≡ fold step s (filter keep facts)
fold-chain step keep ignores s [] = refl
fold-chain step keep ignores s (fact ∷ facts) =
    elim (cases_Bool (keep fact)) [
      | inl kept ↦ rw kept (fold-chain step keep ignores (step s fact) facts)
      | inr left ↦ rw left (ap (λ t. fold step t facts) (ignores s fact left) ∙ fold-chain step keep ignores s facts)
    ]

pub entries-fold : EntriesByFold
entries-fold keep key version covers facts once ordered =
    walk-entries key version facts
    ∙ walk-once key version (0, 0) facts once ordered
    ∙ fold-chain (with_fact_marks key version) keep
    (λ counts fact left. ap (fold with_mark counts) (no_marks key version fast_ballot fact (left_out keep (is_vote_in key version) covers fact left))) (0, 0) facts

-- ---- entries with one more fact

module _ (key : Key) (version : ℕ) where
  abbrev votes_in : List Fact → Options
  votes_in facts = votes_of facts key version fast_ballot

  abbrev marks_in : Fact → Options
  marks_in fact = marks_voted key version fast_ballot fact

  swapped : (a b : Options) → AreAlike (a ++ b) (b ++ a)
  swapped a b w = let left = sum-append w a b in let right = sum-append w b a in omega (arith, left, right)

  entries-more : (facts : List Fact) (fact : Fact)
      → plain_entries_at (fact ∷ facts) key version ≡ fold with_mark (plain_entries_at facts key version) (first_marks facts key version fast_ballot fact)
  entries-more facts fact =
      let first = first_marks facts key version fast_ballot fact in
      let rest = firsts votes_in marks_in facts in
      entries-alike (votes_in (fact ∷ facts)) (first ++ rest) (votes-alike key version (fact ∷ facts))
      ∙ entries-alike (first ++ rest) (rest ++ first) (swapped first rest)
      ∙ sym (marks_counted (rest ++ first))
      ∙ fold-append with_mark (0, 0) rest first
      ∙ ap (λ counts. fold with_mark counts first)
      (marks_counted rest ∙ sym (entries-alike (votes_in facts) rest (votes-alike key version facts)))

pub entries-update : EntriesUpdate
entries-update facts fact key version new =
    let votes = votes_of facts key version fast_ballot in
    let marks = marks_voted key version fast_ballot fact in
    entries-more key version facts fact
    ∙ ap (fold with_mark (plain_entries_at facts key version))
    (new-beside votes marks (marks-ascend key version fast_ballot fact (well_formed-ordered fact new.well_formed))
    ∙ beside-all votes marks (voted-apart facts fact key version fast_ballot new.voted))

-- ---- how many of a structure were voted

apart-at : {X Y : Type 0} (votes : TxMap X) (marks : TxMap Y) (t : TxId) → list_any (has votes) marks ≡ false → is_some (value_of marks t) ≡ true → is_some (value_of votes t) ≡ false
apart-at votes [] t h there = absurd (cc)
apart-at votes (m ∷ ms) t h there =
    elim (cases_Bool (has votes m)) [
      | inl passes ↦ absurd (let bad : true ≡ false = rw passes at h in cc)
      | inr fails ↦
          let rest : list_any (has votes) ms ≡ false = rw fails at h in
          elim (cases_Bool (tx_eq m.0 t)) [
            | inl same ↦ rw (← tx_eq-same m.0 t same) fails
            | inr other ↦ apart-at votes ms t rest (rw other at there)
          ]
    ]

or-bits : {X : Type 0} (a b : Option X) → (is_some b ≡ true → is_some a ≡ false) → bit (is_some (option_or a b)) ≡ bit (is_some a) + bit (is_some b)
or-bits None None h = refl
or-bits None (Some y) h = refl
or-bits (Some x) None h = refl
or-bits (Some x) (Some y) h = absurd (let bad : true ≡ false = h refl in cc)

count-union : (votes marks options : Options) → list_any (has votes) marks ≡ false
    → number_of (has (union votes marks)) options ≡ number_of (has votes) options + number_of (has marks) options
count-union votes marks [] h = refl
count-union votes marks (e ∷ es) h =
    let ih = count-union votes marks es h in
    let here : bit (is_some (value_of (union votes marks) e.0)) ≡ bit (has votes e) + bit (has marks e) =
    rw (value_of-union votes marks e.0) (or-bits (value_of votes e.0) (value_of marks e.0) (apart-at votes marks e.0 h)) in
    omega (arith, ih, here)

no-count : (options : Options) → number_of (λ e. false) options ≡ 0
no-count [] = refl
no-count (e ∷ es) = omega (arith, no-count es)

module _ (key : Key) (version : ℕ) (ballot : Ballot) (options : Options) where
  count-from : (count : ℕ) (facts : List Fact) → are_voted_once facts ≡ true
      → fold (with_count key version ballot options) count facts ≡ count + count_voted facts key version ballot options
  count-from count [] once = sym (ap (λ n. count + n) (no-count options) ∙ add-zero count)
  count-from count (fact ∷ facts) once =
      let here = number_of (has (marks_voted key version ballot fact)) options in
      let ih = count-from (count + here) facts (older-once facts fact once) in
      let more = count-union (votes_of facts key version ballot) (marks_voted key version ballot fact) options (voted-apart facts fact key version ballot (not_before facts fact once)) in
      omega (arith, ih, more)

pub count-chain : CountInChain
count-chain keep key version ballot options covers facts =
    ap (λ votes. number_of (λ e. is_some (value_of votes e.0)) options) (votes-chain keep key version ballot covers facts)

pub count-fold : CountByFold
count-fold keep key version ballot options covers facts once =
    sym (count-from key version ballot options 0 facts once ∙ zero-add (count_voted facts key version ballot options))
    ∙ fold-chain (with_count key version ballot options) keep
    (λ count fact left.
    ap (λ marks. count + number_of (λ e. is_some (value_of marks e.0)) options) (no_marks key version ballot fact (left_out keep (is_vote_in key version) covers fact left))
    ∙ ap (λ n. count + n) (no-count options) ∙ add-zero count) 0 facts

-- ---- votes joined in any order

or-swap : {X : Type 0} (a b : Option X) → (is_some b ≡ true → is_some a ≡ false) → option_or a b ≡ option_or b a
or-swap None None h = refl
or-swap None (Some y) h = refl
or-swap (Some x) None h = refl
or-swap (Some x) (Some y) h = absurd (let bad : true ≡ false = h refl in cc)

module _ (key : Key) (version : ℕ) (ballot : Ballot) where
  join-value : (tx : TxId) (later : Options) (facts : List Fact) → are_voted_once facts ≡ true
      → value_of (fold (with_marks key version ballot) later facts) tx ≡ option_or (value_of later tx) (value_of (votes_of facts key version ballot) tx)
  join-value tx later [] once = sym (or_right (value_of later tx))
  join-value tx later (fact ∷ facts) once =
      let votes = votes_of facts key version ballot in
      let marks = marks_voted key version ballot fact in
      join-value tx (union later marks) facts (older-once facts fact once)
      ∙ ap (λ o. option_or o (value_of votes tx)) (value_of-union later marks tx)
      ∙ or_assoc (value_of later tx) (value_of marks tx) (value_of votes tx)
      ∙ ap (λ o. option_or (value_of later tx) o)
      (sym (value_of-union votes marks tx ∙ or-swap (value_of votes tx) (value_of marks tx) (apart-at votes marks tx (voted-apart facts fact key version ballot (not_before facts fact once)))))

  join-ascends : (later : Options) (facts : List Fact) → are_ascending later ≡ true → are_ascending (fold (with_marks key version ballot) later facts) ≡ true
  join-ascends later [] up = up
  join-ascends later (fact ∷ facts) up =
      join-ascends (union later (marks_voted key version ballot fact)) facts (ascending-union later (marks_voted key version ballot fact) up)

  votes-ascend : (facts : List Fact) → are_ascending (votes_of facts key version ballot) ≡ true
  votes-ascend [] = refl
  votes-ascend (fact ∷ facts) = ascending-union (votes_of facts key version ballot) (marks_voted key version ballot fact) (votes-ascend facts)

pub votes-join : VotesByJoin
votes-join keep key version ballot covers facts once =
    same_found (votes_of facts key version ballot) (fold (with_marks key version ballot) [] facts)
    (votes-ascend key version ballot facts) (join-ascends key version ballot [] facts refl)
    (λ tx. sym (join-value key version ballot tx [] facts once))
    ∙ fold-chain (with_marks key version ballot) keep
    (λ later fact left. ap (λ marks. union later marks) (no_marks key version ballot fact (left_out keep (is_vote_in key version) covers fact left))) [] facts
