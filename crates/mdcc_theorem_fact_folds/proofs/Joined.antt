-- Votes as maps by transaction: what each transaction has says which map it is.
use Rattle.mdcc_struct.specs.declared.options.Options.{Options}
use Rattle.mdcc_option.specs.declared.choices.Mark.{Mark}
use Rattle.std.proofs.Common.{◌≡◌, ℕ, Bool, true, false, List, [], ◌∷◌, refl, sym, ap, ◌∙◌, inl, inr, fold, Option, None, is_some, Some}
use Rattle.std.specs.List.{list_any}
use Rattle.std.specs.Option.{option_map, option_or}
use Rattle.std.specs.Prelude.{filter, find, if◌then◌else◌, slice_get, ◌||◌}
use Rattle.std.proofs.lemmas.Bool.{cases_Bool}
use Rattle.mdcc_base.specs.declared.identifiers.Ballot.{Ballot}
use Rattle.mdcc_base.specs.declared.identifiers.TxId.{TxId}
use Rattle.mdcc_base.specs.declared.key.Key.{Key}
use Rattle.mdcc_struct.specs.Maps.{TxMap, are_ascending, union, value_of}
use Rattle.mdcc_struct.proofs.Inclusion.{same_found}
use Rattle.mdcc_struct.proofs.Values.{value_of-union}
use Rattle.mdcc_struct.proofs.Walks.{ascending-union}
use Rattle.mdcc_base.specs.Ballot.{is_fast}
use Rattle.mdcc_struct.specs.declared.report.Report.{Report}
use Rattle.mdcc_def_protocol.specs.Facts.{last_ballot, marks_voted, votes_of}
use Rattle.mdcc_def_protocol.specs.Plain.{plain_report_of}
use Rattle.mdcc_def_protocol.specs.Stores.{is_above}
use Rattle.mdcc_def_messages.specs.declared.facts.Fact.{Fact}
use Rattle.mdcc_theorem_fact_folds.specs.Chains.{is_vote_in, Covers}
use Rattle.mdcc_theorem_fact_folds.specs.Votes.{IsVotedByWalk, MarkAfterInChain, MarkBelowInChain, MarkByWalk, VotesByWalk, VotesInChain}
use Rattle.mdcc_theorem_fact_folds.proofs.Chosen.{or_assoc, or_left, or_right}
use Rattle.mdcc_theorem_fact_folds.proofs.Folded.{gathered, gathered-walk, with_older}
use Rattle.mdcc_theorem_fact_folds.proofs.Ignored.{left_out, no_marks}
use Rattle.mdcc_theorem_fact_folds.proofs.Walked.{below-chain}

-- ---- maps that facts bring, of any values

-- what each fact brings, the oldest first
abbrev pub joined : {X : Type 0} → (Fact → TxMap X) → List Fact → TxMap X
joined brings [] = []
joined brings (fact ∷ facts) = union (joined brings facts) (brings fact)

-- what an older fact brings, and beside it what is later
abbrev pub with_older_entries : {X : Type 0} → (Fact → TxMap X) → TxMap X → Fact → TxMap X
with_older_entries brings later fact = union (union [] (brings fact)) later

pub some-either : {X : Type 0} (a b : Option X) → is_some (option_or a b) ≡ (is_some b || is_some a)
some-either None None = refl
some-either None (Some y) = refl
some-either (Some x) None = refl
some-either (Some x) (Some y) = refl

module _ {X : Type 0} (brings : Fact → TxMap X) where
  pub joined-ascends : (facts : List Fact) → are_ascending (joined brings facts) ≡ true
  joined-ascends [] = refl
  joined-ascends (fact ∷ facts) = ascending-union (joined brings facts) (brings fact) (joined-ascends facts)

  pub joined-chain : (keep : Fact → Bool) → ((fact : Fact) → keep fact ≡ false → brings fact ≡ [])
      → (facts : List Fact) → joined brings facts ≡ joined brings (filter keep facts)
  joined-chain keep ignores [] = refl
  joined-chain keep ignores (fact ∷ facts) =
      let ih = joined-chain keep ignores facts in
      elim (cases_Bool (keep fact)) [
        | inl kept ↦ rw kept (ap (λ m. union m (brings fact)) ih)
        | inr left ↦ rw left (ap (λ n. union (joined brings facts) n) (ignores fact left) ∙ ih)
      ]

  walk-value : (tx : TxId) (later : TxMap X) (facts : List Fact)
      → value_of (fold (with_older_entries brings) later facts) tx ≡ option_or (value_of (joined brings facts) tx) (value_of later tx)
  walk-value tx later [] = refl
  walk-value tx later (fact ∷ facts) =
      walk-value tx (union (union [] (brings fact)) later) facts
      ∙ ap (λ o. option_or (value_of (joined brings facts) tx) o)
      (value_of-union (union [] (brings fact)) later tx ∙ ap (λ o. option_or o (value_of later tx)) (value_of-union [] (brings fact) tx))
      ∙ sym (or_assoc (value_of (joined brings facts) tx) (value_of (brings fact) tx) (value_of later tx))
      ∙ ap (λ o. option_or o (value_of later tx)) (sym (value_of-union (joined brings facts) (brings fact) tx))

  walk-ascends : (later : TxMap X) (facts : List Fact) → are_ascending later ≡ true → are_ascending (fold (with_older_entries brings) later facts) ≡ true
  walk-ascends later [] up = up
  walk-ascends later (fact ∷ facts) up =
      walk-ascends (union (union [] (brings fact)) later) facts (ascending-union (union [] (brings fact)) later (ascending-union [] (brings fact) refl))

  pub joined-folded : (facts : List Fact) → joined brings facts ≡ fold (with_older_entries brings) [] facts
  joined-folded facts =
      same_found (joined brings facts) (fold (with_older_entries brings) [] facts) (joined-ascends facts) (walk-ascends [] facts refl)
      (λ tx. sym (walk-value tx [] facts ∙ or_right (value_of (joined brings facts) tx)))

  pub joined-walk : (keep : Fact → Bool) → ((fact : Fact) → keep fact ≡ false → brings fact ≡ [])
      → (facts : List Fact) → joined brings facts ≡ fold (with_older_entries brings) [] (filter keep facts)
  joined-walk keep ignores facts = joined-chain keep ignores facts ∙ joined-folded (filter keep facts)

  joined-value : (tx : TxId) (facts : List Fact) → value_of (joined brings facts) tx ≡ gathered option_or None (λ fact. value_of (brings fact) tx) facts
  joined-value tx [] = refl
  joined-value tx (fact ∷ facts) =
      value_of-union (joined brings facts) (brings fact) tx ∙ ap (λ o. option_or o (value_of (brings fact) tx)) (joined-value tx facts)

  -- what one transaction has
  pub value-walk : (keep : Fact → Bool) → ((fact : Fact) → keep fact ≡ false → brings fact ≡ []) → (tx : TxId)
      → (facts : List Fact) → value_of (joined brings facts) tx ≡ fold (with_older option_or (λ fact. value_of (brings fact) tx)) None (filter keep facts)
  value-walk keep ignores tx facts =
      joined-value tx facts
      ∙ gathered-walk option_or None (λ fact. value_of (brings fact) tx) or_left or_right or_assoc keep
      (λ fact left. ap (λ m. value_of m tx) (ignores fact left)) facts

  pub found-any : (tx : TxId) (facts : List Fact) → is_some (value_of (joined brings facts) tx) ≡ list_any (λ fact. is_some (value_of (brings fact) tx)) facts
  found-any tx [] = refl
  found-any tx (fact ∷ facts) =
      ap (λ o. is_some o) (value_of-union (joined brings facts) (brings fact) tx)
      ∙ some-either (value_of (joined brings facts) tx) (value_of (brings fact) tx)
      ∙ ap (λ b. is_some (value_of (brings fact) tx) || b) (found-any tx facts)

  -- whether it has something
  pub found-walk : (keep : Fact → Bool) → ((fact : Fact) → keep fact ≡ false → brings fact ≡ []) → (tx : TxId)
      → (facts : List Fact) → is_some (value_of (joined brings facts) tx) ≡ list_any (λ fact. is_some (value_of (brings fact) tx)) (filter keep facts)
  found-walk keep ignores tx facts = ap (λ m. is_some (value_of m tx)) (joined-chain keep ignores facts) ∙ found-any tx (filter keep facts)

-- ---- votes

pub votes-joined : (key : Key) (version : ℕ) (ballot : Ballot) (facts : List Fact) → votes_of facts key version ballot ≡ joined (marks_voted key version ballot) facts
votes-joined key version ballot [] = refl
votes-joined key version ballot (fact ∷ facts) = ap (λ m. union m (marks_voted key version ballot fact)) (votes-joined key version ballot facts)

pub votes-walk : VotesByWalk
votes-walk keep key version ballot covers facts =
    votes-joined key version ballot facts
    ∙ joined-walk (marks_voted key version ballot) keep (λ fact left. no_marks key version ballot fact (left_out keep (is_vote_in key version) covers fact left)) facts

pub votes-chain : VotesInChain
votes-chain keep key version ballot covers facts =
    votes-joined key version ballot facts
    ∙ joined-chain (marks_voted key version ballot) keep (λ fact left. no_marks key version ballot fact (left_out keep (is_vote_in key version) covers fact left)) facts
    ∙ sym (votes-joined key version ballot (filter keep facts))

pub mark-walk : MarkByWalk
mark-walk keep key version ballot tx covers facts =
    ap (λ m. value_of m tx) (votes-joined key version ballot facts)
    ∙ value-walk (marks_voted key version ballot) keep (λ fact left. no_marks key version ballot fact (left_out keep (is_vote_in key version) covers fact left)) tx facts

pub voted-walk : IsVotedByWalk
voted-walk keep key version ballot tx covers facts =
    ap (λ m. is_some (value_of m tx)) (votes-joined key version ballot facts)
    ∙ found-walk (marks_voted key version ballot) keep (λ fact left. no_marks key version ballot fact (left_out keep (is_vote_in key version) covers fact left)) tx facts

-- ---- the marks of a report

report-chain : (keep : Fact → Bool) (key : Key) (version : ℕ) (below : Ballot) → Covers keep (is_vote_in key version)
    → (facts : List Fact) → plain_report_of 0 facts key version below ≡ plain_report_of 0 (filter keep facts) key version below
report-chain keep key version below covers facts =
    ap (λ ballot. report_at ballot (votes_of facts key version ballot)) (below-chain keep key version below covers facts)
    ∙ ap (report_at (last_ballot (filter keep facts) key version below)) (votes-chain keep key version (last_ballot (filter keep facts) key version below) covers facts)
  where
    report_at : Ballot → Options → Report
    report_at ballot votes = record { centre = 0; ballot = ballot; votes = if is_fast below then [] else votes }

pub after-chain : MarkAfterInChain
after-chain keep key version below last covers facts =
    ap (λ (report : Report). option_map (λ (e : TxId × Mark). (report.ballot, e.0, e.1)) (find (λ e. is_above last e.0) report.votes)) (report-chain keep key version below covers facts)

pub place-chain : MarkBelowInChain
place-chain keep key version below place covers facts =
    ap (λ (report : Report). option_map (λ (e : TxId × Mark). (report.ballot, e.0, e.1)) (slice_get report.votes place)) (report-chain keep key version below covers facts)
