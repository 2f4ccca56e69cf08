-- Marks that are not forgotten, by the facts that are left: they are the marks that the facts that are left vote, without forgotten ones.
use Rattle.std.specs.Prelude.{◌≡◌, ◌≤◌, ◌||◌, List, None, Option, Some, [], false, if◌then◌else◌, is_some, length, true, ℕ}
use Rattle.std.specs.List.{list_any}
use Rattle.mdcc_base.specs.Ballot.{fast_ballot, is_fast}
use Rattle.mdcc_base.specs.Counts.{number_of}
use Rattle.mdcc_base.specs.declared.identifiers.Ballot.{Ballot}
use Rattle.mdcc_base.specs.declared.identifiers.TxId.{TxId}
use Rattle.mdcc_base.specs.declared.key.Key.{Key}
use Rattle.mdcc_option.specs.declared.choices.Mark.{Mark}
use Rattle.mdcc_struct.specs.Maps.{value_of}
use Rattle.mdcc_struct.specs.declared.options.Options.{Options}
use Rattle.mdcc_def_messages.specs.declared.facts.Fact.{Fact}
use Rattle.mdcc_def_protocol.specs.Facts.{choice_known, current_of, entries_of, first_choice_voted, is_finished, is_forgotten, last_ballot, last_vote, report_of, shown_of, vote_of, votes_of, without_forgotten}
use Rattle.mdcc_def_protocol.specs.Marks.{accepts_in, rejects_in}
use Rattle.mdcc_def_protocol.specs.Plain.{plain_entries_of, plain_mark_after}
use Rattle.mdcc_def_protocol.specs.Stores.{entries_at, mark_after, mark_below}
use Rattle.mdcc_given_back.specs.Offers.{offers_unmarked}
use Rattle.mdcc_facts.specs.Past.{count_past}
use Rattle.mdcc_theorem_fact_folds.specs.Outcomes.{are_heard_once}
use Rattle.mdcc_given_back.specs.Rest.{IsRest}

-- ---- by plain questions of what is left, and by which marks are forgotten

abbrev pub VoteByRest : Type 0
VoteByRest =
    (rest facts : List Fact) (key : Key) (version : ℕ) (tx : TxId)
    → IsRest rest facts → vote_of facts key version tx ≡ (if is_forgotten facts key version tx then None else last_vote rest key version tx)

abbrev pub ShownByRest : Type 0
ShownByRest =
    (rest facts : List Fact) (key : Key) (version : ℕ) (ballot : Ballot)
    → IsRest rest facts → shown_of facts key version ballot ≡ without_forgotten facts key version (votes_of rest key version ballot)

-- of a vote that offers a choice of a transaction of which it has no mark the choice would be known still when its marks are forgotten, and the
-- vote dropped
abbrev pub ChoiceByRest : Type 0
ChoiceByRest =
    (rest facts : List Fact) (key : Key) (version : ℕ) (tx : TxId)
    → IsRest rest facts → list_any offers_unmarked facts ≡ false
    → choice_known facts key version tx ≡ (if is_forgotten facts key version tx then None else first_choice_voted rest key version tx)

abbrev pub ReportByRest : Type 0
ReportByRest =
    (rest facts : List Fact) (centre : ℕ) (key : Key) (version : ℕ) (below : Ballot)
    → IsRest rest facts
    → report_of centre facts key version below
    ≡ (let ballot = last_ballot rest key version below in
    record {
      centre = centre;
      ballot = ballot;
      votes = if is_fast below then [] else without_forgotten facts key version (votes_of rest key version ballot);
    })

-- the next mark that is left, unless it is forgotten: then the one after it
abbrev pub unless_forgotten : List Fact → Key → ℕ → Ballot → Option (Ballot × TxId × Mark) → Option (Ballot × TxId × Mark)
unless_forgotten facts key version below None = None
unless_forgotten facts key version below (Some mark) =
    if is_forgotten facts key version mark.1 then mark_after facts key version below (Some mark.1) else Some mark

abbrev pub NextMarkByRest : Type 0
NextMarkByRest =
    (rest facts : List Fact) (key : Key) (version : ℕ) (below : Ballot) (last : Option TxId)
    → IsRest rest facts
    → mark_after facts key version below last ≡ unless_forgotten facts key version below (plain_mark_after rest key version below last)

-- at the version held, and later ones, no mark is forgotten
abbrev pub EntriesByRest : Type 0
EntriesByRest =
    (rest facts : List Fact) (key : Key) (version : ℕ)
    → IsRest rest facts → current_of facts key ≤ version → entries_of facts key version ≡ plain_entries_of rest key version

-- at any version those are counted that are not forgotten
abbrev pub EntriesByShown : Type 0
EntriesByShown =
    (rest facts : List Fact) (key : Key) (version : ℕ)
    → IsRest rest facts
    → entries_of facts key version
    ≡ (let votes = without_forgotten facts key version (votes_of rest key version fast_ballot) in
    (length (accepts_in votes), length (rejects_in votes)))

-- marks that were voted, or are of finished transactions
abbrev pub CountPastByRest : Type 0
CountPastByRest =
    (rest facts : List Fact) (key : Key) (version : ℕ) (ballot : Ballot) (options : Options)
    → IsRest rest facts
    → count_past facts key version ballot options
    ≡ number_of (λ e. is_some (value_of (votes_of rest key version ballot) e.0) || is_finished facts e.0) options

abbrev pub CountPastStays : Type 0
CountPastStays =
    (rest facts : List Fact) (key : Key) (version : ℕ) (ballot : Ballot) (options : Options)
    → IsRest rest facts → count_past rest key version ballot options ≡ count_past facts key version ballot options

-- ---- the same questions of what is left: each transaction was heard at most once, so that the same versions are held

abbrev pub VoteStays : Type 0
VoteStays =
    (rest facts : List Fact) (key : Key) (version : ℕ) (tx : TxId)
    → IsRest rest facts → are_heard_once facts ≡ true → vote_of rest key version tx ≡ vote_of facts key version tx

abbrev pub ShownStays : Type 0
ShownStays =
    (rest facts : List Fact) (key : Key) (version : ℕ) (ballot : Ballot)
    → IsRest rest facts → are_heard_once facts ≡ true → shown_of rest key version ballot ≡ shown_of facts key version ballot

abbrev pub ChoiceStays : Type 0
ChoiceStays =
    (rest facts : List Fact) (key : Key) (version : ℕ) (tx : TxId)
    → IsRest rest facts → are_heard_once facts ≡ true → list_any offers_unmarked facts ≡ false
    → choice_known rest key version tx ≡ choice_known facts key version tx

abbrev pub EntriesStay : Type 0
EntriesStay =
    (rest facts : List Fact) (key : Key) (version : ℕ)
    → IsRest rest facts → are_heard_once facts ≡ true → entries_of rest key version ≡ entries_of facts key version

abbrev pub EntriesAtStay : Type 0
EntriesAtStay =
    (rest facts : List Fact) (key : Key) (version : ℕ)
    → IsRest rest facts → are_heard_once facts ≡ true → entries_at rest key version ≡ entries_at facts key version

abbrev pub ReportStays : Type 0
ReportStays =
    (rest facts : List Fact) (centre : ℕ) (key : Key) (version : ℕ) (below : Ballot)
    → IsRest rest facts → are_heard_once facts ≡ true → report_of centre rest key version below ≡ report_of centre facts key version below

abbrev pub MarkBelowStays : Type 0
MarkBelowStays =
    (rest facts : List Fact) (key : Key) (version : ℕ) (below : Ballot) (place : ℕ)
    → IsRest rest facts → are_heard_once facts ≡ true → mark_below rest key version below place ≡ mark_below facts key version below place

abbrev pub MarkAfterStays : Type 0
MarkAfterStays =
    (rest facts : List Fact) (key : Key) (version : ℕ) (below : Ballot) (last : Option TxId)
    → IsRest rest facts → are_heard_once facts ≡ true → mark_after rest key version below last ≡ mark_after facts key version below last
