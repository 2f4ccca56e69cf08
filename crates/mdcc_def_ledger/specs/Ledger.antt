-- The ledger of the whole cluster, the newest entry first: what is chosen, the outcomes, and the transactions that committed. No node keeps it.
use Rattle.std.specs.List.{list_any}
use Rattle.std.specs.Option.{option_or}
use Rattle.std.specs.Prelude.{Bool, List, None, Option, Some, [], filter_map, find, fold, if◌then◌else◌, length, map, nat_le, nat_lt, ℕ, ◌&&◌, ◌++◌, ◌==◌, ◌∷◌}
use Rattle.mdcc_base.specs.Ballot.{ballot_eq}
use Rattle.mdcc_base.specs.Counts.{number_of}
use Rattle.mdcc_base.specs.Key.{key_eq}
use Rattle.mdcc_base.specs.Quorums.{all_centres, quorum_size}
use Rattle.mdcc_base.specs.Sizes.{Sizes}
use Rattle.mdcc_base.specs.TxId.{tx_eq, tx_lt}
use Rattle.mdcc_base.specs.declared.identifiers.Ballot.{Ballot}
use Rattle.mdcc_base.specs.declared.identifiers.TxId.{TxId}
use Rattle.mdcc_base.specs.declared.key.Key.{Key}
use Rattle.mdcc_option.specs.Equality.{mark_eq}
use Rattle.mdcc_option.specs.declared.choices.Choice.{Choice}
use Rattle.mdcc_option.specs.declared.choices.Mark.{Mark}
use Rattle.mdcc_option.specs.declared.choices.Outcome.{Outcome}
use Rattle.mdcc_struct.specs.Maps.{TxMap, txs_of, value_of}
use Rattle.mdcc_struct.specs.declared.options.Options.{Options}
use Rattle.mdcc_def_protocol.specs.Facts.{votes_of}
use Rattle.mdcc_def_protocol.specs.Marks.{outcome_of_marks}
use Rattle.mdcc_def_messages.specs.declared.facts.Fact.{Fact}

-- a fact of a centre, a transaction that a manager began, or a structure that a leader sent for the first time
pub data Entry : Type 0 where
  Added : (centre : ℕ) → (fact : Fact) → Entry
  Begun : (centre : ℕ) → (tx : TxId) → (choices : List Choice) → Entry
  Valued : (centre : ℕ) → (key : Key) → (version : ℕ) → (ballot : Ballot) → (options : Options) → Entry

-- the facts that a centre added, the newest first
abbrev pub facts_of : List Entry → ℕ → List Fact
facts_of [] a = []
facts_of (Added centre fact ∷ entries) a = if centre == a then fact ∷ facts_of entries a else facts_of entries a
facts_of (entry ∷ entries) a = facts_of entries a

-- ---- chosen

-- the mark of a transaction in a centre's votes at a ballot
abbrev pub mark_given : List Entry → Key → ℕ → Ballot → TxId → ℕ → Option Mark
mark_given entries key version ballot tx a = value_of (votes_of (facts_of entries a) key version ballot) tx

-- the marks that the centres give it there, one for each centre that gives one
abbrev pub marks_given : Sizes → List Entry → Key → ℕ → Ballot → TxId → List Mark
marks_given quorums entries key version ballot tx = filter_map (mark_given entries key version ballot tx) (all_centres quorums)

-- whether a quorum of the ballot gives this mark
abbrev pub is_mark_of_quorum : Sizes → Ballot → List Mark → Mark → Bool
is_mark_of_quorum quorums ballot marks mark = nat_le (quorum_size quorums ballot) (number_of (mark_eq mark) marks)

-- a mark is chosen at a ballot where the centres that voted it are a quorum there. (Generalized Paxos.)
abbrev pub is_chosen_at : Sizes → List Entry → Key → ℕ → Ballot → TxId → Mark → Bool
is_chosen_at quorums entries key version ballot tx mark = is_mark_of_quorum quorums ballot (marks_given quorums entries key version ballot tx) mark

abbrev pub chosen_at : Sizes → List Entry → Key → ℕ → TxId → Ballot → Option Mark
chosen_at quorums entries key version tx ballot =
    let marks = marks_given quorums entries key version ballot tx in
    find (is_mark_of_quorum quorums ballot marks) marks

-- the ballots at which an instance was voted, each once
abbrev pub with_ballot : List Ballot → Ballot → List Ballot
with_ballot ballots ballot = if list_any (ballot_eq ballot) ballots then ballots else ballot ∷ ballots

abbrev pub ballots_voted : List Entry → Key → ℕ → List Ballot
ballots_voted [] key version = []
ballots_voted (Added a (Fact.Voted key' version' ballot options offered) ∷ entries) key version =
    if version' == version && key_eq key' key then with_ballot (ballots_voted entries key version) ballot else ballots_voted entries key version
ballots_voted (entry ∷ entries) key version = ballots_voted entries key version

-- the mark of a transaction that is chosen in an instance, at some ballot
abbrev pub chosen_of : Sizes → List Entry → Key → ℕ → TxId → Option Mark
chosen_of quorums entries key version tx =
    fold (λ found ballot. option_or found (chosen_at quorums entries key version tx ballot)) None (ballots_voted entries key version)

-- ---- outcomes

-- the choices with which a transaction was begun
abbrev pub choices_begun : List Entry → TxId → List Choice
choices_begun [] tx = []
choices_begun (Entry.Begun a tx' choices ∷ entries) tx = if tx_eq tx' tx then choices else choices_begun entries tx
choices_begun (entry ∷ entries) tx = choices_begun entries tx

-- Abort where one of its choices is chosen rejected, else Commit where all are chosen accepted, else none yet. (MDCC.)
abbrev pub outcome_of : Sizes → List Entry → TxId → Option Outcome
outcome_of quorums entries tx =
    let choices = choices_begun entries tx in
    if nat_lt 0 (length choices)
    then outcome_of_marks (map (λ choice. chosen_of quorums entries choice.key choice.version tx) choices)
    else None

-- the set with one more transaction, in its place
abbrev pub with_tx : List TxId → TxId → List TxId
with_tx [] tx = tx ∷ []
with_tx (x ∷ xs) tx = if tx_lt x tx then x ∷ with_tx xs tx else (if tx_eq x tx then x ∷ xs else tx ∷ x ∷ xs)

-- the transactions that were begun, ascending
abbrev pub txs_begun : List Entry → List TxId
txs_begun [] = []
txs_begun (Entry.Begun a tx choices ∷ entries) = with_tx (txs_begun entries) tx
txs_begun (entry ∷ entries) = txs_begun entries

-- the transactions that an entry's votes name, ascending: in an allowed ledger no other outcome changes at it
abbrev pub txs_voted : Entry → List TxId
txs_voted (Added a (Fact.Voted key version ballot options offered)) = fold with_tx [] (txs_of options)
txs_voted _ = []

-- an outcome that is there now and was not before
abbrev pub outcome_come : TxId → Option Outcome → Option Outcome → Option (TxId × Outcome)
outcome_come tx (Some outcome) None = Some (tx, outcome)
outcome_come tx _ _ = None

-- an outcome that came at an entry
abbrev pub new_outcome : Sizes → Entry → List Entry → TxId → Option (TxId × Outcome)
new_outcome quorums entry before tx = outcome_come tx (outcome_of quorums (entry ∷ before) tx) (outcome_of quorums before tx)

-- the outcomes that came at an entry, ascending by transaction
abbrev pub new_outcomes : Sizes → Entry → List Entry → TxMap Outcome
new_outcomes quorums entry before = filter_map (new_outcome quorums entry before) (txs_voted entry)

abbrev pub choices_committed : TxId × Outcome → Option (List Choice)
choices_committed (tx, Outcome.Commit choices) = Some choices
choices_committed (tx, Outcome.Abort) = None

-- the committed transactions, each as its choices, in the order in which they were chosen
abbrev pub committed_of : Sizes → List Entry → List (List Choice)
committed_of quorums [] = []
committed_of quorums (entry ∷ before) = committed_of quorums before ++ filter_map choices_committed (new_outcomes quorums entry before)

-- ---- structures

-- the structure that a leader sent last for an instance at a ballot
abbrev pub structure_valued : List Entry → Key → ℕ → Ballot → Option Options
structure_valued [] key version ballot = None
structure_valued (Valued a key' version' ballot' options ∷ entries) key version ballot =
    if version' == version && ballot_eq ballot' ballot && key_eq key' key then Some options else structure_valued entries key version ballot
structure_valued (entry ∷ entries) key version ballot = structure_valued entries key version ballot
