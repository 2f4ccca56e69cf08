-- Marks that are gathered in a walk from the newest fact to the oldest, and joined afterwards.
use Rattle.std.specs.List.{fold, list_all}
use Rattle.std.specs.Option.{option_or}
use Rattle.std.specs.Prelude.{◌≡◌, ◌≤◌, All, Bool, List, None, Option, Some, [], true, ℕ, ◌==◌, ◌++◌, ◌∷◌, drop, if◌then◌else◌, length, map, reverse, suc, zero}
use Rattle.mdcc_base.specs.Ballot.{ballot_eq}
use Rattle.mdcc_base.specs.TxId.{tx_eq}
use Rattle.mdcc_base.specs.declared.identifiers.Ballot.{Ballot}
use Rattle.mdcc_base.specs.declared.identifiers.TxId.{TxId}
use Rattle.mdcc_base.specs.declared.key.Key.{Key}
use Rattle.mdcc_option.specs.declared.choices.Mark.{Mark}
use Rattle.mdcc_struct.specs.Fields.{mark_in}
use Rattle.mdcc_struct.specs.Maps.{TxMap, union}
use Rattle.mdcc_struct.specs.Options.{Marks}
use Rattle.mdcc_def_messages.specs.declared.facts.Fact.{Fact}
use Rattle.mdcc_def_protocol.specs.Facts.{marks_voted}
use Rattle.mdcc_theorem_fact_folds.specs.Live.{is_ordered}
use Rattle.mdcc_theorem_fact_folds.specs.Votes.{with_older_marks}
use Rattle.mdcc_cells_vote_walk.specs.Heads.{head_in}
use Rattle.mdcc_cells_vote_walk.specs.Marks.{first_mark, first_tag}
use Rattle.mdcc_cells_vote_walk.specs.Passing.{after_mark}
use Rattle.mdcc_cells_vote_walk.specs.declared.heads.Head.{Head}

-- ---- how they lie in memory

-- each place is 0 for a rejection, and else that of a mark among the accepted ones, counted from 1
abbrev pub marks_listed : List Mark → TxMap ℕ → Marks
marks_listed accepted places = map (λ e. (e.0, mark_in accepted e.1)) places

abbrev pub AreWithin : List Mark → TxMap ℕ → Type 0
AreWithin accepted places = All (λ e. e.1 ≤ length accepted) places

-- ---- the marks of a fact

abbrev pub named : Option (TxId × Bool) → Option Mark → Option (TxId × Mark)
named (Some tag) (Some mark) = Some (tag.0, mark)
named _ _ = None

-- the mark that bytes begin with, with its transaction
abbrev pub first_entry : List ℕ → Option (TxId × Mark)
first_entry bytes = named (first_tag bytes) (first_mark bytes)

abbrev pub entry_before : Option (TxId × Mark) → Marks → Marks
entry_before None marks = []
entry_before (Some e) marks = e ∷ marks

-- so many marks, as far as they can be read
abbrev pub marks_read : ℕ → List ℕ → Marks
marks_read zero bytes = []
marks_read (suc count) bytes = entry_before (first_entry bytes) (marks_read count (after_mark bytes))

abbrev pub marks_of_ballot : Ballot → List ℕ → Option Head → Marks
marks_of_ballot ballot bytes None = []
marks_of_ballot ballot bytes (Some head) = if ballot_eq head.ballot ballot then marks_read head.count (drop head.begin bytes) else []

-- the marks that a fact votes in an instance at a ballot
abbrev pub marks_at : List ℕ → ℕ → Ballot → List ℕ → Marks
marks_at key version ballot bytes = marks_of_ballot ballot bytes (head_in key version bytes)

-- the marks gathered so far, with those of one more fact
abbrev pub with_gathered : Key → ℕ → Ballot → Marks → Fact → Marks
with_gathered key version ballot gathered fact = gathered ++ marks_voted key version ballot fact

-- ---- their order

-- each transaction with the number of marks that were gathered after it
abbrev pub ranked : {X : Type 0} → TxMap X → TxMap ℕ
ranked [] = []
ranked (e ∷ es) = (e.0, length es) ∷ ranked es

-- the mark after which so many were gathered
abbrev pub mark_ranked : Marks → ℕ → Option Mark
mark_ranked [] rank = None
mark_ranked (e ∷ es) rank = if rank == length es then Some e.1 else mark_ranked es rank

abbrev pub mark_if : Marks → TxId → TxId × ℕ → Option Mark
mark_if marks tx e = if tx_eq e.0 tx then mark_ranked marks e.1 else None

-- the first mark of a transaction in an order
abbrev pub picked : Marks → TxId → TxMap ℕ → Option Mark
picked marks tx [] = None
picked marks tx (e ∷ es) = option_or (mark_if marks tx e) (picked marks tx es)

-- the oldest mark of each transaction: those gathered last count first
abbrev pub oldest_marks : Marks → Marks
oldest_marks gathered = union [] (reverse gathered)

-- what is gathered in a walk of a chain and joined then are the votes at the ballot
abbrev pub GatheredAreVotes : Type 0
GatheredAreVotes =
    (key : Key) (version : ℕ) (ballot : Ballot) (facts : List Fact) → list_all is_ordered facts ≡ true
    → oldest_marks (fold (with_gathered key version ballot) [] facts) ≡ fold (with_older_marks key version ballot) [] facts
