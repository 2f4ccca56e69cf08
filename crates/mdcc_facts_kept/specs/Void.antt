-- Which transactions are void, by what a store has in its cells and its table of floors.
use Rattle.std.specs.Prelude.{Bool, Err, List, None, Ok, Option, Result, Some, [], fold, is_some, not, ◌&&◌, ◌||◌, ◌∷◌, ℕ}
use Rattle.mdcc_base.specs.declared.identifiers.TxId.{TxId}
use Rattle.mdcc_def_messages.specs.Reading.{fact_of}
use Rattle.mdcc_def_messages.specs.declared.facts.Fact.{Fact}
use Rattle.mdcc_def_messages.specs.declared.wire.WireFault.{WireFault}
use Rattle.mdcc_def_protocol.specs.Facts.{heard_of, is_past}
use Rattle.mdcc_def_protocol.specs.Marks.{is_abort}
use Rattle.mdcc_cells_floors.specs.Epochs.{is_through}
use Rattle.mdcc_cells_marked.specs.Marks.{has_open_mark}
use Rattle.mdcc_facts_kept.specs.Kept.{KeptRest}

-- ---- the facts in cells

abbrev pub with_fact_read : List Fact → Result Fact WireFault → List Fact
with_fact_read facts (Ok fact) = fact ∷ facts
with_fact_read facts (Err fault) = facts

-- what the encodings spell, the newest first
abbrev pub facts_read_back : List (List ℕ) → List Fact
facts_read_back encodings = fold (λ facts bytes. with_fact_read facts (fact_of bytes)) [] encodings

-- ---- void transactions

-- it was heard aborted; or it is finished, and what was heard of it is given back, or idle
abbrev pub is_void_by : List Fact → Bool → TxId → Bool
is_void_by facts finished tx =
    is_abort (heard_of facts tx) || (finished && (not (is_some (heard_of facts tx)) || (is_past facts (heard_of facts tx) && not (has_open_mark facts tx))))

abbrev pub is_void_kept : KeptRest → TxId → Bool
is_void_kept store tx = is_void_by (facts_read_back store.inner.cells.encodings) (is_through store.floors.entries tx) tx

-- what is kept says that it was aborted, or nothing is kept of a finished one
abbrev pub void_if : Option Bool → Bool → Bool
void_if None finished = finished
void_if (Some commit) finished = not commit
