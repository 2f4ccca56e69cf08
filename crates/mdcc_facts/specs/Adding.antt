-- When a fact may be added to others, and what the store answers.
use Rattle.std.specs.List.{list_any}
use Rattle.std.specs.Prelude.{◌≡◌, ◌≤◌, Bool, Err, List, Ok, Result, Some, false, if◌then◌else◌, is_some, nat_lt, not, true, ℕ}
use Rattle.mdcc_struct.specs.Maps.{value_of}
use Rattle.mdcc_def_protocol.specs.Facts.{is_finished, is_floor, is_heard, promised_through, votes_of}
use Rattle.mdcc_def_protocol.specs.News.{is_crowding}
use Rattle.mdcc_def_messages.specs.Lengths.{fact_length}
use Rattle.mdcc_def_messages.specs.WellFormed.{IsWellFormedFact}
use Rattle.mdcc_def_messages.specs.declared.facts.Fact.{Fact}
use Rattle.mdcc_def_protocol.specs.declared.stores.StoreFault.{StoreFault}

-- ---- when it may be added

-- an earlier promise begins at this one's version, at its ballot
abbrev pub is_promised_before : List Fact → Fact → Bool
is_promised_before facts (Fact.Promised key low high ballot) = is_some (promised_through facts key low ballot)
is_promised_before facts _ = false

-- one of its marks was voted before at its ballot
abbrev pub is_voted_before : List Fact → Fact → Bool
is_voted_before facts (Fact.Voted key version ballot options offered) =
    list_any (λ e. is_some (value_of (votes_of facts key version ballot) e.0)) options
is_voted_before facts _ = false

-- its transaction was heard before
abbrev pub is_heard_before : List Fact → Fact → Bool
is_heard_before facts (Fact.Heard tx outcome) = is_heard facts tx
is_heard_before facts _ = false

-- it tells the outcome of a finished transaction, or has a mark of one
abbrev pub tells_of_finished : List Fact → Fact → Bool
tells_of_finished facts (Fact.Voted key version ballot options offered) = list_any (λ e. is_finished facts e.0) options
tells_of_finished facts (Fact.Heard tx outcome) = is_finished facts tx
tells_of_finished facts _ = false

-- it offers a choice of a transaction of which it has no mark
abbrev pub offers_unmarked : Fact → Bool
offers_unmarked (Fact.Voted key version ballot options (Some choice)) = not (is_some (value_of options choice.tx))
offers_unmarked _ = false

-- it is well-formed, has at most as many bytes as a frame of a log holds, says nothing a second time and nothing of a finished transaction,
-- and what it offers is of a transaction that it marks. No store takes a floor yet
pub record MayBeAdded (facts : List Fact) (fact : Fact) : Type 0 where
  pub well_formed : IsWellFormedFact fact
  pub short : fact_length fact ≤ 2097152
  pub promised : is_promised_before facts fact ≡ false
  pub voted : is_voted_before facts fact ≡ false
  pub heard : is_heard_before facts fact ≡ false
  pub unfinished : tells_of_finished facts fact ≡ false
  pub marked : offers_unmarked fact ≡ false
  pub no_floor : is_floor fact ≡ false

-- ---- what the store answers

abbrev pub is_store_memory : StoreFault → Bool
is_store_memory StoreFault.Memory = true
is_store_memory _ = false

-- a fact that needs more cells than are spare has no room, and one that would bring too many deltas is refused
abbrev pub add_result : (spare needed : ℕ) → List Fact → Fact → Result (Unit {0}) StoreFault
add_result spare needed facts fact =
    if nat_lt spare needed then Err (StoreFault.NoRoom needed spare)
    else (if is_crowding facts fact then Err StoreFault.Crowded else Ok tt)
