-- When a fact may be added to a store that gives cells back.
use Rattle.std.specs.Prelude.{◌≡◌, ◌≤◌, Bool, List, false, true}
use Rattle.mdcc_def_messages.specs.Lengths.{fact_length}
use Rattle.mdcc_def_messages.specs.WellFormed.{IsWellFormedFact}
use Rattle.mdcc_def_messages.specs.declared.facts.Fact.{Fact}
use Rattle.mdcc_def_protocol.specs.Facts.{are_heard}
use Rattle.mdcc_facts.specs.Adding.{is_heard_before, is_promised_before, is_voted_before, offers_unmarked, tells_of_finished}
use Rattle.mdcc_given_back.specs.Counted.{is_risen}

-- a floor is set where each transaction through it was heard here
abbrev pub is_floor_heard : List Fact → Fact → Bool
is_floor_heard facts (Fact.Floor centre epoch seq) = are_heard facts centre epoch seq
is_floor_heard facts _ = true

-- as to any store, but that floors may be added, each above the one before and through what was heard
pub record MayBeSwept (facts : List Fact) (fact : Fact) : Type 0 where
  pub well_formed : IsWellFormedFact fact
  pub short : fact_length fact ≤ 2097152
  pub promised : is_promised_before facts fact ≡ false
  pub voted : is_voted_before facts fact ≡ false
  pub heard : is_heard_before facts fact ≡ false
  pub unfinished : tells_of_finished facts fact ≡ false
  pub marked : offers_unmarked fact ≡ false
  pub risen : is_risen facts fact ≡ true
  pub told : is_floor_heard facts fact ≡ true
