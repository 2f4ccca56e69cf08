-- What a store keeps that gives back all that it can, and how many cells that needs.
use Rattle.std.specs.List.{AllByRecursion}
use Rattle.std.specs.Prelude.{◌≡◌, ◌≤◌, List, [], if◌then◌else◌, true, ◌∷◌}
use Rattle.mdcc_base.specs.Counts.{sum_over}
use Rattle.mdcc_def_messages.specs.Lengths.{cells_used}
use Rattle.mdcc_def_messages.specs.WellFormed.{IsWellFormedFact}
use Rattle.mdcc_def_messages.specs.declared.facts.Fact.{Fact}
use Rattle.mdcc_def_protocol.specs.Cells.{cells_held, cells_left}
use Rattle.mdcc_def_protocol.specs.Facts.{has_floor}
use Rattle.mdcc_given_back.specs.Rest.{AreRest, IsRest, bare, is_bared, is_dropped}

-- each fact of which something is asked by all facts of the centre; a vote of which only the ballot is asked without its marks
abbrev pub compacted : List Fact → List Fact → List Fact
compacted all [] = []
compacted all (fact ∷ facts) =
    if is_dropped all fact then compacted all facts else (if is_bared all fact then bare fact else fact) ∷ compacted all facts

-- what has something left of what was given back before is a rest too
abbrev pub CompactedIsRest : Type 0
CompactedIsRest = (all rest facts : List Fact) → AreRest all rest facts → AreRest all (compacted all rest) facts

-- whatever was given back before, the same is left
abbrev pub CompactedOnce : Type 0
CompactedOnce = (all rest facts : List Fact) → AreRest all rest facts → compacted all rest ≡ compacted all facts

-- ---- the cells

-- what was given back has no cell left
abbrev pub LeftOfRest : Type 0
LeftOfRest = (all rest facts : List Fact) → AreRest all rest facts → sum_over (cells_left all) rest ≡ sum_over (cells_left all) facts

-- so the cells that a centre holds can be counted in any rest
abbrev pub HeldByRest : Type 0
HeldByRest = (rest facts : List Fact) → has_floor facts ≡ true → IsRest rest facts → cells_held facts ≡ sum_over (cells_left facts) rest

-- and a rest needs no fewer
abbrev pub HeldWithinRest : Type 0
HeldWithinRest = (rest facts : List Fact) → has_floor facts ≡ true → IsRest rest facts → cells_held facts ≤ cells_used rest

-- what is left of well-formed facts needs exactly these cells
abbrev pub CompactedIsHeld : Type 0
CompactedIsHeld =
    (rest facts : List Fact) → has_floor facts ≡ true → AllByRecursion IsWellFormedFact rest
    → IsRest rest facts → cells_used (compacted facts rest) ≡ cells_held facts
