-- How the cells that a centre holds change with a further fact, and how a store counts them that has the floors beside the other facts.
use Rattle.std.specs.List.{AllByRecursion}
use Rattle.std.specs.Prelude.{◌≡◌, ◌≤◌, ◌+◌, Bool, List, [], false, filter, if◌then◌else◌, length, nat_lt, not, true, ℕ, ◌&&◌, ◌==◌, ◌∷◌}
use Rattle.mdcc_base.specs.Counts.{number_of}
use Rattle.mdcc_def_messages.specs.Lengths.{cells_needed, cells_used}
use Rattle.mdcc_def_messages.specs.WellFormed.{IsWellFormedFact}
use Rattle.mdcc_def_messages.specs.declared.facts.Fact.{Fact}
use Rattle.mdcc_def_protocol.specs.Cells.{cells_held, cells_left}
use Rattle.mdcc_def_protocol.specs.Facts.{floor_of, has_floor, is_floor}
use Rattle.mdcc_given_back.specs.Compact.{compacted}
use Rattle.mdcc_given_back.specs.Growth.{tells_of_finished}
use Rattle.mdcc_given_back.specs.Rest.{IsRest}

-- ---- with a further fact

-- of no fact more cells are left than before
abbrev pub LeftFalls : Type 0
LeftFalls =
    (new : Fact) (all : List Fact) (fact : Fact) → tells_of_finished all new ≡ false → cells_left (new ∷ all) fact ≤ cells_left all fact

-- so a further fact takes at most the cells that it needs
abbrev pub HeldWithinNeeded : Type 0
HeldWithinNeeded =
    (new : Fact) (facts : List Fact) → tells_of_finished facts new ≡ false → cells_held (new ∷ facts) ≤ cells_held facts + cells_needed new

-- a boot, a promise, or a vote with a mark: nothing is finished by it, and no version rises
abbrev pub frees_nothing : Fact → Bool
frees_nothing (Fact.Booted epoch) = true
frees_nothing (Fact.Promised key low high ballot) = true
frees_nothing (Fact.Voted key version ballot options offered) = nat_lt 0 (length options)
frees_nothing _ = false

-- such a one takes exactly these cells
abbrev pub HeldByNeeded : Type 0
HeldByNeeded =
    (new : Fact) (facts : List Fact) → tells_of_finished facts new ≡ false → frees_nothing new ≡ true
    → cells_held (new ∷ facts) ≡ cells_held facts + cells_needed new

-- ---- with the floors apart

abbrev pub without_floors : List Fact → List Fact
without_floors facts = filter (λ fact. not (is_floor fact)) facts

-- a floor that none raised
abbrev pub is_top : List Fact → Fact → Bool
is_top all (Fact.Floor centre epoch seq) = not (nat_lt seq (floor_of all centre epoch))
is_top all _ = false

abbrev pub top_floors : List Fact → ℕ
top_floors facts = number_of (is_top facts) facts

-- each of them has a cell, and what is left of the other facts has the others
abbrev pub HeldApart : Type 0
HeldApart =
    (rest facts : List Fact) → has_floor facts ≡ true → AllByRecursion IsWellFormedFact (without_floors rest)
    → IsRest rest facts → cells_used (compacted facts (without_floors rest)) + top_floors facts ≡ cells_held facts

-- a floor is above the one that it raises
abbrev pub is_risen : List Fact → Fact → Bool
is_risen facts (Fact.Floor centre epoch seq) = nat_lt (floor_of facts centre epoch) seq
is_risen facts _ = true

abbrev pub are_risen : List Fact → Bool
are_risen [] = true
are_risen (fact ∷ facts) = is_risen facts fact && are_risen facts

-- a fact sets the first floor of its epoch
abbrev pub sets_first : List Fact → Fact → Bool
sets_first facts (Fact.Floor centre epoch seq) = floor_of facts centre epoch == 0
sets_first facts _ = false

-- so each epoch that has a floor has one such
abbrev pub TopFloorsRise : Type 0
TopFloorsRise =
    (new : Fact) (facts : List Fact) → is_risen facts new ≡ true → are_risen facts ≡ true
    → top_floors (new ∷ facts) ≡ (if sets_first facts new then 1 else 0) + top_floors facts
