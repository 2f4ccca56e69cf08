-- The cells that the facts of a centre hold: those of which nothing is asked any more hold none. (Our own rule.)
use Rattle.std.specs.List.{list_all}
use Rattle.std.specs.Prelude.{List, if◌then◌else◌, nat_lt, ℕ}
use Rattle.mdcc_base.specs.Ballot.{is_fast}
use Rattle.mdcc_base.specs.Counts.{sum_over}
use Rattle.mdcc_def_messages.specs.Lengths.{cells_needed}
use Rattle.mdcc_def_messages.specs.declared.facts.Fact.{Fact}
use Rattle.mdcc_def_protocol.specs.Facts.{current_of, floor_of, has_floor, is_forgotten, is_idle}

-- the cells that are left to one of a centre's facts. A classic vote of which all is forgotten holds one: its ballot is still asked
abbrev pub cells_left : List Fact → Fact → ℕ
cells_left facts (Fact.Voted key version ballot options offered) =
    if list_all (λ e. is_forgotten facts key version e.0) options then (if is_fast ballot then 0 else 1)
    else cells_needed (Fact.Voted key version ballot options offered)
cells_left facts (Fact.Adopted key version item adds) =
    if nat_lt version (current_of facts key) then 0 else cells_needed (Fact.Adopted key version item adds)
cells_left facts (Fact.Floor centre epoch seq) =
    if nat_lt seq (floor_of facts centre epoch) then 0 else cells_needed (Fact.Floor centre epoch seq)
cells_left facts (Fact.Heard tx outcome) = if is_idle facts tx then 0 else cells_needed (Fact.Heard tx outcome)
cells_left facts fact = cells_needed fact

-- cells are given back once the centre has set a floor
abbrev pub cells_kept : List Fact → Fact → ℕ
cells_kept facts fact = if has_floor facts then cells_left facts fact else cells_needed fact

abbrev pub cells_held : List Fact → ℕ
cells_held facts = sum_over (cells_kept facts) facts
