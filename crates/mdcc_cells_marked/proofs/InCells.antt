-- The marks of a fact by its cells.
use Rattle.std.proofs.Common.{◌≤◌, ◌*◌, ℕ, List, [], ◌∷◌, length, arith}
use Rattle.std.specs.Int.{div_ceil}
use Rattle.std.proofs.lemmas.Grind.{div_ceil_times}
use Rattle.std.proofs.lemmas.List.{length-map}
use Rattle.mdcc_base.specs.Counts.{sum_over}
use Rattle.mdcc_base.specs.declared.identifiers.TxId.{TxId}
use Rattle.mdcc_base.specs.declared.key.Key.{Key}
use Rattle.mdcc_option.specs.declared.choices.Mark.{Mark}
use Rattle.mdcc_def_messages.specs.Lengths.{entry_length, fact_length}
use Rattle.mdcc_def_messages.specs.declared.facts.Fact.{Fact}
use Rattle.mdcc_cells_marked.specs.Marks.{MarksInCells, marks_of_fact}

marks-least : (options : List (TxId × Mark)) → 10 * length options ≤ sum_over (λ e. entry_length e.1) options
marks-least [] = omega arith
marks-least ((tx, Mark.Reject) ∷ es) = let rest = marks-least es in omega arith
marks-least ((tx, Mark.Accept choice) ∷ es) = let rest = marks-least es in omega arith

six-each : (n bytes : ℕ) → 10 * n ≤ bytes → n ≤ 6 * div_ceil bytes 60
six-each n bytes long = let cells = div_ceil_times bytes 60 (omega arith) in omega (arith, cells.0)

pub marks-in_cells : MarksInCells
marks-in_cells (Fact.Booted epoch) = omega arith
marks-in_cells (Fact.Floor origin era upto) = omega arith
marks-in_cells (Fact.Promised key low high ballot) = omega arith
marks-in_cells (Fact.Heard tx outcome) = omega arith
marks-in_cells (Fact.Adopted key version item adds) = omega arith
marks-in_cells (Fact.Voted key version ballot options offered) =
    let least = marks-least options in
    let many = length-map {B = TxId × (Key × ℕ)} options (λ e. (e.0, (key, version))) in
    six-each (length (marks_of_fact (Fact.Voted key version ballot options offered))) (fact_length (Fact.Voted key version ballot options offered)) (omega (arith, least, many))
