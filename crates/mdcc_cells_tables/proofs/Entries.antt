-- A choice has at least 41 bytes, so a fact has at most two for each cell in which it lies.
use Rattle.std.proofs.Common.{ℕ, ◌+◌, ◌*◌, ◌≤◌, ◌∷◌, List, [], Some, None, length, arith, length-append}
use Rattle.std.specs.Int.{div_ceil}
use Rattle.std.specs.List.{AllByRecursion}
use Rattle.std.specs.Prelude.{filter_map}
use Rattle.std.proofs.lemmas.Grind.{div_ceil_times}
use Rattle.std.proofs.lemmas.List.{length-map}
use Rattle.mdcc_base.specs.Counts.{sum_over}
use Rattle.mdcc_base.specs.declared.identifiers.TxId.{TxId}
use Rattle.mdcc_base.specs.declared.key.Key.{Key}
use Rattle.mdcc_option.specs.declared.choices.Choice.{Choice}
use Rattle.mdcc_option.specs.declared.choices.Mark.{Mark}
use Rattle.mdcc_option.specs.declared.choices.Outcome.{Outcome}
use Rattle.mdcc_option.specs.declared.items.Update.{Update}
use Rattle.mdcc_def_protocol.specs.Facts.{write_set_of_mark, write_sets_from}
use Rattle.mdcc_def_protocol.specs.News.{keys_in}
use Rattle.mdcc_def_messages.specs.Lengths.{choice_length, entry_length, fact_length, update_length, write_set_length, written_length}
use Rattle.mdcc_def_messages.specs.WellFormedParts.{IsWellFormedChoice, IsWellFormedEntry, IsWellFormedOf, IsWellFormedUpdate, IsWellFormedWriteSet, IsWellFormedWritten}
use Rattle.mdcc_def_messages.specs.declared.facts.Fact.{Fact}
use Rattle.mdcc_struct.specs.declared.options.Options.{Options}
use Rattle.mdcc_cells_tables.specs.InCells.{KeysInCells, TransactionsInCells}

-- ---- the least lengths

update-least : (update : Update) → IsWellFormedUpdate update → 11 ≤ update_length update
update-least (Update.Write item seen) formed = let count = formed.0.count in omega arith
update-least (Update.Add amounts) formed = let count = formed.count in omega arith

written-least : (written : List (List ℕ × ℕ)) → AllByRecursion IsWellFormedWritten written → 10 * length written ≤ sum_over written_length written
written-least [] each = omega arith
written-least (w ∷ ws) each = let some = each.0.key.some in let rest = written-least ws each.1 in omega arith

write_set-least : (write_set : List (List ℕ × ℕ)) → IsWellFormedWriteSet write_set → 11 ≤ write_set_length write_set
write_set-least write_set formed = let least = written-least write_set formed.each in let count = formed.count in omega arith

choice-least : (choice : Choice) → IsWellFormedChoice choice → 41 ≤ choice_length choice
choice-least choice formed =
    let update = update-least choice.update formed.update in
    let write_set = write_set-least choice.write_set formed.write_set in
    let key = formed.key.some in
    omega arith

choices-least : (tx : TxId) (choices : List Choice) → AllByRecursion (IsWellFormedOf tx) choices → 41 * length choices ≤ sum_over choice_length choices
choices-least tx [] each = omega arith
choices-least tx (c ∷ cs) each = let first = choice-least c each.0.choice_itself in let rest = choices-least tx cs each.1 in omega arith

marks-least : (key : Key) (version : ℕ) (options : Options) → AllByRecursion (λ e. IsWellFormedEntry key version e.0 e.1) options
    → 42 * length (filter_map write_set_of_mark options) ≤ sum_over (λ e. entry_length e.1) options
marks-least key version [] each = omega arith
marks-least key version ((tx, Mark.Reject) ∷ es) each = let rest = marks-least key version es each.1 in omega arith
marks-least key version ((tx, Mark.Accept choice) ∷ es) each =
    let first = choice-least choice each.0.choice_itself in
    let rest = marks-least key version es each.1 in
    omega arith

-- ---- in cells

two-each : (n bytes : ℕ) → 41 * n + 12 ≤ bytes → n ≤ 2 * div_ceil bytes 60
two-each n bytes long = let cells = div_ceil_times bytes 60 (omega arith) in omega (arith, cells.0)

some-cell : (bytes : ℕ) → 1 ≤ bytes → 1 ≤ 2 * div_ceil bytes 60
some-cell bytes some = let cells = div_ceil_times bytes 60 (omega arith) in omega (arith, cells.0)

pub keys-in_cells : KeysInCells
keys-in_cells (Fact.Booted epoch) formed = omega arith
keys-in_cells (Fact.Floor origin era upto) formed = omega arith
keys-in_cells (Fact.Promised key low high ballot) formed = omega arith
keys-in_cells (Fact.Voted key version ballot options offered) formed = omega arith
keys-in_cells (Fact.Heard tx Outcome.Abort) formed = omega arith
keys-in_cells (Fact.Heard tx (Outcome.Commit choices)) formed =
    let least = choices-least tx choices formed.outcome_itself.each in
    let many = length-map choices (λ (choice : Choice). choice.key) in
    two-each (length (keys_in (Fact.Heard tx (Outcome.Commit choices)))) (fact_length (Fact.Heard tx (Outcome.Commit choices))) (omega (arith, least, many))
keys-in_cells (Fact.Adopted key version item adds) formed = some-cell (fact_length (Fact.Adopted key version item adds)) (omega arith)

pub transactions-in_cells : TransactionsInCells
transactions-in_cells (Fact.Booted epoch) formed = omega arith
transactions-in_cells (Fact.Floor origin era upto) formed = omega arith
transactions-in_cells (Fact.Promised key low high ballot) formed = omega arith
transactions-in_cells (Fact.Voted key version ballot options None) formed =
    let least = marks-least key version options formed.options_itself.each in
    two-each (length (filter_map write_set_of_mark options)) (fact_length (Fact.Voted key version ballot options None)) (omega (arith, least))
transactions-in_cells (Fact.Voted key version ballot options (Some choice)) formed =
    let least = marks-least key version options formed.options_itself.each in
    let offered = choice-least choice formed.offered_itself.choice_itself in
    two-each (length (write_sets_from (Fact.Voted key version ballot options (Some choice)))) (fact_length (Fact.Voted key version ballot options (Some choice)))
    (omega (arith, least, offered, length-append (filter_map write_set_of_mark options) ((choice.tx, choice.write_set) ∷ [])))
transactions-in_cells (Fact.Heard tx outcome) formed = omega arith
transactions-in_cells (Fact.Adopted key version item adds) formed = omega arith
