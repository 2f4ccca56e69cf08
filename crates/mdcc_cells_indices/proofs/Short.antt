-- A well-formed outcome has few bytes.
use Rattle.std.proofs.Common.{ℕ, ◌*◌, ◌≤◌, ◌∷◌, List, [], length, arith}
use Rattle.std.specs.List.{AllByRecursion}
use Rattle.mdcc_base.specs.Counts.{sum_over}
use Rattle.mdcc_base.specs.declared.identifiers.TxId.{TxId}
use Rattle.mdcc_option.specs.declared.choices.Choice.{Choice}
use Rattle.mdcc_option.specs.declared.choices.Outcome.{Outcome}
use Rattle.mdcc_option.specs.declared.items.Update.{Update}
use Rattle.mdcc_def_messages.specs.Lengths.{choice_length, fact_length, update_length, written_length}
use Rattle.mdcc_def_messages.specs.WellFormed.{IsWellFormedFact}
use Rattle.mdcc_def_messages.specs.WellFormedParts.{IsWellFormedChoice, IsWellFormedOf, IsWellFormedUpdate, IsWellFormedWritten}
use Rattle.mdcc_def_messages.specs.declared.facts.Fact.{Fact}

update-short : (update : Update) → IsWellFormedUpdate update → update_length update ≤ 740
update-short (Update.Write item seen) fits = let body = fits.0.body_fits in let count = fits.0.count in let few = fits.1.few in omega arith
update-short (Update.Add amounts) fits = let count = fits.count in omega arith

written-short : (written : List (List ℕ × ℕ)) → AllByRecursion IsWellFormedWritten written → sum_over written_length written ≤ 41 * length written
written-short [] each = omega arith
written-short (w ∷ ws) each = let short = each.0.key.fits in let rest = written-short ws each.1 in omega arith

choice-short : (choice : Choice) → IsWellFormedChoice choice → choice_length choice ≤ 1119
choice-short choice fits =
    let update = update-short choice.update fits.update in
    let write_set = written-short choice.write_set fits.write_set.each in
    let count = fits.write_set.count in
    let key = fits.key.fits in
    omega arith

choices-short : (tx : TxId) (choices : List Choice) → AllByRecursion (IsWellFormedOf tx) choices → sum_over choice_length choices ≤ 1119 * length choices
choices-short tx [] each = omega arith
choices-short tx (c ∷ cs) each = let first = choice-short c each.0.choice_itself in let rest = choices-short tx cs each.1 in omega arith

pub heard-short : (tx : TxId) (outcome : Outcome) → IsWellFormedFact (Fact.Heard tx outcome) → fact_length (Fact.Heard tx outcome) ≤ 8964
heard-short tx Outcome.Abort fits = omega arith
heard-short tx (Outcome.Commit choices) fits =
    let count = fits.outcome_itself.count in
    let short = choices-short tx choices fits.outcome_itself.each in
    omega arith
