-- The longest choice.
use Rattle.std.proofs.Common.{ℕ, ◌*◌, ◌≤◌, List, [], ◌∷◌, length, arith}
use Rattle.std.specs.List.{AllByRecursion}
use Rattle.mdcc_base.specs.Counts.{sum_over}
use Rattle.mdcc_option.specs.declared.items.Update.{Update}
use Rattle.mdcc_option.specs.declared.items.Update.TheVariants.{Write, Add}
use Rattle.mdcc_option.specs.declared.choices.Choice.{Choice}
use Rattle.mdcc_def_messages.specs.Lengths.{update_length, written_length, choice_length}
use Rattle.mdcc_def_messages.specs.WellFormedParts.{IsWellFormedUpdate, IsWellFormedWritten, IsWellFormedChoice}

longest_update : (update : Update) → IsWellFormedUpdate update → update_length update ≤ 740
longest_update (Write item seen) h = omega (arith, h.0.body_fits, h.0.count.1, h.1.few)
longest_update (Add amounts) h = omega (arith, h.count.1)

longest_written : (write_set : List (List ℕ × ℕ)) → AllByRecursion IsWellFormedWritten write_set
    → sum_over written_length write_set ≤ 41 * length write_set
longest_written [] h = omega arith
longest_written (w ∷ ws) h = omega (arith, h.0.key.fits, longest_written ws h.1)

pub longest_choice : (choice : Choice) → IsWellFormedChoice choice → choice_length choice ≤ 1119
longest_choice choice h =
    omega (
      arith,
      h.key.fits,
      longest_update choice.update h.update,
      longest_written choice.write_set h.write_set.each,
      h.write_set.count.1,
    )
