use Rattle.std.proofs.Common.{arith}
use Rattle.mdcc_def_messages.specs.Lengths.{entry_length}
use Rattle.mdcc_parts_append.proofs.Sums.{sum_over-drop}
use Rattle.mdcc_parts_append.proofs.lengths.options_length.Goals as goal

pub loop-place-preserved : goal.loop-place-preserved
loop-place-preserved c =
    let here = sum_over-drop (λ e. entry_length e.1) c.args.options.now c.loop-place.place _ c.at.ensures in
    record {
      whole = omega (arith, here, c.loop-place.invariant.whole, c.entry_length-total.ensures.value);
      bound = omega (arith, c.loop-place.invariant.bound, c.entry_length-total.ensures.bound);
    }
