use Rattle.std.proofs.Common.{arith}
use Rattle.mdcc_def_messages.specs.SpelledParts.{entry_bytes}
use Rattle.mdcc_def_messages.specs.Lengths.{entry_length}
use Rattle.mdcc_parts_append.proofs.Sums.{sum_over-drop, flat_map-drop, goes_on}
use Rattle.mdcc_parts_append.proofs.marks.put_options.Goals as goal

pub put_entry-requires : goal.put_entry-requires
put_entry-requires c =
    let here = sum_over-drop (λ e. entry_length e.1) c.args.options.now c.loop-place.place _ c.at-tx.ensures in
    omega (arith, here, c.loop-place.invariant.len, c.loop-place.invariant.capacity, c.requires.room)

pub loop-place-preserved : goal.loop-place-preserved
loop-place-preserved c =
    let here = sum_over-drop (λ e. entry_length e.1) c.args.options.now c.loop-place.place _ c.at-tx.ensures in
    let spelled = flat_map-drop (λ e. entry_bytes e.0 e.1) c.args.options.now c.loop-place.place _ c.at-tx.ensures in
    record {
      bytes = goes_on _ _ _ _ _ _ c.put_entry.ensures.bytes spelled c.loop-place.invariant.bytes;
      len = omega (arith, here, c.loop-place.invariant.len, c.put_entry.ensures.len);
      capacity = omega (arith, c.loop-place.invariant.capacity, c.put_entry.ensures.capacity);
    }
