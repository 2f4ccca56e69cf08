use Rattle.std.proofs.Common.{◌≡◌, drop, not, ◌&&◌}
use Rattle.std.specs.List.{list_all, list_any}
use Rattle.std.specs.Prelude.{is_some}
use Rattle.mdcc_manager.specs.Sides.{is_reject_side}
use Rattle.mdcc_manager.proofs.marks.are_deciding.Given as goal

abbrev pub invariant-loop-side : goal.invariant-loop-side
invariant-loop-side l =
    let left = drop l.side-index l.sides in
    record {
      rejected : list_any is_reject_side left ≡ list_any is_reject_side l.sides;
      known : (not l.is_open && list_all is_some left) ≡ list_all is_some l.sides;
    }
