use Rattle.std.proofs.Common.{◌≡◌, drop, map, not, ◌&&◌}
use Rattle.std.specs.List.{list_all, list_any}
use Rattle.std.specs.Prelude.{is_some}
use Rattle.mdcc_world_decisions.specs.Decided.{chosen_in}
use Rattle.mdcc_def_protocol.specs.Marks.{is_reject_found}
use Rattle.mdcc_world_decisions.proofs.decided.decided_cast.Given as goal

abbrev pub invariant-loop-instance : goal.invariant-loop-instance
invariant-loop-instance l =
    let marks = map (chosen_in l.quorums l.ballots l.casts) l.instances in
    let left = map (chosen_in l.quorums l.ballots l.casts) (drop l.instance-index l.instances) in
    record {
      rejected : list_any is_reject_found left ≡ list_any is_reject_found marks;
      known : (not l.is_open && list_all is_some left) ≡ list_all is_some marks;
    }
