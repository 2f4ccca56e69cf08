use Rattle.std.proofs.Common.{◌≡◌, ◌≤◌, ◌+◌, ◌-◌}
use Rattle.std.specs.List.{range_with_len}
use Rattle.std.specs.Prelude.{filter_map}
use Rattle.mdcc_base.specs.Counts.{number_of}
use Rattle.mdcc_option.specs.Equality.{mark_eq}
use Rattle.mdcc_world_decisions.specs.Casts.{mark_cast, marks_of_centres}
use Rattle.mdcc_world_decisions.proofs.chosen.number_giving.Given as goal

abbrev pub invariant-loop-centre : goal.invariant-loop-centre
invariant-loop-centre l =
    let given = mark_cast l.casts l.key l.version l.ballot in
    record {
      value : l.count + number_of (mark_eq l.mark) (filter_map given (range_with_len l.centre (l.quorums.centres + 1 - l.centre)))
          ≡ number_of (mark_eq l.mark) (marks_of_centres l.quorums given);
      bound : l.count + 1 ≤ l.centre;
    }
