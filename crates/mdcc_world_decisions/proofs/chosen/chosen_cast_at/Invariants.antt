use Rattle.std.proofs.Common.{◌≡◌, ◌+◌, ◌-◌}
use Rattle.std.specs.List.{range_with_len}
use Rattle.std.specs.Prelude.{filter_map, find}
use Rattle.mdcc_world_decisions.specs.Casts.{chosen_cast_at, mark_cast, marks_of_centres}
use Rattle.mdcc_def_ledger.specs.Ledger.{is_mark_of_quorum}
use Rattle.mdcc_world_decisions.proofs.chosen.chosen_cast_at.Given as goal

abbrev pub invariant-loop-centre : goal.invariant-loop-centre
invariant-loop-centre l =
    let given = mark_cast l.casts l.key l.version l.ballot in
    find (is_mark_of_quorum l.quorums l.ballot (marks_of_centres l.quorums given)) (filter_map given (range_with_len l.centre (l.quorums.centres + 1 - l.centre)))
    ≡ chosen_cast_at l.quorums l.casts l.key l.version l.ballot
