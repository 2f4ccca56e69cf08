use Rattle.std.proofs.Common.{◌≡◌, ◌≤◌, ◌+◌, ◌-◌}
use Rattle.std.specs.List.{range_with_len}
use Rattle.std.specs.Prelude.{filter_map}
use Rattle.mdcc_base.specs.Counts.{number_of}
use Rattle.mdcc_audit.specs.Votes.{given_by, given_eq, number_given}
use Rattle.mdcc_audit.proofs.votes.number_given.Given as goal

abbrev pub invariant-loop-centre : goal.invariant-loop-centre
invariant-loop-centre l =
    record {
      value : l.count + number_of (given_eq l.given) (filter_map (given_by l.tally) (range_with_len l.centre (l.quorums.centres + 1 - l.centre)))
          ≡ number_given l.quorums l.tally l.given;
      bound : l.count + 1 ≤ l.centre;
    }
