use Rattle.std.proofs.Common.{◌≡◌, drop, fold}
use Rattle.std.specs.Option.{option_copied}
use Rattle.mdcc_world_decisions.specs.Casts.{chosen_cast, chosen_or}
use Rattle.mdcc_world_decisions.proofs.chosen.chosen_cast.Given as goal

abbrev pub invariant-loop-ballot : goal.invariant-loop-ballot
invariant-loop-ballot l =
    fold (chosen_or l.quorums l.casts l.key l.version) (option_copied l.found) (drop l.ballot-index l.ballots)
    ≡ chosen_cast l.quorums l.casts l.key l.version l.ballots
