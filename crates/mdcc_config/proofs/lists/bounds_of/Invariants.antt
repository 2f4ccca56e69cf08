use Rattle.std.proofs.Common.{◌≡◌, [], drop}
use Rattle.mdcc_config.specs.Configuration.{each_pair}
use Rattle.mdcc_config.proofs.lists.bounds_of.Given as goal

abbrev pub invariant-loop-pair : goal.invariant-loop-pair
invariant-loop-pair l = each_pair l.bounds (drop l.pair-index l.pairs) ≡ each_pair [] l.pairs
