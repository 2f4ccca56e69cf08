use Rattle.std.proofs.Common.{◌≡◌, [], drop}
use Rattle.serde_json.specs.View.{items_view}
use Rattle.mdcc_config.specs.declared.faults.MemberName.TheVariants.{Bounds}
use Rattle.mdcc_config.specs.Readings.{pair}
use Rattle.mdcc_config.specs.Configuration.{each_item}
use Rattle.mdcc_config.proofs.lists.pairs_of.Given as goal

abbrev pub invariant-loop-value : goal.invariant-loop-value
invariant-loop-value l =
    each_item pair Bounds l.pairs (items_view (drop l.value-index l.values)) ≡ each_item pair Bounds [] (items_view l.values)
