use Rattle.std.proofs.Common.{◌≡◌, [], drop}
use Rattle.serde_json.specs.View.{items_view}
use Rattle.mdcc_config.specs.declared.faults.MemberName.TheVariants.{Hosts}
use Rattle.mdcc_config.specs.Readings.{host}
use Rattle.mdcc_config.specs.Configuration.{each_item}
use Rattle.mdcc_config.proofs.lists.hosts_of.Given as goal

abbrev pub invariant-loop-value : goal.invariant-loop-value
invariant-loop-value l =
    each_item host Hosts l.hosts (items_view (drop l.value-index l.values)) ≡ each_item host Hosts [] (items_view l.values)
