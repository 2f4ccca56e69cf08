use Rattle.std.proofs.Common.{◌≡◌, option_copied}
use Rattle.serde_json.specs.View.{members_view}
use Rattle.mdcc_config.specs.Names.{least_unknown}
use Rattle.mdcc_config.proofs.names.least_unknown.Given as goal

abbrev pub invariant-loop-name : goal.invariant-loop-name
invariant-loop-name l =
    least_unknown (option_copied l.least) (members_view l.name-iterator) ≡ least_unknown (option_copied l.fn.missing) (members_view l.members.entries)
