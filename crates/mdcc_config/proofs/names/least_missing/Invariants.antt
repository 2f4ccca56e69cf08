use Rattle.std.proofs.Common.{◌≡◌, None, drop, option_copied}
use Rattle.serde_json.specs.View.{members_view}
use Rattle.mdcc_config.specs.Names.{least_missing}
use Rattle.mdcc_config.proofs.names.least_missing.Given as goal

abbrev pub invariant-loop-name : goal.invariant-loop-name
invariant-loop-name l =
    least_missing (members_view l.members.entries) (option_copied l.least) (drop l.name-index l.names)
    ≡ least_missing (members_view l.members.entries) None l.names
