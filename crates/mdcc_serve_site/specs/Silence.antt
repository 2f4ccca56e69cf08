-- Time passes at a centre where nothing came.
use Rattle.std.specs.Prelude.{Bool, if◌then◌else◌}
use Rattle.mdcc_config.specs.declared.config.Config.{Config}
use Rattle.mdcc_def_rules.specs.declared.node.Input.{Input}
use Rattle.mdcc_def_server_runs.specs.Sites.{Doing, Site, idle_site}
use Rattle.mdcc_def_server_runs.specs.Steps.{input_taken}

abbrev pub ticked_if : Config → Bool → Site → Doing
ticked_if config silent site = if silent then input_taken config site Input.Tick else idle_site site
