use Rattle.std.proofs.Common.{refl}
use Rattle.mdcc_def_rules.specs.declared.node.Input.{Input}
use Rattle.mdcc_def_server_runs.specs.Runs.{step_on}
use Rattle.mdcc_def_server_runs.specs.Steps.{input_taken}
use Rattle.mdcc_serve_site.proofs.Becoming.{becomes_from, same_node}
use Rattle.mdcc_serve_site.proofs.site.Site.tick.Goals as goal

pub returns : goal.returns
returns c config site stands =
    let new = c.act_on-made.new.self in
    becomes_from config.cluster (input_taken config site Input.Tick) c.input_made.result site site c.args.self.now new c.input_made.new.self refl refl (same_node c.args.self.now new c.act_on-made.ensures.same)
    (c.input_made.ensures config.cluster site (step_on config.cluster site.centre site.node Input.Tick) (c.act_on-made.ensures.acted config.cluster site stands))
