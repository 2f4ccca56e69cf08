use Rattle.std.proofs.Common.{◌∙◌}
use Rattle.mdcc_def_protocol.specs.Facts.{executed_of}
use Rattle.mdcc_node_boot.proofs.Fresh.{other_deltas}
use Rattle.mdcc_node_boot.proofs.news.has_new.Goals as goal

pub returns : goal.returns
returns g c facts h =
    c.has_other.ensures
    ∙ other_deltas (executed_of facts c.args.key.now) c.as_slice.result.now c.args.adds.now (c.as_slice.ensures.value ∙ c.executed-executed.ensures facts h)
