use Rattle.std.proofs.Common.{◌∙◌, ap, fold}
use Rattle.mdcc_struct.specs.Maps.{txs_of}
use Rattle.mdcc_def_protocol.specs.Facts.{executed_of}
use Rattle.mdcc_leader_structures.specs.Live.{with_delta}
use Rattle.mdcc_leader_structures.proofs.Beside.{load_beside}
use Rattle.mdcc_leader_structures.proofs.live.load_at_leader.Goals as goal

pub returns-clause-value : goal.returns-clause-value
returns-clause-value g c facts h =
    let key = c.args.key.now in
    let options = c.args.options.now in
    c.with_deltas.ensures.value facts h
    ∙ ap (λ load. fold (with_delta facts key options) load (txs_of (executed_of facts key))) (c.load_of_marks.ensures.value facts h)
    ∙ load_beside facts key options c.len-marks.ensures.ascending
