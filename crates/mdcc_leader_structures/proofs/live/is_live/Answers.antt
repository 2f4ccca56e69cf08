use Rattle.std.proofs.Common.{◌∙◌, sym}
use Rattle.mdcc_leader_structures.proofs.Beside.{live_accept, live_delta, live_void}
use Rattle.mdcc_leader_structures.proofs.live.is_live.Goals as goal

pub returns-then-is_void : goal.returns-then-is_void
returns-then-is_void g c facts h =
    live_void facts c.args.key.now c.args.options.now c.args.tx c.len-marks.ensures.ascending (sym (c.is_void.ensures facts h) ∙ c.if-is_void.true)

pub returns-then-has_accept : goal.returns-then-has_accept
returns-then-has_accept g c facts h =
    c.if-has_accept.true
    ∙ live_accept facts c.args.key.now c.args.options.now c.args.tx c.len-marks.ensures.ascending
    (sym (c.is_void.ensures facts h) ∙ c.if-is_void.false) (sym c.has_accept.ensures ∙ c.if-has_accept.true)

pub returns-else-has_accept : goal.returns-else-has_accept
returns-else-has_accept g c facts h =
    c.has_delta.ensures facts h
    ∙ live_delta facts c.args.key.now c.args.options.now c.args.tx c.len-marks.ensures.ascending
    (sym (c.is_void.ensures facts h) ∙ c.if-is_void.false) (sym c.has_accept.ensures ∙ c.if-has_accept.false)
