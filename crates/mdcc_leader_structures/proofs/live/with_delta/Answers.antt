use Rattle.std.proofs.Common.{◌≡◌, ◌∙◌, Some, false, refl, sym}
use Rattle.mdcc_struct.specs.Maps.{value_of}
use Rattle.mdcc_def_protocol.specs.Facts.{executed_of}
use Rattle.mdcc_leader_structures.specs.Live.{has_accept}
use Rattle.mdcc_leader_structures.proofs.Marks.{delta_there}
use Rattle.mdcc_leader_structures.proofs.live.with_delta.Goals as goal

pub returns-in-Some-clause-value : goal.returns-in-Some-clause-value
returns-in-Some-clause-value g c facts h =
    let free : has_accept c.args.options.now c.args.tx ≡ false = sym c.has_accept.ensures ∙ c.if-has_accept.false in
    let found : value_of (executed_of facts c.args.key.now) c.args.tx ≡ Some c.in-Some.delta.amounts =
    delta_there (value_of (executed_of facts c.args.key.now) c.args.tx) c.args.tx c.in-Some.delta (sym (c.in-Some.ensures facts h))
    in
    c.with_update.ensures.value facts h ∙ rw (free, found) refl
