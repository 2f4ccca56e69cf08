use Rattle.std.proofs.Common.{◌∙◌, [], ap, sym}
use Rattle.mdcc_option.specs.declared.choices.Mark.{Mark}
use Rattle.mdcc_struct.specs.Maps.{inserted}
use Rattle.mdcc_def_protocol.specs.Facts.{current_of}
use Rattle.mdcc_def_protocol.specs.Fit.{capped, load_of}
use Rattle.mdcc_def_protocol.specs.Structures.{live_at_leader}
use Rattle.mdcc_leader_structures.proofs.Beside.{accepted_weighed, rejected_weighed}
use Rattle.mdcc_leader_structures.proofs.marked.load_with.Goals as goal

pub returns-else-has_delta-clause-value : goal.returns-else-has_delta-clause-value
returns-else-has_delta-clause-value g c facts before h is =
    let key = c.args.key.now in
    c.with_update.ensures.value facts h
    ∙ accepted_weighed facts key before c.args.tx c.in-Accept.choice (sym (c.has_delta.ensures facts h) ∙ c.if-has_delta.false) c.args.load is
    ∙ ap (λ (mark : Mark). capped (load_of (live_at_leader facts key (current_of facts key) (inserted before (c.args.tx, mark))) [])) (sym c.in-Accept.is)

pub returns-in-Reject-clause-value : goal.returns-in-Reject-clause-value
returns-in-Reject-clause-value g c facts before h is =
    let key = c.args.key.now in
    rejected_weighed facts key before c.args.tx c.args.load is
    ∙ ap (λ (mark : Mark). capped (load_of (live_at_leader facts key (current_of facts key) (inserted before (c.args.tx, mark))) [])) (sym c.in-Reject.is)
