use Rattle.std.proofs.Common.{[], ◌-◌, ◌∷◌, List, ap, false, ℕ, sym, ◌∙◌}
use Rattle.std.proofs.lemmas.Result.{on_ok_weaker}
use Rattle.mdcc_disks.specs.Contents.{Contents, done}
use Rattle.mdcc_disks.specs.Disks.DiskCall.{Sync, Write}
use Rattle.mdcc_disks.specs.Memory.{at_place, standing}
use Rattle.mdcc_world_logs.proofs.Made.{call-failed, call-made, on-err-weaker}
use Rattle.mdcc_world_logs.proofs.Refusals.{on-err}
use Rattle.mdcc_world_logs.proofs.Stages.{gate-between, stopped-early, stopped-late, write-between, writing}
use Rattle.mdcc_world_logs.proofs.stopping.write_until.Goals as goal

pub returns-in_err-write_at-clause-left : goal.returns-in_err-write_at-clause-left
returns-in_err-write_at-clause-left c front is was =
    on-err _ (write-between front c.args.payload.now c.args.size c.args.frame.now (standing (at_place c.args.disks.now c.args.place)) (standing (at_place c.write_at.new.self c.args.place)) is c.requires.frame was
    (call-failed c.args.place (Write c.args.size c.args.frame.now) c.args.disks.now c.write_at.new.self _ c.in_err-write_at.ensures.made))

pub returns-then-call-lt3-clause-made : goal.returns-then-call-lt3-clause-made
returns-then-call-lt3-clause-made c =
    let was = standing (at_place c.args.disks.now c.args.place) in
    call-made c.args.place (Write c.args.size c.args.frame.now) c.args.disks.now c.write_at.new.self _ c.in_ok-write_at.ensures.made
    ∙ ap (λ (l : List ℕ). done (Write c.args.size l) false was) c.requires.frame
    ∙ sym (stopped-early c.args.call c.args.size c.args.payload.now was c.requires.first c.if-call-lt3.true)

pub returns-clause-made : goal.returns-clause-made
returns-clause-made c =
    let was = standing (at_place c.args.disks.now c.args.place) in
    let wrote =
    call-made c.args.place (Write c.args.size c.args.frame.now) c.args.disks.now c.write_at.new.self _ c.in_ok-write_at.ensures.made
    ∙ ap (λ (l : List ℕ). done (Write c.args.size l) false was) c.requires.frame in
    on_ok_weaker c.open_gate.result (λ made.
    made ∙ ap (λ (x : Contents). done (Write (c.args.size - 1) (1 ∷ [])) false (done Sync false x)) wrote
    ∙ sym (stopped-late c.args.call c.args.size c.args.payload.now was c.if-call-lt3.false c.requires.last))
    c.open_gate.ensures.made

pub returns-clause-left : goal.returns-clause-left
returns-clause-left c front is was =
    let mid = standing (at_place c.write_at.new.self c.args.place) in
    let framed = writing front c.args.payload.now c.args.size c.args.frame.now false (standing (at_place c.args.disks.now c.args.place)) mid is c.requires.frame was
    (call-made c.args.place (Write c.args.size c.args.frame.now) c.args.disks.now c.write_at.new.self _ c.in_ok-write_at.ensures.made) in
    on-err-weaker c.open_gate.result (λ which.
    gate-between front c.args.payload.now c.args.size mid (standing (at_place c.open_gate.new.disks c.args.place)) is framed which)
    c.open_gate.ensures.left
