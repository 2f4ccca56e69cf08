use Rattle.std.proofs.Common.{[], ◌-◌, ◌∷◌, ap, false, inl, inr, ◌∙◌}
use Rattle.std.proofs.lemmas.Result.{on_ok_weaker}
use Rattle.mdcc_disks.specs.Contents.{Contents, done}
use Rattle.mdcc_disks.specs.Disks.DiskCall.{Sync, Write}
use Rattle.mdcc_world_logs.proofs.Made.{call-failed, call-made, on-err-weaker, sync-failed}
use Rattle.mdcc_world_logs.proofs.Refusals.{on-err}
use Rattle.mdcc_world_logs.proofs.stopping.open_gate.Goals as goal

pub returns-in_err-sync-clause-left : goal.returns-in_err-sync-clause-left
returns-in_err-sync-clause-left c = on-err _ (inl (sync-failed c.args.place c.args.disks.now c.sync.new.self _ c.in_err-sync.ensures.made))

pub returns-clause-made : goal.returns-clause-made
returns-clause-made c =
    let synced = call-made c.args.place Sync c.args.disks.now c.sync.new.self _ c.in_ok-sync.ensures.made in
    on_ok_weaker c.write_at.result (λ made. made ∙ ap (λ (x : Contents). done (Write (c.args.size - 1) (1 ∷ [])) false x) synced)
    (call-made c.args.place (Write (c.args.size - 1) (1 ∷ [])) c.sync.new.self c.write_at.new.self c.write_at.result c.write_at.ensures.made)

pub returns-clause-left : goal.returns-clause-left
returns-clause-left c =
    let synced = call-made c.args.place Sync c.args.disks.now c.sync.new.self _ c.in_ok-sync.ensures.made in
    on-err-weaker c.write_at.result (λ either. elim either [
      | inl wrote ↦ inr (inr (wrote ∙ ap (λ (x : Contents). done (Write (c.args.size - 1) (1 ∷ [])) false x) synced))
      | inr same ↦ inr (inl (same ∙ synced))
    ])
    (call-failed c.args.place (Write (c.args.size - 1) (1 ∷ [])) c.sync.new.self c.write_at.new.self c.write_at.result c.write_at.ensures.made)
