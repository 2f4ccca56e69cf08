use Rattle.std.proofs.Common.{◌≡◌, inl, inr, ◌∷◌, [], List, ℕ, get_or, ◌∙◌, ap, subst, arith}
use Rattle.mdcc_disks.specs.Disks.{IsTorn, IsOverwritten}
use Rattle.mdcc_disks.specs.Disks.DiskCall.{Write, Sync}
use Rattle.mdcc_log_file.proofs.Bytes.{one_written}
use Rattle.mdcc_log_file.proofs.Moments.{one_call, weakened, both}
use Rattle.mdcc_log.specs.Checkpoint.{MayOpen}
use Rattle.mdcc_log_file.specs.Area.{with_gate}
use Rattle.mdcc_log_file.proofs.Calls.{made_both, made_first}
use Rattle.mdcc_log_file.proofs.ReadCalls.{made_one, all_where}
use Rattle.mdcc_log_file.proofs.Gates.{gate_torn}
use Rattle.mdcc_log.proofs.Outcomes.{on_ok}
use Rattle.mdcc_log.proofs.checkpoint.open_area.Goals as goal

pub returns-in_err-sync-clause-any_moment : goal.returns-in_err-sync-clause-any_moment
returns-in_err-sync-clause-any_moment g c told =
    let bytes = (g.D.Disks.disk c.args.disks.now c.args.place).bytes in
    one_call (MayOpen bytes) c.sync.ensures.call.time (λ x left. inl (c.requires.shut told x (g.met.D.Disks.only_now c.args.disks.now c.args.place x left))) (λ x now. inl (c.requires.shut told x (c.sync.ensures.crash x now)))

pub returns-clause-any_moment : goal.returns-clause-any_moment
returns-clause-any_moment g c told =
    let bytes = (g.D.Disks.disk c.args.disks.now c.args.place).bytes in
    both
    (one_call (MayOpen bytes) c.sync.ensures.call.time (λ x left. inl (c.requires.shut told x (g.met.D.Disks.only_now c.args.disks.now c.args.place x left))) (λ x now. inl (c.requires.shut told x (c.sync.ensures.crash x now))))
    (weakened (MayOpen bytes) (c.write_through.ensures.any_moment (c.sync.ensures.call.others.told ∙ told)) (λ x torn.
    inr (get_or x 8 0, gate_torn 1 bytes x (omega (arith, c.requires.long told)) (subst (λ l. IsTorn g.D.Disks.tears 8 (1 ∷ []) l x) c.sync.ensures.bytes torn))))

pub returns-clause-opened : goal.returns-clause-opened
returns-clause-opened g c told =
    let bytes = (g.D.Disks.disk c.args.disks.now c.args.place).bytes in
    let mid = (g.D.Disks.disk c.sync.new.self c.args.place).bytes in
    let new = (g.D.Disks.disk c.write_through.new.disks c.args.place).bytes in
    on_ok (IsOverwritten mid 8 (1 ∷ []) new) (new ≡ with_gate 1 bytes) c.write_through.result (λ holds. one_written mid new 8 1 holds ∙ ap (λ (l : List ℕ). with_gate 1 l) c.sync.ensures.bytes) (c.write_through.ensures.written (c.sync.ensures.call.others.told ∙ told))

pub returns-in_err-sync-clause-calls : goal.returns-in_err-sync-clause-calls
returns-in_err-sync-clause-calls g c = made_first (Sync ∷ []) (Write 8 (1 ∷ []) ∷ Sync ∷ []) _ _ (made_one _ _ _ _ c.sync.ensures.call.calls)

pub returns-clause-calls : goal.returns-clause-calls
returns-clause-calls g c = made_both (Sync ∷ []) (Write 8 (1 ∷ []) ∷ Sync ∷ []) _ _ _ c.in_ok-sync.ensures.call.calls.ok c.write_through.ensures.calls

pub returns-clause-all_calls : goal.returns-clause-all_calls
returns-clause-all_calls g c = all_where (Sync ∷ []) (Write 8 (1 ∷ []) ∷ Sync ∷ []) _ _ _ c.write_through.result c.in_ok-sync.ensures.call.calls.ok c.write_through.ensures.all_calls
