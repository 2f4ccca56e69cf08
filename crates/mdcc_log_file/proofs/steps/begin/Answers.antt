use Rattle.std.proofs.Common.{◌∷◌, []}
use Rattle.mdcc_disks.specs.Disks.DiskCall.{Write, Cut, Sync}
use Rattle.mdcc_log_file.specs.Log.{log_bytes}
use Rattle.mdcc_log_file.proofs.Calls.{made_both, made_first, told_two}
use Rattle.mdcc_log_file.proofs.ReadCalls.{all_three, made_one}
use Rattle.mdcc_log_file.proofs.steps.begin.Goals as goal

pub returns-in_err-write_at-clause-calls : goal.returns-in_err-write_at-clause-calls
returns-in_err-write_at-clause-calls g c =
    made_first (Cut 0 ∷ Write 0 (log_bytes []) ∷ []) (Sync ∷ []) _ _
    (made_both (Cut 0 ∷ []) (Write 0 (log_bytes []) ∷ []) _ _ _ c.in_ok-cut.ensures.call.calls.ok (made_one _ _ _ _ c.write_at.ensures.call.calls))

pub returns-clause-calls : goal.returns-clause-calls
returns-clause-calls g c =
    made_both (Cut 0 ∷ []) (Write 0 (log_bytes []) ∷ Sync ∷ []) _ _ _ c.in_ok-cut.ensures.call.calls.ok
    (told_two _ _ _ _ _ _ c.in_ok-write_at.ensures.call.calls.ok c.sync.ensures.call.calls)

pub returns-clause-all_calls : goal.returns-clause-all_calls
returns-clause-all_calls g c =
    all_three (Cut 0) (Write 0 (log_bytes [])) Sync _ _ _ _ c.sync.result c.in_ok-cut.ensures.call.calls.ok c.in_ok-write_at.ensures.call.calls.ok c.sync.ensures.call.calls
