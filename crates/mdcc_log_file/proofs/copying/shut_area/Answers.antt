use Rattle.std.proofs.Common.{◌∷◌, []}
use Rattle.mdcc_disks.specs.Disks.DiskCall.{Sync}
use Rattle.mdcc_log_file.specs.Copying.{shut_calls}
use Rattle.mdcc_log_file.proofs.Calls.{made_both}
use Rattle.mdcc_log_file.proofs.ReadCalls.{made_one}
use Rattle.mdcc_log_file.proofs.copying.shut_area.Goals as goal

pub returns-clause-calls : goal.returns-clause-calls
returns-clause-calls g c = made_both (shut_calls c.args.spare) (Sync ∷ []) _ _ _ c.in_ok-write_shut.ensures.all_calls (made_one _ _ _ _ c.sync.ensures.call.calls)
