use Rattle.std.proofs.Common.{◌∷◌, [], ℕ, length, List, ◌∙◌, subst}
use Rattle.mdcc_disks.specs.Disks.DiskCall.{Length, Sync}
use Rattle.mdcc_log_file.specs.Calls.{ReadsSome, read_calls}
use Rattle.mdcc_log_file.proofs.ReadCalls.{made_one, only_front, some_behind}
use Rattle.mdcc_log_file.proofs.Moments.{one_call, weakened, both}
use Rattle.mdcc_log_file.proofs.reading.load.Goals as goal

pub returns-clause-any_moment : goal.returns-clause-any_moment
returns-clause-any_moment g c =
    let may = g.D.Disks.may_leave c.args.disks.now c.args.place in
    both
    (one_call may c.sync.ensures.call.time (λ x left. g.met.D.Disks.only_now c.args.disks.now c.args.place x left) c.sync.ensures.crash)
    (weakened may c.read_file.ensures.any_moment c.sync.ensures.crash)

pub returns-in_err-sync-clause-calls : goal.returns-in_err-sync-clause-calls
returns-in_err-sync-clause-calls g c told =
    let size = length (g.D.Disks.disk c.args.disks.now c.args.place).bytes in
    only_front size (λ counts. Length ∷ read_calls size 0 counts) (Sync ∷ []) _ _ (made_one _ _ _ _ c.sync.ensures.call.calls)

pub returns-clause-calls : goal.returns-clause-calls
returns-clause-calls g c told =
    let file = (g.D.Disks.disk c.args.disks.now c.args.place).bytes in
    some_behind (length file) (λ counts. Length ∷ read_calls (length file) 0 counts) (Sync ∷ []) _ _ _ c.in_ok-sync.ensures.call.calls.ok
    (subst (λ (l : List ℕ). ReadsSome (length l) (λ counts. Length ∷ read_calls (length l) 0 counts) (g.D.Disks.disk c.sync.new.self c.args.place).calls (g.D.Disks.disk c.read_file.new.disks c.args.place).calls) c.sync.ensures.bytes (c.read_file.ensures.calls (c.sync.ensures.call.others.told ∙ told)))
