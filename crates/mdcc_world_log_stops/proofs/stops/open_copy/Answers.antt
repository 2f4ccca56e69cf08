use Rattle.std.proofs.Common.{inl, inr, ◌∷◌, [], List, ℕ, get_or, ◌∙◌, ap, subst, arith, false}
use Rattle.std.proofs.lemmas.Result.{on_ok_weaker}
use Rattle.mdcc_disks.specs.Contents.{Contents, done, durable}
use Rattle.mdcc_disks.specs.Disks.{IsTorn, LeavesOnly}
use Rattle.mdcc_disks.specs.Disks.DiskCall.{Write, Sync}
use Rattle.mdcc_disks.specs.Memory.{disk_of, left_since_of, moment_of, only_now_of}
use Rattle.mdcc_disks.specs.Contents.{tears_of}
use Rattle.mdcc_log_file.proofs.Moments.{one_call, both}
use Rattle.mdcc_log.specs.Checkpoint.{MayOpen}
use Rattle.mdcc_log_file.proofs.Gates.{gate_torn}
use Rattle.mdcc_world_log_stops.proofs.Memories.{call_made}
use Rattle.mdcc_log_file.proofs.ReadCalls.{all_where}
use Rattle.mdcc_world_log_stops.proofs.stops.open_copy.Goals as goal

pub returns-clause-opened : goal.returns-clause-opened
returns-clause-opened c generation records is =
    let synced = call_made c.args.place Sync c.args.disks.now c.sync.new.self _ c.in_ok-sync.ensures.made in
    on_ok_weaker c.write_at.result (λ made. made ∙ ap (λ (x : Contents). done (Write 8 (1 ∷ [])) false x) synced ∙ ap (λ (l : List ℕ). done (Write 8 (1 ∷ [])) false (durable l)) is)
    (call_made c.args.place (Write 8 (1 ∷ [])) c.sync.new.self c.write_at.new.self c.write_at.result c.write_at.ensures.made)

pub returns-in_err-sync-clause-any_moment : goal.returns-in_err-sync-clause-any_moment
returns-in_err-sync-clause-any_moment c told =
    one_call (MayOpen (disk_of c.args.disks.now c.args.place).bytes) c.sync.ensures.call.time
    (λ x left. inl (c.requires.shut told x (only_now_of c.args.disks.now c.args.place x left)))
    (λ x now. inl (c.requires.shut told x (c.sync.ensures.crash x now)))

pub returns-clause-any_moment : goal.returns-clause-any_moment
returns-clause-any_moment c told =
    let bytes = (disk_of c.args.disks.now c.args.place).bytes in
    let first : LeavesOnly moment_of left_since_of c.args.disks.now c.sync.new.self c.args.place (MayOpen bytes) =
    one_call (MayOpen bytes) c.sync.ensures.call.time
    (λ x left. inl (c.requires.shut told x (only_now_of c.args.disks.now c.args.place x left)))
    (λ x now. inl (c.requires.shut told x (c.sync.ensures.crash x now))) in
    let second : LeavesOnly moment_of left_since_of c.sync.new.self c.write_at.new.self c.args.place (MayOpen bytes) =
    one_call (MayOpen bytes) c.write_at.ensures.call.time
    (λ x left. inl (c.requires.shut told x (c.sync.ensures.crash x (only_now_of c.sync.new.self c.args.place x left))))
    (λ x now. inr (
      get_or x 8 0,
      gate_torn {tears = tears_of} 1 bytes x (omega (arith, c.requires.long told))
          (subst (λ (l : List ℕ). IsTorn tears_of 8 (1 ∷ []) l x) (c.in_ok-sync.ensures.durable told (c.write_at.ensures.crash x now).0 (c.write_at.ensures.crash x now).1) (c.write_at.ensures.crash x now).2),
    )) in
    both {old = c.args.disks.now} {mid = c.sync.new.self} {new = c.write_at.new.self} first second

pub returns-clause-all_calls : goal.returns-clause-all_calls
returns-clause-all_calls c =
    all_where (Sync ∷ []) (Write 8 (1 ∷ []) ∷ []) (disk_of c.args.disks.now c.args.place).calls (disk_of c.sync.new.self c.args.place).calls (disk_of c.write_at.new.self c.args.place).calls c.write_at.result c.in_ok-sync.ensures.call.calls.ok c.write_at.ensures.call.calls.ok
