use Rattle.std.proofs.Common.{arith, inl, inr, IsTrue, sym, ◌∙◌, ap}
use Rattle.mdcc_log_file.proofs.Moments.{one_call, weakened, both}
use Rattle.mdcc_log_file.specs.Area.{area_gate}
use Rattle.mdcc_log.specs.Checkpoint.{MayBegin}
use Rattle.mdcc_log.proofs.Around.{shut_as}
use Rattle.mdcc_log_file.proofs.Gates.{cut_stays_shut}
use Rattle.std.proofs.Common.{◌≡◌, ◌∷◌, ◌++◌, [], List, OnOk, append_assoc, subst}
use Rattle.mdcc_disks.specs.Disks.{DiskCall}
use Rattle.mdcc_disks.specs.Disks.DiskCall.{Cut, Sync}
use Rattle.mdcc_log_file.specs.Calls.{with_calls}
use Rattle.mdcc_log_file.specs.Copying.{shut_calls}
use Rattle.mdcc_log_file.proofs.ReadCalls.{all_where}
use Rattle.mdcc_world_log_stops.proofs.StopCalls.{calls_cut, calls_shut}
use Rattle.mdcc_world_log_stops.proofs.stops.shut_until.Goals as goal

pub cut-requires : goal.cut-requires
cut-requires g c told =
    let was : IsTrue (g.D.Disks.disk c.args.disks.now c.args.place).told = sym c.shut_area.ensures.others.told ∙ told in
    (shut_as c.args.spare _ _ (c.requires.spare was) (c.in_ok-shut_area.ensures.shut was)).long

pub returns-then-call-lt3-clause-any_moment : goal.returns-then-call-lt3-clause-any_moment
returns-then-call-lt3-clause-any_moment g c told =
    weakened (MayBegin (g.D.Disks.disk c.args.disks.now c.args.place).bytes) (c.write_shut.ensures.any_moment told) (λ x may. inl may)

pub returns-in_err-shut_area-clause-any_moment : goal.returns-in_err-shut_area-clause-any_moment
returns-in_err-shut_area-clause-any_moment g c told =
    weakened (MayBegin (g.D.Disks.disk c.args.disks.now c.args.place).bytes) (c.shut_area.ensures.any_moment told) (λ x may. inl may)

pub returns-clause-any_moment : goal.returns-clause-any_moment
returns-clause-any_moment g c told =
    let old = (g.D.Disks.disk c.args.disks.now c.args.place).bytes in
    let mid = (g.D.Disks.disk c.shut_area.new.disks c.args.place).bytes in
    let shut = (shut_as c.args.spare old mid (c.requires.spare told) (c.in_ok-shut_area.ensures.shut told)).gate in
    both
    (weakened (MayBegin old) (c.shut_area.ensures.any_moment told) (λ x may. inl may))
    (one_call (MayBegin old) c.cut.ensures.call.time
    (λ x left. inr (ap area_gate (c.in_ok-shut_area.ensures.durable told x (g.met.D.Disks.only_now c.shut_area.new.disks c.args.place x left)) ∙ shut))
    (λ x now. inr (cut_stays_shut (c.cut.ensures.crash x now).0 x (c.cut.ensures.crash x now).2 (ap area_gate (c.in_ok-shut_area.ensures.durable told (c.cut.ensures.crash x now).0 (c.cut.ensures.crash x now).1) ∙ shut))))

pub returns-then-call-lt3-clause-all_calls : goal.returns-then-call-lt3-clause-all_calls
returns-then-call-lt3-clause-all_calls g c generation records few =
    subst (λ (l : List DiskCall). OnOk c.write_shut.result ((g.D.Disks.disk c.write_shut.new.disks c.args.place).calls ≡ with_calls l (g.D.Disks.disk c.args.disks.now c.args.place).calls))
    (sym (calls_shut c.args.call c.args.spare generation records c.if-call-lt3.true)) c.write_shut.ensures.all_calls

pub returns-clause-all_calls : goal.returns-clause-all_calls
returns-clause-all_calls g c generation records few =
    subst (λ (l : List DiskCall). OnOk c.cut.result ((g.D.Disks.disk c.cut.new.self c.args.place).calls ≡ with_calls l (g.D.Disks.disk c.args.disks.now c.args.place).calls))
    (append_assoc (shut_calls c.args.spare) (Sync ∷ []) (Cut 9 ∷ []) ∙ sym (calls_cut c.args.call c.args.spare generation records (omega (arith, c.if-call-lt3.false)) few))
    (all_where (shut_calls c.args.spare ++ Sync ∷ []) (Cut 9 ∷ []) _ _ _ c.cut.result c.in_ok-shut_area.ensures.all_calls c.cut.ensures.call.calls.ok)
