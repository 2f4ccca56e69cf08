use Rattle.std.proofs.Common.{◌∷◌, []}
use Rattle.mdcc_disks.specs.Disks.DiskCall.{Cut}
use Rattle.mdcc_log_file.proofs.Moments.{one_call}
use Rattle.mdcc_log_file.specs.Copying.{IsShut, mark_calls}
use Rattle.mdcc_log_file.proofs.Calls.{made_both}
use Rattle.mdcc_log_file.proofs.Gates.{cut_stays_shut}
use Rattle.mdcc_log_file.proofs.Joined.{shut_joined}
use Rattle.mdcc_log_file.proofs.copying.clear_area.Goals as goal

pub returns-clause-stays : goal.returns-clause-stays
returns-clause-stays g c =
    shut_joined g.D.Disks.disk g.D.Disks.may_leave g.D.Disks.moment g.D.Disks.left_since g.met.D.Disks.only_now c.args.disks.now c.cut.new.self c.write_mark.new.disks c.args.place
    (record {
      shut = λ within x now. cut_stays_shut (c.cut.ensures.crash x now).0 x (c.cut.ensures.crash x now).2 (within (c.cut.ensures.crash x now).0 (c.cut.ensures.crash x now).1);
      any_moment = λ within. one_call IsShut c.cut.ensures.call.time (λ x left. within x (g.met.D.Disks.only_now c.args.disks.now c.args.place x left))
          (λ x now. cut_stays_shut (c.cut.ensures.crash x now).0 x (c.cut.ensures.crash x now).2 (within (c.cut.ensures.crash x now).0 (c.cut.ensures.crash x now).1));
    })
    c.write_mark.ensures.stays

pub returns-clause-calls : goal.returns-clause-calls
returns-clause-calls g c = made_both (Cut 9 ∷ []) (mark_calls c.args.spare) _ _ _ c.in_ok-cut.ensures.call.calls.ok c.write_mark.ensures.calls
