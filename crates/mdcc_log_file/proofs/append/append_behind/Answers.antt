use Rattle.std.proofs.Common.{◌-◌, ◌∷◌, [], List, ◌∙◌, ap, subst, Option}
use Rattle.mdcc_disks.specs.Disks.{IsOverwritten, DiskCall}
use Rattle.mdcc_disks.specs.Disks.DiskCall.{Write, Sync}
use Rattle.mdcc_log_file.specs.Calls.{with_calls}
use Rattle.mdcc_log_file.specs.Append.{MayStandBehind}
use Rattle.mdcc_log_file.proofs.Appends.{stage_leaves, stage_makes, gate_leaves, gate_makes}
use Rattle.mdcc_log_file.proofs.Calls.{made_first, made_both, added_twice}
use Rattle.mdcc_log_file.proofs.Moments.{weakened, both}
use Rattle.mdcc_log_file.proofs.append.append_behind.Goals as goal

pub returns-in_err-write_through-clause-any_moment : goal.returns-in_err-write_through-clause-any_moment
returns-in_err-write_through-clause-any_moment g c front inner ends told rest =
    weakened (MayStandBehind front inner) (c.write_through.ensures.any_moment told) (λ x torn. stage_leaves front inner c.args.size c.args.bytes.now _ _ x rest torn)

pub returns-in_err-write_through-2-clause-any_moment : goal.returns-in_err-write_through-2-clause-any_moment
returns-in_err-write_through-2-clause-any_moment g c front inner ends told rest =
    let mid = (g.D.Disks.disk c.write_through.new.disks c.args.place).bytes in
    let holds = subst (λ b. IsOverwritten (g.D.Disks.disk c.args.disks.now c.args.place).bytes c.args.size b mid) ends (c.in_ok-write_through.ensures.written told) in
    let is = stage_makes front inner c.args.size _ _ mid rest holds in
    both
    (weakened (MayStandBehind front inner) (c.write_through.ensures.any_moment told) (λ x torn. stage_leaves front inner c.args.size c.args.bytes.now _ _ x rest torn))
    (weakened (MayStandBehind front inner) (c.write_through-2.ensures.any_moment (c.write_through.ensures.others.told ∙ told)) (λ x torn. gate_leaves front inner c.args.size _ mid _ x rest is torn))

pub returns-clause-any_moment : goal.returns-clause-any_moment
returns-clause-any_moment g c front inner ends told rest =
    let mid = (g.D.Disks.disk c.write_through.new.disks c.args.place).bytes in
    let holds = subst (λ b. IsOverwritten (g.D.Disks.disk c.args.disks.now c.args.place).bytes c.args.size b mid) ends (c.in_ok-write_through.ensures.written told) in
    let is = stage_makes front inner c.args.size _ _ mid rest holds in
    both
    (weakened (MayStandBehind front inner) (c.write_through.ensures.any_moment told) (λ x torn. stage_leaves front inner c.args.size c.args.bytes.now _ _ x rest torn))
    (weakened (MayStandBehind front inner) (c.write_through-2.ensures.any_moment (c.write_through.ensures.others.told ∙ told)) (λ x torn. gate_leaves front inner c.args.size _ mid _ x rest is torn))

pub returns-clause-acknowledged : goal.returns-clause-acknowledged
returns-clause-acknowledged g c front inner ends told rest =
    let mid = (g.D.Disks.disk c.write_through.new.disks c.args.place).bytes in
    let holds = subst (λ b. IsOverwritten (g.D.Disks.disk c.args.disks.now c.args.place).bytes c.args.size b mid) ends (c.in_ok-write_through.ensures.written told) in
    let is = stage_makes front inner c.args.size _ _ mid rest holds in
    let told_mid = c.write_through.ensures.others.told ∙ told in
    gate_makes front inner c.args.bytes.now c.args.size _ mid _ _ _ ends rest is (c.in_ok-write_through-2.ensures.written told_mid) (c.in_ok-write_through-2.ensures.durable told_mid)

pub returns-in_err-write_through-clause-calls : goal.returns-in_err-write_through-clause-calls
returns-in_err-write_through-clause-calls g c =
    let one = Write c.args.size c.args.bytes.now ∷ Sync ∷ [] in
    let two = Write (c.args.size - 1) (1 ∷ []) ∷ Sync ∷ [] in
    (made_first one two _ _ c.write_through.ensures.calls)

pub returns-in_err-write_through-2-clause-calls : goal.returns-in_err-write_through-2-clause-calls
returns-in_err-write_through-2-clause-calls g c =
    let one = Write c.args.size c.args.bytes.now ∷ Sync ∷ [] in
    let two = Write (c.args.size - 1) (1 ∷ []) ∷ Sync ∷ [] in
    (made_both one two _ _ _ c.in_ok-write_through.ensures.all_calls c.write_through-2.ensures.calls)

pub returns-clause-calls : goal.returns-clause-calls
returns-clause-calls g c =
    let one = Write c.args.size c.args.bytes.now ∷ Sync ∷ [] in
    let two = Write (c.args.size - 1) (1 ∷ []) ∷ Sync ∷ [] in
    (made_both one two _ _ _ c.in_ok-write_through.ensures.all_calls c.write_through-2.ensures.calls)

pub returns-clause-all_calls : goal.returns-clause-all_calls
returns-clause-all_calls g c =
    let one = Write c.args.size c.args.bytes.now ∷ Sync ∷ [] in
    let two = Write (c.args.size - 1) (1 ∷ []) ∷ Sync ∷ [] in
    let old = (g.D.Disks.disk c.args.disks.now c.args.place).calls in
    c.in_ok-write_through-2.ensures.all_calls ∙ ap (λ (o : Option (List DiskCall)). with_calls two o) c.in_ok-write_through.ensures.all_calls ∙ added_twice one two old
