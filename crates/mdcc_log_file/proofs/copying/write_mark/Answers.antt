use Rattle.std.proofs.Common.{◌≡◌, ◌∷◌, ◌++◌, [], OnOk, Result, Ok, Err}
use Rattle.mdcc_base.specs.declared.faults.Failed.{Failed}
use Rattle.mdcc_disks.specs.Disks.{IsOverwritten}
use Rattle.mdcc_log_file.specs.Area.{area_mark}
use Rattle.mdcc_log_file.proofs.Gates.{mark_written}
use Rattle.mdcc_log_file.proofs.copying.write_mark.Goals as goal

where_ok : {T : Type 0} (P Q : Type 0) (result : Result T Failed) → (P → Q) → OnOk result P → OnOk result Q
where_ok P Q (Ok x) from has = from has
where_ok P Q (Err e) from has = tt

pub returns-then-needs_mark-clause-marked : goal.returns-then-needs_mark-clause-marked
returns-then-needs_mark-clause-marked g c told =
    let old = (g.D.Disks.disk c.args.disks.now c.args.place).bytes in
    let new = (g.D.Disks.disk c.write_at.new.self c.args.place).bytes in
    where_ok (IsOverwritten old 0 area_mark new) (new ≡ area_mark ++ 0 ∷ []) c.write_at.result (λ holds. mark_written old new (c.requires.nine told) (c.requires.shut told).gate holds) (c.write_at.ensures.written told)
