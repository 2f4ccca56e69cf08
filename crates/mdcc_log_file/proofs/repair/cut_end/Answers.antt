use Rattle.std.proofs.Common.{◌≡◌, ◌+◌, ◌<◌, ◌∷◌, ◌++◌, [], List, ℕ, OnOk, length, take, drop, ◌∙◌, ap, subst, arith}
use Rattle.mdcc_disks.specs.Disks.{IsCut}
use Rattle.mdcc_log_file.specs.Crash.{MayRepair}
use Rattle.mdcc_log_file.proofs.Moments.{started, weakened}
use Rattle.mdcc_log_file.proofs.Repairs.{closed_leaves, cut_leaves, cut_makes}
use Rattle.mdcc_log_file.proofs.repair.cut_end.Goals as goal

pub returns-then-bytes-gate-clause-any_moment : goal.returns-then-bytes-gate-clause-any_moment
returns-then-bytes-gate-clause-any_moment g c told =
    started g.D.Disks.moment g.D.Disks.left_since c.args.disks.now c.args.place (MayRepair g.D.Disks.tears c.args.gate c.args.bytes.now) (λ x left.
    closed_leaves g.D.Disks.tears c.args.gate c.args.bytes.now x c.requires.gate (c.requires.durable told x (g.met.D.Disks.only_now c.args.disks.now c.args.place x left) ∙ c.requires.file told))

pub returns-clause-cut : goal.returns-clause-cut
returns-clause-cut g c told =
    let is : take (c.args.gate + 1) (g.D.Disks.disk c.args.disks.now c.args.place).bytes ≡ take c.args.gate c.args.bytes.now ++ 0 ∷ [] =
    ap (λ (l : List ℕ). take (c.args.gate + 1) l) (c.requires.file told) ∙ cut_makes c.args.gate c.args.bytes.now (drop (c.args.gate + 1) c.args.bytes.now) c.requires.gate in
    subst (λ (l : List ℕ). OnOk c.cut_through.result ((g.D.Disks.disk c.cut_through.new.disks c.args.place).bytes ≡ l)) is (c.cut_through.ensures.cut told)

pub returns-clause-any_moment : goal.returns-clause-any_moment
returns-clause-any_moment g c told =
    let longer : c.args.gate + 1 < length c.args.bytes.now = omega arith in
    weakened (MayRepair g.D.Disks.tears c.args.gate c.args.bytes.now) (c.cut_through.ensures.any_moment told) (λ x cut.
    cut_leaves g.D.Disks.tears c.args.gate c.args.bytes.now (drop (c.args.gate + 1) c.args.bytes.now) x c.requires.gate longer (subst (λ l. IsCut (c.args.gate + 1) l x) (c.requires.file told) cut))
