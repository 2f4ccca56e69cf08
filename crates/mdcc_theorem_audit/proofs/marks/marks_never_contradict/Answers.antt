use Rattle.std.proofs.Common.{◌∙◌, ap}
use Rattle.mdcc_audit.proofs.Alike.{found-none}
use Rattle.mdcc_audit.proofs.Spoken.{all-marks}
use Rattle.mdcc_audit.specs.Auditing.{nothing_taken}
use Rattle.mdcc_audit.specs.Firsts.{Said}
use Rattle.mdcc_audit.specs.Logs.{placed_of}
use Rattle.mdcc_theorem_audit.proofs.Voted.{marks-alike}
use Rattle.mdcc_theorem_audit.specs.Ledgers.{logs_of}
use Rattle.mdcc_theorem_audit.proofs.marks.marks_never_contradict.Goals as goal

pub returns : goal.returns
returns c cluster ledger h =
    ap (λ (s : Said). s.found) (all-marks cluster.quorums nothing_taken (placed_of (logs_of cluster ledger)))
    ∙ (found-none _).1 (marks-alike cluster ledger h)
