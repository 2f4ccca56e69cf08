use Rattle.std.proofs.Common.{◌∙◌, ap}
use Rattle.mdcc_audit.proofs.Alike.{found-none}
use Rattle.mdcc_audit.proofs.Spoken.{all-outcomes}
use Rattle.mdcc_audit.specs.Auditing.{nothing_taken}
use Rattle.mdcc_audit.specs.Firsts.{Said}
use Rattle.mdcc_audit.specs.Logs.{placed_of}
use Rattle.mdcc_theorem_audit.proofs.Heard.{outcomes-alike}
use Rattle.mdcc_theorem_audit.specs.Ledgers.{logs_of}
use Rattle.mdcc_theorem_audit.proofs.outcomes.outcomes_never_contradict.Goals as goal

pub returns : goal.returns
returns c cluster ledger h =
    ap (λ (s : Said). s.found) (all-outcomes cluster.quorums nothing_taken (placed_of (logs_of cluster ledger)))
    ∙ (found-none _).1 (outcomes-alike cluster ledger h)
