-- The moves of the examples are executions.
use Rattle.std.proofs.Common.{Bool, List, [], false, refl, true, ℕ, ◌-◌, ◌^◌, ◌∷◌, ◌≡◌}
use Rattle.std.specs.Prelude.{nat_le}
use Rattle.std.proofs.lemmas.Bool.{leb-true}
use Rattle.mdcc_def_server_runs.specs.Acts.{Act}
use Rattle.mdcc_def_server_runs.specs.declared.lines.ServerLine.{ServerLine}
use Rattle.mdcc_theorem_clusters.proofs.Executed.{executed-by}
use Rattle.mdcc_theorem_clusters.specs.Clusters.{after_moves, not_started}
use Rattle.mdcc_theorem_clusters.specs.Crash.{crash, three_centres}
use Rattle.mdcc_theorem_clusters.specs.Example.{asked_tx, config, lines_of, moves}
use Rattle.mdcc_theorem_clusters.specs.Executions.{AreWithinLimits, IsExecution}
use Rattle.mdcc_theorem_clusters.specs.Limits.{IsShortRun, steps_done}

none-within : AreWithinLimits not_started
none-within a process is = absurd (cc)

pub commits-executed : IsExecution config not_started moves
commits-executed = executed-by config not_started moves none-within refl

pub crash-executed : (logged : Bool) → IsExecution three_centres not_started (crash logged)
crash-executed true = executed-by three_centres not_started (crash true) none-within refl
crash-executed false = executed-by three_centres not_started (crash false) none-within refl

pub crash-lines : (logged : Bool) → lines_of (after_moves three_centres not_started (crash logged)) ≡ ServerLine.Heard 1 asked_tx true ∷ ServerLine.Booted 2 2 ∷ ServerLine.Booted 3 1 ∷ ServerLine.Booted 2 1 ∷ ServerLine.Booted 1 1 ∷ []
crash-lines true = refl
crash-lines false = refl

-- ---- short enough

by-test : (done : List (ℕ × Act)) → nat_le (steps_done done) (2 ^ 64 - 1) ≡ true → IsShortRun done
by-test done s = record { steps = leb-true (steps_done done) (2 ^ 64 - 1) s }

pub crash-short : (logged : Bool) → IsShortRun (after_moves three_centres not_started (crash logged)).done
crash-short true = by-test (after_moves three_centres not_started (crash true)).done refl
crash-short false = by-test (after_moves three_centres not_started (crash false)).done refl
