-- The headline speaks of the crash.
use Rattle.std.proofs.Common.{Bool, arith, refl}
use Rattle.mdcc_config.specs.IsConfig.{IsConfig}
use Rattle.mdcc_theorem_clusters.proofs.Discharged.{deployed}
use Rattle.mdcc_theorem_clusters.proofs.Examples.{crash-executed, crash-short}
use Rattle.mdcc_theorem_clusters.specs.Crash.{crash, three_centres}
use Rattle.mdcc_theorem_clusters.specs.Discharged.{TellsTruthOf}

is-config : IsConfig three_centres
is-config = record {
  quorums = record {
    some_centre = omega arith;
    nine_centres = omega arith;
    some_classic = omega arith;
    classic_within = omega arith;
    fast_within = omega arith;
    classic_meet = omega arith;
    fast_meet = omega arith;
  };
  schema = record { some = omega arith; few = omega arith; each = refl };
  gamma = omega arith;
  some_cells = omega arith;
  cells = omega arith;
  some_port = omega arith;
  port = omega arith;
  some_wait = omega arith;
  wait = omega arith;
  some_checkpoint = omega arith;
  checkpoint = omega arith;
  addresses = refl;
}

pub crash-truth : (logged : Bool) → TellsTruthOf three_centres (crash logged)
crash-truth logged =
    let told = deployed three_centres is-config (crash logged) (crash-executed logged) in
    (told, told.headline (crash-short logged))
