-- A centre in a list that ascends.
use Rattle.std.specs.Prelude.{ℕ, List, Result, Ok}
use Rattle.mdcc_option.specs.declared.cluster.Cluster.{Cluster}
use Rattle.mdcc_def_language.specs.declared.schedule.SchedFault.{SchedFault}
use Rattle.mdcc_def_language.specs.Schedule.{parse_centre, above}
use Rattle.mdcc_def_language.specs.Words.{◌>>=◌, not_empty}

-- the centre of a word, above the last one
abbrev pub centre_above : Cluster → ℕ → ℕ → List ℕ → Result ℕ SchedFault
centre_above cluster last column word = (do
  _ ← not_empty word column
  centre ← parse_centre cluster word column
  _ ← above last centre column
  Ok centre)
