-- The laws are the lemmas.
use Rattle.mdcc_def_language.specs.Header.{all_of}
use Rattle.mdcc_theorem_reports.proofs.Headers.{header-cluster}
use Rattle.mdcc_theorem_reports.proofs.Replays.{replayed}
use Rattle.mdcc_theorem_reports.proofs.replays_are_runs.Goals as goal

pub returns-clause-runs : goal.returns-clause-runs
returns-clause-runs c = replayed

pub returns-clause-cluster : goal.returns-clause-cluster
returns-clause-cluster c = λ input header accepted. header-cluster (all_of input) header accepted.header_itself
