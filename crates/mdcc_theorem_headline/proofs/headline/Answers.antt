-- The laws are the lemmas.
use Rattle.mdcc_theorem_headline.proofs.Runs as runs
use Rattle.mdcc_theorem_headline.proofs.headline.Goals as goal

pub returns-clause-runs : goal.returns-clause-runs
returns-clause-runs c = runs.run-true

pub returns-clause-replays : goal.returns-clause-replays
returns-clause-replays c = runs.replay-true
