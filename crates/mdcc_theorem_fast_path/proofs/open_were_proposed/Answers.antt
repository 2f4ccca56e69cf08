-- The law is the lemma.
use Rattle.mdcc_theorem_fast_path.proofs.FastPaths.{were-proposed}
use Rattle.mdcc_theorem_fast_path.proofs.open_were_proposed.Goals as goal

pub returns : goal.returns
returns c = were-proposed
