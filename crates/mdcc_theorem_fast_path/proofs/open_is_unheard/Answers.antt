-- The law is the lemma.
use Rattle.mdcc_theorem_fast_path.proofs.FastPaths.{unheard}
use Rattle.mdcc_theorem_fast_path.proofs.open_is_unheard.Goals as goal

pub returns : goal.returns
returns c = unheard
