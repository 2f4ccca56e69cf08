-- The law is the lemma.
use Rattle.mdcc_theorem_fast_path.proofs.Splitting.{split}
use Rattle.mdcc_theorem_fast_path.proofs.deliver_lines_split.Goals as goal

pub returns : goal.returns
returns c = split
