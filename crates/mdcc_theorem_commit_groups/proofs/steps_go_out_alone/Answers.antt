-- The law is the lemma.
use Rattle.mdcc_theorem_commit_groups.proofs.Alone.{goes-alone}
use Rattle.mdcc_theorem_commit_groups.proofs.steps_go_out_alone.Goals as goal

pub returns : goal.returns
returns c = λ config w site step none whole. goes-alone config w site step none whole
