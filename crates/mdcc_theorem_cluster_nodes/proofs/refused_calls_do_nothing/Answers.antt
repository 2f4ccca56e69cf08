-- The law is the lemma.
use Rattle.mdcc_theorem_cluster_nodes.proofs.Refused.{refused-nothing}
use Rattle.mdcc_theorem_cluster_nodes.proofs.refused_calls_do_nothing.Goals as goal

pub returns : goal.returns
returns row c = λ config log why before after link_before link_after out_before out_after centre told has none refused.
    refused-nothing _ _ _ _ _ _ config log why before after link_before link_after out_before out_after centre told has none refused
