use Rattle.mdcc_theorem_agreement.proofs.LawsTold.{consistent_chosen, consistent_sent, consistent_voted}
use Rattle.mdcc_theorem_agreement.proofs.accepted.consistent.Goals as goal

pub returns-clause-chosen : goal.returns-clause-chosen
returns-clause-chosen c = consistent_chosen

pub returns-clause-structures : goal.returns-clause-structures
returns-clause-structures c = consistent_sent

pub returns-clause-voted : goal.returns-clause-voted
returns-clause-voted c = consistent_voted
