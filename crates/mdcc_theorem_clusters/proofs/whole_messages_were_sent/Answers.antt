-- The laws are the lemmas.
use Rattle.mdcc_theorem_clusters.proofs.Mail.{inputs-of-last, whole-of-last}
use Rattle.mdcc_theorem_clusters.proofs.whole_messages_were_sent.Goals as goal

pub returns-clause-whole : goal.returns-clause-whole
returns-clause-whole c = λ mail before last bytes are came piece whole. whole-of-last mail are before last bytes came piece whole

pub returns-clause-inputs : goal.returns-clause-inputs
returns-clause-inputs c = λ mail before last site are came piece table holds small. inputs-of-last mail are before last site came piece table holds small
