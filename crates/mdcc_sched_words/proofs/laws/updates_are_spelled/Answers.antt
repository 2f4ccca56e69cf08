use Rattle.mdcc_sched_words.proofs.Spelled.{update_spelled}
use Rattle.mdcc_sched_words.proofs.laws.updates_are_spelled.Goals as goal

pub returns : goal.returns
returns c = update_spelled
