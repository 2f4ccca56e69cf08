use Rattle.mdcc_wire.proofs.Counted.{has_counts}
use Rattle.mdcc_wire.proofs.counts.well_formed_messages_have_counts.Goals as goal

pub returns : goal.returns
returns c = has_counts
