use Rattle.std.proofs.Common.{◌≡◌, take}
use Rattle.mdcc_world_mail.proofs.batch.MessageBatch.write.Given as goal

abbrev pub invariant-loop-envelope : goal.invariant-loop-envelope
invariant-loop-envelope l = l.batch ≡ take l.envelope-index l.envelopes
