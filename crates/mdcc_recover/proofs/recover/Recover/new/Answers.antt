use Rattle.std.proofs.Common.{refl}
use Rattle.mdcc_recover.proofs.recover.Recover.new.Goals as goal

pub returns : goal.returns
returns c quorums meet = record {
  ticks = λ tx. rw c.new.ensures.empty refl;
  counts = c.in_ok-new.ensures quorums meet;
}
