use Rattle.mdcc_recover.proofs.Counted.{count-without}
use Rattle.mdcc_recover.proofs.recover.Recover.close.Goals as goal

pub returns : goal.returns
returns c quorums recovering stands = record {
  ticks = λ tx. rw (c.forget.ensures tx, stands.ticks tx, count-without recovering.counters c.args.tx tx);
  counts = c.forget-2.ensures quorums recovering.votes stands.counts;
}
