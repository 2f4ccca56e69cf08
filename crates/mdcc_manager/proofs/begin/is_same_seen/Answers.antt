use Rattle.mdcc_manager.proofs.Kept.{same_answer}
use Rattle.mdcc_option.proofs.Equal.{Decides-txs}
use Rattle.mdcc_manager.proofs.begin.is_same_seen.Goals as goal

pub returns : goal.returns
returns c = same_answer _ _ c.same.ensures (Decides-txs c.args.a.now c.args.b.now)
