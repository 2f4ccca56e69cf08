use Rattle.std.proofs.Common.{rules}
use Rattle.std.proofs.lemmas.Fn.{filter_same}
use Rattle.mdcc_recover.proofs.dangling.dangling.Goals as goal

pub returns : goal.returns
returns g c facts holds =
    rw (← c.in_ok-unresolved_all.ensures facts holds, ← c.into_vec-txs.ensures) (filter_same _ _ _ (λ x b f' k. search rules) _ _ c.retain.ensures.filtered)
