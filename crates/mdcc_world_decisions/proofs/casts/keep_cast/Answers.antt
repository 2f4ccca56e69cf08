use Rattle.std.proofs.Common.{List, [], ◌∷◌, refl}
use Rattle.std.specs.Prelude.{Option, unwrap_or}
use Rattle.indexmap.specs.IndexMap.{get}
use Rattle.mdcc_base.specs.TxId.{tx_eq}
use Rattle.mdcc_learner.proofs.Kept.{put-new}
use Rattle.mdcc_struct.proofs.Order.{tx_eq-same}
use Rattle.mdcc_world_decisions.specs.declared.casts.Cast.{Cast}
use Rattle.mdcc_world_decisions.proofs.casts.keep_cast.Goals as goal

abbrev read : Option (List Cast) → List Cast
read casts = unwrap_or casts []

pub returns-in_ok-insert-in-None : goal.returns-in_ok-insert-in-None
returns-in_ok-insert-in-None c other =
    put-new tx_eq tx_eq-same (get tx_eq) read c.args.casts.now c.get_mut.follows.lender-at-none c.insert.new.self c.args.tx.now other
    c.in_ok-list-in-None.list (c.args.cast ∷ []) c.get_mut.follows.holds-at-none c.in-None.ensures.value refl c.in_ok-list-in-None.ensures
    (c.in_ok-insert-in-None.ensures.updates.0 other)
