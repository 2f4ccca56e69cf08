use Rattle.std.proofs.Common.{◌≡◌, ◌++◌, drop}
use Rattle.mdcc_base.specs.declared.identifiers.TxId.{TxId}
use Rattle.mdcc_world_decisions.specs.Casts.{casts_among, casts_at}
use Rattle.mdcc_world_decisions.proofs.casts.keep_casts.Given as goal

abbrev pub invariant-loop-i : goal.invariant-loop-i
invariant-loop-i l = (tx : TxId) →
    casts_at l.casts tx ++ casts_among l.centre l.key l.version l.ballot (drop l.i l.options) tx
    ≡ casts_at l.initial.casts tx ++ casts_among l.centre l.key l.version l.ballot l.options tx
