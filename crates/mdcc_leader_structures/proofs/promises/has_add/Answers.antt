use Rattle.std.proofs.Common.{◌∙◌, sym}
use Rattle.mdcc_base.specs.declared.identifiers.TxId.{TxId}
use Rattle.mdcc_option.specs.declared.choices.Mark.{Mark}
use Rattle.mdcc_def_protocol.specs.Structures.{is_add_accepted}
use Rattle.mdcc_leader_structures.proofs.Marks.{any-further, any-here}
use Rattle.mdcc_leader_structures.proofs.promises.has_add.Goals as goal

pub returns-then-is_add_accepted : goal.returns-then-is_add_accepted
returns-then-is_add_accepted c =
    let x : TxId × Mark = (c.at-tx.result.0, c.at-tx.result.1.now) in
    sym (any-here is_add_accepted c.args.marks.now c.loop-place.place x c.at-tx.ensures (sym c.is_add_accepted.ensures ∙ c.if-is_add_accepted.true)) ∙ c.loop-place.invariant

pub loop-place-preserved : goal.loop-place-preserved
loop-place-preserved c =
    let x : TxId × Mark = (c.at-tx.result.0, c.at-tx.result.1.now) in
    sym (any-further is_add_accepted c.args.marks.now c.loop-place.place x c.at-tx.ensures (sym c.is_add_accepted.ensures ∙ c.if-is_add_accepted.false)) ∙ c.loop-place.invariant
