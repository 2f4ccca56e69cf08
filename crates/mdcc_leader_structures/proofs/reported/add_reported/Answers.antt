use Rattle.std.proofs.Common.{◌∙◌, sym, arith}
use Rattle.mdcc_base.specs.declared.identifiers.TxId.{TxId}
use Rattle.mdcc_option.specs.declared.choices.Mark.{Mark}
use Rattle.mdcc_leader_structures.proofs.Marks.{claims_end, claims_next}
use Rattle.mdcc_leader_structures.proofs.reported.add_reported.Goals as goal

pub loop-place-preserved : goal.loop-place-preserved
loop-place-preserved c =
    let x : TxId × Mark = (c.at-tx.result.0, c.at-tx.result.1.now) in
    rw c.in_ok-add_mark.ensures (sym (claims_next c.loop-place.claims c.args.report.now.votes c.loop-place.place x c.at-tx.ensures) ∙ c.loop-place.invariant)

pub returns : goal.returns
returns c = sym (claims_end c.loop-place.claims c.args.report.now.votes c.loop-place.place (omega arith)) ∙ c.loop-place.invariant
