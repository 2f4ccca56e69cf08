use Rattle.std.proofs.Common.{◌∙◌, [], sym, arith}
use Rattle.mdcc_base.specs.declared.identifiers.TxId.{TxId}
use Rattle.mdcc_option.specs.declared.choices.Mark.{Mark}
use Rattle.mdcc_escrow.proofs.Weighing.{load_summed}
use Rattle.mdcc_leader_structures.specs.Live.{live_marks}
use Rattle.mdcc_leader_structures.proofs.Marks.{marked_end, marked_next}
use Rattle.mdcc_leader_structures.proofs.live.load_of_marks.Goals as goal

pub loop-place-preserved : goal.loop-place-preserved
loop-place-preserved g c = record {
  bounded = c.with_mark-load.ensures.bounded;
  value = λ facts h.
      let x : TxId × Mark = (c.at-tx.result.0, c.at-tx.result.1.now) in
      rw (c.with_mark-load.ensures.value facts h) (sym (marked_next facts c.loop-place.load c.args.marks.now c.loop-place.place x c.at-tx.ensures) ∙ c.loop-place.invariant.value facts h);
}

pub returns-clause-value : goal.returns-clause-value
returns-clause-value g c facts h =
    sym (marked_end facts c.loop-place.load c.args.marks.now c.loop-place.place (omega arith)) ∙ c.loop-place.invariant.value facts h
    ∙ load_summed [] (live_marks facts c.args.marks.now)
