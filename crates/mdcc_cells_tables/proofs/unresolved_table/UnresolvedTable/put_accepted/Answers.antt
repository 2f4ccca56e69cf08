use Rattle.std.proofs.Common.{◌∙◌, refl, sym, arith}
use Rattle.mdcc_cells_tables.proofs.Accepted.{accepted-goes, accepted-left, accepted-room, rejected-goes, rejected-room}
use Rattle.mdcc_cells_tables.proofs.unresolved_table.UnresolvedTable.put_accepted.Goals.{in-Accept, in_default}
use Rattle.mdcc_cells_tables.proofs.unresolved_table.UnresolvedTable.put_accepted.Goals as goal

pub put-requires : goal.put-requires
put-requires g c =
    let few = c.loop-place.invariant.1 in
    let one = accepted-left (g.H.HeardTest.heard c.args.test.now) c.args.number c.args.options.now c.loop-place.place c.at-tx.result.0 c.at-tx.result.1.now c.at-tx.ensures _ c.in-Accept.is in
    omega (arith, few, one)

pub loop-place-preserved : goal.loop-place-preserved
loop-place-preserved g c =
    let heard = g.H.HeardTest.heard c.args.test.now in
    let number = c.args.number in
    let options = c.args.options.now in
    let i = c.loop-place.place in
    let tx = c.at-tx.result.0 in
    let mark = c.at-tx.result.1.now in
    let entries = c.loop-place.self.entries in
    elim c.match-mark.branch [
      | in-Accept w ↦
          rw (w.self-is, w.put.ensures.entries, w.put.ensures.room) (
            sym (accepted-goes heard number options i tx mark c.at-tx.ensures entries _ w.in-Accept.is) ∙ c.loop-place.invariant.0,
            accepted-room heard number options i tx mark c.at-tx.ensures entries _ c.loop-place.self.room _ w.in-Accept.is c.loop-place.invariant.1 refl,
            c.loop-place.invariant.2,
          )
      | in_default w ↦
          rw w.self-is (
            sym (rejected-goes heard number options i tx mark c.at-tx.ensures entries w.in_default.not-Accept) ∙ c.loop-place.invariant.0,
            rejected-room heard number options i tx mark c.at-tx.ensures entries c.loop-place.self.room w.in_default.not-Accept c.loop-place.invariant.1,
            c.loop-place.invariant.2,
          )
    ]
