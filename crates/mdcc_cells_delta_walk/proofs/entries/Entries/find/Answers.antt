use Rattle.std.proofs.Common.{◌≡◌, ◌-◌, ap, sym, ◌∙◌, false}
use Rattle.std.specs.Prelude.{is_some}
use Rattle.mdcc_cells_delta_walk.specs.Entries.{delta_entries_in, tx_entered}
use Rattle.mdcc_cells_delta_walk.proofs.Stepping.{entries-pass}
use Rattle.mdcc_cells_delta_walk.proofs.entries.Entries.find.Goals as goal

pub loop-self-preserved : goal.loop-self-preserved
loop-self-preserved c =
    let s = c.loop-self.self in
    let none : is_some (tx_entered s.kind s.key s.version s.cursor) ≡ false = ap is_some (sym c.enter-found.ensures.tx) ∙ sym c.is_some.ensures ∙ c.if-is_some.false in
    ap (delta_entries_in s.kind s.key s.version (s.left - 1)) c.enter-found.ensures.after
    ∙ sym (entries-pass s.kind s.key s.version s.left s.cursor c.loop-self-test.true none)
    ∙ c.loop-self.invariant
