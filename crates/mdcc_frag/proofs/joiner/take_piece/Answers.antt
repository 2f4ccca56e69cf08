use Rattle.std.proofs.Common.{◌∙◌, ap, sym}
use Rattle.mdcc_frag.specs.Joining.{join_step}
use Rattle.mdcc_frag.specs.declared.joined.Joined.TheVariants.{Repeated}
use Rattle.mdcc_frag.proofs.Entries.{on_err, begin_taken, advance_taken, repeated, disagreed}
use Rattle.mdcc_frag.proofs.joiner.take_piece.Goals as goal

pub returns-in-Begin-clause-memory : goal.returns-in-Begin-clause-memory
returns-in-Begin-clause-memory c = on_err _ (begin_taken c.args.piece.now c.args.bytes.now c.args.table.now.entries c.in-Begin.ensures)

pub returns-in-Advance-clause-memory : goal.returns-in-Advance-clause-memory
returns-in-Advance-clause-memory c = on_err _ (advance_taken c.args.piece.now c.args.bytes.now c.args.table.now.entries c.in-Advance.ensures)

pub returns-in-Disagree-clause-taken : goal.returns-in-Disagree-clause-taken
returns-in-Disagree-clause-taken c =
    disagreed c.args.piece.now c.args.bytes.now c.args.table.now.entries (sym c.in-Disagree.ensures)

pub returns-in-Repeat-clause-taken : goal.returns-in-Repeat-clause-taken
returns-in-Repeat-clause-taken c =
    ap (λ table. join_step Repeated table.entries) c.promote.ensures.entries
    ∙ repeated c.args.piece.now c.args.bytes.now c.args.table.now.entries (sym c.in-Repeat.ensures)
