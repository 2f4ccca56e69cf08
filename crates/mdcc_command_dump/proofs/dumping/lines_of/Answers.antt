use Rattle.std.proofs.Common.{◌++◌, ◌∙◌, List, ap, sym, ℕ}
use Rattle.mdcc_command_dump.proofs.Dumped.{lines_read}
use Rattle.mdcc_command_dump.specs.Texts.{dumped_fact_lines}
use Rattle.mdcc_command_dump.proofs.dumping.lines_of.Goals as goal

pub returns-clause-text : goal.returns-clause-text
returns-clause-text c =
    c.in_ok-write_fact.ensures
    ∙ ap (λ (front : List ℕ). front ++ dumped_fact_lines c.args.number c.in-Ok.fact) c.new-text.ensures.bytes
    ∙ sym (lines_read c.args.number c.args.payload.now c.in-Ok.fact (sym c.in-Ok.ensures))
