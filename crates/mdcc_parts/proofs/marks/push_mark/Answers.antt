use Rattle.std.proofs.Common.{◌∙◌}
use Rattle.mdcc_parts.proofs.Pushed.{value_of-end, inserted-end}
use Rattle.mdcc_parts.proofs.marks.push_mark.Goals as goal

pub insert-requires : goal.insert-requires
insert-requires c = value_of-end c.args.options.now (c.args.tx, c.args.mark) c.requires

pub returns-clause-ok : goal.returns-clause-ok
returns-clause-ok c = c.in_ok-insert.ensures.ok ∙ inserted-end c.args.options.now (c.args.tx, c.args.mark) c.requires
