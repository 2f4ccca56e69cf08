use Rattle.std.proofs.Common.{arith}
use Rattle.mdcc_def_messages.specs.ReadingParts.{entry_behind}
use Rattle.mdcc_wire.proofs.MarksLeft.{next_left, fault_ends}
use Rattle.mdcc_wire.proofs.marks.next_mark.Goals as goal

pub returns-in-Ok-clause-next : goal.returns-in-Ok-clause-next
returns-in-Ok-clause-next c =
    next_left (entry_behind c.args.part c.args.key.now c.args.version c.args.bytes.now) c.args.count c.args.last c.args.at
    c.in-Ok.entry c.in-Ok.after (omega arith) c.in-Ok.ensures.exact

pub returns-in-Err-clause-end : goal.returns-in-Err-clause-end
returns-in-Err-clause-end c =
    fault_ends (entry_behind c.args.part c.args.key.now c.args.version c.args.bytes.now) c.args.count c.args.last c.args.at
    c.in-Err.field-0 (omega arith) c.in-Err.ensures.exact
