use Rattle.mdcc_command_replay.proofs.Splits.{split_ended, split_unended}
use Rattle.mdcc_command_replay.proofs.lines.split_line.Goals as goal

pub returns-then-len-text-clause-lines : goal.returns-then-len-text-clause-lines
returns-then-len-text-clause-lines c =
    let bytes = c.part_at-len.ensures.part in
    let less = rw bytes at c.if-len-text.true in
    rw (c.split_at.ensures.front, c.split_at.ensures.back, bytes) (split_ended c.args.text.now c.requires less)

pub returns-else-len-text-clause-lines : goal.returns-else-len-text-clause-lines
returns-else-len-text-clause-lines c =
    let more = rw c.part_at-len.ensures.part at c.if-len-text.false in
    split_unended c.args.text.now c.requires more
