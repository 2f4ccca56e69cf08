use Rattle.std.proofs.Common.{◌++◌, arith}
use Rattle.std.specs.List.{flat_map}
use Rattle.std.specs.String.{string_bytes}
use Rattle.mdcc_command_dump.proofs.Printed.{flat_all, flat_more}
use Rattle.mdcc_command_dump.specs.Texts.{mark_line}
use Rattle.mdcc_command_dump.proofs.lines.write_marks.Goals as goal

pub loop-index-preserved : goal.loop-index-preserved
loop-index-preserved c =
    let line = mark_line c.args.number c.args.key.now c.args.version c.args.ballot.now in
    flat_more line c.args.options.now c.loop-index.index (c.at-tx.result.0, c.at-tx.result.1.now) (string_bytes c.loop-index.text) (string_bytes c.write_mark.new.text)
    (string_bytes c.args.text.now ++ flat_map line c.args.options.now) c.at-tx.ensures c.loop-index.invariant c.in_ok-write_mark.ensures

pub returns : goal.returns
returns c =
    let line = mark_line c.args.number c.args.key.now c.args.version c.args.ballot.now in
    flat_all line c.args.options.now c.loop-index.index (string_bytes c.loop-index.text) (string_bytes c.args.text.now ++ flat_map line c.args.options.now) (omega arith) c.loop-index.invariant
