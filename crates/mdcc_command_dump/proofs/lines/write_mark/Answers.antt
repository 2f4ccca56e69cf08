use Rattle.std.proofs.lemmas.Result.{on_ok_weaker}
use Rattle.std.specs.String.{string_bytes}
use Rattle.mdcc_command_dump.proofs.Printed.{mark_written}
use Rattle.mdcc_command_dump.proofs.lines.write_mark.Goals as goal

pub returns : goal.returns
returns c =
    on_ok_weaker c.write-2.result
    (mark_written c.args.number c.args.version c.args.key.now c.args.ballot.now c.args.tx.now c.args.mark.now c.mark_text-mark.result.now (string_bytes c.args.text.now) (string_bytes c.write.new.self)
    (string_bytes c.write-2.new.self) c.mark_text-mark.ensures c.in_ok-write.ensures.bytes) c.write-2.ensures.bytes
