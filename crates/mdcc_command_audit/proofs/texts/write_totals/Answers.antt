use Rattle.std.proofs.lemmas.Result.{on_ok_weaker}
use Rattle.std.specs.String.{string_bytes}
use Rattle.mdcc_command_audit.proofs.Totals.{totals_written}
use Rattle.mdcc_command_audit.proofs.texts.write_totals.Goals as goal

pub returns : goal.returns
returns c =
    on_ok_weaker c.write_others.result
    (totals_written c.args.verdicts.now c.number_with-commits.result c.number_with-aborts.result c.number_with-undecided.result (string_bytes c.args.text.now) (string_bytes c.write.new.self) (string_bytes c.write_committed.new.text)
    (string_bytes c.write_others.new.text) c.number_with-commits.ensures.count c.number_with-aborts.ensures.count c.number_with-undecided.ensures.count c.in_ok-write.ensures.bytes c.in_ok-write_committed.ensures) c.write_others.ensures
