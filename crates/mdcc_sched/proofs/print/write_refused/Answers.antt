use Rattle.std.proofs.Common.{append_assoc, codes}
use Rattle.std.specs.String.{string_bytes}
use Rattle.mdcc_def_language.specs.Report.{begin_fault_text}
use Rattle.mdcc_sched.proofs.print.write_refused.Goals as goal

pub returns : goal.returns
returns c =
    rw (c.in_ok-write_begin_fault.ensures, c.in_ok-write.ensures.bytes)
    (append_assoc (string_bytes c.args.text.now) (codes "begin refused ") (begin_fault_text c.args.key.now c.args.fault.now))
