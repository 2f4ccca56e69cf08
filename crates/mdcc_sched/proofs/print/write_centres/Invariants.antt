use Rattle.std.proofs.Common.{◌≡◌, ◌++◌, drop}
use Rattle.std.specs.String.{string_bytes}
use Rattle.mdcc_sched.specs.Texts.{centres_text}
use Rattle.mdcc_sched.proofs.print.write_centres.Given as goal

abbrev pub invariant-loop-centre : goal.invariant-loop-centre
invariant-loop-centre l = string_bytes l.text ++ centres_text (drop l.centre-index l.centres) ≡ string_bytes l.initial.text ++ centres_text l.centres
