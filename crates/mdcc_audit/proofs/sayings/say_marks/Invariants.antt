use Rattle.std.proofs.Common.{◌≡◌, drop, fold}
use Rattle.mdcc_audit.specs.Represents.{said_in}
use Rattle.mdcc_audit.specs.Sayings.{say_mark}
use Rattle.mdcc_audit.proofs.sayings.say_marks.Given as goal

abbrev pub invariant-loop-i : goal.invariant-loop-i
invariant-loop-i l =
    fold (say_mark l.place l.key l.version l.ballot) (said_in l.marks) (drop l.i l.options)
    ≡ fold (say_mark l.place l.key l.version l.ballot) (said_in l.initial.marks) l.options
